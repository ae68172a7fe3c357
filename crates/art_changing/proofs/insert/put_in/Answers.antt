use Rattle.std.proofs.Common.{◌≡◌, ℕ, List, rules, refl, ap, sym, ◌∙◌, subst, arith, false, true, Some}
use Rattle.std.proofs.lemmas.Bool.{false≢true}
use Rattle.art_model.specs.Canonical.{IsCanonicalTree}
use Rattle.art_model.specs.Pairs.{of_key, is_conflict}
use Rattle.art_writing.specs.Points.{AnswersTo}
use Rattle.art_writing.proofs.KeysFound.{conflict_new, not_false}
use Rattle.art_writing.proofs.Unstored.{refused_new}
use Rattle.art_changing.specs.MapPairs.{pairs_at}
use Rattle.art_changing.proofs.Enough.{enough}
use Rattle.art_changing.proofs.Items.{no_pairs}
use Rattle.art_changing.proofs.MapPuts.{accepted, at_some, canonical_root, left_holds, pair_more, same_many, stays}
use Rattle.art_changing.proofs.insert.put_in.Goals as goal

-- a search without a point for the key has found a conflict
conflicts : {K V : Type 0} (bytes : K × V → List ℕ) (pairs : List (K × V)) {spelled key : List ℕ} →
    (is_conflict bytes spelled pairs ≡ false → false ≡ true) → spelled ≡ key →
    is_conflict bytes key pairs ≡ true
conflicts bytes pairs {spelled} refused same =
    subst (λ k. is_conflict bytes k pairs ≡ true) same (not_false (is_conflict bytes spelled pairs) (λ free. false≢true (refused free)))

pub begin-requires : goal.begin-requires
begin-requires g c = (search rules, (c.in_default.is, rw c.in_default.is at c.requires))

pub returns-in-Ok : goal.returns-in-Ok
returns-in-Ok g c = rw (no_pairs (of_key g.K.AsBytes.bytes) g.row.P c.args.store.now c.in_default.is c.requires) (c.in-Ok.ensures, refl, refl)

pub returns-in-Err : goal.returns-in-Err
returns-in-Err g c =
    let refused = c.in-Err.ensures in
    rw (no_pairs (of_key g.K.AsBytes.bytes) g.row.P c.args.store.now c.in_default.is c.requires, c.without_memory.ensures)
    (refused.0, (refused.1, refused.2, refl))

pub search_for_insert_point-requires : goal.search_for_insert_point-requires
search_for_insert_point-requires g c = (search rules, canonical_root c.in-Some.is c.requires)

pub apply-requires : goal.apply-requires
apply-requires g c = (search rules, rw c.as_bytes.ensures at c.in-Ok-search_for_insert_point.ensures.applies)

pub returns-in-Err-Prefix : goal.returns-in-Err-Prefix
returns-in-Err-Prefix g c =
    let bytes = of_key g.K.AsBytes.bytes in
    let pairs = pairs_at c.args.store.now c.args.root.now in
    let has = at_some c.in-Some.is c.requires in
    let accepted = c.in-Err-Prefix.ensures.accepted pairs has.layout has.by in
    let spelled = (rw c.in-Err-Prefix.field-0-is at c.in-Err-Prefix.ensures.refused) ∙ c.as_bytes.ensures in
    (c.requires, (refl, refl, spelled, conflicts bytes pairs accepted.1 c.as_bytes.ensures))

pub returns-in-Err-Memory : goal.returns-in-Err-Memory
returns-in-Err-Memory g c =
    let bytes = of_key g.K.AsBytes.bytes in
    let pairs = pairs_at c.args.store.now c.args.root.now in
    let has = at_some c.in-Some.is c.requires in
    let accepted = c.in-Err-Memory.ensures.accepted pairs has.layout has.by in
    (c.requires, (refl, refl, conflict_new bytes (g.K.AsBytes.bytes c.args.key) pairs has.by.is_map (conflicts bytes pairs accepted.1 c.as_bytes.ensures)))

pub one_more-requires : goal.one_more-requires
one_more-requires g c =
    let has = at_some (c.in-Some.is ∙ ap Some (sym c.in-Ok-search_for_insert_point.ensures.root)) c.requires in
    let more = pair_more g.K.AsBytes.bytes g.row.P (c.args.key, c.args.value) has c.in-Ok-apply.ensures.applied.replaced c.in_default-existing_leaf.is in
    let counted = more.1 in
    let most = enough (c.in-Ok-apply.ensures.applied.canonical _ has.layout has.by).1 in
    (search rules, omega arith)

pub returns-in_default-existing_leaf : goal.returns-in_default-existing_leaf
returns-in_default-existing_leaf g c =
    let has = at_some (c.in-Some.is ∙ ap Some (sym c.in-Ok-search_for_insert_point.ensures.root)) c.requires in
    let more = pair_more g.K.AsBytes.bytes g.row.P (c.args.key, c.args.value) has c.in-Ok-apply.ensures.applied.replaced c.in_default-existing_leaf.is in (
      left_holds (of_key g.K.AsBytes.bytes) g.row.P has (c.in-Ok-apply.ensures.applied.canonical _ has.layout has.by)
          (c.in-Ok-apply.ensures.applied.kept _ has.layout has.by) (c.one_more.ensures ∙ sym more.1),
      sym more.0,
      accepted g.K.AsBytes.bytes g.row.P (c.args.key, c.args.value) has c.in-Ok-search_for_insert_point.ensures.root c.as_bytes.ensures
          (λ pairs layout by. (c.in-Ok-search_for_insert_point.ensures.accepted pairs layout by).0 refl),
    )

pub returns-in-Some-existing_leaf : goal.returns-in-Some-existing_leaf
returns-in-Some-existing_leaf g c =
    let has = at_some (c.in-Some.is ∙ ap Some (sym c.in-Ok-search_for_insert_point.ensures.root)) c.requires in
    let many = same_many g.K.AsBytes.bytes g.row.P (c.args.key, c.args.value) has c.in-Ok-apply.ensures.applied.replaced c.in-Some-existing_leaf.is in
    rw c.in-Some-existing_leaf.is (
      left_holds (of_key g.K.AsBytes.bytes) g.row.P has (c.in-Ok-apply.ensures.applied.canonical _ has.layout has.by)
          (c.in-Ok-apply.ensures.applied.kept _ has.layout has.by) (sym many.1),
      sym many.0,
      accepted g.K.AsBytes.bytes g.row.P (c.args.key, c.args.value) has c.in-Ok-search_for_insert_point.ensures.root c.as_bytes.ensures
          (λ pairs layout by. (c.in-Ok-search_for_insert_point.ensures.accepted pairs layout by).0 refl),
    )

pub returns-in-Err-apply : goal.returns-in-Err-apply
returns-in-Err-apply g c =
    let bytes = of_key g.K.AsBytes.bytes in
    let pairs = pairs_at c.args.store.now c.args.root.now in
    let has = at_some c.in-Some.is c.requires in
    let here = subst (λ n. IsCanonicalTree bytes g.row.P c.args.store.now n pairs has.layout) (sym c.in-Ok-search_for_insert_point.ensures.root) has.by in
    let at = subst (λ key. AnswersTo bytes g.row.P has.layout key c.in-Ok-search_for_insert_point.point) c.as_bytes.ensures
    (c.in-Ok-search_for_insert_point.ensures.point pairs has.layout has.by) in
    rw c.without_memory-in-Err-apply.ensures (
      stays bytes g.row.P c.args.store.now c.apply.new.store c.in-Err-apply.ensures.memory.leaves c.in-Err-apply.ensures.memory.inners c.requires,
      (
        c.in-Err-apply.ensures.memory.handed_back.0,
        c.in-Err-apply.ensures.memory.handed_back.1,
        refused_new here at (λ covered. absurd (false≢true (c.in-Err-apply.ensures.memory.succeeds covered))),
      ),
    )
