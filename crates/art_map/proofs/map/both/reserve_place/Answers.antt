use Rattle.std.proofs.Common.{◌≡◌, refl, ap, sym, ◌∙◌, subst, false, true, Some}
use Rattle.std.proofs.lemmas.Bool.{false≢true}
use Rattle.art_model.specs.Prelude.{IsCanonicalTree, is_conflict, of_key, is_covered}
use Rattle.art_writing.proofs.KeysFound.{not_false}
use Rattle.art_writing.proofs.Standing.{tree_stays}
use Rattle.art_writing.proofs.Unstored.{refused_new}
use Rattle.art_changing.specs.MapPairs.{pairs_at}
use Rattle.art_changing.proofs.MapPuts.{at_some, stays}
use Rattle.art_map.proofs.Reserving.{placed_same, unreserved}
use Rattle.art_changing.proofs.ViewsOfPairs.{view_of}
use Rattle.art_map.proofs.map.both.reserve_place.Goals as goal

pub returns-in-Err-search_for_insert_point-clause-refused : goal.returns-in-Err-search_for_insert_point-clause-refused
returns-in-Err-search_for_insert_point-clause-refused g c =
    let bytes = of_key g.K.AsBytes.bytes in
    let pairs = pairs_at c.args.store.now c.args.root in
    let has = at_some c.in-Some.is c.requires.1 in
    let accepted = c.in-Err-search_for_insert_point.ensures.accepted pairs has.layout has.by in
    let related = not_false (is_conflict bytes c.args.key_bytes.now pairs) (λ free. false≢true (accepted.1 free)) in
    unreserved g.K.AsBytes.bytes c.args.key_bytes.now pairs has.by.is_map related c.in-Err-search_for_insert_point.error
    c.in-Err-search_for_insert_point.ensures.refused

pub returns-in-Ok-reserve_for-clause-reserved : goal.returns-in-Ok-reserve_for-clause-reserved
returns-in-Ok-reserve_for-clause-reserved g c =
    let bytes = of_key g.K.AsBytes.bytes in
    let pairs = pairs_at c.args.store.now c.args.root in
    let has = at_some c.in-Some.is c.requires.1 in
    let (others, layout, by, at) = c.in-Ok-search_for_insert_point.ensures.applies in
    let leaves = c.in-Ok-reserve_for.ensures.leaves in
    let inners = c.in-Ok-reserve_for.ensures.inners in (
      c.in-Some.is ∙ ap Some (sym c.in-Ok-search_for_insert_point.ensures.root),
      (others, layout, tree_stays (leaves, inners) by, at),
      subst (λ placed. is_covered placed c.reserve_for.new.store.promise ≡ true)
          (sym (placed_same c.args.store.now c.reserve_for.new.store inners c.in-Ok-search_for_insert_point.point.insert_kind))
          c.in-Ok-reserve_for.ensures.reserved,
      subst (λ xs. is_conflict bytes c.args.key_bytes.now xs ≡ false)
          (sym (view_of bytes g.row.P c.reserve_for.new.store
          (stays bytes g.row.P c.args.store.now c.reserve_for.new.store leaves inners c.requires.1)))
          ((c.in-Ok-search_for_insert_point.ensures.accepted pairs has.layout has.by).0 refl),
    )

pub returns-in-Err-reserve_for-clause-refused : goal.returns-in-Err-reserve_for-clause-refused
returns-in-Err-reserve_for-clause-refused g c =
    let bytes = of_key g.K.AsBytes.bytes in
    let pairs = pairs_at c.args.store.now c.args.root in
    let has = at_some c.in-Some.is c.requires.1 in
    let here = subst (λ n. IsCanonicalTree bytes g.row.P c.args.store.now n pairs has.layout) (sym c.in-Ok-search_for_insert_point.ensures.root) has.by in
    refused_new here (c.in-Ok-search_for_insert_point.ensures.point pairs has.layout has.by)
    (λ covered. absurd (false≢true (c.in-Err-reserve_for.ensures.succeeds covered)))
