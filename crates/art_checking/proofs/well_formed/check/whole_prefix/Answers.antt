use Rattle.std.proofs.Common.{arith, sym, ◌∙◌, ap, subst, ◌≡◌, ◌≢◌, ◌<◌, ◌≤◌, ℕ, List, take, Bool, true, false, not, eqb, refl}
use Rattle.std.proofs.lemmas.Bool.{true≢false, false≢true}
use Rattle.std.proofs.lemmas.Bool.Decides.{Decides-eqb}
use Rattle.std.proofs.lemmas.Slice.Eq.{slice_eq-Decides}
use Rattle.std.specs.Cmp.Lexicographic.{pointwise}
use Rattle.art_model.specs.Prelude.{ref_view, inner_name, IsUnreadable, StoresOthers, of_key}
use Rattle.art_checking.proofs.Faulty.{passed_on, said}
use Rattle.art_checking.proofs.PrefixReadings.{least_if, read_found, read_long, read_whole, stores_others, unreadable}
use Rattle.art_checking.proofs.well_formed.check.whole_prefix.Goals as goal

differs : (xs ys : List ℕ) → not (pointwise eqb xs ys) ≡ true → xs ≢ ys
differs xs ys e same = false≢true (sym (ap not ((slice_eq-Decides Decides-eqb xs ys (pointwise eqb xs ys) refl).1 same)) ∙ e)

agrees : (xs ys : List ℕ) → not (pointwise eqb xs ys) ≡ false → xs ≡ ys
agrees xs ys e = (slice_eq-Decides Decides-eqb xs ys (pointwise eqb xs ys) refl).0 (go (pointwise eqb xs ys) e)
  where
    go : (b : Bool) → not b ≡ false → b ≡ true
    go true e = refl
    go false e = absurd (true≢false e)

pub returns-then-len-clause-prefix : goal.returns-then-len-clause-prefix
returns-then-len-clause-prefix g c =
    read_whole (of_key g.K.AsBytes.bytes) g.row.P c.args.store.now c.args.name (ref_view c.args.node.now) c.args.place.now
    (subst (λ n. n ≤ g.row.P) c.prefix_len-len.ensures c.if-len.true) c.read_prefix-stored.ensures.count c.read_prefix-stored.ensures.stored

pub returns-in_default-clause-fault : goal.returns-in_default-clause-fault
returns-in_default-clause-fault g c root reach =
    let read = read_found (of_key g.K.AsBytes.bytes) g.row.P c.args.store.now (inner_name c.args.name) c.args.place.now (ref_view c.args.node.now)
    refl c.prefix_len-len.ensures c.in_default.is c.in_ok-found.ensures.part in
    said (of_key g.K.AsBytes.bytes) g.row.P c.args.store.now root c.unreadable_prefix.result c.unreadable_prefix.ensures
    (subst (IsUnreadable (of_key g.K.AsBytes.bytes) g.row.P c.args.store.now root c.args.place.now) (sym c.to_opaque-name.ensures)
    (unreadable (of_key g.K.AsBytes.bytes) g.row.P c.args.store.now c.args.name (ref_view c.args.node.now) c.args.place.now
    c.requires.proper c.requires.there (subst (λ n. g.row.P < n) c.prefix_len-len.ensures c.if-len.false) root read reach))

pub returns-then-ne-clause-fault : goal.returns-then-ne-clause-fault
returns-then-ne-clause-fault g c root reach =
    let read = read_found (of_key g.K.AsBytes.bytes) g.row.P c.args.store.now (inner_name c.args.name) c.args.place.now (ref_view c.args.node.now)
    refl c.prefix_len-len.ensures c.in-Some.is c.in_ok-found.ensures.part in
    let node = ref_view c.args.node.now in
    let place = c.args.place.now in
    let Others = StoresOthers (of_key g.K.AsBytes.bytes) g.row.P c.args.store.now root in
    let front : c.split_at.result.0.now ≡ take g.row.P c.in-Some.part.now = c.split_at.ensures.front in
    let stored : c.read_prefix-stored.result.now ≡ node.prefix.stored = c.read_prefix-stored.ensures.stored in
    let off : take g.row.P c.in-Some.part.now ≢ node.prefix.stored =
    λ e. differs c.split_at.result.0.now c.read_prefix-stored.result.now (sym c.ne.ensures ∙ c.if-ne.true) (front ∙ e ∙ sym stored) in
    said (of_key g.K.AsBytes.bytes) g.row.P c.args.store.now root c.stored_prefix_mismatch.result c.stored_prefix_mismatch.ensures
    (subst (λ a. Others place a c.split_at.result.0.now) (sym stored) (subst (Others place node.prefix.stored) (sym front)
    (stores_others (of_key g.K.AsBytes.bytes) g.row.P c.args.store.now c.args.name node place c.requires.proper c.requires.there
    (subst (λ n. g.row.P < n) c.prefix_len-len.ensures c.if-len.false) root c.in-Some.part read c.read_prefix-stored.ensures.count off reach)))

pub returns-clause-prefix : goal.returns-clause-prefix
returns-clause-prefix g c =
    let read = read_found (of_key g.K.AsBytes.bytes) g.row.P c.args.store.now (inner_name c.args.name) c.args.place.now (ref_view c.args.node.now)
    refl c.prefix_len-len.ensures c.in-Some.is c.in_ok-found.ensures.part in
    read_long (of_key g.K.AsBytes.bytes) g.row.P c.args.store.now c.args.name (ref_view c.args.node.now) c.args.place.now
    c.requires.proper c.requires.there (subst (λ n. g.row.P < n) c.prefix_len-len.ensures c.if-len.false) c.in-Some.part read
    (sym c.split_at.ensures.front ∙ agrees c.split_at.result.0.now c.read_prefix-stored.result.now (sym c.ne.ensures ∙ c.if-ne.false)
    ∙ c.read_prefix-stored.ensures.stored)

pub returns-clause-least : goal.returns-clause-least
returns-clause-least g c = least_if (of_key g.K.AsBytes.bytes) g.row.P c.args.store.now (inner_name c.args.name) c.in_ok-found.found c.in_ok-found.ensures.least

pub returns-then-len-clause-least : goal.returns-then-len-clause-least
returns-then-len-clause-least g c = c.requires.least

pub returns-in_err-found-clause-fault : goal.returns-in_err-found-clause-fault
returns-in_err-found-clause-fault g c = passed_on _ _ _ c.from_residual.ensures.1 (λ root reach. tt)

enough : {n m k : ℕ} → n < k → m ≡ k → n ≤ m
enough l e = omega arith

pub split_at-requires : goal.split_at-requires
split_at-requires g c =
    let read = read_found (of_key g.K.AsBytes.bytes) g.row.P c.args.store.now (inner_name c.args.name) c.args.place.now (ref_view c.args.node.now)
    refl c.prefix_len-len.ensures c.in-Some.is c.in_ok-found.ensures.part in
    enough (subst (λ n. g.row.P < n) c.prefix_len-len.ensures c.if-len.false) read.2.0
