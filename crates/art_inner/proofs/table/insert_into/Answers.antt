use Rattle.std.proofs.Common.{◌≡◌, ◌-◌, ◌<◌, ℕ, List, length, refl, ap, ◌∙◌, slice_set, arith}
use Rattle.art_inner.specs.Rows.{inserted}
use Rattle.art_inner.proofs.TableLemmas.{moved_back, moved_to, put_at_place}
use Rattle.art_inner.proofs.table.insert_into.Goals as goal

pub loop-place-preserved : goal.loop-place-preserved
loop-place-preserved c =
    let (within, low, bytes, kinds, slots) = c.loop-place.invariant in
    let test = c.loop-place-test.true in
    let low_kinds : c.loop-place.place < length c.args.kinds.now = omega (arith, within, c.requires.kinds) in
    let low_slots : c.loop-place.place < length c.args.slots.now = omega (arith, within, c.requires.slots) in (
      omega (arith, within),
      omega (arith, test),
      moved_back c.args.bytes.now c.loop-place.bytes c.args.at c.loop-place.place _ _ test within bytes refl,
      moved_back c.args.kinds.now c.loop-place.kinds c.args.at c.loop-place.place _ _ test low_kinds kinds refl,
      moved_back c.args.slots.now c.loop-place.slots c.args.at c.loop-place.place _ _ test low_slots slots refl,
    )

-- the free place is that of the new child
at_its_place : {X : Type 0} (old part : List X) (at place : ℕ) (x : X) → place ≡ at → at < length old → part ≡ moved_to place old →
    slice_set part at x ≡ inserted old at x
at_its_place {X} old part at place x end within is =
    ap (λ (xs : List X). slice_set xs at x) (is ∙ ap (λ (k : ℕ). moved_to k old) end) ∙ put_at_place old at (length old - 1 - at) x within

module _ (c : goal.After-kinds-2-1) where
  end : c.loop-place.place ≡ c.args.at
  end = let (within, low, bytes, kinds, slots) = c.loop-place.invariant in omega (arith, low, c.loop-place-test.false)

pub returns-clause-bytes : goal.returns-clause-bytes
returns-clause-bytes c =
    let (within, low, bytes, kinds, slots) = c.loop-place.invariant in
    at_its_place c.args.bytes.now c.loop-place.bytes c.args.at c.loop-place.place c.args.child.0 (end c) c.requires.place bytes

pub returns-clause-kinds : goal.returns-clause-kinds
returns-clause-kinds c =
    let (within, low, bytes, kinds, slots) = c.loop-place.invariant in
    at_its_place c.args.kinds.now c.loop-place.kinds c.args.at c.loop-place.place c.args.child.1.kind (end c)
    (omega (arith, c.requires.place, c.requires.kinds)) kinds

pub returns-clause-slots : goal.returns-clause-slots
returns-clause-slots c =
    let (within, low, bytes, kinds, slots) = c.loop-place.invariant in
    at_its_place c.args.slots.now c.loop-place.slots c.args.at c.loop-place.place c.args.child.1.slot (end c)
    (omega (arith, c.requires.place, c.requires.slots)) slots
