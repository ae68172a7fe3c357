use Rattle.std.proofs.Common.{◌≡◌, ◌<◌, ◌+◌, ◌-◌, ℕ, length, get_or, is_some, None, refl, sym, ap, ◌∙◌, inl, inr, arith}
use Rattle.art_inner.specs.Inner.{Children, HasPlace, child_at, put_child}
use Rattle.art_inner.specs.Tables.{names_by_byte}
use Rattle.art_inner.specs.Indexed.{indexed_at, numbered}
use Rattle.art_inner.proofs.TableLemmas.{none_is_not}
use Rattle.art_inner.proofs.ChildrenLaws.{length-put_child_new, length-put_child_old}
use Rattle.art_inner.proofs.Extent.{listed_at, listed_rising}
use Rattle.art_inner.proofs.IndexedLemmas.{indexed_added, indexed_replaced, IsIndex-added, numbered_some}
use Rattle.art_inner.proofs.indexed.IndexedChildTable.write.Goals as goal

room_for : (len : ℕ) (cs ds : Children) (b : ℕ) → ds ≡ cs → len ≡ length ds → child_at ds b ≡ None → HasPlace 48 cs b → len < 48
room_for len cs ds b is count none (inl h) = omega (arith, h, count, ap length is)
room_for len cs ds b is count none (inr there) = absurd (none_is_not (ap is_some (sym none ∙ ap (λ (t : Children). child_at t b) is) ∙ there))

pub bounds-self-inside-last : goal.bounds-self-inside-last
bounds-self-inside-last c =
    room_for c.self.inside.len c.args.self.now
    (names_by_byte (indexed_at c.self.inside.slots c.self.inside.kinds c.self.inside.index)) c.args.byte c.self.view_is c.self.invariant.0
    (listed_at (indexed_at c.self.inside.slots c.self.inside.kinds c.self.inside.index) c.args.byte c.ranges.byte.fits
    ∙ ap (numbered c.self.inside.slots c.self.inside.kinds) c.if-place-eq0.true) c.requires

pub bounds-self-inside-last-then-place-eq0 : goal.bounds-self-inside-last-then-place-eq0
bounds-self-inside-last-then-place-eq0 c =
    room_for c.self.inside.len c.args.self.now
    (names_by_byte (indexed_at c.self.inside.slots c.self.inside.kinds c.self.inside.index)) c.args.byte c.self.view_is c.self.invariant.0
    (listed_at (indexed_at c.self.inside.slots c.self.inside.kinds c.self.inside.index) c.args.byte c.ranges.byte.fits
    ∙ ap (numbered c.self.inside.slots c.self.inside.kinds) c.if-place-eq0.true) c.requires

pub returns-then-place-eq0 : goal.returns-then-place-eq0
returns-then-place-eq0 c =
    let none = listed_at (indexed_at c.self.inside.slots c.self.inside.kinds c.self.inside.index) c.args.byte c.ranges.byte.fits
    ∙ ap (numbered c.self.inside.slots c.self.inside.kinds) c.if-place-eq0.true in
    let room = room_for c.self.inside.len c.args.self.now
    (names_by_byte (indexed_at c.self.inside.slots c.self.inside.kinds c.self.inside.index)) c.args.byte c.self.view_is c.self.invariant.0 none c.requires in
    indexed_added c.self.inside.slots c.self.inside.kinds c.self.inside.len c.args.child (omega (arith, room, c.self.told))
    (omega (arith, room, c.self.told)) c.self.inside.index c.self.inside.len c.args.byte c.ranges.byte.fits c.self.invariant.2 refl (omega (arith, c.self.told))
    ∙ ap (λ cs. put_child cs c.args.byte c.args.child) c.self.view_is

pub invariant_of-self : goal.invariant_of-self
invariant_of-self c =
    let none = listed_at (indexed_at c.self.inside.slots c.self.inside.kinds c.self.inside.index) c.args.byte c.ranges.byte.fits
    ∙ ap (numbered c.self.inside.slots c.self.inside.kinds) c.if-place-eq0.true in
    let room = room_for c.self.inside.len c.args.self.now
    (names_by_byte (indexed_at c.self.inside.slots c.self.inside.kinds c.self.inside.index)) c.args.byte c.self.view_is c.self.invariant.0 none c.requires in
    let made = ap length (indexed_added c.self.inside.slots c.self.inside.kinds c.self.inside.len c.args.child (omega (arith, room, c.self.told))
    (omega (arith, room, c.self.told)) c.self.inside.index c.self.inside.len c.args.byte c.ranges.byte.fits c.self.invariant.2 refl
    (omega (arith, c.self.told))) in
    let longer =
    length-put_child_new (names_by_byte (indexed_at c.self.inside.slots c.self.inside.kinds c.self.inside.index))
    c.args.byte c.args.child none in (
      omega (arith, c.self.invariant.0, made, longer),
      omega (arith, room),
      IsIndex-added c.self.inside.index c.self.inside.len c.args.byte (omega (arith, c.ranges.byte.fits, c.self.told)) c.self.invariant.2,
    )

pub returns-else-place-eq0 : goal.returns-else-place-eq0
returns-else-place-eq0 c =
    let fits = c.self.invariant.2.0 c.args.byte in
    let here : get_or c.self.inside.index c.args.byte 0 ≡ get_or c.self.inside.index c.args.byte 0 - 1 + 1 = omega (arith, c.if-place-eq0.false) in
    indexed_replaced c.self.inside.slots c.self.inside.kinds (get_or c.self.inside.index c.args.byte 0 - 1) c.args.child
    (omega (arith, fits, c.self.invariant.1, c.if-place-eq0.false, c.self.told))
    (omega (arith, fits, c.self.invariant.1, c.if-place-eq0.false, c.self.told))
    c.self.inside.index c.self.inside.len c.args.byte c.ranges.byte.fits c.self.invariant.2 here
    ∙ ap (λ cs. put_child cs c.args.byte c.args.child) c.self.view_is

pub invariant_of-self-else-place-eq0 : goal.invariant_of-self-else-place-eq0
invariant_of-self-else-place-eq0 c =
    let fits = c.self.invariant.2.0 c.args.byte in
    let here : get_or c.self.inside.index c.args.byte 0 ≡ get_or c.self.inside.index c.args.byte 0 - 1 + 1 = omega (arith, c.if-place-eq0.false) in
    let made = ap length (indexed_replaced c.self.inside.slots c.self.inside.kinds (get_or c.self.inside.index c.args.byte 0 - 1) c.args.child
    (omega (arith, fits, c.self.invariant.1, c.if-place-eq0.false, c.self.told))
    (omega (arith, fits, c.self.invariant.1, c.if-place-eq0.false, c.self.told))
    c.self.inside.index c.self.inside.len c.args.byte c.ranges.byte.fits c.self.invariant.2 here) in
    let there = ap is_some (listed_at (indexed_at c.self.inside.slots c.self.inside.kinds c.self.inside.index) c.args.byte c.ranges.byte.fits
    ∙ numbered_some c.self.inside.slots c.self.inside.kinds (get_or c.self.inside.index c.args.byte 0) c.if-place-eq0.false) in
    let same = length-put_child_old (names_by_byte (indexed_at c.self.inside.slots c.self.inside.kinds c.self.inside.index)) c.args.byte c.args.child
    (listed_rising (indexed_at c.self.inside.slots c.self.inside.kinds c.self.inside.index)) there in
    (omega (arith, c.self.invariant.0, made, same), c.self.invariant.1, c.self.invariant.2)
