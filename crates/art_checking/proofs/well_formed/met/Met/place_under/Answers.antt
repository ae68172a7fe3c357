use Rattle.std.proofs.Common.{ℕ, Bool, true, false, List, Some, None, ◌≡◌, ◌<◌, cond, length, get_or, slice_get, refl, ap, ap₂, sym, ◌∙◌, slice_range, option_map}
use Rattle.std.proofs.lemmas.Option.{slice_get_read, slice_get-map}
use Rattle.art_model.specs.Prelude.{OpaqueNodePtr}
use Rattle.art_checking.specs.Marks.{marked, placed, place_under, same_name}
use Rattle.art_checking.specs.declared.well_formed.met.Mark.{Mark}
use Rattle.art_checking.proofs.Meetings.{eq_same}
use Rattle.art_checking.proofs.well_formed.met.Met.place_under.Goals as goal

-- what a mark returns, by whether it has the name
told : (bytes : List ℕ) (marks : List Mark) (i : ℕ) (mark : Mark) (name : OpaqueNodePtr) (b : Bool) → i < length marks →
    mark ≡ get_or marks i mark → same_name mark.name name ≡ b →
    place_under name (slice_get (marked bytes marks) i) ≡ cond b (Some (slice_range bytes mark.from mark.to)) None
told bytes marks i mark name b inside is same =
    ap (place_under name) (slice_get-map (placed bytes) marks i ∙ ap (option_map (placed bytes)) (slice_get_read marks (length marks) i mark refl inside is)) ∙
    ap (λ b. cond b (Some (slice_range bytes mark.from mark.to)) None) same

pub returns-then-eq : goal.returns-then-eq
returns-then-eq c =
    let mark = c.in_ok-mark.mark.now in
    let name = c.args.name in
    let read = c.in_ok-mark.ensures.lookup in
    sym (told c.deref-then-eq.result.now c.deref.result.now c.args.number mark name true read.3.0 read.1
    (sym (eq_same mark.name name) ∙ sym c.eq.ensures ∙ c.if-eq.true)) ∙
    ap₂ (λ bytes marks. place_under name (slice_get (marked bytes marks) c.args.number)) c.deref-then-eq.ensures.value c.deref.ensures.value ∙
    ap (λ met. place_under name (slice_get met c.args.number)) c.self.view_is

pub returns : goal.returns
returns c =
    let mark = c.in_ok-mark.mark.now in
    let name = c.args.name in
    let bytes = c.self.inside.bytes.items in
    let read = c.in_ok-mark.ensures.lookup in
    sym (told bytes c.deref.result.now c.args.number mark name false read.3.0 read.1 (sym (eq_same mark.name name) ∙ sym c.eq.ensures ∙ c.if-eq.false)) ∙
    ap (λ marks. place_under name (slice_get (marked bytes marks) c.args.number)) c.deref.ensures.value ∙
    ap (λ met. place_under name (slice_get met c.args.number)) c.self.view_is
