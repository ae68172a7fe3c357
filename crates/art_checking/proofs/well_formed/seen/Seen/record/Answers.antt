use Rattle.std.proofs.Common.{[], ◌∷◌, ◌++◌, ◌≡◌, length, slice_get, ap, ap₂, ◌∙◌}
use Rattle.std.proofs.lemmas.Result.{on_ok_weaker}
use Rattle.art_checking.specs.Marks.{place_under}
use Rattle.art_checking.specs.Meetings.{number_of, place_in}
use Rattle.art_checking.proofs.Meetings.{place_here, place_elsewhere}
use Rattle.art_checking.proofs.well_formed.seen.Seen.record.Goals as goal
use Rattle.art_checking.proofs.well_formed.seen.Seen.record.Goals.{in-Leaf+in_ok-push, in_default}

pub returns-clause-places : goal.returns-clause-places
unfolding place_in
returns-clause-places c =
    let old = c.args.self.now in
    let name = c.args.name in
    let place = c.args.place.now in
    let same_met : c.match-split.self.met ≡ old.met =
    elim c.match-split.branch [ in-Leaf+in_ok-push w ↦ ap (λ seen. seen.met) w.self-is | in_default w ↦ ap (λ seen. seen.met) w.self-is ] in
    let same_numbers : c.match-split.self.numbers ≡ old.numbers =
    elim c.match-split.branch [ in-Leaf+in_ok-push w ↦ ap (λ seen. seen.numbers) w.self-is | in_default w ↦ ap (λ seen. seen.numbers) w.self-is ] in
    let number = c.in_ok-set.ensures.here ∙ c.len.ensures ∙ ap length same_met in
    on_ok_weaker c.push-2.result
    (λ pushed.
    let met = pushed ∙ ap (λ met. met ++ (name, place) ∷ []) same_met in record {
      here = ap₂ (λ met i. place_under name (slice_get met i)) met number ∙ place_here old.met name place;
      elsewhere =
          λ n off. ap₂ (λ met i. place_under n (slice_get met i)) met (c.in_ok-set.ensures.elsewhere n off ∙ ap (λ numbers. number_of numbers n) same_numbers) ∙
          place_elsewhere old.met name place n off (number_of old.numbers n);
    })
    c.push-2.ensures
