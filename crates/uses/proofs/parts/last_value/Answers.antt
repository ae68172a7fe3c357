use Rattle.std.proofs.Common.{◌≡◌, ℕ, List, [], ◌∷◌, ◌++◌, Some, refl, ap, sym, ◌∙◌}
use Rattle.std.specs.Option.{option_map}
use Rattle.art_model.specs.Pairs.{last_of}
use Rattle.art_operations.specs.MapItems.{deref_pair}
use Rattle.uses.proofs.parts.last_value.Goals as goal

last_pushed : (xs : List (List ℕ × ℕ)) (x : List ℕ × ℕ) → last_of (xs ++ x ∷ []) ≡ Some x
last_pushed [] x = refl
last_pushed (y ∷ []) x = refl
last_pushed (y ∷ z ∷ xs) x = last_pushed (z ∷ xs) x

pub returns-in-Some : goal.returns-in-Some
returns-in-Some c =
    sym (ap (λ pairs. option_map (λ pair. pair.1) (last_of pairs)) c.in-Some.ensures.steps
    ∙ ap (option_map (λ pair. pair.1)) (last_pushed c.next_back.new.self (deref_pair c.in-Some.pair)))
