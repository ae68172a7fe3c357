-- A key that a builder did not add for its order is not after that of the last pair.
use Rattle.std.proofs.Common.{◌≡◌, ◌≢◌, ℕ, List, Option, Some, None, IsSomeAnd, Bool, true, false, refl, ap, sym, subst, ◌∙◌}
use Rattle.art_building.specs.Pushes.{IsReasonAfter}
use Rattle.art_keys.specs.EscapeLaws.{escape_order}
use Rattle.art_keys.specs.Escapes.{escape}
use Rattle.art_loading.specs.declared.append.AppendReason.{AppendReason}
use Rattle.art_loading.specs.declared.append.AppendReason.TheVariants.{Before, Equal, Conflict, Memory}
use Rattle.art_parts.specs.Keys.{is_before}
use Rattle.art_model.specs.Pairs.{last_of}
use Rattle.art_model.proofs.keys.Keys.{before_apart, precedes_apart}
use Rattle.std.specs.Ordering.{is_lt}
use Rattle.string_map.specs.Building.{IsNotAfter}

-- no key is before itself
before_itself : (a : List ℕ) → is_before a a ≡ false
before_itself a = go (is_before a a) refl
  where
    go : (t : Bool) → is_before a a ≡ t → is_before a a ≡ false
    go false e = e
    go true e = before_apart a a e

-- strings are before one another as their escapes are
of_texts : (a b : List ℕ) → is_before (escape a) (escape b) ≡ false → is_before a b ≡ false
of_texts a b e = sym (ap is_lt (escape_order a b)) ∙ e

pub not_after_last : (pairs : List (List ℕ × ℕ)) (key : List ℕ) (reason : AppendReason) → IsReasonAfter escape (last_of pairs) key reason →
    reason ≢ Memory → reason ≢ Conflict → IsNotAfter key pairs
not_after_last pairs key reason why other no_conflict = go (last_of pairs) reason why other no_conflict
  where
    go : (last : Option (List ℕ × ℕ)) (reason : AppendReason) → IsReasonAfter escape last key reason → reason ≢ Memory → reason ≢ Conflict →
        IsSomeAnd last (λ it. is_before it.0 key ≡ false)
    go None reason why other no_conflict = absurd (other why)
    go (Some last) Before why other no_conflict = of_texts last.0 key (precedes_apart (escape key) (escape last.0) why)
    go (Some last) Equal why other no_conflict = of_texts last.0 key (subst (λ it. is_before (escape last.0) it ≡ false) (sym why) (before_itself (escape last.0)))
    go (Some last) Conflict why other no_conflict = absurd (no_conflict refl)
    go (Some last) Memory why other no_conflict = absurd (other refl)
