use Rattle.std.proofs.Common.{◌≡◌, ℕ, List, Bool, true, false, sym}
use Rattle.std.specs.Bool.{OnFalse, OnTrue}
use Rattle.std.specs.List.{list_any}
use Rattle.art_keys.specs.Ended.{HasNoZero}
use Rattle.art_keys.proofs.EndedTests.{none_found, one_found, is_zero}
use Rattle.art_keys.proofs.terminated.has_zero.Goals as goal

told : (bytes : List ℕ) (found : Bool) → found ≡ list_any is_zero bytes → OnTrue found (¬ HasNoZero bytes) × OnFalse found (HasNoZero bytes)
told bytes true e = (one_found bytes (sym e), tt)
told bytes false e = (tt, none_found bytes (sym e))

pub returns-clause-found : goal.returns-clause-found
returns-clause-found c = (told _ _ c.contains.ensures.value).0

pub returns-clause-none : goal.returns-clause-none
returns-clause-none c = (told _ _ c.contains.ensures.value).1
