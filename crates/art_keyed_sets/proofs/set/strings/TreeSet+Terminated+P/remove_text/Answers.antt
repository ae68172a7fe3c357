use Rattle.std.proofs.Common.{[], ◌∷◌, ◌++◌, subst, sym}
use Rattle.std.specs.List.{AllByRecursion as Each}
use Rattle.art_keys.specs.Ended.{HasNoZero, ended}
use Rattle.art_keyed_sets.proofs.KeptKeys.{key_remove_keeps}
use Rattle.art_keyed_sets.proofs.set.strings.TreeSet+Terminated+P.remove_text.Goals as goal

pub invariant_of-self : goal.invariant_of-self
invariant_of-self g c =
    subst (Each HasNoZero) (sym c.remove_by.ensures.keys)
    (key_remove_keeps HasNoZero ended (c.args.text.now ++ 0 ∷ []) c.self.inside.set c.self.invariant)
