use Rattle.std.proofs.Common.{[], ◌∷◌, ◌++◌, subst, sym}
use Rattle.art_keys.specs.Ended.{HasNoZero, ended}
use Rattle.art_keyed.specs.KeyedPairs.{HaveKeys}
use Rattle.art_keyed.proofs.Keyed.{remove_keeps}
use Rattle.art_keyed.proofs.map.texts.TreeMap+Terminated+V+P.remove_text.Goals as goal

pub invariant_of-self : goal.invariant_of-self
invariant_of-self g c =
    subst (HaveKeys HasNoZero) (sym c.remove_by.ensures.pairs)
    (remove_keeps g.row.V.Denot HasNoZero ended (c.args.text.now ++ 0 ∷ []) c.self.inside.map c.self.invariant)
