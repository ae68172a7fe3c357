use Rattle.std.proofs.Common.{rules, ap, ◌∙◌}
use Rattle.art_keys.specs.Ended.{ended}
use Rattle.art_model.specs.Pairs.{first_of, match_of}
use Rattle.art_keyed.proofs.CutTexts.{from_none}
use Rattle.art_keyed.proofs.EndedFronts.{keys_are_ended, key_fronts_are}
use Rattle.art_keyed_sets.proofs.set.strings.TreeSet+Terminated+P.shortest_match.Goals as goal

pub shortest_text-requires : goal.shortest_text-requires
shortest_text-requires g c = (search rules, keys_are_ended c.self.inside.set c.self.invariant)

pub returns : goal.returns
returns g c =
    c.shortest_text.ensures
    ∙ ap first_of (from_none ended c.args.text.now c.self.inside.set ∙ key_fronts_are c.args.text.now c.self.inside.set c.self.invariant)
    ∙ ap (λ keys. first_of (match_of (λ string. string) c.args.text.now keys)) c.self.view_is
