use Rattle.std.proofs.Common.{rules, ap, ◌∙◌}
use Rattle.art_model.specs.Pairs.{last_of, match_of}
use Rattle.art_keyed.proofs.EndedFronts.{keys_are_ended, key_fronts_are}
use Rattle.art_keyed_sets.proofs.set.strings.TreeSet+Terminated+P.longest_match.Goals as goal

pub longest_text-requires : goal.longest_text-requires
longest_text-requires g c = (search rules, keys_are_ended c.self.inside.set c.self.invariant)

pub returns : goal.returns
returns g c =
    c.longest_text.ensures ∙ ap last_of (key_fronts_are c.args.text.now c.self.inside.set c.self.invariant)
    ∙ ap (λ keys. last_of (match_of (λ string. string) c.args.text.now keys)) c.self.view_is
