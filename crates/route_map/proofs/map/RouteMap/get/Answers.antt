use Rattle.std.proofs.Common.{inl, inr, ap, sym, ◌∙◌}
use Rattle.art_changing.specs.MapAnswers.{value_at}
use Rattle.route_map.specs.Routes.{value_of}
use Rattle.route_map.proofs.ValueLemmas.{bytes_of, value_in_four, value_in_six}
use Rattle.route_map.proofs.map.RouteMap.get.Goals as goal

pub six_key-requires-clause-version : goal.six_key-requires-clause-version
six_key-requires-clause-version g c =
    elim c.requires.version_is [ inl four ↦ absurd (c.if-network-eq4.false four) | inr six ↦ six ]

pub returns-then-network-eq4 : goal.returns-then-network-eq4
returns-then-network-eq4 g c =
    c.get.ensures.value
    ∙ ap (λ key. value_at (bytes_of 4) (bytes_of 4 key) c.self.inside.four) c.four_key.ensures
    ∙ sym (value_in_four c.args.network c.requires c.self.inside.four c.self.inside.six c.if-network-eq4.true c.self.invariant.of_four)
    ∙ ap (value_of c.args.network) c.self.view_is

pub returns-else-network-eq4 : goal.returns-else-network-eq4
returns-else-network-eq4 g c =
    c.get-else-network-eq4.ensures.value
    ∙ ap (λ key. value_at (bytes_of 16) (bytes_of 16 key) c.self.inside.six) c.six_key.ensures
    ∙ sym (value_in_six c.args.network c.requires c.self.inside.four c.self.inside.six (elim c.requires.version_is [
      | inl four ↦ absurd (c.if-network-eq4.false four)
      | inr six ↦ six
    ]) c.self.invariant.of_six)
    ∙ ap (value_of c.args.network) c.self.view_is
