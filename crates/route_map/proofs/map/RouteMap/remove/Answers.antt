use Rattle.std.proofs.Common.{ap, inl, inr, subst, sym, ◌∙◌}
use Rattle.std.specs.Option.{option_map}
use Rattle.art_keyed.specs.KeyedPairs.{HaveKeys}
use Rattle.art_keyed.specs.KeyedValues.{KeepsOtherKeys}
use Rattle.art_keyed.proofs.Keyed.{remove_keeps}
use Rattle.art_changing.specs.MapAnswers.{value_at}
use Rattle.route_map.specs.Routes.{KeepsOthers, entries_of, value_of}
use Rattle.route_map.proofs.ValueLemmas.{IsKeyOf, IsStored, bytes_of, four_keeps_others, six_keeps_others, value_in_four, value_in_six}
use Rattle.route_map.proofs.map.RouteMap.remove.Goals as goal

pub six_key-requires-clause-version : goal.six_key-requires-clause-version
six_key-requires-clause-version g c =
    elim c.requires.version_is [ inl four ↦ absurd (c.if-network-eq4.false four) | inr six ↦ six ]

pub invariant_of-self : goal.invariant_of-self
invariant_of-self g c =
    record {
      of_four = (subst (HaveKeys (IsKeyOf 4)) (sym c.remove.ensures.pairs) (remove_keeps _ (IsKeyOf 4) (bytes_of 4) (bytes_of 4 c.four_key.result)
          c.self.inside.four c.self.invariant.of_four));
      of_six = c.self.invariant.of_six;
    }

pub returns-then-network-eq4-clause-removed : goal.returns-then-network-eq4-clause-removed
returns-then-network-eq4-clause-removed g c =
    c.value_alone.ensures ∙ ap (option_map (λ pair. pair.1)) c.remove.ensures.removed
    ∙ ap (λ key. value_at (bytes_of 4) (bytes_of 4 key) c.self.inside.four) c.four_key.ensures
    ∙ sym (value_in_four c.args.network c.requires c.self.inside.four c.self.inside.six c.if-network-eq4.true c.self.invariant.of_four)
    ∙ ap (value_of c.args.network) c.self.view_is

pub returns-then-network-eq4-clause-gone : goal.returns-then-network-eq4-clause-gone
returns-then-network-eq4-clause-gone g c =
    value_in_four c.args.network c.requires c.remove.new.self c.self.inside.six c.if-network-eq4.true
    (subst (HaveKeys (IsKeyOf 4)) (sym c.remove.ensures.pairs) (remove_keeps _ (IsKeyOf 4) (bytes_of 4) (bytes_of 4 c.four_key.result) c.self.inside.four c.self.invariant.of_four))
    ∙ sym (ap (λ key. value_at (bytes_of 4) (bytes_of 4 key) c.remove.new.self) c.four_key.ensures) ∙ c.remove.ensures.gone

pub returns-then-network-eq4-clause-others : goal.returns-then-network-eq4-clause-others
returns-then-network-eq4-clause-others g c =
    subst (λ old. KeepsOthers c.args.network old (entries_of c.remove.new.self c.self.inside.six)) c.self.view_is
    (four_keeps_others c.args.network c.requires c.self.inside.four c.remove.new.self c.self.inside.six c.if-network-eq4.true c.self.invariant.of_four
    (subst (HaveKeys (IsKeyOf 4)) (sym c.remove.ensures.pairs) (remove_keeps _ (IsKeyOf 4) (bytes_of 4) (bytes_of 4 c.four_key.result) c.self.inside.four c.self.invariant.of_four))
    (subst (λ key. KeepsOtherKeys (IsStored 4 5) (bytes_of 4) key c.self.inside.four c.remove.new.self) c.four_key.ensures c.remove.ensures.other_keys))

pub invariant_of-self-else-network-eq4 : goal.invariant_of-self-else-network-eq4
invariant_of-self-else-network-eq4 g c =
    record {
      of_four = c.self.invariant.of_four;
      of_six = (subst (HaveKeys (IsKeyOf 6)) (sym c.remove-else-network-eq4.ensures.pairs) (remove_keeps _ (IsKeyOf 6)
          (bytes_of 16) (bytes_of 16 c.six_key.result) c.self.inside.six c.self.invariant.of_six));
    }

pub returns-else-network-eq4-clause-removed : goal.returns-else-network-eq4-clause-removed
returns-else-network-eq4-clause-removed g c =
    c.value_alone-else-network-eq4.ensures ∙ ap (option_map (λ pair. pair.1)) c.remove-else-network-eq4.ensures.removed
    ∙ ap (λ key. value_at (bytes_of 16) (bytes_of 16 key) c.self.inside.six) c.six_key.ensures
    ∙ sym (value_in_six c.args.network c.requires c.self.inside.four c.self.inside.six (elim c.requires.version_is [
      | inl four ↦ absurd (c.if-network-eq4.false four)
      | inr six ↦ six
    ]) c.self.invariant.of_six)
    ∙ ap (value_of c.args.network) c.self.view_is

pub returns-else-network-eq4-clause-gone : goal.returns-else-network-eq4-clause-gone
returns-else-network-eq4-clause-gone g c =
    value_in_six c.args.network c.requires c.self.inside.four c.remove-else-network-eq4.new.self (elim c.requires.version_is [
      | inl four ↦ absurd
          (c.if-network-eq4.false four)
      | inr six ↦ six
    ])
    (subst (HaveKeys (IsKeyOf 6)) (sym c.remove-else-network-eq4.ensures.pairs) (remove_keeps _ (IsKeyOf 6) (bytes_of 16) (bytes_of 16 c.six_key.result)
    c.self.inside.six c.self.invariant.of_six))
    ∙ sym (ap (λ key. value_at (bytes_of 16) (bytes_of 16 key) c.remove-else-network-eq4.new.self) c.six_key.ensures) ∙ c.remove-else-network-eq4.ensures.gone

pub returns-else-network-eq4-clause-others : goal.returns-else-network-eq4-clause-others
returns-else-network-eq4-clause-others g c =
    subst (λ old. KeepsOthers c.args.network old (entries_of c.self.inside.four c.remove-else-network-eq4.new.self)) c.self.view_is
    (six_keeps_others c.args.network c.requires c.self.inside.four c.self.inside.six c.remove-else-network-eq4.new.self (elim c.requires.version_is [
      | inl four ↦
          absurd (c.if-network-eq4.false four)
      | inr six ↦ six
    ]) c.self.invariant.of_six
    (subst (HaveKeys (IsKeyOf 6)) (sym c.remove-else-network-eq4.ensures.pairs) (remove_keeps _ (IsKeyOf 6) (bytes_of 16) (bytes_of 16 c.six_key.result)
    c.self.inside.six c.self.invariant.of_six))
    (subst (λ key. KeepsOtherKeys (IsStored 16 17) (bytes_of 16) key c.self.inside.six c.remove-else-network-eq4.new.self) c.six_key.ensures
    c.remove-else-network-eq4.ensures.other_keys))
