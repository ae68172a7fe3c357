use Rattle.std.proofs.Common.{◌≡◌, ap, inl, inr, refl, subst, sym, ◌∙◌}
use Rattle.std.specs.Option.{option_map}
use Rattle.art_keyed.specs.KeyedValues.{KeepsOtherKeys}
use Rattle.art_changing.specs.MapAnswers.{value_at}
use Rattle.art_model.specs.Pairs.{of_key, put_reply}
use Rattle.route_map.specs.Routes.{KeepsOthers, entries_of, value_of}
use Rattle.route_map.proofs.TreeReplies.{after_insertion, if_err, if_ok, on_err, on_ok, replaced_value}
use Rattle.route_map.proofs.ValueLemmas.{IsKeyOf, IsStored, bytes_of, four_keeps_others, is_key_of, six_keeps_others, value_in_four, value_in_six}
use Rattle.route_map.proofs.map.RouteMap.insert.Goals as goal

pub six_key-requires-clause-version : goal.six_key-requires-clause-version
six_key-requires-clause-version g c =
    elim c.requires.version_is [ inl four ↦ absurd (c.if-network-eq4.false four) | inr six ↦ six ]

pub invariant_of-self : goal.invariant_of-self
invariant_of-self g c =
    record {
      of_four = (after_insertion (IsKeyOf 4) (bytes_of 4) c.four_key.result c.args.value c.self.inside.four c.insert.new.self c.insert.result (subst (IsKeyOf
          4) (sym c.four_key.ensures) (is_key_of 4 c.args.network c.if-network-eq4.true c.requires)) c.self.invariant.of_four c.insert.ensures.pairs
          c.insert.ensures.kept);
      of_six = c.self.invariant.of_six;
    }

pub returns-then-network-eq4-clause-found : goal.returns-then-network-eq4-clause-found
returns-then-network-eq4-clause-found g c =
    on_ok c.insert.result c.of_network.result (option_map (λ pair. pair.1)) c.of_network.ensures.replaced (λ refused. record {
      key = c.args.network;
      value =
          refused.value;
    }) c.of_network.ensures.refused c.insert.ensures.found
    (λ stored.
    value_in_four c.args.network c.requires c.insert.new.self c.self.inside.six c.if-network-eq4.true
    (after_insertion (IsKeyOf 4) (bytes_of 4) c.four_key.result c.args.value c.self.inside.four c.insert.new.self c.insert.result (subst (IsKeyOf 4) (sym
    c.four_key.ensures) (is_key_of 4 c.args.network c.if-network-eq4.true c.requires)) c.self.invariant.of_four c.insert.ensures.pairs c.insert.ensures.kept)
    ∙ sym (ap (λ key. value_at (bytes_of 4) (bytes_of 4 key) c.insert.new.self) c.four_key.ensures) ∙ stored)

pub returns-then-network-eq4-clause-others : goal.returns-then-network-eq4-clause-others
returns-then-network-eq4-clause-others g c =
    on_ok c.insert.result c.of_network.result (option_map (λ pair. pair.1)) c.of_network.ensures.replaced (λ refused. record {
      key = c.args.network;
      value =
          refused.value;
    }) c.of_network.ensures.refused c.insert.ensures.other_keys
    (λ kept.
    subst (λ old. KeepsOthers c.args.network old (entries_of c.insert.new.self c.self.inside.six)) c.self.view_is
    (four_keeps_others c.args.network c.requires c.self.inside.four c.insert.new.self c.self.inside.six c.if-network-eq4.true c.self.invariant.of_four
    (after_insertion (IsKeyOf 4) (bytes_of 4) c.four_key.result c.args.value c.self.inside.four c.insert.new.self c.insert.result (subst (IsKeyOf 4) (sym
    c.four_key.ensures) (is_key_of 4 c.args.network c.if-network-eq4.true c.requires)) c.self.invariant.of_four c.insert.ensures.pairs c.insert.ensures.kept)
    (subst (λ key. KeepsOtherKeys (IsStored 4 5) (bytes_of 4) key c.self.inside.four c.insert.new.self) c.four_key.ensures kept)))

pub returns-then-network-eq4-clause-replaced : goal.returns-then-network-eq4-clause-replaced
returns-then-network-eq4-clause-replaced g c =
    if_ok (λ pair. pair ≡ put_reply (of_key (bytes_of 4)) (c.four_key.result, c.args.value) c.self.inside.four)
    (λ replaced. replaced ≡ value_of c.args.network c.args.self.now) c.insert.result c.of_network.result (option_map (λ pair. pair.1)) c.of_network.ensures.replaced
    (λ refused. record { key = c.args.network; value = refused.value }) c.of_network.ensures.refused c.insert.ensures.replaced
    (λ pair is.
    ap (option_map (λ pair. pair.1)) is ∙ replaced_value (bytes_of 4) c.four_key.result c.args.value c.self.inside.four
    ∙ ap (λ key. value_at (bytes_of 4) (bytes_of 4 key) c.self.inside.four) c.four_key.ensures
    ∙ sym (value_in_four c.args.network c.requires c.self.inside.four c.self.inside.six c.if-network-eq4.true c.self.invariant.of_four)
    ∙ ap (value_of c.args.network) c.self.view_is)

pub returns-then-network-eq4-clause-handed_back : goal.returns-then-network-eq4-clause-handed_back
returns-then-network-eq4-clause-handed_back g c =
    if_err (λ refused. (refused.key ≡ c.four_key.result) × (refused.value ≡ c.args.value))
    (λ refused. (refused.key ≡ c.args.network) × (refused.value ≡ c.args.value)) c.insert.result c.of_network.result (option_map (λ pair. pair.1))
    c.of_network.ensures.replaced (λ refused. record { key = c.args.network; value = refused.value }) c.of_network.ensures.refused c.insert.ensures.handed_back
    (λ refused is. (refl, is.1))

pub returns-then-network-eq4-clause-kept : goal.returns-then-network-eq4-clause-kept
returns-then-network-eq4-clause-kept g c =
    on_err c.insert.result c.of_network.result (option_map (λ pair. pair.1)) c.of_network.ensures.replaced (λ refused. record {
      key = c.args.network;
      value =
          refused.value;
    }) c.of_network.ensures.refused c.insert.ensures.kept
    (λ kept. ap (λ four. entries_of four c.self.inside.six) kept ∙ c.self.view_is)

pub invariant_of-self-else-network-eq4 : goal.invariant_of-self-else-network-eq4
invariant_of-self-else-network-eq4 g c =
    record {
      of_four = c.self.invariant.of_four;
      of_six = (after_insertion (IsKeyOf 6) (bytes_of 16) c.six_key.result c.args.value c.self.inside.six
          c.insert-else-network-eq4.new.self c.insert-else-network-eq4.result (subst (IsKeyOf 6) (sym c.six_key.ensures) (is_key_of 6 c.args.network (elim
          c.requires.version_is [ inl four ↦ absurd (c.if-network-eq4.false four) | inr six ↦ six ]) c.requires)) c.self.invariant.of_six
          c.insert-else-network-eq4.ensures.pairs c.insert-else-network-eq4.ensures.kept);
    }

pub returns-else-network-eq4-clause-found : goal.returns-else-network-eq4-clause-found
returns-else-network-eq4-clause-found g c =
    on_ok c.insert-else-network-eq4.result c.of_network-else-network-eq4.result (option_map (λ pair. pair.1)) c.of_network-else-network-eq4.ensures.replaced (λ
    refused. record { key = c.args.network; value = refused.value }) c.of_network-else-network-eq4.ensures.refused c.insert-else-network-eq4.ensures.found
    (λ stored.
    value_in_six c.args.network c.requires c.self.inside.four c.insert-else-network-eq4.new.self (elim c.requires.version_is [
      | inl four ↦ absurd
          (c.if-network-eq4.false four)
      | inr six ↦ six
    ])
    (after_insertion (IsKeyOf 6) (bytes_of 16) c.six_key.result c.args.value c.self.inside.six c.insert-else-network-eq4.new.self c.insert-else-network-eq4.result
    (subst (IsKeyOf 6) (sym c.six_key.ensures) (is_key_of 6 c.args.network (elim c.requires.version_is [
      | inl four ↦ absurd (c.if-network-eq4.false four)
      | inr six ↦
          six
    ]) c.requires)) c.self.invariant.of_six c.insert-else-network-eq4.ensures.pairs c.insert-else-network-eq4.ensures.kept)
    ∙ sym (ap (λ key. value_at (bytes_of 16) (bytes_of 16 key) c.insert-else-network-eq4.new.self) c.six_key.ensures) ∙ stored)

pub returns-else-network-eq4-clause-others : goal.returns-else-network-eq4-clause-others
returns-else-network-eq4-clause-others g c =
    on_ok c.insert-else-network-eq4.result c.of_network-else-network-eq4.result (option_map (λ pair. pair.1)) c.of_network-else-network-eq4.ensures.replaced (λ
    refused. record { key = c.args.network; value = refused.value }) c.of_network-else-network-eq4.ensures.refused c.insert-else-network-eq4.ensures.other_keys
    (λ kept.
    subst (λ old. KeepsOthers c.args.network old (entries_of c.self.inside.four c.insert-else-network-eq4.new.self)) c.self.view_is
    (six_keeps_others c.args.network c.requires c.self.inside.four c.self.inside.six c.insert-else-network-eq4.new.self (elim c.requires.version_is [
      | inl four ↦
          absurd (c.if-network-eq4.false four)
      | inr six ↦ six
    ]) c.self.invariant.of_six
    (after_insertion (IsKeyOf 6) (bytes_of 16) c.six_key.result c.args.value c.self.inside.six c.insert-else-network-eq4.new.self c.insert-else-network-eq4.result
    (subst (IsKeyOf 6) (sym c.six_key.ensures) (is_key_of 6 c.args.network (elim c.requires.version_is [
      | inl four ↦ absurd (c.if-network-eq4.false four)
      | inr six ↦
          six
    ]) c.requires)) c.self.invariant.of_six c.insert-else-network-eq4.ensures.pairs c.insert-else-network-eq4.ensures.kept)
    (subst (λ key. KeepsOtherKeys (IsStored 16 17) (bytes_of 16) key c.self.inside.six c.insert-else-network-eq4.new.self) c.six_key.ensures kept)))

pub returns-else-network-eq4-clause-replaced : goal.returns-else-network-eq4-clause-replaced
returns-else-network-eq4-clause-replaced g c =
    if_ok (λ pair. pair ≡ put_reply (of_key (bytes_of 16)) (c.six_key.result, c.args.value) c.self.inside.six)
    (λ replaced. replaced ≡ value_of c.args.network c.args.self.now) c.insert-else-network-eq4.result c.of_network-else-network-eq4.result (option_map (λ pair.
    pair.1)) c.of_network-else-network-eq4.ensures.replaced (λ refused. record { key = c.args.network; value = refused.value })
    c.of_network-else-network-eq4.ensures.refused c.insert-else-network-eq4.ensures.replaced
    (λ pair is.
    ap (option_map (λ pair. pair.1)) is ∙ replaced_value (bytes_of 16) c.six_key.result c.args.value c.self.inside.six
    ∙ ap (λ key. value_at (bytes_of 16) (bytes_of 16 key) c.self.inside.six) c.six_key.ensures
    ∙ sym (value_in_six c.args.network c.requires c.self.inside.four c.self.inside.six (elim c.requires.version_is [
      | inl four ↦ absurd (c.if-network-eq4.false four)
      | inr six ↦ six
    ]) c.self.invariant.of_six)
    ∙ ap (value_of c.args.network) c.self.view_is)

pub returns-else-network-eq4-clause-handed_back : goal.returns-else-network-eq4-clause-handed_back
returns-else-network-eq4-clause-handed_back g c =
    if_err (λ refused. (refused.key ≡ c.six_key.result) × (refused.value ≡ c.args.value))
    (λ refused. (refused.key ≡ c.args.network) × (refused.value ≡ c.args.value)) c.insert-else-network-eq4.result c.of_network-else-network-eq4.result (option_map
    (λ pair. pair.1)) c.of_network-else-network-eq4.ensures.replaced (λ refused. record { key = c.args.network; value = refused.value })
    c.of_network-else-network-eq4.ensures.refused c.insert-else-network-eq4.ensures.handed_back
    (λ refused is. (refl, is.1))

pub returns-else-network-eq4-clause-kept : goal.returns-else-network-eq4-clause-kept
returns-else-network-eq4-clause-kept g c =
    on_err c.insert-else-network-eq4.result c.of_network-else-network-eq4.result (option_map (λ pair. pair.1)) c.of_network-else-network-eq4.ensures.replaced (λ
    refused. record { key = c.args.network; value = refused.value }) c.of_network-else-network-eq4.ensures.refused c.insert-else-network-eq4.ensures.kept
    (λ kept. ap (λ six. entries_of c.self.inside.four six) kept ∙ c.self.view_is)
