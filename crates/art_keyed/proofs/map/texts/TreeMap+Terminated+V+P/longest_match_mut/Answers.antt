use Rattle.std.proofs.Common.{ap, is_some, length, sym, ◌∙◌}
use Rattle.std.specs.Option.{option_map}
use Rattle.art_keys.specs.Ended.{ended}
use Rattle.art_changing.specs.MapAnswers.{value_at, with_value_at}
use Rattle.art_changing.proofs.MapPuts.{is_some-map}
use Rattle.art_map.proofs.WrittenValues.{lends_same}
use Rattle.art_keyed.proofs.LongestOf.{longest_cut, longest_key_is, longest_own}
use Rattle.art_keyed.proofs.map.texts.TreeMap+Terminated+V+P.longest_match_mut.Goals as goal

pub slice_bounds-get_text_mut-end : goal.slice_bounds-get_text_mut-end
slice_bounds-get_text_mut-end g c =
    ap length c.as_bytes_without_end-len.ensures.text
    ∙ ap length (sym (longest_cut ended c.args.text.now c.args.self.now (c.in_ok-key.key.now, c.in_ok-key.field-0-1.now) c.in_ok-key.ensures
    (length c.as_bytes_without_end-len.result.now) (ap length c.as_bytes_without_end-len.ensures.text)))

pub unwrap-requires : goal.unwrap-requires
unwrap-requires g c =
    let found = c.get_text_mut.ensures.value
    ∙ ap (λ text. value_at ended (ended text) c.args.self.now)
    (longest_cut ended c.args.text.now c.args.self.now (c.in_ok-key.key.now, c.in_ok-key.field-0-1.now) c.in_ok-key.ensures
    (length c.as_bytes_without_end-len.result.now) (ap length c.as_bytes_without_end-len.ensures.text))
    ∙ ap (option_map (λ x. x.1)) (longest_own ended c.args.text.now c.args.self.now
    (c.in_ok-key.key.now, c.in_ok-key.field-0-1.now) c.in_ok-key.ensures c.len.ensures.sorted) in
    sym (is_some-map (λ lent. lent.now) c.get_text_mut.result) ∙ ap is_some found

pub returns : goal.returns
returns g c =
    let text_is = longest_cut ended c.args.text.now c.args.self.now (c.in_ok-key.key.now, c.in_ok-key.field-0-1.now) c.in_ok-key.ensures
    (length c.as_bytes_without_end-len.result.now) (ap length c.as_bytes_without_end-len.ensures.text) in (
      lends_same (λ w. ap (λ text. with_value_at ended (ended text) w c.args.self.now) text_is
          ∙ ap (λ key. with_value_at ended key w c.args.self.now)
          (longest_key_is ended c.args.text.now c.args.self.now (c.in_ok-key.key.now, c.in_ok-key.field-0-1.now) c.in_ok-key.ensures)),
      record {
        writes_back = tt;
        value = (rw c.unwrap.ensures at c.get_text_mut.ensures.value) ∙ ap (λ text. value_at ended (ended text) c.args.self.now) text_is
            ∙ ap (option_map (λ x. x.1)) (longest_own ended c.args.text.now c.args.self.now
            (c.in_ok-key.key.now, c.in_ok-key.field-0-1.now) c.in_ok-key.ensures c.len.ensures.sorted ∙ c.in_ok-key.ensures);
      },
    )
