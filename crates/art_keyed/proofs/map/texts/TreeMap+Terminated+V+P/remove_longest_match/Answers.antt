use Rattle.std.proofs.Common.{ap, length, sym, ◌∙◌}
use Rattle.art_keys.specs.Ended.{ended}
use Rattle.art_model.specs.Pairs.{of_key, remove_key, remove_reply}
use Rattle.art_keyed.proofs.LongestOf.{longest_cut, longest_own, without_longest_is}
use Rattle.art_keyed.proofs.map.texts.TreeMap+Terminated+V+P.remove_longest_match.Goals as goal

pub slice_bounds-remove_text-end : goal.slice_bounds-remove_text-end
slice_bounds-remove_text-end g c =
    ap length c.as_bytes_without_end-len.ensures.text
    ∙ ap length (sym (longest_cut ended c.args.text.now c.args.self.now (c.in_ok-key.key.now, c.in_ok-key.field-0-1.now) c.in_ok-key.ensures
    (length c.as_bytes_without_end-len.result.now) (ap length c.as_bytes_without_end-len.ensures.text)))

pub returns-clause-pairs : goal.returns-clause-pairs
returns-clause-pairs g c =
    c.remove_text.ensures.pairs
    ∙ ap (λ text. remove_key (of_key ended) (ended text) c.args.self.now)
    (longest_cut ended c.args.text.now c.args.self.now (c.in_ok-key.key.now, c.in_ok-key.field-0-1.now) c.in_ok-key.ensures
    (length c.as_bytes_without_end-len.result.now) (ap length c.as_bytes_without_end-len.ensures.text))
    ∙ without_longest_is ended c.args.text.now c.args.self.now (c.in_ok-key.key.now, c.in_ok-key.field-0-1.now) c.in_ok-key.ensures

pub returns-clause-removed : goal.returns-clause-removed
returns-clause-removed g c =
    c.remove_text.ensures.removed
    ∙ ap (λ text. remove_reply (of_key ended) (ended text) c.args.self.now)
    (longest_cut ended c.args.text.now c.args.self.now (c.in_ok-key.key.now, c.in_ok-key.field-0-1.now) c.in_ok-key.ensures
    (length c.as_bytes_without_end-len.result.now) (ap length c.as_bytes_without_end-len.ensures.text))
    ∙ longest_own ended c.args.text.now c.args.self.now
    (c.in_ok-key.key.now, c.in_ok-key.field-0-1.now) c.in_ok-key.ensures c.len.ensures.sorted ∙ c.in_ok-key.ensures
