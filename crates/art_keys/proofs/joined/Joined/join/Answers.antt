use Rattle.std.proofs.Common.{ap₂, ◌++◌, ◌∙◌}
use Rattle.art_keys.proofs.joined.Joined.join.Goals as goal

pub invariant_of-result : goal.invariant_of-result
invariant_of-result g c = record {
  key = (c.args.first.now, c.args.second.now);
  of_key = (c.as_key.ensures, c.as_key-2.ensures);
  is = c.in_ok-from_both.ensures.bytes ∙ ap₂ (λ s t. s ++ t) c.as_bytes.ensures c.as_bytes-2.ensures;
}
