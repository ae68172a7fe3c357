use Rattle.std.proofs.Common.{ap, sym, ◌∙◌, ◌++◌, take, min}
use Rattle.art_parts.specs.Headers.{Prefix}
use Rattle.art_parts.proofs.HeaderLemmas.{extended, zeros_after, same_front, same_zeros}
use Rattle.art_parts.proofs.header.Header.push_prefix.Goals as goal

pub invariant_of-self : goal.invariant_of-self
invariant_of-self g c = (
  same_zeros _ _ _ _ (sym c.of-self-inside.ensures.whole)
      (zeros_after _ _ _ _ _ _ _ _ c.min-start.ensures c.min-end.ensures c.self.told c.requires.given
      c.copy_from_slice.ensures.after (same_zeros _ _ _ _ (sym c.number-old.ensures) c.self.invariant.0)),
  c.of-self-inside.ensures.low,
)

pub returns-clause-stored : goal.returns-clause-stored
returns-clause-stored g c =
    same_front _ _ _ _ c.of-self-inside.ensures.whole
    ∙ extended _ _ _ _ _ _ _ _ c.min-start.ensures c.min-end.ensures c.self.told c.requires.given c.copy_from_slice.ensures.after
    ∙ ap (λ n. take g.row.P (take (min n g.row.P) c.self.inside.bytes ++ take c.args.len c.args.bytes.now)) c.number-old.ensures
    ∙ ap (λ (h : Prefix). take g.row.P (h.stored ++ take c.args.len c.args.bytes.now)) c.self.view_is
