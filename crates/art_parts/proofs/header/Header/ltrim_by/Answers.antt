use Rattle.std.proofs.Common.{◌≡◌, ◌∙◌, ap, arith, drop, min, take}
use Rattle.art_parts.specs.Headers.{Prefix}
use Rattle.art_parts.proofs.HeaderLemmas.{trimmed}
use Rattle.art_parts.proofs.header.Header.ltrim_by.Goals as goal

pub returns-clause-stored : goal.returns-clause-stored
returns-clause-stored g c =
    let len = c.number.result in
    let same : len ≡ c.args.self.now.len = c.number.ensures ∙ ap (λ (h : Prefix). h.len) c.self.view_is in
    ap (λ (h : Prefix). h.stored) (c.self-2.view_is ∙ c.new.ensures)
    ∙ trimmed g.row.P c.args.n len c.self.inside.bytes (omega (arith, same, c.requires.within)) (omega (arith, same, c.requires.whole))
    ∙ ap (λ n. drop c.args.n (take (min n g.row.P) c.self.inside.bytes)) c.number.ensures
    ∙ ap (λ (h : Prefix). drop c.args.n h.stored) c.self.view_is
