use Rattle.std.proofs.Common.{◌∷◌, [], ap, arith, length, length-append, subst, sym, ◌∙◌}
use Rattle.std.proofs.lemmas.Bool.{false≢true}
use Rattle.art_keys.specs.Escapes.{IsEscape, escape, unescape}
use Rattle.art_keys.specs.EscapeLaws.{escape-plain, unescape-escape}
use Rattle.art_keys.proofs.escaped.plain_key.Goals as goal

pub invariant_of-result : goal.invariant_of-result
invariant_of-result c =
    subst IsEscape (sym (c.in_ok-bytes.ensures.bytes ∙ sym (escape-plain c.args.text.now c.requires))) (ap escape (unescape-escape c.args.text.now))

pub returns-clause-key : goal.returns-clause-key
returns-clause-key c =
    ap unescape (c.in_ok-bytes.ensures.bytes ∙ sym (escape-plain c.args.text.now c.requires)) ∙ unescape-escape c.args.text.now

pub returns-in_err-bytes-clause-succeeds : goal.returns-in_err-bytes-clause-succeeds
returns-in_err-bytes-clause-succeeds c =
    λ few. absurd (false≢true (c.in_err-bytes.ensures.succeeds
    (omega (arith, few, ap length (escape-plain c.args.text.now c.requires), length-append c.args.text.now (0 ∷ [])))))
