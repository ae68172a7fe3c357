use Rattle.std.proofs.Common.{◌≡◌, ◌++◌, ◌≤◌, drop, List, [], ◌∷◌, length, ℕ, ap, ◌∙◌, sym, refl}
use Rattle.std.proofs.lemmas.List.{drop_all}
use Rattle.art_keys.specs.Escapes.{escape}
use Rattle.art_keys.specs.EscapeLaws.{unescape-escape}
use Rattle.art_keys.proofs.escaped.Escaped.encode.Goals as goal

-- after the loop only the end is missing
written : (items bytes text : List ℕ) (i : ℕ) → length text ≤ i → bytes ++ escape (drop i text) ≡ escape text → items ≡ bytes ++ 0 ∷ [] → items ≡ escape text
written items bytes text i h e f = f ∙ ap (λ rest. bytes ++ escape rest) (sym (drop_all i text h)) ∙ e

pub invariant_of-result : goal.invariant_of-result
invariant_of-result c = rw (written _ _ _ _ c.loop-byte-test.false c.loop-byte.invariant c.in_ok-push.ensures.ok, unescape-escape) refl

pub returns-clause-key : goal.returns-clause-key
returns-clause-key c = rw (written _ _ _ _ c.loop-byte-test.false c.loop-byte.invariant c.in_ok-push.ensures.ok) (unescape-escape c.args.text.now)
