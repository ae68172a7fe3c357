use Rattle.std.proofs.Common.{◌≡◌, ◌≢◌, ℕ, ◌+◌, List, ◌++◌, length, take, drop, ap, sym, ◌∙◌, true, false, nat_eq, Bor, Option, Some, None}
use Rattle.std.specs.Option.{IfSome, IfNone, MatchOption}
use Rattle.std.specs.Cmp.Lexicographic.{same_text, other_text}
use Rattle.std.proofs.lemmas.List.{take-append-drop}
use Rattle.std.proofs.Math.Seq.{take-append_seam}
use lib.Pointwise.{pointwise}
use Rattle.text_lines.proofs.words.strip.Goals as goal

-- what `strip_prefix` gives
abbrev Strips : List ℕ → List ℕ → Option (Bor (List ℕ)) → Type 0
Strips line front r =
    MatchOption r (pointwise nat_eq (take (length front) line) front ≡ false)
    (λ x. (pointwise nat_eq (take (length front) line) front ≡ true) × (x.now ≡ drop (length front) line) × (length x.now + length front ≡ length line))

stripped : (line front : List ℕ) (r : Option (Bor (List ℕ))) → Strips line front r → IfSome r (λ rest. line ≡ front ++ rest.now)
stripped line front None h = tt
stripped line front (Some x) h =
    let same = same_text (take (length front) line) front (sym h.0) in
    sym (take-append-drop (length front) line) ∙ ap (λ t. t ++ drop (length front) line) same ∙ ap (λ t. front ++ t) (sym h.1)

not_stripped : (line front : List ℕ) (r : Option (Bor (List ℕ))) → Strips line front r → IfNone r ((rest : List ℕ) → line ≢ front ++ rest)
not_stripped line front (Some x) h = tt
not_stripped line front None h = λ rest is. other_text (take (length front) line) front (sym h) (ap (take (length front)) is ∙ take-append_seam front rest)

pub returns-clause-rest : goal.returns-clause-rest
returns-clause-rest c = stripped c.args.line.now c.args.front.now c.strip_prefix.result c.strip_prefix.ensures.cases

pub returns-clause-none : goal.returns-clause-none
returns-clause-none c = not_stripped c.args.line.now c.args.front.now c.strip_prefix.result c.strip_prefix.ensures.cases
