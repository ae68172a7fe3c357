-- Lines that are no valid requests: what is after their first word is wrong.
use Rattle.std.proofs.Common.{◌≡◌, ◌≢◌, ℕ, ◌<◌, ◌^◌, List, ◌∷◌, ◌++◌, drop, get_or, ap, sym, ◌∙◌, subst, arith, codes}
use Rattle.std.proofs.Math.Logic.{∥∥₁_elim}
use Rattle.std.specs.Fmt.{decimal}
use Rattle.art_engine.specs.KeyTexts.{IsKeyWord}
use Rattle.art_engine.specs.Served.{AsksForNothing}
use Rattle.art_engine.specs.declared.lines.KeyWord.{KeyWord}
use Rattle.art_engine.specs.declared.lines.Request.TheVariants.{Insert, Prefix, Delete, First, Last, Clone, Find, Longest, Walk, Back, Nodes, Check}

-- the character at a place of a line
abbrev at : ℕ → List ℕ → ℕ
at n line = get_or line n 0

no_key : (key : KeyWord) (word : List ℕ) → word ≡ key.word.now → ¬ (IsKeyWord word) → ⊥
no_key key word is none = ∥∥₁_elim key.is_key (λ x y. absurd x) (λ k. none (subst IsKeyWord (sym is) k))

-- no key and value have these words
abbrev IsNoPair : List ℕ → Type 0
IsNoPair words = (key : List ℕ) (value : ℕ) → IsKeyWord key → value < 2 ^ 32 → words ≢ key ++ 32 ∷ decimal value

no_pair : (key : KeyWord) (value : ℕ) (words : List ℕ) → words ≡ key.word.now ++ 32 ∷ decimal value → value < 2 ^ 32 → IsNoPair words → ⊥
no_pair key value words is small none = ∥∥₁_elim key.is_key (λ x y. absurd x) (λ k. none key.word.now value k small is)

-- another request is distinguished by the first letter, or by one after it

pub no_insert : (line words : List ℕ) → line ≡ codes "insert " ++ words → IsNoPair words → AsksForNothing line
no_insert line words is none (Insert key value) small same = no_pair key value words (ap (drop 7) (sym is ∙ same)) small none
no_insert line words is none request small same = omega (arith, ap (at 0) (sym is ∙ same))

pub no_prefix : (line words : List ℕ) → line ≡ codes "prefix " ++ words → IsNoPair words → AsksForNothing line
no_prefix line words is none (Prefix key value) small same = no_pair key value words (ap (drop 7) (sym is ∙ same)) small none
no_prefix line words is none request small same = omega (arith, ap (at 0) (sym is ∙ same))

pub no_delete : (line word : List ℕ) → line ≡ codes "delete " ++ word → ¬ (IsKeyWord word) → AsksForNothing line
no_delete line word is none (Delete key) small same = no_key key word (ap (drop 7) (sym is ∙ same)) none
no_delete line word is none request small same = omega (arith, ap (at 0) (sym is ∙ same))

pub no_longest : (line word : List ℕ) → line ≡ codes "longest " ++ word → ¬ (IsKeyWord word) → AsksForNothing line
no_longest line word is none (Longest key) small same = no_key key word (ap (drop 8) (sym is ∙ same)) none
no_longest line word is none Last small same = omega (arith, ap (at 1) (sym is ∙ same))
no_longest line word is none request small same = omega (arith, ap (at 0) (sym is ∙ same))

pub no_find : (line word : List ℕ) → line ≡ codes "find " ++ word → ¬ (IsKeyWord word) → AsksForNothing line
no_find line word is none (Find key) small same = no_key key word (ap (drop 5) (sym is ∙ same)) none
no_find line word is none First small same = omega (arith, ap (at 2) (sym is ∙ same))
no_find line word is none request small same = omega (arith, ap (at 0) (sym is ∙ same))

-- the line does not start so
abbrev BeginsOtherwise : List ℕ → List ℕ → Type 0
BeginsOtherwise line front = (rest : List ℕ) → line ≢ front ++ rest

-- a line that is not just a word, and starts with none of the other words, is no valid request
pub no_request : (line : List ℕ) →
    (line ≢ codes "first") × (line ≢ codes "last") × (line ≢ codes "clone") × (line ≢ codes "walk") × (line ≢ codes "back") ×
    (line ≢ codes "nodes") × (line ≢ codes "check") →
    BeginsOtherwise line (codes "insert ") → BeginsOtherwise line (codes "prefix ") → BeginsOtherwise line (codes "delete ") →
    BeginsOtherwise line (codes "longest ") →
    BeginsOtherwise line (codes "find ") → AsksForNothing line
no_request line alone insert prefix delete longest find (Insert key value) small same = insert (key.word.now ++ 32 ∷ decimal value) same
no_request line alone insert prefix delete longest find (Prefix key value) small same = prefix (key.word.now ++ 32 ∷ decimal value) same
no_request line alone insert prefix delete longest find (Delete key) small same = delete key.word.now same
no_request line alone insert prefix delete longest find (Longest key) small same = longest key.word.now same
no_request line alone insert prefix delete longest find (Find key) small same = find key.word.now same
no_request line alone insert prefix delete longest find First small same = alone.0 same
no_request line alone insert prefix delete longest find Last small same = alone.1 same
no_request line alone insert prefix delete longest find Clone small same = alone.2 same
no_request line alone insert prefix delete longest find Walk small same = alone.3 same
no_request line alone insert prefix delete longest find Back small same = alone.4 same
no_request line alone insert prefix delete longest find Nodes small same = alone.5 same
no_request line alone insert prefix delete longest find Check small same = alone.6 same
