-- Lines that have a zero, and lines that are no valid requests.
use Rattle.std.proofs.Common.{◌≡◌, ◌≢◌, ℕ, List, ◌∷◌, ◌++◌, drop, get_or, codes, ap, sym, ◌∙◌, subst, arith}
use Rattle.art_model.proofs.lists.Lists.{Each-left, Each-right}
use Rattle.art_operations.specs.Ended.{HasNoZero}
use Rattle.text_lines.proofs.Spaces.{has_space}
use Rattle.text_programs.specs.PathReplies.{IsNoRequest}
use Rattle.text_programs.specs.Requests.{HasNoSpace}
use Rattle.text_programs.specs.declared.path_indexes.request.Request.TheVariants.{Between}

-- ---- zeros

-- what is after a prefix has no zero where the whole has none
rest_plain : (line front rest : List ℕ) → line ≡ front ++ rest → HasNoZero line → HasNoZero rest
rest_plain line front rest e h = Each-right (λ byte. byte ≢ 0) front rest (subst HasNoZero e h)

-- nor have two words with a space between them
pub words_plain : (line front words from to : List ℕ) → line ≡ front ++ words → words ≡ from ++ 32 ∷ to → HasNoZero line → HasNoZero from × HasNoZero to
words_plain line front words from to e d h =
    let all : HasNoZero (from ++ 32 ∷ to) = subst HasNoZero d (rest_plain line front words e h) in
    (Each-left (λ byte. byte ≢ 0) from (32 ∷ to) all, (Each-right (λ byte. byte ≢ 0) from (32 ∷ to) all).1)

-- ---- lines that are no valid requests

-- the character at a place of a line
abbrev at : ℕ → List ℕ → ℕ
at n line = get_or line n 0

-- a single path has no separator
pub no_between : (line words : List ℕ) → line ≡ codes "between " ++ words → HasNoSpace words → IsNoRequest line
no_between line words e none (Between from to) is same = has_space from.now to.now (subst HasNoSpace (ap (drop 8) (sym e ∙ same)) none)
no_between line words e none request is same = omega (arith, ap (at 0) (sym e ∙ same))
