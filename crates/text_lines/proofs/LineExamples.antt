-- Lines of worked texts.
use Rattle.std.proofs.Common.{◌≡◌, [], ◌∷◌, ◌++◌, codes, refl}
use Rattle.text_lines.specs.Lines.{lines, pieces}
use Rattle.text_lines.specs.declared.lines.End.TheVariants.{Zero}

-- a carriage return before a line feed belongs to the end, and only one
returns : lines (codes "ab" ++ 13 ∷ 10 ∷ 99 ∷ 13 ∷ 13 ∷ 10 ∷ []) ≡ codes "ab" ∷ (99 ∷ 13 ∷ []) ∷ []
returns = refl

-- others stay
others : lines (97 ∷ 13 ∷ 98 ∷ 10 ∷ 99 ∷ 13 ∷ []) ≡ (97 ∷ 13 ∷ 98 ∷ []) ∷ (99 ∷ 13 ∷ []) ∷ []
others = refl

-- empty lines, and no line after the last line feed
empty_lines : lines (10 ∷ 13 ∷ 10 ∷ 97 ∷ 10 ∷ []) ≡ [] ∷ [] ∷ codes "a" ∷ []
empty_lines = refl

no_line : lines [] ≡ []
no_line = refl

-- pieces keep carriage returns and line feeds, and none is after the last end
zeros : pieces Zero (97 ∷ 13 ∷ 10 ∷ 0 ∷ 0 ∷ 98 ∷ 10 ∷ 0 ∷ []) ≡ (97 ∷ 13 ∷ 10 ∷ []) ∷ [] ∷ (98 ∷ 10 ∷ []) ∷ []
zeros = refl

-- the last one may have no end
no_zero : pieces Zero (97 ∷ 0 ∷ 98 ∷ []) ≡ (97 ∷ []) ∷ (98 ∷ []) ∷ []
no_zero = refl
