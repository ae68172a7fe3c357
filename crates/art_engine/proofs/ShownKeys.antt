-- How a key is written byte by byte.
use Rattle.std.proofs.Common.{◌≡◌, ℕ, List, [], ◌∷◌, ◌++◌, codes, flat_map, map, refl, ap, append-nil}
use Rattle.std.specs.List.{join_with_byte}
use Rattle.std.specs.Fmt.{decimal}
use Rattle.art_engine.specs.KeyTexts.{key_word}

-- a byte after a dot
abbrev pub dotted : ℕ → List ℕ
dotted byte = codes "." ++ decimal byte

-- the first byte, and then each other one after a dot
abbrev pub spelled : List ℕ → List ℕ
spelled [] = codes "-"
spelled (byte ∷ bytes) = decimal byte ++ flat_map dotted bytes

-- that is the key's word
pub spelled_is : (key : List ℕ) → spelled key ≡ key_word key
spelled_is [] = refl
spelled_is (byte ∷ bytes) = go byte bytes
  where
    go : (byte : ℕ) (bytes : List ℕ) → decimal byte ++ flat_map dotted bytes ≡ join_with_byte 46 (map decimal (byte ∷ bytes))
    go byte [] = append-nil (decimal byte)
    go byte (next ∷ others) = ap (λ bs. decimal byte ++ (46 ∷ bs)) (go next others)
