-- What renaming leaves does to rows and to tables with a place for each byte.
use Rattle.std.proofs.Common.{◌≡◌, ℕ, zero, suc, List, [], ◌∷◌, length, take, get_or, Option, Some, None, refl, ap, ◌∙◌, arith}
use Rattle.std.specs.Option.{option_map}
use Rattle.std.specs.List.{cons_option}
use Rattle.art_inner.specs.Inner.{Children, IsBelow, IsRising}
use Rattle.art_inner.specs.Indexed.{numbered, indexed_at}
use Rattle.art_inner.specs.InnerRenamed.{child_renamed, children_renamed, renamed_in}
use Rattle.art_inner.specs.NewNames.{new_name, new_slot}
use Rattle.art_inner.specs.Rows.{rows}
use Rattle.art_inner.specs.Tables.{names_from, names_by_byte}
use Rattle.art_parts.specs.declared.names.NodeType.{NodeType}
use Rattle.art_parts.specs.declared.names.NodeType.TheVariants as kind
use Rattle.art_parts.specs.declared.names.LeafPtr.{LeafPtr}
use Rattle.art_parts.specs.declared.names.OpaqueNodePtr.{OpaqueNodePtr}

module _ (rename : LeafPtr → LeafPtr) where
  IsBelow-renamed : (b : ℕ) (cs : Children) → IsBelow b cs → IsBelow b (children_renamed rename cs)
  IsBelow-renamed b [] below = tt
  IsBelow-renamed b (c ∷ cs) below = (below.0, IsBelow-renamed b cs below.1)

  -- new names leave the order of the bytes
  pub IsRising-renamed : (cs : Children) → IsRising cs → IsRising (children_renamed rename cs)
  IsRising-renamed [] rising = tt
  IsRising-renamed (c ∷ cs) rising = (IsBelow-renamed c.0 cs rising.0, IsRising-renamed cs rising.1)

  pub length-renamed : (cs : Children) → length (children_renamed rename cs) ≡ length cs
  length-renamed [] = refl
  length-renamed (c ∷ cs) = ap suc (length-renamed cs)

  take-renamed : (n : ℕ) (cs : Children) → take n (children_renamed rename cs) ≡ children_renamed rename (take n cs)
  take-renamed zero cs = refl
  take-renamed (suc n) [] = refl
  take-renamed (suc n) (c ∷ cs) = ap (λ (t : Children). (c.0, child_renamed rename c.1) ∷ t) (take-renamed n cs)

  module _ (at new : ℕ → Option OpaqueNodePtr) (named : (b : ℕ) → new b ≡ option_map (child_renamed rename) (at b)) where
    one_more : (b : ℕ) (found : Option OpaqueNodePtr) (cs : Children) →
        cons_option (option_map (λ name. (b, name)) (option_map (child_renamed rename) found)) (children_renamed rename cs) ≡
        children_renamed rename (cons_option (option_map (λ name. (b, name)) found) cs)
    one_more b None cs = refl
    one_more b (Some name) cs = refl

    from_renamed : (b n : ℕ) → names_from new b n ≡ children_renamed rename (names_from at b n)
    unfolding names_from
    from_renamed b zero = refl
    from_renamed b (suc n) =
        (λ i. cons_option (option_map (λ name. (b, name)) (named b i)) (from_renamed (suc b) n i))
        ∙ one_more b (at b) (names_from at (suc b) n)

    -- the children under all bytes
    pub listed-renamed : names_by_byte new ≡ children_renamed rename (names_by_byte at)
    unfolding names_by_byte
    listed-renamed = from_renamed 0 256

-- a name with its new slot
renamed_is : (table : List ℕ) (k : NodeType) (slot : ℕ) → record { kind = k; slot = new_slot table k slot } ≡ renamed_in (new_name table) k slot
renamed_is table kind.Node4 slot = refl
renamed_is table kind.Node16 slot = refl
renamed_is table kind.Node48 slot = refl
renamed_is table kind.Node256 slot = refl
renamed_is table kind.Leaf slot = refl

module _ (table : List ℕ) where
  -- each leaf has its new slot, and all others the old one
  abbrev AreNewSlots : List NodeType → List ℕ → List ℕ → Type 0
  AreNewSlots kinds slots new = (k : ℕ) → get_or new k 0 ≡ new_slot table (get_or kinds k kind.Node4) (get_or slots k 0)

  rows-new_slots : (bytes : List ℕ) (kinds : List NodeType) (slots new : List ℕ) → length new ≡ length slots → AreNewSlots kinds slots new →
      rows bytes kinds new ≡ children_renamed (new_name table) (rows bytes kinds slots)
  rows-new_slots [] kinds slots new same are = refl
  rows-new_slots (b ∷ bytes) [] slots new same are = refl
  rows-new_slots (b ∷ bytes) (k ∷ kinds) [] [] same are = refl
  rows-new_slots (b ∷ bytes) (k ∷ kinds) [] (n ∷ new) same are = absurd (omega (arith, same))
  rows-new_slots (b ∷ bytes) (k ∷ kinds) (s ∷ slots) [] same are = absurd (omega (arith, same))
  rows-new_slots (b ∷ bytes) (k ∷ kinds) (s ∷ slots) (n ∷ new) same are =
      let rest = rows-new_slots bytes kinds slots new (omega (arith, same)) (λ j. are (suc j)) in
      let name : record { kind = k; slot = n } ≡ renamed_in (new_name table) k s =
      ap (λ (at : ℕ). record { kind = k; slot = at }) (are 0) ∙ renamed_is table k s in
      λ i. (b, name i) ∷ rest i

  -- the children that a table of rows shows
  pub shown-new_slots : (len : ℕ) (bytes : List ℕ) (kinds : List NodeType) (slots new : List ℕ) → length new ≡ length slots → AreNewSlots kinds slots new →
      take len (rows bytes kinds new) ≡ children_renamed (new_name table) (take len (rows bytes kinds slots))
  shown-new_slots len bytes kinds slots new same are =
      ap (take len) (rows-new_slots bytes kinds slots new same are) ∙ take-renamed (new_name table) len (rows bytes kinds slots)

  numbered-renamed : (kinds : List NodeType) (slots new : List ℕ) → AreNewSlots kinds slots new → (number : ℕ) →
      numbered new kinds number ≡ option_map (child_renamed (new_name table)) (numbered slots kinds number)
  numbered-renamed kinds slots new are zero = refl
  numbered-renamed kinds slots new are (suc place) =
      ap (λ (s : ℕ). Some (record { kind = get_or kinds place kind.Node4; slot = s })) (are place)
      ∙ ap (λ (name : OpaqueNodePtr). Some name) (renamed_is table (get_or kinds place kind.Node4) (get_or slots place 0))

  -- the children that a table with an index shows
  pub indexed-renamed : (index : List ℕ) (kinds : List NodeType) (slots new : List ℕ) → AreNewSlots kinds slots new →
      names_by_byte (indexed_at new kinds index) ≡ children_renamed (new_name table) (names_by_byte (indexed_at slots kinds index))
  indexed-renamed index kinds slots new are =
      listed-renamed (new_name table) (indexed_at slots kinds index) (indexed_at new kinds index) (λ b. numbered-renamed kinds slots new are (get_or index b 0))
