-- A change of a table's rows is the same change of its children.
use Rattle.std.proofs.Common.{◌≡◌, ℕ, ◌+◌, ◌-◌, ◌<◌, ◌≤◌, ◌^◌, suc, List, [], ◌∷◌, ◌++◌, length, get_or, set, slice_get, take, drop, remove, Some, None, IsSome, is_some, sym, ap, ◌∙◌, arith, add-one, subst}
use Rattle.std.proofs.lemmas.List.{get_or-take, length-append, length-drop, length-take-le}
use Rattle.std.proofs.lemmas.Option.{slice_get-get_or, slice_get_past}
use Rattle.std.specs.Option.{option_map}
use Rattle.art_inner.specs.Inner.{Children, IsAbove, IsRising, child_at, count_below, put_child, remove_child}
use Rattle.art_inner.specs.Rows.{rows}
use Rattle.art_parts.specs.declared.names.NodeType.{NodeType}
use Rattle.art_parts.specs.declared.names.NodeType.TheVariants.{Node4}
use Rattle.art_parts.specs.declared.names.OpaqueNodePtr.{OpaqueNodePtr}
use Rattle.art_inner.specs.declared.table.Table.TheInside.{Inside}
use Rattle.art_inner.proofs.ChildrenLaws.{put_child-above}
use Rattle.art_inner.proofs.RemovalLemmas.{found_at, removed_at, front_without}
use Rattle.art_inner.proofs.RowsLemmas.{count_below-bound, length-rows, rows-between, rows-read, rows-remove, rows-renamed, rows-set, rows-take, take_set_end}
use Rattle.art_inner.proofs.TableLemmas.{Entry, none_is_not, place_of_child, put_child_set, put_child_between, front_after, shown_set, IsRising-put_child}

-- a table in arrays of `N` places shows these children
pub record Shows {N : ℕ} (t : Inside N) (cs : Children) : Type 0 where
  pub slots : length t.slots ≡ N
  pub bytes : length t.bytes ≡ N
  pub kinds : length t.kinds ≡ N
  pub fits : t.len ≤ N
  pub shows : take t.len (rows t.bytes t.kinds t.slots) ≡ cs
  pub rising : IsRising cs
  pub small : N < 2 ^ 16

pub shows_of : {N : ℕ} (t : Inside N) (cs : Children) → length t.slots ≡ N → length t.bytes ≡ N →
    (t.len ≤ N) × (length t.kinds ≡ N) × IsRising (take t.len (rows t.bytes t.kinds t.slots)) × (N < 2 ^ 16) → take t.len (rows t.bytes t.kinds t.slots) ≡ cs → Shows t cs
shows_of t cs slots bytes sound shows =
    record { slots = slots; bytes = bytes; kinds = sound.1; fits = sound.0; shows = shows; rising = subst IsRising shows sound.2; small = sound.3 }

-- as many as there were, with another first part
pub length_around : {X : Type 0} (es new : List X) (n len : ℕ) → len ≤ n → length es ≡ n → length new ≡ length (take len es) → length (new ++ drop len es) ≡ n
length_around es new n len within long same =
    omega (
      arith,
      within,
      long,
      same,
      length-append new (drop len es),
      length-drop len es,
      length-take-le len es (omega (arith, within, long)),
    )

-- they are still sorted with one more after them
pub rising_behind : (cs : Children) (b : ℕ) (n : OpaqueNodePtr) → IsRising cs → IsAbove b cs → IsRising (cs ++ (b, n) ∷ [])
rising_behind cs b n rising above = subst IsRising (put_child-above cs b n above) (IsRising-put_child cs b n rising)

-- what an array reads past its end
abbrev past : Entry
past = (0, record { kind = Node4; slot = 0 })

module _ {N : ℕ} (t : Inside N) (cs : Children) (s : Shows t cs) where
  length_of_all : length (rows t.bytes t.kinds t.slots) ≡ N
  length_of_all = length-rows t.bytes t.kinds t.slots (s.kinds ∙ sym s.bytes) (s.slots ∙ sym s.bytes) ∙ s.bytes

  pub table_length : length cs ≡ t.len
  table_length = ap length (sym s.shows) ∙ length-take-le t.len (rows t.bytes t.kinds t.slots) (omega (arith, s.fits, length_of_all))

  pub table_pushed : (b : ℕ) (n : OpaqueNodePtr) → t.len < N →
      take (t.len + 1) (rows (set t.bytes t.len b) (set t.kinds t.len n.kind) (set t.slots t.len n.slot)) ≡ cs ++ (b, n) ∷ []
  table_pushed b n room =
      ap (λ (m : ℕ). take m (rows (set t.bytes t.len b) (set t.kinds t.len n.kind) (set t.slots t.len n.slot))) (add-one t.len)
      ∙ ap (take (suc t.len)) (sym (rows-set t.len t.bytes t.kinds t.slots b n (s.kinds ∙ sym s.bytes) (s.slots ∙ sym s.bytes)))
      ∙ take_set_end (rows t.bytes t.kinds t.slots) t.len (b, n) (omega (arith, room, length_of_all))
      ∙ ap (λ (xs : Children). xs ++ (b, n) ∷ []) s.shows

  read_at : (at : ℕ) → at < t.len → get_or cs at past ≡ (get_or t.bytes at 0, record { kind = get_or t.kinds at Node4; slot = get_or t.slots at 0 })
  read_at at within =
      ap (λ (xs : Children). get_or xs at past) (sym s.shows) ∙ get_or-take t.len (rows t.bytes t.kinds t.slots) at past within
      ∙ rows-read at t.bytes t.kinds t.slots 0 Node4 0 (s.kinds ∙ sym s.bytes) (s.slots ∙ sym s.bytes) (omega (arith, within, s.fits, s.bytes))

  -- the name at a place in use
  pub table_name : (at : ℕ) → at < t.len →
      option_map (λ (c : Entry). c.1) (slice_get cs at) ≡ Some (record { kind = get_or t.kinds at Node4; slot = get_or t.slots at 0 })
  table_name at within =
      ap (option_map (λ (c : Entry). c.1)) (slice_get-get_or cs at past (omega (arith, within, table_length)))
      ∙ ap (λ (c : Entry). Some c.1) (read_at at within)

  pub table_vacant : (at : ℕ) → t.len ≤ at → option_map (λ (c : Entry). c.1) (slice_get cs at) ≡ None
  table_vacant at past_all = ap (option_map (λ (c : Entry). c.1)) (slice_get_past cs at (omega (arith, past_all, table_length)))

  module _ (at b : ℕ) (place : at ≡ count_below cs b) where
    -- a byte that is there is at its place
    pub table_place : IsSome (child_at cs b) → at < t.len
    table_place there = omega (arith, place, table_length, (place_of_child cs b past s.rising there).0)

    same_byte : IsSome (child_at cs b) → (get_or cs at past).0 ≡ b
    same_byte there = ap (λ (k : ℕ). (get_or cs k past).0) place ∙ (place_of_child cs b past s.rising there).1

    -- the name under a byte that has one
    pub table_found : IsSome (child_at cs b) → Some (record { kind = get_or t.kinds at Node4; slot = get_or t.slots at 0 }) ≡ child_at cs b
    table_found there =
        ap (λ (c : Entry). Some c.1) (sym (read_at at (table_place there)))
        ∙ found_at cs b past at place (omega (arith, table_place there, table_length)) (same_byte there)

    -- it gets another name
    pub table_set : (n : OpaqueNodePtr) → IsSome (child_at cs b) → take t.len (rows t.bytes (set t.kinds at n.kind) (set t.slots at n.slot)) ≡ put_child cs b n
    table_set n there =
        let within = table_place there in
        ap (take t.len) (rows-renamed at t.bytes t.kinds t.slots b n (s.kinds ∙ sym s.bytes) (s.slots ∙ sym s.bytes) (omega (arith, within, s.fits, s.bytes))
        (ap (λ (c : Entry). c.0) (sym (read_at at within)) ∙ same_byte there))
        ∙ shown_set (rows t.bytes t.kinds t.slots) t.len at (b, n) within
        ∙ ap (λ (xs : Children). set xs at (b, n)) s.shows
        ∙ put_child_set cs b n past at place (omega (arith, within, table_length)) (same_byte there)

    -- a byte that has none is inserted at its place
    pub table_inserted : (n : OpaqueNodePtr) (nb : List ℕ) (nk : List NodeType) (ns : List ℕ) → t.len < N → child_at cs b ≡ None →
        nb ≡ take at (take (t.len + 1) t.bytes) ++ b ∷ take (length (take (t.len + 1) t.bytes) - 1 - at) (drop at (take (t.len + 1) t.bytes)) →
        nk ≡ take at (take (t.len + 1) t.kinds) ++ n.kind ∷ take (length (take (t.len + 1) t.kinds) - 1 - at) (drop at (take (t.len + 1) t.kinds)) →
        ns ≡ take at (take (t.len + 1) t.slots) ++ n.slot ∷ take (length (take (t.len + 1) t.slots) - 1 - at) (drop at (take (t.len + 1) t.slots)) →
        take (t.len + 1) (rows (nb ++ drop (t.len + 1) t.bytes) (nk ++ drop (t.len + 1) t.kinds) (ns ++ drop (t.len + 1) t.slots)) ≡ put_child cs b n
    table_inserted n nb nk ns room none put_b put_k put_s =
        let at_most : at ≤ t.len = omega (arith, place, table_length, count_below-bound cs b) in
        let front : take t.len (rows t.bytes t.kinds t.slots) ≡ rows (take t.len t.bytes) (take t.len t.kinds) (take t.len t.slots) =
        rows-take t.len t.bytes t.kinds t.slots in
        let long_b : length (take t.len t.bytes) ≡ t.len = length-take-le t.len t.bytes (omega (arith, s.fits, s.bytes)) in
        let long_k : length (take t.len t.kinds) ≡ t.len = length-take-le t.len t.kinds (omega (arith, s.fits, s.kinds)) in
        let long_s : length (take t.len t.slots) ≡ t.len = length-take-le t.len t.slots (omega (arith, s.fits, s.slots)) in
        rows-take (t.len + 1) (nb ++ drop (t.len + 1) t.bytes) (nk ++ drop (t.len + 1) t.kinds) (ns ++ drop (t.len + 1) t.slots)
        ∙ (λ i. rows (front_after t.bytes nb t.len at b at_most (omega (arith, room, s.bytes)) put_b i)
        (front_after t.kinds nk t.len at n.kind at_most (omega (arith, room, s.kinds)) put_k i)
        (front_after t.slots ns t.len at n.slot at_most (omega (arith, room, s.slots)) put_s i))
        ∙ rows-between at (take t.len t.bytes) (take t.len t.kinds) (take t.len t.slots) b n (long_k ∙ sym long_b) (long_s ∙ sym long_b)
        (omega (arith, at_most, long_b))
        ∙ ap (λ (xs : Children). take at xs ++ (b, n) ∷ drop at xs) (sym front ∙ s.shows)
        ∙ put_child_between cs b n past at place (λ within same. none_is_not (ap is_some (sym none ∙ sym (found_at cs b past at place within same))))

    -- a byte that has one is removed
    pub table_removed : (nb : List ℕ) (nk : List NodeType) (ns : List ℕ) → IsSome (child_at cs b) →
        length nb ≡ length (take t.len t.bytes) → take (length (take t.len t.bytes) - 1) nb ≡ remove (take t.len t.bytes) at →
        length nk ≡ length (take t.len t.kinds) → take (length (take t.len t.kinds) - 1) nk ≡ remove (take t.len t.kinds) at →
        length ns ≡ length (take t.len t.slots) → take (length (take t.len t.slots) - 1) ns ≡ remove (take t.len t.slots) at →
        take (t.len - 1) (rows (nb ++ drop t.len t.bytes) (nk ++ drop t.len t.kinds) (ns ++ drop t.len t.slots)) ≡ remove_child cs b
    table_removed nb nk ns there same_b out_b same_k out_k same_s out_s =
        let within = table_place there in
        let long_b : length (take t.len t.bytes) ≡ t.len = length-take-le t.len t.bytes (omega (arith, s.fits, s.bytes)) in
        let long_k : length (take t.len t.kinds) ≡ t.len = length-take-le t.len t.kinds (omega (arith, s.fits, s.kinds)) in
        let long_s : length (take t.len t.slots) ≡ t.len = length-take-le t.len t.slots (omega (arith, s.fits, s.slots)) in
        rows-take (t.len - 1) (nb ++ drop t.len t.bytes) (nk ++ drop t.len t.kinds) (ns ++ drop t.len t.slots)
        ∙ (λ i. rows (front_without t.bytes nb t.len at within (omega (arith, s.fits, s.bytes)) same_b out_b i)
        (front_without t.kinds nk t.len at within (omega (arith, s.fits, s.kinds)) same_k out_k i)
        (front_without t.slots ns t.len at within (omega (arith, s.fits, s.slots)) same_s out_s i))
        ∙ rows-remove at (take t.len t.bytes) (take t.len t.kinds) (take t.len t.slots) (long_k ∙ sym long_b) (long_s ∙ sym long_b)
        ∙ ap (λ (xs : Children). remove xs at) (sym (rows-take t.len t.bytes t.kinds t.slots) ∙ s.shows)
        ∙ removed_at cs b past at s.rising place (omega (arith, within, table_length)) (same_byte there)
