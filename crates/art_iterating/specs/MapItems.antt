-- The pairs that an iterator has left.
use Rattle.std.specs.Prelude.{◌≡◌, ◌≤◌, ◌==◌, if◌then◌else◌, ℕ, zero, suc, List, [], ◌∷◌, ◌++◌, length, MatchOption, Option, Some, None}
use Rattle.std.specs.FinMap as nodes
use Rattle.art_nodes.specs.Nodes.{Nodes}
use Rattle.art_parts.specs.declared.names.LeafPtr.{LeafPtr}
use Rattle.art_parts.specs.declared.names.OpaqueNodePtr.{OpaqueNodePtr}
use Rattle.art_reading.specs.Iterators.{IsIteratorOf, pairs_left}
use denote.Ref.{Bor}
pub use Rattle.std.specs.Map.{keys_of, values_of}

module _ {K V : Type 0} where
  -- how many leaves there are from this one to the last one, at most so many
  unfoldable pub leaves_to : Nodes K V → LeafPtr → ℕ → Option LeafPtr → ℕ
  leaves_to s last zero leaf = 0
  leaves_to s last (suc n) None = 0
  leaves_to s last (suc n) (Some p) =
      if p.slot == last.slot then 1
      else elim (nodes.get s.leaves p) [ None ↦ 0 | Some leaf ↦ suc (leaves_to s last n leaf.next) ]

  -- how many leaves an iterator has left, at most so many
  abbrev pub walk_len : Nodes K V → Option (LeafPtr × LeafPtr) → ℕ → ℕ
  walk_len s None n = 0
  walk_len s (Some ends) n = leaves_to s ends.1 n (Some ends.0)

  -- the pairs that an iterator over at most so many leaves has left
  abbrev pub pairs_between : Nodes K V → Option (LeafPtr × LeafPtr) → ℕ → List (K × V)
  pairs_between s walk n = pairs_left s walk (walk_len s walk n)

-- The iterator is one over at most so many leaves of the store.
pub record IsRange {K V : Type 0} (s : Nodes K V) (walk : Option (LeafPtr × LeafPtr)) (at_most : ℕ) : Type 0 where
  pub names : List OpaqueNodePtr
  pub is : IsIteratorOf s walk names
  pub few : length names ≤ at_most

-- the count is one less if a pair was returned
abbrev pub CountsDown : {A : Type 0} → ℕ → Option A → ℕ → Type 0
CountsDown old pair new = MatchOption pair (new ≡ old) (λ x. old ≡ suc new)

-- the pair that a pair of borrows points to
abbrev pub deref_pair : {K V : Type 0} → Bor K × Bor V → K × V
deref_pair p = (p.0.now, p.1.now)

module _ {K V : Type 0} where
  -- the first of the pairs was returned, and the others are left; or there was none
  abbrev pub TakesFirst : List (K × V) → Option (Bor K × Bor V) → List (K × V) → Type 0
  TakesFirst s r t = MatchOption r ((s ≡ []) × (t ≡ [])) (λ x. s ≡ deref_pair x ∷ t)

  -- the same of the last pair
  abbrev pub TakesLast : List (K × V) → Option (Bor K × Bor V) → List (K × V) → Type 0
  TakesLast s r t = MatchOption r ((s ≡ []) × (t ≡ [])) (λ x. s ≡ t ++ deref_pair x ∷ [])

module _ {A : Type 0} where
  -- the first of a list was returned as a borrow, and the others are left; or there was none
  abbrev pub ShowsFirst : List A → Option (Bor A) → List A → Type 0
  ShowsFirst s r t = MatchOption r ((s ≡ []) × (t ≡ [])) (λ x. s ≡ x.now ∷ t)

  -- the same of the last one
  abbrev pub ShowsLast : List A → Option (Bor A) → List A → Type 0
  ShowsLast s r t = MatchOption r ((s ≡ []) × (t ≡ [])) (λ x. s ≡ t ++ x.now ∷ [])
