-- Leases by their ids and by the times at which they end. The key of a lease by its end is eight bytes of a time, and then its id.
use Rattle.std.specs.Prelude.{ℕ, Bool, nat_le, ◌&&◌, if◌then◌else◌, List, [], ◌∷◌, length, take, drop, Option, Some, None}
use Rattle.std.specs.Cmp.Lexicographic.{slice_cmp}
use Rattle.std.specs.Ordering.{is_le, nat_cmp}
use Rattle.art_nodes.specs.Nodes.{Nodes}
use Rattle.art_model.specs.Apart.{HasBoth}
use Rattle.art_model.specs.Pairs.{remove_key}
use Rattle.uses.specs.declared.leases.Roots.{Roots}

-- whether a lease with this key of its end ends at a time or before
abbrev pub is_due : List ℕ → List ℕ → Bool
is_due now key = nat_le 8 (length key) && is_le (slice_cmp nat_cmp (take 8 key) now)

-- the id in a key of an end
abbrev pub id_of : List ℕ → List ℕ
id_of key = if nat_le 8 (length key) then drop 8 key else key

module _ {K V : Type 0} (bytes : K × V → List ℕ) where
  -- the lease that ends first, if it ends at a time or before
  abbrev pub first_due : List ℕ → List (K × V) → Option (K × V)
  first_due now [] = None
  first_due now (x ∷ ends) = if is_due now (bytes x) then Some x else None

  -- the leases by their ends without the first ones, which end at a time or before
  abbrev pub ends_after : List ℕ → List (K × V) → List (K × V)
  ends_after now [] = []
  ends_after now (x ∷ ends) = if is_due now (bytes x) then ends_after now ends else x ∷ ends

  -- the leases by their ids without those that end at a time or before, of which these are the ends
  abbrev pub ids_after : List ℕ → List (K × V) → List (K × V) → List (K × V)
  ids_after now ids [] = ids
  ids_after now ids (x ∷ ends) = if is_due now (bytes x) then ids_after now (remove_key bytes (id_of (bytes x)) ids) ends else ids

  -- the store has both trees, for some pairs each
  abbrev pub AreLeases : ℕ → Nodes K V → Roots → Type 0
  AreLeases P s roots =
      (ids : List (K × V)) × (ends : List (K × V)) × HasBoth bytes P s roots.by_id roots.by_end ids ends
