-- What a write does to names with a place for each byte.
use Rattle.std.proofs.Common.{◌≡◌, ℕ, zero, suc, ◌<◌, List, [], length, get_or, set, replicate, Some, refl, ap, ◌∙◌, arith, get_or-set_same, get_or-set_other}
use Rattle.art_inner.specs.Inner.{put_child, remove_child}
use Rattle.art_inner.specs.Tables.{names_by_byte}
use Rattle.art_inner.specs.Direct.{in_place, direct_at}
use Rattle.art_parts.specs.declared.names.OpaqueNodePtr.{OpaqueNodePtr}
use Rattle.art_inner.specs.declared.direct.PlaceKind.{PlaceKind}
use Rattle.art_inner.specs.declared.direct.PlaceKind.TheVariants.{Node4, Vacant}
use Rattle.art_inner.proofs.Extent.{listed_put, listed_remove, listed_none}

same_place : (n k : ℕ) → k < n → get_or (replicate n Vacant) k Node4 ≡ Vacant
same_place zero k h = absurd (omega arith)
same_place (suc n) zero h = refl
same_place (suc n) (suc k) h = same_place n k (omega arith)

pub all_vacant : (slots : List ℕ) (places : List PlaceKind) → places ≡ replicate 256 Vacant → names_by_byte (direct_at slots places) ≡ []
all_vacant slots places is = listed_none (direct_at slots places)
    (λ k h. ap (λ p. in_place p (get_or slots k 0)) (ap (λ (ps : List PlaceKind). get_or ps k Node4) is ∙ same_place 256 k h))

module _ (slots : List ℕ) (places : List PlaceKind) (b : ℕ) (within : b < 256) (as_many_slots : length slots ≡ 256) (as_many : length places ≡ 256) where
  pub direct_put : (place : PlaceKind) (child : OpaqueNodePtr) → ((slot : ℕ) → in_place place slot ≡ Some (record { kind = child.kind; slot = slot })) →
      names_by_byte (direct_at (set slots b child.slot) (set places b place)) ≡ put_child (names_by_byte (direct_at slots places)) b child
  direct_put place child is = listed_put (direct_at slots places) (direct_at (set slots b child.slot) (set places b place)) b within
      (λ k h d. ap (λ p. in_place p (get_or (set slots b child.slot) k 0)) (get_or-set_other places b k place Node4 d)
      ∙ ap (in_place (get_or places k Node4)) (get_or-set_other slots b k child.slot 0 d))
      child
      (ap (λ p. in_place p (get_or (set slots b child.slot) b 0)) (get_or-set_same places b place Node4 (omega (arith, within, as_many)))
      ∙ ap (in_place place) (get_or-set_same slots b child.slot 0 (omega (arith, within, as_many_slots))) ∙ is child.slot)

  pub direct_removed : names_by_byte (direct_at slots (set places b Vacant)) ≡ remove_child (names_by_byte (direct_at slots places)) b
  direct_removed = listed_remove (direct_at slots places) (direct_at slots (set places b Vacant)) b within
      (λ k h d. ap (λ p. in_place p (get_or slots k 0)) (get_or-set_other places b k Vacant Node4 d))
      (ap (λ p. in_place p (get_or slots b 0)) (get_or-set_same places b Vacant Node4 (omega (arith, within, as_many))))
