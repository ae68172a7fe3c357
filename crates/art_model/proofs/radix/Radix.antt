-- joined children, and the map of a radix tree
use Rattle.std.proofs.Common.{◌≡◌, ℕ, ◌<◌, List, [], ◌∷◌, ◌++◌, length, refl, ap, sym, ◌∙◌, append_assoc, arith}
use Rattle.std.specs.List.{AllByRecursion as Each}
use Rattle.art_model.specs.Prelude.{IsFront, Precedes, Tree, leaf, inner, Subtrees, child, no_child, IsRadix, AreRadix, BytesRise, bytes_of, pairs_of, pairs_below, join, IsMap}
use Rattle.art_model.proofs.lists.Lists.{Each-append, Each-weaker}
use Rattle.art_model.proofs.keys.Keys.{precedes_at, IsMap-append}
use Rattle.art_model.proofs.radix.Rebuild.{radix_way}

module _ {N A : Type 0} where
  pub bytes_of-join : (cs ds : Subtrees N A) → bytes_of (join cs ds) ≡ bytes_of cs ++ bytes_of ds
  bytes_of-join no_child ds = refl
  bytes_of-join (child b t cs) ds = ap (λ l. b ∷ l) (bytes_of-join cs ds)

  pub pairs_below-join : (cs ds : Subtrees N A) → pairs_below (join cs ds) ≡ pairs_below cs ++ pairs_below ds
  pairs_below-join no_child ds = refl
  pairs_below-join (child b t cs) ds = ap (λ l. pairs_of t ++ l) (pairs_below-join cs ds) ∙ sym (append_assoc (pairs_of t) (pairs_below cs) (pairs_below ds))

module _ {N A : Type 0} (bytes : A → List ℕ) (P : ℕ) where
  pub AreRadix-join : (front : List ℕ) (cs ds : Subtrees N A) → AreRadix bytes P front cs → AreRadix bytes P front ds → AreRadix bytes P front (join cs ds)
  AreRadix-join front no_child ds h k = k
  AreRadix-join front (child b t cs) ds h k = (h.0, AreRadix-join front cs ds h.1 k)

  pub AreRadix-left : (front : List ℕ) (cs ds : Subtrees N A) → AreRadix bytes P front (join cs ds) → AreRadix bytes P front cs
  AreRadix-left front no_child ds h = tt
  AreRadix-left front (child b t cs) ds h = (h.0, AreRadix-left front cs ds h.1)

  pub AreRadix-right : (front : List ℕ) (cs ds : Subtrees N A) → AreRadix bytes P front (join cs ds) → AreRadix bytes P front ds
  AreRadix-right front no_child ds h = h
  AreRadix-right front (child b t cs) ds h = AreRadix-right front cs ds h.1

module _ {A : Type 0} (bytes : A → List ℕ) where
  -- a key continues after a prefix with a byte below, or above, a given one
  abbrev pub PartsBelow : List ℕ → ℕ → A → Type 0
  PartsBelow front b x = (c : ℕ) × (c < b) × IsFront (front ++ c ∷ []) (bytes x)

  abbrev pub PartsAbove : List ℕ → ℕ → A → Type 0
  PartsAbove front b x = (c : ℕ) × (b < c) × IsFront (front ++ c ∷ []) (bytes x)

  pub parts : (front : List ℕ) (b c : ℕ) (x y : List ℕ) → IsFront (front ++ b ∷ []) x → IsFront (front ++ c ∷ []) y → b < c → Precedes x y
  parts front b c x y (r, e) (s, f) h = precedes_at front b c r s x y (e ∙ append_assoc front (b ∷ []) r) (f ∙ append_assoc front (c ∷ []) s) h

module _ {A : Type 0} where
  each_pair : (R : A → A → Type 0) (Q S : A → Type 0) → ((x y : A) → Q x → S y → R x y) → (xs ys : List A) → Each Q xs → Each S ys →
      Each (λ x. Each (λ y. R x y) ys) xs
  each_pair R Q S f [] ys h k = tt
  each_pair R Q S f (x ∷ xs) ys h k = (Each-weaker S (λ y. R x y) (λ y s. f x y h.0 s) ys k, each_pair R Q S f xs ys h.1 k)

module _ {N A : Type 0} (bytes : A → List ℕ) (P : ℕ) where
  pub all_above : (front : List ℕ) (b : ℕ) (cs : Subtrees N A) → AreRadix bytes P front cs → Each (λ c. b < c) (bytes_of cs) →
      Each (PartsAbove bytes front b) (pairs_below cs)
  all_above front b no_child h up = tt
  all_above front b (child c t cs) h up = Each-append (PartsAbove bytes front b) (pairs_of t) (pairs_below cs)
      (Each-weaker (λ x. IsFront (front ++ c ∷ []) (bytes x)) (PartsAbove bytes front b) (λ x f. (c, up.0, f)) (pairs_of t)
      (radix_way bytes P t (front ++ c ∷ []) h.0))
      (all_above front b cs h.1 up.1)

  pub all_below : (front : List ℕ) (b : ℕ) (cs : Subtrees N A) → AreRadix bytes P front cs → Each (λ c. c < b) (bytes_of cs) →
      Each (PartsBelow bytes front b) (pairs_below cs)
  all_below front b no_child h up = tt
  all_below front b (child c t cs) h up = Each-append (PartsBelow bytes front b) (pairs_of t) (pairs_below cs)
      (Each-weaker (λ x. IsFront (front ++ c ∷ []) (bytes x)) (PartsBelow bytes front b) (λ x f. (c, up.0, f)) (pairs_of t)
      (radix_way bytes P t (front ++ c ∷ []) h.0))
      (all_below front b cs h.1 up.1)

  -- the pairs of a radix tree are a map
  mutual
    pub radix_map : (t : Tree N A) (place : List ℕ) → IsRadix bytes P place t → IsMap bytes (pairs_of t)
    radix_map (leaf n x) place h = (tt, tt)
    radix_map (inner n h cs) place (part, e, two, up, below) = radix_map_below cs (place ++ part) up below

    radix_map_below : (cs : Subtrees N A) (front : List ℕ) → BytesRise (bytes_of cs) → AreRadix bytes P front cs → IsMap bytes (pairs_below cs)
    radix_map_below no_child front up h = tt
    radix_map_below (child b t cs) front up h =
        IsMap-append bytes (pairs_of t) (pairs_below cs) (radix_map t (front ++ b ∷ []) h.0) (radix_map_below cs front up.1 h.1)
        (each_pair (λ x y. Precedes (bytes x) (bytes y)) (λ x. IsFront (front ++ b ∷ []) (bytes x)) (PartsAbove bytes front b)
        (λ x y f g. parts bytes front b g.0 (bytes x) (bytes y) f g.2 g.1) (pairs_of t) (pairs_below cs)
        (radix_way bytes P t (front ++ b ∷ []) h.0) (all_above front b cs h.1 up.0))

-- children of which there is one
pub only_child : {N A : Type 0} (cs : Subtrees N A) → length (bytes_of cs) ≡ 1 → (c : ℕ) × (t : Tree N A) × (cs ≡ child c t no_child)
only_child no_child e = absurd (omega arith)
only_child (child c t no_child) e = (c, t, refl)
only_child (child c t (child d u cs)) e = absurd (omega arith)
