-- A tree with another's form and clones of its pairs: it is radix where the other is, and has clones of the pairs.
use Rattle.std.proofs.Common.{◌≡◌, ◌≤◌, ℕ, List, [], ◌∷◌, ◌++◌, length, ap, sym, ◌∙◌, subst, refl}
use Rattle.std.specs.List.{AllZip}
use Rattle.art_model.specs.Prelude.{Nodes, OpaqueNodePtr, IsFront, Tree, leaf, inner, Subtrees, child, no_child, canonical_header, IsRadix, AreRadix, BytesRise, bytes_of, join, pairs_of, pairs_below, name_of, IsCanonicalTree, IsCopy, AreCopies, Gains}
use Rattle.art_model.proofs.stores.Canonical.{tree_radix, canonical_from}

AllZip-append : {A B : Type 0} (R : A → B → Type 0) (xs : List A) (ys : List B) (zs : List A) (ws : List B) → AllZip R xs ys →
    AllZip R zs ws → AllZip R (xs ++ zs) (ys ++ ws)
AllZip-append R [] [] zs ws h k = k
AllZip-append R [] (y ∷ ys) zs ws h k = absurd h
AllZip-append R (x ∷ xs) [] zs ws h k = absurd h
AllZip-append R (x ∷ xs) (y ∷ ys) zs ws h k = (h.0, AllZip-append R xs ys zs ws h.1 k)

module _ {N A : Type 0} (IsClone : A → A → Type 0) where
  -- copies are under the same bytes
  pub copied_bytes : (cs ds : Subtrees N A) → AreCopies IsClone cs ds → bytes_of ds ≡ bytes_of cs
  copied_bytes no_child no_child h = refl
  copied_bytes no_child (child c u ds) h = absurd h
  copied_bytes (child b t cs) no_child h = absurd h
  copied_bytes (child b t cs) (child c u ds) (e, f, h) = rw (e, copied_bytes cs ds h) refl

  -- children and then others
  pub copies_joined : (cs ds others more : Subtrees N A) → AreCopies IsClone cs ds → AreCopies IsClone others more →
      AreCopies IsClone (join cs others) (join ds more)
  copies_joined no_child no_child others more h k = k
  copies_joined no_child (child c u ds) others more h k = absurd h
  copies_joined (child b t cs) no_child others more h k = absurd h
  copies_joined (child b t cs) (child c u ds) others more (e, f, h) k = (e, f, copies_joined cs ds others more h k)

  mutual
    -- the pairs are clones
    pub copied_pairs : (t u : Tree N A) → IsCopy IsClone t u → AllZip IsClone (pairs_of t) (pairs_of u)
    copied_pairs (leaf n x) (leaf m y) h = (h, tt)
    copied_pairs (leaf n x) (inner m g ds) h = absurd h
    copied_pairs (inner n h cs) (leaf m y) k = absurd k
    copied_pairs (inner n h cs) (inner m g ds) k = copied_pairs_below cs ds k.1

    copied_pairs_below : (cs ds : Subtrees N A) → AreCopies IsClone cs ds → AllZip IsClone (pairs_below cs) (pairs_below ds)
    copied_pairs_below no_child no_child h = tt
    copied_pairs_below no_child (child c u ds) h = absurd h
    copied_pairs_below (child b t cs) no_child h = absurd h
    copied_pairs_below (child b t cs) (child c u ds) (e, f, h) =
        AllZip-append IsClone (pairs_of t) (pairs_of u) (pairs_below cs) (pairs_below ds) (copied_pairs t u f) (copied_pairs_below cs ds h)

  module _ (bytes : A → List ℕ) (P : ℕ) (keep : (x y : A) → IsClone x y → bytes y ≡ bytes x) where
    mutual
      -- the copy of a radix tree is one
      pub copied_radix : (t u : Tree N A) (place : List ℕ) → IsCopy IsClone t u → IsRadix bytes P place t → IsRadix bytes P place u
      copied_radix (leaf n x) (leaf m y) place h front = subst (IsFront place) (sym (keep x y h)) front
      copied_radix (leaf n x) (inner m g ds) place h r = absurd h
      copied_radix (inner n h cs) (leaf m y) place k r = absurd k
      copied_radix (inner n h cs) (inner m g ds) place (e, k) (part, head, two, up, below) =
          let same = copied_bytes cs ds k in (
            part,
            e ∙ head ∙ ap (λ z. canonical_header P part (length z)) (sym same),
            subst (λ z. 2 ≤ length z) (sym same) two,
            subst BytesRise (sym same) up,
            copied_radix_below cs ds (place ++ part) k below,
          )

      copied_radix_below : (cs ds : Subtrees N A) (front : List ℕ) → AreCopies IsClone cs ds → AreRadix bytes P front cs → AreRadix bytes P front ds
      copied_radix_below no_child no_child front h r = tt
      copied_radix_below no_child (child c u ds) front h r = absurd h
      copied_radix_below (child b t cs) no_child front h r = absurd h
      copied_radix_below (child b t cs) (child c u ds) front (e, f, h) r =
          (subst (λ z. IsRadix bytes P (front ++ z ∷ []) u) (sym e) (copied_radix t u (front ++ b ∷ []) f r.0), copied_radix_below cs ds front h r.1)

module _ {K V : Type 0} (IsClone : K × V → K × V → Type 0) (bytes : K × V → List ℕ) (P : ℕ) (keep : (x y : K × V) → IsClone x y → bytes y ≡ bytes x)
    {s old new : Nodes K V} {root : OpaqueNodePtr} {pairs : List (K × V)} {layout : Tree OpaqueNodePtr (K × V)} where
  -- a gained copy of a canonical tree is canonical for clones of its pairs
  pub copied_tree : (copy : Tree OpaqueNodePtr (K × V)) → IsCanonicalTree bytes P s root pairs layout → IsCopy IsClone layout copy → Gains old new copy →
      AllZip IsClone pairs (pairs_of copy) × IsCanonicalTree bytes P new (name_of copy) (pairs_of copy) copy
  copied_tree copy is same gains =
      let (radix, pairs_are) = tree_radix is in (
        subst (λ z. AllZip IsClone z (pairs_of copy)) pairs_are (copied_pairs IsClone layout copy same),
        canonical_from (record {
          named = refl;
          radix = copied_radix IsClone bytes P keep layout copy [] same radix;
          pairs_are = refl;
          holds
              = gains.holds;
          distinct = gains.distinct;
          linked = gains.linked;
        }),
      )
