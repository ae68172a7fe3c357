-- The theorem that every operation uses: with another tree in the hole of a path, and the links updated, the root is canonical for the changed pairs.
use Rattle.std.proofs.Common.{◌≡◌, ◌≢◌, ℕ, List, ◌++◌, sym, ap, ◌∙◌, subst, append_assoc, Option, None}
use Rattle.std.specs.List.{AllByRecursion as Each}
use Rattle.art_model.specs.Prelude.{IsFront, Tree, pairs_of, IsRadix, Frame, plug, IsPath, leaves_before, leaves_after, Node, name_of, names_of, leaf_names, AreDistinct, Links, AreLinked}
use Rattle.art_model.proofs.pairs.Between.{IsLocal}
use Rattle.art_model.proofs.stores.Canonical.{IsLaidOut}
use Rattle.art_model.proofs.leaves.Links.{Relinked, relink}
use Rattle.art_model.proofs.lists.Lists.{Each-left}
use Rattle.art_model.proofs.stores.Names.{taken_distinct, takes_leaves}
use Rattle.art_model.proofs.lists.Pairwises.{Pairwise-left, Pairwise-right, Pairwise-across, Pairwise-append}
use Rattle.art_model.proofs.places.Paths.{root_with, name_of-plug, leaf_names-plug, changed_at}
use Rattle.art_model.proofs.stores.Stores.{ParentHas, SameBut, Regrown, replace}

-- `t` in the hole of a path became `u`: a radix tree, held in the new store, which the parent names; the rest is unchanged, and all leaves are linked
pub record Replaced {N A : Type 0} (bytes : A → List ℕ) (P : ℕ) (at to : N → Option (Node N A)) (links : N → Option (Links N))
    (fs : List (Frame N A)) (place : List ℕ) (t u : Tree N A) : Type 0 where
  pub path : IsPath bytes P place fs
  pub radix : IsRadix bytes P place u
  pub parent : ParentHas to fs (name_of u)
  pub regrown : Regrown at to t u
  pub same : SameBut at to fs (names_of t)
  pub linked : AreLinked links None (leaf_names (plug fs u)) None

module _ {N A : Type 0} {bytes : A → List ℕ} {P : ℕ} {at to : N → Option (Node N A)} {before links : N → Option (Links N)} {root : N} {pairs : List A}
    {fs : List (Frame N A)} {place : List ℕ} {t u : Tree N A} where
  -- The whole has a layout again, for what a local change at a key makes of the pairs.
  pub replaced : IsLaidOut bytes P at before root pairs (plug fs t) → Replaced bytes P at to links fs place t u →
      (key : List ℕ) (F : List A → List A) → IsLocal bytes key F → IsFront place key → pairs_of u ≡ F (pairs_of t) →
      IsLaidOut bytes P to links (root_with fs root (name_of u)) (F pairs) (plug fs u)
  replaced old new key F local front its =
      let (radix, all) = changed_at bytes P fs place new.path t u new.radix key F local front its in
      let (holds, distinct) = replace at to fs t u old.holds old.distinct new.parent new.regrown new.same in
      record {
        named = name_of-plug fs t u ∙ ap (λ r. root_with fs r (name_of u)) old.named;
        radix = radix;
        pairs_are = all ∙ ap F old.pairs_are;
        holds = holds;
        distinct = distinct;
        linked = new.linked;
      }

-- ---- what a change of the leaves in the hole does to all leaves

module _ {N A : Type 0} (fs : List (Frame N A)) where
  -- the leaves before, in the middle and after, where the middle is in the hole
  leaf_names-parts : (t : Tree N A) (xs ms zs : List N) → leaf_names t ≡ xs ++ ms ++ zs →
      leaf_names (plug fs t) ≡ (leaves_before fs ++ xs) ++ ms ++ (zs ++ leaves_after fs)
  leaf_names-parts t xs ms zs e = leaf_names-plug fs t ∙ ap (λ z. leaves_before fs ++ z ++ leaves_after fs) e ∙ simp append_assoc

  -- The leaves in the middle of the hole are others, and the links are updated.
  pub linked_in_hole : (before links : N → Option (Links N)) (t u : Tree N A) (xs ms ns zs : List N) → AreDistinct (names_of (plug fs t)) →
      AreLinked before None (leaf_names (plug fs t)) None →
      leaf_names t ≡ xs ++ ms ++ zs → leaf_names u ≡ xs ++ ns ++ zs →
      Relinked before links (leaves_before fs ++ xs) ns (zs ++ leaves_after fs) → AreLinked links None (leaf_names (plug fs u)) None
  linked_in_hole before links t u xs ms ns zs distinct linked old new change =
      let left = leaves_before fs ++ xs in
      let right = zs ++ leaves_after fs in
      let was = leaf_names-parts t xs ms zs old in
      let all : AreDistinct (left ++ ms ++ right) = subst AreDistinct was (taken_distinct takes_leaves (plug fs t) distinct) in
      let outer =
      Pairwise-append ◌≢◌ left right (Pairwise-left ◌≢◌ left ms (Pairwise-left ◌≢◌ (left ++ ms) right all))
      (Pairwise-right ◌≢◌ (left ++ ms) right all)
      (Each-left (λ x. Each (λ y. x ≢ y) right) left ms (Pairwise-across ◌≢◌ (left ++ ms) right all)) in
      subst (λ ks. AreLinked links None ks None) (sym (leaf_names-parts u xs ns zs new))
      (relink before links left ns right outer change ms (subst (λ ks. AreLinked before None ks None) was linked))
