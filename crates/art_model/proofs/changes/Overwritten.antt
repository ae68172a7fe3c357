-- A leaf replaces all that is in the hole.
use Rattle.std.proofs.Common.{◌≡◌, ℕ, List, [], ◌∷◌, sym, ◌∙◌, subst, Option, Some, None, ◌⊎◌}
use Rattle.art_model.specs.Prelude.{Tree, leaf, pairs_of, Frame, plug, inner_nodes, Node, leaf_node, names_of, leaf_names, AreLinked, Links, entries_of, IsIn}
use Rattle.art_model.proofs.pairs.Between.{IsLocal}
use Rattle.art_model.proofs.places.Paths.{IsHole, root_with, leaf_names-plug}
use Rattle.art_model.proofs.changes.Kept.{KeepLeaves, kept_leaves}
use Rattle.art_model.proofs.places.Wholes.{KeepNames, kept}
use Rattle.art_model.proofs.stores.Stores.{SameBut, ParentHas}
use Rattle.art_model.proofs.leaves.Links.{linked-frame}
use Rattle.art_model.proofs.lists.Lists.{each_from}
use Rattle.art_model.proofs.stores.Canonical.{IsLaidOut}
use Rattle.art_model.proofs.changes.Regrown.{leaf_regrown}
use Rattle.art_model.proofs.changes.Replaced.{replaced}

-- All in the hole was replaced by one leaf, which has an old name or one that was free.
pub record LeafAlone {N A : Type 0} (bytes : A → List ℕ) (P : ℕ) (at to : N → Option (Node N A)) (links : N → Option (Links N))
    (fs : List (Frame N A)) (place : List ℕ) (t : Tree N A) (n : N) (new : A) : Type 0 where
  pub hole : IsHole bytes P fs place t (bytes new)
  pub named : IsIn n (names_of t) ⊎ (at n ≡ None)
  pub there : to n ≡ Some (leaf_node new)
  pub parent : ParentHas to fs n
  pub same : SameBut at to fs (names_of t)
  pub linked : AreLinked links None (leaf_names (plug fs (leaf n new))) None

module _ {N A : Type 0} {bytes : A → List ℕ} {P : ℕ} {at to : N → Option (Node N A)} {before links : N → Option (Links N)} {fs : List (Frame N A)}
    {place : List ℕ} {t : Tree N A} {n : N} {new : A} {root : N} {pairs : List A}
    (old : IsLaidOut bytes P at before root pairs (plug fs t)) (is : LeafAlone bytes P at to links fs place t n new) where
  -- the root is canonical for the result of an operation that leaves only the new pair in the hole
  pub leaf_alone : (F : List A → List A) → IsLocal bytes (bytes new) F → F (pairs_of t) ≡ new ∷ [] →
      IsLaidOut bytes P to links (root_with fs root n) (F pairs) (plug fs (leaf n new))
  leaf_alone F local its = replaced old (record {
    path = is.hole.path;
    radix = is.hole.front;
    parent = is.parent;
    regrown = leaf_regrown at to t n new is.named is.there;
    same = is.same;
    linked = is.linked;
  }) (bytes new) F local is.hole.front (sym its)

  -- inner nodes that stay keep their names
  pub leaf_alone_keeps : KeepNames (inner_nodes bytes 0 (plug fs t)) (inner_nodes bytes 0 (plug fs (leaf n new)))
  leaf_alone_keeps = kept bytes P fs place t (leaf n new) is.hole.path is.hole.radix is.hole.front (λ e f i j. absurd j)

  -- keys that stay keep their leaves' names, where those in the hole do
  pub leaf_alone_keeps_leaves : (F : List A → List A) → IsLocal bytes (bytes new) F → F (pairs_of t) ≡ new ∷ [] →
      KeepLeaves bytes P (entries_of t) (entries_of (leaf n new)) → KeepLeaves bytes P (entries_of (plug fs t)) (entries_of (plug fs (leaf n new)))
  leaf_alone_keeps_leaves F local its kept_here = kept_leaves bytes P fs t (leaf n new) old.radix (leaf_alone F local its).radix kept_here

-- ---- the chain, where a pair is replaced in its leaf

module _ {N A : Type 0} {bytes : A → List ℕ} {P : ℕ} {at : N → Option (Node N A)} {before links : N → Option (Links N)} {root : N}
    {pairs : List A} (fs : List (Frame N A)) where
  -- where no link of a leaf changed
  pub linked_still : (n : N) (x new : A) → IsLaidOut bytes P at before root pairs (plug fs (leaf n x)) →
      ((k : N) → IsIn k (leaf_names (plug fs (leaf n x))) → links k ≡ before k) → AreLinked links None (leaf_names (plug fs (leaf n new))) None
  linked_still n x new old same =
      let names : leaf_names (plug fs (leaf n x)) ≡ leaf_names (plug fs (leaf n new)) = leaf_names-plug fs (leaf n x) ∙ sym (leaf_names-plug fs (leaf n new)) in
      subst (λ ks. AreLinked links None ks None) names (linked-frame before links (leaf_names (plug fs (leaf n x))) None None
      (each_from (λ k. links k ≡ before k) (leaf_names (plug fs (leaf n x))) same) old.linked)
