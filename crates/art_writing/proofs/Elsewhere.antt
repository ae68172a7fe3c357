-- A tree is unchanged where the nodes in use hold what they held: writes outside it and reservations don't matter.
use Rattle.std.proofs.Common.{◌≡◌, ◌≢◌, ℕ, List, ap, sym, subst, ◌∙◌, None, Result, Ok, Err, IfOk, OnErr, inl, inr, option_map}
use Rattle.std.specs.FinMap.{get, insert}
use Rattle.art_model.specs.Prelude.{leaf_name, Nodes, LeafPtr, LeafNode, OpaqueNodePtr, IsCanonicalTree, content_at, held_leaf, held_inner, Tree}
use Rattle.art_nodes.proofs.StoreChanges.{leaf_elsewhere as elsewhere}
use Rattle.art_model.proofs.stores.Apart.{name_used, tree_kept}
use Rattle.art_model.proofs.stores.Views.{held_in_inner, leaf_or}

-- placing a leaf leaves the nodes in use
leaf_elsewhere : {K V : Type 0} (s t : Nodes K V) (n : LeafPtr) (x : LeafNode K V) → get s.leaves n ≡ None → t.leaves ≡ insert s.leaves n x →
    t.inners ≡ s.inners → (k : OpaqueNodePtr) → content_at s k ≢ None → content_at t k ≡ content_at s k
leaf_elsewhere s t n x free leaves inners k used = elim (leaf_or k) [
  | inl (p, e) ↦ subst (λ (z : OpaqueNodePtr). content_at t z ≡ content_at s z) (sym e)
      (ap (option_map held_leaf) (ap (λ m. get m p) leaves
      ∙ elsewhere s.leaves n p x (λ f. used (ap (content_at s) e ∙ ap (λ q. content_at s (leaf_name q)) f
      ∙ ap (option_map held_leaf) free))))
  | inr off ↦ held_in_inner t k.kind k.slot off ∙ ap (λ m. option_map held_inner (get m (record { kind = k.kind; slot = k.slot }))) inners
      ∙ sym (held_in_inner s k.kind k.slot off)
]

-- so does a placement that fails
pub placement_elsewhere : {K V E : Type 0} (s t : Nodes K V) (x : LeafNode K V) (result : Result LeafPtr E) →
    IfOk result (λ n. t.leaves ≡ insert s.leaves n x) → IfOk result (λ n. get s.leaves n ≡ None) → t.inners ≡ s.inners → OnErr result (t ≡ s) →
    (k : OpaqueNodePtr) → content_at s k ≢ None → content_at t k ≡ content_at s k
placement_elsewhere s t x (Ok n) leaves free inners same k used = leaf_elsewhere s t n x free leaves inners k used
placement_elsewhere s t x (Err e) leaves free inners same k used = ap (λ m. content_at m k) same

-- a canonical root stays one where what is in use holds what it held
pub tree_stays : {K V : Type 0} {bytes : K × V → List ℕ} {P : ℕ} {s t : Nodes K V} {root : OpaqueNodePtr} {pairs : List (K × V)}
    {layout : Tree OpaqueNodePtr (K × V)} →
    IsCanonicalTree bytes P s root pairs layout → ((k : OpaqueNodePtr) → content_at s k ≢ None → content_at t k ≡ content_at s k) →
    IsCanonicalTree bytes P t root pairs layout
tree_stays by same = tree_kept by (λ k i. same k (name_used by k i))
