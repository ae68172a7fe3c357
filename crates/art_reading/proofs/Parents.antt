-- the parent at the end of a path
use Rattle.std.proofs.Common.{◌≡◌, ◌≢◌, ℕ, ◌∷◌, List, [], refl, ap, sym, ◌∙◌, subst, inl, inr, Some}
use Rattle.art_model.specs.Prelude.{Leaf, InnerPtr, OpaqueNodePtr, Nodes, IsCanonicalTree, Holds, Frame, plug, node_at, Tree, as_inner}
use Rattle.art_model.proofs.stores.Stores.{path_holds}
use Rattle.art_model.proofs.stores.Views.{leaf_name_is, leaf_or}
use Rattle.art_reading.specs.EndNodes.{IsAt}
use Rattle.art_reading.specs.PathSteps.{last_step, path_of, step_down}
use Rattle.art_reading.specs.declared.path.TreePath.{TreePath}
use Rattle.art_reading.specs.declared.path.TreePath.TheVariants.{Root, ChildOfRoot, Normal}

last_step-step_down : (way : TreePath) (node : InnerPtr) (byte : ℕ) → last_step (step_down way node byte) ≡ Some (node, byte)
last_step-step_down Root node byte = refl
last_step-step_down (ChildOfRoot parent b) node byte = refl
last_step-step_down (Normal parent b grandparent c) node byte = refl

module _ {K V : Type 0} (s : Nodes K V) (way : TreePath) (node : InnerPtr) (byte : ℕ) where
  -- the node from which a path of a tree descends is an inner one
  frames_proper : (fs : List (Frame OpaqueNodePtr (K × V))) (t : Tree OpaqueNodePtr (K × V)) → Holds (node_at s) (plug fs t) →
      step_down way node byte ≡ path_of fs → node.kind ≢ Leaf
  frames_proper [] t held is = let e = sym (last_step-step_down way node byte) ∙ ap last_step is in absurd cc
  frames_proper (f ∷ fs) t held is =
      let e = sym (last_step-step_down way node byte) ∙ ap last_step is ∙ last_step-step_down (path_of fs) (as_inner f.mark) f.byte in
      let same : ◌≡◌ {A = InnerPtr × ℕ} (node, byte) (as_inner f.mark, f.byte) = cc in
      subst (λ (p : InnerPtr). p.kind ≢ Leaf) (ap (λ z. z.0) (sym same)) (elim (leaf_or f.mark) [
        | inl (p, leaf) ↦ absurd (leaf_name_is s p f.header _ (ap (node_at s) (sym leaf) ∙ (path_holds (node_at s) (f ∷ fs) t held).0.0))
        | inr off ↦ off
      ])

  pub step_proper : {bytes : K × V → List ℕ} {P : ℕ} {root name : OpaqueNodePtr} {pairs : List (K × V)}
      {layout : Tree OpaqueNodePtr (K × V)} {key : List ℕ} {depth : ℕ} →
      IsCanonicalTree bytes P s root pairs layout → IsAt bytes P key layout (step_down way node byte) name depth → node.kind ≢ Leaf
  step_proper by at = frames_proper at.frames at.node (subst (Holds (node_at s)) (sym at.whole) by.stands.0.holds) at.path_is
