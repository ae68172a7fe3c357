-- The points of a prefix: that of the node below which its keys are, and that of the first leaf below that node.
use Rattle.std.proofs.Common.{◌≡◌, ℕ, List, [], ◌∷◌, ◌++◌, refl, ap, sym, ◌∙◌, true, Some, None}
use Rattle.art_model.specs.Prelude.{leaf_name, InnerPtr, OpaqueNodePtr, HasFirstLeaf, first_of, below, Frame, plug, pairs_of, Tree, leaf, as_inner}
use Rattle.art_reading.specs.PartEnds.{HasAllBelow}
use Rattle.art_reading.specs.PathSteps.{path_of, step_down}
use Rattle.art_reading.specs.declared.lookup.descent.LastNode.{LastNode}
use Rattle.art_reading.specs.declared.path.TreePath.{TreePath}
use Rattle.art_reading.specs.declared.path.TreePath.TheVariants.{Root, ChildOfRoot, Normal}
use Rattle.art_writing.specs.Deleted.{LeadsTo}
use Rattle.art_writing.specs.SubtreePoints.{ArePointsBelow, joined}
use Rattle.art_writing.specs.declared.delete.DeletePoint.{DeletePoint}
use Rattle.art_writing.specs.declared.delete.subtree.SubtreeDeletePoint.{SubtreeDeletePoint}
use Rattle.art_writing.proofs.Collapses.{plug-append}
use Rattle.art_writing.proofs.SubtreePointLemmas.{these_are, these_go}

-- a step further down is one after both paths
joined_step : (above below : TreePath) (node : InnerPtr) (byte : ℕ) → joined above (step_down below node byte) ≡ step_down (joined above below) node byte
joined_step above Root node byte = refl
joined_step Root (ChildOfRoot parent b) node byte = refl
joined_step (ChildOfRoot p c) (ChildOfRoot parent b) node byte = refl
joined_step (Normal p c q d) (ChildOfRoot parent b) node byte = refl
joined_step above (Normal parent b grandparent c) node byte = refl

-- the two paths are one of the model
joined_path : {A : Type 0} (gs fs : List (Frame OpaqueNodePtr A)) → joined (path_of fs) (path_of gs) ≡ path_of (gs ++ fs)
joined_path [] fs = refl
joined_path (g ∷ gs) fs =
    joined_step (path_of fs) (path_of gs) (as_inner g.mark) g.byte
    ∙ ap (λ path. step_down path (as_inner g.mark) g.byte) (joined_path gs fs)

-- where the keys below the node start with the prefix, its first leaf has the first of these
pub points_there : {A : Type 0} (bytes : A → List ℕ) (prefix : List ℕ) (layout : Tree OpaqueNodePtr A) (end : LastNode)
    (all : HasAllBelow bytes prefix layout end.name) →
    end.path ≡ path_of all.at.path → all.begin ≡ true → (point : DeletePoint) (first : HasFirstLeaf all.at.node (leaf_name point.leaf_node_ptr)) →
    point.path ≡ joined end.path (path_of first.has.path) → ArePointsBelow bytes prefix layout (Some (record { path = end.path; node = end.name }, point))
points_there bytes prefix layout end all path_is on point first below_is = (
  these_go bytes prefix layout end all path_is on,
  first.pair,
  ap first_of (sym (these_are bytes prefix layout end all on)) ∙ first.pair_is,
  record {
    path = first.has.path ++ all.at.path;
    whole = plug-append first.has.path all.at.path (leaf (leaf_name point.leaf_node_ptr) first.pair) ∙ ap (plug all.at.path) first.has.whole ∙ all.at.whole;
    path_is = below_is ∙ ap (λ above. joined above (path_of first.has.path)) path_is ∙ joined_path first.has.path all.at.path;
  },
)

module _ {A : Type 0} (bytes : A → List ℕ) (prefix : List ℕ) (layout : Tree OpaqueNodePtr A) {pairs : List A} (same : pairs_of layout ≡ pairs) where
  -- where there are no points no key starts with the prefix
  pub first_gone : ArePointsBelow bytes prefix layout None → first_of (below bytes prefix pairs) ≡ None
  first_gone none = ap first_of (ap (below bytes prefix) (sym same) ∙ none)

  -- where there are, the second leads to the leaf of the first pair whose key does
  pub first_there : {points : SubtreeDeletePoint × DeletePoint} → ArePointsBelow bytes prefix layout (Some points) →
      (x : A) × (first_of (below bytes prefix pairs) ≡ Some x) × LeadsTo layout x points.1
  first_there (all, x, is, leads) = (x, ap (λ ps. first_of (below bytes prefix ps)) (sym same) ∙ is, leads)
