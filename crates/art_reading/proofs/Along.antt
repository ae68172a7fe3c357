-- the descent along an edge, with its path
use Rattle.std.proofs.Common.{◌≡◌, ℕ, ◌-◌, ◌<◌, List, length, slice_get, refl, ap, sym, ◌∙◌}
use Rattle.std.specs.FinMap as map
use Rattle.art_model.specs.Prelude.{Inner, leaf_name, Nodes, LeafPtr, InnerPtr, OpaqueNodePtr, Tree, no_child, node_at, height, Frame, IsFullTree}
use Rattle.art_model.proofs.places.EdgeDescents.{AreFirst, AreLast, IsAtEdge, edge_start, edge_down, first_child, last_child, first_leaf, last_leaf}
use Rattle.art_model.proofs.stores.Shown.{IsShown}
use Rattle.art_reading.specs.declared.lookup.descent.End.{End}
use Rattle.art_reading.specs.declared.lookup.descent.End.TheVariants.{First, Last}
use Rattle.art_reading.specs.declared.path.TreePath.{TreePath}
use Rattle.art_reading.specs.declared.path.TreePath.TheVariants.{Root}
use Rattle.art_reading.specs.PathSteps.{step_down, path_of}
use Rattle.art_reading.specs.Descents.{IsEndChild, LeadsToEnd}

-- the frames keep to an end, and the path has the last of them
abbrev pub IsAlong : {A : Type 0} → End → TreePath → List (Frame OpaqueNodePtr A) → Type 0
IsAlong First path frames = AreFirst frames × (path ≡ path_of frames)
IsAlong Last path frames = AreLast frames × (path ≡ path_of frames)

module _ {K V : Type 0} {s : Nodes K V} {tree : Tree OpaqueNodePtr (K × V)} where
  pub start : {root : OpaqueNodePtr} (end : End) → IsFullTree s root tree → IsAtEdge (IsAlong end Root) s tree root
  start First full = edge_start (IsAlong First Root) s tree full (tt, refl)
  start Last full = edge_start (IsAlong Last Root) s tree full (tt, refl)

  module _ (path : TreePath) {name : OpaqueNodePtr} where
    -- at a leaf it ends
    pub ends : (end : End) {p : LeafPtr} → leaf_name p ≡ name → IsAtEdge (IsAlong end path) s tree name → LeadsToEnd tree end path p
    ends First is d =
        let (name_is, (x, pair_is, whole)) = first_leaf is d d.along.0 in
        (record { name_is = name_is; pair = x; pair_is = pair_is; has = record { path = d.path; whole = whole } }, d.along.1)
    ends Last is d =
        let (name_is, (x, pair_is, whole)) = last_leaf is d d.along.0 in
        (record { name_is = name_is; pair = x; pair_is = pair_is; has = record { path = d.path; whole = whole } }, d.along.1)

    -- at an inner node it continues below the child at the end
    pub steps : (end : End) {p : InnerPtr} {shown : Inner} (d : IsAtEdge (IsAlong end path) s tree name) → IsShown d.node p shown →
        (r : ℕ × OpaqueNodePtr) → IsEndChild end shown.children r →
        IsAtEdge (IsAlong end (step_down path p r.0)) s tree r.1 × (height (node_at s) (map.len s.inners) r.1 < height (node_at s) (map.len s.inners) name)
    steps First {p} d at r e =
        let (t, ds, split, named) = first_child at.children r (ap (λ cs. slice_get cs 0) (sym at.slots) ∙ e) in
        edge_down (IsAlong First path) s tree d at (IsAlong First (step_down path p r.0)) no_child r.0 t ds split named
        ((refl, d.along.0), ap (λ z. step_down z p r.0) d.along.1)
    steps Last {p} d at r e =
        let (ds, t, split, named) = last_child at.children r (ap (λ cs. slice_get cs (length cs - 1)) (sym at.slots) ∙ e) in
        edge_down (IsAlong Last path) s tree d at (IsAlong Last (step_down path p r.0)) ds r.0 t no_child split named
        ((refl, d.along.0), ap (λ z. step_down z p r.0) d.along.1)
