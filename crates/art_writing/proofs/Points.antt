-- the point of a key's end node
use Rattle.std.proofs.Common.{◌≡◌, ℕ, List, ap, sym, ◌∙◌, subst, is_none, Some, None}
use Rattle.art_model.specs.Prelude.{Nodes, OpaqueNodePtr, IsCanonicalTree, depth_of, ForTree, IsCanonicalRoot, Tree}
use Rattle.art_reading.specs.EndNodes.{ComesTo, IsEndFor}
use Rattle.art_reading.specs.declared.end_node.EndNode.{EndNode}
use Rattle.art_reading.specs.declared.end_node.InsertKind.{InsertKind}
use Rattle.art_writing.specs.Overwritten.{HasPrefixPoint, root_of}
use Rattle.art_writing.specs.Points.{IsPointFor}
use Rattle.art_writing.specs.declared.insert.PrefixInsertPoint.{PrefixInsertPoint}
use Rattle.art_writing.specs.declared.insert.PrefixInsertPoint.TheVariants.{InsertPoint, OverwritePoint}
use Rattle.art_writing.proofs.Standing.{prefix_point_in}

-- the points of either kind at an end node
abbrev inserting : OpaqueNodePtr → EndNode → InsertKind → PrefixInsertPoint
inserting root end kind =
    InsertPoint (record { path = end.path; insert_kind = kind; key_bytes_used = end.key_bytes_used; root = root })

abbrev overwriting : OpaqueNodePtr → EndNode → PrefixInsertPoint
overwriting root end =
    OverwritePoint (record { path = end.path; overwrite_point = end.name; key_bytes_used = end.key_bytes_used; root = root })

module _ {K V : Type 0} {s : Nodes K V} {bytes : K × V → List ℕ} {P : ℕ} {root : OpaqueNodePtr} {pairs : List (K × V)}
    {layout : Tree OpaqueNodePtr (K × V)} {key : List ℕ} (by : IsCanonicalTree bytes P s root pairs layout) {end : EndNode} where
  -- a kind makes an insert point
  pub insert_point : {kind : InsertKind} → end.insert_kind ≡ Some kind → IsEndFor bytes P key pairs layout end →
      IsPointFor bytes P key pairs layout (inserting root end kind)
  insert_point is (conflict, has) = (
    conflict ∙ ap is_none is,
    record {
      path = has.path;
      node = has.node;
      is_end = has.is_end;
      root_is = sym by.stands.0.named;
      path_is = has.path_is;
      kind_is = subst (ComesTo bytes P key has.node (depth_of has.path) end.key_bytes_used) is has.kind_is;
    },
  )

  -- and where there is none it is one to overwrite
  pub overwrite_point : end.insert_kind ≡ None → IsEndFor bytes P key pairs layout end → IsPointFor bytes P key pairs layout (overwriting root end)
  overwrite_point is (conflict, has) = (
    conflict ∙ ap is_none is,
    record {
      path = has.path;
      node = has.node;
      is_end = has.is_end;
      root_is = sym by.stands.0.named;
      path_is = has.path_is;
      name_is = has.name_is;
      gives_way = subst (ComesTo bytes P key has.node (depth_of has.path) end.key_bytes_used) is has.kind_is;
    },
  )

-- a point of a key in the tree can be applied
pub has_prefix_point : {K V : Type 0} {s : Nodes K V} {bytes : K × V → List ℕ} {P : ℕ} {root : OpaqueNodePtr} {key : List ℕ} {point : PrefixInsertPoint} →
    IsCanonicalRoot bytes P s root → root_of point ≡ root → ForTree bytes P s root (λ pairs layout. IsPointFor bytes P key pairs layout point) →
    HasPrefixPoint bytes P s root key point
has_prefix_point {key = key} {point} (pairs, layout, by) same at =
    record { point = at; root = same; applies = prefix_point_in key by point (at pairs layout by) }
