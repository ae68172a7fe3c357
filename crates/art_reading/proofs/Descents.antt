-- descents to a part of a tree: a node, between pairs of which something holds
use Rattle.std.proofs.Common.{◌≡◌, ◌≢◌, ℕ, ◌+◌, ◌<◌, ◌≤◌, List, [], ◌∷◌, ◌++◌, length, refl, ap, sym, ◌∙◌, arith, subst, length-append, Some, None, inr}
use Rattle.std.specs.List.{AllByRecursion as Each}
use Rattle.art_model.specs.Prelude.{Inner, child_at, Nodes, inner_name, InnerPtr, OpaqueNodePtr, IsCanonicalTree, IsIn, IsFront, Holds, Frame, IsPath, fill, plug, pairs_before, pairs_after, IsRadix, AreRadix, BytesRise, bytes_of, pairs_of, pairs_below, header_at, node_at, Tree, inner, child, canonical_header}
use Rattle.art_model.proofs.stores.Canonical.{tree_radix}
use Rattle.art_model.proofs.lists.Lists.{Each-append, each_from, each_in, in_left, in_right}
use Rattle.art_model.proofs.places.OnWay.{child_under, no_child_under}
use Rattle.art_model.proofs.places.Paths.{path_down}
use Rattle.art_model.proofs.lists.Pairwises.{Pairwise-before, Pairwise-right}
use Rattle.art_model.proofs.radix.Parts.{each_below}
use Rattle.art_model.proofs.radix.Radix.{AreRadix-left, AreRadix-right, bytes_of-join}
use Rattle.art_model.proofs.stores.Shown.{IsShown, IsThere}
use Rattle.art_model.proofs.stores.Stores.{path_holds}
use Rattle.art_reading.specs.PartEnds.{StandsBetween}

-- A node of a radix tree at a place of so many bytes, between pairs of which these hold.
pub record IsDescent {A : Type 0} (bytes : A → List ℕ) (P : ℕ) (Lower Upper : A → Type 0) (tree : Tree OpaqueNodePtr A)
    (name : OpaqueNodePtr) (depth : ℕ) : Type 0 where
  pub at : StandsBetween Lower Upper tree name
  pub place : List ℕ
  pub radix : IsRadix bytes P place at.node
  pub depth_is : length place ≡ depth

module _ {K V : Type 0} {s : Nodes K V} {bytes : K × V → List ℕ} {P : ℕ} {root : OpaqueNodePtr} {pairs : List (K × V)} {layout : Tree OpaqueNodePtr (K × V)}
    (by : IsCanonicalTree bytes P s root pairs layout) {Lower Upper : K × V → Type 0} where
  abbrev pub start : IsDescent bytes P Lower Upper layout root 0
  start = record {
    at = record { path = []; node = layout; whole = refl; named = by.stands.0.named; before = tt; after = tt };
    place = [];
    radix = (tree_radix by).0;
    depth_is = refl;
  }

  -- the node is under its name
  pub stands_there : {name : OpaqueNodePtr} (at : StandsBetween Lower Upper layout name) → IsThere s at.node name
  stands_there at = record { named = at.named; holds = (path_holds (node_at s) at.path at.node (subst (Holds (node_at s)) (sym at.whole) by.stands.0.holds)).1 }

module _ {A : Type 0} {bytes : A → List ℕ} {P : ℕ} {Lower Upper : A → Type 0} {tree : Tree OpaqueNodePtr A} {name : OpaqueNodePtr} {depth : ℕ}
    (d : IsDescent bytes P Lower Upper tree name depth) {p : InnerPtr} {shown : Inner} (at : IsShown d.at.node p shown) where
  pub shown_radix : IsRadix bytes P d.place (inner (inner_name p) (header_at p.kind shown) at.children)
  shown_radix = subst (IsRadix bytes P d.place) at.is d.radix

  -- the place and the whole prefix
  abbrev pub front : List ℕ
  front = d.place ++ shown_radix.0

  part_len : shown.prefix.len ≡ length shown_radix.0
  part_len = ap (λ h. h.length_of) shown_radix.1

  pub front_len : length front ≡ depth + shown.prefix.len
  front_len = let l = part_len in let k = d.depth_is in simp length-append (omega arith)

  -- a byte of a child is one of the node's
  pub child_there : (c : ℕ) → IsIn c (bytes_of at.children) → child_at shown.children c ≡ None → ⊥
  child_there c i none = each_in (λ b. b ≢ c) c (bytes_of at.children) (no_child_under at.children c (ap (λ cs. child_at cs c) (sym at.slots) ∙ none)) i refl

  -- what holds of all pairs that start with the bytes of a child holds of all pairs below the node
  pub each_under : (Q : A → Type 0) → ((c : ℕ) → IsIn c (bytes_of at.children) → (x : A) → IsFront (front ++ c ∷ []) (bytes x) → Q x) →
      Each Q (pairs_of d.at.node)
  each_under Q h =
      subst (λ t. Each Q (pairs_of t)) (sym at.is)
      (each_below bytes P Q at.children front shown_radix.4 (each_from (λ c. (x : A) → IsFront (front ++ c ∷ []) (bytes x) → Q x) (bytes_of at.children) h))

  -- one step down, to a child: what is to hold before and after a node holds of the pairs below the other children
  abbrev pub down : {to : OpaqueNodePtr} (b : ℕ) → child_at shown.children b ≡ Some to →
      ((c : ℕ) → IsIn c (bytes_of at.children) → c < b → (x : A) → IsFront (front ++ c ∷ []) (bytes x) → Lower x) →
      ((c : ℕ) → IsIn c (bytes_of at.children) → b < c → (x : A) → IsFront (front ++ c ∷ []) (bytes x) → Upper x) →
      IsDescent bytes P Lower Upper tree to (depth + shown.prefix.len + 1)
  down {to} b there lower upper =
      let u = child_under at.children b to shown_radix.3 (ap (λ cs. child_at cs b) (sym at.slots) ∙ there) in
      let split : bytes_of at.children ≡ bytes_of u.left ++ b ∷ bytes_of u.right = ap bytes_of u.whole ∙ bytes_of-join u.left (child b u.tree u.right) in
      let up = subst BytesRise split shown_radix.3 in
      let below = subst (AreRadix bytes P front) u.whole shown_radix.4 in
      let all_lower = Pairwise-before ◌<◌ (bytes_of u.left) (bytes_of u.right) b up in
      let all_upper = (Pairwise-right ◌<◌ (bytes_of u.left) (b ∷ bytes_of u.right) up).0 in
      let low = each_below bytes P Lower u.left front (AreRadix-left bytes P front u.left (child b u.tree u.right) below)
      (each_from (λ c. (x : A) → IsFront (front ++ c ∷ []) (bytes x) → Lower x) (bytes_of u.left)
      (λ c i. lower c (subst (IsIn c) (sym split) (in_left c (bytes_of u.left) (b ∷ bytes_of u.right) i))
      (each_in (λ z. z < b) c (bytes_of u.left) all_lower i))) in
      let own = AreRadix-right bytes P front u.left (child b u.tree u.right) below in
      let high = each_below bytes P Upper u.right front own.1
      (each_from (λ c. (x : A) → IsFront (front ++ c ∷ []) (bytes x) → Upper x) (bytes_of u.right)
      (λ c i. upper c (subst (IsIn c) (sym split) (in_right c (bytes_of u.left) (b ∷ bytes_of u.right) (inr i)))
      (each_in (λ z. b < z) c (bytes_of u.right) all_upper i))) in
      record {
        at = record {
          path = record { mark = inner_name p; header = header_at p.kind shown; left = u.left; byte = b; right = u.right } ∷ d.at.path;
          node = u.tree;
          whole = ap (λ cs. plug d.at.path (inner (inner_name p) (header_at p.kind shown) cs)) (sym u.whole) ∙ ap (plug d.at.path) (sym at.is) ∙ d.at.whole;
          named = u.named;
          before = Each-append Lower (pairs_before d.at.path) (pairs_below u.left) d.at.before low;
          after = Each-append Upper (pairs_below u.right) (pairs_after d.at.path) high d.at.after;
        };
        place = front ++ b ∷ [];
        radix = own.0;
        depth_is = length-append front (b ∷ []) ∙ ap (λ n. n + 1) front_len;
      }

  -- the path of a step down is that of the tree, if the path before it is
  pub down_leads : IsPath bytes P d.place d.at.path → {to : OpaqueNodePtr} (b : ℕ) (there : child_at shown.children b ≡ Some to)
      (lower : (c : ℕ) → IsIn c (bytes_of at.children) → c < b → (x : A) → IsFront (front ++ c ∷ []) (bytes x) → Lower x)
      (upper : (c : ℕ) → IsIn c (bytes_of at.children) → b < c → (x : A) → IsFront (front ++ c ∷ []) (bytes x) → Upper x) →
      IsPath bytes P (down b there lower upper).place (down b there lower upper).at.path
  down_leads leads {to} b there lower upper =
      let own = shown_radix in
      let u = child_under at.children b to own.3 (ap (λ cs. child_at cs b) (sym at.slots) ∙ there) in
      let f : Frame OpaqueNodePtr A = record { mark = inner_name p; header = header_at p.kind shown; left = u.left; byte = b; right = u.right } in
      let node : IsRadix bytes P d.place (fill f u.tree) = (
        own.0,
        subst (λ cs. header_at p.kind shown ≡ canonical_header P own.0 (length (bytes_of cs))) u.whole own.1,
        subst (λ cs. 2 ≤ length (bytes_of cs)) u.whole own.2,
        subst (λ cs. BytesRise (bytes_of cs)) u.whole own.3,
        subst (AreRadix bytes P front) u.whole own.4,
      ) in
      (path_down bytes P d.at.path d.place f u.tree leads node).0
