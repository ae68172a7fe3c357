-- the descent to the keys that start with a prefix
use Rattle.std.proofs.Common.{◌≡◌, ◌≢◌, ℕ, ◌+◌, ◌<◌, ◌≤◌, List, [], ◌∷◌, ◌++◌, length, get_or, refl, ap, sym, ◌∙◌, arith, subst, Some, None, Bool, true, false}
use Rattle.std.specs.List.{AllByRecursion as Each}
use Rattle.std.proofs.lemmas.List.{get_or_append_left}
use Rattle.std.proofs.lemmas.List.Elements.{filter-append}
use Rattle.art_model.specs.Prelude.{Inner, child_at, InnerPtr, OpaqueNodePtr, Nodes, IsCanonicalTree, IsIn, IsFront, is_front, nodes_on_way, below, pairs_before, pairs_after, bytes_of, pairs_of, Tree, leaf}
use Rattle.art_model.proofs.keys.Keys.{front_from}
use Rattle.art_model.proofs.lists.Lists.{filter_none, front_cut}
use Rattle.art_model.proofs.places.OnWay.{byte_after}
use Rattle.art_model.proofs.places.Paths.{pairs_of-plug}
use Rattle.art_model.proofs.stores.Shown.{IsShown}
use Rattle.art_reading.specs.PartEnds.{IsNotBelow, EndsBelow}
use Rattle.art_reading.specs.PathSteps.{path_of, step_down}
use Rattle.art_reading.specs.declared.path.TreePath.{TreePath}
use Rattle.art_reading.specs.declared.path.TreePath.TheVariants.{Root}
use Rattle.art_reading.specs.Readings.{left_on_way, levels}
use Rattle.art_reading.proofs.Descents.{IsDescent, start, front, front_len, child_there, each_under, down}
use Rattle.art_reading.proofs.LeftOnWay.{child_left}

-- a key that continues after a part of the prefix with another byte than the prefix does not start with the prefix
other_byte : (prefix front x : List ℕ) (c : ℕ) → length front < length prefix → c ≢ get_or prefix (length front) 0 →
    IsFront (front ++ c ∷ []) x → is_front prefix x ≡ false
other_byte prefix front x c within other leads = go (is_front prefix x) refl
  where
    go : (t : Bool) → is_front prefix x ≡ t → t ≡ false
    go false e = refl
    go true e =
        let (r, is) = front_from prefix x e in
        absurd (other (sym (byte_after front x c leads) ∙ ap (λ z. get_or z (length front) 0) is ∙ get_or_append_left prefix r 0 (length front) within))

-- as many bytes of a key as the prefix has determine whether the prefix is one of the key
front_within : (prefix front r : List ℕ) → length prefix ≤ length front → is_front prefix (front ++ r) ≡ is_front prefix front
front_within [] front r h = refl
front_within (a ∷ prefix) [] r h = absurd (omega arith)
front_within (a ∷ prefix) (b ∷ front) r h = rw (front_within prefix front r (omega arith)) refl

-- A descent to a node of a tree between pairs that do not start with the prefix, by a path.
pub record IsWayBelow {A : Type 0} (bytes : A → List ℕ) (P : ℕ) (prefix : List ℕ) (tree : Tree OpaqueNodePtr A) (path : TreePath)
    (name : OpaqueNodePtr) (depth : ℕ) : Type 0 where
  pub descent : IsDescent bytes P (IsNotBelow bytes prefix) (IsNotBelow bytes prefix) tree name depth
  pub path_is : path ≡ path_of descent.at.path

-- it begins at the root
abbrev pub way_begins : {K V : Type 0} {s : Nodes K V} {bytes : K × V → List ℕ} {P : ℕ} {root : OpaqueNodePtr} {pairs : List (K × V)}
    {layout : Tree OpaqueNodePtr (K × V)} (prefix : List ℕ) →
    IsCanonicalTree bytes P s root pairs layout → {path : TreePath} → path ≡ Root → IsWayBelow bytes P prefix layout path root 0
way_begins prefix by is = record { descent = start by; path_is = is }

module _ {A : Type 0} {bytes : A → List ℕ} {P : ℕ} (prefix : List ℕ) {tree : Tree OpaqueNodePtr A} {path : TreePath} {name : OpaqueNodePtr} {depth : ℕ}
    (way : IsWayBelow bytes P prefix tree path name depth) where
  abbrev d : IsDescent bytes P (IsNotBelow bytes prefix) (IsNotBelow bytes prefix) tree name depth
  d = way.descent

  -- at a leaf the path ends
  pub at_leaf : (n : OpaqueNodePtr) (x : A) → d.at.node ≡ leaf n x → EndsBelow bytes prefix tree (Some (record { path = path; name = name }))
  at_leaf n x is = (
    record {
      at = d.at;
      begin = is_front prefix (bytes x);
      alike = subst (λ t. Each (λ y. is_front prefix (bytes y) ≡ is_front prefix (bytes x)) (pairs_of t)) (sym is) (refl, tt);
    },
    way.path_is,
  )

  module _ {p : InnerPtr} {shown : Inner} (at : IsShown d.at.node p shown) {len : ℕ} (len_is : len ≡ shown.prefix.len) where
    long_front : length (front d at) ≡ depth + len
    long_front = let l = front_len d at in omega arith

    -- the prefix ends with the node's own, or before
    pub at_end : length prefix ≤ depth + len → EndsBelow bytes prefix tree (Some (record { path = path; name = name }))
    at_end short =
        let long : length prefix ≤ length (front d at) = let l = long_front in omega arith in (
          record {
            at = d.at;
            begin = is_front prefix (front d at);
            alike = each_under d at (λ x. is_front prefix (bytes x) ≡ is_front prefix (front d at))
                (λ c i x leads. let (r, e) = front_cut (front d at) (c ∷ []) (bytes x) leads in
                ap (is_front prefix) e ∙ front_within prefix (front d at) r long);
          },
          way.path_is,
        )

    module _ (long : depth + len < length prefix) where
      off : (c : ℕ) → c ≢ get_or prefix (depth + len) 0 → (x : A) → IsFront (front d at ++ c ∷ []) (bytes x) → is_front prefix (bytes x) ≡ false
      off c other x leads =
          let l = long_front in
          other_byte prefix (front d at) (bytes x) c (omega arith) (λ e. other (e ∙ ap (λ n. get_or prefix n 0) l)) leads

      -- there is no child for its byte
      pub at_gap : {byte : ℕ} → get_or prefix (depth + len) 0 ≡ byte → child_at shown.children byte ≡ None → EndsBelow bytes prefix tree None
      at_gap byte_is none =
          let test = λ (x : A). is_front prefix (bytes x) in
          let middle =
          each_under d at (IsNotBelow bytes prefix)
          (λ c i x leads. off c (λ e. child_there d at c i (ap (child_at shown.children) (e ∙ byte_is) ∙ none)) x leads) in
          ap (λ t. below bytes prefix (pairs_of t)) (sym d.at.whole) ∙ ap (below bytes prefix) (pairs_of-plug d.at.path d.at.node)
          ∙ simp (
            filter-append,
            filter_none test (pairs_before d.at.path) d.at.before,
            filter_none test (pairs_of d.at.node) middle,
            filter_none test (pairs_after d.at.path) d.at.after,
          ) refl

      -- the path continues below the child
      pub goes_down : {to : OpaqueNodePtr} {b : ℕ} → get_or prefix (depth + len) 0 ≡ b → child_at shown.children b ≡ Some to →
          (next : IsWayBelow bytes P prefix tree (step_down path p b) to (depth + len + 1))
          × (left_on_way bytes prefix depth d.at.node ≤ left_on_way bytes prefix (depth + len + 1) next.descent.at.node + 1)
      goes_down {to} {b} b_is there =
          let low : (c : ℕ) → IsIn c (bytes_of at.children) → c < b → (x : A) → IsFront (front d at ++ c ∷ []) (bytes x) → IsNotBelow bytes prefix x =
          λ c i less x leads. off c (λ e. omega arith) x leads in
          let high : (c : ℕ) → IsIn c (bytes_of at.children) → b < c → (x : A) → IsFront (front d at ++ c ∷ []) (bytes x) → IsNotBelow bytes prefix x =
          λ c i more x leads. off c (λ e. omega arith) x leads in
          subst (λ n. (next : IsWayBelow bytes P prefix tree (step_down path p b) to (depth + n + 1))
          × (left_on_way bytes prefix depth d.at.node ≤ left_on_way bytes prefix (depth + n + 1) next.descent.at.node + 1)) (sym len_is) (
            record { descent = down d at b there low high; path_is = ap (λ z. step_down z p b) way.path_is },
            child_left d prefix at b (sym b_is ∙ ap (λ n. get_or prefix (depth + n) 0) len_is) there low high,
          )

-- Such a descent, and what it has read: the nodes above that are on the path of the prefix, and at most one for each level.
pub record IsReadBelow {K V : Type 0} (bytes : K × V → List ℕ) (P : ℕ) (s : Nodes K V) (root : OpaqueNodePtr) (prefix : List ℕ)
    (tree : Tree OpaqueNodePtr (K × V)) (path : TreePath)
    (name : OpaqueNodePtr) (depth number : ℕ) : Type 0 where
  pub way : IsWayBelow bytes P prefix tree path name depth
  pub at_least : length (nodes_on_way bytes prefix tree) ≤ number + left_on_way bytes prefix depth way.descent.at.node
  pub at_most : number + levels s name ≤ levels s root
