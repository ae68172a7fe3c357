-- What is read before a branch is placed: where the key differs from those below the end of its path, and the neighbours of the new leaf.
use Rattle.std.proofs.Common.{◌≡◌, ◌≢◌, ℕ, ◌+◌, ◌-◌, ◌<◌, ◌≤◌, List, [], ◌∷◌, ◌++◌, length, take, drop, get_or, Option, Some, None, option_map, option_and_then}
use Rattle.std.proofs.Common.{IsSome, IsSomeAnd, refl, ap, ap₂, sym, ◌∙◌, subst, arith, cond, ltb, Bool, true, false, append_assoc, append-nil}
use Rattle.std.proofs.Common.{length-append, take_at}
use Rattle.std.proofs.lemmas.List.{get_or_at, take-append-drop}
use Rattle.std.proofs.lemmas.Option.{slice_get_within, get_or_from_slice_get}
use Rattle.std.specs.FinMap.{get}
use Rattle.art_model.specs.Prelude.{header_of, leaf_name, inner_name, Nodes, InnerPtr, LeafPtr, LeafNode, OpaqueNodePtr, IsCanonicalTree, IsFront, are_related, Links, AreLinked, name_of, leaf_names, first_or, last_or, first_of, last_of, plug, leaves_before, leaves_after, Frame, depth_of, least_key, prefix_of, IsFullTree, IsRadix, links_at, links_of, held_leaf, node_at, pair_of, Tree, leaf, inner, Subtrees, NodeHeader}
use Rattle.art_model.proofs.keys.Fronts.{part_where, unrelated_part}
use Rattle.art_model.proofs.leaves.Links.{link_of, last_or-append}
use Rattle.art_model.proofs.keys.KeyLaws.{common_front_is_longest}
use Rattle.art_model.proofs.lists.Lists.{after_front}
use Rattle.art_model.proofs.places.Paths.{leaf_names-plug}
use Rattle.art_model.proofs.places.Places.{prefix_is, least_way_below}
use Rattle.art_model.proofs.stores.Shown.{no_leaf_gone, leaf_shown}
use Rattle.art_model.proofs.stores.Stores.{path_holds, hole_distinct}
use Rattle.art_model.proofs.radix.TreeLaws.{one_child, have_two_children}
use Rattle.art_writing.specs.declared.insert.InsertPoint.{InsertPoint}
use Rattle.art_writing.specs.declared.insert.branch.Branch.{Branch}
use Rattle.art_writing.specs.Branches.{IsBranch}
use Rattle.art_copying.specs.declared.links.Direction.TheVariants.{Before, After}
use Rattle.art_writing.specs.ParentWrites.{IsBeside}
use Rattle.art_copying.specs.Directions.{side_of}
use Rattle.art_reading.specs.declared.end_node.InsertKind.TheVariants.{SplitLeaf, MismatchPrefix}
use Rattle.art_reading.specs.declared.path.ExplicitMismatch.{ExplicitMismatch}
use Rattle.art_reading.specs.Matching.{shared_len}
use Rattle.art_reading.specs.EndNodes.{IsKindOf, IsMismatch, IsLeafForPrefix}
use Rattle.art_writing.specs.Points.{AnswersTo}
use Rattle.art_writing.proofs.BranchLemmas.{end_laid, end_hole, end_depth}
use Rattle.art_reading.proofs.PartNodes.{some_there}

-- ---- the neighbouring leaves

-- the links that a leaf has in a chain
leaf_links : {K V : Type 0} (s : Nodes K V) (xs zs : List OpaqueNodePtr) (p : LeafPtr) (own : LeafNode K V) → get s.leaves p ≡ Some own →
    AreLinked (links_at s) None (xs ++ leaf_name p ∷ zs) None →
    (option_map leaf_name own.previous ≡ last_or xs None) × (option_map leaf_name own.next ≡ first_or zs None)
leaf_links s xs zs p own here linked =
    let same : ◌≡◌ {A = Links OpaqueNodePtr} (record { previous = option_map leaf_name own.previous; next = option_map leaf_name own.next })
    (record { previous = last_or xs None; next = first_or zs None }) =
    let e = ap (λ o. option_and_then links_of (option_map held_leaf o)) (sym here) ∙ link_of (links_at s) xs zs (leaf_name p) None None linked in cc in
    (ap (λ z. z.previous) same, ap (λ z. z.next) same)

-- a list with a first element, and one with a last
first_split : (ks : List OpaqueNodePtr) (k : OpaqueNodePtr) → first_of ks ≡ Some k → (rest : List OpaqueNodePtr) × (ks ≡ k ∷ rest)
first_split [] k e = absurd cc
first_split (x ∷ ks) k e = (ks, cc)

last_split : (ks : List OpaqueNodePtr) (k : OpaqueNodePtr) → last_of ks ≡ Some k → (front : List OpaqueNodePtr) × (ks ≡ front ++ k ∷ [])
last_split [] k e = absurd cc
last_split (x ∷ []) k e = ([], cc)
last_split (x ∷ y ∷ ks) k e = let (front, is) = last_split (y ∷ ks) k e in (x ∷ front, ap (λ l. x ∷ l) is)

some_leaf : {K V : Type 0} (o : Option (LeafNode K V)) (Q : LeafNode K V → Type 0) → IsSomeAnd o Q → (own : LeafNode K V) × (o ≡ Some own) × Q own
some_leaf None Q h = absurd h
some_leaf (Some own) Q h = (own, refl, h)

module _ {K V : Type 0} (s : Nodes K V) (fs : List (Frame OpaqueNodePtr (K × V))) (tree : Tree OpaqueNodePtr (K × V))
    (linked : AreLinked (links_at s) None (leaf_names (plug fs tree)) None) where
  -- right after the leaves in the hole, or right before them
  pub beside_is : (first : Bool) (previous next : Option LeafPtr) → IsBeside s tree (cond first After Before) previous next →
      (option_map leaf_name previous ≡ last_or (leaves_before fs ++ cond first (leaf_names tree) []) None) ×
      (option_map leaf_name next ≡ first_or (cond first [] (leaf_names tree) ++ leaves_after fs) None)
  beside_is true previous next (last, has, is, here) =
      let (own, found, same) = some_leaf (get s.leaves last) (λ own. next ≡ own.next) here in
      let (front, ends) = last_split (leaf_names tree) (leaf_name last) has.name_is in
      let whole : leaf_names (plug fs tree) ≡ (leaves_before fs ++ front) ++ leaf_name last ∷ leaves_after fs =
      leaf_names-plug fs tree ∙ ap (λ ks. leaves_before fs ++ ks ++ leaves_after fs) ends ∙ simp append_assoc in
      let links =
      leaf_links s (leaves_before fs ++ front) (leaves_after fs) last own found
      (subst (λ ks. AreLinked (links_at s) None ks None) whole linked) in (
        ap (option_map leaf_name) is ∙ sym (last_or-append (leaves_before fs) (leaf_names tree) None ∙
            ap (λ ks. last_or ks (last_or (leaves_before fs) None)) ends ∙ last_or-append front (leaf_name last ∷ []) (last_or (leaves_before fs) None)),
        ap (option_map leaf_name) same ∙ links.1,
      )
  beside_is false previous next (first, has, is, here) =
      let (own, found, same) = some_leaf (get s.leaves first) (λ own. previous ≡ own.previous) here in
      let (rest, begins) = first_split (leaf_names tree) (leaf_name first) has.name_is in
      let whole : leaf_names (plug fs tree) ≡ leaves_before fs ++ leaf_name first ∷ (rest ++ leaves_after fs) =
      leaf_names-plug fs tree ∙ ap (λ ks. leaves_before fs ++ ks ++ leaves_after fs) begins ∙ simp append_assoc in
      let links =
      leaf_links s (leaves_before fs) (rest ++ leaves_after fs) first own found
      (subst (λ ks. AreLinked (links_at s) None ks None) whole linked) in (
        ap (option_map leaf_name) same ∙ links.0 ∙ ap (λ ks. last_or ks None) (sym (append-nil (leaves_before fs))),
        ap (option_map leaf_name) is ∙ ap (λ ks. first_or (ks ++ leaves_after fs) None) (sym begins),
      )

-- ---- the bytes

-- after a place and a shared part a key has a further byte
module _ (place part : List ℕ) (x : ℕ) (r key : List ℕ) (is : key ≡ place ++ (part ++ x ∷ r)) where
  regrouped : key ≡ (place ++ part) ++ x ∷ r
  regrouped = is ∙ sym (append_assoc place part (x ∷ r))

  way_of : IsFront ((place ++ part) ++ x ∷ []) key
  way_of = (r, regrouped ∙ sym (append_assoc (place ++ part) (x ∷ []) r))

  byte_of : (n : ℕ) → n ≡ length place + length part → get_or key n 0 ≡ x
  byte_of n e = ap (λ k. get_or k n 0) regrouped ∙ get_or_at (place ++ part) x r 0 n (length-append place part ∙ sym e)

  pub part_of : (d n : ℕ) → d ≡ length place → n ≡ length place + length part → take (n - d) (drop d key) ≡ part
  part_of d n e f =
      ap (λ z. take (n - d) (drop z key)) e ∙ ap (take (n - d)) (after_front place key (part ++ x ∷ r) is)
      ∙ take_at part (x ∷ r) (n - d) (omega arith)

  long_of : (n : ℕ) → n ≡ length place + length part → n < length key
  long_of n e = let l = ap length regrouped in omega (arith, simp length-append at l)

-- both keys have different bytes after the place and the shared part
record AreWays (place key other : List ℕ) (used : ℕ) : Type 0 where
  pub part : List ℕ
  pub x : ℕ
  pub y : ℕ
  pub r : List ℕ
  pub q : List ℕ
  pub key_is : key ≡ place ++ (part ++ x ∷ r)
  pub other_is : other ≡ place ++ (part ++ y ∷ q)
  pub differ : y ≢ x
  pub used_is : used ≡ length place + length part

-- keys that are not related differ after what they share
unrelated_ways : (place key other : List ℕ) (used : ℕ) → IsFront place key → IsFront place other → are_related key other ≡ false →
    used ≡ shared_len key other → AreWays place key other used
unrelated_ways place key other used front fronts apart shared =
    let f = unrelated_part key other apart in
    let (part, e) = (common_front_is_longest key other).2 place front fronts in
    let front_is = f.is_shared ∙ e in
    record {
      part = part;
      x = f.x;
      y = f.y;
      r = f.r;
      q = f.s;
      key_is = f.a_is ∙ ap (λ z. z ++ f.x ∷ f.r) front_is ∙ append_assoc place part (f.x ∷ f.r);
      other_is = f.b_is ∙ ap (λ z. z ++ f.y ∷ f.s) front_is ∙ append_assoc place part (f.y ∷ f.s);
      differ = λ same. f.differ (sym same);
      used_is = shared ∙ ap length e ∙ length-append place part;
    }

-- a key that differs from a prefix after a place differs from what continues the prefix
prefix_ways : (place prefix key other : List ℕ) (depth matched : ℕ) → depth ≡ length place → key ≡ place ++ drop depth key →
    IsFront (place ++ prefix) other → matched ≡ shared_len prefix (drop depth key) → matched < length prefix → depth + matched < length key →
    (ways : AreWays place key other (depth + matched)) × (ways.y ≡ get_or prefix matched 0)
prefix_ways place prefix key other depth matched deep is (rest, whole) shared inside long =
    let l = ap length is in
    let m = length-append place (drop depth key) in
    let f = part_where prefix (drop depth key) (omega arith) (omega arith) in
    let part = f.front in
    let matched_is : length part ≡ matched = ap length f.is_shared ∙ sym shared in (
      record {
        part = part;
        x = f.y;
        y = f.x;
        r = f.s;
        q = f.r ++ rest;
        key_is = is ∙ ap (λ z. place ++ z) f.b_is;
        other_is = whole ∙ append_assoc place prefix rest ∙ ap (λ z. place ++ (z ++ rest)) f.a_is ∙ ap (λ z. place ++ z) (append_assoc part (f.x ∷ f.r) rest);
        differ = f.differ;
        used_is = omega arith;
      },
      sym (ap (λ z. get_or z matched 0) f.a_is ∙ get_or_at part f.x f.r 0 matched matched_is),
    )

module _ {K V : Type 0} {bytes : K × V → List ℕ} {P : ℕ} {s : Nodes K V} {key : List ℕ} {point : InsertPoint} {pairs : List (K × V)}
    {layout : Tree OpaqueNodePtr (K × V)} (by : IsCanonicalTree bytes P s point.root pairs layout) (at : AnswersTo bytes P layout key point) where
  abbrev place : List ℕ
  place = take (depth_of at.path) key

  -- the node stands for a full tree
  pub end_full : {name : OpaqueNodePtr} → name_of at.node ≡ name → IsFullTree s name at.node
  end_full named = (
    record {
      named = named;
      holds = (path_holds (node_at s) at.path at.node (end_laid by at).holds).1;
      distinct = hole_distinct (node_at s)
          (node_at s) at.path at.node (end_laid by at).holds (end_laid by at).distinct;
    },
    one_child at.node (have_two_children bytes P place at.node (end_hole by at).radix),
  )

  -- what is read for a branch
  branch_is : {used : ℕ} {part : List ℕ} {branch : Branch P} {old_byte new_byte : ℕ} (w : AreWays place key (least_key bytes at.node) used) →
      point.key_bytes_used ≡ depth_of at.path → part ≡ take (used - point.key_bytes_used) (drop point.key_bytes_used key) → branch.header ≡ header_of P part →
      branch.old_byte ≡ old_byte → branch.new_byte ≡ new_byte → old_byte ≡ w.y → new_byte ≡ get_or key used 0 →
      IsBeside s at.node (side_of new_byte old_byte) branch.previous branch.next → IsBranch bytes key at.path at.node branch
  branch_is {used} {part} {branch} {old_byte} {new_byte} w start part_is header old_is new_is old_byte_is new_byte_is beside =
      let deep : point.key_bytes_used ≡ length place = start ∙ end_depth by at in
      let old : branch.old_byte ≡ w.y = old_is ∙ old_byte_is in
      let new : branch.new_byte ≡ w.x = new_is ∙ new_byte_is ∙ byte_of place w.part w.x w.r key w.key_is used w.used_is in
      let first : ltb old_byte new_byte ≡ ltb branch.old_byte branch.new_byte = ap₂ ltb (sym old_is) (sym new_is) in
      let links =
      beside_is s at.path at.node (end_laid by at).linked (ltb branch.old_byte branch.new_byte) branch.previous branch.next
      (subst (λ t. IsBeside s at.node (cond t After Before) branch.previous branch.next) first beside) in
      record {
        part = w.part;
        header = header ∙ ap (header_of P) (part_is ∙ part_of place w.part w.x w.r key w.key_is point.key_bytes_used used deep w.used_is);
        new_way = subst (λ c. IsFront ((place ++ w.part) ++ c ∷ []) key) (sym new) (way_of place w.part w.x w.r key w.key_is);
        old_way = subst (λ b. IsFront ((place ++ w.part) ++ b ∷ []) (least_key bytes at.node)) (sym old)
            (way_of place w.part w.y w.q (least_key bytes at.node) w.other_is);
        apart = λ e. w.differ (sym old ∙ e ∙ new);
        previous = links.0;
        next = links.1;
      }

  -- ---- at a leaf

  module _ {p : LeafPtr} {used : ℕ} (kind : point.insert_kind ≡ SplitLeaf p used) where
    leaf_kind : IsKindOf bytes P key at.node (depth_of at.path) point.key_bytes_used (SplitLeaf p used)
    leaf_kind = subst (λ k. IsKindOf bytes P key at.node (depth_of at.path) point.key_bytes_used k) kind at.kind_is

    leaf_start : point.key_bytes_used ≡ depth_of at.path
    leaf_start = leaf_kind.0

    pub leaf_named : name_of at.node ≡ leaf_name p
    leaf_named = let (start, (pair, is, rest)) = leaf_kind in ap name_of is

    -- the node is the leaf
    pub leaf_found : (pair : K × V) × (at.node ≡ leaf (leaf_name p) pair)
    leaf_found = let (start, (pair, is, rest)) = leaf_kind in (pair, is)

    pub leaf_met : IsSome (get s.leaves p)
    leaf_met =
        some_there (get s.leaves p) (no_leaf_gone s p at.node leaf_named (path_holds (node_at s) at.path at.node (end_laid by at).holds).1)

    module _ {shown : LeafNode K V} (there : Some shown ≡ get s.leaves p) where
      leaf_is : at.node ≡ leaf (leaf_name p) (pair_of shown)
      leaf_is = leaf_shown s p at.node leaf_named (path_holds (node_at s) at.path at.node (end_laid by at).holds).1 shown there

      least_is : least_key bytes at.node ≡ bytes (pair_of shown)
      least_is = ap (least_key bytes) leaf_is

      leaf_ways : AreWays place key (least_key bytes at.node) used
      leaf_ways =
          let (start, (pair, is, (apart, shared))) = leaf_kind in
          let own : bytes pair ≡ least_key bytes at.node = ap (least_key bytes) (sym is) in
          unrelated_ways place key (least_key bytes at.node) used (end_hole by at).front
          (subst (IsFront place) own (subst (IsRadix bytes P place) is (end_hole by at).radix))
          (subst (λ k. are_related key k ≡ false) own apart) (shared ∙ ap (shared_len key) own)

      -- the bytes exist
      pub leaf_bounds : (point.key_bytes_used ≤ used) × (used < length key) × (used < length (bytes (pair_of shown)))
      leaf_bounds =
          let w = leaf_ways in
          let deep = leaf_start ∙ end_depth by at in
          let count = w.used_is in (
            omega arith,
            long_of place w.part w.x w.r key w.key_is used w.used_is,
            subst (λ k. used < length k) least_is
                (long_of place w.part w.y w.q (least_key bytes at.node) w.other_is used w.used_is),
          )

      pub leaf_branch : {text : List ℕ} {part : List ℕ} {branch : Branch P} {old_byte new_byte : ℕ} → text ≡ bytes (pair_of shown) →
          part ≡ take (used - point.key_bytes_used) (drop point.key_bytes_used key) → branch.header ≡ header_of P part →
          branch.old_byte ≡ old_byte → branch.new_byte ≡ new_byte →
          old_byte ≡ get_or text used 0 → new_byte ≡ get_or key used 0 →
          IsBeside s at.node (side_of new_byte old_byte) branch.previous branch.next → IsBranch bytes key at.path at.node branch
      leaf_branch text part header old_is new_is old_byte_is new_byte_is beside =
          let w = leaf_ways in
          branch_is w leaf_start part header old_is new_is (old_byte_is ∙ ap (λ k. get_or k used 0) (text ∙ sym least_is) ∙
          byte_of place w.part w.y w.q (least_key bytes at.node) w.other_is used w.used_is) new_byte_is beside

  -- ---- at an inner node

  module _ {p : InnerPtr} {mismatch : ExplicitMismatch} (kind : point.insert_kind ≡ MismatchPrefix mismatch p) where
    inner_kind : IsKindOf bytes P key at.node (depth_of at.path) point.key_bytes_used (MismatchPrefix mismatch p)
    inner_kind = subst (λ k. IsKindOf bytes P key at.node (depth_of at.path) point.key_bytes_used k) kind at.kind_is

    pub inner_start : point.key_bytes_used ≡ depth_of at.path
    inner_start = inner_kind.0

    pub inner_named : name_of at.node ≡ inner_name p
    inner_named = let (start, (header, children, is, (parts, long))) = inner_kind in ap name_of is

    -- the node is the inner node
    pub inner_found : (header : NodeHeader) × (children : Subtrees OpaqueNodePtr (K × V)) × (at.node ≡ inner (inner_name p) header children)
    inner_found = let (start, (header, children, is, (parts, long))) = inner_kind in (header, children, is)

    parts : IsMismatch bytes P key at.node (depth_of at.path) mismatch
    parts = let (start, (header, children, is, (parts, long))) = inner_kind in parts

    -- the least leaf below, where the prefix is longer than what is stored
    pub inner_least : IsLeafForPrefix P (prefix_of bytes (depth_of at.path) at.node) at.node mismatch.leaf_ptr
    inner_least = parts.least_leaf

    inner_long : depth_of at.path + mismatch.matched_bytes < length key
    inner_long = let (start, (header, children, is, (parts, long))) = inner_kind in long

    -- the keys below continue after the prefix
    pub prefix_way : IsFront (place ++ prefix_of bytes (depth_of at.path) at.node) (least_key bytes at.node)
    prefix_way =
        let (header, children, is) = inner_found in
        let radix : IsRadix bytes P place (inner (inner_name p) header children) = subst (IsRadix bytes P place) is (end_hole by at).radix in
        let prefix : prefix_of bytes (depth_of at.path) at.node ≡ radix.0 =
        ap₂ (prefix_of bytes) (end_depth by at) is ∙ prefix_is bytes P (inner_name p) header children place radix in
        subst (λ z. IsFront (place ++ z) (least_key bytes at.node)) (sym prefix)
        (subst (λ t. IsFront (place ++ radix.0) (least_key bytes t)) (sym is) (least_way_below bytes P children (place ++ radix.0) radix.2 radix.4))

    -- which is longer than the key's part of it
    pub prefix_inside : mismatch.matched_bytes < length (prefix_of bytes (depth_of at.path) at.node)
    prefix_inside = slice_get_within (prefix_of bytes (depth_of at.path) at.node) mismatch.matched_bytes mismatch.prefix_byte parts.byte

    inner_ways : (ways : AreWays place key (least_key bytes at.node) (depth_of at.path + mismatch.matched_bytes)) ×
        (ways.y ≡ get_or (prefix_of bytes (depth_of at.path) at.node) mismatch.matched_bytes 0)
    inner_ways =
        prefix_ways place (prefix_of bytes (depth_of at.path) at.node) key (least_key bytes at.node) (depth_of at.path) mismatch.matched_bytes
        (end_depth by at) (sym (take-append-drop (depth_of at.path) key)) prefix_way parts.matched prefix_inside inner_long

    pub inner_branch : {end : ℕ} {part : List ℕ} {branch : Branch P} {new_byte : ℕ} → end ≡ point.key_bytes_used + mismatch.matched_bytes →
        part ≡ take (end - point.key_bytes_used) (drop point.key_bytes_used key) → branch.header ≡ header_of P part →
        branch.old_byte ≡ mismatch.prefix_byte → branch.new_byte ≡ new_byte →
        new_byte ≡ get_or key end 0 → IsBeside s at.node (side_of new_byte mismatch.prefix_byte) branch.previous branch.next →
        IsBranch bytes key at.path at.node branch
    inner_branch {end} {part} end_is part_is header old_is new_is new_byte_is beside =
        let (w, old) = inner_ways in
        let used : end ≡ depth_of at.path + mismatch.matched_bytes = end_is ∙ ap (λ d. d + mismatch.matched_bytes) inner_start in
        let prefix_byte = sym (get_or_from_slice_get (prefix_of bytes (depth_of at.path) at.node) mismatch.matched_bytes mismatch.prefix_byte 0 parts.byte) in
        branch_is w inner_start (part_is ∙ ap (λ n. take (n - point.key_bytes_used) (drop point.key_bytes_used key)) used) header old_is new_is
        (prefix_byte ∙ sym old) (new_byte_is ∙ ap (λ n. get_or key n 0) used) beside
