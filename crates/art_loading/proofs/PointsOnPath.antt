-- the end node of the next key is on the path of the last one
use Rattle.std.proofs.Common.{◌≡◌, ◌≢◌, ℕ, ◌+◌, ◌<◌, ◌≤◌, List, [], ◌∷◌, ◌++◌, length, get_or, drop, refl, ap, ap₂, sym, ◌∙◌, arith, subst, append_assoc, append-nil, length-append, Some, None, inl, slice_get}
use Rattle.std.specs.List.{AllByRecursion as Each}
use Rattle.std.proofs.lemmas.Bool.{ne_eqb}
use Rattle.art_model.specs.Prelude.{child_at, leaf_name, LeafPtr, OpaqueNodePtr, Nodes, IsCanonicalTree, IsIn, IsFront, slots_of, Frame, IsPath, fill, plug, pairs_before, pairs_after, depth_of, prefix_of, IsEndNode, IsRadix, BytesRise, bytes_of, join, pairs_of, Tree, leaf, Subtrees, child, no_child, as_inner}
use Rattle.art_loading.specs.NextKeys.{IsNextKey}
use Rattle.art_loading.proofs.Next.{IsShort, short_place, next_unrelated, next_shared, next_within, next_byte, split_front}
use Rattle.art_model.proofs.lists.Lists.{Each-append, Each-weaker, after_front, each_in, front_trans, in_left, in_right, common_front-append}
use Rattle.art_model.proofs.lists.Pairwises.{Pairwise-before}
use Rattle.art_model.proofs.places.OnWay.{AreAside, aside_others, aside_off}
use Rattle.art_model.proofs.places.Paths.{pairs_of-plug, radix_plug}
use Rattle.art_model.proofs.places.PlaceLaws.{depth_is, ends_at}
use Rattle.art_model.proofs.places.Places.{beside, deeper, one_way, place_is, prefix_is}
use Rattle.art_model.proofs.radix.Radix.{AreRadix-right, bytes_of-join}
use Rattle.art_model.proofs.radix.Rebuild.{radix_way}
use Rattle.art_model.proofs.stores.Canonical.{tree_radix}
use Rattle.art_reading.specs.EndNodes.{IsKindOf, IsLeafForPrefix}
use Rattle.art_reading.specs.Matching.{shared_len}
use Rattle.art_reading.specs.declared.end_node.InsertKind.{InsertKind}
use Rattle.art_reading.specs.declared.end_node.InsertKind.TheVariants.{MismatchPrefix, SplitLeaf, IntoExisting}
use Rattle.art_reading.specs.declared.path.ExplicitMismatch.{ExplicitMismatch}

-- one path after another
pub plug_twice : {N A : Type 0} (gs fs : List (Frame N A)) (t : Tree N A) → plug (gs ++ fs) t ≡ plug fs (plug gs t)
plug_twice [] fs t = refl
plug_twice (g ∷ gs) fs t = plug_twice gs fs (fill g t)

none_under : {A : Type 0} (cs : Subtrees OpaqueNodePtr A) (b : ℕ) → Each (λ c. c ≢ b) (bytes_of cs) → child_at (slots_of cs) b ≡ None
none_under no_child b off = refl
none_under (child c t cs) b off = rw (ne_eqb c b off.0) (none_under cs b off.1)

at_end : (xs : List ℕ) (x : ℕ) (ys : List ℕ) → slice_get (xs ++ x ∷ ys) (length xs) ≡ Some x
at_end [] x ys = refl
at_end (z ∷ xs) x ys = at_end xs x ys

-- the node in the hole of the path is the key's end node, with what is to be done there
pub record IsPointAt {A : Type 0} (bytes : A → List ℕ) (P : ℕ) (layout : Tree OpaqueNodePtr A) (key : List ℕ)
    (fs : List (Frame OpaqueNodePtr A)) (node : Tree OpaqueNodePtr A) (used : ℕ) (kind : InsertKind) : Type 0 where
  pub is_end : IsEndNode bytes layout key fs node
  pub kind_is : IsKindOf bytes P key node (depth_of fs) used kind

module _ {K V : Type 0} {bytes : K × V → List ℕ} {P : ℕ} {s : Nodes K V} {root : OpaqueNodePtr} {pairs : List (K × V)}
    {layout : Tree OpaqueNodePtr (K × V)} (n : LeafPtr) (pair : K × V) {key : List ℕ} {shared x y : ℕ}
    (by : IsCanonicalTree bytes P s root pairs layout) (next : IsNextKey (bytes pair) key shared x y) where
  -- the last leaf, where no more bytes lead to it than are shared
  pub leaf_point : (fs : List (Frame OpaqueNodePtr (K × V))) → plug fs (leaf (leaf_name n) pair) ≡ layout → depth_of fs ≤ shared →
      IsPointAt bytes P layout key fs (leaf (leaf_name n) pair) (depth_of fs) (SplitLeaf n shared)
  leaf_point fs whole short =
      let (place, path, own) = radix_plug bytes P fs (leaf (leaf_name n) pair) (subst (IsRadix bytes P []) (sym whole) (tree_radix by).0) in
      let deep = depth_is bytes P fs place path in
      let at = short_place next place own.0 own.1 (omega arith) in
      record {
        is_end = subst (λ t. IsEndNode bytes t key fs (leaf (leaf_name n) pair)) whole
            (ends_at bytes P key fs place (leaf (leaf_name n) pair) path own (at.mid ++ y ∷ next.s, at.key_is)
            ((λ g. rw (place_is bytes P (leaf (leaf_name n) pair) place own) (omega arith)), tt));
        kind_is = (refl, (pair, refl, (next_unrelated next, next_shared next)));
      }

  -- an inner node above it
  module _ (gs : List (Frame OpaqueNodePtr (K × V))) (f : Frame OpaqueNodePtr (K × V)) (fs : List (Frame OpaqueNodePtr (K × V)))
      (whole : plug (gs ++ f ∷ fs) (leaf (leaf_name n) pair) ≡ layout) where
    pub record IsSpot : Type 0 where
      pub outer : List ℕ
      pub path : IsPath bytes P outer fs
      pub radix : IsRadix bytes P outer (fill f (plug gs (leaf (leaf_name n) pair)))
      pub deep : depth_of fs ≡ length outer
      pub tail : List ℕ
      pub last_is : bytes pair ≡ outer ++ (radix.0 ++ f.byte ∷ tail)
      pub prefix : prefix_of bytes (depth_of fs) (fill f (plug gs (leaf (leaf_name n) pair))) ≡ radix.0
      pub len : f.header.length_of ≡ length radix.0

    pub spot : IsSpot
    spot =
        let (outer, path, radix) = radix_plug bytes P fs (fill f (plug gs (leaf (leaf_name n) pair))) (subst (IsRadix bytes P []) (sym (sym (plug_twice gs (f ∷ fs) (leaf (leaf_name n) pair)) ∙ whole)) (tree_radix by).0) in
        let deep = depth_is bytes P fs outer path in
        let front = outer ++ radix.0 in
        let own = (AreRadix-right bytes P front f.left (child f.byte (plug gs (leaf (leaf_name n) pair)) f.right) radix.4).0 in
        let within : IsIn pair (pairs_of (plug gs (leaf (leaf_name n) pair))) = subst (IsIn pair) (sym (pairs_of-plug gs (leaf (leaf_name n) pair)))
        (in_left pair (pairs_before gs ++ pair ∷ []) (pairs_after gs) (in_right pair (pairs_before gs) (pair ∷ []) (inl refl))) in
        let (tail, is) = each_in (λ z. IsFront (front ++ f.byte ∷ []) (bytes z)) pair (pairs_of (plug gs (leaf (leaf_name n) pair))) (radix_way bytes P (plug gs (leaf (leaf_name n) pair)) (front ++ f.byte ∷ []) own) within in
        record {
          outer = outer;
          path = path;
          radix = radix;
          deep = deep;
          tail = tail;
          last_is = is ∙ simp append_assoc;
          prefix = ap (λ d. prefix_of bytes d (fill f (plug gs (leaf (leaf_name n) pair)))) deep ∙ prefix_is bytes P f.mark f.header (join f.left (child f.byte (plug gs (leaf (leaf_name n) pair)) f.right)) outer radix;
          len = ap (λ h. h.length_of) radix.1;
        }

    pub prefix_len : length (prefix_of bytes (depth_of fs) (fill f (plug gs (leaf (leaf_name n) pair)))) ≡ f.header.length_of
    prefix_len = let at = spot in ap length at.prefix ∙ sym at.len

    module _ (short : depth_of fs ≤ shared) where
      short_at : (at : IsSpot) → IsShort next at.outer (at.radix.0 ++ f.byte ∷ at.tail)
      short_at at = short_place next at.outer (at.radix.0 ++ f.byte ∷ at.tail) at.last_is (let d = at.deep in omega arith)

      rest_is : (at : IsSpot) → drop (depth_of fs) key ≡ (short_at at).mid ++ y ∷ next.s
      rest_is at = ap (λ d. drop d key) at.deep ∙ after_front at.outer key ((short_at at).mid ++ y ∷ next.s) (short_at at).key_is

      ends : (at : IsSpot) → AreAside (at.outer ++ at.radix.0) key (join f.left (child f.byte (plug gs (leaf (leaf_name n) pair)) f.right)) → IsEndNode bytes layout key fs (fill f (plug gs (leaf (leaf_name n) pair)))
      ends at aside =
          subst (λ t. IsEndNode bytes t key fs (fill f (plug gs (leaf (leaf_name n) pair)))) (sym (plug_twice gs (f ∷ fs) (leaf (leaf_name n) pair)) ∙ whole)
          (ends_at bytes P key fs at.outer (fill f (plug gs (leaf (leaf_name n) pair))) at.path at.radix ((short_at at).mid ++ y ∷ next.s, (short_at at).key_is) (
            (λ g. rw (place_is bytes P (fill f (plug gs (leaf (leaf_name n) pair))) at.outer at.radix) (omega arith)),
            beside bytes P (join f.left (child f.byte (plug gs (leaf (leaf_name n) pair)) f.right)) (at.outer ++ at.radix.0) key (length at.outer + f.header.length_of + 1) (length at.outer)
                (λ b. deeper at.outer at.radix.0 b f.header.length_of at.len) at.radix.4 aside,
          ))

      -- the key continues after the whole prefix
      module _ (right : f.right ≡ no_child) (end : shared ≡ depth_of fs + f.header.length_of) where
        record IsInto (at : IsSpot) : Type 0 where
          pub mid_is : at.radix.0 ≡ (short_at at).mid
          pub byte_is : x ≡ f.byte

        into : (at : IsSpot) → IsInto at
        into at =
            let l = (short_at at).shared_is in
            let d = at.deep in
            let k = at.len in
            let (more, is, same) = split_front (short_at at).mid at.radix.0 (f.byte ∷ at.tail) (x ∷ next.r) (short_at at).rest_is (omega arith) in
            go more is same (let c = ap length is in let m = length-append (short_at at).mid more in omega arith)
          where
            go : (more : List ℕ) → at.radix.0 ≡ (short_at at).mid ++ more → x ∷ next.r ≡ more ++ f.byte ∷ at.tail → length more ≡ 0 → IsInto at
            go [] is same none = record { mid_is = is ∙ append-nil (short_at at).mid; byte_is = cc }
            go (z ∷ more) is same none = absurd (omega arith)

        others : (at : IsSpot) → Each (λ c. c ≢ y) (bytes_of (join f.left (child f.byte (plug gs (leaf (leaf_name n) pair)) f.right)))
        others at =
            let e = (into at).byte_is in
            let less = next.less in
            let up : BytesRise (bytes_of f.left ++ f.byte ∷ bytes_of f.right) = subst BytesRise (bytes_of-join f.left (child f.byte (plug gs (leaf (leaf_name n) pair)) f.right)) at.radix.3 in
            subst (Each (λ c. c ≢ y)) (sym (bytes_of-join f.left (child f.byte (plug gs (leaf (leaf_name n) pair)) f.right)))
            (Each-append (λ c. c ≢ y) (bytes_of f.left) (f.byte ∷ bytes_of f.right)
            (Each-weaker (λ c. c < f.byte) (λ c. c ≢ y) (λ c l same. omega arith) (bytes_of f.left)
            (Pairwise-before ◌<◌ (bytes_of f.left) (bytes_of f.right) f.byte up))
            ((λ same. omega arith), subst (λ cs. Each (λ c. c ≢ y) (bytes_of cs)) (sym right) tt))

        pub into_byte : x ≡ f.byte
        into_byte = (into spot).byte_is

        pub into_point : IsPointAt bytes P layout key fs (fill f (plug gs (leaf (leaf_name n) pair))) shared (IntoExisting (as_inner f.mark))
        into_point =
            let at = spot in
            let long : length (at.outer ++ at.radix.0) ≡ shared = let d = at.deep in let k = at.len in length-append at.outer at.radix.0 ∙ omega arith in
            record {
              is_end = ends at (aside_others (at.outer ++ at.radix.0) key (join f.left (child f.byte (plug gs (leaf (leaf_name n) pair)) f.right))
                  (subst (λ b. Each (λ c. c ≢ b) (bytes_of (join f.left (child f.byte (plug gs (leaf (leaf_name n) pair)) f.right)))) (sym (ap (λ i. get_or key i 0) long ∙ next_byte next)) (others at)));
              kind_is = (
                (
                  subst (λ p. IsFront p (drop (depth_of fs) key)) (sym (at.prefix ∙ (into at).mid_is)) (y ∷ next.s, rest_is at),
                  end ∙ ap (λ l. depth_of fs + l) (sym prefix_len),
                  next_within next,
                ),
                (f.header, (join f.left (child f.byte (plug gs (leaf (leaf_name n) pair)) f.right)), refl, subst (λ b. child_at (slots_of (join f.left (child f.byte (plug gs (leaf (leaf_name n) pair)) f.right))) b ≡ None) (sym (next_byte next)) (none_under (join f.left (child f.byte (plug gs (leaf (leaf_name n) pair)) f.right)) y (others at))),
              );
            }

      -- the key differs from the prefix
      module _ (inside : shared < depth_of fs + f.header.length_of) (m : ExplicitMismatch) (matched : m.matched_bytes + depth_of fs ≡ shared)
          (byte : m.prefix_byte ≡ x) (least : IsLeafForPrefix P (prefix_of bytes (depth_of fs) (fill f (plug gs (leaf (leaf_name n) pair))))
          (fill f (plug gs (leaf (leaf_name n) pair))) m.leaf_ptr) where
        record IsOff (at : IsSpot) : Type 0 where
          pub q : List ℕ
          pub part_is : at.radix.0 ≡ (short_at at).mid ++ x ∷ q

        off : (at : IsSpot) → IsOff at
        off at =
            let l = (short_at at).shared_is in
            let d = at.deep in
            let k = at.len in
            let (more, is, same) = split_front (short_at at).mid at.radix.0 (f.byte ∷ at.tail) (x ∷ next.r) (short_at at).rest_is (omega arith) in
            go more is same (let c = ap length is in let m = length-append (short_at at).mid more in omega arith)
          where
            go : (more : List ℕ) → at.radix.0 ≡ (short_at at).mid ++ more → x ∷ next.r ≡ more ++ f.byte ∷ at.tail → 0 < length more → IsOff at
            go [] is same some = absurd (omega arith)
            go (z ∷ more) is same some = let e : z ≡ x = cc in record { q = more; part_is = is ∙ ap (λ b. (short_at at).mid ++ b ∷ more) e }

        -- the prefix is no prefix of the rest of the key
        apart : (at : IsSpot) → IsFront (at.outer ++ at.radix.0) key → ⊥
        apart at front =
            let mid = (short_at at).mid in
            let place = at.outer ++ mid in
            let less = next.less in
            let old : IsFront (place ++ x ∷ []) key = front_trans (place ++ x ∷ []) (at.outer ++ at.radix.0) key
            ((off at).q, ap (λ l. at.outer ++ l) (off at).part_is ∙ simp append_assoc) front in
            let new : IsFront (place ++ y ∷ []) key = (next.s, (short_at at).key_is ∙ simp append_assoc) in
            let same = one_way place x y key old new in
            omega arith

        shared_here : (at : IsSpot) → m.matched_bytes ≡ shared_len at.radix.0 (drop (depth_of fs) key)
        shared_here at =
            let mid = (short_at at).mid in
            let less = next.less in
            let l = (short_at at).shared_is in
            let d = at.deep in
            let count : m.matched_bytes ≡ length mid = omega arith in
            count ∙ sym (ap₂ shared_len (off at).part_is (rest_is at)
            ∙ ap length (common_front-append mid (x ∷ (off at).q) (y ∷ next.s))
            ∙ rw (ne_eqb x y (λ e. omega arith)) (ap length (append-nil mid)))

        pub mismatch_point : IsPointAt bytes P layout key fs (fill f (plug gs (leaf (leaf_name n) pair))) (depth_of fs) (MismatchPrefix m (as_inner f.mark))
        mismatch_point =
            let at = spot in
            let mid = (short_at at).mid in
            let l = (short_at at).shared_is in
            let d = at.deep in
            let count : m.matched_bytes ≡ length mid = omega arith in
            record {
              is_end = ends at (aside_off (at.outer ++ at.radix.0) key (join f.left (child f.byte (plug gs (leaf (leaf_name n) pair)) f.right)) (apart at));
              kind_is = (
                refl,
                (
                  f.header,
                  (join f.left (child f.byte (plug gs (leaf (leaf_name n) pair)) f.right)),
                  refl,
                  (
                    record {
                      matched = shared_here at ∙ ap (λ p. shared_len p (drop (depth_of fs) key)) (sym at.prefix);
                      byte = ap₂ (λ p i. slice_get p i) (at.prefix ∙ (off at).part_is) count ∙ at_end mid x (off at).q ∙ ap Some (sym byte);
                      least_leaf = least;
                    },
                    let w = next_within next in omega arith,
                  ),
                ),
              );
            }
