-- A leaf or a prefix is split: what is inserted then, and what is touched.
use Rattle.std.proofs.Common.{◌≡◌, ℕ, ◌+◌, ◌<◌, List, [], ◌∷◌, ◌++◌, length, take, drop, refl, ap, sym, ◌∙◌, subst, arith, append_assoc, length-append, take_at, inl, inr, Some, IsSome, IsSomeAnd, ◌≢◌}
use Rattle.std.proofs.lemmas.List.{take-append-drop, take-append-le, append_cancel_left}
use Rattle.std.specs.FinMap.{get}
use Rattle.art_model.specs.Prelude.{SameNodes, with_header, child_at, leaf_name, inner_name, Nodes, change, InnerPtr, LeafPtr, LeafNode, OpaqueNodePtr, IsCanonicalTree, IsIn, IsFront, inner_node, slots_of, names_of, Holds, Frame, plug, depth_of, least_key, prefix_of, bytes_of, node_at, links_at, pair_of, Tree, leaf, inner, Subtrees, NodeHeader, canonical_header, Inners, as_inner, parent_of}
use Rattle.art_parts.specs.Headers.{Prefix, header_of as whole_header}
use Rattle.art_nodes.proofs.StoreChanges.{inner_changed_elsewhere}
use Rattle.art_model.proofs.changes.PlacedBranches.{BranchStored, leaf_branched, prefix_branched, header_touches, branch_touches}
use Rattle.art_model.proofs.stores.Canonical.{IsLaidOut}
use Rattle.art_model.proofs.changes.Inserted.{BranchInserted}
use Rattle.art_model.proofs.places.Places.{prefix_is}
use Rattle.art_model.proofs.stores.Stores.{IsParent, path_holds, parent_apart}
use Rattle.art_model.proofs.stores.Touches.{Touched, touched_none}
use Rattle.art_reading.specs.declared.end_node.InsertKind.{InsertKind}
use Rattle.art_reading.specs.declared.end_node.InsertKind.TheVariants.{SplitLeaf, MismatchPrefix}
use Rattle.art_writing.specs.declared.insert.InsertParentNodeChange.{InsertParentNodeChange}
use Rattle.art_writing.specs.declared.insert.InsertParentNodeChange.TheVariants.{NewParent}
use Rattle.art_writing.specs.declared.insert.InsertPoint.{InsertPoint}
use Rattle.art_writing.specs.declared.insert.InsertResult.{InsertResult}
use Rattle.art_writing.specs.declared.insert.branch.Branch.{Branch}
use Rattle.art_model.proofs.stores.Writes.{inner_at, inner_name_one}
use Rattle.art_reading.specs.declared.path.ExplicitMismatch.{ExplicitMismatch}
use Rattle.art_writing.specs.Branches.{IsBranch, IsBranchPlaced}
use Rattle.art_writing.specs.Inserted.{IsChange, Touches}
use Rattle.art_writing.specs.Points.{AnswersTo}
use Rattle.art_writing.specs.ParentWrites.{HasChild}
use Rattle.art_reading.specs.PathSteps.{last_step}
use Rattle.art_writing.proofs.LeftByPoints.{IsInserted}
use Rattle.art_writing.proofs.Ways.{last_step-path_of}
use Rattle.art_writing.proofs.BranchLemmas.{end_laid, end_depth, end_parent, branch_stored, branch_done}
use Rattle.art_writing.proofs.BranchReads.{leaf_found, leaf_named, inner_found, inner_named, prefix_way, prefix_inside}

module _ {K V : Type 0} {bytes : K × V → List ℕ} {P : ℕ} {s t : Nodes K V} {root : OpaqueNodePtr} {pairs : List (K × V)}
    {fs : List (Frame OpaqueNodePtr (K × V))} {place : List ℕ} {m : InnerPtr} {n : LeafPtr} {part : List ℕ} {b c : ℕ} {x : LeafNode K V} {mid : Inners} where
  -- the node in the hole is a leaf
  leaf_inserted : (k : OpaqueNodePtr) (y : K × V) (node : Tree OpaqueNodePtr (K × V)) → node ≡ leaf k y →
      IsLaidOut bytes P (node_at s) (links_at s) root pairs (plug fs node) → BranchStored bytes P s t fs place node m n part b c x mid [] →
      IsFront ((place ++ part) ++ b ∷ []) (least_key bytes node) →
      BranchInserted bytes P (node_at s) (node_at t) (links_at s) (links_at t) fs place node node (inner_name m) (leaf_name n) part b c (pair_of x)
  leaf_inserted k y node is =
      subst (λ z. IsLaidOut bytes P (node_at s) (links_at s) root pairs (plug fs z) → BranchStored bytes P s t fs place z m n part b c x mid [] →
      IsFront ((place ++ part) ++ b ∷ []) (least_key bytes z) →
      BranchInserted bytes P (node_at s) (node_at t) (links_at s) (links_at t) fs place z z (inner_name m)
      (leaf_name n) part b c (pair_of x))
      (sym is) (λ old stored way. leaf_branched old stored way)

  -- the node in the hole is an inner node, whose prefix continues after the part with a byte and a rest
  prefix_inserted : (k : OpaqueNodePtr) (h : NodeHeader) (cs : Subtrees OpaqueNodePtr (K × V)) (rest : List ℕ) →
      mid ≡ change s.inners (as_inner k) (with_header (record { len = length rest; stored = take P rest })) →
      (node : Tree OpaqueNodePtr (K × V)) → node ≡ inner k h cs →
      IsLaidOut bytes P (node_at s) (links_at s) root pairs (plug fs node) →
      BranchStored bytes P s t fs place node m n part b c x mid (as_inner k ∷ []) → prefix_of bytes (length place) node ≡ part ++ b ∷ rest →
      BranchInserted bytes P (node_at s) (node_at t) (links_at s) (links_at t) fs place node
      (inner k (canonical_header P rest (length (bytes_of cs))) cs) (inner_name m) (leaf_name n) part b c (pair_of x)
  prefix_inserted k h cs rest written node is =
      subst (λ z. IsLaidOut bytes P (node_at s) (links_at s) root pairs (plug fs z) →
      BranchStored bytes P s t fs place z m n part b c x mid (as_inner k ∷ []) → prefix_of bytes (length place) z ≡ part ++ b ∷ rest →
      BranchInserted bytes P (node_at s) (node_at t) (links_at s) (links_at t) fs place z
      (inner k (canonical_header P rest (length (bytes_of cs))) cs) (inner_name m) (leaf_name n) part b c (pair_of x))
      (sym is) (λ old stored prefix. prefix_branched rest written old stored (sym (prefix_is bytes P k h cs place stored.hole.radix) ∙ prefix))

-- a prefix longer than the part, by what follows the part with a byte
prefix_parts : (prefix part rest more : List ℕ) (b : ℕ) → prefix ++ rest ≡ part ++ b ∷ more → length part < length prefix →
    prefix ≡ part ++ b ∷ drop (length part + 1) prefix
prefix_parts prefix part rest more b whole long =
    let front : take (length part + 1) prefix ≡ part ++ b ∷ [] =
    sym (take-append-le (length part + 1) prefix rest (omega arith)) ∙ ap (take (length part + 1)) (whole ∙ sym (append_assoc part (b ∷ []) more)) ∙
    take_at (part ++ b ∷ []) more (length part + 1) (length-append part (b ∷ [])) in
    sym (take-append-drop (length part + 1) prefix) ∙ ap (λ z. z ++ drop (length part + 1) prefix) front
    ∙ append_assoc part (b ∷ []) (drop (length part + 1) prefix)

module _ {K V : Type 0} {bytes : K × V → List ℕ} {P : ℕ} {s : Nodes K V} {point : InsertPoint} {pairs : List (K × V)}
    {layout : Tree OpaqueNodePtr (K × V)} {pair : K × V} (by : IsCanonicalTree bytes P s point.root pairs layout)
    (at : AnswersTo bytes P layout (bytes pair) point) {branch : Branch P} (is : IsBranch bytes (bytes pair) at.path at.node branch)
    {mid t : Nodes K V} {done : InsertResult K V} where
  -- a split of this kind inserts the pair and names the parent
  split_done : {k : InsertKind} → point.insert_kind ≡ k →
      ((parent : InnerPtr × ℕ) (told : InsertParentNodeChange) → told ≡ NewParent parent.0 parent.1 → IsChange k (Some parent) told) →
      {old : OpaqueNodePtr} (placed : IsBranchPlaced mid t point old branch pair done) {u : Tree OpaqueNodePtr (K × V)} →
      BranchInserted bytes P (node_at s) (node_at t) (links_at s) (links_at t) at.path (take (depth_of at.path) (bytes pair)) at.node u
      (inner_name placed.node) (leaf_name done.leaf_node_ptr) is.part branch.old_byte branch.new_byte pair →
      {touched : List InnerPtr} → BranchStored bytes P s t at.path (take (depth_of at.path) (bytes pair)) at.node placed.node done.leaf_node_ptr
      is.part branch.old_byte branch.new_byte (record { key = pair.0; value = pair.1; previous = branch.previous; next = branch.next }) mid.inners touched →
      Touches k s t → IsInserted bytes P s t point pair pairs layout at.path done
  split_done kind tells placed new stored few =
      branch_done by at is placed new (λ parent told e. subst (λ k. IsChange k (Some parent) told) (sym kind) (tells parent told e)) stored
      (subst (λ k. Touches k s t) (sym kind) few)

  module _ {p : LeafPtr} {used : ℕ} (kind : point.insert_kind ≡ SplitLeaf p used) {old : OpaqueNodePtr} (named : old ≡ leaf_name p)
      (same : SameNodes s mid) (placed : IsBranchPlaced mid t point old branch pair done) where
    leaf_stored : BranchStored bytes P s t at.path (take (depth_of at.path) (bytes pair)) at.node placed.node done.leaf_node_ptr is.part
        branch.old_byte branch.new_byte (record { key = pair.0; value = pair.1; previous = branch.previous; next = branch.next }) mid.inners []
    leaf_stored = branch_stored by at is placed same.0 (subst (λ z. Touched s.inners z [] [] []) (sym same.1) (touched_none s.inners)) tt
        (λ k i. absurd i) (leaf_named by at kind ∙ sym named)

    -- the pair is inserted; two names are placed, and at most three are changed
    pub leaf_split : IsInserted bytes P s t point pair pairs layout at.path done
    leaf_split =
        let (y, found) = leaf_found by at kind in
        split_done kind (λ parent told e. e) placed (leaf_inserted (leaf_name p) y at.node found (end_laid by at) leaf_stored is.old_way) leaf_stored
        (branch_touches (end_laid by at) leaf_stored 3 (omega arith))

  module _ {p : InnerPtr} {mismatch : ExplicitMismatch} (kind : point.insert_kind ≡ MismatchPrefix mismatch p) {old : OpaqueNodePtr}
      (named : old ≡ inner_name p) {header : Prefix} (leaves : mid.leaves ≡ s.leaves) (inners : mid.inners ≡ change s.inners p (with_header header))
      (header_is : header ≡ whole_header P (drop (mismatch.matched_bytes + 1) (prefix_of bytes (depth_of at.path) at.node)))
      (len : branch.header.len ≡ mismatch.matched_bytes) (placed : IsBranchPlaced mid t point old branch pair done) where
    abbrev rest : List ℕ
    rest = drop (mismatch.matched_bytes + 1) (prefix_of bytes (depth_of at.path) at.node)

    written : mid.inners ≡ change s.inners p (with_header (record { len = length rest; stored = take P rest }))
    written = inners ∙ ap (λ z. change s.inners p (with_header z)) header_is

    prefix_stored : BranchStored bytes P s t at.path (take (depth_of at.path) (bytes pair)) at.node placed.node done.leaf_node_ptr is.part
        branch.old_byte branch.new_byte (record { key = pair.0; value = pair.1; previous = branch.previous; next = branch.next }) mid.inners (p ∷ [])
    prefix_stored =
        let (h, cs, found) = inner_found by at kind in
        let held = (path_holds (node_at s) at.path at.node (end_laid by at).holds).1 in
        let here : node_at s (inner_name p) ≡ Some (inner_node h (slots_of cs)) = (subst (Holds (node_at s)) found held).0 in
        branch_stored by at is placed leaves
        (subst (λ z. Touched s.inners z [] [] (p ∷ [])) (sym inners) (header_touches s (inner_name p) h (slots_of cs) header here))
        ((inner_at s (inner_name p) h (slots_of cs) here).0, tt)
        (λ k i. elim i [
          | inl e ↦ subst (λ z. IsIn (inner_name z) (names_of at.node)) e
              (subst (λ t. IsIn (inner_name p) (names_of t)) (sym found) (inl refl))
          | inr none ↦ absurd none
        ])
        (inner_named by at kind ∙ sym named)

    prefix_rest : prefix_of bytes (length (take (depth_of at.path) (bytes pair))) at.node ≡ is.part ++ branch.old_byte ∷ rest
    prefix_rest =
        let key = bytes pair in
        let place = take (depth_of at.path) key in
        let prefix = prefix_of bytes (depth_of at.path) at.node in
        let count : length is.part ≡ mismatch.matched_bytes = sym (ap (λ z. z.len) is.header) ∙ len in
        let (more, way) = prefix_way by at kind in
        let (after, old_way) = is.old_way in
        let both : prefix ++ more ≡ is.part ++ branch.old_byte ∷ after =
        append_cancel_left place (prefix ++ more) (is.part ++ branch.old_byte ∷ after)
        (sym (append_assoc place prefix more) ∙ sym way ∙ old_way ∙ simp append_assoc) in
        ap (λ d. prefix_of bytes d at.node) (sym (end_depth by at)) ∙
        prefix_parts prefix is.part more after branch.old_byte both (subst (λ n. n < length prefix) (sym count) (prefix_inside by at kind)) ∙
        ap (λ n. is.part ++ branch.old_byte ∷ drop (n + 1) prefix) count

    -- the pair is inserted; two names are placed, and at most four are changed
    pub prefix_split : IsInserted bytes P s t point pair pairs layout at.path done
    prefix_split =
        let (h, cs, found) = inner_found by at kind in
        split_done kind (λ parent told e. e) placed
        (prefix_inserted (inner_name p) h cs rest written at.node found (end_laid by at) prefix_stored prefix_rest) prefix_stored
        (branch_touches (end_laid by at) prefix_stored 4 (omega arith))

-- the header of a node is written
module _ {K V : Type 0} {bytes : K × V → List ℕ} {P : ℕ} {s : Nodes K V} {key : List ℕ} {point : InsertPoint} {pairs : List (K × V)}
    {layout : Tree OpaqueNodePtr (K × V)} (by : IsCanonicalTree bytes P s point.root pairs layout) (at : AnswersTo bytes P layout key point) where
  -- the parent has a child under its byte when the node's header is written
  pub parent_stays : {after : Inners} {p : InnerPtr} {mismatch : ExplicitMismatch} (header : Prefix) → point.insert_kind ≡ MismatchPrefix mismatch p →
      after ≡ change s.inners p (with_header header) → HasChild after (last_step point.path)
  parent_stays {after} {p} header kind written =
      let steps = ap last_step at.path_is ∙ last_step-path_of at.path in
      let (h, cs, found) = inner_found by at kind in
      let own : IsIn (inner_name p) (names_of at.node) = subst (λ t. IsIn (inner_name p) (names_of t)) (sym found) (inl refl) in
      subst (HasChild after) (sym steps) (go at.path (subst (HasChild s.inners) steps (end_parent by at))
      (λ k up e. parent_apart (node_at s) (node_at s) at.path at.node (end_laid by at).holds (end_laid by at).distinct k up
      (subst (λ z. IsIn z (names_of at.node)) (sym (inner_name_one k (inner_name p) e)) own)))
    where
      go : (fs : List (Frame OpaqueNodePtr (K × V))) → HasChild s.inners (parent_of fs) →
          ((k : OpaqueNodePtr) → IsParent fs k → as_inner k ≢ p) → HasChild after (parent_of fs)
      go [] h off = tt
      go (f ∷ fs) h off =
          subst (λ o. IsSomeAnd o (λ node. IsSome (child_at node.children f.byte)))
          (sym (ap (λ z. get z (as_inner f.mark)) written ∙ inner_changed_elsewhere s.inners p (as_inner f.mark) (with_header header) (off f.mark refl))) h
