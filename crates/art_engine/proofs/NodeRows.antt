-- The lines still to be written of a traversal of nodes.
use Rattle.std.proofs.Common.{◌≡◌, ◌≢◌, ℕ, zero, suc, ◌+◌, List, [], ◌∷◌, ◌++◌, length, codes, Option, Some, None, IfSome, OnOk, Result, Ok}
use Rattle.std.proofs.Common.{Err, refl, ap, sym, ◌∙◌, subst, append_assoc, append-nil, arith}
use Rattle.std.specs.FinMap as map
use Rattle.std.specs.Io.KnownBytes.{Appends}
use Rattle.std.specs.Option.{option_map}
use Rattle.art_inner.specs.Inner.{Inner}
use Rattle.art_parts.specs.Names.{inner_name}
use Rattle.art_parts.specs.declared.names.InnerPtr.{InnerPtr}
use Rattle.art_parts.specs.declared.names.NodeType.TheVariants.{Leaf}
use Rattle.art_parts.specs.declared.names.OpaqueNodePtr.{OpaqueNodePtr}
use Rattle.art_nodes.specs.Nodes.{Nodes}
use Rattle.art_model.specs.Canonical.{IsCanonical}
use Rattle.art_model.specs.Layouts.{Node, AreDistinct, HoldsBelow, IsLayout, inner_node, leaf_node, name_of, names_below, names_of, slots_of}
use Rattle.art_model.specs.Pairs.{last_of, of_key}
use Rattle.art_model.specs.Radix.{all_unmarked, bytes_of, unmarked}
use Rattle.art_model.specs.Stores.{header_at, held_inner, node_at, tree_node}
use Rattle.art_model.specs.Trees.{Subtrees, Tree, child, inner, leaf, no_child}
use Rattle.art_model.proofs.lists.Pairwises.{Pairwise-left, Pairwise-right}
use Rattle.art_model.proofs.stores.Slots.{length-slots_of}
use Rattle.art_model.proofs.stores.Views.{held_in_inner}
use Rattle.art_engine.specs.KeptKeys.{Key, key_bytes}
use Rattle.art_engine.specs.NodeWalks.{children_of, reversed_children, one_deeper, pending_root, after_turn}
use Rattle.art_engine.specs.declared.keeping.walk.Pending.{Pending}
use Rattle.art_engine.specs.NodeLines.{children_text, indent, inner_text, line_at, lines_of, node_text, nodes_text, tree_text}
use Rattle.text_lines.proofs.Writing.{appends_more, appends_none}

-- an indent continues by two spaces
indent_next : (n : ℕ) → indent n ++ codes "  " ≡ indent (suc n)
indent_next zero = refl
indent_next (suc n) = ap (λ bs. codes "  " ++ bs) (indent_next n)

pub indent_more : (n : ℕ) → indent n ++ codes "  " ≡ indent (n + 1)
indent_more n = let e : suc n ≡ n + 1 = omega arith in indent_next n ∙ ap indent e

-- an inner node as the tree sees it under its name
pub inner_seen_at : {K V : Type 0} (s : Nodes K V) (p : InnerPtr) (name : OpaqueNodePtr) (node : Inner) → inner_name p ≡ name →
    p.kind ≢ Leaf → Some node ≡ map.get s.inners p →
    node_at s name ≡ Some (inner_node (header_at p.kind node) node.children)
inner_seen_at s p name node is proper there =
    ap (node_at s) (sym is) ∙ ap (option_map (tree_node p.kind)) (held_in_inner s p.kind p.slot proper ∙ ap (option_map held_inner) (sym there))

-- what is written of a node in the store
pub line_written : {E : Type 0} (s : Nodes Key ℕ) (name : OpaqueNodePtr) (there : Node OpaqueNodePtr (Key × ℕ)) (depth : ℕ)
    (byte : Option ℕ) (old new : Option (List ℕ)) (text : List ℕ)
    (r : Result (Unit {0}) E) → node_at s name ≡ Some there → text ≡ line_at depth byte (node_text there) → OnOk r (Appends old new text) →
    OnOk r (IfSome (node_at s name) (λ node. Appends old new (line_at depth byte (node_text node))))
line_written s name there depth byte old new text (Err e) at is written = tt
line_written s name there depth byte old new text (Ok u) at is written =
    subst (λ o. IfSome o (λ node. Appends old new (line_at depth byte (node_text node)))) (sym at) (subst (Appends old new) is written)

-- marks are not written
length-unmarked : {N A : Type 0} (cs : Subtrees N A) → length (bytes_of (all_unmarked cs)) ≡ length (bytes_of cs)
length-unmarked no_child = refl
length-unmarked (child b t cs) = ap suc (length-unmarked cs)

mutual
  text-unmarked : {N : Type 0} (depth : ℕ) (byte : Option ℕ) (t : Tree N (Key × ℕ)) → tree_text depth byte (unmarked t) ≡ tree_text depth byte t
  text-unmarked depth byte (leaf n x) = refl
  text-unmarked depth byte (inner n h cs) =
      ap (λ count. line_at depth byte (inner_text h count) ++ children_text (one_deeper depth) (all_unmarked cs)) (length-unmarked cs)
      ∙ ap (λ below. line_at depth byte (inner_text h (length (bytes_of cs))) ++ below) (children-unmarked (one_deeper depth) cs)

  children-unmarked : {N : Type 0} (depth : ℕ) (cs : Subtrees N (Key × ℕ)) → children_text depth (all_unmarked cs) ≡ children_text depth cs
  children-unmarked depth no_child = refl
  children-unmarked depth (child b t cs) =
      ap (λ first. first ++ children_text depth (all_unmarked cs)) (text-unmarked depth (Some b) t)
      ∙ ap (λ others. tree_text depth (Some b) t ++ others) (children-unmarked depth cs)

module _ (s : Nodes Key ℕ) where
  -- the nodes still to be written stand for trees, whose lines are this text; the last node comes first
  abbrev pub ComesTo : List Pending → List ℕ → Type 0
  ComesTo [] text = text ≡ []
  ComesTo (next ∷ rest) text =
      (layout : Tree OpaqueNodePtr (Key × ℕ)) × (before : List ℕ) × IsLayout (node_at s) next.name layout × ComesTo rest before ×
      (text ≡ before ++ tree_text next.depth next.byte layout)

  -- what comes later is written later
  comes_append : (xs ys : List Pending) (a b : List ℕ) → ComesTo xs a → ComesTo ys b → ComesTo (xs ++ ys) (b ++ a)
  comes_append [] ys a b none later = subst (ComesTo ys) (sym (ap (λ bs. b ++ bs) none ∙ append-nil b)) later
  comes_append (next ∷ xs) ys a b (layout, before, is, rest, text) later = (
    layout,
    b ++ before,
    is,
    comes_append xs ys before b rest later,
    ap (λ bs. b ++ bs) text ∙ sym (append_assoc b before (tree_text next.depth next.byte layout)),
  )

  -- the children of a node
  comes_falling : (depth : ℕ) (cs : Subtrees OpaqueNodePtr (Key × ℕ)) → HoldsBelow (node_at s) cs → AreDistinct (names_below cs) →
      ComesTo (reversed_children depth (slots_of cs)) (children_text depth cs)
  comes_falling depth no_child holds distinct = refl
  comes_falling depth (child b t cs) holds distinct =
      let is : IsLayout (node_at s) (name_of t) t =
      record { named = refl; holds = holds.0; distinct = Pairwise-left ◌≢◌ (names_of t) (names_below cs) distinct } in
      let others = comes_falling depth cs holds.1 (Pairwise-right ◌≢◌ (names_of t) (names_below cs) distinct) in
      comes_append (reversed_children depth (slots_of cs)) (record { depth = depth; byte = Some b; name = name_of t } ∷ []) (children_text depth cs)
      (tree_text depth (Some b) t) others (t, [], is, refl, refl)

  -- A node's line is written, and then what is left gives the rest.
  record IsTurned (next : Pending) (left : List Pending) (text : List ℕ) : Type 0 where
    pub there : Node OpaqueNodePtr (Key × ℕ)
    pub is_there : node_at s next.name ≡ Some there
    pub rest : List ℕ
    pub comes : ComesTo left rest
    pub text_is : text ≡ line_at next.depth next.byte (node_text there) ++ rest

  root_turned : (next : Pending) (layout : Tree OpaqueNodePtr (Key × ℕ)) → IsLayout (node_at s) next.name layout →
      IsTurned next (children_of (one_deeper next.depth) (node_at s next.name)) (tree_text next.depth next.byte layout)
  root_turned next (leaf n x) h =
      let at : node_at s next.name ≡ Some (leaf_node x) = ap (node_at s) (sym h.named) ∙ h.holds in
      record {
        there = leaf_node x;
        is_there = at;
        rest = [];
        comes = subst (λ o. ComesTo (children_of (one_deeper next.depth) o) []) (sym at) refl;
        text_is = sym (append-nil (tree_text next.depth next.byte (leaf n x)));
      }
  root_turned next (inner n head cs) h =
      let at : node_at s next.name ≡ Some (inner_node head (slots_of cs)) = ap (node_at s) (sym h.named) ∙ h.holds.0 in
      let below = comes_falling (one_deeper next.depth) cs h.holds.1 (Pairwise-right ◌≢◌ (n ∷ []) (names_below cs) h.distinct) in
      record {
        there = inner_node head (slots_of cs);
        is_there = at;
        rest = children_text (one_deeper next.depth) cs;
        comes = subst (λ o. ComesTo (children_of (one_deeper next.depth) o) (children_text (one_deeper next.depth) cs)) (sym at) below;
        text_is = ap (λ count. line_at next.depth next.byte (inner_text head count) ++ children_text (one_deeper next.depth) cs) (sym (length-slots_of cs));
      }

  comes_turned : (pending : List Pending) (next : Pending) (text : List ℕ) → last_of pending ≡ Some next → ComesTo pending text →
      IsTurned next (after_turn s pending) text
  comes_turned [] next text last comes = absurd cc
  comes_turned (only ∷ []) next text last (layout, before, is, none, text_is) =
      let same : only ≡ next = cc in
      let whole : text ≡ tree_text only.depth only.byte layout = text_is ∙ ap (λ bs. bs ++ tree_text only.depth only.byte layout) none in
      subst (λ p. IsTurned p (after_turn s (only ∷ [])) text) same (subst (IsTurned only (after_turn s (only ∷ []))) (sym whole) (root_turned only layout is))
  comes_turned (first ∷ second ∷ pending) next text last (layout, before, is, others, text_is) =
      let turn = comes_turned (second ∷ pending) next before last others in
      let own = tree_text first.depth first.byte layout in
      record {
        there = turn.there;
        is_there = turn.is_there;
        rest = turn.rest ++ own;
        comes = (layout, turn.rest, is, turn.comes, refl);
        text_is = text_is ∙ ap (λ bs. bs ++ own) turn.text_is ∙ append_assoc (line_at next.depth next.byte (node_text turn.there)) turn.rest own;
      }

  -- So much of the whole text is written that what is left gives the rest.
  pub record IsWritten (pending : List Pending) (whole : List ℕ) (old now : Option (List ℕ)) : Type 0 where
    pub written : List ℕ
    pub rest : List ℕ
    pub comes : ComesTo pending rest
    pub whole_is : whole ≡ written ++ rest
    pub text : Appends old now written

  module _ (whole : List ℕ) (old now next : Option (List ℕ)) where
    pub goes_on : (pending left : List Pending) (node : Pending) → Some node ≡ last_of pending → left ≡ after_turn s pending → IsWritten pending whole old now →
        IfSome (node_at s node.name) (λ there. Appends now next (line_at node.depth node.byte (node_text there))) → IsWritten left whole old next
    goes_on pending left node last is h line =
        let turn = comes_turned pending node h.rest (sym last) h.comes in
        let own = line_at node.depth node.byte (node_text turn.there) in
        let more : Appends now next own =
        subst (λ o. IfSome o (λ there. Appends now next (line_at node.depth node.byte (node_text there)))) turn.is_there line in
        record {
          written = h.written ++ own;
          rest = turn.rest;
          comes = subst (λ l. ComesTo l turn.rest) (sym is) turn.comes;
          whole_is = h.whole_is ∙ ap (λ bs. h.written ++ bs) turn.text_is ∙ sym (append_assoc h.written own turn.rest);
          text = appends_more old now next h.written own h.text more;
        }

  pub ends : (pending : List Pending) (whole : List ℕ) (old now : Option (List ℕ)) → None ≡ last_of pending →
      IsWritten pending whole old now → Appends old now whole
  ends [] whole old now none h = subst (Appends old now) (sym (h.whole_is ∙ ap (λ bs. h.written ++ bs) h.comes ∙ append-nil h.written)) h.text
  ends (next ∷ []) whole old now none h = absurd cc
  ends (first ∷ next ∷ pending) whole old now none h = absurd (some (next ∷ pending) first none)
    where
      some : (rest : List Pending) (first : Pending) → None ≡ last_of (first ∷ rest) → ⊥
      some [] first e = cc
      some (next ∷ rest) first e = some rest next e

-- ---- what the writer states

module _ (P : ℕ) (s : Nodes Key ℕ) (root : OpaqueNodePtr) where
  -- what holds of a canonical root's pairs
  abbrev ForPairs : (List (Key × ℕ) → Type 0) → Type 0
  ForPairs Holds = (pairs : List (Key × ℕ)) → IsCanonical (of_key key_bytes) P s (Some root) pairs → Holds pairs

  pub begins : (pending : List Pending) (old : Option (List ℕ)) → pending ≡ pending_root root ∷ [] →
      ForPairs (λ pairs. IsWritten s pending (nodes_text P pairs) old old)
  begins pending old is pairs (layout, by) =
      let tree : tree_text 0 None layout ≡ nodes_text P pairs =
      sym (ap lines_of by.is_tree ∙ ap (tree_text 0 None) (sym by.stands.1) ∙ text-unmarked 0 None layout) in
      subst (λ l. IsWritten s l (nodes_text P pairs) old old) (sym is) (record {
        written = [];
        rest = tree_text 0 None layout;
        comes = (layout, [], by.stands.0, refl, refl);
        whole_is = sym tree;
        text = appends_none old;
      })
