-- the whole prefix of a node, as it is read
use Rattle.std.proofs.Common.{◌≡◌, ◌≢◌, ◌↔◌, ℕ, ◌+◌, ◌-◌, ◌<◌, ◌≤◌, List, ◌++◌, length, take, drop, slice_get, ap, sym, ◌∙◌, arith, subst, append_assoc, length-append, eqb-true, eq-eqb, nat_eq, IsTrue, Option, Some, None, Result, Ok, Err}
use Rattle.std.specs.Result.{IfOk, IfErr}
use Rattle.std.specs.List.{AllByRecursion as Each}
use Rattle.std.proofs.lemmas.List.{nil_from_length, take_all, take_at}
use Rattle.std.specs.FinMap as map
use Rattle.art_inner.specs.Inner.{Inner}
use Rattle.art_parts.specs.Headers.{Prefix, header_of as whole_header}
use Rattle.art_parts.specs.Names.{leaf_name, inner_name}
use Rattle.art_nodes.specs.Nodes.{Nodes}
use Rattle.art_parts.specs.declared.names.NodeType.TheVariants.{Leaf}
use Rattle.art_parts.specs.declared.names.LeafPtr.{LeafPtr}
use Rattle.art_parts.specs.declared.names.InnerPtr.{InnerPtr}
use Rattle.art_parts.specs.declared.names.OpaqueNodePtr.{OpaqueNodePtr}
use Rattle.art_parts.specs.declared.leaf.LeafNode.{LeafNode}
use Rattle.art_parts.proofs.HeaderLaws.{header_by_parts}
use Rattle.art_parts.specs.Keys.{IsFront}
use Rattle.art_model.specs.Lookups.{HasFirstLeaf}
use Rattle.art_model.specs.Roots.{IsFullTree}
use Rattle.art_model.specs.Trees.{Tree, inner}
use Rattle.art_model.specs.Radix.{IsRadix, pairs_of}
use Rattle.art_model.specs.Layouts.{IsLayout}
use Rattle.art_model.specs.Stores.{node_at, header_at, pair_of}
use Rattle.art_model.specs.Places.{prefix_of}
use Rattle.art_model.proofs.keys.Fronts.{shared_whole, whole_shared}
use Rattle.art_model.proofs.lists.Lists.{after_front}
use Rattle.art_model.proofs.places.Places.{prefix_is}
use Rattle.art_model.proofs.radix.Rebuild.{radix_below}
use Rattle.art_model.proofs.stores.Shown.{IsShown, no_inner_gone, inner_shown}
use Rattle.art_model.proofs.radix.TreeLaws.{have_two_children, one_child}
use Rattle.art_reading.specs.declared.path.ExplicitMismatch.{ExplicitMismatch}
use Rattle.art_reading.specs.declared.path.PrefixMatch.{PrefixMatch}
use Rattle.art_reading.specs.Matching.{shared_len}
use Rattle.art_reading.specs.EndNodes.{IsCompared, IsLeafForPrefix}
use Rattle.art_reading.specs.PartEnds.{IsPlaced}

-- what the comparison of a prefix returns, if it is the whole prefix of the node
module _ {A : Type 0} (bytes : A → List ℕ) (P : ℕ) (key : List ℕ) (node : Tree OpaqueNodePtr A) (depth : ℕ) (leaf_ptr : Option LeafPtr)
    {prefix rest : List ℕ} where
  compared : (r : Result PrefixMatch ExplicitMismatch) → prefix ≡ prefix_of bytes depth node → rest ≡ drop depth key →
      IsLeafForPrefix P (prefix_of bytes depth node) node leaf_ptr →
      IfOk r (λ m. m.matched_bytes ≡ length prefix) → IfOk r (λ m. IsFront prefix rest) → IfErr r (λ m. m.matched_bytes ≡ shared_len prefix rest) →
      IfErr r (λ m. slice_get prefix m.matched_bytes ≡ Some m.prefix_byte) → IfErr r (λ m. m.leaf_ptr ≡ leaf_ptr) →
      IsCompared bytes P key node depth r
  compared (Ok m) whole rest_is least len front shared byte read =
      (len ∙ ap length whole, subst (λ p. IsFront p (drop depth key)) whole (subst (IsFront prefix) rest_is front))
  compared (Err m) whole rest_is least len front shared byte read = record {
    matched = shared ∙ ap (shared_len prefix) rest_is ∙ ap (λ p. shared_len p (drop depth key)) whole;
    byte = subst (λ p. slice_get p m.matched_bytes ≡ Some m.prefix_byte) whole byte;
    least_leaf = subst (IsLeafForPrefix P (prefix_of bytes depth node) node) (sym read) least;
  }

-- bytes go on with a prefix where they share all of it
shares_all : (prefix rest : List ℕ) {n len : ℕ} → len ≡ length prefix → n ≡ shared_len prefix rest → IsTrue (nat_eq n len) ↔ IsFront prefix rest
shares_all prefix rest {n} {len} long shared = (
  λ all. shared_whole prefix rest (let e = eqb-true n len all in omega arith),
  λ front. eq-eqb n len (shared ∙ whole_shared prefix rest front ∙ sym long),
)

module _ {K V : Type 0} {s : Nodes K V} {bytes : K × V → List ℕ} {P : ℕ} {p : InnerPtr} {depth : ℕ} {node : Tree OpaqueNodePtr (K × V)}
    (part : IsPlaced bytes P s (inner_name p) depth node) (proper : p.kind ≢ Leaf) where
  pub node_there : None ≡ map.get s.inners p → ⊥
  node_there gone = no_inner_gone s p proper node part.layout.named part.layout.holds gone

  pub is_full : {name : OpaqueNodePtr} → name ≡ inner_name p → IsFullTree s name node
  is_full is = (subst (λ n. IsLayout (node_at s) n node) (sym is) part.layout, one_child node (have_two_children bytes P part.place node part.radix))

  module _ {shown : Inner} (there : Some shown ≡ map.get s.inners p) where
    at : IsShown node p shown
    at = inner_shown s p proper node part.layout.named part.layout.holds shown there

    abbrev here : Tree OpaqueNodePtr (K × V)
    here = inner (inner_name p) (header_at p.kind shown) at.children

    radix : IsRadix bytes P part.place here
    radix = subst (IsRadix bytes P part.place) at.is part.radix

    whole_prefix : prefix_of bytes depth node ≡ radix.0
    whole_prefix =
        ap (prefix_of bytes depth) at.is ∙ subst (λ n. prefix_of bytes n here ≡ radix.0) part.depth_is
        (prefix_is bytes P (inner_name p) (header_at p.kind shown) at.children part.place radix)

    len_is : shown.prefix.len ≡ length (prefix_of bytes depth node)
    len_is = ap (λ h. h.length_of) radix.1 ∙ ap length (sym whole_prefix)

    -- the node's own header
    pub header_is : shown.prefix ≡ whole_header P (prefix_of bytes depth node)
    header_is = header_by_parts P (prefix_of bytes depth node) shown.prefix len_is (ap (λ h. h.stored) radix.1 ∙ ap (take P) (sym whole_prefix))

    -- a prefix that is stored whole
    stored_is : shown.prefix.len ≤ P → shown.prefix.stored ≡ prefix_of bytes depth node
    stored_is short = ap (λ h. h.stored) radix.1 ∙ take_all P radix.0 (let l = ap (λ h. h.length_of) radix.1 in omega arith) ∙ sym whole_prefix

    -- whether a key goes on with it
    pub goes_stored : {len n : ℕ} {stored : List ℕ} (key : List ℕ) → len ≡ shown.prefix.len → len ≤ P → stored ≡ shown.prefix.stored →
        n ≡ shared_len stored (drop depth key) → IsTrue (nat_eq n len) ↔ IsFront (prefix_of bytes depth node) (drop depth key)
    goes_stored {len} {n} {stored} key l short st shared =
        shares_all _ (drop depth key) (l ∙ len_is) (shared ∙ ap (λ z. shared_len z (drop depth key)) (st ∙ stored_is (omega arith)))

    -- what the comparison with a prefix that is stored whole returns
    pub matches_stored : {header : Prefix} {len : ℕ} {stored rest : List ℕ} (key : List ℕ) (r : Result PrefixMatch ExplicitMismatch) →
        header ≡ shown.prefix → len ≡ header.len → len ≤ P → stored ≡ header.stored → rest ≡ drop depth key →
        IfOk r (λ m. m.matched_bytes ≡ length stored) → IfOk r (λ m. IsFront stored rest) → IfErr r (λ m. m.matched_bytes ≡ shared_len stored rest) →
        IfErr r (λ m. slice_get stored m.matched_bytes ≡ Some m.prefix_byte) → IfErr r (λ m. m.leaf_ptr ≡ None) → IsCompared bytes P key node depth r
    matches_stored key r h l short st rest_is a b c d e =
        let long : shown.prefix.len ≤ P = let k = ap (λ z. z.len) h in omega arith in
        compared bytes P key node depth None r (st ∙ ap (λ z. z.stored) h ∙ stored_is long) rest_is (let k = len_is in omega arith) a b c d e

    -- an empty prefix is compared with nothing
    pub matches_empty : {header : Prefix} {len : ℕ} (key : List ℕ) {match : PrefixMatch} →
        header ≡ shown.prefix → len ≡ header.len → len ≡ 0 → match.matched_bytes ≡ 0 → IsCompared bytes P key node depth (Ok match)
    matches_empty key h l none e =
        let empty : length (prefix_of bytes depth node) ≡ 0 = let k = len_is in let p = ap (λ z. z.len) h in omega arith in
        (e ∙ sym empty, (drop depth key, sym (ap (λ prefix. prefix ++ drop depth key) (nil_from_length _ empty))))

    -- a prefix that is read from a leaf below
    module _ (l : LeafNode K V) (own : (Q : K × V → Type 0) → Each Q (pairs_of node) → Q (pair_of l)) where
      begins : IsFront (part.place ++ radix.0) (bytes (pair_of l))
      begins =
          own (λ x. IsFront (part.place ++ radix.0) (bytes x))
          (subst (λ t. Each (λ x. IsFront (part.place ++ radix.0) (bytes x)) (pairs_of t)) (sym at.is)
          (radix_below bytes P at.children (part.place ++ radix.0) radix.4))

      pub long_enough : depth + shown.prefix.len ≤ length (bytes (pair_of l))
      long_enough =
          let (r, e) = begins in
          let k = ap length e in
          let n = part.depth_is in
          let m = ap (λ h. h.length_of) radix.1 in
          let u = length-append (part.place ++ radix.0) r in
          let v = length-append part.place radix.0 in
          omega arith

      -- the whole prefix is read from the leaf
      pub prefix_read : take shown.prefix.len (drop depth (bytes (pair_of l))) ≡ prefix_of bytes depth node
      prefix_read =
          let (r, e) = begins in
          let rest : drop depth (bytes (pair_of l)) ≡ radix.0 ++ r =
          ap (λ n. drop n (bytes (pair_of l))) (sym part.depth_is)
          ∙ after_front part.place (bytes (pair_of l)) (radix.0 ++ r) (e ∙ append_assoc part.place radix.0 r) in
          ap (take shown.prefix.len) rest ∙ take_at radix.0 r shown.prefix.len (sym (ap (λ h. h.length_of) radix.1)) ∙ sym whole_prefix

      -- what the comparison with a prefix that is read from the leaf returns
      module _ {header : Prefix} {len : ℕ} {text prefix rest : List ℕ} (key : List ℕ) (header_is : header ≡ shown.prefix) (long_is : len ≡ header.len)
          (text_is : text ≡ bytes (pair_of l)) (read : prefix ≡ take (depth + len - depth) (drop depth text)) (rest_is : rest ≡ drop depth key) where
        whole_read : prefix ≡ prefix_of bytes depth node
        whole_read =
            let k = ap (λ z. z.len) header_is in
            let count : depth + len - depth ≡ shown.prefix.len = omega arith in
            read ∙ ap (λ n. take n (drop depth text)) count ∙ ap (λ z. take shown.prefix.len (drop depth z)) text_is ∙ prefix_read

        -- whether the key goes on with it
        pub goes_read : {n : ℕ} → n ≡ shared_len prefix rest → IsTrue (nat_eq n len) ↔ IsFront (prefix_of bytes depth node) (drop depth key)
        goes_read shared =
            shares_all _ (drop depth key) (long_is ∙ ap (λ z. z.len) header_is ∙ len_is)
            (shared ∙ ap (shared_len prefix) rest_is ∙ ap (λ z. shared_len z (drop depth key)) whole_read)

        pub matches_read : {m : PrefixMatch} → m.matched_bytes ≡ length prefix → IsFront prefix rest → IsCompared bytes P key node depth (Ok m)
        matches_read len front = (len ∙ ap length whole_read, subst (λ p. IsFront p (drop depth key)) whole_read (subst (IsFront prefix) rest_is front))

        pub parts_read : {m : ExplicitMismatch} {q : LeafPtr} → P < len → m.matched_bytes ≡ shared_len prefix rest →
            slice_get prefix m.matched_bytes ≡ Some m.prefix_byte →
            m.leaf_ptr ≡ Some q → HasFirstLeaf node (leaf_name q) → IsCompared bytes P key node depth (Err m)
        parts_read {m} {q} more shared byte least first = record {
          matched = shared ∙ ap (shared_len prefix) rest_is ∙ ap (λ p. shared_len p (drop depth key)) whole_read;
          byte = subst (λ p. slice_get p m.matched_bytes ≡ Some m.prefix_byte) whole_read byte;
          least_leaf = subst (IsLeafForPrefix P (prefix_of bytes depth node) node) (sym least)
              ((let k = len_is in let h = ap (λ z. z.len) header_is in omega arith), first);
        }
