-- a prefix as read from its node or from the least leaf, or not
use Rattle.std.proofs.Common.{◌≡◌, ◌≢◌, ℕ, ◌+◌, ◌<◌, ◌≤◌, List, ◌++◌, length, take, min, refl, ap, subst, ◌∙◌, Bor, Option, Some, None, IfSome, inl, inr, arith, MatchOption}
use Rattle.std.proofs.lemmas.List.{take_all}
use Rattle.std.specs.FinMap as map
use Rattle.art_model.specs.Prelude.{Inner, leaf_name, inner_name, Nodes, InnerPtr, LeafPtr, Leaf, OpaqueNodePtr, Reaches, IsUnreadable, StoresOthers, leaf_node, node_at, header_at, IsPrefix}
use Rattle.art_checking.specs.Checked.{IsLeastLeaf, IsPartOf, IsRead, IsReadFrom}
use Rattle.art_checking.proofs.LeastDescents.{inner_at}

module _ {K V : Type 0} (bytes : K × V → List ℕ) (P : ℕ) (s : Nodes K V) where
  pub read_none : {name : OpaqueNodePtr} (depth len : ℕ) → IsLeastLeaf bytes P s name None → IsReadFrom bytes P s name depth len None
  read_none depth len (ns, descent, bad) = (ns, descent, λ root. bad root (depth + len))

  pub read_part : {name : OpaqueNodePtr} (depth len : ℕ) (leaf : LeafPtr) (found : Option (Bor (List ℕ))) → IsLeastLeaf bytes P s name (Some leaf) →
      ((x : K × V) → node_at s (leaf_name leaf) ≡ Some (leaf_node x) →
      MatchOption found (length (bytes x) < depth + len) (λ part. IsPartOf depth len (bytes x) part.now)) → IsReadFrom bytes P s name depth len found
  read_part depth len leaf None (ns, x, descent, ends, there) is = (ns, descent, λ root. inr (inr (inr (x, ap (node_at s) ends ∙ there, is x there))))
  read_part depth len leaf (Some part) (ns, x, descent, ends, there) is = (x, (ns, descent, ap (node_at s) ends ∙ there), is x there)

  -- what was read for a depth and a length, in terms of the place and the node
  pub read_found : (name : OpaqueNodePtr) (place : List ℕ) (node : Inner) {depth len : ℕ} {found part : Option (Bor (List ℕ))} →
      depth ≡ length place → len ≡ node.prefix.len → found ≡ part →
      IsReadFrom bytes P s name depth len found → IsReadFrom bytes P s name (length place) node.prefix.len part
  read_found name place node {depth} {len} {found} deep long is read =
      subst (IsReadFrom bytes P s name (length place) node.prefix.len) is (subst (λ n. IsReadFrom bytes P s name (length place) n found) long
      (subst (λ n. IsReadFrom bytes P s name n len found) deep read))

  -- a prefix that is stored whole is read from the node
  pub read_whole : (p : InnerPtr) (node : Inner) (place : List ℕ) {part : List ℕ} → node.prefix.len ≤ P →
      length node.prefix.stored ≡ min node.prefix.len P → part ≡ node.prefix.stored →
      IsRead bytes P s place (place ++ part) (inner_name p) (header_at p.kind node)
  read_whole p node place fits count is =
      let all : length node.prefix.stored ≡ node.prefix.len = omega arith in
      record {
        part = node.prefix.stored;
        is = ap (λ q. place ++ q) is;
        long = all;
        stored = take_all P node.prefix.stored (omega arith);
        is_prefix = inl (fits, refl);
      }

  -- a leaf that was found is the least one
  pub least_if : (name : OpaqueNodePtr) (found : Option LeafPtr) → IsLeastLeaf bytes P s name found →
      IfSome found (λ leaf. IsLeastLeaf bytes P s name (Some leaf))
  least_if name None least = tt
  least_if name (Some leaf) least = least

  module _ (p : InnerPtr) (node : Inner) (place : List ℕ) (proper : p.kind ≢ Leaf) (there : map.get s.inners p ≡ Some node) (more : P < node.prefix.len) where
    pub unreadable : (root : OpaqueNodePtr) → IsReadFrom bytes P s (inner_name p) (length place) node.prefix.len None →
        Reaches bytes P s root place (inner_name p) → IsUnreadable bytes P s root place (inner_name p)
    unreadable root (ns, descent, bad) reach = (header_at p.kind node, node.children, (reach, inner_at s p node proper there), more, (ns, descent, bad root))

    prefix_read : (part : Bor (List ℕ)) → IsReadFrom bytes P s (inner_name p) (length place) node.prefix.len (Some part) →
        IsPrefix (node_at s) bytes P (length place) (inner_name p) (header_at p.kind node) part.now
    prefix_read part (x, descends, is) = inr (more, (x, descends, is.1, is.2))

    -- then the bytes of the leaf's key, of which the first ones are stored, are the prefix
    pub read_long : (part : Bor (List ℕ)) → IsReadFrom bytes P s (inner_name p) (length place) node.prefix.len (Some part) →
        take P part.now ≡ node.prefix.stored →
        IsRead bytes P s place (place ++ part.now) (inner_name p) (header_at p.kind node)
    read_long part read same = record { part = part.now; is = refl; long = read.2.0; stored = same; is_prefix = prefix_read part read }

    pub stores_others : (root : OpaqueNodePtr) (part : Bor (List ℕ)) →
        IsReadFrom bytes P s (inner_name p) (length place) node.prefix.len (Some part) → length node.prefix.stored ≡ min node.prefix.len P →
        take P part.now ≢ node.prefix.stored →
        Reaches bytes P s root place (inner_name p) → StoresOthers bytes P s root place node.prefix.stored (take P part.now)
    stores_others root part gives count off reach =
        let all : length node.prefix.stored ≡ P = omega (arith, count, more) in (
          inner_name p,
          header_at p.kind node,
          node.children,
          (reach, inner_at s p node proper there),
          more,
          (part.now, (header_at p.kind node, node.children, inner_at s p node proper there, prefix_read part gives), refl, ap (λ n. take n part.now) all, off),
        )
