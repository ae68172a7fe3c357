use Rattle.std.proofs.Common.{append_assoc, rules, Bool, false, eqb, eqb-true, subst, IsSome, ◌≡◌, ◌≢◌, ◌++◌, ◌∷◌, [], List, true, not, eq-eqb, refl, sym, ap, ap₂, ◌∙◌, Option, Some, None}
use Rattle.std.proofs.lemmas.Bool.{false≢true, true≢false}
use Rattle.std.specs.FinMap as map
use Rattle.std.specs.List.{AllByRecursion as Each, slice_get}
use Rattle.std.specs.Option.{option_eq, option_map, option_and_then}
use Rattle.art_model.specs.Prelude.{leaf_name, LeafNode, LeafPtr, OpaqueNodePtr, Nodes, AreLinked, Links, first_or, held_leaf, links_at, links_of, pair_of}
use Rattle.art_parts.specs.contracts.names.LeafPtrPartialEq.TheImpl as derived
use Rattle.art_model.specs.Pairs.{first_of as first_name, last_of, of_key}
use Rattle.art_checking.specs.Checked.{names_of_leaves}
use Rattle.art_checking.specs.Checks.{between}
use Rattle.art_checking.proofs.LeastDescents.{leaf_at}
use Rattle.art_checking.proofs.Faulty.{said}
use Rattle.art_checking.proofs.well_formed.check.check_links.Goals as goal
use Rattle.art_checking.proofs.well_formed.check.check_links.Goals.{then-ne-via-then-ne, then-ne-via-else-ne+then-ne-2}

-- ---- the names around a leaf
next_is : (others : List LeafPtr) → option_map leaf_name (slice_get others 0) ≡ first_name (names_of_leaves others)
next_is [] = refl
next_is (l ∷ ls) = refl

first_same : (ns : List OpaqueNodePtr) → first_name ns ≡ first_or ns None
first_same [] = refl
first_same (n ∷ ns) = refl

last_more : (done : List LeafPtr) (l : LeafPtr) → last_of (names_of_leaves (done ++ l ∷ [])) ≡ Some (leaf_name l)
last_more [] l = refl
last_more (d ∷ []) l = refl
last_more (d ∷ e ∷ ds) l = last_more (e ∷ ds) l

names_around : (done : List LeafPtr) (l : LeafPtr) (others : List LeafPtr) →
    names_of_leaves (done ++ l ∷ others) ≡ names_of_leaves done ++ leaf_name l ∷ names_of_leaves others
names_around [] l others = refl
names_around (d ∷ ds) l others = ap (λ ns. leaf_name d ∷ ns) (names_around ds l others)

-- ---- links that differ
name_back : (a b : Option LeafPtr) → option_map leaf_name a ≡ option_map leaf_name b → a ≡ b
name_back None None e = refl
name_back None (Some q) e = absurd cc
name_back (Some p) None e = absurd cc
name_back (Some p) (Some q) e = let names : leaf_name p ≡ leaf_name q = cc in ap (λ n. let l : LeafPtr = record { slot = n.slot } in Some l) names

same_link : (a : Option LeafPtr) → option_eq derived.eq-value.it a a ≡ true
same_link None = refl
same_link (Some p) = eq-eqb p.slot p.slot refl

differs : (a b : Option LeafPtr) → not (option_eq derived.eq-value.it a b) ≡ true → option_map leaf_name a ≢ option_map leaf_name b
differs a b off e = false≢true (sym (ap not (ap (option_eq derived.eq-value.it a) (sym (name_back a b e)) ∙ same_link a)) ∙ off)

agrees : (a b : Option LeafPtr) → not (option_eq derived.eq-value.it a b) ≡ false → option_map leaf_name a ≡ option_map leaf_name b
agrees None None e = refl
agrees None (Some q) e = absurd (true≢false e)
agrees (Some p) None e = absurd (true≢false e)
agrees (Some p) (Some q) e = ap (λ i. let l : LeafPtr = record { slot = i } in Some (leaf_name l)) (eqb-true p.slot q.slot (not_false (eqb p.slot q.slot) e))
  where
    not_false : (b : Bool) → not b ≡ false → b ≡ true
    not_false true e = refl
    not_false false e = absurd (true≢false e)

linked_so : {K V : Type 0} (s : Nodes K V) (p : LeafPtr) (node : LeafNode K V) {previous next : Option OpaqueNodePtr} → map.get s.leaves p ≡ Some node →
    option_map leaf_name node.previous ≡ previous → option_map leaf_name node.next ≡ next →
    links_at s (leaf_name p) ≡ Some (record { previous = previous; next = next })
linked_so s p node there before after =
    ap (λ o. option_and_then links_of (option_map held_leaf o)) there
    ∙ ap₂ (λ p n. let l : Links OpaqueNodePtr = record { previous = p; next = n } in Some l) before after

pub returns-then-ne-clause-fault : goal.returns-then-ne-clause-fault
returns-then-ne-clause-fault g c root layout is leaves =
    let s = c.args.store.now in
    let leaf = c.in-Some.field-0-0.now in
    let node = c.leaf_at-node.result.now in
    let (done, parts, before) = c.along.invariant.1 in
    let whole = parts ∙ ap (λ ls. done ++ ls) c.in-Some.ensures.cases.0 in
    let after = ap (option_map leaf_name) (c.copied-next.ensures ∙ c.first.ensures.value) ∙ next_is c.in-Some.others.now in
    let off : between node.previous node.next ≢ between c.along.previous c.copied-next.result = elim c.then-ne.branch [
      | then-ne-via-then-ne w ↦ λ e. differs node.previous c.along.previous (sym c.ne.ensures ∙ w.if-ne.true) (ap (λ l. l.previous) e)
      | then-ne-via-else-ne+then-ne-2 w ↦ λ e. differs node.next c.copied-next.result (sym w.ne-else-ne.ensures ∙ w.if-ne-2.true) (ap (λ l. l.next) e)
    ] in
    said (of_key g.K.AsBytes.bytes) g.row.P s root c.wrong_sibling_links.result c.wrong_sibling_links.ensures (
      layout,
      names_of_leaves done,
      names_of_leaves c.in-Some.others.now,
      leaf_name leaf,
      pair_of node,
      is,
      leaves ∙ ap names_of_leaves whole ∙ names_around done leaf c.in-Some.others.now,
      leaf_at s leaf node c.leaf_at-node.ensures,
      sym c.as_bytes.ensures,
      ap₂ (λ p n. let l : Links OpaqueNodePtr = record { previous = p; next = n } in l) before after,
      ap (λ o. option_and_then links_of (option_map held_leaf o)) c.leaf_at-node.ensures,
      off,
    )

pub along-init : goal.along-init
along-init g c = (c.requires.there, ([], refl, refl), λ linked. linked)

pub leaf_at-node-requires : goal.leaf_at-node-requires
leaf_at-node-requires g c = (search rules, (subst (Each (λ l. IsSome (map.get c.args.store.now.leaves l))) c.in-Some.ensures.cases.0 c.along.invariant.0).0)

pub along-preserved : goal.along-preserved
along-preserved g c =
    let s = c.args.store.now in
    let (done, parts, before) = c.along.invariant.1 in
    let leaf = c.in-Some.field-0-0.now in
    let others = c.in-Some.others.now in
    let node = c.leaf_at-node.result.now in
    let split = c.in-Some.ensures.cases.0 in
    let previous = agrees node.previous c.along.previous (sym c.ne.ensures ∙ c.if-ne.false) in
    let names = next_is others ∙ first_same (names_of_leaves others) in
    let next = agrees node.next c.copied-next.result (sym c.ne-else-ne.ensures ∙ c.if-ne-2.false)
    ∙ ap (option_map leaf_name) (c.copied-next.ensures ∙ c.first.ensures.value) ∙ names in
    let own = linked_so s leaf node c.leaf_at-node.ensures previous next in (
      (subst (Each (λ l. IsSome (map.get s.leaves l))) split c.along.invariant.0).1,
      (done ++ leaf ∷ [], parts ∙ ap (λ ls. done ++ ls) split ∙ sym (append_assoc done (leaf ∷ []) others), sym (last_more done leaf)),
      λ linked. c.along.invariant.2 (subst (λ ls. AreLinked (links_at s) (option_map leaf_name c.along.previous) (names_of_leaves ls) None)
          (sym split) (own, linked)),
    )
