-- A renamed layout: the nodes have new names, and name one another by them.
use Rattle.std.proofs.Common.{◌≡◌, ◌≢◌, ℕ, List, [], ◌∷◌, ◌++◌, map, Option, Some, option_map, refl, ap, ap₂, sym, ◌∙◌, inl, inr}
use Rattle.std.proofs.lemmas.List.{map-append}
use Rattle.std.specs.List.{AllByRecursion as Each}
use Rattle.art_model.specs.Prelude.{IsIn, Node, inner_node, Links, AreDistinct, AreLinked, Holds, HoldsBelow, first_or, name_of, slots_of, names_of, names_below, leaf_names, leaf_names_below, unmarked, all_unmarked, Tree, leaf, inner, Subtrees, child, no_child, NodeHeader}
use Rattle.art_model.proofs.lists.Lists.{Each-left, Each-right, each_in, each_from, out_map}

module _ {N : Type 0} (rename : N → N) where
  -- the children under the same bytes, by their new names
  abbrev slots_renamed : List (ℕ × N) → List (ℕ × N)
  slots_renamed slots = map (λ slot. (slot.0, rename slot.1)) slots

  -- the same neighbours, by their new names
  abbrev pub links_renamed : Links N → Links N
  links_renamed links = record { previous = option_map rename links.previous; next = option_map rename links.next }

module _ {N A : Type 0} (rename : N → N) where
  -- the layout under the new names
  abbrev mutual
    pub renamed : Tree N A → Tree N A
    renamed (leaf n x) = leaf (rename n) x
    renamed (inner n h cs) = inner (rename n) h (below_renamed cs)

    below_renamed : Subtrees N A → Subtrees N A
    below_renamed no_child = no_child
    below_renamed (child b t cs) = child b (renamed t) (below_renamed cs)

  -- the root has its new name
  pub name_of-renamed : (t : Tree N A) → name_of (renamed t) ≡ rename (name_of t)
  name_of-renamed (leaf n x) = refl
  name_of-renamed (inner n h cs) = refl

  slots_of-renamed : (cs : Subtrees N A) → slots_of (below_renamed cs) ≡ slots_renamed rename (slots_of cs)
  slots_of-renamed no_child = refl
  slots_of-renamed (child b t cs) = ap₂ (λ (n : N) slots. (b, n) ∷ slots) (name_of-renamed t) (slots_of-renamed cs)

  mutual
    -- and so has each node
    pub names_of-renamed : (t : Tree N A) → names_of (renamed t) ≡ map rename (names_of t)
    names_of-renamed (leaf n x) = refl
    names_of-renamed (inner n h cs) = ap (λ ns. rename n ∷ ns) (names_below-renamed cs)

    names_below-renamed : (cs : Subtrees N A) → names_below (below_renamed cs) ≡ map rename (names_below cs)
    names_below-renamed no_child = refl
    names_below-renamed (child b t cs) =
        ap₂ (λ (ns ks : List N). ns ++ ks) (names_of-renamed t) (names_below-renamed cs)
        ∙ sym (map-append rename (names_of t) (names_below cs))

  mutual
    -- the leaves among them
    pub leaf_names-renamed : (t : Tree N A) → leaf_names (renamed t) ≡ map rename (leaf_names t)
    leaf_names-renamed (leaf n x) = refl
    leaf_names-renamed (inner n h cs) = leaf_names_below-renamed cs

    leaf_names_below-renamed : (cs : Subtrees N A) → leaf_names_below (below_renamed cs) ≡ map rename (leaf_names_below cs)
    leaf_names_below-renamed no_child = refl
    leaf_names_below-renamed (child b t cs) =
        ap₂ (λ (ns ks : List N). ns ++ ks) (leaf_names-renamed t) (leaf_names_below-renamed cs) ∙ sym (map-append rename (leaf_names t) (leaf_names_below cs))

  mutual
    -- the plain tree is the same
    pub unmarked-renamed : (t : Tree N A) → unmarked (renamed t) ≡ unmarked t
    unmarked-renamed (leaf n x) = refl
    unmarked-renamed (inner n h cs) = ap (inner tt h) (all_unmarked-renamed cs)

    all_unmarked-renamed : (cs : Subtrees N A) → all_unmarked (below_renamed cs) ≡ all_unmarked cs
    all_unmarked-renamed no_child = refl
    all_unmarked-renamed (child b t cs) = ap₂ (child b) (unmarked-renamed t) (all_unmarked-renamed cs)

-- under its new name a leaf is what it was, and an inner node names its children by their new names
module _ {N A : Type 0} (rename : N → N) (at to : N → Option (Node N A))
    (inners : (n : N) (h : NodeHeader) (slots : List (ℕ × N)) → at n ≡ Some (inner_node h slots) →
    to (rename n) ≡ Some (inner_node h (slots_renamed rename slots))) where
  mutual
    -- the layout is held under the new names
    pub holds_renamed : (t : Tree N A) → Each (λ n. to (rename n) ≡ at n) (leaf_names t) → Holds at t → Holds to (renamed rename t)
    holds_renamed (leaf n x) same h = same.0 ∙ h
    holds_renamed (inner n h cs) same holds =
        (inners n h (slots_of cs) holds.0 ∙ ap (λ slots. Some (inner_node h slots)) (sym (slots_of-renamed rename cs)), holds_below_renamed cs same holds.1)

    holds_below_renamed : (cs : Subtrees N A) → Each (λ n. to (rename n) ≡ at n) (leaf_names_below cs) → HoldsBelow at cs →
        HoldsBelow to (below_renamed rename cs)
    holds_below_renamed no_child same h = tt
    holds_below_renamed (child b t cs) same h =
        let Q = λ (n : N). to (rename n) ≡ at n in (
          holds_renamed t (Each-left Q (leaf_names t) (leaf_names_below cs) same) h.0,
          holds_below_renamed cs (Each-right Q (leaf_names t) (leaf_names_below cs) same) h.1,
        )

module _ {N : Type 0} (rename : N → N) where
  -- each of these names has a new one of its own
  abbrev pub IsOwn : List N → Type 0
  IsOwn names = (n k : N) → IsIn n names → IsIn k names → rename n ≡ rename k → n ≡ k

  -- then distinct names stay distinct
  pub distinct_renamed : (names : List N) → IsOwn names → AreDistinct names → AreDistinct (map rename names)
  distinct_renamed [] own d = tt
  distinct_renamed (n ∷ ns) own d = (
    each_from (λ k. rename n ≢ k) (map rename ns)
        (λ k i e.
        let (m, j, is) = out_map rename k ns i in
        each_in (λ z. n ≢ z) m ns d.0 j (own n m (inl refl) (inr j) (e ∙ sym is))),
    distinct_renamed ns (λ m k i j. own m k (inr i) (inr j)) d.1,
  )

  first_or-renamed : (names : List N) (after : Option N) → first_or (map rename names) (option_map rename after) ≡ option_map rename (first_or names after)
  first_or-renamed [] after = refl
  first_or-renamed (n ∷ ns) after = refl

  -- leaves that name their neighbours by their new names are linked under these
  pub linked_renamed : (links to : N → Option (Links N)) (names : List N) (before after : Option N) →
      Each (λ n. to (rename n) ≡ option_map (links_renamed rename) (links n)) names → AreLinked links before names after →
      AreLinked to (option_map rename before) (map rename names) (option_map rename after)
  linked_renamed links to [] before after same h = tt
  linked_renamed links to (n ∷ ns) before after same h = (
    same.0 ∙ ap (option_map (links_renamed rename)) h.0
        ∙ ap (λ o. Some (record { previous = option_map rename before; next = o })) (sym (first_or-renamed ns after)),
    linked_renamed links to ns (Some n) after same.1 h.1,
  )
