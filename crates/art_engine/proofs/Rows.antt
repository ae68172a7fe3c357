-- Pairs that are written one after another, in the order of their leaves.
use Rattle.std.proofs.Common.{◌≡◌, ◌≢◌, ℕ, ◌+◌, ◌-◌, List, [], ◌∷◌, ◌++◌, length, flat_map, reverse, codes, Option, Some, None, OnOk}
use Rattle.std.proofs.Common.{Result, Ok, Err, refl, ap, sym, ◌∙◌, subst, append_assoc, append-nil, length-append}
use Rattle.std.specs.FinMap as map
use Rattle.std.specs.Option.{option_map}
use Rattle.std.specs.Io.KnownBytes.{Appends}
use Rattle.std.proofs.lemmas.List.{reverse-append, reverse-reverse}
use Rattle.std.proofs.lemmas.List.Concat.{flat_map-append}
use Rattle.art_parts.specs.Names.{leaf_name}
use Rattle.art_parts.specs.declared.names.LeafPtr.{LeafPtr}
use Rattle.art_parts.specs.declared.names.OpaqueNodePtr.{OpaqueNodePtr}
use Rattle.art_nodes.specs.Nodes.{Nodes}
use Rattle.art_model.specs.Canonical.{IsCanonical, IsCanonicalTree}
use Rattle.art_model.specs.Layouts.{leaf_names}
use Rattle.art_model.specs.Lookups.{HasFirstLeaf, HasLastLeaf}
use Rattle.art_model.specs.Pairs.{of_key}
use Rattle.art_model.specs.Roots.{IsFullTree}
use Rattle.art_model.specs.Stores.{pair_of}
use Rattle.art_model.specs.Trees.{Tree}
use Rattle.art_model.proofs.stores.Canonical.{tree_radix}
use Rattle.art_model.proofs.radix.TreeLaws.{one_child, have_two_children}
use Rattle.art_reading.specs.Iterators.{IsIteratorOf, IsWalk, TakesEnd, pairs_left}
use Rattle.text_lines.proofs.Writing.{appends_more, appends_none}
use Rattle.art_reading.proofs.PairsLeft.{first_ended, first_step, first_walk, last_ended, last_step, last_walk, whole_len, whole_pairs, whole_walk}
use Rattle.art_engine.specs.KeptKeys.{Key, key_bytes}
use Rattle.art_engine.specs.declared.pairs.Order.{Order}
use Rattle.art_engine.specs.declared.pairs.Order.TheVariants.{Rising, Falling}
use Rattle.art_engine.specs.Texts.{entry_text, gap_after, in_order, pairs_text, row_text, starting_end}

-- ---- rows

-- a row continues with a gap and a pair
row_more : (done : List (Key × ℕ)) (pair : Key × ℕ) → row_text (done ++ pair ∷ []) ≡ row_text done ++ (gap_after (length done) ++ entry_text pair)
row_more [] pair = append-nil (entry_text pair)
row_more (d ∷ ds) pair =
    ap (λ bs. entry_text d ++ bs)
    (flat_map-append (λ p. codes " " ++ entry_text p) ds (pair ∷ [])
    ∙ ap (λ bs. flat_map (λ p. codes " " ++ entry_text p) ds ++ bs) (append-nil (codes " " ++ entry_text pair)))
    ∙ sym (append_assoc (entry_text d) (flat_map (λ p. codes " " ++ entry_text p) ds) (codes " " ++ entry_text pair))

row_is : (pairs : List (Key × ℕ)) → pairs ≢ [] → pairs_text pairs ≡ row_text pairs
row_is [] h = absurd (h refl)
row_is (p ∷ ps) h = refl

ordered_some : {A : Type 0} (order : Order) (xs : List A) → xs ≢ [] → in_order order xs ≢ []
ordered_some Rising xs h = h
ordered_some Falling xs h = λ e. h (sym (reverse-reverse xs) ∙ ap reverse e)

-- The pairs so far are written, in order, and these are left of the iteration.
pub record IsRow (s : Nodes Key ℕ) (order : Order) (walk : Option (LeafPtr × LeafPtr)) (pairs : List (Key × ℕ)) (written : ℕ)
    (old new : Option (List ℕ)) : Type 0 where
  pub len : ℕ
  pub walk_is : IsWalk s walk len
  pub done : List (Key × ℕ)
  pub are : in_order order pairs ≡ done ++ in_order order (pairs_left s walk len)
  pub count : written ≡ length done
  pub text : Appends old new (row_text done)

module _ {bytes : Key × ℕ → List ℕ} {P : ℕ} {s : Nodes Key ℕ} {root : OpaqueNodePtr} {pairs : List (Key × ℕ)} {layout : Tree OpaqueNodePtr (Key × ℕ)}
    (by : IsCanonicalTree bytes P s root pairs layout) where
  row_begins : (order : Order) (old : Option (List ℕ)) (p q : LeafPtr) (walk : Option (LeafPtr × LeafPtr)) → walk ≡ Some (p, q) →
      HasFirstLeaf layout (leaf_name p) → HasLastLeaf layout (leaf_name q) → IsRow s order walk pairs 0 old old
  row_begins order old p q walk is first last = subst (λ w. IsRow s order w pairs 0 old old) (sym is) (record {
    len = length pairs;
    walk_is = record { names = leaf_names layout; is = whole_walk by first last; len_is = sym (whole_len by) };
    done = [];
    are = ap (in_order order) (sym (whole_pairs by first last refl));
    count = refl;
    text = appends_none old;
  })

  full_tree : IsFullTree s root layout
  full_tree = (by.stands.0, one_child layout (have_two_children bytes P [] layout (tree_radix by).0))

  some_pairs : pairs ≢ []
  some_pairs e = none (subst (λ xs. IsCanonicalTree bytes P s root xs layout) e by)
    where
      none : IsCanonicalTree bytes P s root [] layout → ⊥
      none h = let is = h.is_tree in absurd cc

module _ (s : Nodes Key ℕ) (walk left : Option (LeafPtr × LeafPtr)) (pairs : List (Key × ℕ)) (written : ℕ) (old now next : Option (List ℕ)) where
  grown : (done : List (Key × ℕ)) (pair : Key × ℕ) → written ≡ length done → Appends old now (row_text done) →
      Appends now next (gap_after written ++ entry_text pair) → Appends old next (row_text (done ++ pair ∷ []))
  grown done pair count text more =
      subst (Appends old next) (ap (λ n. row_text done ++ (gap_after n ++ entry_text pair)) count ∙ sym (row_more done pair))
      (appends_more old now next _ _ text more)

  counted : (done : List (Key × ℕ)) (pair : Key × ℕ) → written ≡ length done → written + 1 ≡ length (done ++ pair ∷ [])
  counted done pair count = ap (λ n. n + 1) count ∙ sym (length-append done (pair ∷ []))

  pub row_goes_on : (order : Order) (p : LeafPtr) (pair : Key × ℕ) → IsRow s order walk pairs written old now →
      ((names : List OpaqueNodePtr) → IsIteratorOf s walk names → TakesEnd (starting_end order) s names (Some p) left) →
      option_map pair_of (map.get s.leaves p) ≡ Some pair → Appends now next (gap_after written ++ entry_text pair) →
      IsRow s order left pairs (written + 1) old next
  row_goes_on Rising p pair h taken read more =
      let step = first_step h.walk_is (λ names is. (taken names is).1) (λ names is. (taken names is).0) read in
      record {
        len = h.len - 1;
        walk_is = first_walk h.walk_is (λ names is. (taken names is).1) (λ names is. (taken names is).0);
        done = h.done ++ pair ∷ [];
        are = h.are ∙ ap (λ xs. h.done ++ xs) step ∙ sym (append_assoc h.done (pair ∷ []) (pairs_left s left (h.len - 1)));
        count = counted h.done pair h.count;
        text = grown h.done pair h.count h.text more;
      }
  row_goes_on Falling p pair h taken read more =
      let step = last_step h.walk_is (λ names is. (taken names is).1) (λ names is. (taken names is).0) read in
      record {
        len = h.len - 1;
        walk_is = last_walk h.walk_is (λ names is. (taken names is).1) (λ names is. (taken names is).0);
        done = h.done ++ pair ∷ [];
        are = h.are ∙ ap (λ xs. h.done ++ reverse xs) step ∙ ap (λ xs. h.done ++ xs) (reverse-append (pairs_left s left (h.len - 1)) (pair ∷ []))
            ∙ sym (append_assoc h.done (pair ∷ []) (reverse (pairs_left s left (h.len - 1))));
        count = counted h.done pair h.count;
        text = grown h.done pair h.count h.text more;
      }

  -- where no leaf is left
  nothing_left : (order : Order) (len : ℕ) → IsWalk s walk len →
      ((names : List OpaqueNodePtr) → IsIteratorOf s walk names → TakesEnd (starting_end order) s names None left) → pairs_left s walk len ≡ []
  nothing_left Rising len w taken = (first_ended w (λ names is. (taken names is).1) (λ names is. (taken names is).0)).0
  nothing_left Falling len w taken = (last_ended w (λ names is. (taken names is).1) (λ names is. (taken names is).0)).0

  nothing_ordered : (order : Order) → in_order {A = Key × ℕ} order [] ≡ []
  nothing_ordered Rising = refl
  nothing_ordered Falling = refl

  row_ends : (order : Order) → IsRow s order walk pairs written old now → pairs ≢ [] →
      ((names : List OpaqueNodePtr) → IsIteratorOf s walk names → TakesEnd (starting_end order) s names None left) →
      Appends now next (codes "\n") → Appends old next (pairs_text (in_order order pairs) ++ codes "\n")
  row_ends order h some taken ended =
      let all : in_order order pairs ≡ h.done =
      h.are ∙ ap (λ xs. h.done ++ in_order order xs) (nothing_left order h.len h.walk_is taken)
      ∙ ap (λ xs. h.done ++ xs) (nothing_ordered order) ∙ append-nil h.done in
      let is : pairs_text (in_order order pairs) ≡ row_text h.done = row_is (in_order order pairs) (ordered_some order pairs some) ∙ ap row_text all in
      subst (λ bs. Appends old next (bs ++ codes "\n")) (sym is) (appends_more old now next _ _ h.text ended)

-- ---- what the writer states

module _ (P : ℕ) (s : Nodes Key ℕ) (order : Order) (root : OpaqueNodePtr) where
  -- what holds of a canonical root's pairs
  abbrev ForPairs : (List (Key × ℕ) → Type 0) → Type 0
  ForPairs Holds = (pairs : List (Key × ℕ)) → IsCanonical (of_key key_bytes) P s (Some root) pairs → Holds pairs

  pub rows_begin : (old : Option (List ℕ)) (p q : LeafPtr) (walk : Option (LeafPtr × LeafPtr)) → walk ≡ Some (p, q) →
      ((layout : Tree OpaqueNodePtr (Key × ℕ)) → IsFullTree s root layout → HasFirstLeaf layout (leaf_name p)) →
      ((layout : Tree OpaqueNodePtr (Key × ℕ)) → IsFullTree s root layout → HasLastLeaf layout (leaf_name q)) →
      ForPairs (λ pairs. IsRow s order walk pairs 0 old old)
  rows_begin old p q walk is first last pairs (layout, by) =
      row_begins by order old p q walk is (first layout (full_tree by)) (last layout (full_tree by))

  pub rows_end : {E : Type 0} (walk left : Option (LeafPtr × LeafPtr)) (written : ℕ) (old now next : Option (List ℕ)) (r : Result (Unit {0}) E) →
      ForPairs (λ pairs. IsRow s order walk pairs written old now) →
      ((names : List OpaqueNodePtr) → IsIteratorOf s walk names → TakesEnd (starting_end order) s names None left) →
      OnOk r (Appends now next (codes "\n")) →
      OnOk r (ForPairs (λ pairs. Appends old next (pairs_text (in_order order pairs) ++ codes "\n")))
  rows_end walk left written old now next (Err e) h taken ended = tt
  rows_end walk left written old now next (Ok u) h taken ended =
      λ pairs by. row_ends s walk left pairs written old now next order (h pairs by) (some_pairs by.1) taken ended
