-- What a check has met is on trails from the root, and below the places that it reached.
use Rattle.std.proofs.Common.{◌≡◌, ◌≢◌, ℕ, ◌<◌, List, [], ◌∷◌, ◌++◌, length, append-nil, append_assoc, true, refl, ap, sym, ◌∙◌, arith, subst, eq-eqb, Option, Some, None, IfSome, ◌⊎◌, inl, inr}
use Rattle.std.proofs.lemmas.Bool.{cases_Bool, ne_eqb, true≢false}
use Rattle.std.specs.FinMap as map
use Rattle.std.specs.List.{AllByRecursion as Each}
use Rattle.art_model.specs.Prelude.{child_at, inner_name, Nodes, InnerPtr, Leaf, LeafPtr, OpaqueNodePtr, Reaches, IsFront, is_before, Node, inner_node, node_at, header_at, end_of, IsTrail, HasPrefix, IsReadAs, NodeHeader}
use Rattle.art_inner.specs.Inner as entries
use Rattle.art_model.specs.Trails.{HasChild}
use Rattle.art_model.proofs.keys.KeyLaws.{order_is_decided, order_is_strict, order_is_transitive}
use Rattle.art_model.proofs.lists.Lists.{front_cut}
use Rattle.art_checking.specs.Checked.{AllBefore, IsFirstLeast, IsLeastLeaf, IsRead, IsWalked, NoneAfter}
use Rattle.art_checking.specs.Marks.{same_name}
use Rattle.art_checking.specs.Meetings.{Places, IsMet}
use Rattle.art_checking.proofs.LeastDescents.{inner_at, least_below}
use Rattle.art_checking.proofs.Meetings.{same_is, same_self}

-- ---- children by rising bytes
below_at : (a : ℕ) (xs : entries.Children) (b : ℕ) (n : OpaqueNodePtr) (ys : entries.Children) → entries.IsBelow a (xs ++ (b, n) ∷ ys) → a < b
below_at a [] b n ys h = h.0
below_at a (x ∷ xs) b n ys h = below_at a xs b n ys h.1

child_there : (xs : entries.Children) (b : ℕ) (n : OpaqueNodePtr) (ys : entries.Children) → entries.IsRising (xs ++ (b, n) ∷ ys) →
    child_at (xs ++ (b, n) ∷ ys) b ≡ Some n
child_there [] b n ys h = rw (eq-eqb b b refl) refl
child_there (x ∷ xs) b n ys h = rw (ne_eqb x.0 b (λ e. let l = below_at x.0 xs b n ys h.0 in omega arith)) (child_there xs b n ys h.1)

pub rising_right : (xs ys : entries.Children) → entries.IsRising (xs ++ ys) → entries.IsRising ys
rising_right [] ys h = h
rising_right (x ∷ xs) ys h = rising_right xs ys h.1

-- ---- one further step on a trail
module _ {A : Type 0} (at : OpaqueNodePtr → Option (Node OpaqueNodePtr A)) where
  end_more : (name : OpaqueNodePtr) (steps : List (ℕ × OpaqueNodePtr)) (step : ℕ × OpaqueNodePtr) → end_of name (steps ++ step ∷ []) ≡ step.1
  end_more name [] step = refl
  end_more name (s ∷ ss) step = end_more s.1 ss step

  trail_more : (name : OpaqueNodePtr) (steps : List (ℕ × OpaqueNodePtr)) (step : ℕ × OpaqueNodePtr) → IsTrail at name steps →
      HasChild at (end_of name steps) step → IsTrail at name (steps ++ step ∷ [])
  trail_more name [] step trail has = (has, tt)
  trail_more name (s ∷ ss) step trail has = (trail.0, trail_more s.1 ss step trail.1 has)

  read_more : (bytes : A → List ℕ) (P : ℕ) (front : List ℕ) (name : OpaqueNodePtr) (steps : List (ℕ × OpaqueNodePtr)) (step : ℕ × OpaqueNodePtr)
      (place part : List ℕ) → IsReadAs at bytes P front name steps place → HasPrefix at bytes P (length place) (end_of name steps) part →
      IsReadAs at bytes P front name (steps ++ step ∷ []) (place ++ part ++ step.0 ∷ [])
  read_more bytes P front name [] step place part is has =
      (part, subst (λ p. HasPrefix at bytes P (length p) name part) is has, ap (λ p. p ++ part ++ step.0 ∷ []) is)
  read_more bytes P front name (s ∷ ss) step place part (q, own, rest) has =
      (q, own, read_more bytes P (front ++ q ++ s.0 ∷ []) s.1 ss step place part rest has)

module _ {K V : Type 0} (bytes : K × V → List ℕ) (P : ℕ) (s : Nodes K V) where
  -- a child of a node that is reached is reached after the node's prefix and the child's byte
  reach_child : {root name : OpaqueNodePtr} {place : List ℕ} (part : List ℕ) (b : ℕ) (child : OpaqueNodePtr) → Reaches bytes P s root place name →
      HasPrefix (node_at s) bytes P (length place) name part → HasChild (node_at s) name (b, child) →
      Reaches bytes P s root (place ++ part ++ b ∷ []) child
  reach_child {root} {name} {place} part b child reach prefix has = record {
    steps = reach.steps ++ (b, child) ∷ [];
    is_trail = trail_more (node_at s) root reach.steps (b, child) reach.is_trail (subst (λ n. HasChild (node_at s) n (b, child)) (sym reach.ends) has);
    ends = end_more (node_at s) root reach.steps (b, child);
    is_read = read_more (node_at s) bytes P [] root reach.steps (b, child) place part reach.is_read
        (subst (λ n. HasPrefix (node_at s) bytes P (length place) n part) (sym reach.ends) prefix);
  }

  pub reach_root : (root : OpaqueNodePtr) → Reaches bytes P s root [] root
  reach_root root = record { steps = []; is_trail = tt; ends = refl; is_read = refl }

  -- so is the next child of a node whose prefix was read
  pub child_reached : {place read : List ℕ} (p : InnerPtr) (node : entries.Inner) → p.kind ≢ Leaf → map.get s.inners p ≡ Some node →
      entries.IsRising node.children → (is : IsRead bytes P s place read (inner_name p) (header_at p.kind node)) (done : entries.Children)
      (b : ℕ) (child : OpaqueNodePtr) (left : entries.Children) →
      done ++ (b, child) ∷ left ≡ node.children → (root : OpaqueNodePtr) → Reaches bytes P s root place (inner_name p) →
      Reaches bytes P s root ((place ++ is.part) ++ b ∷ []) child
  child_reached p node proper there rises is done b child left slots root reach =
      let at = inner_at s p node proper there in
      let under = subst (λ l. child_at l b ≡ Some child) slots (child_there done b child left (subst entries.IsRising (sym slots) rises)) in
      reach_child is.part b child reach (header_at p.kind node, node.children, at, is.is_prefix) (header_at p.kind node, node.children, at, under)

  -- the same prefix, wherever the bytes are
  abbrev pub read_again : {place read : List ℕ} {name : OpaqueNodePtr} {h : NodeHeader} (again : List ℕ) (is : IsRead bytes P s place read name h) →
      again ≡ place ++ is.part → IsRead bytes P s place again name h
  read_again again is same = record { part = is.part; is = same; long = is.long; stored = is.stored; is_prefix = is.is_prefix }

-- ---- places
front_self : (p q : List ℕ) → p ≡ q → IsFront p q
front_self p q e = ([], sym e ∙ sym (append-nil p))

-- a place is before those of its node's children
before_child : (place part : List ℕ) (b : ℕ) → is_before place ((place ++ part) ++ b ∷ []) ≡ true
before_child place [] b =
    (order_is_decided place ((place ++ []) ++ b ∷ [])).1 (inl (b, [], ap (λ xs. xs ++ b ∷ []) (append-nil place)))
before_child place (x ∷ part) b =
    (order_is_decided place ((place ++ x ∷ part) ++ b ∷ [])).1 (inl (x, part ++ b ∷ [], append_assoc place (x ∷ part) (b ∷ [])))

-- what is below a child is before the children under greater bytes
before_next : (front other : List ℕ) (b c : ℕ) → b < c → IsFront (front ++ b ∷ []) other → is_before other (front ++ c ∷ []) ≡ true
before_next front other b c less (rest, e) =
    (order_is_decided other (front ++ c ∷ [])).1 (inr (front, b, c, rest, [], e ∙ append_assoc front (b ∷ []) rest, refl, less))

-- a place is not before itself
pub before_differs : (first later : List ℕ) → is_before first later ≡ true → first ≢ later
before_differs first later before same =
    true≢false (sym (subst (λ z. is_before z later ≡ true) same before) ∙ order_is_strict later)

same_some : {X : Type 0} {x y : X} {o : Option X} → o ≡ Some x → o ≡ Some y → y ≡ x
same_some e f = cc

-- what holds of a name that was just met and of all others holds of each
met_or_before : {old new : Places} {name : OpaqueNodePtr} {place : List ℕ} → IsMet old new name place → (n : OpaqueNodePtr) (other : List ℕ) →
    new n ≡ Some other → ((n ≡ name) × (other ≡ place)) ⊎ (old n ≡ Some other)
met_or_before {old} {new} {name} {place} met n other e = elim (cases_Bool (same_name n name)) [
  | inl h ↦ let same = same_is n name h in inl (same, same_some met.here (sym (ap new same) ∙ e))
  | inr h ↦ inr (sym (met.elsewhere n (λ same. true≢false (sym (same_self n) ∙ ap (same_name n) same ∙ h))) ∙ e)
]

-- nothing was met after the place of a name that was just met
pub none_after : {old new : Places} {name : OpaqueNodePtr} {place : List ℕ} → IsMet old new name place → AllBefore old place → NoneAfter new place
none_after met all n other e = elim (met_or_before met n other e) [ inl h ↦ inr h.1 | inr h ↦ inl (all n other h) ]

module _ {K V : Type 0} {bytes : K × V → List ℕ} {P : ℕ} {s : Nodes K V} where
  -- ---- a child is met, and then all below it
  pub met_walked : {old new : Places} {name : OpaqueNodePtr} {place : List ℕ} → IsMet old new name place → IsWalked bytes P s old new place name
  met_walked {old} {new} {name} {place} met = record {
    below = λ n other e. elim (met_or_before met n other e) [ inl h ↦ inr (front_self place other (sym h.1)) | inr h ↦ inl h ];
    reached = λ root all reach n other e. elim (met_or_before met n other e) [
      | inl h ↦ subst (λ k. Reaches bytes P s root other k) (sym h.0) (subst (λ p. Reaches bytes P s root p name) (sym h.1) reach)
      | inr h ↦ all n other h
    ];
  }

  pub walked_also : {old mid new : Places} {node name : OpaqueNodePtr} {place : List ℕ} → node ≡ name → IsWalked bytes P s old mid place name →
      IsWalked bytes P s mid new place node → IsWalked bytes P s old new place name
  walked_also {place = place} is first second = record {
    below = λ n other e. elim (second.below n other e) [ inl h ↦ first.below n other h | inr f ↦ inr f ];
    reached = λ root all reach. second.reached root (first.reached root all reach) (subst (Reaches bytes P s root place) (sym is) reach);
  }

-- ---- the children of a node, one by one

-- All below some children of a node was met, and nothing after the others.
pub record HasWalked {K V : Type 0} (bytes : K × V → List ℕ) (P : ℕ) (s : Nodes K V) (old new : Places) (place part : List ℕ)
    (name : OpaqueNodePtr) (left : entries.Children) : Type 0 where
  pub walked : IsWalked bytes P s old new place name
  pub free : Each (λ step. AllBefore new ((place ++ part) ++ step.0 ∷ [])) left

module _ {K V : Type 0} {bytes : K × V → List ℕ} {P : ℕ} {s : Nodes K V} where
  pub walked_none : {old : Places} {place : List ℕ} (part : List ℕ) (name : OpaqueNodePtr) (left : entries.Children) → NoneAfter old place →
      HasWalked bytes P s old old place part name left
  walked_none {old} {place} part name left none = record { walked = record { below = λ n other e. inl e; reached = λ root all reach. all }; free = go left }
    where
      free : (b : ℕ) → AllBefore old ((place ++ part) ++ b ∷ [])
      free b n other e = elim (none n other e) [
        | inl before ↦ order_is_transitive other place ((place ++ part) ++ b ∷ []) before (before_child place part b)
        | inr same ↦ subst (λ z. is_before z ((place ++ part) ++ b ∷ []) ≡ true) (sym same) (before_child place part b)
      ]

      go : (left : entries.Children) → Each (λ step. AllBefore old ((place ++ part) ++ step.0 ∷ [])) left
      go [] = tt
      go (step ∷ steps) = (free step.0, go steps)

  pub walked_more : {old mid new : Places} {place part : List ℕ} {name : OpaqueNodePtr} {left : entries.Children} (b : ℕ) (child : OpaqueNodePtr) →
      HasWalked bytes P s old mid place part name ((b, child) ∷ left) → entries.IsBelow b left →
      ((root : OpaqueNodePtr) → Reaches bytes P s root place name → Reaches bytes P s root ((place ++ part) ++ b ∷ []) child) →
      IsWalked bytes P s mid new ((place ++ part) ++ b ∷ []) child → HasWalked bytes P s old new place part name left
  walked_more {old} {mid} {new} {place} {part} {name} {left} b child has rises step walked = record {
    walked = record {
      below = λ n other e. elim (walked.below n other e) [
        | inl h ↦ has.walked.below n other h
        | inr f ↦ inr
            (front_cut place part other (front_cut (place ++ part) (b ∷ []) other f))
      ];
      reached = λ root all reach. walked.reached root (has.walked.reached root all reach) (step root reach);
    };
    free = go left rises has.free.1;
  }
    where
      go : (left : entries.Children) → entries.IsBelow b left → Each (λ step. AllBefore mid ((place ++ part) ++ step.0 ∷ [])) left →
          Each (λ step. AllBefore new ((place ++ part) ++ step.0 ∷ [])) left
      go [] r h = tt
      go (c ∷ cs) r h = (
        λ n other e. elim (walked.below n other e) [ inl m ↦ h.0 n other m | inr f ↦ before_next (place ++ part) other b c.0 r.0 f ],
        go cs r.1 h.1,
      )

-- ---- the least leaf is that of the first child
module _ {K V : Type 0} (bytes : K × V → List ℕ) (P : ℕ) (s : Nodes K V) where
  pub first_least : (name : OpaqueNodePtr) (h : NodeHeader) (slots : entries.Children) (found : Option LeafPtr) →
      node_at s name ≡ Some (inner_node h slots) → IfSome found (λ leaf. IsLeastLeaf bytes P s name (Some leaf)) → IsFirstLeast bytes P s found slots
  first_least name h slots None there least = tt
  first_least name h [] (Some leaf) there least = tt
  first_least name h (step ∷ slots) (Some leaf) there least = least_below bytes P s name h step.0 step.1 slots leaf there least

  pub least_known : (found : Option LeafPtr) (b : ℕ) (child : OpaqueNodePtr) (left : entries.Children) → IsFirstLeast bytes P s found ((b, child) ∷ left) →
      IfSome found (λ leaf. IsLeastLeaf bytes P s child (Some leaf))
  least_known None b child left least = tt
  least_known (Some leaf) b child left least = least
