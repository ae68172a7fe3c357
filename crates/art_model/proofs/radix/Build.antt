-- grouping a map gives a radix tree
use Rattle.std.proofs.Common.{◌≡◌, ℕ, suc, zero, ◌+◌, ◌<◌, ◌≤◌, List, [], ◌∷◌, ◌++◌, length, drop, refl, ap, sym, ◌∙◌, append_assoc, append-nil, arith, length-append, eqb, eqb-true, true, false, cond, Option, Some, Bool, map, subst}
use Rattle.std.specs.List.{AllByRecursion as Each}
use Rattle.std.proofs.lemmas.Bool.{eqb-false}
use Rattle.art_model.specs.Prelude.{IsFront, Precedes, shared_part, groups, Tree, leaf, inner, Subtrees, child, no_child, tree_of, node_of, canonical_header, IsRadix, AreRadix, BytesRise, bytes_of, pairs_of, pairs_below, IsMap}
use Rattle.art_model.specs.Trees.{add_to_groups, byte_at, tree_within, children_of}
use Rattle.art_model.proofs.lists.Lists.{Each-left, Each-right, after_front, Each-weaker}
use Rattle.art_model.proofs.radix.Groups.{shared_part-front, shared_part_shared}
use Rattle.art_model.proofs.keys.Keys.{precedes_byte, parts_left, parts_right, IsMap-left, IsMap-right}
use Rattle.art_model.proofs.radix.Rebuild.{byte_after}

module _ {A : Type 0} where
  -- the groups joined again
  abbrev pub joined : List (ℕ × List A) → List A
  joined [] = []
  joined ((b, group) ∷ others) = group ++ joined others

  abbrev bytes_in : List (ℕ × List A) → List ℕ
  bytes_in [] = []
  bytes_in ((b, group) ∷ others) = b ∷ bytes_in others

  -- each group has an element, and its elements have its byte
  abbrev AreGroups : (A → ℕ) → List (ℕ × List A) → Type 0
  AreGroups byte [] = Unit {0}
  AreGroups byte ((b, group) ∷ others) = (1 ≤ length group) × Each (λ x. byte x ≡ b) group × AreGroups byte others

  abbrev IsSortedAt : (A → ℕ) → List A → Type 0
  IsSortedAt byte [] = Unit {0}
  IsSortedAt byte (x ∷ xs) = Each (λ y. byte x ≤ byte y) xs × IsSortedAt byte xs

  abbrev Groups : (A → ℕ) → List (ℕ × List A) → List A → Type 0
  Groups byte gs xs = (joined gs ≡ xs) × AreGroups byte gs × BytesRise (bytes_in gs)

  -- where no element is below a byte, no group is
  floor : (byte : A → ℕ) (b : ℕ) (gs : List (ℕ × List A)) → AreGroups byte gs → Each (λ y. b ≤ byte y) (joined gs) → Each (λ c. b ≤ c) (bytes_in gs)
  floor byte b [] h k = tt
  floor byte b ((c, []) ∷ others) h k = absurd (omega arith)
  floor byte b ((c, x ∷ group) ∷ others) h k = (omega (arith, h.1.0, k.0), floor byte b others h.2 (Each-right (λ y. b ≤ byte y) (x ∷ group) (joined others) k))

  add_groups : (byte : A → ℕ) (x : A) (gs : List (ℕ × List A)) → AreGroups byte gs → BytesRise (bytes_in gs) → Each (λ c. byte x ≤ c) (bytes_in gs) →
      Groups byte (add_to_groups (byte x) x gs) (x ∷ joined gs)
  add_groups byte x [] h up low = (refl, (omega arith, (refl, tt), tt), (tt, tt))
  add_groups byte x ((c, group) ∷ others) h up low = go (eqb (byte x) c) refl
    where
      go : (t : Bool) → eqb (byte x) c ≡ t → Groups byte (cond t ((byte x, x ∷ group) ∷ others) ((byte x, x ∷ []) ∷ (c, group) ∷ others))
          (x ∷ (group ++ joined others))
      go true e = let p = eqb-true (byte x) c e in (refl, (omega arith, (refl, subst (λ z. Each (λ y. byte y ≡ z) group) (sym p) h.1), h.2), rw p up)
      go false e = let p = eqb-false (byte x) c e in (
        refl,
        (omega arith, (refl, tt), h),
        (
          (
            omega arith,
            Each-weaker (λ d. c < d) (λ d. byte x < d) (λ d l. omega arith) (bytes_in others) up.0,
          ),
          up,
        ),
      )

  groups_are : (byte : A → ℕ) (xs : List A) → IsSortedAt byte xs → Groups byte (groups byte xs) xs
  groups_are byte [] h = (refl, tt, tt)
  groups_are byte (x ∷ xs) h =
      let (e, are, up) = groups_are byte xs h.1 in
      let g = add_groups byte x (groups byte xs) are up (floor byte (byte x) (groups byte xs) are (rw e h.0)) in
      rw e at g

module _ {A : Type 0} (bytes : A → List ℕ) where
  -- where the keys continue after a common prefix: each with a byte
  abbrev GoesOn : List ℕ → A → Type 0
  GoesOn front x = (b : ℕ) × (rest : List ℕ) × (bytes x ≡ front ++ b ∷ rest)

  sooner : (front : List ℕ) (x y : A) → Precedes (bytes x) (bytes y) → IsFront front (bytes x) → IsFront front (bytes y) → GoesOn front x
  sooner front x y o ([], e) (s, f) = absurd (parts_left front s (bytes x) (bytes y) e f o)
  sooner front x y o (b ∷ r, e) g = (b, r, e)

  later : (front : List ℕ) (x y : A) → Precedes (bytes x) (bytes y) → IsFront front (bytes x) → IsFront front (bytes y) → GoesOn front y
  later front x y o (r, e) ([], f) = absurd (parts_right front r (bytes x) (bytes y) e f o)
  later front x y o g (c ∷ s, f) = (c, s, f)

  all_later : (front : List ℕ) (x : A) (ys : List A) → Each (λ y. Precedes (bytes x) (bytes y)) ys → IsFront front (bytes x) →
      Each (λ y. IsFront front (bytes y)) ys → Each (GoesOn front) ys
  all_later front x [] o e f = tt
  all_later front x (y ∷ ys) o e f = (later front x y o.0 e f.0, all_later front x ys o.1 e f.1)

  -- two or more keys of a map continue after every common prefix
  go_on : (front : List ℕ) (x y : A) (xs : List A) → IsMap bytes (x ∷ y ∷ xs) → Each (λ z. IsFront front (bytes z)) (x ∷ y ∷ xs) →
      Each (GoesOn front) (x ∷ y ∷ xs)
  go_on front x y xs h f = (sooner front x y h.0.0 f.0 f.1.0, all_later front x (y ∷ xs) h.0 f.0 f.1)

  at_byte : (front : List ℕ) (x : A) (b : ℕ) (r : List ℕ) → bytes x ≡ front ++ b ∷ r → byte_at bytes (length front) x ≡ b
  at_byte front x b r e = byte_after bytes front b x (r, e ∙ sym (append_assoc front (b ∷ []) r))

  byte_order : (front : List ℕ) (x y : A) → Precedes (bytes x) (bytes y) → GoesOn front x → GoesOn front y →
      byte_at bytes (length front) x ≤ byte_at bytes (length front) y
  byte_order front x y o (b, r, e) (c, s, f) = rw (at_byte front x b r e, at_byte front y c s f) (precedes_byte front b c r s (bytes x) (bytes y) e f o)

  bytes_order : (front : List ℕ) (x : A) (ys : List A) → Each (λ y. Precedes (bytes x) (bytes y)) ys → GoesOn front x → Each (GoesOn front) ys →
      Each (λ y. byte_at bytes (length front) x ≤ byte_at bytes (length front) y) ys
  bytes_order front x [] o e f = tt
  bytes_order front x (y ∷ ys) o e f = (byte_order front x y o.0 e f.0, bytes_order front x ys o.1 e f.1)

  sorted_at : (front : List ℕ) (xs : List A) → IsMap bytes xs → Each (GoesOn front) xs → IsSortedAt (byte_at bytes (length front)) xs
  sorted_at front [] h f = tt
  sorted_at front (x ∷ xs) h f = (bytes_order front x xs h.0 f.0 f.1, sorted_at front xs h.1 f.1)

  -- a group's keys start with the prefix and its byte
  with_byte : (front : List ℕ) (b : ℕ) (xs : List A) → Each (GoesOn front) xs → Each (λ x. byte_at bytes (length front) x ≡ b) xs →
      Each (λ x. IsFront (front ++ b ∷ []) (bytes x)) xs
  with_byte front b [] f g = tt
  with_byte front b (x ∷ xs) f g =
      let (c, r, e) = f.0 in
      let p : c ≡ b = sym (at_byte front x c r e) ∙ g.0 in
      ((r, e ∙ ap (λ z. front ++ z ∷ r) p ∙ sym (append_assoc front (b ∷ []) r)), with_byte front b xs f.1 g.1)

  -- all keys start with the place and the shared part
  with_part : (place : List ℕ) (s : List ℕ) (xs : List A) → Each (λ x. IsFront place (bytes x)) xs →
      Each (λ x. IsFront s (drop (length place) (bytes x))) xs → Each (λ x. IsFront (place ++ s) (bytes x)) xs
  with_part place s [] h g = tt
  with_part place s (x ∷ xs) h g =
      let (r, e) = h.0 in
      let (q, f) = g.0 in
      ((q, e ∙ ap (λ z. place ++ z) (sym (after_front place (bytes x) r e) ∙ f) ∙ sym (append_assoc place s q)), with_part place s xs h.1 g.1)

  groups_long : (byte : A → ℕ) (gs : List (ℕ × List A)) → AreGroups byte gs → length gs ≤ length (joined gs)
  groups_long byte [] h = omega arith
  groups_long byte ((b, g) ∷ others) h = let more = groups_long byte others h.2 in rw length-append (omega arith)

  -- the shared part is the longest: two or more groups
  two_groups : (place : List ℕ) (x : A) (xs : List A) (gs : List (ℕ × List A)) → let front = place ++ shared_part bytes (length place) (x ∷ xs) in
      joined gs ≡ x ∷ xs → AreGroups (byte_at bytes (length front)) gs → Each (GoesOn front) (x ∷ xs) → 2 ≤ length gs
  two_groups place x xs [] e are on = absurd cc
  two_groups place x xs ((b, g) ∷ []) e are on =
      let part = shared_part bytes (length place) (x ∷ xs) in
      let front = place ++ part in
      let whole : g ≡ x ∷ xs = sym (append-nil g) ∙ e in
      let one : Each (λ z. byte_at bytes (length front) z ≡ b) (x ∷ xs) = subst (λ l. Each (λ z. byte_at bytes (length front) z ≡ b) l) whole are.1 in
      let longer : Each (λ z. IsFront (place ++ (part ++ b ∷ [])) (bytes z)) (x ∷ xs) =
      subst (λ f. Each (λ z. IsFront f (bytes z)) (x ∷ xs)) (append_assoc place part (b ∷ [])) (with_byte front b (x ∷ xs) on one) in
      let p = ap length (shared_part-front bytes place (part ++ b ∷ []) x xs longer) in
      absurd (omega (arith, simp length-append at p))
  two_groups place x xs ((b, g) ∷ (c, k) ∷ gs) e are on = omega arith

  length-bytes_in : (gs : List (ℕ × List A)) → length (bytes_in gs) ≡ length gs
  length-bytes_in [] = refl
  length-bytes_in ((b, g) ∷ gs) = ap suc (length-bytes_in gs)

module _ {A : Type 0} (bytes : A → List ℕ) (P : ℕ) where
  -- the node of a list, by its parts
  node_is : (f : ℕ → List A → Option (Tree (Unit {0}) A)) (d e n : ℕ) (xs : List A) (cs : Subtrees (Unit {0}) A) →
      e ≡ d + length (shared_part bytes d xs) → children_of (f (e + 1)) (groups (byte_at bytes e) xs) ≡ cs → length (groups (byte_at bytes e) xs) ≡ n →
      node_of bytes f P d xs ≡ Some (inner tt (canonical_header P (shared_part bytes d xs) n) cs)
  node_is f d e n xs cs depth made count = rw (← depth, made, count) refl

  -- pairs whose keys start with a place have a radix tree there, and grouping gives it
  abbrev Builds : ℕ → Type 0
  Builds turns = (place : List ℕ) (xs : List A) → IsMap bytes xs → Each (λ x. IsFront place (bytes x)) xs → 1 ≤ length xs → length xs ≤ turns →
      (t : Tree (Unit {0}) A) × (tree_within bytes turns P (length place) xs ≡ Some t) × IsRadix bytes P place t × (pairs_of t ≡ xs)

  build_below : (turns : ℕ) → Builds turns → (front : List ℕ) (gs : List (ℕ × List A)) → AreGroups (byte_at bytes (length front)) gs →
      Each (GoesOn bytes front) (joined gs) → IsMap bytes (joined gs) → length (joined gs) + 1 ≤ turns + length gs →
      (cs : Subtrees (Unit {0}) A) × (children_of (tree_within bytes turns P (length front + 1)) gs ≡ cs) × AreRadix bytes P front cs ×
      (bytes_of cs ≡ bytes_in gs) × (pairs_below cs ≡ joined gs)
  build_below turns ih front [] are on map enough = (no_child, refl, tt, refl, refl)
  build_below turns ih front ((b, g) ∷ gs) are on map enough =
      let long = groups_long bytes (byte_at bytes (length front)) gs are.2 in
      let sum = length-append g (joined gs) in
      let one : 1 ≤ length g = are.0 in
      let (cs, made, below, heads, pairs) =
      build_below turns ih front gs are.2 (Each-right (GoesOn bytes front) g (joined gs) on)
      (IsMap-right bytes g (joined gs) map) (omega arith) in
      let (t, is, radix, its) = ih (front ++ b ∷ []) g (IsMap-left bytes g (joined gs) map)
      (with_byte bytes front b g (Each-left (GoesOn bytes front) g (joined gs) on) are.1) one (omega arith) in
      let is' : tree_within bytes turns P (length front + 1) g ≡ Some t =
      subst (λ d. tree_within bytes turns P d g ≡ Some t) (length-append front (b ∷ [])) is in
      (child b t cs, rw (is', made) refl, (radix, below), ap (λ l. b ∷ l) heads, rw (its, pairs) refl)

  pub build : (turns : ℕ) → Builds turns
  build zero place xs sorted ways some enough = absurd (omega arith)
  build (suc turns) place [] sorted ways some enough = absurd (omega arith)
  build (suc turns) place (x ∷ []) sorted ways some enough = (leaf tt x, refl, ways.0, refl)
  build (suc turns) place (x ∷ y ∷ xs) sorted ways some enough =
      let part = shared_part bytes (length place) (x ∷ y ∷ xs) in
      let front = place ++ part in
      let byte = byte_at bytes (length front) in
      let gs = groups byte (x ∷ y ∷ xs) in
      let on = go_on bytes front x y xs sorted (with_part bytes place part (x ∷ y ∷ xs) ways (shared_part_shared bytes (length place) (x ∷ y ∷ xs))) in
      let (e, are, up) = groups_are byte (x ∷ y ∷ xs) (sorted_at bytes front (x ∷ y ∷ xs) sorted on) in
      let two = two_groups bytes place x (y ∷ xs) gs e are on in
      let l = ap length e in
      let (cs, made, below, heads, pairs) = build_below turns (build turns) front gs are (rw e on) (rw e sorted) (omega arith) in
      let count : length gs ≡ length (bytes_of cs) = sym (length-bytes_in bytes gs) ∙ ap length (sym heads) in
      let t = inner tt (canonical_header P part (length (bytes_of cs))) cs in
      let same : tree_within bytes (suc turns) P (length place) (x ∷ y ∷ xs) ≡ Some t =
      node_is (tree_within bytes turns P) (length place) (length front) (length (bytes_of cs)) (x ∷ y ∷ xs) cs (length-append place part) made count in
      (t, same, (part, refl, rw (← count) two, subst BytesRise (sym heads) up, below), pairs ∙ e)

  -- the tree of a map: grouping gives a radix tree of these pairs
  pub build_root : (xs : List A) → IsMap bytes xs → 1 ≤ length xs →
      (t : Tree (Unit {0}) A) × (tree_of bytes xs P 0 ≡ Some t) × IsRadix bytes P [] t × (pairs_of t ≡ xs)
  build_root xs sorted some = build (length xs) [] xs sorted (no_way xs) some (omega arith)
    where
      no_way : (ys : List A) → Each (λ x. IsFront [] (bytes x)) ys
      no_way [] = tt
      no_way (y ∷ ys) = ((bytes y, refl), no_way ys)
