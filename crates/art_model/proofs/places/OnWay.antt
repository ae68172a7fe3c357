-- at most one child is on a key's path
use Rattle.std.proofs.Common.{◌≡◌, ◌≢◌, ℕ, ◌+◌, ◌<◌, ◌≤◌, List, [], ◌∷◌, ◌++◌, length, get_or, refl, ap, sym, ◌∙◌, arith, subst, append_assoc, append-nil, length-append, Some, None, Bool, true, false, cond, eqb, eqb-true}
use Rattle.std.specs.List.{AllByRecursion as Each}
use Rattle.std.proofs.lemmas.List.Elements.{filter-append}
use Rattle.std.proofs.lemmas.List.{get_or_at}
use Rattle.std.proofs.lemmas.Bool.{eqb-false}
use Rattle.art_model.specs.Prelude.{child_at, OpaqueNodePtr, IsFront, is_front, match_of, Tree, Subtrees, child, no_child, pairs_of, pairs_below, AreRadix, BytesRise, bytes_of, join, name_of, slots_of, places, places_below}
use Rattle.art_model.proofs.lists.Lists.{filter_none, Each-append, Each-weaker, front_cut, front_trans}
use Rattle.art_model.proofs.keys.Keys.{front_from}
use Rattle.art_model.proofs.radix.Radix.{AreRadix-left, AreRadix-right, pairs_below-join}
use Rattle.art_model.proofs.radix.Rebuild.{radix_way}
use Rattle.art_model.proofs.places.Places.{places_way}

is_false : (t : Bool) → (t ≡ true → ⊥) → t ≡ false
is_false true never = absurd (never refl)
is_false false never = refl

module _ {A : Type 0} (bytes : A → List ℕ) (key : List ℕ) where
  -- the key is not a prefix of the query
  abbrev pub IsOff : A → Type 0
  IsOff x = IsFront (bytes x) key → ⊥

  pub none_match : (xs : List A) → Each IsOff xs → match_of bytes key xs ≡ []
  none_match xs off =
      filter_none (λ x. is_front (bytes x) key) xs
      (Each-weaker IsOff (λ x. is_front (bytes x) key ≡ false)
      (λ x o. is_false (is_front (bytes x) key) (λ e. o (front_from (bytes x) key e))) xs off)

  -- nothing outside the middle matches
  match_between : (xs ys zs : List A) → Each IsOff xs → Each IsOff zs → match_of bytes key (xs ++ ys ++ zs) ≡ match_of bytes key ys
  match_between xs ys zs low high = simp (filter-append, none_match xs low, none_match zs high, append-nil)

  -- a prefix of something else is not a prefix of a key without it
  off_front : (front : List ℕ) → (IsFront front key → ⊥) → (xs : List A) → Each (λ x. IsFront front (bytes x)) xs → Each IsOff xs
  off_front front off xs begin = Each-weaker (λ x. IsFront front (bytes x)) IsOff (λ x f g. off (front_trans front (bytes x) key f g)) xs begin

-- the byte after a prefix
pub byte_after : (front key : List ℕ) (b : ℕ) → IsFront (front ++ b ∷ []) key → get_or key (length front) 0 ≡ b
byte_after front key b (r, e) = ap (λ k. get_or k (length front) 0) (e ∙ append_assoc front (b ∷ []) r) ∙ get_or_at front b r 0 (length front) refl

pub front_byte : (front key : List ℕ) → IsFront front key → length front < length key → IsFront (front ++ get_or key (length front) 0 ∷ []) key
front_byte front key ([], e) long = absurd (let l = ap length e in omega (arith, simp length-append at l))
front_byte front key (b ∷ r, e) long =
    let here : get_or key (length front) 0 ≡ b = ap (λ k. get_or k (length front) 0) e ∙ get_or_at front b r 0 (length front) refl in
    (r, e ∙ ap (λ c. front ++ c ∷ r) (sym here) ∙ sym (append_assoc front (get_or key (length front) 0 ∷ []) r))

-- the key doesn't continue below these children
abbrev pub AreAside : {N A : Type 0} → List ℕ → List ℕ → Subtrees N A → Type 0
AreAside front key cs = Each (λ b. IsFront (front ++ b ∷ []) key → ⊥) (bytes_of cs)

module _ {N A : Type 0} (front key : List ℕ) where
  -- each of the bytes is another than the key's
  pub aside_others : (cs : Subtrees N A) → Each (λ b. b ≢ get_or key (length front) 0) (bytes_of cs) → AreAside front key cs
  aside_others cs others = Each-weaker (λ b. b ≢ get_or key (length front) 0) (λ b. IsFront (front ++ b ∷ []) key → ⊥)
      (λ b o f. o (sym (byte_after front key b f))) (bytes_of cs) others

  -- any bytes will do if the prefix itself differs
  aside_all : (cs : Subtrees N A) → ((b : ℕ) → IsFront (front ++ b ∷ []) key → ⊥) → AreAside front key cs
  aside_all cs off = go (bytes_of cs)
    where
      go : (bs : List ℕ) → Each (λ b. IsFront (front ++ b ∷ []) key → ⊥) bs
      go [] = tt
      go (b ∷ bs) = (off b, go bs)

  pub aside_off : (cs : Subtrees N A) → (IsFront front key → ⊥) → AreAside front key cs
  aside_off cs off = aside_all cs (λ b f. off (front_cut front (b ∷ []) key f))

  pub aside_end : (cs : Subtrees N A) → length key ≤ length front → AreAside front key cs
  aside_end cs end = aside_all cs (λ b f. let l = ap length f.1 in omega (arith, simp length-append at l))

-- nothing is on the key's path below the other children
module _ {N A : Type 0} (bytes : A → List ℕ) (P : ℕ) (front key : List ℕ) where
  pub aside_pairs : (cs : Subtrees N A) → AreRadix bytes P front cs → AreAside front key cs → Each (IsOff bytes key) (pairs_below cs)
  aside_pairs no_child radix aside = tt
  aside_pairs (child b t cs) radix aside = Each-append (IsOff bytes key) (pairs_of t) (pairs_below cs)
      (off_front bytes key (front ++ b ∷ []) aside.0 (pairs_of t) (radix_way bytes P t (front ++ b ∷ []) radix.0))
      (aside_pairs cs radix.1 aside.1)

  pub aside_places : (d : ℕ) (cs : Subtrees N A) → d ≡ length front + 1 → AreRadix bytes P front cs → AreAside front key cs →
      Each (IsOff (λ (node : List ℕ × N). node.0) key) (places_below bytes d cs)
  aside_places d no_child deep radix aside = tt
  aside_places d (child b t cs) deep radix aside =
      let begin = subst (λ z. Each (λ node. IsFront (front ++ b ∷ []) node.0) (places bytes z t)) (length-append front (b ∷ []) ∙ sym deep)
      (places_way bytes P t (front ++ b ∷ []) radix.0) in
      Each-append (IsOff (λ (node : List ℕ × N). node.0) key) (places bytes d t) (places_below bytes d cs)
      (off_front (λ (node : List ℕ × N). node.0) key (front ++ b ∷ []) aside.0 (places bytes d t) begin)
      (aside_places d cs deep radix.1 aside.1)

places_below-join : {N A : Type 0} (bytes : A → List ℕ) (d : ℕ) (cs ds : Subtrees N A) →
    places_below bytes d (join cs ds) ≡ places_below bytes d cs ++ places_below bytes d ds
places_below-join bytes d no_child ds = refl
places_below-join bytes d (child b t cs) ds =
    ap (λ l. places bytes d t ++ l) (places_below-join bytes d cs ds)
    ∙ sym (append_assoc (places bytes d t) (places_below bytes d cs) (places_below bytes d ds))

-- all that is on the key's path is below the child between
module _ {N A : Type 0} (bytes : A → List ℕ) (P : ℕ) (front key : List ℕ) (l : Subtrees N A) (b : ℕ) (t : Tree N A) (r : Subtrees N A)
    (radix : AreRadix bytes P front (join l (child b t r))) (low : AreAside front key l) (high : AreAside front key r) where
  pub left : AreRadix bytes P front l
  left = AreRadix-left bytes P front l (child b t r) radix

  pub right : AreRadix bytes P front r
  right = (AreRadix-right bytes P front l (child b t r) radix).1

  pub pairs_between : match_of bytes key (pairs_below (join l (child b t r))) ≡ match_of bytes key (pairs_of t)
  pairs_between =
      ap (match_of bytes key) (pairs_below-join l (child b t r) ∙ sym (append_assoc (pairs_below l) (pairs_of t) (pairs_below r)))
      ∙ match_between bytes key (pairs_below l) (pairs_of t) (pairs_below r) (aside_pairs bytes P front key l left low)
      (aside_pairs bytes P front key r right high)

  pub places_between : (d : ℕ) → d ≡ length front + 1 →
      match_of (λ node. node.0) key (places_below bytes d (join l (child b t r))) ≡ match_of (λ node. node.0) key (places bytes d t)
  places_between d deep =
      ap (match_of (λ node. node.0) key) (places_below-join bytes d l (child b t r)
      ∙ sym (append_assoc (places_below bytes d l) (places bytes d t) (places_below bytes d r)))
      ∙ match_between (λ node. node.0) key (places_below bytes d l) (places bytes d t) (places_below bytes d r)
      (aside_places bytes P front key d l deep left low) (aside_places bytes P front key d r deep right high)

-- the child that an inner node's slots have under a byte: the others are under other bytes
pub record IsUnder {A : Type 0} (cs : Subtrees OpaqueNodePtr A) (b : ℕ) (name : OpaqueNodePtr) : Type 0 where
  pub left : Subtrees OpaqueNodePtr A
  pub tree : Tree OpaqueNodePtr A
  pub right : Subtrees OpaqueNodePtr A
  pub whole : cs ≡ join left (child b tree right)
  pub named : name_of tree ≡ name
  pub others_left : Each (λ c. c ≢ b) (bytes_of left)
  pub others_right : Each (λ c. c ≢ b) (bytes_of right)

module _ {A : Type 0} where
  pub child_under : (cs : Subtrees OpaqueNodePtr A) (b : ℕ) (name : OpaqueNodePtr) → BytesRise (bytes_of cs) →
      child_at (slots_of cs) b ≡ Some name → IsUnder cs b name
  child_under no_child b name up e = absurd cc
  child_under (child c t cs) b name up e = go (child_under cs b name up.1) (eqb c b) refl e
    where
      go : (child_at (slots_of cs) b ≡ Some name → IsUnder cs b name) → (q : Bool) → eqb c b ≡ q →
          cond q (Some (name_of t)) (child_at (slots_of cs) b) ≡ Some name → IsUnder (child c t cs) b name
      go ih true is e =
          let same : c ≡ b = eqb-true c b is in
          record {
            left = no_child;
            tree = t;
            right = cs;
            whole = ap (λ z. child z t cs) same;
            named = cc;
            others_left = tt;
            others_right
                = Each-weaker (λ d. c < d) (λ d. d ≢ b) (λ d o f. omega arith) (bytes_of cs) up.0;
          }
      go ih false is e =
          let u = ih e in
          record {
            left = child c t u.left;
            tree = u.tree;
            right = u.right;
            whole = ap (child c t) u.whole;
            named = u.named;
            others_left
                = (eqb-false c b is, u.others_left);
            others_right = u.others_right;
          }

  pub no_child_under : (cs : Subtrees OpaqueNodePtr A) (b : ℕ) → child_at (slots_of cs) b ≡ None → Each (λ c. c ≢ b) (bytes_of cs)
  no_child_under no_child b e = tt
  no_child_under (child c t cs) b e = go (no_child_under cs b) (eqb c b) refl e
    where
      go : (child_at (slots_of cs) b ≡ None → Each (λ c. c ≢ b) (bytes_of cs)) → (q : Bool) → eqb c b ≡ q →
          cond q (Some (name_of t)) (child_at (slots_of cs) b) ≡ None → Each (λ c. c ≢ b) (bytes_of (child c t cs))
      go ih true is e = absurd cc
      go ih false is e = (eqb-false c b is, ih e)
