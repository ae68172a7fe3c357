-- The texts that are prefixes of a query, as an iterator returns them from both ends.
use Rattle.std.proofs.Common.{◌≡◌, ℕ, ◌+◌, ◌-◌, ◌<◌, ◌≤◌, ◌⊎◌, List, [], ◌∷◌, ◌++◌, length, length-append, length-take, append-nil, take, filter, arith, refl, ap, ap₂, sym, subst, ◌∙◌, Option, Some, None, Bool, true, false, inl, inr, cond, leb}
use Rattle.std.specs.List.{AllByRecursion as Each}
use Rattle.std.proofs.lemmas.Bool.{cases_lt, le-leb, leb-true, lt-leb}
use Rattle.std.proofs.lemmas.List.{take-append-drop}
use Rattle.std.proofs.lemmas.List.Elements.{filter-append}
use Rattle.art_parts.specs.Keys.{IsFront, Precedes, is_front}
use Rattle.art_model.specs.Pairs.{IsMap, Pairwise, first_of, last_of, of_key, without_last}
use Rattle.art_model.proofs.keys.Keys.{front_from}
use Rattle.art_model.proofs.leaves.Segments.{but_last}
use Rattle.art_model.proofs.lists.Filters.{Each-both, Each-filter, Pairwise-filter, filter_all, filter_filter, filter_passes}
use Rattle.art_model.proofs.lists.Lists.{Each-append, Each-left, Each-right, Each-weaker, filter_none, front_trans}
use Rattle.art_model.proofs.lists.Pairwises.{Pairwise-before}
use Rattle.art_model.specs.Texts.{AreEnded, IsEndedBy, texts_in_front, text_of}
use Rattle.art_model.proofs.keys.Texts.{ended_text, front_of_fronts, front_short, fronts_first, not_front, true_front}
use Rattle.art_model.proofs.pairs.Puts.{first_has}
use Rattle.art_ranges.specs.ShortTexts.{texts_from}
use Rattle.art_keyed.specs.Matches.{matches_left}

-- the first so many bytes are a prefix
cut_front : (n : ℕ) (q : List ℕ) → IsFront (take n q) q
cut_front n q = (_, sym (take-append-drop n q))

none_left : {A : Type 0} (xs : List A) → Each (λ x. ⊥) xs → xs ≡ []
none_left [] h = refl
none_left (x ∷ xs) h = absurd h.0

-- a list with a last element is the others and then that one
but_the_last : {A : Type 0} (xs : List A) (z : A) → last_of xs ≡ Some z → xs ≡ without_last xs ++ z ∷ []
but_the_last [] z e = absurd cc
but_the_last (x ∷ xs) z e = but_last x xs z e

module _ {A : Type 0} (bytes : A → List ℕ) (end : ℕ) (q : List ℕ) where
  -- of two texts that are prefixes of a query the first one is shorter
  less : (x last : A) → Precedes (bytes x) (bytes last) → IsEndedBy end (bytes x) → IsEndedBy end (bytes last) →
      IsFront (text_of bytes x) q → IsFront (text_of bytes last) q →
      length (text_of bytes x) < length (text_of bytes last)
  less x last before of_x of_last f g = go (cases_lt (length (text_of bytes x)) (length (text_of bytes last)))
    where
      text_x : text_of bytes x ≡ of_x.text
      text_x = ap without_last of_x.is ∙ ended_text of_x.text end

      text_last : text_of bytes last ≡ of_last.text
      text_last = ap without_last of_last.is ∙ ended_text of_last.text end

      go : (length (text_of bytes x) < length (text_of bytes last)) ⊎ (length (text_of bytes last) ≤ length (text_of bytes x)) →
          length (text_of bytes x) < length (text_of bytes last)
      go (inl l) = l
      go (inr o) =
          absurd (fronts_first end (bytes x) (bytes last) of_x.text of_last.text of_x.is of_last.is of_x.above
          (subst (λ z. IsFront z of_x.text) text_last
          (subst (λ z. IsFront (text_of bytes last) z) text_x (front_of_fronts (text_of bytes last) (text_of bytes x) q g f o))) before)

  module _ (xs : List A) (rise : IsMap bytes xs) (ended : AreEnded bytes end xs) (last : A) (e : last_of (texts_in_front bytes q xs) ≡ Some last) where
    split : texts_in_front bytes q xs ≡ without_last (texts_in_front bytes q xs) ++ last ∷ []
    split = but_the_last (texts_in_front bytes q xs) last e

    passes : Each (λ x. is_front (text_of bytes x) q ≡ true) (without_last (texts_in_front bytes q xs) ++ last ∷ [])
    passes = subst (Each (λ x. is_front (text_of bytes x) q ≡ true)) split (filter_passes (λ x. is_front (text_of bytes x) q) xs)

    marks : AreEnded bytes end (without_last (texts_in_front bytes q xs) ++ last ∷ [])
    marks = subst (AreEnded bytes end) split (Each-filter (λ x. IsEndedBy end (bytes x)) (λ x. is_front (text_of bytes x) q) xs ended)

    -- the last text is a prefix of the query
    last_in_front : IsFront (text_of bytes last) q
    last_in_front = front_from (text_of bytes last) q
        (Each-right (λ x. is_front (text_of bytes x) q ≡ true) (without_last (texts_in_front bytes q xs)) (last ∷ []) passes).0

    last_ended : IsEndedBy end (bytes last)
    last_ended = (Each-right (λ x. IsEndedBy end (bytes x)) (without_last (texts_in_front bytes q xs)) (last ∷ []) marks).0

    -- the others are prefixes too, and shorter
    others : Each (λ x. (length (text_of bytes x) < length (text_of bytes last)) × IsFront (text_of bytes x) q) (without_last (texts_in_front bytes q xs))
    others =
        let up = Pairwise-before (λ x y. Precedes (bytes x) (bytes y)) (without_last (texts_in_front bytes q xs)) [] last
        (subst (IsMap bytes) split (Pairwise-filter (λ x y. Precedes (bytes x) (bytes y)) (λ x. is_front (text_of bytes x) q) xs rise)) in
        Each-both (λ x. Precedes (bytes x) (bytes last)) (λ x. IsEndedBy end (bytes x) × (is_front (text_of bytes x) q ≡ true))
        (λ x. (length (text_of bytes x) < length (text_of bytes last)) × IsFront (text_of bytes x) q)
        (λ x before (of_x, f). let front = front_from (text_of bytes x) q f in
        (less x last before of_x last_ended front last_in_front, front)) (without_last (texts_in_front bytes q xs)) up
        (Each-both (λ x. IsEndedBy end (bytes x)) (λ x. is_front (text_of bytes x) q ≡ true)
        (λ x. IsEndedBy end (bytes x) × (is_front (text_of bytes x) q ≡ true)) (λ x i f. (i, f)) (without_last (texts_in_front bytes q xs))
        (Each-left (λ x. IsEndedBy end (bytes x)) (without_last (texts_in_front bytes q xs)) (last ∷ []) marks)
        (Each-left (λ x. is_front (text_of bytes x) q ≡ true) (without_last (texts_in_front bytes q xs)) (last ∷ []) passes))

    -- if the last text is empty, there is no other one
    pub only : length (text_of bytes last) ≡ 0 → texts_in_front bytes q xs ≡ last ∷ []
    only none =
        split ∙ ap (λ ys. ys ++ last ∷ [])
        (none_left (without_last (texts_in_front bytes q xs))
        (Each-weaker (λ x. (length (text_of bytes x) < length (text_of bytes last)) × IsFront (text_of bytes x) q) (λ x. ⊥)
        (λ x (l, f). omega arith) (without_last (texts_in_front bytes q xs)) others))

    -- the others are the prefixes of the query cut to one byte less than the last text has
    pub cut : (n : ℕ) → length (text_of bytes last) ≡ n + 1 → texts_in_front bytes q xs ≡ texts_in_front bytes (take n q) xs ++ last ∷ []
    cut n long =
        let test : A → Bool = λ x. is_front (text_of bytes x) (take n q) in
        let within = front_short (text_of bytes last) q last_in_front in
        let count = length-take n q in
        let off : is_front (text_of bytes last) (take n q) ≡ false =
        not_front (text_of bytes last) (take n q) (λ f. let s = front_short (text_of bytes last) (take n q) f in omega arith) in
        let all =
        Each-weaker (λ x. (length (text_of bytes x) < length (text_of bytes last)) × IsFront (text_of bytes x) q)
        (λ x. is_front (text_of bytes x) (take n q) ≡ true)
        (λ x (l, f). true_front (text_of bytes x) (take n q)
        (front_of_fronts (text_of bytes x) (take n q) q f (cut_front n q) (omega arith)))
        (without_last (texts_in_front bytes q xs)) others in
        let same : texts_in_front bytes (take n q) xs ≡ without_last (texts_in_front bytes q xs) =
        sym (filter_filter (λ x. is_front (text_of bytes x) (take n q)) (λ x. is_front (text_of bytes x) q)
        (λ x f. true_front (text_of bytes x) q (front_trans (text_of bytes x) (take n q) q (front_from (text_of bytes x) (take n q) f) (cut_front n q))) xs)
        ∙ ap (filter (λ x. is_front (text_of bytes x) (take n q))) split
        ∙ filter-append (λ x. is_front (text_of bytes x) (take n q)) (without_last (texts_in_front bytes q xs)) (last ∷ [])
        ∙ ap₂ (λ ys zs. ys ++ zs) (filter_all (λ x. is_front (text_of bytes x) (take n q)) (without_last (texts_in_front bytes q xs)) all)
        (filter_none (λ x. is_front (text_of bytes x) (take n q)) (last ∷ []) (off, tt))
        ∙ append-nil (without_last (texts_in_front bytes q xs)) in
        split ∙ ap (λ ys. ys ++ last ∷ []) (sym same)

    -- the key is no longer than the query and the end byte
    pub key_short : length (bytes last) ≤ length q + 1
    key_short =
        let l = ap length last_ended.is in
        let t = ap length (ap without_last last_ended.is ∙ ended_text last_ended.text end) in
        let s = front_short (text_of bytes last) q last_in_front in
        omega (arith, simp length-append at l)

    pub text_len : length (bytes last) ≡ length (text_of bytes last) + 1
    text_len =
        let l = ap length last_ended.is in
        let t = ap length (ap without_last last_ended.is ∙ ended_text last_ended.text end) in
        omega (arith, simp length-append at l)

  -- ---- those of at least so many bytes

  abbrev long : ℕ → A → Bool
  long n x = leb n (length (text_of bytes x))

  -- the texts get longer
  abbrev GetLonger : List A → Type 0
  GetLonger xs = Pairwise (λ x y. length (text_of bytes x) < length (text_of bytes y)) xs

  -- what is known of a text that is a prefix of the query
  abbrev InFront : A → Type 0
  InFront x = IsEndedBy end (bytes x) × IsFront (text_of bytes x) q

  get_longer : (xs : List A) → IsMap bytes xs → Each InFront xs → GetLonger xs
  get_longer [] rise known = tt
  get_longer (x ∷ xs) rise known = (
    Each-both (λ y. Precedes (bytes x) (bytes y)) InFront (λ y. length (text_of bytes x) < length (text_of bytes y))
        (λ y before of_y. less x y before known.0.0 of_y.0 known.0.1 of_y.1) xs rise.0 known.1,
    get_longer xs rise.1 known.1,
  )

  -- the first text that is long enough, and then the longer ones
  first_longer : (xs : List A) → GetLonger xs → (n : ℕ) (x : A) → first_of (filter (long n) xs) ≡ Some x →
      filter (long n) xs ≡ x ∷ filter (long (length (text_of bytes x) + 1)) xs
  first_longer [] up n x e = absurd cc
  first_longer (y ∷ ys) up n x e = go (first_longer ys up.1 n x) (long n y) refl e
    where
      all_long : (m : ℕ) → m ≤ length (text_of bytes y) + 1 → filter (long m) ys ≡ ys
      all_long m few = filter_all (long m) ys (Each-weaker (λ z. length (text_of bytes y) < length (text_of bytes z)) (λ z. long m z ≡ true)
          (λ z l. le-leb m (length (text_of bytes z)) (omega arith)) ys up.0)

      go : (first_of (filter (long n) ys) ≡ Some x → filter (long n) ys ≡ x ∷ filter (long (length (text_of bytes x) + 1)) ys) → (b : Bool) → long n y ≡ b →
          first_of (cond b (y ∷ filter (long n) ys) (filter (long n) ys)) ≡ Some x →
          cond b (y ∷ filter (long n) ys) (filter (long n) ys) ≡ x ∷ filter (long (length (text_of bytes x) + 1)) (y ∷ ys)
      go ih true is f =
          let same : y ≡ x = cc in
          let enough = leb-true n (length (text_of bytes y)) is in
          ap (λ zs. y ∷ zs) (all_long n (omega arith) ∙ sym (all_long (length (text_of bytes y) + 1) (omega arith))
          ∙ sym (rw (lt-leb (length (text_of bytes y) + 1) (length (text_of bytes y)) (omega arith)) refl))
          ∙ ap (λ z. z ∷ filter (long (length (text_of bytes z) + 1)) (y ∷ ys)) same
      go ih false is f =
          let more = first_has (λ z. length (text_of bytes y) < length (text_of bytes z)) (filter (long n) ys) x
          (Each-filter (λ z. length (text_of bytes y) < length (text_of bytes z)) (long n) ys up.0) f in
          ih f ∙ ap (λ zs. x ∷ zs) (sym (rw (lt-leb (length (text_of bytes x) + 1) (length (text_of bytes y)) (omega arith)) refl))

  module _ (xs : List A) (rise : IsMap bytes xs) (ended : AreEnded bytes end xs) where
    known_front : Each InFront (texts_in_front bytes q xs)
    known_front =
        Each-both (λ x. IsEndedBy end (bytes x)) (λ x. is_front (text_of bytes x) q ≡ true) InFront
        (λ x i f. (i, front_from (text_of bytes x) q f)) (texts_in_front bytes q xs)
        (Each-filter (λ x. IsEndedBy end (bytes x)) (λ x. is_front (text_of bytes x) q) xs ended) (filter_passes (λ x. is_front (text_of bytes x) q) xs)

    front_longer : GetLonger (texts_in_front bytes q xs)
    front_longer =
        get_longer (texts_in_front bytes q xs) (Pairwise-filter (λ x y. Precedes (bytes x) (bytes y))
        (λ x. is_front (text_of bytes x) q) xs rise) known_front

    first_and_longer : (n : ℕ) (x : A) → first_of (texts_from bytes q n xs) ≡ Some x →
        texts_from bytes q n xs ≡ x ∷ texts_from bytes q (length (text_of bytes x) + 1) xs
    first_and_longer n x e = first_longer (texts_in_front bytes q xs) front_longer n x e

    -- the first key is a text and an end byte, so it has one byte more
    first_len : (n : ℕ) (x : A) → first_of (texts_from bytes q n xs) ≡ Some x → length (bytes x) ≡ length (text_of bytes x) + 1
    first_len n x e =
        let of_x : InFront x = first_has InFront (texts_from bytes q n xs) x (Each-filter InFront (long n) (texts_in_front bytes q xs) known_front) e in
        let l = ap length of_x.0.is in
        let t = ap length (ap without_last of_x.0.is ∙ ended_text of_x.0.text end) in
        omega (arith, simp length-append at l)

    module _ (last : A) (e : last_of (texts_in_front bytes q xs) ≡ Some last) where
      -- the longest text is too short, and so are all others
      all_short : (n : ℕ) → length (text_of bytes last) < n → texts_from bytes q n xs ≡ []
      all_short n short =
          ap (filter (long n)) (split xs rise ended last e)
          ∙ filter_append_none (without_last (texts_in_front bytes q xs)) last
          (Each-weaker (λ x. (length (text_of bytes x) < length (text_of bytes last)) × IsFront (text_of bytes x) q) (λ x. long n x ≡ false)
          (λ x (l, f). lt-leb n (length (text_of bytes x)) (omega arith)) (without_last (texts_in_front bytes q xs))
          (others xs rise ended last e))
          (lt-leb n (length (text_of bytes last)) short)
        where
          filter_append_none : (ys : List A) (z : A) → Each (λ y. long n y ≡ false) ys → long n z ≡ false → filter (long n) (ys ++ z ∷ []) ≡ []
          filter_append_none ys z off last_off = filter_none (long n) (ys ++ z ∷ []) (Each-append (λ y. long n y ≡ false) ys (z ∷ []) off (last_off, tt))

      -- the longest text is long enough
      module _ (n : ℕ) (enough : n ≤ length (text_of bytes last)) where
        here : filter (long n) (last ∷ []) ≡ last ∷ []
        here = rw (le-leb n (length (text_of bytes last)) enough) refl

        only_from : length (text_of bytes last) ≡ 0 → texts_from bytes q n xs ≡ last ∷ []
        only_from none = ap (filter (long n)) (only xs rise ended last e none) ∙ here

        cut_from : (m : ℕ) → length (text_of bytes last) ≡ m + 1 → texts_from bytes q n xs ≡ texts_from bytes (take m q) n xs ++ last ∷ []
        cut_from m is =
            ap (filter (long n)) (cut xs rise ended last e m is) ∙ filter-append (long n) (texts_in_front bytes (take m q) xs) (last ∷ [])
            ∙ ap (λ ys. filter (long n) (texts_in_front bytes (take m q) xs) ++ ys) here

-- a list without a first or a last element is empty
no_last : {A : Type 0} (xs : List A) → None ≡ last_of xs → xs ≡ []
no_last [] e = refl
no_last {A} (x ∷ xs) e = absurd (any x xs e)
  where
    any : (x : A) (xs : List A) → None ≡ last_of (x ∷ xs) → ⊥
    any x [] e = absurd cc
    any x (y ∷ ys) e = any y ys e

no_first : {A : Type 0} (xs : List A) → None ≡ first_of xs → xs ≡ []
no_first [] e = refl
no_first (x ∷ xs) e = absurd cc

module _ {K V : Type 0} (bytes : K → List ℕ) (q : List ℕ) (n : ℕ) (pairs : List (K × V)) where
  pub none_first : None ≡ first_of (texts_from (of_key bytes) q n pairs) → matches_left bytes (Some q) n pairs ≡ []
  none_first none = no_first (texts_from (of_key bytes) q n pairs) none

  pub none_last : None ≡ last_of (texts_in_front (of_key bytes) q pairs) → matches_left bytes (Some q) n pairs ≡ []
  none_last none = ap (filter (λ x. leb n (length (text_of (of_key bytes) x)))) (no_last (texts_in_front (of_key bytes) q pairs) none)

  module _ (rise : IsMap (of_key bytes) pairs) (ended : AreEnded (of_key bytes) 0 pairs) (x : K × V) where
    -- the shortest match is returned, and the longer ones are left
    pub first_came : Some x ≡ first_of (texts_from (of_key bytes) q n pairs) → (m : ℕ) → m ≡ length (bytes x.0) →
        matches_left bytes (Some q) n pairs ≡ x ∷ matches_left bytes (Some q) m pairs
    first_came found m is =
        first_and_longer (of_key bytes) 0 q pairs rise ended n x (sym found)
        ∙ ap (λ k. x ∷ texts_from (of_key bytes) q k pairs) (sym (is ∙ first_len (of_key bytes) 0 q pairs rise ended n x (sym found)))

    module _ (found : Some x ≡ last_of (texts_in_front (of_key bytes) q pairs)) where
      len : length (bytes x.0) ≡ length (text_of (of_key bytes) x) + 1
      len = text_len (of_key bytes) 0 q pairs rise ended x (sym found)

      -- the longest match is too short
      pub too_short : length (bytes x.0) ≤ n → matches_left bytes (Some q) n pairs ≡ []
      too_short short = let l = len in all_short (of_key bytes) 0 q pairs rise ended x (sym found) n (omega arith)

      -- the longest match is returned, and the shorter ones are left
      pub last_came : n < length (bytes x.0) → (left : Option (List ℕ)) → (length (bytes x.0) ≤ 1 → left ≡ None) →
          (1 < length (bytes x.0) → left ≡ Some (take (length (bytes x.0) - 2) q)) →
          matches_left bytes (Some q) n pairs ≡ matches_left bytes left n pairs ++ x ∷ []
      last_came enough left empty longer = go (cases_lt 1 (length (bytes x.0)))
        where
          go : (1 < length (bytes x.0)) ⊎ (length (bytes x.0) ≤ 1) → matches_left bytes (Some q) n pairs ≡ matches_left bytes left n pairs ++ x ∷ []
          go (inr o) =
              let l = len in
              only_from (of_key bytes) 0 q pairs rise ended x (sym found) n (omega arith) (omega arith)
              ∙ ap (λ o. matches_left bytes o n pairs ++ x ∷ []) (sym (empty o))
          go (inl o) =
              let l = len in
              cut_from (of_key bytes) 0 q pairs rise ended x (sym found) n (omega arith) (length (bytes x.0) - 2) (omega arith)
              ∙ ap (λ o. matches_left bytes o n pairs ++ x ∷ []) (sym (longer o))

-- each text has at least no bytes
pub from_none : {A : Type 0} (bytes : A → List ℕ) (q : List ℕ) (xs : List A) → texts_from bytes q 0 xs ≡ texts_in_front bytes q xs
from_none {A} bytes q xs = filter_all (λ x. leb 0 (length (text_of bytes x))) (texts_in_front bytes q xs) (all (texts_in_front bytes q xs))
  where
    all : (ys : List A) → Each (λ y. leb 0 (length (text_of bytes y)) ≡ true) ys
    all [] = tt
    all (y ∷ ys) = (le-leb 0 (length (text_of bytes y)) (omega arith), all ys)
