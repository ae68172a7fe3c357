-- Keys that are a text and its end byte, as they are looked up.
use Rattle.std.proofs.Common.{◌≡◌, ◌≢◌, ℕ, ◌+◌, ◌-◌, ◌<◌, ◌≤◌, ◌↔◌, ◌⊎◌, inl, inr, min, List, [], ◌∷◌, ◌++◌, length, take, drop, get_or, length-append, length-drop, refl, ap, ap₂, sym, subst, ◌∙◌, arith, Option, Some, None, Bool, true, false, cond, eqb, eqb-true, eq-eqb, nat_eq, append-nil, IsTrue, is_ok, slice_get, option_map}
use Rattle.std.specs.List.{cons_option}
use Rattle.std.proofs.lemmas.Bool.{le-ltb, lt-ltb, false≢true}
use Rattle.std.proofs.lemmas.List.{drop-append-le, get_or_append_left, take_rest}
use Rattle.std.proofs.lemmas.Option.{get_or_from_slice_get, slice_get_cases}
use Rattle.art_model.specs.Prelude.{Inner, child_at, Prefix, OpaqueNodePtr, IsFront, common_front}
use Rattle.art_reading.specs.declared.lookup.matching.PrefixMatchBehavior.{PrefixMatchBehavior}
use Rattle.art_reading.specs.declared.lookup.matching.PrefixMatchBehavior.TheVariants.{Pessimistic, Optimistic}
use Rattle.art_reading.specs.declared.lookup.matching.Step.{Step}
use Rattle.art_reading.specs.declared.lookup.matching.Step.TheVariants.{AtEnd, Nowhere}
use Rattle.art_reading.specs.Matching.{HasRest, LeadsTo, LeafKeyIsPrefix, behavior_after, child_below, compared_from, prefix_match}

-- what is shared with a longer list
shared_more : (stored rest more : List ℕ) → length stored ≤ length rest → common_front stored (rest ++ more) ≡ common_front stored rest
shared_more [] rest more short = refl
shared_more (x ∷ stored) [] more short = absurd (omega arith)
shared_more (x ∷ stored) (y ∷ rest) more short = ap (λ l. cond (eqb x y) (x ∷ l) []) (shared_more stored rest more (omega arith))

module _ (prefix : Prefix) (rest more : List ℕ) (stored : length prefix.stored ≤ prefix.len) (within : prefix.len ≤ length rest) where
  longer : prefix.len ≤ length (rest ++ more)
  longer = let l = length-append rest more in omega arith

  -- a prefix that is no longer than the rest is compared with the rest alone
  match_more : (behavior : PrefixMatchBehavior) → is_ok (prefix_match behavior prefix (rest ++ more)) ≡ is_ok (prefix_match behavior prefix rest)
  match_more Optimistic = rw (le-ltb (length rest) prefix.len within, le-ltb (length (rest ++ more)) prefix.len longer) refl
  match_more Pessimistic =
      rw (shared_more prefix.stored rest more (omega arith), le-ltb (length rest) prefix.len within, le-ltb (length (rest ++ more)) prefix.len longer) refl

  after_more : (behavior : PrefixMatchBehavior) → behavior_after behavior prefix (rest ++ more) ≡ behavior_after behavior prefix rest
  after_more Optimistic = refl
  after_more Pessimistic =
      rw (shared_more prefix.stored rest more (omega arith), le-ltb (length rest) prefix.len within, le-ltb (length (rest ++ more)) prefix.len longer) refl

module _ (behavior : PrefixMatchBehavior) (node : Inner) (key : List ℕ) (depth : ℕ) where
  -- the key ends before the place
  pub none_beyond : length key ≤ depth + node.prefix.len → None ≡ child_below behavior node key depth
  none_beyond short = go (is_ok (prefix_match behavior node.prefix (drop depth key))) refl
    where
      go : (t : Bool) → is_ok (prefix_match behavior node.prefix (drop depth key)) ≡ t → None ≡ child_below behavior node key depth
      go true e = rw (e, le-ltb (depth + node.prefix.len) (length key) short) refl
      go false e = rw e refl

  module _ {rest : List ℕ} (has : HasRest (drop depth key) rest) (stored : length node.prefix.stored ≤ node.prefix.len)
      (long : depth + node.prefix.len < length key) where
    within : node.prefix.len ≤ length rest
    within =
        let l = length-drop depth key in
        let k = ap length has.is in
        let j = length-append rest has.last in
        let f = has.few in
        omega arith

    same_outcome : is_ok (prefix_match behavior node.prefix (drop depth key)) ≡ is_ok (prefix_match behavior node.prefix rest)
    same_outcome = ap (λ r. is_ok (prefix_match behavior node.prefix r)) has.is ∙ match_more node.prefix rest has.last stored within behavior

    -- the prefix differs from the rest of the key
    pub none_parted : false ≡ is_ok (prefix_match behavior node.prefix rest) → None ≡ child_below behavior node key depth
    none_parted off = rw (same_outcome ∙ sym off) refl

    module _ (on : true ≡ is_ok (prefix_match behavior node.prefix rest)) where
      -- the child under the byte at the place
      pub child_passed : {at byte : ℕ} → at ≡ depth + node.prefix.len → byte ≡ get_or key at 0 → {found : Option OpaqueNodePtr} →
          found ≡ child_at node.children byte →
          option_map (λ (c : OpaqueNodePtr). (at, c)) found ≡ child_below behavior node key depth
      child_passed {at} {byte} e f is =
          rw (is, f, e, same_outcome ∙ sym on, lt-ltb (depth + node.prefix.len) (length key) long) refl

      pub behavior_passed : {after : PrefixMatchBehavior} → after ≡ behavior_after behavior node.prefix rest →
          after ≡ behavior_after behavior node.prefix (drop depth key)
      behavior_passed e = e ∙ sym (ap (behavior_after behavior node.prefix) has.is ∙ after_more node.prefix rest has.last stored within behavior)

-- the first bytes of a key, all or all but the last one
module _ {key front : List ℕ} (has : HasRest key front) (depth : ℕ) where
  -- the rest of them from a place on
  pub rest_of : depth ≤ length front → HasRest (drop depth key) (take (length front - depth) (drop depth front))
  rest_of within = record {
    last = has.last;
    is = ap (drop depth) has.is ∙ drop-append-le depth front has.last within ∙ ap (λ z. z ++ has.last) (sym (take_rest front depth));
    few = has.few;
  }

  -- they are no longer than the key
  pub front_within : length front ≤ length key
  front_within = let l = ap length has.is in let k = length-append front has.last in omega arith

  -- the key has at most one byte more
  pub front_near : length key ≤ length front + 1
  front_near = let l = ap length has.is in let k = length-append front has.last in let f = has.few in omega arith

  -- a byte of them is one of the key
  pub front_byte : depth < length front → get_or front depth 0 ≡ get_or key depth 0
  front_byte within = sym (ap (λ z. get_or z depth 0) has.is ∙ get_or_append_left front has.last 0 depth within)

-- the byte of a key at a place, as it is returned
module _ {before key : List ℕ} (same : before ≡ key) (place : ℕ) {answer : Option ℕ} (is : answer ≡ slice_get before place) where
  got : {byte : Option ℕ} → answer ≡ byte → slice_get key place ≡ byte
  got e = ap (λ k. slice_get k place) (sym same) ∙ sym is ∙ e

  pub byte_is : {byte : ℕ} → answer ≡ Some byte → get_or key place 0 ≡ byte
  byte_is {byte} e = get_or_from_slice_get key place byte 0 (got e)

  pub byte_within : {byte : ℕ} → answer ≡ Some byte → place < length key
  byte_within {byte} e = go (slice_get_cases key place).1
    where
      go : ((x : ℕ) × (place < length key) × (slice_get key place ≡ Some x) × (get_or key place x ≡ x))
          ⊎ ((length key ≤ place) × (slice_get key place ≡ None)) → place < length key
      go (inl (x, less, some, get)) = less
      go (inr (ended, none)) = let there = got e in absurd cc

  -- there is none
  pub past : answer ≡ None → length key ≤ place
  past e = go (slice_get_cases key place).1
    where
      go : ((x : ℕ) × (place < length key) × (slice_get key place ≡ Some x) × (get_or key place x ≡ x))
          ⊎ ((length key ≤ place) × (slice_get key place ≡ None)) → length key ≤ place
      go (inl (x, less, some, get)) = let none = got e in absurd cc
      go (inr (ended, none)) = ended

-- the bytes of a key in a slice, and the last one where it is not there
pub parts_rest : {key front : List ℕ} (last : Option ℕ) → key ≡ front ++ cons_option last [] → HasRest key front
parts_rest {key} {front} last is = record { last = cons_option last []; is = is; few = few last }
  where
    few : (o : Option ℕ) → length (cons_option o []) ≤ 1
    few None = omega arith
    few (Some x) = omega arith

-- all bytes but the last one
pub last_rest : (front : List ℕ) (last : ℕ) → HasRest (front ++ last ∷ []) front
last_rest front last = record { last = last ∷ []; is = refl; few = omega arith }

-- what a node's header says of its prefix
pub prefix_same : (prefix : Prefix) {len : ℕ} {stored : List ℕ} → len ≡ prefix.len → stored ≡ prefix.stored →
    ◌≡◌ {A = Prefix} (record { len = len; stored = stored }) prefix
prefix_same prefix is same = ap₂ (λ l s. record { len = l; stored = s }) is same

-- first bytes of a key that are no longer than the prefix of the node
pub ended_there : (behavior : PrefixMatchBehavior) (node : Inner) (key front : List ℕ) (depth prefix_len left : ℕ) → HasRest key front →
    depth ≤ length front → left ≡ length front - depth → prefix_len ≡ node.prefix.len → left ≤ prefix_len →
    {step : Step} → step ≡ cond (eqb prefix_len left) AtEnd Nowhere → LeadsTo behavior behavior node key front depth step
ended_there behavior node key front depth prefix_len left has within rest len short {step} is = go (eqb prefix_len left) refl
  where
    go : (t : Bool) → eqb prefix_len left ≡ t → LeadsTo behavior behavior node key front depth step
    go true e =
        let same = eqb-true prefix_len left e in
        subst (LeadsTo behavior behavior node key front depth) (sym (is ∙ ap (λ t. cond t AtEnd Nowhere) e)) (omega arith, refl)
    go false e =
        let near = front_near has depth in
        let other : prefix_len ≢ left = λ same. let on = eq-eqb prefix_len left same in absurd (false≢true (sym e ∙ on)) in
        subst (LeadsTo behavior behavior node key front depth) (sym (is ∙ ap (λ t. cond t AtEnd Nowhere) e))
        (none_beyond behavior node key depth (omega (arith, other, near, rest, len, short, within)))

-- a prefix of a text and its end is one of the text, or the whole
front_or_whole : (a t : List ℕ) (end : ℕ) → IsFront a (t ++ end ∷ []) → IsFront a t ⊎ (a ≡ t ++ end ∷ [])
front_or_whole [] t end front = inl (t, refl)
front_or_whole (x ∷ []) [] end (r, e) = let same : x ≡ end = cc in inr (ap (λ z. z ∷ []) same)
front_or_whole (x ∷ y ∷ a) [] end (r, e) = absurd cc
front_or_whole (x ∷ a) (y ∷ t) end (r, e) = go (front_or_whole a t end (r, rest))
  where
    first : x ≡ y
    first = cc

    rest : t ++ end ∷ [] ≡ a ++ r
    rest = cc

    go : IsFront a t ⊎ (a ≡ t ++ end ∷ []) → IsFront (x ∷ a) (y ∷ t) ⊎ (x ∷ a ≡ y ∷ t ++ end ∷ [])
    go (inl (s, f)) = inl (s, ap₂ (λ z l. z ∷ l) (sym first) f)
    go (inr same) = inr (ap₂ (λ z l. z ∷ l) first same)

-- bytes that are no prefix of a text are one of the text and its end only as the whole
pub else_whole : {r s : Bool} (bytes text : List ℕ) (end : ℕ) → r ≡ false → IsTrue r ↔ IsFront bytes text →
    IsTrue s ↔ (bytes ≡ text ++ end ∷ []) → IsTrue s ↔ IsFront bytes (text ++ end ∷ [])
else_whole {r} {s} bytes text end off front whole = (
  λ t. ([], sym (whole.0 t) ∙ sym (append-nil bytes)),
  λ f. go (front_or_whole bytes text end f),
)
  where
    go : IsFront bytes text ⊎ (bytes ≡ text ++ end ∷ []) → IsTrue s
    go (inl f) = let on = front.1 f in absurd cc
    go (inr same) = whole.1 same

module _ (behavior : PrefixMatchBehavior) (depth from : ℕ) (key text : List ℕ) (end : ℕ)
    (compared : behavior ≡ Pessimistic → from ≡ min depth (length key)) (passed_over : behavior ≡ Optimistic → from ≡ 0) where
  -- the comparison begins after the end of the text
  from_end : length text < from → compared_from behavior depth key (text ++ end ∷ []) ≡ length text + 1
  from_end beyond = go behavior compared passed_over
    where
      go : (b : PrefixMatchBehavior) → (b ≡ Pessimistic → from ≡ min depth (length key)) → (b ≡ Optimistic → from ≡ 0) →
          compared_from b depth key (text ++ end ∷ []) ≡ length text + 1
      go Pessimistic one other = let is = one refl in let l = length-append text (end ∷ []) in omega arith
      go Optimistic one other = let is = other refl in absurd (omega arith)

-- the key after the end of the text
none_after_end : (text : List ℕ) (end n : ℕ) → n ≡ length text + 1 → drop n (text ++ end ∷ []) ≡ []
none_after_end text end n is = go (drop n (text ++ end ∷ [])) (length-drop n (text ++ end ∷ []))
  where
    go : (l : List ℕ) → length l ≡ length (text ++ end ∷ []) - n → l ≡ []
    go [] e = refl
    go (x ∷ l) e = let k = length-append text (end ∷ []) in absurd (omega arith)

none_dropped : (xs : List ℕ) (n : ℕ) → length xs ≤ n → drop n xs ≡ []
none_dropped xs n short = go (drop n xs) (length-drop n xs)
  where
    go : (l : List ℕ) → length l ≡ length xs - n → l ≡ []
    go [] e = refl
    go (x ∷ l) e = absurd (omega arith)

module _ (key text : List ℕ) (end n : ℕ) (r : Bool) where
  -- after the end of the text the lengths decide
  after_front : n ≡ length text + 1 → IsTrue r ↔ (length key ≡ length text + 1) → length text < length key →
      IsTrue r ↔ IsFront (drop n key) (drop n (text ++ end ∷ []))
  after_front is test long = (
    λ t. let e = test.0 t in subst (λ z. IsFront z (drop n (text ++ end ∷ []))) (sym (none_dropped key n (omega arith))) (drop n (text ++ end ∷ []), refl),
    λ (s, f). test.1 (let l = ap length (sym f ∙ none_after_end text end n is) in let k = length-drop n key in
        let j = length-append (drop n key) s in omega arith),
  )

-- after the end of the text the lengths decide whether the key is a prefix
pub after_end : (behavior : PrefixMatchBehavior) (depth from : ℕ) (key text : List ℕ) (end : ℕ) →
    (behavior ≡ Pessimistic → from ≡ min depth (length key)) → (behavior ≡ Optimistic → from ≡ 0) →
    length text < from → from ≤ length key → IsTrue (nat_eq (length key) (length text + 1)) ↔ LeafKeyIsPrefix behavior depth key (text ++ end ∷ [])
after_end behavior depth from key text end compared passed_over beyond within =
    after_front key text end (compared_from behavior depth key (text ++ end ∷ [])) _ (from_end behavior depth from key text end compared passed_over beyond)
    (λ t. eqb-true (length key) (length text + 1) t, λ e. eq-eqb (length key) (length text + 1) e) (omega arith)
