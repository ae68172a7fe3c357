-- Where the code of a line ends, and entries as a map stores them.
use Rattle.std.proofs.Common.{◌≡◌, ◌≢◌, ◌≤◌, ℕ, Bool, true, false, not, cond, eqb, eq-eqb, ◌&&◌, ◌||◌, List, [], ◌∷◌, ◌++◌, length, map}
use Rattle.std.proofs.Common.{filter, Option, Some, None, is_some, refl, ap, ap₂, sym, ◌∙◌, subst, arith, ◌⊎◌, inl, inr}
use Rattle.std.specs.List.{AllByRecursion as Each, list_all, list_any}
use Rattle.std.specs.List.Sorted.{IsPermutation}
use Rattle.std.specs.Option.{option_map}
use Rattle.std.specs.Char.{is_ascii_digit}
use Rattle.std.proofs.lemmas.Bool.{and_from, and_parts, or_left, or_parts, or_right, false≢true}
use Rattle.std.proofs.lemmas.List.Elements.{All-cons}
use Rattle.std.proofs.lemmas.List.Sorted.{IsPermutation-refl, IsPermutation-sym, IsPermutation-cons, IsPermutation-trans, IsPermutation-middle, IsPermutation-map}
use Rattle.std.specs.Cmp.Lexicographic.{slice_cmp}
use Rattle.std.specs.Ordering.{is_lt, nat_cmp}
use Rattle.std.specs.declared.cmp.Ordering.TheVariants.{Less}
use Rattle.art_parts.specs.Keys.{IsFront, are_same, is_before, is_front}
use Rattle.art_model.specs.Pairs.{add_in_order, first_of, has_key, last_of, match_of, of_key, put, remove_key, with_key}
use Rattle.art_model.specs.Texts.{TextsRise}
use Rattle.art_model.proofs.pairs.Puts.{has_is_stored, put-new}
use Rattle.art_model.specs.Footprints.{IsIn}
use Rattle.art_model.proofs.keys.KeyLaws.{fronts_are_decided}
use Rattle.art_model.proofs.keys.Keys.{front_same, same_equal}
use Rattle.art_model.proofs.pairs.TextLaws.{last_is_longest}
use Rattle.art_operations.specs.Ended.{ended}
use Rattle.art_operations.specs.KeyedPairs.{RiseBy, strings_in_front}
use Rattle.art_operations.specs.MapAnswers.{value_at}
use Rattle.text_lines.proofs.Spaces.{HasNoSpace, same_words}
use Rattle.text_programs.specs.declared.dial_codes.table.Named.{Named}
use Rattle.text_programs.specs.Entries.{IsNoLonger, code_of, entries_of, is_code, line_of}
use Rattle.text_programs.specs.CodeRows.{HasLine, has_code_at, rows_of}
use Rattle.text_programs.proofs.EndedLemmas.{ended_equal}

digits_spaceless : (bs : List ℕ) → list_all is_ascii_digit bs ≡ true → HasNoSpace bs
digits_spaceless [] h = λ k d below. absurd (omega arith)
digits_spaceless (b ∷ bs) h =
    let both = and_parts (is_ascii_digit b) (list_all is_ascii_digit bs) h in
    All-cons (λ z. z ≢ 32) b bs (λ e. false≢true (sym (ap is_ascii_digit e) ∙ both.0)) (digits_spaceless bs both.1)

code_spaceless : (code : List ℕ) → is_code code ≡ true → HasNoSpace code
code_spaceless code h = digits_spaceless code (and_parts (not (eqb (length code) 0)) (list_all is_ascii_digit code) h).1

-- a line whose first word is no code is none of an entry
pub no_entry : (line first rest code name : List ℕ) → line ≡ first ++ 32 ∷ rest → HasNoSpace first → is_code first ≡ false →
    is_code code ≡ true → line ≡ line_of (code, name) → ⊥
no_entry line first rest code name is spaceless none h e =
    let both = same_words first rest code name spaceless (code_spaceless code h) (sym is ∙ e) in
    false≢true (sym none ∙ ap is_code both.0 ∙ h)

-- a stored name is in the row of its code
pub name_is_stored : (code : List ℕ) (named : Named) (pairs : List (List ℕ × Named)) → Some named ≡ value_at ended (ended code) pairs →
    has_code_at named.line code (rows_of pairs) ≡ true
name_is_stored code named [] h = absurd cc
name_is_stored code named (x ∷ xs) h = go (are_same (ended code) (ended x.0)) refl h (name_is_stored code named xs)
  where
    go : (t : Bool) → are_same (ended code) (ended x.0) ≡ t →
        Some named ≡ option_map (λ y. y.1) (first_of (cond t (x ∷ with_key (of_key ended) (ended code) xs) (with_key (of_key ended) (ended code) xs))) →
        (Some named ≡ value_at ended (ended code) xs → has_code_at named.line code (rows_of xs) ≡ true) →
        ((are_same code x.0 && eqb x.1.line named.line) || has_code_at named.line code (rows_of xs)) ≡ true
    go true e h ih =
        let is : named ≡ x.1 = cc in
        let same : x.0 ≡ code = ended_equal x.0 code (same_equal (ended code) (ended x.0) e) in
        or_left _ _ (and_from _ _ (subst (λ z. are_same code z ≡ true) (sym same) (front_same code)) (eq-eqb x.1.line named.line (ap (λ z. z.line) (sym is))))
    go false e h ih = or_right _ _ (ih h)

-- a value is found exactly if a key is stored
value_stored : (key : List ℕ) (pairs : List (List ℕ × Named)) → is_some (value_at ended key pairs) ≡ has_key (of_key ended) key pairs
value_stored key [] = refl
value_stored key (x ∷ xs) = go (are_same key (ended x.0)) (value_stored key xs)
  where
    go : (t : Bool) → is_some (value_at ended key xs) ≡ has_key (of_key ended) key xs →
        is_some (option_map (λ y. y.1) (first_of (cond t (x ∷ with_key (of_key ended) key xs) (with_key (of_key ended) key xs))))
        ≡ (t || has_key (of_key ended) key xs)
    go true ih = refl
    go false ih = ih

-- no key is equal where no name is stored
pub none_is_stored : (code : List ℕ) (pairs : List (List ℕ × Named)) → None ≡ value_at ended (ended code) pairs →
    has_key (of_key ended) (ended code) pairs ≡ false
none_is_stored code pairs h = sym (value_stored (ended code) pairs) ∙ sym (ap is_some h)

added : (new : List ℕ × Named) (pairs : List (List ℕ × Named)) → IsPermutation (new ∷ pairs) (add_in_order (of_key ended) new pairs)
added new [] = IsPermutation-refl (new ∷ [])
added new (x ∷ xs) = go (is_before (ended new.0) (ended x.0)) (added new xs)
  where
    go : (t : Bool) → IsPermutation (new ∷ xs) (add_in_order (of_key ended) new xs) →
        IsPermutation (new ∷ x ∷ xs) (cond t (new ∷ x ∷ xs) (x ∷ add_in_order (of_key ended) new xs))
    go true ih = IsPermutation-refl (new ∷ x ∷ xs)
    go false ih =
        IsPermutation-trans _ _ _ (IsPermutation-sym _ _ (IsPermutation-middle (x ∷ []) new xs)) (IsPermutation-cons x _ _ ih)

others_stay : (key : List ℕ) (pairs : List (List ℕ × Named)) → has_key (of_key ended) key pairs ≡ false → remove_key (of_key ended) key pairs ≡ pairs
others_stay key [] h = refl
others_stay key (x ∷ xs) h = go (are_same key (ended x.0)) h (others_stay key xs)
  where
    go : (t : Bool) → (t || has_key (of_key ended) key xs) ≡ false → (has_key (of_key ended) key xs ≡ false → remove_key (of_key ended) key xs ≡ xs) →
        cond (not t) (x ∷ remove_key (of_key ended) key xs) (remove_key (of_key ended) key xs) ≡ x ∷ xs
    go true e ih = absurd (false≢true (sym e))
    go false e ih = ap (λ ys. x ∷ ys) (ih e)

none_stored : (new : List ℕ × Named) (pairs : List (List ℕ × Named)) → has_key (of_key ended) (ended new.0) pairs ≡ false →
    first_of (with_key (of_key ended) (ended new.0) pairs) ≡ None
none_stored new pairs h = go (first_of (with_key (of_key ended) (ended new.0) pairs)) (sym (has_is_stored (of_key ended) new pairs) ∙ h)
  where
    go : (o : Option (List ℕ × Named)) → is_some o ≡ false → o ≡ None
    go None e = refl
    go (Some x) e = absurd (false≢true (sym e))

-- no row has a code that is not stored
no_row : (code : List ℕ) (pairs : List (List ℕ × Named)) → has_key (of_key ended) (ended code) pairs ≡ false →
    list_any (λ row. are_same code row.0) (rows_of pairs) ≡ false
no_row code [] h = refl
no_row code (x ∷ xs) h = go (are_same code x.0) refl (or_parts _ _ h) (no_row code xs)
  where
    go : (t : Bool) → are_same code x.0 ≡ t →
        (are_same (ended code) (ended x.0) ≡ false) × (has_key (of_key ended) (ended code) xs ≡ false) →
        (has_key (of_key ended) (ended code) xs ≡ false → list_any (λ row. are_same code row.0) (rows_of xs) ≡ false) →
        (t || list_any (λ row. are_same code row.0) (rows_of xs)) ≡ false
    go true e (off, rest) ih =
        absurd (false≢true (sym off ∙ ap (λ z. are_same (ended code) (ended z)) (same_equal code x.0 e) ∙ front_same (ended code)))
    go false e (off, rest) ih = ih rest

-- where no key is equal a pair is added to the others
pair_comes : (key : List ℕ) (value : Named) (pairs : List (List ℕ × Named)) → has_key (of_key ended) (ended key) pairs ≡ false →
    IsPermutation ((key, value.name.items, value.line) ∷ rows_of pairs) (rows_of (put (of_key ended) (key, value) pairs))
pair_comes key value pairs h =
    IsPermutation-map (λ (x : List ℕ × Named). (x.0, x.1.name.items, x.1.line)) _ _
    (subst (IsPermutation ((key, value) ∷ pairs)) (sym (put-new (of_key ended) (key, value) pairs (none_stored (key, value) pairs h)
    ∙ ap (add_in_order (of_key ended) (key, value)) (others_stay (ended key) pairs h))) (added (key, value) pairs))

pub line_comes : (line code name : List ℕ) (number : ℕ) (key : List ℕ) (value : Named) (pairs : List (List ℕ × Named)) →
    line ≡ line_of (code, name) → is_code code ≡ true →
    key ≡ code → value.name.items ≡ name → value.line ≡ number → has_key (of_key ended) (ended code) pairs ≡ false →
    HasLine line number (rows_of pairs) (rows_of (put (of_key ended) (key, value) pairs))
line_comes line code name number key value pairs is h k v n none = record {
  entry = (key, value.name.items);
  code = ap is_code k ∙ h;
  is = is ∙ ap₂ (λ a b. a ++ 32 ∷ b) (sym k) (sym v);
  unused = no_row key pairs (ap (λ bs. has_key (of_key ended) (ended bs) pairs) k ∙ none);
  came = subst (λ l. IsPermutation ((key, value.name.items, l) ∷ rows_of pairs) (rows_of (put (of_key ended) (key, value) pairs))) n
      (pair_comes key value pairs (ap (λ bs. has_key (of_key ended) (ended bs) pairs) k ∙ none));
}

-- the entry of a pair
abbrev named_entry : List ℕ × Named → List ℕ × List ℕ
named_entry x = (x.0, x.1.name.items)

last-map : (xs : List (List ℕ × Named)) → last_of (map named_entry xs) ≡ option_map named_entry (last_of xs)
last-map [] = refl
last-map (x ∷ []) = refl
last-map (x ∷ y ∷ xs) = last-map (y ∷ xs)

matches-map : (number : List ℕ) (pairs : List (List ℕ × Named)) →
    match_of code_of number (entries_of pairs) ≡ map named_entry (strings_in_front (λ t. t) number pairs)
matches-map number [] = refl
matches-map number (x ∷ xs) = go (is_front x.0 number) (matches-map number xs)
  where
    go : (t : Bool) → match_of code_of number (entries_of xs) ≡ map named_entry (strings_in_front (λ t. t) number xs) →
        cond t (named_entry x ∷ match_of code_of number (entries_of xs)) (match_of code_of number (entries_of xs))
        ≡ map named_entry (cond t (x ∷ strings_in_front (λ t. t) number xs) (strings_in_front (λ t. t) number xs))
    go true ih = ap (λ es. named_entry x ∷ es) ih
    go false ih = ih

-- the last match of the entries is the entry of the last match
pub match_entry : (number : List ℕ) (pairs : List (List ℕ × Named)) →
    last_of (match_of code_of number (entries_of pairs)) ≡ option_map (λ x. (x.0, x.1.name.items)) (last_of (strings_in_front (λ t. t) number pairs))
match_entry number pairs = ap last_of (matches-map number pairs) ∙ last-map (strings_in_front (λ t. t) number pairs)

-- the entries rise as the keys do
entries_after : (x : List ℕ × Named) (xs : List (List ℕ × Named)) → Each (λ y. slice_cmp nat_cmp x.0 y.0 ≡ Less) xs →
    Each (λ e. is_before x.0 (code_of e) ≡ true) (entries_of xs)
entries_after x [] h = tt
entries_after x (y ∷ ys) h = (ap is_lt h.0, entries_after x ys h.1)

pub entries_rise : (pairs : List (List ℕ × Named)) → RiseBy (slice_cmp nat_cmp) pairs → TextsRise code_of (entries_of pairs)
entries_rise [] h = tt
entries_rise (x ∷ xs) h = (entries_after x xs h.0, entries_rise xs h.1)

-- what passes a test and is in a list is among those that pass
passes_in : {A : Type 0} (test : A → Bool) (x : A) (xs : List A) → IsIn x xs → test x ≡ true → IsIn x (filter test xs)
passes_in test x [] h e = h
passes_in test x (y ∷ xs) h e = go (test y) refl h (λ r. passes_in test x xs r e)
  where
    go : (t : Bool) → test y ≡ t → (y ≡ x) ⊎ IsIn x xs → (IsIn x xs → IsIn x (filter test xs)) → IsIn x (cond t (y ∷ filter test xs) (filter test xs))
    go true b (inl s) ih = inl s
    go true b (inr r) ih = inr (ih r)
    go false b (inl s) ih = absurd (false≢true (sym b ∙ ap test s ∙ e))
    go false b (inr r) ih = ih r

-- and what is among them passes, and is in the list
in_passes : {A : Type 0} (test : A → Bool) (x : A) (xs : List A) → IsIn x (filter test xs) → IsIn x xs × (test x ≡ true)
in_passes test x [] h = absurd h
in_passes test x (y ∷ xs) h = go (test y) refl h (in_passes test x xs)
  where
    go : (t : Bool) → test y ≡ t → IsIn x (cond t (y ∷ filter test xs) (filter test xs)) →
        (IsIn x (filter test xs) → IsIn x xs × (test x ≡ true)) → ((y ≡ x) ⊎ IsIn x xs) × (test x ≡ true)
    go true b (inl s) ih = (inl s, ap test (sym s) ∙ b)
    go true b (inr r) ih = let k = ih r in (inr k.0, k.1)
    go false b r ih = let k = ih r in (inr k.0, k.1)

each_of : {A : Type 0} (Q : A → Type 0) (x : A) (xs : List A) → IsIn x xs → Each Q xs → Q x
each_of Q x [] h all = absurd h
each_of Q x (y ∷ ys) (inl s) all = subst Q s all.0
each_of Q x (y ∷ ys) (inr r) all = each_of Q x ys r all.1

-- each match is no longer than the last one
pub no_longer : (entries : List (List ℕ × List ℕ)) (number : List ℕ) (e : List ℕ × List ℕ) → TextsRise code_of entries → IsIn e entries →
    IsFront (code_of e) number →
    IsNoLonger e (last_of (match_of code_of number entries))
no_longer entries number e rise there front = go (last_of (match_of code_of number entries)) refl
  where
    among : IsIn e (match_of code_of number entries)
    among = passes_in (λ x. is_front (code_of x) number) e entries there ((fronts_are_decided (code_of e) number).1 front)

    none_in : (ms : List (List ℕ × List ℕ)) → IsIn e ms → last_of ms ≡ None → ⊥
    none_in [] h last = h
    none_in (m ∷ []) h last = absurd cc
    none_in (m ∷ n ∷ ms) h last = some n ms last
      where
        some : (n : List ℕ × List ℕ) (ms : List (List ℕ × List ℕ)) → last_of (n ∷ ms) ≡ None → ⊥
        some n [] last = absurd cc
        some n (o ∷ ms) last = some o ms last

    go : (last : Option (List ℕ × List ℕ)) → last_of (match_of code_of number entries) ≡ last → IsNoLonger e last
    go None h = none_in (match_of code_of number entries) among h
    go (Some last) h = each_of (λ x. length (code_of x) ≤ length (code_of last)) e (match_of code_of number entries) among
        (last_is_longest code_of entries number last rise h)

pub last_match : (entries : List (List ℕ × List ℕ)) (number : List ℕ) (e : List ℕ × List ℕ) → last_of (match_of code_of number entries) ≡ Some e →
    IsIn e entries × IsFront (code_of e) number
last_match entries number e h =
    let both = in_passes (λ x. is_front (code_of x) number) e entries (among (match_of code_of number entries) h) in
    (both.0, (fronts_are_decided (code_of e) number).0 both.1)
  where
    among : (ms : List (List ℕ × List ℕ)) → last_of ms ≡ Some e → IsIn e ms
    among [] h = absurd cc
    among (m ∷ []) h = inl (cc)
    among (m ∷ n ∷ ms) h = inr (among (n ∷ ms) h)
