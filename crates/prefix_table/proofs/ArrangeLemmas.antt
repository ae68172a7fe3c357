-- Values that are moved to the indexes of their places, one after another.
use Rattle.std.proofs.Common.{◌≡◌, ◌≢◌, ℕ, ◌+◌, ◌<◌, ◌≤◌, ◌⊎◌, inl, inr, List, length, refl, ap, sym, ◌∙◌, subst, arith, slice_index, slice_index_or, take, drop, ◌++◌, append-nil}
use Rattle.std.specs.List.{SwappedAt}
use Rattle.std.proofs.Math.ListN.{drop_of_length-le}
use Rattle.std.proofs.lemmas.Bool.{cases_lt}
use Rattle.std.proofs.lemmas.List.{take_all}
use Rattle.prefix_table.specs.Arranging.{AreArranged, AreCounted, AreIndexes}
use Rattle.prefix_table.proofs.OrderLemmas.{equal_or_not}

-- each of the first numbers is small, and the second function leads back from it
abbrev pub LeadsBack : ℕ → (ℕ → ℕ) → (ℕ → ℕ) → Type 0
LeadsBack n f g = (i : ℕ) → i < n → (f i < n) × (g (f i) ≡ i)

-- the second function is the first with two of its values exchanged
abbrev Swapped : {X : Type 0} → (ℕ → X) → (ℕ → X) → ℕ → ℕ → Type 0
Swapped f g a b = (g a ≡ f b) × (g b ≡ f a) × ((k : ℕ) → k ≢ a → k ≢ b → g k ≡ f k)

flipped : {X : Type 0} (f g : ℕ → X) (a b : ℕ) → Swapped f g a b → Swapped f g b a
flipped f g a b h = (h.1, h.0, λ k p q. h.2 k q p)

at_default : {X : Type 0} (xs ys : List X) (a b : ℕ) (d : X) → SwappedAt xs ys a b →
    Swapped (λ k. slice_index_or xs k d) (λ k. slice_index_or ys k d) a b
at_default xs ys a b d h = (h.0 d, h.1 d, λ k p q. h.2 k d p q)

-- an index is the first of two, the second, or another one
abbrev Where : ℕ → ℕ → ℕ → Type 0
Where a b i = (i ≡ a) ⊎ ((i ≡ b) ⊎ ((i ≢ a) × (i ≢ b)))

where_is : (a b i : ℕ) → Where a b i
where_is a b i =
    elim (equal_or_not i a) [
      | inl first ↦ inl first
      | inr not_a ↦ elim (equal_or_not i b) [ inl second ↦ inr (inl second) | inr not_b ↦ inr (inr (not_a, not_b)) ]
    ]

-- both directions stay inverse if one is swapped at two indexes, and the other at what it has there
module _ (n : ℕ) (f g f' g' : ℕ → ℕ) (a b : ℕ) (a_fits : a < n) (b_fits : b < n) (back : LeadsBack n f g)
    (there : Swapped f f' a b) (here : Swapped g g' (f a) (f b)) where
  pub still_back : LeadsBack n f' g'
  still_back i fits = go (where_is a b i)
    where
      go : Where a b i → (f' i < n) × (g' (f' i) ≡ i)
      go (inl e) =
          let is : f' i ≡ f b = ap f' e ∙ there.0 in
          (subst (λ m. m < n) (sym is) (back b b_fits).0, ap g' is ∙ here.1 ∙ (back a a_fits).1 ∙ sym e)
      go (inr (inl e)) =
          let is : f' i ≡ f a = ap f' e ∙ there.1 in
          (subst (λ m. m < n) (sym is) (back a a_fits).0, ap g' is ∙ here.0 ∙ (back b b_fits).1 ∙ sym e)
      go (inr (inr (not_a, not_b))) =
          let is : f' i ≡ f i = there.2 i not_a not_b in
          let off_a : f i ≢ f a = λ e. not_a (sym (back i fits).1 ∙ ap g e ∙ (back a a_fits).1) in
          let off_b : f i ≢ f b = λ e. not_b (sym (back i fits).1 ∙ ap g e ∙ (back b b_fits).1) in
          (subst (λ m. m < n) (sym is) (back i fits).0, ap g' is ∙ here.2 (f i) off_a off_b ∙ (back i fits).1)

-- values follow where they come from
module _ {V : Type 0} (n : ℕ) (old vs vs' : ℕ → V) (f f' : ℕ → ℕ) (a b : ℕ) (a_fits : a < n) (b_fits : b < n)
    (are : (i : ℕ) → i < n → vs i ≡ old (f i)) (moved : Swapped vs vs' a b) (there : Swapped f f' a b) where
  pub still_are : (i : ℕ) → i < n → vs' i ≡ old (f' i)
  still_are i fits = go (where_is a b i)
    where
      go : Where a b i → vs' i ≡ old (f' i)
      go (inl e) = ap vs' e ∙ moved.0 ∙ are b b_fits ∙ ap old (sym (ap f' e ∙ there.0))
      go (inr (inl e)) = ap vs' e ∙ moved.1 ∙ are a a_fits ∙ ap old (sym (ap f' e ∙ there.1))
      go (inr (inr (not_a, not_b))) = moved.2 i not_a not_b ∙ are i fits ∙ ap old (sym (there.2 i not_a not_b))

-- The values of the first indexes are those of their places; origins and indexes say where each value comes from and is.
pub record IsArrangedTo {V : Type 0} (places : List ℕ) (old now : List V) (origins indexes : List ℕ) (at : ℕ) : Type 0 where
  pub as_many : length now ≡ length old
  pub many_origins : length origins ≡ length places
  pub many_indexes : length indexes ≡ length places
  pub back : LeadsBack (length places) (λ k. slice_index origins k) (λ k. slice_index indexes k)
  pub forth : LeadsBack (length places) (λ k. slice_index indexes k) (λ k. slice_index origins k)
  pub values_are : (d : V) (k : ℕ) → k < length places → slice_index_or now k d ≡ slice_index_or old (slice_index origins k) d
  pub done : (k : ℕ) → k < at → slice_index origins k ≡ slice_index places k

module _ {V : Type 0} (places : List ℕ) (old : List V) where
  pub begins : (origins indexes : List ℕ) → AreCounted (length places) origins → AreCounted (length places) indexes →
      IsArrangedTo places old old origins indexes 0
  begins origins indexes o x = record {
    as_many = refl;
    many_origins = o.many;
    many_indexes = x.many;
    back = λ k h. (subst (λ m. m < length places) (sym (o.each k h)) h, ap (slice_index indexes) (o.each k h) ∙ x.each k h);
    forth = λ k h. (subst (λ m. m < length places) (sym (x.each k h)) h, ap (slice_index origins) (x.each k h) ∙ o.each k h);
    values_are = λ d k h. ap (λ m. slice_index_or old m d) (sym (o.each k h));
    done = λ k h. absurd (omega arith);
  }

  module _ (are : AreIndexes places) (now now' : List V) (origins indexes origins' indexes' : List ℕ) (at : ℕ) (fits : at < length places)
      (h : IsArrangedTo places old now origins indexes at) where
    abbrev place : ℕ
    place = slice_index places at

    abbrev index : ℕ
    index = slice_index indexes place

    abbrev moved : ℕ
    moved = slice_index origins at

    abbrev place_fits : place < length places
    place_fits = are.fits at fits

    index_fits : index < length places
    index_fits = (h.forth place place_fits).0

    from_place : slice_index origins index ≡ place
    from_place = (h.forth place place_fits).1

    to_at : slice_index indexes moved ≡ at
    to_at = (h.back at fits).1

    moved_fits : moved < length places
    moved_fits = (h.back at fits).0

    -- the value comes from no index that is done
    not_done : (k : ℕ) → k < at → k ≢ index
    not_done k below e =
        let same = are.own k at (omega arith) fits (sym (h.done k below) ∙ ap (slice_index origins) e ∙ from_place) in omega arith

    pub one_value_more : length now' ≡ length now → length origins' ≡ length origins → length indexes' ≡ length indexes →
        SwappedAt now now' at index → SwappedAt origins origins' at index → SwappedAt indexes indexes' place moved →
        IsArrangedTo places old now' origins' indexes' (at + 1)
    one_value_more vs os is v o x =
        let there = at_default origins origins' at index 0 o in
        let here = at_default indexes indexes' place moved 0 x in
        record {
          as_many = vs ∙ h.as_many;
          many_origins = os ∙ h.many_origins;
          many_indexes = is ∙ h.many_indexes;
          back =
              still_back (length places) (λ k. slice_index origins k) (λ k. slice_index indexes k) (λ k. slice_index origins' k) (λ k. slice_index indexes' k)
              at index fits index_fits h.back there
              (subst (λ m. Swapped (λ k. slice_index indexes k) (λ k. slice_index indexes' k) moved m) (sym from_place)
              (flipped (λ k. slice_index indexes k) (λ k. slice_index indexes' k) place moved here));
          forth =
              still_back (length places) (λ k. slice_index indexes k) (λ k. slice_index origins k) (λ k. slice_index indexes' k) (λ k. slice_index origins' k)
              place moved place_fits moved_fits h.forth here
              (subst (λ m. Swapped (λ k. slice_index origins k) (λ k. slice_index origins' k) index m) (sym to_at)
              (flipped (λ k. slice_index origins k) (λ k. slice_index origins' k) at index there));
          values_are = λ d.
              still_are (length places) (λ k. slice_index_or old k d) (λ k. slice_index_or now k d) (λ k. slice_index_or now' k d)
              (λ k. slice_index origins k) (λ k. slice_index origins' k) at index fits index_fits (h.values_are d) (at_default now now' at index d v) there;
          done = λ k below.
              elim (cases_lt k at) [
                | inl earlier ↦
                    there.2 k (λ e. omega arith) (not_done k earlier) ∙ h.done k earlier
                | inr last ↦
                    let e : at ≡ k = omega arith in
                    subst (λ m. slice_index origins' m ≡ slice_index places m) e (there.0 ∙ from_place)
              ];
        }

  pub ends : (now : List V) (origins indexes : List ℕ) (at : ℕ) → length places ≤ at → IsArrangedTo places old now origins indexes at →
      AreArranged places old now
  ends now origins indexes at all h = record {
    as_many = h.as_many;
    moved = λ k d fits. h.values_are d k fits ∙ ap (λ m. slice_index_or old m d) (h.done k (omega arith));
  }

-- all of a list is written
pub all_written : {V : Type 0} (new old : List V) (many : ℕ) → length new ≡ length old → many ≡ length old →
    take many (new ++ drop (length new) old) ≡ new
all_written new old many same all =
    ap (λ rest. take many (new ++ rest)) (drop_of_length-le old (omega arith)) ∙ ap (take many) (append-nil new) ∙ take_all many new (omega arith)
