-- Sorted children are determined by what they have under each byte; parts of them; children that are read off a function.
use Rattle.std.proofs.Common.{◌≡◌, ◌≢◌, ◌⊎◌, ℕ, zero, suc, ◌+◌, ◌-◌, ◌<◌, ◌≤◌, min, max, eqb, cond, [], ◌∷◌, ◌++◌, length, Option, Some}
use Rattle.std.proofs.Common.{None, is_some, IsSome, All, get_or, slice_get, append_assoc, refl, sym, ap, ◌∙◌, inl, inr, arith, subst}
use Rattle.std.proofs.lemmas.List.{length-append}
use Rattle.std.proofs.lemmas.Bool.{cases_eq}
use Rattle.std.specs.Option.{option_map}
use Rattle.std.specs.List.{cons_option}
use Rattle.art_inner.specs.Inner.{Children, IsAbove, IsBelow, IsRising, child_at, children_between, part_of, put_child, remove_child}
use Rattle.art_inner.specs.Tables.{names_from, names_by_byte}
use Rattle.art_parts.specs.declared.names.OpaqueNodePtr.{OpaqueNodePtr}
use Rattle.art_inner.proofs.TableLemmas.{Entry, none_is_not, IsRising-put_child}
use Rattle.art_parts.proofs.Comparisons.{by_order}
use Rattle.art_inner.specs.Rests.{IsRest, rest_list}
use Rattle.art_inner.specs.declared.children.Rest.{Rest}
use Rattle.art_inner.specs.declared.children.Rest.TheVariants as rest
use Rattle.art_inner.proofs.ChildrenLaws.{first_is_least, last_is_greatest, rises_around, at_here, at_later, child_here, child_elsewhere}
use Rattle.art_inner.proofs.ChildrenLaws.{child_gone, child_kept, put_child-above, IsRising-remove_child}
use Rattle.art_inner.proofs.ChildrenLemmas.{part_here, part_not}

some_is_not : (n : OpaqueNodePtr) → Some n ≢ None
some_is_not n e = none_is_not (ap is_some (sym e))

same_some : (m n : OpaqueNodePtr) → Some m ≡ Some n → m ≡ n
same_some m n e = cc

-- nothing is under a byte below all
pub nothing_below : (x : ℕ) (cs : Children) (b : ℕ) → IsBelow x cs → b ≤ x → child_at cs b ≡ None
nothing_below x [] b below h = refl
nothing_below x (c ∷ cs) b below h = at_later c cs b (λ e. omega (arith, e, below.0)) ∙ nothing_below x cs b below.1 h

-- nothing is under a byte above all
nothing_above : (x : ℕ) (cs : Children) (b : ℕ) → IsAbove x cs → x ≤ b → child_at cs b ≡ None
nothing_above x [] b above h = refl
nothing_above x (c ∷ cs) b above h = at_later c cs b (λ e. omega (arith, e, above.0)) ∙ nothing_above x cs b above.1 h

-- two sorted lists with the same under each byte are equal
same_children : (cs ds : Children) → IsRising cs → IsRising ds → ((b : ℕ) → child_at cs b ≡ child_at ds b) → cs ≡ ds
same_children [] [] r s same = refl
same_children [] (d ∷ ds) r s same = absurd (some_is_not d.1 (sym (at_here d ds d.0 refl) ∙ sym (same d.0)))
same_children (c ∷ cs) [] r s same = absurd (some_is_not c.1 (sym (at_here c cs c.0 refl) ∙ same c.0))
same_children (c ∷ cs) (d ∷ ds) r s same = by_first (same_children cs ds r.1 s.1) (by_order c.0 d.0)
  where
    by_first : (((b : ℕ) → child_at cs b ≡ child_at ds b) → cs ≡ ds) → (c.0 < d.0) ⊎ ((c.0 ≡ d.0) ⊎ (d.0 < c.0)) → c ∷ cs ≡ d ∷ ds
    by_first go (inl l) = absurd (some_is_not c.1
        (sym (at_here c cs c.0 refl) ∙ same c.0 ∙ at_later d ds c.0 (λ e. omega (arith, l, e))
        ∙ nothing_below d.0 ds c.0 s.0 (omega (arith, l))))
    by_first go (inr (inr l)) = absurd (some_is_not d.1
        (sym (at_here d ds d.0 refl) ∙ sym (same d.0) ∙ at_later c cs d.0 (λ e. omega (arith, l, e))
        ∙ nothing_below c.0 cs d.0 r.0 (omega (arith, l))))
    by_first go (inr (inl e)) =
        let name : c.1 ≡ d.1 = same_some _ _ (sym (at_here c cs c.0 refl) ∙ same c.0 ∙ at_here d ds c.0 (sym e)) in
        let rest : cs ≡ ds = go (λ b. tails b (by_order b c.0)) in
        λ i. (e i, name i) ∷ rest i
      where
        tails : (b : ℕ) → (b < c.0) ⊎ ((b ≡ c.0) ⊎ (c.0 < b)) → child_at cs b ≡ child_at ds b
        tails b (inl l) = nothing_below c.0 cs b r.0 (omega (arith, l)) ∙ sym (nothing_below d.0 ds b s.0 (omega (arith, l, e)))
        tails b (inr (inl k)) = nothing_below c.0 cs b r.0 (omega (arith, k)) ∙ sym (nothing_below d.0 ds b s.0 (omega (arith, k, e)))
        tails b (inr (inr l)) = sym (at_later c cs b (λ k. omega (arith, l, k))) ∙ same b ∙ at_later d ds b (λ k. omega (arith, l, k, e))

inside_or_not : (from to x : ℕ) → ((from ≤ x) × (x < to)) ⊎ ((x < from) ⊎ (to ≤ x))
inside_or_not from to x = elim (by_order x from) [
  | inl l ↦ inr (inl l)
  | inr g ↦ elim (by_order x to) [
    | inl l ↦ inl (elim g [ inl e ↦ omega (arith, e) | inr h ↦ omega (arith, h) ], l)
    | inr h ↦ inr (inr (elim h [ inl e ↦ omega (arith, e) | inr k ↦ omega (arith, k) ]))
  ]
]

IsBelow-part_of : (x from to : ℕ) (cs : Children) → IsBelow x cs → IsBelow x (part_of from to cs)
IsBelow-part_of x from to [] below = tt
IsBelow-part_of x from to (c ∷ cs) below = elim (inside_or_not from to c.0) [
  | inl h ↦ subst (IsBelow x) (sym (part_here from to c cs h.0 h.1)) (below.0, IsBelow-part_of x from to cs below.1)
  | inr n ↦ subst (IsBelow x) (sym (part_not from to c cs n)) (IsBelow-part_of x from to cs below.1)
]

IsRising-part_of : (from to : ℕ) (cs : Children) → IsRising cs → IsRising (part_of from to cs)
IsRising-part_of from to [] rising = tt
IsRising-part_of from to (c ∷ cs) rising = elim (inside_or_not from to c.0) [
  | inl h ↦ subst IsRising (sym (part_here from to c cs h.0 h.1)) (IsBelow-part_of c.0 from to cs rising.0, IsRising-part_of from to cs rising.1)
  | inr n ↦ subst IsRising (sym (part_not from to c cs n)) (IsRising-part_of from to cs rising.1)
]

-- a part is below the first byte that is left out, and above the one before the first
above_part : (from to : ℕ) (cs : Children) → IsAbove to (part_of from to cs)
above_part from to [] = tt
above_part from to (c ∷ cs) = elim (inside_or_not from to c.0) [
  | inl h ↦ subst (IsAbove to) (sym (part_here from to c cs h.0 h.1)) (h.1, above_part from to cs)
  | inr n ↦ subst (IsAbove to) (sym (part_not from to c cs n)) (above_part from to cs)
]

below_part : (x from to : ℕ) (cs : Children) → x < from → IsBelow x (part_of from to cs)
below_part x from to [] h = tt
below_part x from to (c ∷ cs) h = elim (inside_or_not from to c.0) [
  | inl k ↦ subst (IsBelow x) (sym (part_here from to c cs k.0 k.1)) (omega (arith, h, k.0), below_part x from to cs h)
  | inr n ↦ subst (IsBelow x) (sym (part_not from to c cs n)) (below_part x from to cs h)
]

-- what a part has under a byte
at_inside : (from to : ℕ) (cs : Children) (b : ℕ) → from ≤ b → b < to → child_at (part_of from to cs) b ≡ child_at cs b
at_inside from to [] b h k = refl
at_inside from to (c ∷ cs) b h k = elim (inside_or_not from to c.0) [
  | inl w ↦ ap (λ (t : Children). child_at t b) (part_here from to c cs w.0 w.1) ∙ ap (λ t. cond (eqb c.0 b) (Some c.1) t) (at_inside from to cs b h k)
  | inr n ↦ ap (λ (t : Children). child_at t b) (part_not from to c cs n) ∙ at_inside from to cs b h k
      ∙ sym (at_later c cs b (λ e. elim n [ inl l ↦ absurd (omega (arith, l, e, h)) | inr l ↦ absurd (omega (arith, l, e, k)) ]))
]

at_outside : (from to : ℕ) (cs : Children) (b : ℕ) → (b < from) ⊎ (to ≤ b) → child_at (part_of from to cs) b ≡ None
at_outside from to [] b out = refl
at_outside from to (c ∷ cs) b out = elim (inside_or_not from to c.0) [
  | inl w ↦ ap (λ (t : Children). child_at t b) (part_here from to c cs w.0 w.1)
      ∙ at_later c (part_of from to cs) b (λ e. elim out [
        | inl l ↦ absurd (omega (arith, l, e, w.0))
        | inr l ↦ absurd
            (omega (arith, l, e, w.1))
      ]) ∙ at_outside from to cs b out
  | inr n ↦ ap (λ (t : Children). child_at t b) (part_not from to c cs n) ∙ at_outside from to cs b out
]

module _ (cs : Children) (rising : IsRising cs) where
  -- a part is another list, if that has the same under each byte of the part and nothing else
  part_is : (from to : ℕ) (ds : Children) → IsRising ds → ((b : ℕ) → from ≤ b → b < to → child_at cs b ≡ child_at ds b) →
      ((b : ℕ) → (b < from) ⊎ (to ≤ b) → child_at ds b ≡ None) →
      part_of from to cs ≡ ds
  part_is from to ds other inside outside =
      same_children (part_of from to cs) ds (IsRising-part_of from to cs rising) other (λ b. elim (inside_or_not from to b) [
        | inl w ↦ at_inside from to cs b w.0 w.1 ∙ inside b w.0 w.1
        | inr n ↦ at_outside from to cs b n ∙ sym (outside b n)
      ])

  pub empty_part : (from to : ℕ) → to ≤ from → part_of from to cs ≡ []
  empty_part from to h = part_is from to [] tt (λ b l r. absurd (omega (arith, h, l, r))) (λ b n. refl)

  -- nothing is under the first byte of a part, or under the last
  pub skip_first : (from to : ℕ) → child_at cs from ≡ None → part_of from to cs ≡ part_of (from + 1) to cs
  skip_first from to none = part_is from to (part_of (from + 1) to cs) (IsRising-part_of (from + 1) to cs rising)
      (λ b l r. elim (by_order from b) [
        | inl k ↦ sym (at_inside (from + 1) to cs b (omega (arith, k)) r)
        | inr k ↦ elim k [
          | inl e ↦ sym (ap (child_at cs) e) ∙ none
              ∙ sym (at_outside (from + 1) to cs b (inl (omega (arith, e))))
          | inr g ↦ absurd (omega (arith, g, l))
        ]
      ])
      (λ b n. at_outside (from + 1) to cs b (elim n [ inl l ↦ inl (omega (arith, l)) | inr l ↦ inr l ]))

  skip_last : (from to : ℕ) → child_at cs to ≡ None → part_of from (to + 1) cs ≡ part_of from to cs
  skip_last from to none = part_is from (to + 1) (part_of from to cs) (IsRising-part_of from to cs rising)
      (λ b l r. elim (by_order b to) [
        | inl k ↦ sym (at_inside from to cs b l k)
        | inr k ↦ elim k [ inl e ↦ ap (child_at cs) e ∙ none ∙ sym (at_outside from to cs b (inr (omega (arith, e)))) | inr g ↦ absurd (omega (arith, g, r)) ]
      ])
      (λ b n. at_outside from to cs b (elim n [ inl l ↦ inl l | inr l ↦ inr (omega (arith, l)) ]))

  -- a child is under the first byte of a part, or under the last
  pub take_first : (from to : ℕ) (n : OpaqueNodePtr) → from < to → child_at cs from ≡ Some n → part_of from to cs ≡ (from, n) ∷ part_of (from + 1) to cs
  take_first from to n h there =
      part_is from to ((from, n) ∷ part_of (from + 1) to cs)
      (below_part from (from + 1) to cs (omega arith), IsRising-part_of (from + 1) to cs rising)
      (λ b l r. elim (by_order from b) [
        | inl k ↦ sym (at_later (from, n) (part_of (from + 1) to cs) b (λ e. omega (arith, k, e)) ∙ at_inside (from + 1) to cs b (omega (arith, k)) r)
        | inr k ↦
            elim k [
              | inl e ↦ sym (ap (child_at cs) e) ∙ there
                  ∙ sym (at_here (from, n) (part_of (from + 1) to cs) b e)
              | inr g ↦ absurd (omega (arith, g, l))
            ]
      ])
      (λ b o. at_later (from, n) (part_of (from + 1) to cs) b (λ e. elim o [ inl l ↦ absurd (omega (arith, l, e)) | inr l ↦ absurd (omega (arith, l, e, h)) ])
      ∙ at_outside (from + 1) to cs b (elim o [ inl l ↦ inl (omega (arith, l)) | inr l ↦ inr l ]))

  pub take_last : (from to : ℕ) (n : OpaqueNodePtr) → from ≤ to → child_at cs to ≡ Some n → part_of from (to + 1) cs ≡ part_of from to cs ++ (to, n) ∷ []
  take_last from to n h there =
      part_is from (to + 1) (put_child (part_of from to cs) to n) (IsRising-put_child _ to n (IsRising-part_of from to cs rising))
      (λ b l r. elim (by_order b to) [
        | inl k ↦ sym (child_elsewhere (part_of from to cs) to b n (λ e. omega (arith, k, e)) ∙ at_inside from to cs b l k)
        | inr k ↦ elim k [
          | inl e ↦ ap (child_at cs) e ∙ there
              ∙ sym (ap (child_at (put_child (part_of from to cs) to n)) e ∙ child_here (part_of from to cs) to n)
          | inr g ↦ absurd (omega (arith, g, r))
        ]
      ])
      (λ b o. child_elsewhere (part_of from to cs) to b n (λ e. elim o [ inl l ↦ absurd (omega (arith, l, e, h)) | inr l ↦ absurd (omega (arith, l, e)) ])
      ∙ at_outside from to cs b (elim o [ inl l ↦ inl l | inr l ↦ inr (omega (arith, l)) ]))
      ∙ put_child-above (part_of from to cs) to n (above_part from to cs)

  pub skip_last_at : (from to : ℕ) → from < to → child_at cs (to - 1) ≡ None → part_of from to cs ≡ part_of from (to - 1) cs
  skip_last_at from to h none = let back : to ≡ to - 1 + 1 = omega arith in ap (λ (n : ℕ). part_of from n cs) back ∙ skip_last from (to - 1) none

  pub take_last_at : (from to : ℕ) (n : OpaqueNodePtr) → from < to → child_at cs (to - 1) ≡ Some n →
      part_of from to cs ≡ part_of from (to - 1) cs ++ (to - 1, n) ∷ []
  take_last_at from to n h there =
      let back : to ≡ to - 1 + 1 = omega arith in ap (λ (k : ℕ). part_of from k cs) back ∙ take_last from (to - 1) n (omega arith) there

  pub first_found : (from to left : ℕ) (n : OpaqueNodePtr) → from < to → child_at cs from ≡ Some n → left ≡ length (part_of from to cs) →
      (1 ≤ left) × (left - 1 ≡ length (part_of (from + 1) to cs))
  first_found from to left n h there count = let e = ap length (take_first from to n h there) in (omega (arith, count, e), omega (arith, count, e))

  pub last_found : (from to left : ℕ) (n : OpaqueNodePtr) → from < to → child_at cs (to - 1) ≡ Some n → left ≡ length (part_of from to cs) →
      (1 ≤ left) × (left - 1 ≡ length (part_of from (to - 1) cs))
  last_found from to left n h there count = let e = ap length (take_last_at from to n h there)
      ∙ length-append (part_of from (to - 1) cs) ((to - 1, n) ∷ []) in (omega (arith, count, e), omega (arith, count, e))

  pub counted_some : (from at : ℕ) → from ≤ at → IsSome (child_at cs at) → length (part_of from (at + 1) cs) ≡ length (part_of from at cs) + 1
  counted_some from at h there = by_value (child_at cs at) refl there
    where
      by_value : (o : Option OpaqueNodePtr) → child_at cs at ≡ o → IsSome o → length (part_of from (at + 1) cs) ≡ length (part_of from at cs) + 1
      by_value None e some = absurd (none_is_not some)
      by_value (Some n) e some = ap length (take_last from at n h e) ∙ length-append (part_of from at cs) ((at, n) ∷ [])

  pub counted_none : (from at : ℕ) → child_at cs at ≡ None → length (part_of from (at + 1) cs) ≡ length (part_of from at cs)
  counted_none from at none = ap length (skip_last from at none)

  -- all of it
  pub whole_part : (to : ℕ) → IsAbove to cs → part_of 0 to cs ≡ cs
  whole_part to above = part_is 0 to cs rising (λ b l r. refl) (λ b n. elim n [ inl l ↦ absurd (omega (arith, l)) | inr l ↦ nothing_above to cs b above l ])

-- a list that continues with what is under one byte
abbrev goes_on : ℕ → Option OpaqueNodePtr → Children → Children
goes_on b o rest = cons_option (option_map (λ name. (b, name)) o) rest

below_step : (x b : ℕ) (o : Option OpaqueNodePtr) (rest : Children) → x < b → IsBelow x rest → IsBelow x (goes_on b o rest)
below_step x b None rest h below = below
below_step x b (Some n) rest h below = (h, below)

above_step : (x b : ℕ) (o : Option OpaqueNodePtr) (rest : Children) → b < x → IsAbove x rest → IsAbove x (goes_on b o rest)
above_step x b None rest h above = above
above_step x b (Some n) rest h above = (h, above)

rising_step : (b : ℕ) (o : Option OpaqueNodePtr) (rest : Children) → IsBelow b rest → IsRising rest → IsRising (goes_on b o rest)
rising_step b None rest below rising = rising
rising_step b (Some n) rest below rising = (below, rising)

here_step : (b : ℕ) (o : Option OpaqueNodePtr) (rest : Children) → child_at rest b ≡ None → child_at (goes_on b o rest) b ≡ o
here_step b None rest none = none
here_step b (Some n) rest none = at_here (b, n) rest b refl

later_step : (b k : ℕ) (o : Option OpaqueNodePtr) (rest : Children) → b ≢ k → child_at (goes_on b o rest) k ≡ child_at rest k
later_step b k None rest n = refl
later_step b k (Some m) rest n = at_later (b, m) rest k n

bound_step : (b : ℕ) (o : Option OpaqueNodePtr) (rest : Children) (n : ℕ) → length rest ≤ n → length (goes_on b o rest) ≤ suc n
bound_step b None rest n h = omega (arith, h)
bound_step b (Some m) rest n h = omega (arith, h)

module _ (at : ℕ → Option OpaqueNodePtr) where
  names_below : (x b n : ℕ) → x < b → IsBelow x (names_from at b n)
  unfolding names_from
  names_below x b zero h = tt
  names_below x b (suc n) h = below_step x b (at b) (names_from at (suc b) n) h (names_below x (suc b) n (omega arith))

  names_above : (x b n : ℕ) → b + n ≤ x → IsAbove x (names_from at b n)
  unfolding names_from
  names_above x b zero h = tt
  names_above x b (suc n) h = above_step x b (at b) (names_from at (suc b) n) (omega arith) (names_above x (suc b) n (omega arith))

  names_rising : (b n : ℕ) → IsRising (names_from at b n)
  unfolding names_from
  names_rising b zero = tt
  names_rising b (suc n) = rising_step b (at b) (names_from at (suc b) n) (names_below b (suc b) n (omega arith)) (names_rising (suc b) n)

  names_at : (b n k : ℕ) → b ≤ k → k < b + n → child_at (names_from at b n) k ≡ at k
  unfolding names_from
  names_at b zero k h l = absurd (omega arith)
  names_at b (suc n) k h l = elim (by_order b k) [
    | inl g ↦ later_step b k (at b) (names_from at (suc b) n) (λ e. omega (arith, g, e)) ∙ names_at (suc b) n k (omega (arith, g)) (omega arith)
    | inr g ↦ elim g [
      | inl e ↦ subst (λ j. child_at (goes_on b (at b) (names_from at (suc b) n)) j ≡ at j) e
          (here_step b (at b) (names_from at (suc b) n) (nothing_below b (names_from at (suc b) n) b (names_below b (suc b) n (omega arith)) (omega arith)))
      | inr g ↦ absurd (omega (arith, g, h))
    ]
  ]

  names_bound : (b n : ℕ) → length (names_from at b n) ≤ n
  unfolding names_from
  names_bound b zero = omega arith
  names_bound b (suc n) = bound_step b (at b) (names_from at (suc b) n) n (names_bound (suc b) n)

  pub listed_bound : length (names_by_byte at) ≤ 256
  unfolding names_by_byte
  listed_bound = names_bound 0 256

  pub listed_rising : IsRising (names_by_byte at)
  unfolding names_by_byte
  listed_rising = names_rising 0 256

  pub listed_above : IsAbove 256 (names_by_byte at)
  unfolding names_by_byte
  listed_above = names_above 256 0 256 (omega arith)

  pub listed_at : (k : ℕ) → k < 256 → child_at (names_by_byte at) k ≡ at k
  unfolding names_by_byte
  listed_at k h = names_at 0 256 k (omega arith) (omega (arith, h))

-- two functions that differ under one byte
module _ (at new : ℕ → Option OpaqueNodePtr) (b : ℕ) (within : b < 256) (others : (k : ℕ) → k < 256 → k ≢ b → new k ≡ at k) where
  past_all : (at : ℕ → Option OpaqueNodePtr) (k : ℕ) → 256 ≤ k → child_at (names_by_byte at) k ≡ None
  past_all at k h = nothing_above 256 (names_by_byte at) k (listed_above at) h

  by_byte : (cs : Children) → IsRising cs → child_at cs b ≡ new b → ((k : ℕ) → k ≢ b → child_at cs k ≡ child_at (names_by_byte at) k) → names_by_byte new ≡ cs
  by_byte cs rising at_b rest = same_children (names_by_byte new) cs (listed_rising new) rising (λ k. elim (cases_eq k b) [
    | inl e ↦ ap (child_at (names_by_byte new)) e ∙ listed_at new b within ∙ sym at_b ∙ sym (ap (child_at cs) e)
    | inr d ↦ elim (by_order k 256) [
      | inl l ↦ listed_at new k l ∙ others k l d ∙ sym (listed_at at k l) ∙ sym (rest k d)
      | inr g ↦
          let past : 256 ≤ k = elim g [ inl e ↦ omega (arith, e) | inr l ↦ omega (arith, l) ] in
          past_all new k past ∙ sym (past_all at k past) ∙ sym (rest k d)
    ]
  ])

  pub listed_put : (n : OpaqueNodePtr) → new b ≡ Some n → names_by_byte new ≡ put_child (names_by_byte at) b n
  listed_put n is = by_byte (put_child (names_by_byte at) b n) (IsRising-put_child (names_by_byte at) b n (listed_rising at))
      (child_here (names_by_byte at) b n ∙ sym is) (λ k d. child_elsewhere (names_by_byte at) b k n d)

  pub listed_remove : new b ≡ None → names_by_byte new ≡ remove_child (names_by_byte at) b
  listed_remove is = by_byte (remove_child (names_by_byte at) b) (IsRising-remove_child (names_by_byte at) b (listed_rising at))
      (child_gone (names_by_byte at) b ∙ sym is) (λ k d. child_kept (names_by_byte at) b k d)

-- a function that gives nothing
pub listed_none : (at : ℕ → Option OpaqueNodePtr) → ((k : ℕ) → k < 256 → at k ≡ None) → names_by_byte at ≡ []
listed_none at none = same_children (names_by_byte at) [] (listed_rising at) tt (λ k. elim (by_order k 256) [
  | inl l ↦ listed_at at k l ∙ none k l
  | inr g ↦ nothing_above 256 (names_by_byte at) k (listed_above at) (elim g [ inl e ↦ omega (arith, e) | inr l ↦ omega (arith, l) ])
])

-- what is between two bytes of a part is a part
module _ (cs : Children) (rising : IsRising cs) where
  pub part_between : (from to first last f t : ℕ) → f ≡ max from first → t ≡ min to (last + 1) →
      part_of f t cs ≡ children_between first last (part_of from to cs)
  part_between from to first last f t is_f is_t =
      part_is cs rising f t (children_between first last (part_of from to cs))
      (IsRising-part_of first (last + 1) (part_of from to cs) (IsRising-part_of from to cs rising))
      (λ b l r. sym (at_inside first (last + 1) (part_of from to cs) b (omega (arith, is_f)) (omega (arith, is_t))
      ∙ at_inside from to cs b (omega (arith, is_f)) (omega (arith, is_t))))
      (λ b o. elim (inside_or_not first (last + 1) b) [
        | inl w ↦ at_inside first (last + 1) (part_of from to cs) b w.0 w.1
            ∙ at_outside from to cs b (elim o [ inl l ↦ inl (omega (arith, l, is_f, w.0)) | inr l ↦ inr (omega (arith, l, is_t, w.1)) ])
        | inr n ↦ at_outside first (last + 1) (part_of from to cs) b n
      ])

-- the first remaining child is written behind the earlier ones
pub moved_over : (table rest next all written : Children) (b : ℕ) (n : OpaqueNodePtr) → table ++ rest ≡ all → rest ≡ (b, n) ∷ next →
    IsRising all → written ≡ put_child table b n →
    written ++ next ≡ all
moved_over table rest next all written b n is step rising wrote =
    let whole : table ++ (b, n) ∷ next ≡ all = ap (λ (t : Children). table ++ t) (sym step) ∙ is in
    let above = (rises_around table next (b, n) (subst IsRising (sym whole) rising)).0 in
    ap (λ (t : Children). t ++ next) (wrote ∙ put_child-above table b n above) ∙ append_assoc table ((b, n) ∷ []) next ∙ whole

-- it is above them, and there is room for it
pub next_above : (table rest next all : Children) (b : ℕ) (n : OpaqueNodePtr) → table ++ rest ≡ all → rest ≡ (b, n) ∷ next → IsRising all → IsAbove b table
next_above table rest next all b n is step rising =
    (rises_around table next (b, n) (subst IsRising (sym (ap (λ (t : Children). table ++ t) (sym step) ∙ is)) rising)).0

pub next_fits : (N : ℕ) (table rest next all : Children) (b : ℕ) (n : OpaqueNodePtr) → table ++ rest ≡ all → rest ≡ (b, n) ∷ next →
    length all ≤ N → length table < N
next_fits N table rest next all b n is step fits = omega (arith, fits, ap length is, length-append table rest, ap length step)

-- the last of a list
pub last_is : (cs front : Children) (c : Entry) → cs ≡ front ++ c ∷ [] → slice_get cs (length cs - 1) ≡ Some c
last_is cs front c is =
    let long : length cs - 1 ≡ length front = omega (arith, ap length is, length-append front (c ∷ [])) in
    ap (λ (k : ℕ). slice_get cs k) long ∙ ap (λ (t : Children). slice_get t (length front)) is ∙ at_end front
  where
    at_end : (front : Children) → slice_get (front ++ c ∷ []) (length front) ≡ Some c
    at_end [] = refl
    at_end (d ∷ front) = at_end front

read_there : (cs : Children) (k : ℕ) (c : Entry) → slice_get cs k ≡ Some c → get_or cs k c ≡ c
read_there [] k c is = refl
read_there (d ∷ cs) zero c is = cc
read_there (d ∷ cs) (suc k) c is = read_there cs k c is

pub least_of : (cs : Children) (c : Entry) → IsRising cs → slice_get cs 0 ≡ Some c → All (λ child. c.0 ≤ child.0) cs
least_of cs c rising is = subst (λ (e : Entry). All (λ child. e.0 ≤ child.0) cs) (read_there cs 0 c is) (first_is_least cs cs c refl rising)

pub greatest_of : (cs : Children) (c : Entry) → IsRising cs → slice_get cs (length cs - 1) ≡ Some c → All (λ child. child.0 ≤ c.0) cs
greatest_of cs c rising is = subst (λ (e : Entry). All (λ child. child.0 ≤ e.0) cs) (read_there cs (length cs - 1) c is) (last_is_greatest cs cs c refl rising)

-- what is left of an iterator is sorted
pub rest_rises : (r : Rest) → IsRest r → IsRising (rest_list r)
rest_rises (rest.Sorted lent) sound = sound.0
rest_rises (rest.Indexed table span) sound = IsRising-part_of span.from span.to table.now sound.0
rest_rises (rest.Direct table span) sound = IsRising-part_of span.from span.to table.now sound.0
