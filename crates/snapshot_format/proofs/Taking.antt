-- Entries that are read and taken one after another.
use Rattle.std.proofs.Common.{◌≡◌, ◌≢◌, ℕ, ◌+◌, ◌<◌, ◌^◌, true, false, eqb, List, [], ◌∷◌, ◌++◌, length, length-append, Option, Some, refl, ap, sym, ◌∙◌, subst, arith}
use Rattle.std.proofs.lemmas.Bool.{ne_eqb}
use Rattle.std.specs.List.{AllByRecursion as Each}
use Rattle.snapshot_format.specs.Snapshots.{Entry, FitsEntry, IsAfter, IsNext, IsRising, IsStorable, Rise, entries_bytes, entry_bytes, is_none, last_key}
use Rattle.snapshot_format.specs.declared.source.Source.{Source}
use Rattle.snapshot_format.specs.Reading.{HasTaken, Reads}
use Rattle.snapshot_format.proofs.Known.{left_of, reads_more, reads_none}
use Rattle.snapshot_format.proofs.RestsOfBytes.{after_entry, each_middle, each_more, entries_more, last_more, next_of, rising_more, rising_next}

-- whether the next entry is the first one
pub is_first : (taken : List Entry) (count : ℕ) → length taken ≡ count → eqb count 0 ≡ is_none taken
unfolding is_none
is_first [] count e = rw (← e) refl
is_first (one ∷ taken) count e = ne_eqb count 0 (λ none. omega arith)

some_is : (a : Option (List ℕ)) (xs ys : List ℕ) → a ≡ Some xs → xs ≡ ys → a ≡ Some ys
some_is a xs ys e f = e ∙ ap (λ bs. Some bs) f

module _ {R : Type 0} (left : R → Option (List ℕ)) (takes : Entry → Type 0) where
  pub taken_begins : (a : Source R) (taken : List Entry) (key : List ℕ) → taken ≡ [] → key ≡ [] → a.at < 2 ^ 64 → HasTaken left a a takes taken key 0
  unfolding entries_bytes last_key Rise
  taken_begins a taken key none empty small = rw (none, empty) record {
    counted = refl;
    reads = reads_none left a small;
    last = refl;
    rising = tt;
    each = tt;
  }

  pub first_empty : (a b : Source R) (taken : List Entry) (key : List ℕ) (count : ℕ) → HasTaken left a b takes taken key count → eqb count 0 ≡ true → key ≡ []
  unfolding last_key
  first_empty a b [] key count h e = h.last
  first_empty a b (one ∷ taken) key count h e = let c = h.counted in let f : eqb count 0 ≡ false = ne_eqb count 0 (λ none. omega arith) in let g : true ≡ false = sym e ∙ f in absurd cc

  pub is_next : (a b : Source R) (taken : List Entry) (key next : List ℕ) (count : ℕ) → HasTaken left a b takes taken key count → IsAfter (eqb count 0) key next → IsNext taken next
  is_next a b taken key next count h after = rw (is_first taken count h.counted, h.last) at after

  is_after : (a b : Source R) (taken : List Entry) (key next : List ℕ) (count : ℕ) → HasTaken left a b takes taken key count → IsNext taken next → IsAfter (eqb count 0) key next
  is_after a b taken key next count h after =
      subst (λ first. IsAfter first key next) (sym (is_first taken count h.counted)) (subst (λ k. IsAfter (is_none taken) k next) (sym h.last) after)

  pub taken_more : (a b c : Source R) (taken now : List Entry) (key : List ℕ) (one : Entry) (count : ℕ) → HasTaken left a b takes taken key count →
      Reads left b c (entry_bytes key one) → IsAfter (eqb count 0) key one.key → takes one → now ≡ taken ++ one ∷ [] → HasTaken left a c takes now one.key (count + 1)
  taken_more a b c taken now key one count h read after fits is = rw is record {
    counted = let n = h.counted in omega (arith, length-append taken (one ∷ []));
    reads = rw (entries_more [] taken one, ← h.last) (reads_more left a b c (entries_bytes [] taken) (entry_bytes key one) h.reads read);
    last = sym (last_more [] taken one);
    rising = rising_more taken one h.rising (is_next a b taken key one.key count h after);
    each = each_more takes taken one h.each fits;
  }

  -- what is left of entries of which these were taken
  left_next : (a b : Source R) (taken : List Entry) (key : List ℕ) (place count : ℕ) → HasTaken left a b takes taken key place → place < count →
      (entries : List Entry) (rest : List ℕ) → length entries ≡ count → left a.input ≡ Some (entries_bytes [] entries ++ rest) →
      (one : Entry) × (more : List Entry) × (entries ≡ taken ++ one ∷ more) × (tail : List ℕ) × (left b.input ≡ Some (entry_bytes key one ++ tail))
  left_next a b taken key place count h lt entries rest len e =
      let l = left_of (left a.input) (left b.input) (entries_bytes [] taken) (entries_bytes [] entries ++ rest) h.reads.taken e in
      let n = h.counted in
      let r = next_of taken entries l.0 rest (omega arith) (sym l.2) in
      (r.0, r.1, r.2, r.3, some_is (left b.input) l.0 (entry_bytes key r.0 ++ r.3) l.1 (r.4 ∙ ap (λ k. entry_bytes k r.0 ++ r.3) (sym h.last)))

  -- no entry is there
  pub none_left : (a b : Source R) (taken : List Entry) (key : List ℕ) (place count : ℕ) → HasTaken left a b takes taken key place → place < count →
      ((next : Entry) (rest : List ℕ) → FitsEntry next → IsAfter (eqb place 0) key next.key → left b.input ≢ Some (entry_bytes key next ++ rest)) →
      (entries : List Entry) (rest : List ℕ) → length entries ≡ count → IsStorable entries → Each takes entries → left a.input ≢ Some (entries_bytes [] entries ++ rest)
  none_left a b taken key place count h lt none entries rest len stored each e =
      let r = left_next a b taken key place count h lt entries rest len e in
      let next = rising_next taken r.0 r.1 (subst IsRising r.2 stored.rising) in
      none r.0 r.3 (each_middle FitsEntry taken r.0 r.1 (subst (Each FitsEntry) r.2 stored.each)) (is_after a b taken key r.0.key place h next) r.4

  -- the entry that is there can't be taken
  pub not_taken : (a b c : Source R) (taken : List Entry) (key : List ℕ) (one : Entry) (place count : ℕ) → HasTaken left a b takes taken key place → place < count →
      Reads left b c (entry_bytes key one) → (takes one → ⊥) →
      (entries : List Entry) (rest : List ℕ) → length entries ≡ count → IsStorable entries → Each takes entries → left a.input ≢ Some (entries_bytes [] entries ++ rest)
  not_taken a b c taken key one place count h lt read bad entries rest len stored each e =
      let r = left_next a b taken key place count h lt entries rest len e in
      let same = after_entry (left b.input) (left c.input) key one r.0 r.3 read.taken r.4 in
      bad (subst takes same.0 (each_middle takes taken r.0 r.1 (subst (Each takes) r.2 each)))
