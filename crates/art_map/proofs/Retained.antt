-- What is left of a map after a closure was called on its pairs, one by one.
use Rattle.std.proofs.Common.{◌≡◌, ℕ, ◌<◌, List, [], ◌∷◌, ◌++◌, Bool, true, false, cond, filter, length, refl, ap, ap₂, sym, ◌∙◌, subst}
use Rattle.std.proofs.Common.{arith, length-append, append_assoc, append-nil, Option, Some, None, Bor}
use Rattle.std.specs.Borrow.{MutBor}
use Rattle.std.specs.Fn.{CalledAt, Mut}
use Rattle.std.specs.List.{AllByRecursion as Each}
use Rattle.art_model.specs.Prelude.{CalledOnPair, Precedes, are_same, IsMap, first_of, of_key, remove_key, with_key}
use Rattle.art_model.proofs.keys.Keys.{front_same, precedes_apart, related_sym, same_related}
use Rattle.art_model.proofs.lists.Filters.{filter_all}
use Rattle.art_model.proofs.pairs.MapLaws.{first_is_removed_by_key}
use Rattle.art_iterating.specs.MapItems.{keys_of}
use Rattle.art_map.specs.MapRetain.{AreAlikeUpTo, KeepsEach, Retains, RetainsPairs, StopsAt, TakesRefused, is_after, pairs_after, pairs_up_to}

module _ {A : Type 0} where
  -- an item that passes a filter is one of the list
  pub passed : (test : A → Bool) (pairs seen left : List A) (x : A) → filter test pairs ≡ seen ++ x ∷ left → (l : List A) × (r : List A) × (pairs ≡ l ++ x ∷ r)
  passed test [] [] left x e = absurd cc
  passed test [] (z ∷ seen) left x e = absurd cc
  passed test (y ∷ ys) seen left x e = go (test y) (passed test ys) seen e
    where
      more : (l : List A) × (r : List A) × (ys ≡ l ++ x ∷ r) → (l : List A) × (r : List A) × (y ∷ ys ≡ l ++ x ∷ r)
      more (l, r, is) = (y ∷ l, r, ap (λ zs. y ∷ zs) is)

      go : (b : Bool) → ((seen left : List A) (x : A) → filter test ys ≡ seen ++ x ∷ left → (l : List A) × (r : List A) × (ys ≡ l ++ x ∷ r)) → (seen : List A) →
          cond b (y ∷ filter test ys) (filter test ys) ≡ seen ++ x ∷ left → (l : List A) × (r : List A) × (y ∷ ys ≡ l ++ x ∷ r)
      go true ih [] e = let same : y ≡ x = cc in ([], ys, ap (λ z. z ∷ ys) same)
      go true ih (z ∷ seen) e = let rest : filter test ys ≡ seen ++ x ∷ left = cc in more (ih seen left x rest)
      go false ih seen e = more (ih seen left x e)

module _ {A : Type 0} (bytes : A → List ℕ) where
  -- the first of the pairs precedes the last ones
  precedes_last : (l r : List A) (z x : A) → IsMap bytes (z ∷ l ++ x ∷ r) → Precedes (bytes z) (bytes x)
  precedes_last [] r z x map = map.0.0
  precedes_last (y ∷ l) r z x map = precedes_last l r z x (map.0.1, map.1.1)

  other_key : (a b : List ℕ) → Precedes a b → are_same b a ≡ false
  other_key a b h = same_related b a (related_sym b a ∙ h.1)

  -- one pair has the key of a pair
  pub stored_once : (l r : List A) (x : A) → IsMap bytes (l ++ x ∷ r) → first_of (with_key bytes (bytes x) (l ++ x ∷ r)) ≡ Some x
  stored_once [] r x map = rw (front_same (bytes x)) refl
  stored_once (z ∷ l) r x map = rw (other_key (bytes z) (bytes x) (precedes_last l r z x map)) (stored_once l r x map.1)

  -- it is removed with the key
  removed_between : (l r : List A) (x : A) → IsMap bytes (l ++ x ∷ r) → remove_key bytes (bytes x) (l ++ x ∷ r) ≡ l ++ r
  removed_between [] r x map = first_is_removed_by_key bytes x r map
  removed_between (z ∷ l) r x map = rw (other_key (bytes z) (bytes x) (precedes_last l r z x map)) (ap (λ zs. z ∷ zs) (removed_between l r x map.1))

  -- those before it are not after it, and those after it are
  early_ones : (l r : List A) (x : A) → IsMap bytes (l ++ x ∷ r) → Each (λ z. is_after bytes (Some x) z ≡ false) l
  early_ones [] r x map = tt
  early_ones (z ∷ l) r x map = (rw (precedes_apart (bytes z) (bytes x) (precedes_last l r z x map)) refl, early_ones l r x map.1)

  late_ones : (l r : List A) (x : A) → IsMap bytes (l ++ x ∷ r) → Each (λ z. is_after bytes (Some x) z ≡ true) r
  late_ones [] r x map = all r map.0
    where
      all : (r : List A) → Each (λ y. Precedes (bytes x) (bytes y)) r → Each (λ z. is_after bytes (Some x) z ≡ true) r
      all [] h = tt
      all (y ∷ r) h = (rw h.0.0 refl, all r h.1)
  late_ones (z ∷ l) r x map = late_ones l r x map.1

  -- without a last pair all are left
  none_early : (pairs : List A) → Each (λ z. is_after bytes None z ≡ true) pairs
  none_early [] = tt
  none_early (x ∷ xs) = (refl, none_early xs)

  module _ (last : Option A) where
    -- so a map has the former and then the latter
    after_are : (l r : List A) → Each (λ z. is_after bytes last z ≡ false) l → Each (λ z. is_after bytes last z ≡ true) r → pairs_after bytes last (l ++ r) ≡ r
    after_are [] r early late = filter_all (is_after bytes last) r late
    after_are (z ∷ l) r early late = rw early.0 (after_are l r early.1 late)

    up_to_are : (l r : List A) → Each (λ z. is_after bytes last z ≡ false) l → Each (λ z. is_after bytes last z ≡ true) r → pairs_up_to bytes last (l ++ r) ≡ l
    up_to_are [] [] early late = refl
    up_to_are [] (x ∷ r) early late = rw late.0 (up_to_are [] r tt late.1)
    up_to_are (z ∷ l) r early late = rw early.0 (ap (λ zs. z ∷ zs) (up_to_are l r early.1 late))

module _ {K V : Type 0} (bytes : K → List ℕ) (last : Option (K × V)) where
  abbrev B : K × V → List ℕ
  B = of_key bytes

  -- pairs with the same keys are late as well
  late_alike : (r changed : List (K × V)) → Each (λ z. is_after B last z ≡ true) r → keys_of changed ≡ keys_of r → Each (λ z. is_after B last z ≡ true) changed
  late_alike r [] late same = tt
  late_alike [] (y ∷ ys) late same = absurd cc
  late_alike (x ∷ xs) (y ∷ ys) late same =
      let key : y.0 ≡ x.0 = cc in
      let others : keys_of ys ≡ keys_of xs = cc in
      (subst (λ k. is_after B last (k, y.1) ≡ true) (sym key) late.0, late_alike xs ys late.1 others)

  -- if only values of the late ones differ, the early ones are followed by the late ones
  parted : (l r changed : List (K × V)) → Each (λ z. is_after B last z ≡ false) l → Each (λ z. is_after B last z ≡ true) r →
      keys_of changed ≡ keys_of (l ++ r) →
      pairs_up_to B last changed ≡ l → changed ≡ l ++ pairs_after B last changed
  parted [] r changed early late same others = sym (filter_all (is_after B last) changed (late_alike r changed late same))
  parted (z ∷ l) r [] early late same others = absurd cc
  parted (z ∷ l) r (y ∷ ys) early late same others =
      let key : y.0 ≡ z.0 = cc in
      let keys : keys_of ys ≡ keys_of (l ++ r) = cc in
      let is_early : is_after B last y ≡ false = subst (λ k. is_after B last (k, y.1) ≡ false) (sym key) early.0 in
      let both : y ∷ pairs_up_to B last ys ≡ z ∷ l = rw is_early at others in
      let first : y ≡ z = cc in
      let more : pairs_up_to B last ys ≡ l = cc in
      rw is_early (ap₂ (λ x xs. x ∷ xs) first (parted l r ys early.1 late keys more))

module _ {F K V : Type 0} (g : Mut F (Bor K × (MutBor V × Unit {0})) (Bool × (MutBor V × Unit {0}))) where
  -- f was called on some pairs and then on others
  retains_more : (xs ys kept more : List (K × V)) (f next left : F) → RetainsPairs g f xs kept next → RetainsPairs g next ys more left →
      RetainsPairs g f (xs ++ ys) (kept ++ more) left
  retains_more [] ys kept more f next left h k = rw (h.0, h.1) k
  retains_more (x ∷ xs) ys kept more f next left (b, value, then, rest, asked, h, is) k =
      (b, value, then, rest ++ more, asked, retains_more xs ys rest more then next left h k, ap (λ zs. zs ++ more) is ∙ go b)
    where
      go : (b : Bool) → cond b ((x.0, value) ∷ rest) rest ++ more ≡ cond b ((x.0, value) ∷ rest ++ more) (rest ++ more)
      go true = refl
      go false = refl

  -- and returned true for each
  keeps_all : (f : F) (before after : List (K × V)) (left : F) → KeepsEach g f before after left → RetainsPairs g f before after left
  keeps_all f [] after left h = h
  keeps_all f (x ∷ xs) after left (value, next, rest, called, h, is) = (true, value, next, rest, called, keeps_all next xs rest left h, is)

  module _ (bytes : K → List ℕ) (began : F) (before : List (K × V)) where
    -- What holds before each step: f was called on those pairs that are not after the last one removed.
    pub record Retaining (f : F) (pairs : List (K × V)) (last : Option (K × V)) : Type 0 where
      pub seen : List (K × V)
      pub kept : List (K × V)
      pub rest : List (K × V)
      pub before_is : before ≡ seen ++ rest
      pub pairs_are : pairs ≡ kept ++ rest
      pub early : Each (λ z. is_after (of_key bytes) last z ≡ false) kept
      pub late : Each (λ z. is_after (of_key bytes) last z ≡ true) rest
      pub retains : RetainsPairs g began seen kept f

    pub begins : Retaining began before None
    begins = record {
      seen = [];
      kept = [];
      rest = before;
      before_is = refl;
      pairs_are = refl;
      early = tt;
      late = none_early (of_key bytes) before;
      retains = (refl, refl);
    }

    module _ {f : F} {pairs : List (K × V)} {last : Option (K × V)} (now : Retaining f pairs last) where
      rest_is : pairs_after (of_key bytes) last pairs ≡ now.rest
      rest_is = ap (pairs_after (of_key bytes) last) now.pairs_are ∙ after_are (of_key bytes) last now.kept now.rest now.early now.late

      -- the kept pairs stay where only values of the others change
      parts_of : (after : List (K × V)) → AreAlikeUpTo bytes last pairs after → after ≡ now.kept ++ pairs_after (of_key bytes) last after
      parts_of after alike =
          let others = alike.others ∙ ap (pairs_up_to (of_key bytes) last) now.pairs_are ∙ up_to_are (of_key bytes) last now.kept now.rest now.early now.late in
          parted bytes last now.kept now.rest after now.early now.late (alike.keys ∙ ap keys_of now.pairs_are) others

      -- f returned true for all that was left
      pub ends : (left : F) (after : List (K × V)) → TakesRefused g bytes last f pairs None left after → RetainsPairs g began before after left
      ends left after (alike, all) =
          let kept = keeps_all f now.rest (pairs_after (of_key bytes) last after) left
          (subst (λ zs. KeepsEach g f zs (pairs_after (of_key bytes) last after) left) rest_is all) in
          subst (λ zs. RetainsPairs g began before zs left) (sym (parts_of after alike))
          (subst (λ zs. RetainsPairs g began zs (now.kept ++ pairs_after (of_key bytes) last after) left) (sym now.before_is)
          (retains_more now.seen now.rest now.kept (pairs_after (of_key bytes) last after) began f left now.retains kept))

      module _ {left : F} {x : K × V} {after : List (K × V)} (taken : TakesRefused g bytes last f pairs (Some x) left after) where
        abbrev changed : List (K × V)
        changed = taken.0

        alike : AreAlikeUpTo bytes last pairs changed
        alike = taken.1.0

        stops : StopsAt g f (pairs_after (of_key bytes) last pairs) (pairs_after (of_key bytes) last changed) x left
        stops = taken.1.1

        all : before ≡ ((now.seen ++ stops.seen) ++ (x.0, stops.value) ∷ []) ++ stops.rest
        all =
            now.before_is ∙ ap (λ zs. now.seen ++ zs) (sym rest_is ∙ stops.before_is) ∙ sym (append_assoc now.seen stops.seen ((x.0, stops.value) ∷ stops.rest))
            ∙ sym (append_assoc (now.seen ++ stops.seen) ((x.0, stops.value) ∷ []) stops.rest)

        whole : changed ≡ (now.kept ++ stops.done) ++ x ∷ stops.rest
        whole = parts_of changed alike ∙ ap (λ zs. now.kept ++ zs) stops.after_is ∙ sym (append_assoc now.kept stops.done (x ∷ stops.rest))

        risen : IsMap (of_key bytes) ((now.kept ++ stops.done) ++ x ∷ stops.rest)
        risen = subst (IsMap (of_key bytes)) whole alike.sorted

        removed : after ≡ (now.kept ++ stops.done) ++ stops.rest
        removed = taken.2 ∙ ap (remove_key (of_key bytes) (bytes x.0)) whole ∙ removed_between (of_key bytes) (now.kept ++ stops.done) stops.rest x risen

        asked : RetainsPairs g began ((now.seen ++ stops.seen) ++ (x.0, stops.value) ∷ []) ((now.kept ++ stops.done) ++ []) left
        asked =
            retains_more (now.seen ++ stops.seen) ((x.0, stops.value) ∷ []) (now.kept ++ stops.done) [] began stops.next left
            (retains_more now.seen stops.seen now.kept stops.done began f stops.next now.retains (keeps_all f stops.seen stops.done stops.next stops.kept))
            (false, x.1, left, [], stops.refused, (refl, refl), refl)

        -- the pair was removed
        pub goes_on : Retaining left after (Some x)
        goes_on = record {
          seen = (now.seen ++ stops.seen) ++ (x.0, stops.value) ∷ [];
          kept = now.kept ++ stops.done;
          rest = stops.rest;
          before_is = all;
          pairs_are = removed;
          early = early_ones (of_key bytes) (now.kept ++ stops.done) stops.rest x risen;
          late = late_ones (of_key bytes) (now.kept ++ stops.done) stops.rest x risen;
          retains =
              subst (λ zs. RetainsPairs g began ((now.seen ++ stops.seen) ++ (x.0, stops.value) ∷ []) zs left)
              (append-nil (now.kept ++ stops.done)) asked;
        }

        -- and fewer are left
        pub fewer : length (pairs_after (of_key bytes) (Some x) after) < length (pairs_after (of_key bytes) last pairs)
        fewer =
            let left_is = ap (pairs_after (of_key bytes) (Some x)) removed ∙ after_are (of_key bytes) (Some x) (now.kept ++ stops.done) stops.rest
            (early_ones (of_key bytes) (now.kept ++ stops.done) stops.rest x risen) (late_ones (of_key bytes) (now.kept ++ stops.done) stops.rest x risen) in
            let less = ap length left_is in
            let more = ap length stops.before_is ∙ length-append stops.seen ((x.0, stops.value) ∷ stops.rest) in
            omega arith

-- ---- a closure that calls another one, whose state it holds

module _ {C K V : Type 0} (g : Mut C (Bor K × (MutBor V × Unit {0})) (Bool × (MutBor V × Unit {0}))) where
  -- what each call keeps true of a closure's state, all calls keep true
  pub retains_hold : (Good : C → Type 0) → ((s : C) (x : K × V) (b : Bool) (t : C) (w : V) → CalledOnPair g s x b t w → Good s → Good t) →
      (s : C) (before kept : List (K × V)) (t : C) → RetainsPairs g s before kept t → Good s → Good t
  retains_hold Good one s [] kept t h good = subst Good h.1 good
  retains_hold Good one s (x ∷ xs) kept t (b, value, next, rest, asked, h, is) good = retains_hold Good one next xs rest t h (one s x b next value asked good)

  -- which keys stay, where the other closure is called on them
  pub keys_retained : {F : Type 0} (other : Mut F (Bor K × Unit {0}) Bool) (inside : C → F) →
      ((s : C) (x : K × V) (b : Bool) (t : C) (w : V) → CalledOnPair g s x b t w → CalledAt other (inside s) x.0 b (inside t)) →
      (s : C) (before kept : List (K × V)) (t : C) → RetainsPairs g s before kept t →
      Retains (CalledAt other) (inside s) (keys_of before) (keys_of kept) (inside t)
  keys_retained other inside one s [] kept t h = (ap keys_of h.0, ap inside h.1)
  keys_retained other inside one s (x ∷ xs) kept t (b, value, next, rest, asked, h, is) =
      (b, inside next, keys_of rest, one s x b next value asked, keys_retained other inside one next xs rest t h, ap keys_of is ∙ go b)
    where
      go : (b : Bool) → keys_of (cond b ((x.0, value) ∷ rest) rest) ≡ cond b (x.0 ∷ keys_of rest) (keys_of rest)
      go true = refl
      go false = refl
