-- A text whose words are counted line by line.
use Rattle.std.proofs.Common.{◌≡◌, ◌≢◌, ℕ, ◌+◌, ◌<◌, true, false, zero, suc, List, [], ◌∷◌, ◌++◌, length, get_or, flat_map, Option, Some}
use Rattle.std.proofs.Common.{None, IfSome, OnOk, Result, Ok, Err, refl, ap, sym, ◌∙◌, subst, arith, append-nil, append_assoc, map, ◌==◌}
use Rattle.std.specs.Borrow.{Bor}
use Rattle.std.specs.Io.KnownBytes.{Appends, Keeps}
use Rattle.std.specs.List.{AllByRecursion as Each, slice_split}
use Rattle.std.specs.List as list
use Rattle.std.proofs.lemmas.Bool.{false≢true}
use Rattle.std.proofs.lemmas.List.{map-append}
use Rattle.std.proofs.lemmas.List.Concat.{flat_map-append}
use Rattle.std.proofs.lemmas.List.Elements.{filter-append}
use Rattle.art_model.proofs.lists.Lists.{Each-weaker}
use Rattle.art_operations.specs.Ended.{HasNoZero}
use Rattle.art_operations.specs.Keys.{is_before}
use Rattle.art_operations.specs.Pairs.{Pairwise}
use Rattle.text_lines.proofs.Writing.{appends_kept}
use Rattle.text_lines.specs.Lines.{lines}
use Rattle.text_programs.specs.WordCounts.{AppendsCounts, HasTimes, IsCountOf, line_of}
use Rattle.text_programs.specs.Words.{is_filled, is_gap, words}
use Rattle.text_programs.proofs.WordTexts.{IsWhole, whole_parts, words_of_lines}

filled : (word : List ℕ) → (length word == 0) ≡ false → is_filled word ≡ true
filled [] e = absurd cc
filled (byte ∷ bytes) e = refl

-- with one more part, which is filled
pub one_part_more : (before : List (List ℕ)) (ps : List (Bor (List ℕ))) (p : Bor (List ℕ)) (counts : List (List ℕ × ℕ)) → (length p.now == 0) ≡ false →
    HasTimes ((before ++ list.filter is_filled (map (λ w. w.now) ps)) ++ p.now ∷ []) counts →
    HasTimes (before ++ list.filter is_filled (map (λ w. w.now) (ps ++ p ∷ []))) counts
one_part_more before ps p counts some h =
    let parts = list.filter is_filled (map (λ w. w.now) ps) in
    let own : list.filter is_filled (p.now ∷ []) ≡ p.now ∷ [] = rw (filled p.now some) refl in
    subst (λ ws. HasTimes ws counts) (append_assoc before parts (p.now ∷ []) ∙ ap (λ ws. before ++ ws)
    (ap (λ ws. parts ++ ws) (sym own) ∙ sym (filter-append is_filled (map (λ w. w.now) ps) (p.now ∷ []))
    ∙ ap (list.filter is_filled) (sym (map-append (λ w. w.now) ps (p ∷ []))))) h

-- the words of a text are its parts that are filled
pub counted_parts : (before : List (List ℕ)) (text : List ℕ) (ps : List (List ℕ)) (counts : List (List ℕ × ℕ)) → ps ≡ slice_split is_gap text →
    HasTimes (before ++ list.filter is_filled ps) counts → HasTimes (before ++ words text) counts
counted_parts before text ps counts e h = subst (λ q. HasTimes (before ++ list.filter is_filled q) counts) e h

each_at : (P : List ℕ → Type 0) (xs : List (List ℕ)) → Each P xs → (k : ℕ) (d : List ℕ) → k < length xs → P (get_or xs k d)
each_at P [] h k d below = absurd (omega arith)
each_at P (x ∷ xs) h zero d below = h.0
each_at P (x ∷ xs) h (suc k) d below = each_at P xs h.1 k d (omega arith)

-- a part of a text has no zero
pub part_plain : (text word : List ℕ) (k : ℕ) → k < length (slice_split is_gap text) → word ≡ get_or (slice_split is_gap text) k word → HasNoZero word
part_plain text word k below is =
    Each-weaker (λ b. is_gap b ≡ false) (λ b. b ≢ 0) (λ b e z. false≢true (sym e ∙ ap is_gap z)) word
    (subst IsWhole (sym is) (each_at IsWhole (slice_split is_gap text) (whole_parts text) k word below))

-- ---- the words of lines, beside those that were counted before

-- the words of a text are counted beside others
abbrev pub AreCounted : List (List ℕ × ℕ) → List (List ℕ × ℕ) → List (List ℕ) → Type 0
AreCounted old new ws = (before : List (List ℕ)) → HasTimes before old → HasTimes (before ++ ws) new

pub none_counted : (counts : List (List ℕ × ℕ)) → AreCounted counts counts (flat_map words [])
none_counted counts before h = subst (λ ws. HasTimes ws counts) (sym (append-nil before)) h

-- with the words of one more line
pub one_line_more : (old counts others : List (List ℕ × ℕ)) (number : ℕ) (line seen : List ℕ) → seen ≡ line → AreCounted counts others (words seen) →
    (before : List (List ℕ)) → number ≡ length before + 1 →
    AreCounted old counts (flat_map words before) → AreCounted old others (flat_map words (before ++ line ∷ []))
one_line_more old counts others number line seen e more before n h earlier k =
    subst (λ ws. HasTimes ws others) (append_assoc earlier (flat_map words before) (words seen)
    ∙ ap (λ ws. earlier ++ ws) (ap (λ l. flat_map words before ++ words l) e
    ∙ sym (flat_map-append words before (line ∷ []) ∙ ap (λ ws. flat_map words before ++ ws) (append-nil (words line)))))
    (more (earlier ++ flat_map words before) (h earlier k))

pub text_counted : (text : Option (List ℕ)) (old new : List (List ℕ × ℕ)) → IfSome text (λ bs. AreCounted old new (flat_map words (lines bs))) →
    IfSome text (λ bs. AreCounted old new (words bs))
text_counted None old new h = tt
text_counted (Some bs) old new h = subst (AreCounted old new) (words_of_lines bs) h

pub count_is : (text : Option (List ℕ)) (none counts : List (List ℕ × ℕ)) → none ≡ [] → Pairwise (λ x y. is_before x.0 y.0 ≡ true) counts →
    IfSome text (λ bs. AreCounted none counts (words bs)) → IfSome text (λ bs. IsCountOf (words bs) counts)
count_is None none counts e rising h = tt
count_is (Some bs) none counts e rising h =
    record { rising = rising; numbers = h [] (subst (HasTimes []) (sym e) (record { each = λ word. refl })) }

pub reported : {E : Type 0} (counts : List (List ℕ × ℕ)) (text old now next : Option (List ℕ)) (r : Result (Unit {0}) E) →
    IfSome text (λ bs. IsCountOf (words bs) counts) →
    Appends old now (flat_map line_of counts) → Keeps now next → OnOk r (IfSome text (λ bs. AppendsCounts (words bs) old next))
reported counts text old now next (Err e) is writes stays = tt
reported counts None old now next (Ok u) is writes stays = tt
reported counts (Some bs) old now next (Ok u) is writes stays = (counts, is, appends_kept old now next _ writes stays)
