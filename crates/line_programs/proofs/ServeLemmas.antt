-- Lines that are answered one after another.
use Rattle.std.proofs.Common.{◌≡◌, ◌≢◌, ℕ, zero, suc, ◌+◌, ◌<◌, take, drop, slice_index_or, Bor, Bool, true, false, List, [], ◌∷◌, ◌++◌, length, map, flat_map, Option, Some, None, IfSome, refl, ap, sym, ◌∙◌, subst, arith, append-nil, append_assoc, inl, inr}
use Rattle.std.specs.List.{AllByRecursion as Each}
use Rattle.std.specs.Io.KnownBytes.{Appends, Keeps}
use Rattle.std.proofs.lemmas.List.{map-append, length-map}
use Rattle.std.proofs.lemmas.List.Concat.{flat_map-append}
use Rattle.text_lines.specs.Lines.{lines}
use Rattle.text_lines.proofs.Writing.{appends_kept, appends_more, appends_none}
use Rattle.line_programs.specs.declared.line_tables.Outcome.{Outcome}
use Rattle.line_programs.specs.declared.line_tables.Outcome.TheVariants.{Found, NotFound, Invalid}
use Rattle.line_programs.specs.declared.serving.Rules.{Rules}
use Rattle.line_programs.specs.Outcomes.{worse, worst}
use Rattle.line_programs.specs.Served.{Answer, AreAnswered, IsAnsweredFor, IsAnswerTo, IsWhole, message_for, messages, shown_answer}

-- ---- the worst outcome

worse_of_three : (a b c : Outcome) → worse (worse a b) c ≡ worse a (worse b c)
worse_of_three Found b c = refl
worse_of_three Invalid b c = refl
worse_of_three NotFound Found c = refl
worse_of_three NotFound NotFound Found = refl
worse_of_three NotFound NotFound NotFound = refl
worse_of_three NotFound NotFound Invalid = refl
worse_of_three NotFound Invalid c = refl

worse_than_found : (a : Outcome) → worse a Found ≡ a
worse_than_found Found = refl
worse_than_found NotFound = refl
worse_than_found Invalid = refl

pub worst_of_more : (outcomes : List Outcome) (last : Outcome) → worst (outcomes ++ last ∷ []) ≡ worse (worst outcomes) last
worst_of_more [] last = worse_than_found last
worst_of_more (o ∷ os) last = ap (worse o) (worst_of_more os last) ∙ sym (worse_of_three o (worst os) last)

pub worst_of_both : (outcomes more : List Outcome) → worst (outcomes ++ more) ≡ worse (worst outcomes) (worst more)
worst_of_both [] more = refl
worst_of_both (o ∷ os) more = ap (worse o) (worst_of_both os more) ∙ sym (worse_of_three o (worst os) (worst more))

-- ---- messages

messages_of_more : (rules : Rules) (number : ℕ) (answers : List Answer) (last : Answer) →
    messages rules number (answers ++ last ∷ []) ≡ messages rules number answers ++ message_for rules (number + length answers) last.line last.outcome
messages_of_more rules number [] last =
    let k : number ≡ number + 0 = omega arith in
    append-nil (message_for rules number last.line last.outcome) ∙ ap (λ n. message_for rules n last.line last.outcome) k
messages_of_more rules number (a ∷ rest) last =
    let k : number + 1 + length rest ≡ number + length (a ∷ rest) = omega arith in
    ap (λ bs. message_for rules number a.line a.outcome ++ bs) (messages_of_more rules (number + 1) rest last
    ∙ ap (λ n. messages rules (number + 1) rest ++ message_for rules n last.line last.outcome) k)
    ∙ sym (append_assoc (message_for rules number a.line a.outcome) (messages rules (number + 1) rest) _)

-- ---- lines that are answered

pub each-append : {A : Type 0} (P : A → Type 0) (xs ys : List A) → Each P xs → Each P ys → Each P (xs ++ ys)
each-append P [] ys h k = k
each-append P (x ∷ xs) ys h k = (h.0, each-append P xs ys h.1 k)

abbrev pub outcomes : List Answer → List Outcome
outcomes = map (λ answer. answer.outcome)

module _ (IsReply : List ℕ → List ℕ → Type 0) (Finds AsksForNothing : List ℕ → Type 0) (rules : Rules) where
  -- These lines were all answered, and none of them ends a strict run.
  pub record AreAnsweredSoFar (outcome : Outcome) (old new old_errors new_errors : Option (List ℕ)) (ls : List (List ℕ)) : Type 0 where
    pub answers : List Answer
    pub lines_are : ls ≡ map (λ answer. answer.line) answers
    pub are : Each (λ answer. IsAnswerTo IsReply Finds AsksForNothing answer.line answer.outcome answer.reply) answers
    pub goes_on : rules.is_strict ≡ true → Each (λ outcome. outcome ≢ Invalid) (outcomes answers)
    pub outcome_is : outcome ≡ worst (outcomes answers)
    pub written : Appends old new (flat_map (shown_answer rules.format) answers)
    pub told : Appends old_errors new_errors (messages rules 1 answers)

  pub none_so_far : (old old_errors : Option (List ℕ)) → AreAnsweredSoFar Found old old old_errors old_errors []
  none_so_far old old_errors = record {
    answers = [];
    lines_are = refl;
    are = tt;
    goes_on = λ strict. tt;
    outcome_is = refl;
    written = appends_none old;
    told = appends_none old_errors;
  }

  -- and what is written of one more line
  module _ (worst_of : Outcome) (old now old_errors now_errors : Option (List ℕ)) (before : List (List ℕ))
      (h : AreAnsweredSoFar worst_of old now old_errors now_errors before)
      (number : ℕ) (number_is : number ≡ length before + 1) (line seen : List ℕ) (same : seen ≡ line)
      (outcome : Outcome) (new new_errors : Option (List ℕ))
      (answered_as : IsAnsweredFor IsReply Finds AsksForNothing rules number seen outcome now new now_errors new_errors) where
    answered : IsAnsweredFor IsReply Finds AsksForNothing rules number line outcome now new now_errors new_errors
    answered = subst (λ l. IsAnsweredFor IsReply Finds AsksForNothing rules number l outcome now new now_errors new_errors) same answered_as

    abbrev Last : Answer
    Last = record { line = line; outcome = outcome; reply = answered.0.0 }

    place_is : number ≡ 1 + length h.answers
    place_is = let l = ap length h.lines_are ∙ length-map h.answers (λ answer. answer.line) in omega arith

    lines_then : before ++ line ∷ [] ≡ map (λ answer. answer.line) (h.answers ++ Last ∷ [])
    lines_then = ap (λ ls. ls ++ line ∷ []) h.lines_are ∙ sym (map-append (λ answer. answer.line) h.answers (Last ∷ []))

    are_then : Each (λ answer. IsAnswerTo IsReply Finds AsksForNothing answer.line answer.outcome answer.reply) (h.answers ++ Last ∷ [])
    are_then = each-append _ h.answers (Last ∷ []) h.are (answered.0.1, tt)

    outcomes_then : outcomes (h.answers ++ Last ∷ []) ≡ outcomes h.answers ++ outcome ∷ []
    outcomes_then = map-append (λ answer. answer.outcome) h.answers (Last ∷ [])

    worst_then : (worst_now : Outcome) → worst_now ≡ worse worst_of outcome → worst_now ≡ worst (outcomes (h.answers ++ Last ∷ []))
    worst_then worst_now e =
        e ∙ ap (λ o. worse o outcome) h.outcome_is ∙ sym (worst_of_more (outcomes h.answers) outcome) ∙ sym (ap worst outcomes_then)

    written_then : Appends old new (flat_map (shown_answer rules.format) (h.answers ++ Last ∷ []))
    written_then =
        subst (Appends old new)
        (sym (flat_map-append (shown_answer rules.format) h.answers (Last ∷ [])
        ∙ ap (λ bs. flat_map (shown_answer rules.format) h.answers ++ bs) (append-nil (shown_answer rules.format Last))))
        (appends_more old now new _ _ h.written answered.0.2)

    told_then : Appends old_errors new_errors (messages rules 1 (h.answers ++ Last ∷ []))
    told_then =
        subst (Appends old_errors new_errors)
        (sym (messages_of_more rules 1 h.answers Last ∙ ap (λ n. messages rules 1 h.answers ++ message_for rules n line outcome) (sym place_is)))
        (appends_more old_errors now_errors new_errors _ _ h.told answered.1)

    pub one_more : (worst_now : Outcome) (kept : Option (List ℕ)) → worst_now ≡ worse worst_of outcome → Keeps new kept →
        (rules.is_strict ≡ true → outcome ≢ Invalid) →
        AreAnsweredSoFar worst_now old kept old_errors new_errors (before ++ line ∷ [])
    one_more worst_now kept e keeps sound = record {
      answers = h.answers ++ Last ∷ [];
      lines_are = lines_then;
      are = are_then;
      goes_on = λ strict. subst (Each (λ outcome. outcome ≢ Invalid)) (sym outcomes_then)
          (each-append (λ outcome. outcome ≢ Invalid) (outcomes h.answers) (outcome ∷ []) (h.goes_on strict) (sound strict, tt));
      outcome_is = worst_then worst_now e;
      written = appends_kept old new kept _ written_then keeps;
      told = told_then;
    }

    -- a line that ends a strict run
    pub the_last : (worst_now : Outcome) (after : List (List ℕ)) → worst_now ≡ worse worst_of outcome → rules.is_strict ≡ true → outcome ≡ Invalid →
        AreAnswered IsReply Finds AsksForNothing rules (before ++ line ∷ after) worst_now old new old_errors new_errors
    the_last worst_now after e strict invalid = record {
      answers = h.answers ++ Last ∷ [];
      left = after;
      lines_are = sym (append_assoc before (line ∷ []) after) ∙ ap (λ ls. ls ++ after) lines_then;
      are = are_then;
      whole = subst (λ t. IsWhole t (outcomes (h.answers ++ Last ∷ [])) after) (sym strict)
          (inr (outcomes h.answers, outcomes_then ∙ ap (λ o. outcomes h.answers ++ o ∷ []) invalid, h.goes_on strict));
      outcome_is = worst_then worst_now e;
      written = written_then;
      told = told_then;
    }

  -- after the last line
  pub all_answered : (outcome : Outcome) (old new old_errors new_errors : Option (List ℕ)) (ls : List (List ℕ)) →
      AreAnsweredSoFar outcome old new old_errors new_errors ls →
      AreAnswered IsReply Finds AsksForNothing rules ls outcome old new old_errors new_errors
  all_answered outcome old new old_errors new_errors ls h = record {
    answers = h.answers;
    left = [];
    lines_are = h.lines_are ∙ sym (append-nil (map (λ answer. answer.line) h.answers));
    are = h.are;
    whole = go rules.is_strict h.goes_on;
    outcome_is = h.outcome_is;
    written = h.written;
    told = h.told;
  }
    where
      go : (strict : Bool) → (strict ≡ true → Each (λ outcome. outcome ≢ Invalid) (outcomes h.answers)) → IsWhole strict (outcomes h.answers) []
      go false sound = refl
      go true sound = inl (sound refl, refl)

  -- what was answered stays so while what was written stays
  pub still_answered : (text : Option (List ℕ)) (outcome : Outcome) (old now new old_errors now_errors new_errors : Option (List ℕ)) →
      IfSome text (λ bs. AreAnswered IsReply Finds AsksForNothing rules (lines bs) outcome old now old_errors now_errors) →
      Keeps now new → Keeps now_errors new_errors →
      IfSome text (λ bs. AreAnswered IsReply Finds AsksForNothing rules (lines bs) outcome old new old_errors new_errors)
  still_answered None outcome old now new old_errors now_errors new_errors h keeps keeps_errors = tt
  still_answered (Some bs) outcome old now new old_errors now_errors new_errors h keeps keeps_errors = record {
    answers = h.answers;
    left = h.left;
    lines_are = h.lines_are;
    are = h.are;
    whole = h.whole;
    outcome_is = h.outcome_is;
    written = appends_kept old now new _ h.written keeps;
    told = appends_kept old_errors now_errors new_errors _ h.told keeps_errors;
  }

-- ---- words

abbrev texts : List (Bor (List ℕ)) → List (List ℕ)
texts = map (λ word. word.now)

pub words_before : (words : List (Bor (List ℕ))) (i : ℕ) → i < length words → length (take i (texts words)) ≡ i
words_before [] i less = absurd (omega arith)
words_before (w ∷ words) zero less = refl
words_before (w ∷ words) (suc i) less = ap suc (words_before words i (omega arith))

-- the words before one, that word, and those after it
pub words_around : (words : List (Bor (List ℕ))) (i : ℕ) (none : Bor (List ℕ)) → i < length words →
    texts words ≡ take i (texts words) ++ (slice_index_or words i none).now ∷ drop (suc i) (texts words)
words_around [] i none less = absurd (omega arith)
words_around (w ∷ words) zero none less = refl
words_around (w ∷ words) (suc i) none less = ap (λ ls. w.now ∷ ls) (words_around words i none (omega arith))

-- one more word
up_to : (words : List (Bor (List ℕ))) (i : ℕ) (none : Bor (List ℕ)) → i < length words →
    take (suc i) (texts words) ≡ take i (texts words) ++ (slice_index_or words i none).now ∷ []
up_to [] i none less = absurd (omega arith)
up_to (w ∷ words) zero none less = refl
up_to (w ∷ words) (suc i) none less = ap (λ ls. w.now ∷ ls) (up_to words i none (omega arith))

pub words_to : (words : List (Bor (List ℕ))) (i : ℕ) (none : Bor (List ℕ)) → i < length words →
    take (i + 1) (texts words) ≡ take i (texts words) ++ (slice_index_or words i none).now ∷ []
words_to words i none less = let k : i + 1 ≡ suc i = omega arith in ap (λ n. take n (texts words)) k ∙ up_to words i none less
