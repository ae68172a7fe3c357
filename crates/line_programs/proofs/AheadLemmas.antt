-- Replies that are looked up before the first of them is written.
use Rattle.std.proofs.Common.{◌≡◌, ◌≢◌, ℕ, suc, ◌+◌, ◌-◌, ◌<◌, ◌≤◌, Bool, true, false, List, [], ◌∷◌, ◌++◌, length, drop, get_or, map, flat_map, Option, Some, None, IfSome, refl, ap, sym, ◌∙◌, subst, arith, append-nil, append_assoc, length-append}
use Rattle.std.specs.Prelude.{◌↔◌}
use Rattle.std.specs.Io.KnownBytes.{Appends}
use Rattle.std.specs.List.{AllByRecursion as Each}
use Rattle.std.proofs.lemmas.List.{drop_more, map-append, length-map}
use Rattle.std.proofs.lemmas.List.Concat.{flat_map-append}
use Rattle.text_lines.specs.Lines.{EndsWith, lines}
use Rattle.text_lines.proofs.Reading.{IsReadTo}
use Rattle.text_lines.proofs.Writing.{appends_more, appends_none}
use Rattle.line_programs.specs.declared.line_tables.Outcome.{Outcome}
use Rattle.line_programs.specs.declared.line_tables.Outcome.TheVariants.{Found, NotFound, Invalid}
use Rattle.line_programs.specs.declared.line_tables.Reply.{Reply}
use Rattle.line_programs.specs.declared.serving.Format.{Format}
use Rattle.line_programs.specs.declared.serving.Format.TheVariants.{Plain}
use Rattle.line_programs.specs.declared.serving.Rules.{Rules}
use Rattle.line_programs.specs.LineTables.{AreLookedUp, IsLookedUp}
use Rattle.line_programs.specs.Gathered.{AreGathered, AreLinesBefore, reply_line}
use Rattle.line_programs.specs.Outcomes.{outcome_of, worse, worst}
use Rattle.line_programs.specs.Served.{Answer, AreFirstAnswered, IsAnswerTo, message_for, messages, shown_answer}
use Rattle.line_programs.proofs.ServeLemmas.{AreAnsweredSoFar, each-append, outcomes, worst_of_both, worst_of_more}

-- ---- bytes

-- what is left of a text, by how many bytes are before it
pub left_of : (text left : List ℕ) → EndsWith text left → drop (length text - length left) text ≡ left
left_of text left (before, e) = go before text e
  where
    go : (before text : List ℕ) → text ≡ before ++ left → drop (length text - length left) text ≡ left
    go [] text e =
        let none : length text - length left ≡ 0 = (let l = ap length e in omega arith) in
        ap (λ n. drop n text) none ∙ e
    go (b ∷ before) [] e = absurd cc
    go (b ∷ before) (x ∷ xs) e =
        let rest : xs ≡ before ++ left = cc in
        let l = ap length rest ∙ length-append before left in
        let more : length (x ∷ xs) - length left ≡ suc (length xs - length left) = omega arith in
        ap (λ n. drop n (x ∷ xs)) more ∙ go before xs rest

pub is_shorter : (text left : List ℕ) → EndsWith text left → length left ≤ length text
is_shorter text left (before, e) = let l = ap length e ∙ length-append before left in omega arith

pub ends_more : (text left rest : List ℕ) → EndsWith text left → EndsWith left rest → EndsWith text rest
ends_more text left rest (before, e) (more, k) = (before ++ more, e ∙ ap (λ bs. before ++ bs) k ∙ sym (append_assoc before more rest))

-- ---- replies

valid_of : (t : Bool) → outcome_of t ≢ Invalid
valid_of true e = absurd cc
valid_of false e = absurd cc

-- The answers to these lines are these replies.
record AreAnswersTo (IsReply : List ℕ → List ℕ → Type 0) (Finds AsksForNothing : List ℕ → Type 0) (ls : List (List ℕ)) (replies : List Reply) : Type 0 where
  answers : List Answer
  lines_are : map (λ answer. answer.line) answers ≡ ls
  are : Each (λ answer. IsAnswerTo IsReply Finds AsksForNothing answer.line answer.outcome answer.reply) answers
  valid : Each (λ outcome. outcome ≢ Invalid) (outcomes answers)
  outcomes_are : outcomes answers ≡ map (λ reply. outcome_of reply.is_found) replies
  written : flat_map (shown_answer Plain) answers ≡ flat_map reply_line replies
  many : length answers ≡ length ls

module _ (IsReply : List ℕ → List ℕ → Type 0) (Finds AsksForNothing : List ℕ → Type 0) where
  -- a reply that was looked up answers its line
  answer_of : (line : List ℕ) (reply : Reply) → IsLookedUp IsReply Finds line reply →
      IsAnswerTo IsReply Finds AsksForNothing line (outcome_of reply.is_found) (reply_line reply)
  answer_of line reply h = go reply.is_found h.1
    where
      go : (t : Bool) → (t ≡ true) ↔ Finds line → IsAnswerTo IsReply Finds AsksForNothing line (outcome_of t) (reply_line reply)
      go true found = (found.0 refl, h.0)
      go false found = ((λ finds. absurd (let e = found.1 finds in cc)), h.0)

  answers_to : (ls more : List (List ℕ)) (replies others : List Reply) → length ls ≡ length replies →
      AreLookedUp IsReply Finds (replies ++ others) (ls ++ more) → AreAnswersTo IsReply Finds AsksForNothing ls replies
  answers_to [] more [] others e h = record {
    answers = [];
    lines_are = refl;
    are = tt;
    valid = tt;
    outcomes_are = refl;
    written = refl;
    many = refl;
  }
  answers_to [] more (reply ∷ replies) others e h = absurd (omega (arith, e))
  answers_to (line ∷ ls) more [] others e h = absurd (omega (arith, e))
  answers_to (line ∷ ls) more (reply ∷ replies) others e h =
      let rest = answers_to ls more replies others (omega (arith, e)) h.1 in
      record {
        answers = record { line = line; outcome = outcome_of reply.is_found; reply = reply_line reply } ∷ rest.answers;
        lines_are = ap (λ xs. line ∷ xs) rest.lines_are;
        are = (answer_of line reply h.0, rest.are);
        valid = (valid_of reply.is_found, rest.valid);
        outcomes_are = ap (λ xs. outcome_of reply.is_found ∷ xs) rest.outcomes_are;
        written = ap (λ bs. reply_line reply ++ bs) rest.written;
        many = let m = rest.many in omega arith;
      }

  -- before any line is answered
  none_first : (format : Format) (text : List ℕ) (number : ℕ) (old : Option (List ℕ)) →
      AreFirstAnswered IsReply Finds AsksForNothing format text (Some text) number number Found old old
  none_first format text number old = record {
    answers = [];
    rest = text;
    left_is = refl;
    lines_are = refl;
    are = tt;
    valid = tt;
    next_is = omega arith;
    outcome_is = refl;
    written = appends_none old;
  }

  pub none_ahead : (format : Format) (text : List ℕ) (number used next : ℕ) (outcome : Outcome) (old : Option (List ℕ)) → used ≡ 0 → next ≡ number →
      outcome ≡ Found → (more : List ℕ) →
      AreFirstAnswered IsReply Finds AsksForNothing format (text ++ more) (Some (drop used text ++ more)) number next outcome old old
  none_ahead format text number used next outcome old u n o more =
      let Answered : ℕ → ℕ → Outcome → Type 0 = λ used next outcome.
      AreFirstAnswered IsReply Finds AsksForNothing format (text ++ more) (Some (drop used text ++ more)) number next outcome old old in
      subst (λ used. Answered used next outcome) (sym u)
      (subst (λ next. Answered 0 next outcome) (sym n) (subst (Answered 0 number) (sym o) (none_first format (text ++ more) number old)))

  -- once what was gathered is written
  pub gathered_first : (replies others : List Reply) (count number : ℕ) (outcome : Outcome) (bytes text left : List ℕ) (old new : Option (List ℕ)) →
      AreLookedUp IsReply Finds replies (lines text) → AreGathered replies others count outcome bytes → AreLinesBefore count text left →
      Appends old new bytes → AreFirstAnswered IsReply Finds AsksForNothing Plain text (Some left) number (number + count) outcome old new
  gathered_first replies others count number outcome bytes text left old new known gathered before written =
      let m = gathered.many in
      let n = before.many in
      let a = answers_to before.before (lines left) gathered.first others (omega arith)
      (subst (λ rs. AreLookedUp IsReply Finds rs (before.before ++ lines left)) gathered.replies_are
      (subst (AreLookedUp IsReply Finds replies) before.lines_are known)) in
      record {
        answers = a.answers;
        rest = left;
        left_is = refl;
        lines_are = before.lines_are ∙ ap (λ ls. ls ++ lines left) (sym a.lines_are);
        are = a.are;
        valid = a.valid;
        next_is = let k = a.many in omega arith;
        outcome_is = gathered.outcome_is ∙ ap worst (sym a.outcomes_are);
        written = subst (Appends old new) (gathered.bytes_are ∙ sym a.written) written;
      }

-- ---- gathering

pub none_gathered : (replies : List Reply) (bytes : List ℕ) → bytes ≡ [] → AreGathered replies replies 0 Found bytes
none_gathered replies bytes e = record { first = []; replies_are = refl; many = refl; bytes_are = e; outcome_is = refl }

-- one more reply
pub one_more_gathered : (replies : List Reply) (index count : ℕ) (default reply : Reply) (worst_of outcome worst_now : Outcome) (bytes next : List ℕ) →
    index < length replies → reply ≡ get_or replies index default → AreGathered replies (drop index replies) count worst_of bytes →
    next ≡ bytes ++ reply_line reply → outcome ≡ outcome_of reply.is_found → worst_now ≡ worse worst_of outcome →
    AreGathered replies (drop (index + 1) replies) (count + 1) worst_now next
one_more_gathered replies index count default reply worst_of outcome worst_now bytes next below is h e o w =
    let left = drop_more replies index default below ∙ ap (λ r. r ∷ drop (index + 1) replies) (sym is) in
    record {
      first = h.first ++ reply ∷ [];
      replies_are = h.replies_are ∙ ap (λ rs. h.first ++ rs) left ∙ sym (append_assoc h.first (reply ∷ []) (drop (index + 1) replies));
      many = let m = h.many in let l = length-append h.first (reply ∷ []) in omega arith;
      bytes_are = e ∙ ap (λ bs. bs ++ reply_line reply) h.bytes_are
          ∙ ap (λ bs. flat_map reply_line h.first ++ bs) (sym (append-nil (reply_line reply)))
          ∙ sym (flat_map-append reply_line h.first (reply ∷ []));
      outcome_is = w ∙ ap (λ v. worse v outcome) h.outcome_is ∙ ap (worse (worst (map (λ reply. outcome_of reply.is_found) h.first))) o
          ∙ sym (worst_of_more (map (λ reply. outcome_of reply.is_found) h.first) (outcome_of reply.is_found))
          ∙ sym (ap worst (map-append (λ reply. outcome_of reply.is_found) h.first (reply ∷ [])));
    }

-- ---- the lines that are passed

pub none_before : (text : List ℕ) → AreLinesBefore 0 text text
none_before text = record { before = []; lines_are = refl; many = refl }

pub one_more_before : (count : ℕ) (text left rest line : List ℕ) → AreLinesBefore count text left → lines left ≡ line ∷ lines rest →
    AreLinesBefore (count + 1) text rest
one_more_before count text left rest line h first = record {
  before = h.before ++ line ∷ [];
  lines_are = h.lines_are ∙ ap (λ ls. h.before ++ ls) first ∙ sym (append_assoc h.before (line ∷ []) (lines rest));
  many = let m = h.many in let l = length-append h.before (line ∷ []) in omega arith;
}

-- ---- with what was answered before

-- lines that ask for something get no message
no_messages : (rules : Rules) (number : ℕ) (answers : List Answer) → Each (λ outcome. outcome ≢ Invalid) (outcomes answers) →
    messages rules number answers ≡ []
no_messages rules number [] h = refl
no_messages rules number (a ∷ answers) h =
    ap (λ bs. bs ++ messages rules (number + 1) answers) (go a.outcome h.0) ∙ no_messages rules (number + 1) answers h.1
  where
    go : (outcome : Outcome) → outcome ≢ Invalid → message_for rules number a.line outcome ≡ []
    go Found valid = refl
    go NotFound valid = refl
    go Invalid valid = absurd (valid refl)

messages_of_both : (rules : Rules) (number : ℕ) (answers more : List Answer) → Each (λ outcome. outcome ≢ Invalid) (outcomes more) →
    messages rules number (answers ++ more) ≡ messages rules number answers
messages_of_both rules number [] more h = no_messages rules number more h
messages_of_both rules number (a ∷ answers) more h =
    ap (λ bs. message_for rules number a.line a.outcome ++ bs) (messages_of_both rules (number + 1) answers more h)

module _ (IsReply : List ℕ → List ℕ → Type 0) (Finds AsksForNothing : List ℕ → Type 0) (rules : Rules) where
  more_so_far : (worst_of outcome worst_now : Outcome) (old now new old_errors errors : Option (List ℕ)) (before : List (List ℕ))
      (text : List ℕ) (left : Option (List ℕ)) (number next : ℕ) →
      AreAnsweredSoFar IsReply Finds AsksForNothing rules worst_of old now old_errors errors before →
      (a : AreFirstAnswered IsReply Finds AsksForNothing rules.format text left number next outcome now new) → worst_now ≡ worse worst_of outcome →
      AreAnsweredSoFar IsReply Finds AsksForNothing rules worst_now old new old_errors errors (before ++ map (λ answer. answer.line) a.answers)
  more_so_far worst_of outcome worst_now old now new old_errors errors before text left number next h a e =
      let outcomes_then = map-append (λ answer. answer.outcome) h.answers a.answers in
      record {
        answers = h.answers ++ a.answers;
        lines_are = ap (λ ls. ls ++ map (λ answer. answer.line) a.answers) h.lines_are ∙ sym (map-append (λ answer. answer.line) h.answers a.answers);
        are = each-append _ h.answers a.answers h.are a.are;
        goes_on = λ strict. subst (Each (λ outcome. outcome ≢ Invalid)) (sym outcomes_then)
            (each-append (λ outcome. outcome ≢ Invalid) (outcomes h.answers) (outcomes a.answers) (h.goes_on strict) a.valid);
        outcome_is = e ∙ ap (λ w. worse w outcome) h.outcome_is ∙ ap (worse (worst (outcomes h.answers))) a.outcome_is
            ∙ sym (worst_of_both (outcomes h.answers) (outcomes a.answers)) ∙ sym (ap worst outcomes_then);
        written = subst (Appends old new) (sym (flat_map-append (shown_answer rules.format) h.answers a.answers))
            (appends_more old now new _ _ h.written a.written);
        told = subst (Appends old_errors errors) (sym (messages_of_both rules 1 h.answers a.answers a.valid)) h.told;
      }

  -- after the lines that were answered ahead
  pub goes_ahead : (text left others : Option (List ℕ)) (number next : ℕ) (worst_of outcome worst_now : Outcome) (old now new old_errors errors : Option (List ℕ)) →
      IfSome text (λ bs. IsReadTo (AreAnsweredSoFar IsReply Finds AsksForNothing rules worst_of old now old_errors errors) bs left number) →
      IfSome left (λ bs. AreFirstAnswered IsReply Finds AsksForNothing rules.format bs others number next outcome now new) →
      worst_now ≡ worse worst_of outcome →
      IfSome text (λ bs. IsReadTo (AreAnsweredSoFar IsReply Finds AsksForNothing rules worst_now old new old_errors errors) bs others next)
  goes_ahead None left others number next worst_of outcome worst_now old now new old_errors errors h first e = tt
  goes_ahead (Some bs) left others number next worst_of outcome worst_now old now new old_errors errors h first e =
      let a : AreFirstAnswered IsReply Finds AsksForNothing rules.format h.rest others number next outcome now new =
      subst (λ (o : Option (List ℕ)). IfSome o (λ bs. AreFirstAnswered IsReply Finds AsksForNothing rules.format bs others number next outcome now new)) h.left_is first in
      record {
        before = h.before ++ map (λ answer. answer.line) a.answers;
        rest = a.rest;
        left_is = a.left_is;
        parts_are = h.parts_are ∙ ap (λ ls. h.before ++ ls) a.lines_are
            ∙ sym (append_assoc h.before (map (λ answer. answer.line) a.answers) (lines a.rest));
        number_is =
            let n = h.number_is in let m = a.next_is in let l = length-append h.before (map (λ answer. answer.line) a.answers) in
            let k = length-map a.answers (λ answer. answer.line) in omega arith;
        holds = more_so_far worst_of outcome worst_now old now new old_errors errors h.before h.rest others number next h.holds a e;
      }
