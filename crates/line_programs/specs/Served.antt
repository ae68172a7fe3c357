-- What is written in reply to the lines of an input, and about those that ask for nothing.
use Rattle.std.specs.Prelude.{◌≡◌, ◌≢◌, ◌⊎◌, ℕ, ◌+◌, Bool, true, false, List, [], ◌∷◌, ◌++◌, length, map, flat_map, Option, Some}
use Rattle.std.specs.List.{AllByRecursion as Each}
use Rattle.std.specs.Io.KnownBytes.{Appends}
use Rattle.line_programs.specs.declared.line_tables.Outcome.{Outcome}
use Rattle.line_programs.specs.declared.line_tables.Outcome.TheVariants.{Found, NotFound, Invalid}
use Rattle.line_programs.specs.declared.serving.Format.{Format}
use Rattle.line_programs.specs.declared.serving.Format.TheVariants.{Plain, Json}
use Rattle.line_programs.specs.declared.serving.Rules.{Rules}
use Rattle.text_lines.specs.Lines.{lines}
use Rattle.line_programs.specs.Json.{json_reply}
use Rattle.line_programs.specs.Messages.{message}
use Rattle.line_programs.specs.Outcomes.{worst}

-- A line with how it was answered, and its reply.
pub record Answer : Type 0 where
  pub line : List ℕ
  pub outcome : Outcome
  pub reply : List ℕ

module _ (IsReply : List ℕ → List ℕ → Type 0) (Finds AsksForNothing : List ℕ → Type 0) where
  -- a line gets its reply, and finds something or doesn't; or it asks for nothing, and gets none
  abbrev pub IsAnswerTo : List ℕ → Outcome → List ℕ → Type 0
  IsAnswerTo line Found reply = Finds line × IsReply line reply
  IsAnswerTo line NotFound reply = (¬ Finds line) × IsReply line reply
  IsAnswerTo line Invalid reply = AsksForNothing line × (reply ≡ [])

-- a reply as it is written: as it is, or as a JSON object that has the line too
abbrev pub shown : Format → List ℕ → Outcome → List ℕ → List ℕ
shown Plain line outcome reply = reply
shown Json line outcome reply = json_reply line outcome reply

-- a line got its reply, or asks for nothing
abbrev pub IsRepliedFor : (List ℕ → List ℕ → Type 0) → (List ℕ → Type 0) → (List ℕ → Type 0) → Format → List ℕ → Outcome →
    Option (List ℕ) → Option (List ℕ) → Type 0
IsRepliedFor IsReply Finds AsksForNothing format line outcome old new =
    (reply : List ℕ) × IsAnswerTo IsReply Finds AsksForNothing line outcome reply × Appends old new (shown format line outcome reply)

-- what is written about a line: a message if it is invalid
abbrev pub message_for : Rules → ℕ → List ℕ → Outcome → List ℕ
message_for rules number line Found = []
message_for rules number line NotFound = []
message_for rules number line Invalid = message rules.place number rules.fault.now line

-- a line got its reply, or a message
abbrev pub IsAnsweredFor : (List ℕ → List ℕ → Type 0) → (List ℕ → Type 0) → (List ℕ → Type 0) → Rules → ℕ → List ℕ → Outcome →
    Option (List ℕ) → Option (List ℕ) → Option (List ℕ) → Option (List ℕ) → Type 0
IsAnsweredFor IsReply Finds AsksForNothing rules number line outcome old new old_errors new_errors =
    IsRepliedFor IsReply Finds AsksForNothing rules.format line outcome old new
    × Appends old_errors new_errors (message_for rules number line outcome)

-- what is written in reply
abbrev pub shown_answer : Format → Answer → List ℕ
shown_answer format answer = shown format answer.line answer.outcome answer.reply

-- what is written about lines, of which the first has this number
abbrev pub messages : Rules → ℕ → List Answer → List ℕ
messages rules number [] = []
messages rules number (answer ∷ answers) =
    message_for rules number answer.line answer.outcome ++ messages rules (number + 1) answers

-- the last outcome is the first invalid one
abbrev pub EndsInvalid : List Outcome → Type 0
EndsInvalid outcomes =
    (before : List Outcome) × (outcomes ≡ before ++ Invalid ∷ []) × Each (λ outcome. outcome ≢ Invalid) before

-- all lines were answered; or, where an invalid line ends a strict run, those up to the first invalid one
abbrev pub IsWhole : Bool → List Outcome → List (List ℕ) → Type 0
IsWhole false outcomes left = left ≡ []
IsWhole true outcomes left = (Each (λ outcome. outcome ≢ Invalid) outcomes × (left ≡ [])) ⊎ EndsInvalid outcomes

-- Lines were answered in their order: the replies were appended to one output, and the messages to another.
pub record AreAnswered (IsReply : List ℕ → List ℕ → Type 0) (Finds AsksForNothing : List ℕ → Type 0) (rules : Rules)
    (ls : List (List ℕ)) (outcome : Outcome) (old new old_errors new_errors : Option (List ℕ)) : Type 0 where
  pub answers : List Answer
  pub left : List (List ℕ)
  pub lines_are : ls ≡ map (λ answer. answer.line) answers ++ left
  pub are : Each (λ answer. IsAnswerTo IsReply Finds AsksForNothing answer.line answer.outcome answer.reply) answers
  pub whole : IsWhole rules.is_strict (map (λ answer. answer.outcome) answers) left
  pub outcome_is : outcome ≡ worst (map (λ answer. answer.outcome) answers)
  pub written : Appends old new (flat_map (shown_answer rules.format) answers)
  pub told : Appends old_errors new_errors (messages rules 1 answers)

-- The first lines of a text were answered, none of which asks for nothing, and the rest of the text is left. They have
-- these numbers, up to the one before the next.
pub record AreFirstAnswered (IsReply : List ℕ → List ℕ → Type 0) (Finds AsksForNothing : List ℕ → Type 0) (format : Format)
    (text : List ℕ) (left : Option (List ℕ)) (number next : ℕ) (outcome : Outcome) (old new : Option (List ℕ)) : Type 0 where
  pub answers : List Answer
  pub rest : List ℕ
  pub left_is : left ≡ Some rest
  pub lines_are : lines text ≡ map (λ answer. answer.line) answers ++ lines rest
  pub are : Each (λ answer. IsAnswerTo IsReply Finds AsksForNothing answer.line answer.outcome answer.reply) answers
  pub valid : Each (λ outcome. outcome ≢ Invalid) (map (λ answer. answer.outcome) answers)
  pub next_is : next ≡ number + length answers
  pub outcome_is : outcome ≡ worst (map (λ answer. answer.outcome) answers)
  pub written : Appends old new (flat_map (shown_answer format) answers)
