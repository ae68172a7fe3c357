-- Strings that are written a part at a time, and the lines of replies.
use Rattle.std.proofs.Common.{◌≡◌, ◌≢◌, ℕ, ◌<◌, Bool, true, false, cond, eqb, List, [], ◌∷◌, ◌++◌, length, flat_map, codes, Option, Result, Ok, Err, refl, ap, sym, ◌∙◌, subst, arith, append-nil}
use Rattle.std.specs.List.{All, onto_first, slice_split}
use Rattle.std.specs.Io.KnownBytes.{Appends}
use Rattle.std.specs.Result.{MatchResult, is_ok}
use Rattle.std.specs.Str.{IsUtf8, is_utf8}
use Rattle.std.proofs.lemmas.Bool.{ne_eqb}
use Rattle.std.proofs.lemmas.List.Concat.{flat_map-append}
use Rattle.std.proofs.lemmas.List.Elements.{All-head, All-tail}
use Rattle.std.proofs.lemmas.List.Splits.{slice_split_at, slice_split_none}
use Rattle.std.proofs.lemmas.Str.{IsUtf8-from_is_utf8, is_utf8-from_IsUtf8}
use Rattle.text_lines.proofs.Writing.{appends_more}
use Rattle.line_programs.specs.Json.{comma_before, ended_parts, escape, is_plain, json_string, json_strings, reply_lines, string_byte}

-- ---- what is left to be written

-- once these bytes are written, all are
abbrev pub IsLeft : Option (List ℕ) → Option (List ℕ) → List ℕ → List ℕ → Type 0
IsLeft old now all left = (new : Option (List ℕ)) → Appends now new left → Appends old new all

-- two parts of them were written
pub left_goes_on : (old now next then : Option (List ℕ)) (all left first second others : List ℕ) → IsLeft old now all left →
    left ≡ first ++ (second ++ others) → Appends now next first → Appends next then second → IsLeft old then all others
left_goes_on old now next then all left first second others h e a b = λ new k.
    h new (subst (Appends now new) (sym e) (appends_more now next new first (second ++ others) a (appends_more next then new second others b k)))

-- ---- bytes

-- whether bytes are read as UTF-8
pub utf8_is : {A E : Type 0} {P : A → Type 0} {Q : E → Type 0} (bytes : List ℕ) (r : Result A E) → MatchResult r P Q →
    ((s : A) → P s → IsUtf8 bytes) → ((e : E) → Q e → IsUtf8 bytes → ⊥) → is_ok r ≡ is_utf8 bytes
utf8_is bytes (Ok s) h is_read is_refused = sym (is_utf8-from_IsUtf8 bytes (is_read s h))
utf8_is bytes (Err e) h is_read is_refused = go (is_utf8 bytes) refl
  where
    go : (t : Bool) → is_utf8 bytes ≡ t → false ≡ t
    go true is = absurd (is_refused e h (IsUtf8-from_is_utf8 bytes is))
    go false is = refl

pub plain_stays : (in_utf8 : Bool) (bytes : List ℕ) → All (λ byte. is_plain in_utf8 byte ≡ true) bytes → flat_map (string_byte in_utf8) bytes ≡ bytes
plain_stays in_utf8 [] h = refl
plain_stays in_utf8 (b ∷ bytes) h =
    ap (λ t. cond t (b ∷ []) (escape b) ++ flat_map (string_byte in_utf8) bytes) (All-head (λ byte. is_plain in_utf8 byte ≡ true) b bytes h)
    ∙ ap (λ bs. b ∷ bs) (plain_stays in_utf8 bytes (All-tail (λ byte. is_plain in_utf8 byte ≡ true) b bytes h))

-- bytes with an escape among them
pub escaped : (in_utf8 : Bool) (bytes plain : List ℕ) (byte : ℕ) (others : List ℕ) → bytes ≡ plain ++ byte ∷ others →
    All (λ b. is_plain in_utf8 b ≡ true) plain → is_plain in_utf8 byte ≡ false →
    flat_map (string_byte in_utf8) bytes ≡ plain ++ (escape byte ++ flat_map (string_byte in_utf8) others)
escaped in_utf8 bytes plain byte others e h is =
    ap (flat_map (string_byte in_utf8)) e ∙ flat_map-append (string_byte in_utf8) plain (byte ∷ others)
    ∙ ap (λ bs. bs ++ flat_map (string_byte in_utf8) (byte ∷ others)) (plain_stays in_utf8 plain h)
    ∙ ap (λ t. plain ++ (cond t (byte ∷ []) (escape byte) ++ flat_map (string_byte in_utf8) others)) is

-- ---- lines

abbrev parts : List ℕ → List (List ℕ)
parts = slice_split (λ b. eqb b 10)

none_ends : (bs : List ℕ) → All (λ b. b ≢ 10) bs → All (λ b. eqb b 10 ≡ false) bs
none_ends bs h = λ k none less. ne_eqb _ 10 (h k none less)

first_stays : (line bs : List ℕ) → ended_parts (line ∷ parts bs) ≡ line ∷ ended_parts (parts bs)
first_stays line [] = refl
first_stays line (b ∷ bs) = go (eqb b 10) (parts bs)
  where
    go : (t : Bool) (ps : List (List ℕ)) → ended_parts (line ∷ cond t ([] ∷ ps) (onto_first b ps)) ≡ line ∷ ended_parts (cond t ([] ∷ ps) (onto_first b ps))
    go true ps = refl
    go false [] = refl
    go false (p ∷ ps) = refl

pub line_ended : (text line others : List ℕ) → text ≡ line ++ 10 ∷ others → All (λ b. b ≢ 10) line → reply_lines text ≡ line ∷ reply_lines others
line_ended text line others e h =
    ap reply_lines e ∙ ap ended_parts (slice_split_at (λ b. eqb b 10) line 10 others (none_ends line h) refl) ∙ first_stays line others

pub line_alone : (text : List ℕ) → 0 < length text → All (λ b. b ≢ 10) text → reply_lines text ≡ text ∷ []
line_alone text some h =
    ap ended_parts (slice_split_none (λ b. eqb b 10) text (none_ends text h)) ∙ ap (λ t. cond t [] (text ∷ [])) (ne_eqb (length text) 0 (λ z. omega arith))

-- where there are bytes, there is a line
some_line : (byte : ℕ) (left : List ℕ) → reply_lines (byte ∷ left) ≢ []
some_line byte left = go (eqb byte 10) (parts left) (first_stays [] left)
  where
    go : (t : Bool) (ps : List (List ℕ)) → ended_parts ([] ∷ ps) ≡ [] ∷ ended_parts ps → ended_parts (cond t ([] ∷ ps) (onto_first byte ps)) ≢ []
    go true ps e = λ h. let none = sym e ∙ h in cc
    go false [] e = λ h. cc
    go false (p ∷ []) e = λ h.
        let one = ap (λ t. cond t [] ((byte ∷ p) ∷ [])) (ne_eqb (length (byte ∷ p)) 0 (λ z. omega arith)) in
        let none = sym one ∙ h in
        cc
    go false (p ∷ q ∷ ps) e = λ h. cc

-- a line, and the others with a comma before them
pub strings_parted : (line others : List ℕ) → json_strings (line ∷ reply_lines others) ≡ json_string line ++ (comma_before others ++ json_strings (reply_lines others))
strings_parted line [] = sym (append-nil (json_string line))
strings_parted line (byte ∷ left) = go (reply_lines (byte ∷ left)) (some_line byte left)
  where
    go : (ls : List (List ℕ)) → ls ≢ [] → json_strings (line ∷ ls) ≡ json_string line ++ (codes "," ++ json_strings ls)
    go [] h = absurd (h refl)
    go (l ∷ ls) h = refl
