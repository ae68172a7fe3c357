-- What is written in reply, as bytes.
use Rattle.std.specs.Prelude.{ℕ, zero, suc, true, false, List, [], ◌∷◌, ◌++◌, flat_map, reverse, codes, Option, Some, None, Result, Ok, Err}
use Rattle.std.specs.Box.{boxed_slice_items}
use Rattle.std.specs.Fmt.{decimal}
use Rattle.art_engine.specs.KeyTexts.{key_word}
use Rattle.art_engine.specs.KeptKeys.{Key}
use Rattle.art_reading.specs.declared.lookup.descent.End.{End}
use Rattle.art_reading.specs.declared.lookup.descent.End.TheVariants.{First, Last}
use Rattle.art_engine.specs.declared.pairs.Order.{Order}
use Rattle.art_engine.specs.declared.pairs.Order.TheVariants.{Rising, Falling}
use Rattle.art_checking.specs.declared.well_formed.WellFormedTreeStats.{WellFormedTreeStats}
use Rattle.art_checking.specs.declared.well_formed.fault.MalformedTreeError.{MalformedTreeError}
use Rattle.art_checking.specs.declared.well_formed.fault.MalformedTreeError.TheVariants.{OutOfMemory}
use Rattle.art_writing.specs.Conflicts.{conflict_text}
use Rattle.art_running.specs.declared.run.Reply.{Reply}
use Rattle.art_running.specs.declared.run.Reply.TheVariants.{Inserted, Conflict, Overwrote, Deleted, Cloned, Found, MatchLen, NoMemory}

-- what became of a pair, and its key and its value
abbrev pub pair_text : List ℕ → Key × ℕ → List ℕ
pair_text outcome pair = outcome ++ codes " " ++ key_word pair.0.items ++ codes " " ++ decimal pair.1

-- the reply to an insertion, with the pair that was replaced
abbrev pub inserted_text : Option (Key × ℕ) → List ℕ
inserted_text None = codes "inserted"
inserted_text (Some old) = pair_text (codes "replaced") old

-- the same, or how many were replaced
abbrev pub overwrote_text : Option (Key × ℕ) → ℕ → List ℕ
overwrote_text (Some old) count = pair_text (codes "replaced") old
overwrote_text None zero = codes "inserted"
overwrote_text None (suc count) = codes "removed " ++ decimal (suc count)

abbrev pub deleted_text : Option (Key × ℕ) → List ℕ
deleted_text None = codes "absent"
deleted_text (Some old) = pair_text (codes "deleted") old

abbrev pub match_text : Option ℕ → List ℕ
match_text None = codes "none"
match_text (Some len) = codes "match " ++ decimal len

-- the reply to a command
abbrev pub reply_text : Reply Key ℕ → List ℕ
reply_text (Inserted old) = inserted_text old
reply_text (Conflict key value error) = codes "conflict: " ++ conflict_text (boxed_slice_items error.byte_repr)
reply_text (Overwrote old count) = overwrote_text old count
reply_text (Deleted old) = deleted_text old
reply_text Cloned = codes "cloned"
reply_text (Found true) = codes "yes"
reply_text (Found false) = codes "no"
reply_text (MatchLen len) = match_text len
reply_text (NoMemory pair) = codes "no memory"

-- what a check has found, without the details of a fault
abbrev pub check_text : Result WellFormedTreeStats MalformedTreeError → Option (List ℕ)
check_text (Ok stats) = Some (codes "ok " ++ decimal stats.num_leaf ++ codes " leaves " ++ decimal stats.num_inner ++ codes " inner")
check_text (Err OutOfMemory) = Some (codes "no memory")
check_text (Err fault) = None

-- a pair
abbrev pub entry_text : Key × ℕ → List ℕ
entry_text pair = key_word pair.0.items ++ codes "=" ++ decimal pair.1

-- what separates a pair from so many before it
abbrev pub gap_after : ℕ → List ℕ
gap_after zero = []
gap_after (suc n) = codes " "

-- pairs, separated by spaces
abbrev pub row_text : List (Key × ℕ) → List ℕ
row_text [] = []
row_text (pair ∷ pairs) = entry_text pair ++ flat_map (λ p. codes " " ++ entry_text p) pairs

-- the same, where there may be none
abbrev pub pairs_text : List (Key × ℕ) → List ℕ
pairs_text [] = codes "empty"
pairs_text (pair ∷ pairs) = row_text (pair ∷ pairs)

-- rising pairs in this order
abbrev pub in_order : {A : Type 0} → Order → List A → List A
in_order Rising xs = xs
in_order Falling xs = reverse xs

-- the end of rising pairs at which this order begins
abbrev pub starting_end : Order → End
starting_end Rising = First
starting_end Falling = Last
