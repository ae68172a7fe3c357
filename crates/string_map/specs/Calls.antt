-- What a call of a map returns, and what it writes.
use Rattle.std.specs.Prelude.{◌≡◌, ◌≢◌, ◌<◌, ◌≤◌, ℕ, List, MatchOption, Option, Some, None}
use Rattle.std.specs.Option.{option_map}
use Rattle.art_keys.specs.Escapes.{escape}
use Rattle.art_changing.specs.MapAnswers.{value_at}
use Rattle.art_model.specs.Pairs.{of_key, put}

-- the codes
abbrev pub done : ℕ
done = 0

abbrev pub absent : ℕ
absent = 1

abbrev pub no_memory : ℕ
no_memory = 2

abbrev pub too_long : ℕ
too_long = 3

abbrev pub full : ℕ
full = 4

abbrev pub freed : ℕ
freed = 5

abbrev pub has_replaced : ℕ
has_replaced = 6

-- the code of a call that can fail only on a map that was freed
abbrev pub code_of : Option (List (List ℕ × ℕ)) → ℕ
code_of None = freed
code_of (Some pairs) = done

-- the value of a key
abbrev pub value_of : List ℕ → List (List ℕ × ℕ) → Option ℕ
value_of key pairs = value_at escape (escape key) pairs

-- the code reports whether there is something, and if so it is written
abbrev pub Tells : {A : Type 0} → Option A → ℕ → A → Type 0
Tells wanted code written = MatchOption wanted (code ≡ absent) (λ it. (code ≡ done) × (written ≡ it))

-- A call looks something up among the pairs of a map. It fails if the map was freed, or if an allocation fails.
pub record Answers {A : Type 0} (map : Option (List (List ℕ × ℕ))) (wanted : List (List ℕ × ℕ) → Option A) (code : ℕ) (before after : A) : Type 0 where
  pub tells : MatchOption map (code ≡ freed) (λ pairs. code ≢ no_memory → Tells (wanted pairs) code after)
  pub stays : code ≢ done → after ≡ before

-- A call changes the pairs of a map. If it fails, they are unchanged.
pub record Changes (before : Option (List (List ℕ × ℕ))) (change : List (List ℕ × ℕ) → List (List ℕ × ℕ)) (code : ℕ)
    (after : Option (List (List ℕ × ℕ))) : Type 0 where
  pub changed : code < no_memory → after ≡ option_map change before
  pub kept : no_memory ≤ code → after ≡ before

-- the code reports whether a value is replaced, and if so it is written
abbrev pub Replaces : Option ℕ → ℕ → ℕ → Type 0
Replaces stored code written = MatchOption stored (code ≡ done) (λ it. (code ≡ has_replaced) × (written ≡ it))

-- A call inserts a pair. If it fails, the pairs are unchanged.
pub record Inserts (key : List ℕ) (value : ℕ) (before : Option (List (List ℕ × ℕ))) (code : ℕ)
    (after : Option (List (List ℕ × ℕ))) (unwritten written : ℕ) : Type 0 where
  pub tells : MatchOption before (code ≡ freed) (λ pairs. code ≢ no_memory → Replaces (value_of key pairs) code written)
  pub stays : code ≢ has_replaced → written ≡ unwritten
  pub inserted : code ≢ no_memory → after ≡ option_map (put (of_key escape) (key, value)) before
  pub kept : code ≡ no_memory → after ≡ before
