-- Sessions by their tokens, and their ends.
use Rattle.std.specs.Prelude.{◌≡◌, ◌≢◌, ◌<◌, ◌≤◌, ◌==◌, ◌^◌, ℕ, List, Option, Some, None, IfSome, if◌then◌else◌}
use Rattle.std.specs.Int.{bytes_high_first}
use Rattle.art_operations.specs.Escapes.{escape}
use Rattle.art_operations.specs.Joins.{AreKeys, joined_bytes}
use Rattle.art_operations.specs.KeyedValues.{value_of}
use Rattle.art_operations.specs.Numbers.{HasBytes}

-- the open sessions: a token, and when it ends
abbrev pub Open : Type 0
Open = List (List ℕ × ℕ)

-- when the session of a token ends, if it is open
abbrev pub end_of : List ℕ → Open → Option ℕ
end_of token sessions = value_of escape token sessions

-- the session of a token ends then now, and each other one as before
abbrev pub Changes : List ℕ → Option ℕ → Open → Open → Type 0
Changes token end old new =
    (end_of token new ≡ end) × ((other : List ℕ) → other ≢ token → end_of other new ≡ end_of other old)

-- there is a session that ends first, and it ends up to this time
abbrev pub EndsBy : Option (List ℕ × ℕ) → ℕ → Type 0
EndsBy None end = ⊥
EndsBy (Some first) end = first.1 ≤ end

-- this token and end are those of the session that ends first, if any is open
abbrev pub IsFirst : Option (List ℕ × ℕ) → Open → Type 0
IsFirst first sessions =
    IfSome first (λ first. end_of first.0 sessions ≡ Some first.1) ×
    ((token : List ℕ) → IfSome (end_of token sessions) (EndsBy first))

-- all sessions end later; or the first one, which does not, is closed
abbrev pub Expires : ℕ → Option (List ℕ × ℕ) → Open → Open → Type 0
Expires now None old new = (new ≡ old) × ((token : List ℕ) → IfSome (end_of token old) (λ end. now < end))
Expires now (Some first) old new = (first.1 ≤ now) × IsFirst (Some first) old × Changes first.0 None old new

-- the listed ends, each with its token
abbrev pub Ends : Type 0
Ends = List ((ℕ × List ℕ) × Unit {0})

-- the bytes of an end and a token
abbrev pub end_bytes : ℕ × List ℕ → List ℕ
end_bytes = joined_bytes (bytes_high_first 8) escape

-- an end and a token that have bytes
abbrev pub IsEndKey : ℕ × List ℕ → Type 0
IsEndKey = AreKeys (HasBytes 8) (λ text. Unit {0})

-- what is listed of a token at a time, where it ends then
abbrev pub listed_at : ℕ → Option ℕ → Option (Unit {0})
listed_at time None = None
listed_at time (Some end) = if time == end then Some tt else None

-- of a token this end is listed, and no other
abbrev pub IsListed : List ℕ → Option ℕ → Ends → Type 0
IsListed token end ends =
    IfSome end (λ end. end < 2 ^ 64) ×
    ((time : ℕ) → time < 2 ^ 64 → value_of end_bytes (time, token) ends ≡ listed_at time end)

-- the listed ends are those of the open sessions
abbrev pub Agree : Open → Ends → Type 0
Agree sessions ends = (token : List ℕ) → IsListed token (end_of token sessions) ends
