-- The lines that are requests.
use Rattle.std.specs.Prelude.{◌≢◌, ℕ, List, ◌∷◌, ◌++◌, codes, ⊤}
use Rattle.std.specs.List.{All}
use Rattle.art_operations.specs.Ended.{HasNoZero}
use Rattle.text_programs.specs.declared.path_indexes.request.Request.{Request}
use Rattle.text_programs.specs.declared.path_indexes.request.Request.TheVariants.{Under, At, Between, First, Last, Count}

-- the line that asks for it, without a line feed
abbrev pub line_of : Request → List ℕ
line_of (Under prefix) = codes "under " ++ prefix.now
line_of (At path) = codes "at " ++ path.now
line_of (Between from to) = codes "between " ++ (from.now ++ 32 ∷ to.now)
line_of First = codes "first"
line_of Last = codes "last"
line_of (Count prefix) = codes "count " ++ prefix.now

-- no byte is a space
abbrev pub HasNoSpace : List ℕ → Type 0
HasNoSpace = All (λ byte. byte ≢ 32)

-- its bytes are such as a line can ask for: none is zero, and the first of two paths has no space
abbrev pub IsRequest : Request → Type 0
IsRequest (Under prefix) = HasNoZero prefix.now
IsRequest (At path) = HasNoZero path.now
IsRequest (Between from to) = HasNoSpace from.now × HasNoZero from.now × HasNoZero to.now
IsRequest First = ⊤
IsRequest Last = ⊤
IsRequest (Count prefix) = HasNoZero prefix.now
