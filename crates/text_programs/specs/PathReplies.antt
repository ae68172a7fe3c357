-- What is written in reply to requests.
use Rattle.std.specs.Prelude.{◌≡◌, ◌≢◌, ℕ, Bool, true, false, List, [], ◌∷◌, ◌++◌, length, flat_map, codes, Option, Some, None}
use Rattle.std.specs.Fmt.{decimal}
use Rattle.art_operations.specs.Pairs.{first_of, last_of}
use Rattle.text_programs.specs.declared.path_indexes.request.Request.{Request}
use Rattle.text_programs.specs.declared.path_indexes.request.Request.TheVariants.{Under, At, Between, First, Last, Count}
use Rattle.text_programs.specs.Paths.{below, between, is_stored}
use Rattle.text_programs.specs.Requests.{IsRequest, line_of}

-- whether there is a path
abbrev pub is_filled : List (List ℕ) → Bool
is_filled [] = false
is_filled (path ∷ paths) = true

-- a path, and a line feed
abbrev pub path_line : List ℕ → List ℕ
path_line path = path ++ codes "\n"

-- each path, as a line
abbrev pub path_lines : List (List ℕ) → List ℕ
path_lines paths = flat_map path_line paths

-- a path as a line; nothing if there is none
abbrev pub found_line : Option (List ℕ) → List ℕ
found_line None = []
found_line (Some path) = path_line path

-- whether something is so
abbrev pub told_line : Bool → List ℕ
told_line true = codes "yes\n"
told_line false = codes "no\n"

-- the reply to a request
abbrev pub reply_to : List (List ℕ) → Request → List ℕ
reply_to paths (Under prefix) = path_lines (below prefix.now paths)
reply_to paths (At path) = told_line (is_stored path.now paths)
reply_to paths (Between from to) = path_lines (between from.now to.now paths)
reply_to paths First = found_line (first_of paths)
reply_to paths Last = found_line (last_of paths)
reply_to paths (Count prefix) = decimal (length (below prefix.now paths)) ++ codes "\n"

-- the line is that of a request, and this is the reply to it
abbrev pub IsPathReply : List (List ℕ) → List ℕ → List ℕ → Type 0
IsPathReply paths line reply = (request : Request) × IsRequest request × (line ≡ line_of request) × (reply ≡ reply_to paths request)

-- whether a request finds something: a path, or one to count
abbrev pub finds : List (List ℕ) → Request → Bool
finds paths (Under prefix) = is_filled (below prefix.now paths)
finds paths (At path) = is_stored path.now paths
finds paths (Between from to) = is_filled (between from.now to.now paths)
finds paths First = is_filled paths
finds paths Last = is_filled paths
finds paths (Count prefix) = is_filled (below prefix.now paths)

-- the line is that of a request that finds something
abbrev pub FindsPath : List (List ℕ) → List ℕ → Type 0
FindsPath paths line = (request : Request) × IsRequest request × (line ≡ line_of request) × (finds paths request ≡ true)

-- the line is no valid request
abbrev pub IsNoRequest : List ℕ → Type 0
IsNoRequest line = (request : Request) → IsRequest request → line ≢ line_of request
