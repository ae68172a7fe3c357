-- The lines that are requests.
use Rattle.std.specs.Prelude.{ℕ, ◌<◌, ◌^◌, ⊤, List, [], ◌∷◌, codes}
use Rattle.std.specs.List.{join_with_byte}
use Rattle.std.specs.Fmt.{decimal}
use Rattle.art_engine.specs.declared.lines.Request.{Request}
use Rattle.art_engine.specs.declared.lines.Request.TheVariants.{Insert, Prefix, Delete, First, Last, Clone, Find, Longest, Walk, Back, Nodes, Check}

-- the words of the line that asks for it
abbrev pub words_of : Request → List (List ℕ)
words_of (Insert key value) = codes "insert" ∷ key.word.now ∷ decimal value ∷ []
words_of (Prefix key value) = codes "prefix" ∷ key.word.now ∷ decimal value ∷ []
words_of (Delete key) = codes "delete" ∷ key.word.now ∷ []
words_of First = codes "first" ∷ []
words_of Last = codes "last" ∷ []
words_of Clone = codes "clone" ∷ []
words_of (Find key) = codes "find" ∷ key.word.now ∷ []
words_of (Longest key) = codes "longest" ∷ key.word.now ∷ []
words_of Walk = codes "walk" ∷ []
words_of Back = codes "back" ∷ []
words_of Nodes = codes "nodes" ∷ []
words_of Check = codes "check" ∷ []

-- the line that asks for it, without a line feed: its words, with one space between two
abbrev pub line_of : Request → List ℕ
line_of request = join_with_byte 32 (words_of request)

-- its value, if it has one, is one that can be stored
abbrev pub HasSmallValue : Request → Type 0
HasSmallValue (Insert key value) = value < 2 ^ 32
HasSmallValue (Prefix key value) = value < 2 ^ 32
HasSmallValue request = ⊤
