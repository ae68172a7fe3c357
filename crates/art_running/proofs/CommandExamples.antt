-- what commands return, need and leave, on small maps
use Rattle.std.proofs.Common.{◌≡◌, ℕ, List, [], ◌∷◌, Option, Some, None, refl, true, false}
use Rattle.std.specs.Global.{Vec}
use Rattle.std.specs.Box.{boxed_slice_items}
use Rattle.std.proofs.lemmas.Bool.{true≢false}
use Rattle.art_model.specs.Prelude.{Promise, Node4, Node16}
use Rattle.art_running.specs.Answers.{Answers, pairs_after_command}
use Rattle.art_running.specs.Needs.{needs}
use Rattle.art_running.specs.Runs.{Chain}
use Rattle.art_writing.specs.declared.insert.InsertPrefixError.{InsertPrefixError}
use Rattle.art_running.specs.declared.run.Command.TheVariants.{Insert, Delete, DeleteMin, DeleteMax, Contains, LongestMatch}
use Rattle.art_running.specs.declared.run.Reply.TheVariants.{Inserted, Conflict, Deleted, Found, MatchLen, NoMemory}

abbrev Key : Type 0
Key = List ℕ

-- a clone is equal to its source
abbrev is_clone : Key × ℕ → Key × ℕ → Type 0
is_clone x y = y ≡ x

abbrev bytes : Key → List ℕ
bytes key = key

-- the key 1 with the value 10
abbrev one : Key × ℕ
one = (1 ∷ [], 10)

-- the key 2 3 with the value 20
abbrev two_three : Key × ℕ
two_three = (2 ∷ 3 ∷ [], 20)

inserts : Answers bytes is_clone (two_three ∷ []) (Insert (1 ∷ []) 10) (Inserted None) (one ∷ two_three ∷ [])
inserts = (refl, refl, refl)

replaces : Answers bytes is_clone (one ∷ two_three ∷ []) (Insert (1 ∷ []) 11) (Inserted (Some one)) ((1 ∷ [], 11) ∷ two_three ∷ [])
replaces = (refl, refl, refl)

no_memory : Answers bytes is_clone (one ∷ []) (Insert (2 ∷ 3 ∷ []) 20) (NoMemory (Some two_three)) (one ∷ [])
no_memory = (refl, refl, refl)

-- an insertion of a stored key never runs out of memory
never_refused : (pair : Option (Key × ℕ)) (new : List (Key × ℕ)) → Answers bytes is_clone (one ∷ []) (Insert (1 ∷ []) 11) (NoMemory pair) new → ⊥
never_refused pair new h = true≢false h.0

deletes_first : Answers bytes is_clone (one ∷ two_three ∷ []) DeleteMin (Deleted (Some one)) (two_three ∷ [])
deletes_first = (refl, refl)

deletes_last : Answers bytes is_clone (one ∷ two_three ∷ []) DeleteMax (Deleted (Some two_three)) (one ∷ [])
deletes_last = (refl, refl)

module _ (error : InsertPrefixError) (key : Vec ℕ) where
  conflicts : boxed_slice_items error.byte_repr ≡ 1 ∷ 2 ∷ [] →
      Answers bytes is_clone (one ∷ []) (Insert (1 ∷ 2 ∷ []) 12) (Conflict (1 ∷ 2 ∷ []) 12 error) (one ∷ [])
  conflicts e = (refl, refl, refl, e, refl)

  deletes : key.items ≡ 1 ∷ [] → Answers bytes is_clone (one ∷ two_three ∷ []) (Delete key) (Deleted (Some one)) (two_three ∷ [])
  deletes e = rw e (refl, refl)

  deletes_nothing : key.items ≡ 2 ∷ [] → Answers bytes is_clone (one ∷ two_three ∷ []) (Delete key) (Deleted None) (one ∷ two_three ∷ [])
  deletes_nothing e = rw e (refl, refl)

  measures : key.items ≡ 2 ∷ 3 ∷ 4 ∷ [] → Answers bytes is_clone (one ∷ two_three ∷ []) (LongestMatch key) (MatchLen (Some 2)) (one ∷ two_three ∷ [])
  measures e = rw e (refl, refl)

  measures_nothing : key.items ≡ 2 ∷ [] → Answers bytes is_clone (one ∷ two_three ∷ []) (LongestMatch key) (MatchLen None) (one ∷ two_three ∷ [])
  measures_nothing e = rw e (refl, refl)

  finds : key.items ≡ 2 ∷ 3 ∷ [] → Answers bytes is_clone (one ∷ two_three ∷ []) (Contains key) (Found true) (one ∷ two_three ∷ [])
  finds e = rw e (refl, refl)

  finds_nothing : key.items ≡ 2 ∷ [] → Answers bytes is_clone (one ∷ two_three ∷ []) (Contains key) (Found false) (one ∷ two_three ∷ [])
  finds_nothing e = rw e (refl, refl)

  -- the key 1, then the related key 1 2, then the key 1 deleted
  short_run : boxed_slice_items error.byte_repr ≡ 1 ∷ 2 ∷ [] → key.items ≡ 1 ∷ []
      → Chain (Answers bytes is_clone) [] (Insert (1 ∷ []) 10 ∷ Insert (1 ∷ 2 ∷ []) 12 ∷ Delete key ∷ [])
      (Inserted None ∷ Conflict (1 ∷ 2 ∷ []) 12 error ∷ Deleted (Some one) ∷ []) []
  short_run e d = (one ∷ [], (refl, refl, refl), (one ∷ [], conflicts e, ([], rw d (refl, refl), refl)))

-- each command has one reply
no_reply_left_out : (new : List (Key × ℕ)) → Chain (Answers bytes is_clone) [] (Insert (1 ∷ []) 10 ∷ []) [] new → ⊥
no_reply_left_out new h = h

-- ---- what commands need

abbrev at : ℕ → Key × ℕ
at n = (n ∷ [], 0)

abbrev four : List (Key × ℕ)
four = at 1 ∷ at 2 ∷ at 3 ∷ at 4 ∷ []

abbrev no_node : Promise
no_node = record { leaves = 0; inner = None }

-- a fifth child needs a leaf and a Node16, and its deletion a Node4
fifth_comes : needs {V = ℕ} bytes 16 (Insert (5 ∷ []) 0) four ≡ record { leaves = 1; inner = Some Node16 }
fifth_comes = refl

fifth_goes : needs {V = ℕ} bytes 16 DeleteMax (pairs_after_command bytes (Insert (5 ∷ []) 0) four) ≡ record { leaves = 0; inner = Some Node4 }
fifth_goes = refl

-- a fourth child needs only a leaf, and the deletion of any of four nothing
fourth_comes : needs {V = ℕ} bytes 16 (Insert (4 ∷ []) 0) (at 1 ∷ at 2 ∷ at 3 ∷ []) ≡ record { leaves = 1; inner = None }
fourth_comes = refl

fourth_goes : needs {V = ℕ} bytes 16 DeleteMax four ≡ no_node
fourth_goes = refl

-- an equal key needs nothing
equal_key : needs {V = ℕ} bytes 16 (Insert (3 ∷ []) 0) four ≡ no_node
equal_key = refl

-- a leaf is split
leaf_split : needs {V = ℕ} bytes 16 (Insert (1 ∷ 2 ∷ 9 ∷ []) 0) ((1 ∷ 2 ∷ 3 ∷ 4 ∷ [], 0) ∷ []) ≡ record { leaves = 1; inner = Some Node4 }
leaf_split = refl

-- a prefix is split, and the deletion that merges it again needs nothing
abbrev long : List (Key × ℕ)
long = (7 ∷ 1 ∷ 1 ∷ 1 ∷ 1 ∷ 5 ∷ [], 0) ∷ (7 ∷ 1 ∷ 1 ∷ 1 ∷ 1 ∷ 6 ∷ [], 0) ∷ []

prefix_split : needs {V = ℕ} bytes 2 (Insert (7 ∷ 1 ∷ 1 ∷ 9 ∷ []) 0) long ≡ record { leaves = 1; inner = Some Node4 }
prefix_split = refl

prefix_merged : needs {V = ℕ} bytes 2 DeleteMax (pairs_after_command bytes (Insert (7 ∷ 1 ∷ 1 ∷ 9 ∷ []) 0) long) ≡ no_node
prefix_merged = refl
