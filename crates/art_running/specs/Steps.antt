-- The states that a run goes through, and what a command leaves of one.
use Rattle.std.specs.Prelude.{◌≡◌, ◌≢◌, ℕ, MatchBool, nat_le, List, [], length, Option, Some, None, true, ◌⊎◌, ⊤}
use Rattle.std.specs.Option.{option_map}
use Rattle.art_nodes.specs.Nodes.{Nodes, Promise, no_promise}
use Rattle.art_parts.specs.declared.names.OpaqueNodePtr.{OpaqueNodePtr}
use Rattle.art_model.specs.Footprints.{TouchesAtMost, TouchesRelated}
use Rattle.art_model.specs.Kept.{ChangesInPlace, KeepsOthers, SameNodes, names_in}
use Rattle.art_model.specs.Layouts.{name_of}
use Rattle.art_model.specs.Pairs.{of_key, is_conflict, related_to}
use Rattle.art_model.specs.Promises.{is_covered, promise_after, tree_taken, IsLessened}
use Rattle.art_model.specs.Radix.{pairs_of}
use Rattle.art_model.specs.Roots.{IsRootOf}
use Rattle.art_model.specs.Trees.{Tree}
use Rattle.art_running.specs.Answers.{Answers}
use Rattle.art_running.specs.Needs.{needs}
use Rattle.art_running.specs.declared.run.Command.{Command}
use Rattle.art_running.specs.declared.run.Command.TheVariants.{Insert, InsertPrefix, Clone}
use Rattle.art_running.specs.declared.run.Reply.{Reply}
use Rattle.art_running.specs.declared.run.Reply.TheVariants.{Inserted, Overwrote, Deleted, Cloned, NoMemory}
use Rattle.art_running.specs.declared.run.Side.{Side}
use Rattle.art_running.specs.declared.run.Side.TheVariants.{First, Second}

-- the pairs of the leaves, in order, where there is a tree
abbrev pub pairs_in : {N A : Type 0} → Option (Tree N A) → List A
pairs_in None = []
pairs_in (Some tree) = pairs_of tree

-- the store that the tree is in, the other one, the side that the tree is on, and the tree, which says where its nodes are
pub record State (K V : Type 0) : Type 0 where
  pub present : Nodes K V
  pub other : Nodes K V
  pub side : Side
  pub tree : Option (Tree OpaqueNodePtr (K × V))

-- the other side
abbrev pub opposite : Side → Side
opposite First = Second
opposite Second = First

module _ {K V : Type 0} where
  -- the root of the tree
  abbrev pub root_in : State K V → Option OpaqueNodePtr
  root_in state = option_map name_of state.tree

  -- No node of the tree's store changed, and the other store is unchanged; nothing is stated of the promise.
  pub record NothingChanged (old new : State K V) : Type 0 where
    pub side : new.side ≡ old.side
    pub tree : new.tree ≡ old.tree
    pub nodes : SameNodes old.present new.present
    pub other : new.other ≡ old.other

  -- what a successful command touches: a few names, or the tree of all pairs with related keys if there are several
  abbrev pub TouchesBy : (K → List ℕ) → Option (Tree OpaqueNodePtr (K × V)) → Command K V → Nodes K V →
      Nodes K V → Type 0
  TouchesBy bytes tree (InsertPrefix k v) s t =
      MatchBool (nat_le (length (related_to (of_key bytes) (bytes k) (pairs_in tree))) 1)
      (TouchesAtMost 2 2 4 s t)
      (TouchesRelated (of_key bytes) (bytes k) s t tree)
  TouchesBy bytes tree command s t = TouchesAtMost 2 2 4 s t

  -- The tree was changed in place: names stay, nodes outside it too, and no more is touched than the command has to.
  pub record InPlace (bytes : K → List ℕ) (old : State K V) (command : Command K V) (new : State K V) : Type 0 where
    pub side : new.side ≡ old.side
    pub kept : ChangesInPlace (of_key bytes) old.present new.present old.tree new.tree
    pub touches : TouchesBy bytes old.tree command old.present new.present
    pub other : new.other ≡ old.other

  -- The tree moved to the other store: exactly its names went out of use in the one, and exactly the new tree's names came into use in the other.
  pub record GoesOver (old new : State K V) : Type 0 where
    pub side : new.side ≡ opposite old.side
    pub came : KeepsOthers old.other new.present [] (names_in new.tree)
    pub went : KeepsOthers old.present new.other (names_in old.tree) []

  -- The tree did not move: its store is unchanged, and the other one has its old nodes.
  pub record StaysHere (old new : State K V) : Type 0 where
    pub side : new.side ≡ old.side
    pub tree : new.tree ≡ old.tree
    pub present : new.present ≡ old.present
    pub nodes : SameNodes old.other new.other

  -- what becomes of the nodes
  abbrev pub Changes : (K → List ℕ) → State K V → Command K V → Reply K V → State K V → Type 0
  Changes bytes old command (Inserted before) new = InPlace bytes old command new
  Changes bytes old command (Overwrote before count) new = InPlace bytes old command new
  Changes bytes old command (Deleted (Some pair)) new = InPlace bytes old command new
  Changes bytes old command Cloned new = elim old.tree [ None ↦ NothingChanged old new | Some tree ↦ GoesOver old new ]
  Changes bytes old Clone (NoMemory pair) new = StaysHere old new
  Changes bytes old command reply new = NothingChanged old new

-- a promise stays, or nothing is promised any more
abbrev pub MayVoid : Promise → Promise → Type 0
MayVoid old new = (new ≡ old) ⊎ (new ≡ no_promise)

module _ {K V : Type 0} (bytes : K → List ℕ) (P : ℕ) where
  -- The tree is canonical in its store for its pairs.
  abbrev pub IsSound : State K V → Type 0
  IsSound state = IsRootOf (of_key bytes) P state.present (root_in state) (pairs_in state.tree) state.tree

  -- whether the promise covers what a command places
  abbrev pub IsPromised : Command K V → State K V → Type 0
  IsPromised command state = is_covered (needs bytes P command (pairs_in state.tree)) state.present.promise ≡ true

  -- where an allocation may fail: for the bytes of a key in conflict, for the clone of a tree, and for nodes of an insertion that are not promised
  abbrev pub MayRefuse : Command K V → State K V → Type 0
  MayRefuse (Insert k v) old =
      (is_conflict (of_key bytes) (bytes k) (pairs_in old.tree) ≡ true) ⊎ (IsPromised (Insert k v) old → ⊥)
  MayRefuse (InsertPrefix k v) old = IsPromised (InsertPrefix k v) old → ⊥
  MayRefuse Clone old = old.tree ≢ None
  MayRefuse command old = ⊥

  -- only there a reply is out of memory
  abbrev pub Refuses : State K V → Command K V → Reply K V → Type 0
  Refuses old command (NoMemory pair) = MayRefuse command old
  Refuses old command reply = ⊤

  -- what the command places is taken from the promise
  abbrev pub TakesNeeds : State K V → Command K V → State K V → Type 0
  TakesNeeds old command new =
      new.present.promise ≡ promise_after (needs bytes P command (pairs_in old.tree)) old.present.promise

  -- the promise is unchanged
  abbrev pub KeepsPromise : State K V → State K V → Type 0
  KeepsPromise old new = new.present.promise ≡ old.present.promise

  -- a clone leaves its source's promise, and takes its nodes from the other store's
  abbrev pub CloneTakes : Option (Tree OpaqueNodePtr (K × V)) → State K V → State K V → Type 0
  CloneTakes None old new = KeepsPromise old new
  CloneTakes (Some tree) old new =
      (new.other.promise ≡ old.present.promise) × (new.present.promise ≡ tree_taken tree old.other.promise)

  -- a failure may void the promise, but not in a conflict; that of a clone leaves no more of the other store's than there was
  abbrev pub RefusalLeaves : State K V → Command K V → State K V → Type 0
  RefusalLeaves old (Insert k v) new =
      MatchBool (is_conflict (of_key bytes) (bytes k) (pairs_in old.tree))
      (KeepsPromise old new)
      (MayVoid old.present.promise new.present.promise)
  RefusalLeaves old Clone new = IsLessened old.other.promise new.other.promise
  RefusalLeaves old command new = MayVoid old.present.promise new.present.promise

  -- what becomes of the promise: what was placed is taken from it, a failure leaves what it may, and else it stays
  abbrev pub Promises : State K V → Command K V → Reply K V → State K V → Type 0
  Promises old command (Inserted before) new = TakesNeeds old command new
  Promises old command (Overwrote before count) new = TakesNeeds old command new
  Promises old command (Deleted (Some pair)) new = TakesNeeds old command new
  Promises old Clone Cloned new = CloneTakes old.tree old new
  Promises old command (NoMemory pair) new = RefusalLeaves old command new
  Promises old command reply new = KeepsPromise old new

  module _ (IsClone : K × V → K × V → Type 0) where
    -- From one state to the next, by a command and its reply.
    pub record Step (old : State K V) (command : Command K V) (reply : Reply K V) (new : State K V) : Type 0 where
      pub answers : Answers bytes IsClone (pairs_in old.tree) command reply (pairs_in new.tree)
      pub refuses : Refuses old command reply
      pub sound : IsSound new
      pub changes : Changes bytes old command reply new
      pub promises : Promises old command reply new
