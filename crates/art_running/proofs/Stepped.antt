-- Applied points make steps: from what an application leaves to the parts of a step.
use Rattle.std.proofs.Common.{◌≡◌, ℕ, ◌≤◌, List, refl, ap, sym, ◌∙◌, subst, arith, Option, Some, None, Bool, true, false, MatchBool, inl, inr, option_map}
use Rattle.std.specs.Box.{boxed_slice_items}
use Rattle.art_model.specs.Prelude.{Nodes, Promise, no_promise, OpaqueNodePtr, LeafNode, IsCanonicalTree, IsCanonical, TouchesAtMost, ChangesInPlace, SameNodes, name_of, of_key, is_conflict, has_key, put, put_reply, remove_key, is_covered, promise_after, pairs_of, ForRoot, pair_of}
use Rattle.art_model.proofs.stores.Canonical.{tree_radix}
use Rattle.art_running.specs.Answers.{Answers}
use Rattle.art_writing.specs.Deleted.{TouchesFor, ParentChange, no_parent, keeps, shrinks, is_compressed, parent_change, LeadsTo, placed_for_deletion}
use Rattle.art_writing.specs.Inserted.{Touches, unlinked_leaf, is_full, placed_for}
use Rattle.art_writing.specs.Points.{AnswersTo}
use Rattle.art_running.specs.Steps.{TouchesBy}
use Rattle.art_writing.specs.declared.delete.DeletePoint.{DeletePoint}
use Rattle.art_reading.specs.declared.end_node.InsertKind.{InsertKind}
use Rattle.art_reading.specs.declared.end_node.InsertKind.TheVariants.{MismatchPrefix, SplitLeaf, Exact, IntoExisting}
use Rattle.art_writing.specs.declared.insert.InsertPoint.{InsertPoint}
use Rattle.art_writing.specs.declared.insert.InsertPrefixError.{InsertPrefixError}
use Rattle.art_running.specs.declared.run.Command.{Command}
use Rattle.art_running.specs.declared.run.Side.{Side}
use Rattle.art_running.specs.declared.run.Command.TheVariants.{Insert, InsertPrefix}
use Rattle.art_running.specs.declared.run.Reply.TheVariants.{Inserted, Conflict, Deleted, NoMemory}
use Rattle.art_writing.proofs.Standing.{tree_stays}
use Rattle.art_running.proofs.Moves.{Layout, StepFrom, has_tree, own_pairs, nothing}
use Rattle.art_writing.proofs.KeysFound.{conflict_new, not_false}
use Rattle.art_writing.proofs.Unstored.{refused_new}
use Rattle.art_running.proofs.Needed.{needs_inserted, needs_deleted}

module _ {K V : Type 0} {s t : Nodes K V} where
  -- fewer names are at most as many
  pub touches_more : (a b c p f h : ℕ) → a ≤ p → b ≤ f → c ≤ h → TouchesAtMost a b c s t → TouchesAtMost p f h s t
  touches_more a b c p f h x y w (placed, freed, changed, print, l, m, n) = (placed, freed, changed, print, omega arith, omega arith, omega arith)

  pub insertion_touches : (kind : InsertKind) → Touches kind s t → TouchesAtMost 2 2 4 s t
  insertion_touches (Exact p) h = touches_more 0 0 1 2 2 4 (omega arith) (omega arith) (omega arith) h
  insertion_touches (SplitLeaf p used) h = touches_more 2 0 3 2 2 4 (omega arith) (omega arith) (omega arith) h
  insertion_touches (MismatchPrefix mismatch p) h = touches_more 2 0 4 2 2 4 (omega arith) (omega arith) (omega arith) h
  insertion_touches (IntoExisting p) h = go (is_full s p) h
    where
      go : (full : Bool) → MatchBool full (TouchesAtMost 2 1 3 s t) (TouchesAtMost 1 0 3 s t) → TouchesAtMost 2 2 4 s t
      go true k = touches_more 2 1 3 2 2 4 (omega arith) (omega arith) (omega arith) k
      go false k = touches_more 1 0 3 2 2 4 (omega arith) (omega arith) (omega arith) k

  deletion_touches : (change : ParentChange) → TouchesFor change s t → TouchesAtMost 2 2 4 s t
  deletion_touches no_parent h = touches_more 0 1 0 2 2 4 (omega arith) (omega arith) (omega arith) h
  deletion_touches keeps h = touches_more 0 1 3 2 2 4 (omega arith) (omega arith) (omega arith) h
  deletion_touches (shrinks kind) h = touches_more 1 2 3 2 2 4 (omega arith) (omega arith) (omega arith) h
  deletion_touches is_compressed h = touches_more 0 2 4 2 2 4 (omega arith) (omega arith) (omega arith) h

-- the pair of a leaf with no siblings is the pair
pub pairs_back : {K V : Type 0} (reply : Option (K × V)) → option_map pair_of (option_map unlinked_leaf reply) ≡ reply
pairs_back None = refl
pairs_back (Some x) = refl

-- the tree of a root that is named by its layout
pub at_root : {K V : Type 0} (bytes : K → List ℕ) (P : ℕ) {s : Nodes K V} {root name : OpaqueNodePtr} {layout : Layout K V} →
    IsCanonicalTree (of_key bytes) P s root (pairs_of layout) layout → name ≡ name_of layout → IsCanonicalTree (of_key bytes) P s name (pairs_of layout) layout
at_root bytes P {s} {root} {name} {layout} by is = subst (λ n. IsCanonicalTree (of_key bytes) P s n (pairs_of layout) layout) (sym (is ∙ by.stands.0.named)) by

-- What an applied insert point leaves of a tree.
pub record HasApplied {K V : Type 0} (bytes : K → List ℕ) (P : ℕ) (s t : Nodes K V) (layout : Layout K V) (pair : K × V) (point : InsertPoint)
    (after : OpaqueNodePtr) (existing : Option (LeafNode K V)) : Type 0 where
  pub canonical : IsCanonical (of_key bytes) P t (Some after) (put (of_key bytes) pair (pairs_of layout))
  pub replaced : existing ≡ option_map unlinked_leaf (put_reply (of_key bytes) pair (pairs_of layout))
  pub kept : (pairs : List (K × V)) (new : Layout K V) → IsCanonicalTree (of_key bytes) P t after pairs new →
      ChangesInPlace (of_key bytes) s t (Some layout) (Some new)
  pub touches : Touches point.insert_kind s t
  pub promise : t.promise ≡ promise_after (placed_for s point.insert_kind) s.promise

-- What an applied delete point leaves of a tree.
pub record HasDeleted {K V : Type 0} (bytes : K → List ℕ) (P : ℕ) (s t : Nodes K V) (layout : Layout K V) (x : K × V) (point : DeletePoint)
    (after : Option OpaqueNodePtr) : Type 0 where
  pub canonical : IsCanonical (of_key bytes) P t after (remove_key (of_key bytes) (bytes x.0) (pairs_of layout))
  pub kept : ForRoot (of_key bytes) P t after (λ pairs new. ChangesInPlace (of_key bytes) s t (Some layout) new)
  pub touches : TouchesFor (parent_change s point.path) s t
  pub promise : t.promise ≡ promise_after (placed_for_deletion s point.path) s.promise

-- A failed application leaves all but the promise.
pub record IsRefused {K V : Type 0} (s t : Nodes K V) (placed : Promise) : Type 0 where
  pub same : SameNodes s t
  pub void : t.promise ≡ no_promise
  pub uncovered : is_covered placed s.promise ≡ true → ⊥

module _ {K V : Type 0} (bytes : K → List ℕ) (P : ℕ) {s : Nodes K V} {root : OpaqueNodePtr} {layout : Layout K V}
    (by : IsCanonicalTree (of_key bytes) P s root (pairs_of layout) layout) where
  -- ---- insertion

  -- what fails is not covered, so the key is not stored
  free_key : (k : K) (point : InsertPoint) → AnswersTo (of_key bytes) P layout (bytes k) point →
      (is_covered (placed_for s point.insert_kind) s.promise ≡ true → ⊥) → has_key (of_key bytes) (bytes k) (pairs_of layout) ≡ false
  free_key k point at uncovered = refused_new (at_root bytes P by at.root_is) at uncovered

  module _ {IsClone : K × V → K × V → Type 0} {side : Side} {t : Nodes K V} {k : K} {v : V} {point : InsertPoint} (z : Nodes K V)
      (free : is_conflict (of_key bytes) (bytes k) (pairs_of layout) ≡ false) (at : AnswersTo (of_key bytes) P layout (bytes k) point) where
    pub inserted_step : {after : OpaqueNodePtr} {existing : Option (LeafNode K V)} → HasApplied bytes P s t layout (k, v) point after existing →
        StepFrom bytes P IsClone side s t z (Some layout) (Insert k v) (Inserted (option_map pair_of existing)) (Some after)
    inserted_step {after} {existing} is =
        let (new, by_new) = is.canonical in (
          Some new,
          ap Some by_new.stands.0.named,
          record {
            answers = (free, ap (option_map pair_of) is.replaced ∙ pairs_back (put_reply (of_key bytes) (k, v) (pairs_of layout)), (tree_radix by_new).1);
            refuses = tt;
            sound = own_pairs bytes P by_new;
            changes = record {
              side = refl;
              kept = is.kept (put (of_key bytes) (k, v) (pairs_of layout)) new by_new;
              touches = insertion_touches point.insert_kind is.touches;
              other = refl;
            };
            promises = is.promise ∙ ap (λ placed. promise_after placed s.promise) (needs_inserted bytes P by k v point at);
          },
        )

    pub refused_step : {pair : K × V} → pair ≡ (k, v) → IsRefused s t (placed_for s point.insert_kind) →
        StepFrom bytes P IsClone side s t z (Some layout) (Insert k v) (NoMemory (Some pair)) (Some root)
    refused_step handed is = (
      Some layout,
      ap Some by.stands.0.named,
      record {
        answers = (free_key k point at is.uncovered, ap Some handed, refl);
        refuses = inr (λ promised. is.uncovered (ap (λ placed. is_covered placed s.promise) (needs_inserted bytes P by k v point at) ∙ promised));
        sound = own_pairs bytes P (tree_stays is.same by);
        changes = nothing z (Some layout) is.same;
        promises = rw free (inr is.void);
      },
    )

  -- a key in conflict, with its bytes or out of memory for them
  module _ {IsClone : K × V → K × V → Type 0} {side : Side} {k : K} {v : V} (z : Nodes K V)
      (refused : is_conflict (of_key bytes) (bytes k) (pairs_of layout) ≡ false → ⊥) where
    pub conflict_step : (error : InsertPrefixError) → boxed_slice_items error.byte_repr ≡ bytes k →
        StepFrom bytes P IsClone side s s z (Some layout) (Insert k v) (Conflict k v error) (Some root)
    conflict_step error repr = let related = not_false (is_conflict (of_key bytes) (bytes k) (pairs_of layout)) refused in (
      Some layout,
      ap Some by.stands.0.named,
      record {
        answers = (related, refl, refl, repr, refl);
        refuses = tt;
        sound = own_pairs bytes P by;
        changes = nothing z (Some layout) (refl, refl);
        promises = refl;
      },
    )

    pub no_bytes_step : StepFrom bytes P IsClone side s s z (Some layout) (Insert k v) (NoMemory (Some (k, v))) (Some root)
    no_bytes_step = let related = not_false (is_conflict (of_key bytes) (bytes k) (pairs_of layout)) refused in (
      Some layout,
      ap Some by.stands.0.named,
      record {
        answers = (conflict_new (of_key bytes) (bytes k) (pairs_of layout) by.is_map related, refl, refl);
        refuses = inl related;
        sound = own_pairs bytes P by;
        changes = nothing z (Some layout) (refl, refl);
        promises = rw related refl;
      },
    )

  -- ---- deletion

  -- a deletion touches a few names, whatever command it is for
  touched : (IsClone : K × V → K × V → Type 0) (t : Nodes K V) (x : K × V) (d : Command K V) →
      Answers bytes IsClone (pairs_of layout) d (Deleted (Some x)) (remove_key (of_key bytes) (bytes x.0) (pairs_of layout)) →
      TouchesAtMost 2 2 4 s t → TouchesBy bytes (Some layout) d s t
  touched IsClone t x (InsertPrefix k v) h few = absurd h
  touched IsClone t x d h few = few

  module _ {IsClone : K × V → K × V → Type 0} {side : Side} {t : Nodes K V} {c : Command K V} {x : K × V} {point : DeletePoint} (z : Nodes K V)
      (leads : LeadsTo layout x point) (takes : Answers bytes IsClone (pairs_of layout) c (Deleted (Some x))
      (remove_key (of_key bytes) (bytes x.0) (pairs_of layout))) where
    pub deleted_step : {after : Option OpaqueNodePtr} → HasDeleted bytes P s t layout x point after →
        StepFrom bytes P IsClone side s t z (Some layout) c (Deleted (Some x)) after
    deleted_step {after} is =
        let has = has_tree bytes P t after (remove_key (of_key bytes) (bytes x.0) (pairs_of layout)) is.canonical in (
          has.tree,
          has.shows,
          record {
            answers = subst (λ new. Answers bytes IsClone (pairs_of layout) c (Deleted (Some x)) new) (sym has.pairs_are) takes;
            refuses = tt;
            sound = has.sound;
            changes =
                record {
                  side = refl;
                  kept = is.kept (remove_key (of_key bytes) (bytes x.0) (pairs_of layout)) has.tree has.is_root;
                  touches = touched
                      IsClone t x c takes (deletion_touches (parent_change s point.path) is.touches);
                  other = refl;
                };
            promises = is.promise ∙ ap (λ placed. promise_after placed s.promise) (needs_deleted bytes P by IsClone c x point leads takes);
          },
        )
