-- The pairs on which `retain` called its closure, and those that it left.
use Rattle.std.specs.Prelude.{◌≡◌, ℕ, Bool, true, false, not, cond, filter, List, [], ◌∷◌, ◌++◌, Option, Some, None}
use Rattle.std.specs.Borrow.{MutBor}
use Rattle.std.specs.Fn.{Mut}
use Rattle.std.specs.declared.ops.Bound.{Bound}
use Rattle.std.specs.declared.ops.Bound.TheVariants.{Excluded, Unbounded}
use Rattle.art_nodes.specs.LeafCalls.{CalledOnPair}
use Rattle.art_nodes.specs.Nodes.{Nodes}
use Rattle.art_model.specs.Pairs.{IsMap, of_key, remove_key}
use Rattle.art_model.specs.Parts.{is_between}
use Rattle.art_model.specs.Roots.{ForTree}
use Rattle.art_parts.specs.declared.names.OpaqueNodePtr.{OpaqueNodePtr}
use Rattle.art_writing.specs.Deleted.{LeadsTo, IsDeletePointIn}
use Rattle.art_writing.specs.declared.delete.DeletePoint.{DeletePoint}
use Rattle.art_map.specs.MapCalls.{ChangesBy}
use Rattle.art_iterating.specs.MapItems.{keys_of}
use Rattle.art_changing.specs.MapPairs.{HoldsPairs, pairs_at}
use denote.Ref.{Bor}

module _ {F A : Type 0} (asks : F → A → Bool → F → Type 0) where
  -- f was called on each item in turn, once, and on nothing else. Those for which it returned true are left.
  abbrev pub Retains : F → List A → List A → F → Type 0
  Retains f [] kept left = (kept ≡ []) × (f ≡ left)
  Retains f (x ∷ xs) kept left =
      (b : Bool) × (next : F) × (rest : List A) × asks f x b next × Retains next xs rest left × (kept ≡ cond b (x ∷ rest) rest)

  -- the same, with any last state of the closure
  abbrev pub RetainsAll : F → List A → List A → Type 0
  RetainsAll f before after = (left : F) × Retains f before after left

module _ {F K V : Type 0} (g : Mut F (Bor K × (MutBor V × Unit {0})) (Bool × (MutBor V × Unit {0}))) where
  -- The same of pairs: a call may also leave another value, which the key now has, if its pair is left.
  abbrev pub RetainsPairs : F → List (K × V) → List (K × V) → F → Type 0
  RetainsPairs f [] kept left = (kept ≡ []) × (f ≡ left)
  RetainsPairs f (x ∷ xs) kept left =
      (b : Bool) × (value : V) × (next : F) × (rest : List (K × V)) × CalledOnPair g f x b next value × RetainsPairs next xs rest left ×
      (kept ≡ cond b ((x.0, value) ∷ rest) rest)

  -- the same, with any last state of the closure
  abbrev pub RetainsAllPairs : F → List (K × V) → List (K × V) → Type 0
  RetainsAllPairs f before after = (left : F) × RetainsPairs f before after left

  -- ---- one step of it. No public clause cites what follows.

  -- f returned true for each pair and left other values
  abbrev pub KeepsEach : F → List (K × V) → List (K × V) → F → Type 0
  KeepsEach f before after left = ChangesBy (λ f x next value. CalledOnPair g f x true next value) f before after left

  -- f returned true for each pair up to one for which it returned false, and left the values of these pairs
  pub record StopsAt (f : F) (before after : List (K × V)) (x : K × V) (left : F) : Type 0 where
    pub seen : List (K × V)
    pub done : List (K × V)
    pub rest : List (K × V)
    pub value : V
    pub next : F
    pub before_is : before ≡ seen ++ (x.0, value) ∷ rest
    pub after_is : after ≡ done ++ x ∷ rest
    pub kept : KeepsEach f seen done next
    pub refused : CalledOnPair g next (x.0, value) false left x.1

-- the bound after the key of a pair, if there is one
abbrev pub after_pair : {A : Type 0} → (A → List ℕ) → Option A → Bound (List ℕ)
after_pair bytes None = Unbounded
after_pair bytes (Some x) = Excluded (bytes x)

module _ {A : Type 0} (bytes : A → List ℕ) (last : Option A) where
  -- whether a pair is after this one, if there is one
  abbrev pub is_after : A → Bool
  is_after x = is_between (after_pair bytes last) Unbounded (bytes x)

  -- the pairs after this one
  abbrev pub pairs_after : List A → List A
  pairs_after pairs = filter is_after pairs

  -- the other pairs
  abbrev pub pairs_up_to : List A → List A
  pairs_up_to pairs = filter (λ x. not (is_after x)) pairs

-- Only values of pairs after this one differ.
pub record AreAlikeUpTo {K V : Type 0} (bytes : K → List ℕ) (last : Option (K × V)) (before after : List (K × V)) : Type 0 where
  pub keys : keys_of after ≡ keys_of before
  pub others : pairs_up_to (of_key bytes) last after ≡ pairs_up_to (of_key bytes) last before
  pub sorted : IsMap (of_key bytes) after

module _ {F K V : Type 0} (g : Mut F (Bor K × (MutBor V × Unit {0})) (Bool × (MutBor V × Unit {0}))) (bytes : K → List ℕ) (last : Option (K × V)) (f : F)
    (before : List (K × V)) where
  -- f returned true for all pairs after this one, or for those up to one for which it returned false
  abbrev pub CallsUpTo : Option (K × V) → F → List (K × V) → Type 0
  CallsUpTo None left after =
      AreAlikeUpTo bytes last before after × KeepsEach g f (pairs_after (of_key bytes) last before)
      (pairs_after (of_key bytes) last after) left
  CallsUpTo (Some x) left after =
      AreAlikeUpTo bytes last before after × StopsAt g f (pairs_after (of_key bytes) last before)
      (pairs_after (of_key bytes) last after) x left

  -- and that one was removed
  abbrev pub TakesRefused : Option (K × V) → F → List (K × V) → Type 0
  TakesRefused None left after = CallsUpTo None left after
  TakesRefused (Some x) left after = (changed : List (K × V)) × CallsUpTo (Some x) left changed × (after ≡ remove_key (of_key bytes) (bytes x.0) changed)

module _ {F K V : Type 0} (g : Mut F (Bor K × (MutBor V × Unit {0})) (Bool × (MutBor V × Unit {0}))) (bytes : K → List ℕ) (P : ℕ)
    (last : Option (K × V)) (f : F)
    (before : List (K × V)) where
  -- the same of what a store, a root and a length stand for
  abbrev pub HasTakenRefused : Option (K × V) → F → Nodes K V → Option OpaqueNodePtr → ℕ → Type 0
  HasTakenRefused result left t root len =
      (after : List (K × V)) × HoldsPairs (of_key bytes) P t root len after × TakesRefused g bytes last f before result left after

  -- f returned true for all these pairs, or the point is that of the first one for which it returned false
  abbrev pub FindsRefused : Option DeletePoint → F → Nodes K V → OpaqueNodePtr → ℕ → Type 0
  FindsRefused None left t root len =
      HoldsPairs (of_key bytes) P t (Some root) len (pairs_at t (Some root)) × CallsUpTo g bytes last f before None left (pairs_at t (Some root))
  FindsRefused (Some point) left t root len =
      (x : K × V) × HoldsPairs (of_key bytes) P t (Some root) len (pairs_at t (Some root)) ×
      CallsUpTo g bytes last f before (Some x) left (pairs_at t (Some root)) × ForTree (of_key bytes) P t root (λ all layout. LeadsTo layout x point) ×
      IsDeletePointIn (of_key bytes) P t root point
