-- What a closure or an iterator that was passed did with a map.
use Rattle.std.specs.Prelude.{◌≡◌, ℕ, false, List, [], ◌∷◌, Option, Some, None, MatchOption, Result, Ok, Err}
use Rattle.std.specs.Borrow.{MutBor}
use Rattle.std.specs.Fn.{CalledAtMut, FnOnceReturnsAtMut, Mut, Once}
use Rattle.std.specs.Iterator.{YieldsThen}
use Rattle.art_nodes.specs.LeafCalls.{CalledOnPair}
use Rattle.art_model.specs.Pairs.{has_key, of_key, put}
use Rattle.art_changing.specs.declared.insert.MapInsertError.{MapInsertError}
use Rattle.art_map.specs.declared.map.MapMakeError.{MapMakeError}
use Rattle.art_map.specs.declared.map.MapMakeError.TheVariants.{Insert, Make}
use Rattle.art_changing.specs.MapAnswers.{IsRefusalOf, value_at, with_value_at}
use denote.Ref.{Bor}

-- the pairs are unchanged if the key is not stored; else a call of f on its value left another, which the key now has
abbrev pub Modifies : {K V F : Type 0} → Once F (MutBor V × Unit {0}) (Unit {0} × (MutBor V × Unit {0})) → F → (K → List ℕ) → List ℕ →
    List (K × V) → List (K × V) → Type 0
Modifies {K} {V} g f bytes key before after =
    MatchOption (value_at bytes key before) (after ≡ before) (λ value.
    (left : V) × FnOnceReturnsAtMut g f value tt left × (after ≡ with_value_at bytes key left before))

module _ {K V F : Type 0} (calls : F → K × V → F → V → Type 0) where
  -- f was called on each pair in turn, once, and on nothing else. It left another value, which the key now has
  abbrev pub ChangesBy : F → List (K × V) → List (K × V) → F → Type 0
  ChangesBy f [] after left = (after ≡ []) × (f ≡ left)
  ChangesBy f (x ∷ xs) after left =
      (value : V) × (next : F) × (rest : List (K × V)) × calls f x next value × ChangesBy next xs rest left × (after ≡ (x.0, value) ∷ rest)

module _ {K V F : Type 0} (g : Mut F (MutBor V × Unit {0}) (Unit {0} × (MutBor V × Unit {0}))) where
  -- f was called on the value of each pair
  abbrev pub ChangesEach : F → List (K × V) → List (K × V) → F → Type 0
  ChangesEach f before after left = ChangesBy (λ f x next value. CalledAtMut g f x.1 tt next value) f before after left

  -- the same, with any last state of the closure
  abbrev pub ChangesValues : F → List (K × V) → List (K × V) → Type 0
  ChangesValues f before after = (left : F) × ChangesEach f before after left

module _ {K V F : Type 0} (g : Mut F (Bor K × (MutBor V × Unit {0})) (Unit {0} × (MutBor V × Unit {0}))) where
  -- f was called on the key and the value of each pair
  abbrev pub ChangesPairs : F → List (K × V) → List (K × V) → F → Type 0
  ChangesPairs f before after left = ChangesBy (λ f x next value. CalledOnPair g f x tt next value) f before after left

  -- the same, with any last state of the closure
  abbrev pub ChangesAll : F → List (K × V) → List (K × V) → Type 0
  ChangesAll f before after = (left : F) × ChangesPairs f before after left

-- the closure failed, no equal key is stored, and the key is returned; or the pair with the made value is returned
abbrev pub IsMakeRefusal : {K V E : Type 0} → (K → List ℕ) → K → (Result V E → Type 0) → List (K × V) → MapMakeError K V E → Type 0
IsMakeRefusal bytes key IsMade pairs (Make k error) = (k ≡ key) × IsMade (Err error) × (has_key (of_key bytes) (bytes key) pairs ≡ false)
IsMakeRefusal {K} {V} bytes key IsMade pairs (Insert error) = (value : V) × IsMade (Ok value) × IsRefusalOf bytes key value pairs error

-- the pairs after others were put, one after another
abbrev pub put_all : {K V : Type 0} → (K → List ℕ) → List (K × V) → List (K × V) → List (K × V)
put_all bytes [] pairs = pairs
put_all bytes (x ∷ xs) pairs = put_all bytes xs (put (of_key bytes) x pairs)

module _ {I K V : Type 0} (steps : I → Option (K × V) → I → Type 0) (bytes : K → List ℕ) where
  -- all items of an iterator were put
  abbrev pub PutsAll : I → List (K × V) → I → List (K × V) → Type 0
  PutsAll from before to after = (xs : List (K × V)) × YieldsThen steps from xs None to × (after ≡ put_all bytes xs before)

  -- the items before a pair were put, and the pair was rejected; the iterator has the others
  abbrev pub PutsUntil : I → List (K × V) → MapInsertError K V → I → List (K × V) → Type 0
  PutsUntil from before error to after =
      (xs : List (K × V)) × (x : K × V) × YieldsThen steps from xs (Some x) to × (after ≡ put_all bytes xs before) × IsRefusalOf bytes x.0 x.1 after error
