-- A map without a root has no pairs.
use Rattle.std.proofs.Common.{◌≡◌, ℕ, List, [], Option, Some, None, subst}
use Rattle.art_model.specs.Prelude.{Nodes, OpaqueNodePtr, IsRootOf, Tree}
use Rattle.art_changing.specs.MapPairs.{HoldsPairs}

pub no_pairs : {K V : Type 0} (bytes : K × V → List ℕ) (P : ℕ) (s : Nodes K V) {root : Option OpaqueNodePtr} {len : ℕ} {pairs : List (K × V)} → root ≡ None →
    HoldsPairs bytes P s root len pairs → pairs ≡ []
no_pairs {K} {V} bytes P s {len = len} {pairs = pairs} e is = let none = subst (λ r. HoldsPairs bytes P s r len pairs) e is in go none.tree none.canonical
  where
    go : (tree : Option (Tree OpaqueNodePtr (K × V))) → IsRootOf bytes P s None pairs tree → pairs ≡ []
    go None h = h
    go (Some t) h = absurd h
