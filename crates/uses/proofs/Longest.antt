-- A fold that keeps the greater of two lengths finds the longest key.
use Rattle.std.proofs.Common.{◌≡◌, ℕ, List, [], ◌∷◌, ◌++◌, length, max, sym, ap₂, ◌∙◌, arith}
use Rattle.art_nodes.specs.Nodes.{Nodes}
use Rattle.art_parts.specs.declared.names.OpaqueNodePtr.{OpaqueNodePtr}
use Rattle.art_model.specs.Layouts.{Holds}
use Rattle.art_model.specs.Pairs.{of_key}
use Rattle.art_model.specs.Radix.{pairs_of}
use Rattle.art_model.specs.Stores.{node_at}
use Rattle.art_model.specs.Trees.{Tree}
use Rattle.art_operations.specs.Folds.{Folds}
use Rattle.art_operations.proofs.CallerLemmas.{folds_to}
use Rattle.uses.specs.Longest.{longest}

module _ {A : Type 0} (bytes : A → List ℕ) where
  -- the longest key of two lists is the longer one of both
  longest-append : (xs ys : List A) → longest bytes (xs ++ ys) ≡ max (longest bytes xs) (longest bytes ys)
  longest-append [] ys = omega arith
  longest-append (x ∷ xs) ys = let rest = longest-append xs ys in omega arith

module _ {K V T : Type 0} (bytes : K → List ℕ) (s : Nodes K V) where
  pub folds_longest : (t : Tree OpaqueNodePtr (K × V)) (old new : T) (out : ℕ) → Holds (node_at s) t →
      Folds (λ old node out new. out ≡ length (bytes node.key)) (λ old kind node children out new. out ≡ children)
      (λ now first second out. out ≡ max first second) s t old out new →
      out ≡ longest (of_key bytes) (pairs_of t)
  folds_longest = folds_to (λ old node out new. out ≡ length (bytes node.key)) (λ old kind node children out new. out ≡ children)
      (λ now first second out. out ≡ max first second) s
      (λ xs out. out ≡ longest (of_key bytes) xs)
      (λ old new node out is. omega (arith, is))
      (λ old new kind node joined out xs is whole. is ∙ whole)
      (λ now first second out xs ys is one other. is ∙ ap₂ max one other ∙ sym (longest-append (of_key bytes) xs ys))
