-- Two trees in a store: the second one changes, and the first one is canonical.
use Rattle.std.proofs.Common.{◌≡◌, ℕ, List, Option, Some, None, IfSome, subst}
use Rattle.art_nodes.specs.Nodes.{Nodes}
use Rattle.art_parts.specs.declared.names.OpaqueNodePtr.{OpaqueNodePtr}
use Rattle.art_model.specs.Apart.{HasBoth, KeepsApart}
use Rattle.art_model.specs.Canonical.{IsCanonical}
use Rattle.art_model.specs.Roots.{IsCanonicalRoot}
use Rattle.art_operations.proofs.CallerLemmas.{both_changed, both_turned}

module _ {K V : Type 0} (bytes : K × V → List ℕ) (P : ℕ) where
  -- the second tree changes
  pub second_changed : (s t : Nodes K V) (first second new : Option OpaqueNodePtr) (pairs others after : List (K × V)) →
      HasBoth bytes P s first second pairs others →
      IsCanonical bytes P t new after → KeepsApart bytes P s t second new → HasBoth bytes P t first new pairs after
  second_changed s t first second new pairs others after h becomes kept = both_turned (both_changed (both_turned h) becomes kept)

  -- the first root is canonical, if there is one
  pub first_canonical : (s : Nodes K V) (first second : Option OpaqueNodePtr) (pairs others : List (K × V)) →
      HasBoth bytes P s first second pairs others → IfSome first (IsCanonicalRoot bytes P s)
  first_canonical s None second pairs others h = tt
  first_canonical s (Some root) second pairs others h = let (layout, is) = h.one in (pairs, layout, is)

  -- a root that is there may be named
  pub first_named : (s : Nodes K V) (first second : Option OpaqueNodePtr) (root : OpaqueNodePtr) (pairs others : List (K × V)) → first ≡ Some root →
      HasBoth bytes P s first second pairs others → HasBoth bytes P s (Some root) second pairs others
  first_named s first second root pairs others e h = subst (λ r. HasBoth bytes P s r second pairs others) e h
