-- A tree is unchanged where an inner node is placed outside it.
use Rattle.std.proofs.Common.{◌≡◌, ◌≢◌, ap, sym, subst, ◌∙◌, None, Result, Ok, Err, IfOk, OnErr, inl, inr}
use Rattle.std.specs.Option.{option_map}
use Rattle.std.specs.FinMap.{get, insert}
use Rattle.art_inner.specs.Inner.{Inner}
use Rattle.art_nodes.specs.Nodes.{Nodes}
use Rattle.art_parts.specs.declared.names.InnerPtr.{InnerPtr}
use Rattle.art_parts.specs.declared.names.OpaqueNodePtr.{OpaqueNodePtr}
use Rattle.art_nodes.proofs.StoreChanges.{inner_elsewhere as elsewhere}
use Rattle.art_model.specs.Stores.{content_at, held_leaf, held_inner}
use Rattle.art_model.proofs.stores.Views.{held_in_inner, leaf_or}

-- placing an inner node leaves what is in use, and so does a placement that fails
pub inner_elsewhere : {K V E : Type 0} (s t : Nodes K V) (x : Inner) (result : Result InnerPtr E) →
    IfOk result (λ n. t.inners ≡ insert s.inners n x) → IfOk result (λ n. get s.inners n ≡ None) → t.leaves ≡ s.leaves → OnErr result (t ≡ s) →
    (k : OpaqueNodePtr) → content_at s k ≢ None → content_at t k ≡ content_at s k
inner_elsewhere s t x (Err e) inners free leaves same k used = ap (λ m. content_at m k) same
inner_elsewhere s t x (Ok n) inners free leaves same k used = elim (leaf_or k) [
  | inl (p, e) ↦ subst (λ (z : OpaqueNodePtr). content_at t z ≡ content_at s z) (sym e) (ap (λ m. option_map held_leaf (get m p)) leaves)
  | inr off ↦ held_in_inner t k.kind k.slot off
      ∙ ap (λ m. option_map held_inner (get m (name k))) inners
      ∙ ap (option_map held_inner) (elsewhere s.inners n (name k) x (λ f.
      used (held_in_inner s k.kind k.slot off ∙ ap (λ q. option_map held_inner (get s.inners q)) f ∙ ap (option_map held_inner) free)))
      ∙ sym (held_in_inner s k.kind k.slot off)
]
  where
    name : OpaqueNodePtr → InnerPtr
    name k = record { kind = k.kind; slot = k.slot }
