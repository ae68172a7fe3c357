-- The orders of names.
use Rattle.std.proofs.Common.{◌≡◌, ◌≢◌, ◌⊎◌, inl, inr, ℕ, Bool, true, false, ◌&&◌, refl, sym, ap, ◌∙◌, eqb}
use Rattle.std.specs.Ordering.{nat_cmp, ordering_then, is_eq, eq_by_cmp}
use Rattle.std.specs.Cmp.{IsTotalOrder, on_total, then_total, nat_cmp_total, tied_itself, unsigned_tied}
use Rattle.std.specs.FinMap.{IsAntisymmetric, nat_cmp-IsAntisymmetric}
use Rattle.std.specs.declared.cmp.Ordering.{Ordering}
use Rattle.std.specs.declared.cmp.Ordering.TheVariants.{Less, Equal, Greater}
use Rattle.art_parts.specs.Kinds.{kind_index}
use Rattle.art_parts.specs.Names.{leaf_cmp, inner_cmp}
use Rattle.art_parts.specs.Codes.{kind_at, kind_at-index}
use Rattle.art_parts.specs.declared.names.NodeType.{NodeType}
use Rattle.art_parts.specs.declared.names.LeafPtr.{LeafPtr}
use Rattle.art_parts.specs.declared.names.InnerPtr.{InnerPtr}

module _ {N : Type 0} {R : N → N → Ordering} (same : IsAntisymmetric R) where
  tied : (q p : N) (r : Ordering) → R q p ≡ r → is_eq r ≡ true → q ≡ p
  tied q p Less e t = absurd (cc)
  tied q p Equal e t = same q p e
  tied q p Greater e t = absurd (cc)

  -- two names that differ don't tie
  pub apart : (q p : N) → q ≢ p → (b : Bool) → eq_by_cmp R q p ≡ b → b ≡ false
  apart q p n true e = absurd (n (tied q p _ refl e))
  apart q p n false e = refl

  pub same_or_not : IsTotalOrder R → (q p : N) → (q ≡ p) ⊎ (q ≢ p)
  same_or_not order q p = by_tie _ refl
    where
      by_tie : (b : Bool) → eq_by_cmp R q p ≡ b → (q ≡ p) ⊎ (q ≢ p)
      by_tie true e = inl (tied q p _ refl e)
      by_tie false e = inr (λ s. absurd (cc (ap (λ n. eq_by_cmp R n p) s ∙ ap is_eq (tied_itself order p))))

pub leaf_cmp_total : IsTotalOrder leaf_cmp
leaf_cmp_total = on_total (λ p. p.slot) nat_cmp_total

pub inner_cmp_total : IsTotalOrder inner_cmp
inner_cmp_total = then_total (on_total (λ p. kind_index p.kind) nat_cmp_total) (on_total (λ p. p.slot) nat_cmp_total)

pub same_kind : (k l : NodeType) → kind_index k ≡ kind_index l → k ≡ l
same_kind k l e = sym (kind_at-index k) ∙ ap kind_at e ∙ kind_at-index l

pub leaf_cmp-IsAntisymmetric : IsAntisymmetric leaf_cmp
leaf_cmp-IsAntisymmetric p q e = ap (λ (n : ℕ). let r : LeafPtr = record { slot = n } in r) (nat_cmp-IsAntisymmetric p.slot q.slot e)

then_tied : (a b : Ordering) → is_eq (ordering_then a b) ≡ (is_eq a && is_eq b)
then_tied Less b = refl
then_tied Equal b = refl
then_tied Greater b = refl

then_first : (a b : Ordering) → ordering_then a b ≡ Equal → a ≡ Equal
then_first Less b e = e
then_first Equal b e = refl
then_first Greater b e = e

then_second : (a b : Ordering) → ordering_then a b ≡ Equal → b ≡ Equal
then_second Less b e = absurd (cc)
then_second Equal b e = e
then_second Greater b e = absurd (cc)

pub inner_cmp-IsAntisymmetric : IsAntisymmetric inner_cmp
inner_cmp-IsAntisymmetric p q e =
    let k : p.kind ≡ q.kind = same_kind _ _ (nat_cmp-IsAntisymmetric _ _ (then_first _ _ e)) in
    let s : p.slot ≡ q.slot = nat_cmp-IsAntisymmetric _ _ (then_second _ _ e) in
    λ i. record { kind = k i; slot = s i }

-- two names of leaves tie exactly if their slots are equal
pub leaf_tied : (p q : LeafPtr) → eq_by_cmp leaf_cmp p q ≡ eqb p.slot q.slot
leaf_tied p q = unsigned_tied p.slot q.slot

pub inner_tied : (p q : InnerPtr) → eq_by_cmp inner_cmp p q ≡ (eqb (kind_index p.kind) (kind_index q.kind) && eqb p.slot q.slot)
inner_tied p q = then_tied _ _ ∙ ap (λ b. b && eq_by_cmp nat_cmp p.slot q.slot) (unsigned_tied _ _)
    ∙ ap (λ b. eqb (kind_index p.kind) (kind_index q.kind) && b) (unsigned_tied _ _)
