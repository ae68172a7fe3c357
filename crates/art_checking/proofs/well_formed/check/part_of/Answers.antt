use Rattle.std.proofs.Common.{◌≡◌, ◌∙◌, ◌+◌, ◌-◌, ◌<◌, ◌≤◌, ◌⊎◌, inl, inr, ℕ, List, length, take, drop, Bor, Option, Some, None, ap, arith, sym, subst, slice_range, MatchOption}
use Rattle.art_model.specs.Prelude.{Node, leaf_node, OpaqueNodePtr}
use Rattle.art_checking.specs.Checked.{IsPartOf}
use Rattle.art_checking.proofs.LeastDescents.{leaf_at}
use Rattle.art_checking.proofs.well_formed.check.part_of.Goals as goal

-- there is one leaf under a name
one_leaf : {A : Type 0} {x y : A} {o : Option (Node OpaqueNodePtr A)} → o ≡ Some (leaf_node x) → o ≡ Some (leaf_node y) → x ≡ y
one_leaf e f = cc

-- what is cut out of a key is that many of its bytes
cut_out : (o : Option (Bor (List ℕ))) (whole : List ℕ) (depth len : ℕ) {end : ℕ} → end ≡ depth + len →
    MatchOption o ((end < depth) ⊎ (length whole < end))
    (λ x. (depth ≤ end) × (end ≤ length whole) × (x.now ≡ slice_range whole depth end) × (length x.now + depth ≡ end)) →
    MatchOption o (length whole < depth + len) (λ part. IsPartOf depth len whole part.now)
cut_out None whole depth len e (inl l) = absurd (omega arith)
cut_out None whole depth len e (inr l) = omega arith
cut_out (Some x) whole depth len {end} e (from, to, is, long) =
    let n : end - depth ≡ len = omega arith in
    (omega arith, omega arith, is ∙ ap (λ k. take k (drop depth whole)) n)

pub returns : goal.returns
returns g c x at =
    let only = one_leaf (leaf_at c.args.store.now c.args.leaf c.in_ok-leaf.field-0.now (sym c.in_ok-leaf.ensures)) at in
    subst (λ key. MatchOption c.get.result (length key < c.args.depth + c.args.len) (λ part. IsPartOf c.args.depth c.args.len key part.now))
    (c.as_bytes-key.ensures ∙ ap (λ p. g.K.AsBytes.bytes p.0) only)
    (cut_out c.get.result c.as_bytes-key.result.now c.args.depth c.args.len c.in_ok-end.ensures.1 c.get.ensures.lookup.0)
