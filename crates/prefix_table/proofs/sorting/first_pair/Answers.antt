use Rattle.std.proofs.Common.{◌≡◌, ◌+◌, ◌-◌, sym, ◌∙◌, length, arith, subst}
use Rattle.prefix_table.specs.Sorting.{IsFirstPairOf}
use Rattle.prefix_table.proofs.SortingLemmas.{other_networks, pair_is_nearer, pair_of_all, pair_stays, same_networks}
use Rattle.prefix_table.proofs.sorting.first_pair.Goals as goal
use Rattle.prefix_table.proofs.sorting.first_pair.Goals.{else-eq, then-eq}

pub loop-at-preserved : goal.loop-at-preserved
loop-at-preserved c =
    let rows = c.args.rows.now in
    let at = c.loop-at.at in
    let earlier = c.network_of.ensures in
    let later = c.network_of-in-loop-at.ensures in
    elim c.if-eq.branch [
      | then-eq w ↦
          let same = same_networks c.network_of.result c.network_of-in-loop-at.result (sym c.eq.ensures ∙ w.if-eq.true) in
          subst (IsFirstPairOf rows (at + 1 + 1)) (sym (w.found-is ∙ w.nearer-found.ensures))
          (pair_is_nearer rows at c.loop-at.found c.loop-at.invariant (sym earlier ∙ same ∙ later))
      | else-eq w ↦
          let other = other_networks c.network_of.result c.network_of-in-loop-at.result (sym c.eq.ensures ∙ w.if-eq.false) in
          subst (IsFirstPairOf rows (at + 1 + 1)) (sym w.found-is)
          (pair_stays rows at c.loop-at.found c.loop-at.invariant (λ same. other (earlier ∙ same ∙ sym later)))
    ]

pub returns : goal.returns
returns c =
    let all : c.loop-at.at ≡ length c.args.rows.now - 1 = omega (arith, c.loop-at.auto.at-end) in
    pair_of_all c.args.rows.now (length c.args.rows.now) c.loop-at.found
    (subst (λ n. IsFirstPairOf c.args.rows.now (n + 1) c.loop-at.found) all c.loop-at.invariant)
