use Rattle.std.proofs.Common.{◌≡◌, ◌+◌, ◌<◌, ◌≤◌, length, inl, inr, sym, subst, arith}
use Rattle.std.specs.List.Sorted.{IsNonDecreasing, IsPartitionPoint}
use Rattle.prefix_table.specs.Starts.{AreUpwards, IsCount, starts_of}
use Rattle.prefix_table.proofs.StartLemmas.{count_is_of_four, count_is_of_six, four_rise, six_rise}
use Rattle.prefix_table.proofs.starts.Starts.count_near.Goals as goal

pub count_four-requires : goal.count_four-requires
count_four-requires c =
    subst IsNonDecreasing (sym c.deref.ensures.value)
    (four_rise c.self.inside.four.items c.self.inside.six.items (subst AreUpwards (sym c.self.view_is) c.requires.order))

pub count_six-found-requires : goal.count_six-found-requires
count_six-found-requires c =
    subst IsNonDecreasing (sym c.deref-2.ensures.value)
    (six_rise c.self.inside.four.items c.self.inside.six.items (subst AreUpwards (sym c.self.view_is) c.requires.order))

pub returns-then-address-eq4-clause-count : goal.returns-then-address-eq4-clause-count
returns-then-address-eq4-clause-count c =
    subst (λ starts. IsCount starts c.args.address c.count_four.result.count) c.self.view_is
    (count_is_of_four c.self.inside.four.items c.self.inside.six.items c.args.address c.count_four.result.count c.if-address-eq4.true
    (subst (λ ns. IsPartitionPoint (λ n. n ≤ c.args.address.number) (λ n. c.args.address.number < n) ns c.count_four.result.count)
    c.deref.ensures.value c.count_four.ensures.parts)
    (subst (λ ns. c.count_four.result.count ≤ length ns) c.deref.ensures.value c.count_four.ensures.bounded))

pub returns-clause-count : goal.returns-clause-count
returns-clause-count c =
    let six : c.args.address.version ≡ 6 =
    elim c.requires.address.version_is [ inl four ↦ absurd (c.if-address-eq4.false four) | inr six ↦ six ] in
    let four : c.len.result ≡ length c.self.inside.four.items = omega (arith, c.len.ensures, c.self.inside.four.ok.0) in
    let found = c.count_six-found.result.count in
    subst (λ starts. IsCount starts c.args.address (c.len.result + found)) c.self.view_is
    (subst (λ n. IsCount (starts_of c.self.inside.four.items c.self.inside.six.items) c.args.address (n + found)) (sym four)
    (count_is_of_six c.self.inside.four.items c.self.inside.six.items c.args.address found six
    (subst (λ ns. IsPartitionPoint (λ n. n ≤ c.args.address.number) (λ n. c.args.address.number < n) ns found)
    c.deref-2.ensures.value c.count_six-found.ensures.parts)
    (subst (λ ns. found ≤ length ns) c.deref-2.ensures.value c.count_six-found.ensures.bounded)))
