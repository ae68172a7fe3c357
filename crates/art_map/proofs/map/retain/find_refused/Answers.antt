use Rattle.std.proofs.Common.{◌≡◌, ap, ◌∙◌, sym, subst, refl, Some, true, false, rules, is_some, option_map}
use Rattle.std.specs.Range.Bound.{bound_map}
use Rattle.std.specs.declared.ops.Bound.TheVariants.{Unbounded}
use Rattle.art_model.specs.Prelude.{CalledOnPair, of_key, remove_reply, between, is_between, ForTree, pair_of}
use Rattle.art_nodes.specs.LeafCalls.{CallsOnLeaf}
use Rattle.art_writing.specs.Deleted.{IsDeletePoint}
use Rattle.art_iterating.specs.MapItems.{deref_pair, pairs_between}
use Rattle.art_changing.specs.MapPairs.{pairs_at}
use Rattle.art_map.proofs.Changed.{begins, ends, fewer, goes_on}
use Rattle.art_changing.proofs.MapPuts.{at_root}
use Rattle.art_iterating.proofs.Ranges.{range_pairs, range_there}
use Rattle.art_map.proofs.Refusing.{all_kept, finds, refused_at, same_some}
use Rattle.art_map.proofs.map.retain.find_refused.Goals as goal

pub loop-leaf-init : goal.loop-leaf-init
loop-leaf-init g c =
    let has = at_root (of_key g.K.AsBytes.bytes) g.row.P c.requires.holds in
    let range = range_there has.by (λ x. is_between (bound_map (λ b. b.now) c.bound_after.result) Unbounded (g.K.AsBytes.bytes x.0))
    (c.range_unchecked-walk.ensures _ has.layout has.by) has.len_is in (
      begins g.K.AsBytes.bytes g.row.P (λ f x next value. CalledOnPair g.F.FnMut f x true next value) (Some c.args.root) c.args.len c.args.f.now
          (pairs_between c.args.store.now c.range_unchecked-walk.result c.args.len)
          (pairs_at c.args.store.now (Some c.args.root)) range refl refl c.requires.holds,
      c.requires.callable,
    )

pub loop-leaf-smaller : goal.loop-leaf-smaller
loop-leaf-smaller g c =
    let now = c.loop-leaf.invariant.0 in
    let next = c.in-Some.ensures in
    let yes : c.with_pair_mut.result ≡ true = search rules in
    let called = subst (λ b. CallsOnLeaf g.F.FnMut c.in-Some.leaf c.loop-leaf.f c.loop-leaf.store b c.with_pair_mut.new.f
    c.with_pair_mut.new.self) yes c.with_pair_mut.ensures.called in
    fewer g.K.AsBytes.bytes g.row.P (λ f x next value. CalledOnPair g.F.FnMut f x true next value) (Some c.args.root) c.args.len c.args.f.now
    (pairs_between c.args.store.now c.range_unchecked-walk.result c.args.len) (pairs_at c.args.store.now (Some c.args.root)) now
    (next.leaf now.names now.is) (next.rest now.names now.is) called

pub loop-leaf-preserved : goal.loop-leaf-preserved
loop-leaf-preserved g c =
    let now = c.loop-leaf.invariant.0 in
    let next = c.in-Some.ensures in
    let yes : c.with_pair_mut.result ≡ true = search rules in
    let called = subst (λ b. CallsOnLeaf g.F.FnMut c.in-Some.leaf c.loop-leaf.f c.loop-leaf.store b c.with_pair_mut.new.f
    c.with_pair_mut.new.self) yes c.with_pair_mut.ensures.called in (
      goes_on g.K.AsBytes.bytes g.row.P (λ f x next value. CalledOnPair g.F.FnMut f x true next value) (Some c.args.root) c.args.len c.args.f.now
          (pairs_between c.args.store.now c.range_unchecked-walk.result c.args.len) (pairs_at c.args.store.now (Some c.args.root)) now
          (next.leaf now.names now.is)
          (next.rest now.names now.is) called,
      c.with_pair_mut.ensures.callable,
    )

pub pair_at-requires : goal.pair_at-requires
pair_at-requires g c =
    let bytes = g.K.AsBytes.bytes in
    let has = at_root (of_key bytes) g.row.P c.requires.holds in
    let first =
    range_pairs has.by (λ x. is_between (bound_map (λ b. b.now) c.bound_after.result) Unbounded (bytes x.0))
    (c.range_unchecked-walk.ensures _ has.layout has.by) has.len_is
    ∙ ap (λ b. between (of_key bytes) b Unbounded (pairs_at c.args.store.now (Some c.args.root))) c.bound_after.ensures in
    let now = c.loop-leaf.invariant.0 in
    let next = c.in-Some.ensures in
    let no : c.with_pair_mut.result ≡ false = search rules in
    let (x, held, up_to, node, there, pair) =
    refused_at g.F.FnMut bytes g.row.P c.args.last.now c.args.f.now first now (next.leaf now.names now.is)
    (next.rest now.names now.is) c.with_pair_mut.ensures.called no in
    (search rules, ap is_some there)

pub search_for_delete_point_by_lengths-requires : goal.search_for_delete_point_by_lengths-requires
search_for_delete_point_by_lengths-requires g c =
    let bytes = g.K.AsBytes.bytes in
    let has = at_root (of_key bytes) g.row.P c.requires.holds in
    let first =
    range_pairs has.by (λ x. is_between (bound_map (λ b. b.now) c.bound_after.result) Unbounded (bytes x.0))
    (c.range_unchecked-walk.ensures _ has.layout has.by) has.len_is
    ∙ ap (λ b. between (of_key bytes) b Unbounded (pairs_at c.args.store.now (Some c.args.root))) c.bound_after.ensures in
    let now = c.loop-leaf.invariant.0 in
    let next = c.in-Some.ensures in
    let no : c.with_pair_mut.result ≡ false = search rules in
    let (x, held, up_to, node, there, pair) =
    refused_at g.F.FnMut bytes g.row.P c.args.last.now c.args.f.now first now (next.leaf now.names now.is)
    (next.rest now.names now.is) c.with_pair_mut.ensures.called no in
    let changed = at_root (of_key bytes) g.row.P held in
    (search rules, (_, changed.layout, changed.by))

pub returns-then-not-with_pair_mut-clause-found : goal.returns-then-not-with_pair_mut-clause-found
returns-then-not-with_pair_mut-clause-found g c =
    let bytes = g.K.AsBytes.bytes in
    let has = at_root (of_key bytes) g.row.P c.requires.holds in
    let first =
    range_pairs has.by (λ x. is_between (bound_map (λ b. b.now) c.bound_after.result) Unbounded (bytes x.0))
    (c.range_unchecked-walk.ensures _ has.layout has.by) has.len_is
    ∙ ap (λ b. between (of_key bytes) b Unbounded (pairs_at c.args.store.now (Some c.args.root))) c.bound_after.ensures in
    let now = c.loop-leaf.invariant.0 in
    let next = c.in-Some.ensures in
    let no : c.with_pair_mut.result ≡ false = search rules in
    let (x, held, up_to, node, there, pair) =
    refused_at g.F.FnMut bytes g.row.P c.args.last.now c.args.f.now first now (next.leaf now.names now.is)
    (next.rest now.names now.is) c.with_pair_mut.ensures.called no in
    let shown : deref_pair c.pair_at.result ≡ x = same_some (sym c.pair_at.ensures ∙ ap (option_map pair_of) there ∙ ap Some pair) in
    let found = c.search_for_delete_point_by_lengths.result in
    finds g.F.FnMut bytes g.row.P c.args.last.now c.args.f.now held up_to found
    (subst (λ k. ForTree (of_key bytes) g.row.P c.with_pair_mut.new.self c.args.root (λ all tree. IsDeletePoint tree (remove_reply (of_key bytes) k all) found))
    (c.as_bytes-key_bytes.ensures ∙ ap (λ y. bytes y.0) shown) c.search_for_delete_point_by_lengths.ensures.point)
    c.search_for_delete_point_by_lengths.ensures.applies

pub returns-clause-found : goal.returns-clause-found
returns-clause-found g c =
    let bytes = g.K.AsBytes.bytes in
    let has = at_root (of_key bytes) g.row.P c.requires.holds in
    let first =
    range_pairs has.by (λ x. is_between (bound_map (λ b. b.now) c.bound_after.result) Unbounded (bytes x.0))
    (c.range_unchecked-walk.ensures _ has.layout has.by) has.len_is
    ∙ ap (λ b. between (of_key bytes) b Unbounded (pairs_at c.args.store.now (Some c.args.root))) c.bound_after.ensures in
    let now = c.loop-leaf.invariant.0 in
    all_kept g.F.FnMut bytes g.row.P c.args.last.now c.args.f.now first
    (ends bytes g.row.P (λ f x next value. CalledOnPair g.F.FnMut f x true next value) (Some c.args.root) c.args.len c.args.f.now
    (pairs_between c.args.store.now c.range_unchecked-walk.result c.args.len) (pairs_at c.args.store.now (Some c.args.root)) now
    (c.in_default.ensures.leaf now.names now.is))
