use Rattle.std.proofs.Common.{refl}
use Rattle.art_model.specs.Prelude.{CalledOnPair}
use Rattle.art_iterating.specs.MapItems.{pairs_between}
use Rattle.art_changing.specs.MapPairs.{pairs_at}
use Rattle.art_map.proofs.Changed.{begins, ends, fewer, goes_on}
use Rattle.art_map.proofs.map.each.change_pairs.Goals as goal

pub loop-leaf-init : goal.loop-leaf-init
loop-leaf-init g c = (
  begins g.K.AsBytes.bytes g.row.P (λ f x next value. CalledOnPair g.F.FnMut f x tt next value) c.args.root c.args.len c.args.f.now
      (pairs_between c.args.store.now c.args.walk c.args.len) (pairs_at c.args.store.now c.args.root) c.requires.walk refl refl c.requires.holds,
  c.requires.callable,
)

pub loop-leaf-smaller : goal.loop-leaf-smaller
loop-leaf-smaller g c =
    let now = c.loop-leaf.invariant.0 in
    let next = c.in-Some.ensures in
    fewer g.K.AsBytes.bytes g.row.P (λ f x next value. CalledOnPair g.F.FnMut f x tt next value) c.args.root c.args.len c.args.f.now
    (pairs_between c.args.store.now c.args.walk c.args.len) (pairs_at c.args.store.now c.args.root) now (next.leaf now.names now.is)
    (next.rest now.names now.is)
    c.with_pair_mut.ensures.called

pub loop-leaf-preserved : goal.loop-leaf-preserved
loop-leaf-preserved g c =
    let now = c.loop-leaf.invariant.0 in
    let next = c.in-Some.ensures in (
      goes_on g.K.AsBytes.bytes g.row.P (λ f x next value. CalledOnPair g.F.FnMut f x tt next value) c.args.root c.args.len c.args.f.now
          (pairs_between c.args.store.now c.args.walk c.args.len) (pairs_at c.args.store.now c.args.root) now (next.leaf now.names now.is)
          (next.rest now.names now.is)
          c.with_pair_mut.ensures.called,
      c.with_pair_mut.ensures.callable,
    )

pub returns : goal.returns
returns g c =
    let now = c.loop-leaf.invariant.0 in
    record {
      changed = ends g.K.AsBytes.bytes g.row.P (λ f x next value. CalledOnPair g.F.FnMut f x tt next value) c.args.root c.args.len c.args.f.now
          (pairs_between c.args.store.now c.args.walk c.args.len) (pairs_at c.args.store.now c.args.root) now (c.in_default.ensures.leaf now.names now.is);
      callable = c.loop-leaf.invariant.1;
    }
