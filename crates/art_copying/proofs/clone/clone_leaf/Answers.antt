use Rattle.art_model.proofs.stores.Lessened.{lessened_leaf}
use Rattle.art_copying.proofs.Cloning.{copied_leaf}
use Rattle.art_copying.proofs.clone.clone_leaf.Goals as goal

pub returns : goal.returns
returns g c = record {
  copied = λ tree full.
      copied_leaf g.K.Clone.is_clone g.V.Clone.is_clone c.args.store.now c.args.into.now c.place_leaf.new.self c.args.name c.in-Ok.name tree
      c.leaf_at-leaf.result.now c.in_ok-copy.copy full c.leaf_at-leaf.ensures c.in_ok-copy.ensures.leaf
      c.in-Ok.ensures.fresh c.in-Ok.ensures.placed c.in-Ok.ensures.inners c.in-Ok.ensures.promise c.to_opaque.ensures;
  leaves = tt;
  inners = tt;
  lessened = rw c.in-Ok.ensures.promise (lessened_leaf c.args.into.now.promise);
}
