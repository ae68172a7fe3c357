use Rattle.std.proofs.Common.{◌≡◌, ◌<◌, arith, length, slice_index, subst}
use Rattle.std.specs.List.{SwappedAt}
use Rattle.std.proofs.lemmas.List.{get_or_read}
use Rattle.prefix_table.proofs.ArrangeLemmas.{one_value_more}
use Rattle.prefix_table.proofs.arranging.arrange.Goals as goal

pub loop-at-preserved : goal.loop-at-preserved
loop-at-preserved g c =
    let l = c.loop-at in
    let h = l.invariant in
    let places = c.args.places.now in
    let origins = l.origins.items in
    let indexes = l.indexes.items in
    let fits : l.at < length places = omega arith in
    let place_fits = c.requires.places.fits l.at fits in
    let many_o = h.many_origins in
    let many_x = h.many_indexes in
    let index_is : c.index.result.now ≡ slice_index indexes (slice_index places l.at) =
    get_or_read indexes (slice_index places l.at) c.index.result.now (omega arith) c.index.ensures 0 in
    let moved_is : c.index-in-loop-at.result.now ≡ slice_index origins l.at =
    get_or_read origins l.at c.index-in-loop-at.result.now (omega arith) c.index-in-loop-at.ensures 0 in
    let v = c.swap.ensures.by_index in
    let o = c.swap-in-loop-at.ensures.by_index in
    let x = c.swap-in-loop-at-2.ensures.by_index in
    one_value_more places c.args.values.now c.requires.places l.values c.swap.new.self origins indexes c.swap-in-loop-at.new.self.items
    c.swap-in-loop-at-2.new.self.items l.at fits h c.swap.ensures.len
    (omega (arith, c.swap-in-loop-at.ensures.len, l.origins.ok.0, c.swap-in-loop-at.new.self.ok.0))
    (omega (arith, c.swap-in-loop-at-2.ensures.len, l.indexes.ok.0, c.swap-in-loop-at-2.new.self.ok.0))
    (subst (SwappedAt l.values c.swap.new.self l.at) index_is v)
    (subst (SwappedAt origins c.swap-in-loop-at.new.self.items l.at) index_is o)
    (subst (SwappedAt indexes c.swap-in-loop-at-2.new.self.items (slice_index places l.at)) moved_is x)
