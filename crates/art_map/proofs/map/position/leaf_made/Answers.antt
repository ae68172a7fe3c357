use Rattle.std.proofs.Common.{sym, ◌∙◌, rules}
use Rattle.std.proofs.lemmas.Bool.{false≢true}
use Rattle.art_model.specs.Prelude.{of_key}
use Rattle.art_writing.proofs.KeysFound.{stored_free}
use Rattle.art_changing.specs.MapPairs.{pairs_at}
use Rattle.art_map.proofs.EnteredLeaves.{position_new}
use Rattle.art_changing.proofs.ViewsOfPairs.{map_held}
use Rattle.art_map.proofs.WrittenValues.{is_stored}
use Rattle.art_map.proofs.map.position.leaf_made.Goals as goal

pub returns-in-Leaf : goal.returns-in-Leaf
returns-in-Leaf g c =
    let bytes = g.K.AsBytes.bytes in
    let named = rw c.in-Leaf.is at c.requires.position in
    let stored = is_stored bytes g.row.P (bytes c.args.key) named in
    let free = stored_free (of_key bytes) (bytes c.args.key) (pairs_at c.args.store.now c.args.root.now)
    (map_held (of_key bytes) g.row.P c.args.store.now c.requires.holds) stored in
    (named.pair.1, λ none. absurd (false≢true (sym none ∙ stored)), rw stored (c.requires.holds, named, free))

pub make-value-requires : goal.make-value-requires
make-value-requires g c =
    let new =
    position_new g.K.AsBytes.bytes g.row.P (g.K.AsBytes.bytes c.args.key)
    c.requires.holds c.args.position c.requires.position c.in_default.not-Leaf in
    let callable = c.requires.make new in
    search rules
