use Rattle.std.proofs.Common.{[], ◌≡◌, ap, sym, ◌∙◌, subst, rules}
use Rattle.art_model.specs.Prelude.{first_of, of_key, with_key}
use Rattle.art_map.specs.MapChanges.{NamesLeafOf}
use Rattle.art_changing.specs.MapPairs.{pairs_at}
use Rattle.art_map.proofs.WrittenValues.{is_there, pair_read}
use Rattle.art_map.proofs.map.ByteMap.get_key_value_by_bytes.Goals as goal

pub returns-in_err-leaf-clause-pair : goal.returns-in_err-leaf-clause-pair
returns-in_err-leaf-clause-pair g c =
    let B = of_key g.K.AsBytes.bytes in
    let key = g.B.KeyBytes.key c.args.bytes.now in
    let s = c.self.inside.store in
    let none = subst (λ r. with_key B key (pairs_at s r) ≡ []) (sym c.in_ok-self.was) c.in_err-leaf.ensures.leaf in
    rw c.from_residual-in_err-leaf.ensures (sym (ap first_of none) ∙ ap (λ pairs. first_of (with_key B key pairs)) c.self.view_is)

pub pair_at-requires : goal.pair_at-requires
pair_at-requires g c =
    let key = g.B.KeyBytes.key c.args.bytes.now in
    (search rules, is_there g.K.AsBytes.bytes g.row.P key c.in_ok-leaf.ensures.leaf)

pub returns-clause-pair : goal.returns-clause-pair
returns-clause-pair g c =
    let bytes = g.K.AsBytes.bytes in
    let key = g.B.KeyBytes.key c.args.bytes.now in
    let named = subst (λ r. NamesLeafOf bytes g.row.P c.self.inside.store r key c.in_ok-leaf.leaf) (sym c.in_ok-self.was) c.in_ok-leaf.ensures.leaf in
    pair_read bytes g.row.P key named c.pair_at.ensures c.self.view_is
