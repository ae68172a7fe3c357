use Rattle.std.proofs.Common.{◌∙◌, sym, ap, length, map, [], ◌∷◌}
use Rattle.art_model.specs.Prelude.{of_key, match_of}
use Rattle.art_writing.proofs.KeysFound.{match_found}
use Rattle.art_running.proofs.run.longest_match.Goals as goal

pub returns-in_err-leaf : goal.returns-in_err-leaf
returns-in_err-leaf g c pairs layout by =
    rw c.from_residual.ensures (sym (ap (map (λ x. length (g.K.AsBytes.bytes x.0))) (c.in_err-leaf.ensures.leaf pairs layout by)))

pub returns : goal.returns
returns g c pairs layout by =
    ap (λ key. length key ∷ []) c.as_bytes.ensures
    ∙ match_found g.K.AsBytes.bytes g.row.P (match_of (of_key g.K.AsBytes.bytes) c.args.key_bytes.now pairs)
    by (c.in_ok-leaf.ensures.leaf pairs layout by) c.leaf_at-leaf.ensures
