use Rattle.std.proofs.Common.{ap, ◌∙◌, is_some, not, subst, sym}
use Rattle.art_model.specs.Prelude.{has_key}
use Rattle.art_iterating.specs.MapItems.{keys_of}
use Rattle.art_sets.specs.SetKeys.{IsKeyRefusal, add_key}
use Rattle.art_sets.proofs.SetLaws.{flipped, key_refused, keys_put, reply_has}
use Rattle.art_sets.proofs.set.ByteSet.insert.Goals as goal

pub returns-clause-keys : goal.returns-clause-keys
returns-clause-keys g c =
    let B = g.K.AsBytes.bytes in
    ap keys_of c.in-Ok.ensures.pairs ∙ keys_put B c.args.key tt c.self.inside.map c.in-Ok.ensures.was_sorted ∙ ap (add_key B c.args.key) c.self.view_is

pub returns-clause-added : goal.returns-clause-added
returns-clause-added g c =
    let B = g.K.AsBytes.bytes in
    flipped _ _ c.is_none.ensures ∙ ap (λ o. not (is_some o)) c.in-Ok.ensures.replaced ∙ ap not (reply_has B c.args.key tt c.self.inside.map)
    ∙ ap (λ keys. not (has_key B (B c.args.key) keys)) c.self.view_is

pub returns-in-Err-clause-refused : goal.returns-in-Err-clause-refused
returns-in-Err-clause-refused g c =
    let B = g.K.AsBytes.bytes in
    subst (λ keys. IsKeyRefusal B c.args.key keys c.without_value.result) c.self.view_is
    (subst (IsKeyRefusal B c.args.key (keys_of c.self.inside.map)) (sym c.without_value.ensures)
    (key_refused B c.args.key c.self.inside.map _ c.in-Err.ensures.refused))
