use Rattle.std.proofs.Common.{◌≡◌, Ok, ap, false, is_some, refl, rules, subst, sym, ◌∙◌}
use Rattle.std.proofs.lemmas.Bool.{false≢true}
use Rattle.art_model.specs.Prelude.{has_key, of_key}
use Rattle.art_writing.proofs.KeysFound.{stored_free}
use Rattle.art_map.specs.MapChanges.{HasEntered, HasKeyAt, NamesLeafOf}
use Rattle.art_changing.specs.MapPairs.{pairs_at}
use Rattle.art_map.proofs.Near.{near_named}
use Rattle.art_changing.proofs.ViewsOfPairs.{map_held}
use Rattle.art_map.proofs.WrittenValues.{is_stored}
use Rattle.art_map.proofs.map.position.leaf_from.Goals as goal

pub returns-then-has_bytes_at : goal.returns-then-has_bytes_at
returns-then-has_bytes_at g c =
    let bytes = g.K.AsBytes.bytes in
    let s = c.args.store.now in
    let root = c.args.root.now in
    let made = g.S.ToKey.made c.args.source.now in
    let leaf = c.in-Some.leaf in
    let at = subst (HasKeyAt bytes s leaf) (c.again.ensures ∙ sym (g.met.S.ToKey.same_bytes c.args.source.now))
    (c.has_bytes_at.ensures.key c.if-has_bytes_at.true) in
    let named = near_named bytes g.row.P (bytes made) leaf at c.requires in
    let stored = is_stored bytes g.row.P (bytes made) named in (
      rw stored (c.requires, named, stored_free (of_key bytes) (bytes made) (pairs_at s root) (map_held (of_key bytes) g.row.P s c.requires) stored),
      λ none. absurd (false≢true (sym none ∙ stored)),
    )

pub returns-in-Ok : goal.returns-in-Ok
returns-in-Ok g c =
    let bytes = g.K.AsBytes.bytes in
    let key = bytes (g.S.ToKey.made c.args.source.now) in
    let s = c.args.store.now in
    let root = c.args.root.now in
    let same = c.again-2.ensures ∙ sym (g.met.S.ToKey.same_bytes c.args.source.now) in
    let named = subst (λ k. NamesLeafOf bytes g.row.P s root k c.in-Ok.leaf) same c.in-Ok.ensures.leaf in
    let stored = is_stored bytes g.row.P key named in (
      rw stored (c.requires, named, stored_free (of_key bytes) key (pairs_at s root) (map_held (of_key bytes) g.row.P s c.requires) stored),
      λ none. absurd (false≢true (sym none ∙ stored)),
    )

pub returns-in-Ok-None : goal.returns-in-Ok-None
returns-in-Ok-None g c =
    let bytes = of_key g.K.AsBytes.bytes in
    let same = c.again-2.ensures ∙ sym (g.met.S.ToKey.same_bytes c.args.source.now) in
    let new = subst (λ k. has_key bytes k (pairs_at c.args.store.now c.args.root.now) ≡ false) same c.in-Err.ensures.new in
    (c.requires, (refl, (λ is_key. absurd (false≢true (sym (ap is_some c.in-Ok-None.field-0-is) ∙ c.in-Ok-None.ensures.made.1 is_key))), new))

pub returns-in-Err-to_key : goal.returns-in-Err-to_key
returns-in-Err-to_key g c =
    let bytes = of_key g.K.AsBytes.bytes in
    let same = c.again-2.ensures ∙ sym (g.met.S.ToKey.same_bytes c.args.source.now) in
    let new = subst (λ k. has_key bytes k (pairs_at c.args.store.now c.args.root.now) ≡ false) same c.in-Err.ensures.new in
    (c.requires, (refl, c.in-Err-to_key.ensures.refused, (λ free. absurd (false≢true (c.in-Err-to_key.ensures.succeeds free))), new))

pub returns-in-Ok-enter : goal.returns-in-Ok-enter
returns-in-Ok-enter g c =
    let bytes = g.K.AsBytes.bytes in
    let pairs = pairs_at c.args.store.now c.args.root.now in
    let same : c.in-Ok-Some.key ≡ g.S.ToKey.made c.args.source.now = search rules in
    let t = c.enter.new in (
      subst (λ key. HasEntered bytes g.row.P pairs key c.args.value (Ok c.in-Ok-enter.entered) t.store t.root t.len) same c.in-Ok-enter.ensures,
      λ none. c.in-Ok-Some.ensures.made.0 (ap is_some c.in-Ok-Some.field-0-is),
    )
