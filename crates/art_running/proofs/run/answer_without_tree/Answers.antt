use Rattle.std.proofs.Common.{refl, None, inl, inr}
use Rattle.std.proofs.lemmas.Bool.{false≢true}
use Rattle.art_running.proofs.GoneOver.{nothing_cloned}
use Rattle.art_running.proofs.Moves.{absent_step, found_step, from_none, match_step}
use Rattle.art_running.proofs.Planted.{planted_step, unplanted_step, planted_prefix_step, unplanted_prefix_step}
use Rattle.art_running.proofs.run.answer_without_tree.Goals as goal

pub returns-in-Ok : goal.returns-in-Ok
returns-in-Ok g c side second =
    let (leaf, root, planted) = c.in-Ok.ensures.planted in
    rw (c.in-Insert.is, root) (from_none g.K.AsBytes.bytes g.row.P side second (planted_step g.K.AsBytes.bytes g.row.P second planted))

pub returns-in-Insert : goal.returns-in-Insert
returns-in-Insert g c side second =
    let (root, same) = c.in-Err.ensures.refused in
    rw (c.in-Insert.is, root) (from_none g.K.AsBytes.bytes g.row.P side second
    (unplanted_step g.K.AsBytes.bytes g.row.P second c.requires same c.in-Err.ensures.handed_back
    (λ promised. absurd (false≢true (c.in-Err.ensures.succeeds promised)))))

pub returns-in-Ok-begin : goal.returns-in-Ok-begin
returns-in-Ok-begin g c side second =
    let (leaf, root, planted) = c.in-Ok-begin.ensures.planted in
    rw (c.in-InsertPrefix.is, root) (from_none g.K.AsBytes.bytes g.row.P side second (planted_prefix_step g.K.AsBytes.bytes g.row.P second planted))

pub returns-in-InsertPrefix : goal.returns-in-InsertPrefix
returns-in-InsertPrefix g c side second =
    let (root, same) = c.in-Err-begin.ensures.refused in
    rw (c.in-InsertPrefix.is, root) (from_none g.K.AsBytes.bytes g.row.P side second
    (unplanted_prefix_step g.K.AsBytes.bytes g.row.P second c.requires same c.in-Err-begin.ensures.handed_back
    (λ promised. absurd (false≢true (c.in-Err-begin.ensures.succeeds promised)))))

pub returns-in-Delete : goal.returns-in-Delete
returns-in-Delete g c side second = elim c.in-Delete.is [
  | inl (key, is) ↦ rw (is, c.requires) (from_none g.K.AsBytes.bytes g.row.P side second
      (None, refl, absent_step g.K.AsBytes.bytes g.row.P side second None (refl, refl) refl))
  | inr (inl is) ↦ rw (is, c.requires) (from_none g.K.AsBytes.bytes g.row.P side second
      (None, refl, absent_step g.K.AsBytes.bytes g.row.P side second None (refl, refl) refl))
  | inr (inr is) ↦ rw (is, c.requires) (from_none g.K.AsBytes.bytes g.row.P side second
      (None, refl, absent_step g.K.AsBytes.bytes g.row.P side second None (refl, refl) refl))
]

pub returns-in-Clone : goal.returns-in-Clone
returns-in-Clone g c side second =
    rw (c.in-Clone.is, c.requires) (from_none g.K.AsBytes.bytes g.row.P side second
    (None, refl, nothing_cloned g.K.AsBytes.bytes g.row.P g.K.Clone.is_clone g.V.Clone.is_clone side))

pub returns-in-Contains : goal.returns-in-Contains
returns-in-Contains g c side second =
    rw (c.in-Contains.is, c.requires) (from_none g.K.AsBytes.bytes g.row.P side second
    (None, refl, found_step g.K.AsBytes.bytes g.row.P side second None (refl, refl) refl))

pub returns : goal.returns
returns g c side second =
    rw (c.in-LongestMatch.is, c.requires) (from_none g.K.AsBytes.bytes g.row.P side second
    (None, refl, match_step g.K.AsBytes.bytes g.row.P side second None (refl, refl) refl))
