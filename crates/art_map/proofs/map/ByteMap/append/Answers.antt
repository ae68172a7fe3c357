use Rattle.std.proofs.Common.{ap, sym, ◌∙◌, subst, arith, [], ◌∷◌, ◌++◌, append_assoc, append-nil, length}
use Rattle.art_model.specs.Prelude.{of_key, put, without_first}
use Rattle.art_model.proofs.pairs.Puts.{first_none}
use Rattle.art_changing.specs.MapAnswers.{IsRefusalOf}
use Rattle.art_map.specs.MapCalls.{put_all}
use Rattle.art_map.proofs.Extended.{put_last}
use Rattle.art_map.proofs.Moved.{first_and_others, removed_first}
use Rattle.art_map.proofs.map.ByteMap.append.Goals as goal

pub loop-key-smaller : goal.loop-key-smaller
loop-key-smaller g c =
    let x : g.row.K.Denot × g.row.V.Denot = (c.in-Some.key, c.in-Some.value) in
    let less = ap length (first_and_others c.loop-key.other x (removed_first c.loop-key.other c.in-Some.ensures c.pop_first.ensures.removed)) in
    rw c.pop_first.ensures.pairs (omega arith)

pub loop-key-preserved : goal.loop-key-preserved
loop-key-preserved g c =
    let B = g.K.AsBytes.bytes in
    let (xs, given, own) = c.loop-key.invariant in
    let x : g.row.K.Denot × g.row.V.Denot = (c.in-Some.key, c.in-Some.value) in
    let next = first_and_others c.loop-key.other x (removed_first c.loop-key.other c.in-Some.ensures c.pop_first.ensures.removed) in (
      xs ++ x ∷ [],
      given ∙ ap (λ ys. xs ++ ys) (next ∙ ap (λ ys. x ∷ ys) (sym c.pop_first.ensures.pairs)) ∙ sym (append_assoc xs (x ∷ []) c.pop_first.new.self),
      c.in-Ok.ensures.pairs ∙ ap (put (of_key B) x) own ∙ sym (put_last B x xs c.args.self.now),
    )

pub returns-in-Err : goal.returns-in-Err
returns-in-Err g c =
    let B = g.K.AsBytes.bytes in
    let (xs, given, own) = c.loop-key.invariant in
    let x : g.row.K.Denot × g.row.V.Denot = (c.in-Some.key, c.in-Some.value) in
    let next = first_and_others c.loop-key.other x (removed_first c.loop-key.other c.in-Some.ensures c.pop_first.ensures.removed) in
    let refused = subst (λ pairs. IsRefusalOf B c.in-Some.key c.in-Some.value pairs c.in-Err.error) (sym c.in-Err.ensures.kept) c.in-Err.ensures.refused in
    record {
      pairs = tt;
      emptied = tt;
      refused = (xs, x, given ∙ ap (λ ys. xs ++ ys) (next ∙ ap (λ ys. x ∷ ys) (sym c.pop_first.ensures.pairs)), c.in-Err.ensures.kept ∙ own, refused);
    }

pub returns : goal.returns
returns g c =
    let (xs, given, own) = c.loop-key.invariant in
    let gone = first_none c.loop-key.other (sym (removed_first c.loop-key.other c.in_default.ensures c.pop_first.ensures.removed)) in
    record {
      pairs = own ∙ ap (λ ys. put_all g.K.AsBytes.bytes ys c.args.self.now) (sym (given ∙ ap (λ ys. xs ++ ys) gone ∙ append-nil xs));
      emptied = c.pop_first.ensures.pairs ∙ ap without_first gone;
      refused = tt;
    }
