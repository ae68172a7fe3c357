use Rattle.std.proofs.Common.{ap, sym, subst, ◌∙◌, [], ◌∷◌, ◌++◌, append_assoc, append-nil}
use Rattle.art_model.specs.Prelude.{without_first}
use Rattle.art_model.proofs.pairs.Puts.{first_none}
use Rattle.art_sets.specs.SetKeys.{IsKeyRefusal, add_all, add_key}
use Rattle.art_sets.proofs.AddedKeys.{add_last}
use Rattle.art_map.proofs.Moved.{first_and_others}
use Rattle.art_sets.proofs.set.ByteSet.append.Goals as goal

pub loop-key-preserved : goal.loop-key-preserved
loop-key-preserved g c =
    let B = g.K.AsBytes.bytes in
    let (ks, given, own) = c.loop-key.invariant in
    let k = c.in-Some.key in
    let next = first_and_others c.loop-key.other k (sym c.in-Some.is ∙ c.pop_first.ensures.removed) in (
      ks ++ k ∷ [],
      given ∙ ap (λ ys. ks ++ ys) (next ∙ ap (λ ys. k ∷ ys) (sym c.pop_first.ensures.keys)) ∙ sym (append_assoc ks (k ∷ []) c.pop_first.new.self),
      c.in-Ok.ensures.keys ∙ ap (add_key B k) own ∙ sym (add_last B k ks c.args.self.now),
    )

pub returns-in-Err : goal.returns-in-Err
returns-in-Err g c =
    let (ks, given, own) = c.loop-key.invariant in
    let k = c.in-Some.key in
    let next = first_and_others c.loop-key.other k (sym c.in-Some.is ∙ c.pop_first.ensures.removed) in
    let refused = subst (λ keys. IsKeyRefusal g.K.AsBytes.bytes k keys c.in-Err.error) (sym c.in-Err.ensures.kept) c.in-Err.ensures.refused in
    record {
      keys = tt;
      emptied = tt;
      refused = (ks, k, given ∙ ap (λ ys. ks ++ ys) (next ∙ ap (λ ys. k ∷ ys) (sym c.pop_first.ensures.keys)), c.in-Err.ensures.kept ∙ own, refused);
    }

pub returns : goal.returns
returns g c =
    let (ks, given, own) = c.loop-key.invariant in
    let gone = first_none c.loop-key.other (sym (sym c.in_default.is ∙ c.pop_first.ensures.removed)) in
    record {
      keys = own ∙ ap (λ ys. add_all g.K.AsBytes.bytes ys c.args.self.now) (sym (given ∙ ap (λ ys. ks ++ ys) gone ∙ append-nil ks));
      emptied = c.pop_first.ensures.keys ∙ ap without_first gone;
      refused = tt;
    }
