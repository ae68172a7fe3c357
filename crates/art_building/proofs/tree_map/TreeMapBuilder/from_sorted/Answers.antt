use Rattle.std.proofs.Common.{◌≡◌, ◌∷◌, [], List, length, ap, arith, refl, rules, subst, sym, ◌∙◌}
use Rattle.std.proofs.lemmas.Result.{err_from_is_err_and}
use Rattle.std.specs.Vec.Iter.{into_iter_items, into_iter_len}
use Rattle.art_building.proofs.Lasts.{IsBuiltUpTo, built_first, built_next, built_all}
use Rattle.art_building.proofs.tree_map.TreeMapBuilder.from_sorted.Goals as goal

empty : {X : Type 0} (xs : List X) → length xs ≡ 0 → xs ≡ []
empty [] none = refl
empty (x ∷ xs) none = absurd (omega arith)

pub loop-next-init : goal.loop-next-init
loop-next-init g c =
    let same = c.into_iter-next-iterator.ensures.into_iter_gives in
    let given : c.args.pairs.items ≡ c.in-Some.last ∷ into_iter_items c.into_iter-next-iterator.result =
    sym c.into_iter-rest.ensures.rest ∙ c.in-Some.ensures.items ∙ ap (λ it. c.in-Some.last ∷ into_iter_items it) (sym same) in
    let count = ap length given in
    let left = ap into_iter_len same in
    let taken = c.in-Some.ensures.len in
    let all = c.into_iter-rest.ensures.len in
    let own = c.args.pairs.ok.0 in
    record { built = built_first c.requires given c.new-builder.ensures c.as_key.ensures; len = omega arith }

pub put_next-requires : goal.put_next-requires
put_next-requires g c =
    let items : into_iter_items c.loop-next.next-iterator ≡ c.in-Some-next.next ∷ into_iter_items c.next-in-loop-next.new.self = c.in-Some-next.ensures.steps.0 in
    let left = subst (IsBuiltUpTo g.K.NoPrefixesBytes.is_key g.K.AsBytes.bytes c.args.pairs.items c.loop-next.builder c.loop-next.last) items c.loop-next.invariant.built in
    (search rules, (left.map, left.sorted.0.0))

pub loop-next-preserved : goal.loop-next-preserved
loop-next-preserved g c =
    let items : into_iter_items c.loop-next.next-iterator ≡ c.in-Some-next.next ∷ into_iter_items c.next-in-loop-next.new.self = c.in-Some-next.ensures.steps.0 in
    let left = subst (IsBuiltUpTo g.K.NoPrefixesBytes.is_key g.K.AsBytes.bytes c.args.pairs.items c.loop-next.builder c.loop-next.last) items c.loop-next.invariant.built in
    let put = c.in_ok-put_next.ensures in
    let count = ap length items in
    let taken = c.in-Some-next.ensures.steps.1 in
    let was = c.loop-next.invariant.len in
    record { built = built_next left put.put put.map put.key put.is_key; len = omega arith }

pub returns : goal.returns
returns g c =
    let gone : into_iter_items c.loop-next.next-iterator ≡ [] = empty _ (sym c.loop-next.invariant.len ∙ c.in-None.ensures.steps.0) in
    let (puts, keys) = built_all _ c.loop-next.invariant.built gone c.in_ok-push_last.ensures in
    record { put = puts; keys = keys }

pub push_last-requires : goal.push_last-requires
push_last-requires g c = (search rules, c.loop-next.invariant.built.map)

pub returns-in_err-put_next : goal.returns-in_err-put_next
returns-in_err-put_next g c =
    let p = err_from_is_err_and c.from_residual.result c.from_residual.ensures.1 in
    rw p.1 (record { put = tt; keys = tt })

pub returns-in_err-push_last : goal.returns-in_err-push_last
returns-in_err-push_last g c =
    let p = err_from_is_err_and c.from_residual-in_err-push_last.result c.from_residual-in_err-push_last.ensures.1 in
    rw p.1 (record { put = tt; keys = tt })
