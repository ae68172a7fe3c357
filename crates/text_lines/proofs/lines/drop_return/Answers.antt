use Rattle.std.proofs.Common.{◌≡◌, ◌-◌, ◌<◌, ◌++◌, ◌∷◌, [], refl, Some, length, take, vec_len, ap, sym, ◌∙◌, subst, arith}
use Rattle.std.specs.List.{slice_get}
use Rattle.text_lines.specs.Lines.{without_return}
use Rattle.text_lines.proofs.LineParts.{ends, filled, return_dropped}
use Rattle.text_lines.proofs.lines.drop_return.Goals as goal

pub returns-then-ends_with : goal.returns-then-ends_with
returns-then-ends_with c =
    let got = c.args.line.now.items in
    let len : length got ≡ vec_len c.args.line.now = sym (ap length c.deref.ensures.value) ∙ c.deref.ensures.len in
    let last : slice_get got (length got - 1) ≡ Some 13 =
    subst (λ bs. slice_get bs (length bs - 1) ≡ Some 13) c.deref.ensures.value (c.if-ends_with.ensures.0 refl) in
    let some : 0 < length got = filled 13 got last in
    sym (ap without_return (ends 13 got (length got - 1) last (omega arith)
    ∙ ap (λ n. take (n - 1) got ++ 13 ∷ []) len ∙ ap (λ bs. bs ++ 13 ∷ []) (sym c.pop.ensures.rest))
    ∙ return_dropped c.pop.new.self.items)
