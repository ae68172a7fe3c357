use Rattle.std.proofs.Common.{ℕ, ◌<◌, ◌∷◌, [], ◌++◌, length, ap, ap₂, sym, ◌∙◌, subst}
use Rattle.prefix_table.specs.Networks.{IsUpTo}
use Rattle.prefix_table.specs.Starts.{start_at, starts_of}
use Rattle.prefix_table.proofs.StartLemmas.{none_of_six, push_four}
use Rattle.prefix_table.proofs.starts.Starts.push.Goals as goal

pub returns-in_ok-push : goal.returns-in_ok-push
returns-in_ok-push c =
    let s = c.self.inside in
    let none =
    none_of_six s.four.items s.six.items c.args.address c.if-address-eq4.true
    (subst (λ starts. (k : ℕ) → k < length starts → IsUpTo (start_at starts k) c.args.address) (sym c.self.view_is) c.requires.order) in
    ap (λ ns. starts_of ns s.six.items) c.in_ok-push.ensures.items ∙ push_four s.four.items s.six.items c.args.address.number none
    ∙ ap₂ (λ starts a. starts ++ a ∷ []) c.self.view_is
    (ap (λ v. record { number = c.args.address.number; version = v }) (sym c.if-address-eq4.true))
