use Rattle.std.proofs.Common.{sym, subst}
use Rattle.art_model.specs.Prelude.{IsFullTree}
use Rattle.art_loading.proofs.append.least_if_long.Goals as goal

pub returns : goal.returns
returns g c tree full = (c.if-len.false, c.minimum_unchecked.ensures tree (subst (λ name. IsFullTree c.args.store.now name tree) (sym c.to_opaque.ensures) full))
