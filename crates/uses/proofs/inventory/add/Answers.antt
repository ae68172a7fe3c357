use Rattle.std.proofs.Common.{◌≡◌, ◌+◌, ℕ, List, Option, Some, None, is_some, refl, ap, sym, ◌∙◌, false}
use Rattle.std.specs.Option.{option_map, unwrap_or}
use Rattle.art_model.specs.Pairs.{first_of, has_key, of_key, with_key}
use Rattle.art_model.proofs.pairs.Puts.{has_is_stored}
use Rattle.uses.specs.Inventory.{Goods, quantity}
use Rattle.uses.proofs.inventory.add.Goals as goal

no_value : (o : Option (List ℕ × ℕ)) → is_some o ≡ false → unwrap_or (option_map (λ x. x.1) o) 0 ≡ 0
no_value None e = refl
no_value (Some x) e = cc

-- the quantity of a good that is not stored is 0
none_there : (code : List ℕ) (stock : Goods) → has_key (of_key (λ code. code)) code stock ≡ false → quantity code stock ≡ 0
none_there code stock e = no_value (first_of (with_key (of_key (λ code. code)) code stock)) (sym (has_is_stored (of_key (λ code. code)) (code, 0) stock) ∙ e)

pub returns-in-Ok-clause-added : goal.returns-in-Ok-clause-added
returns-in-Ok-clause-added c =
    let sum : c.in-Some.sum ≡ quantity c.args.code c.args.stock.now + c.args.count =
    c.in-Some.ensures.1 ∙ ap (λ m. m + c.args.count) (c.unwrap_or-there.ensures ∙ ap (λ o. unwrap_or o 0) (c.copied.ensures ∙ c.get.ensures.value)) in
    (c.in-Ok.ensures.found ∙ ap Some sum, c.in-Ok.ensures.others)

pub returns-in-Err-clause-refused : goal.returns-in-Err-clause-refused
returns-in-Err-clause-refused c = none_there c.args.code c.args.stock.now c.in-Err.ensures.refused
