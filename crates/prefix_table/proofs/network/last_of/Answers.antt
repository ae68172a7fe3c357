use Rattle.std.proofs.Common.{◌≡◌, ◌+◌, ◌-◌, ◌^◌, ap, sym, ◌∙◌, subst, arith}
use Rattle.prefix_table.specs.Networks.{IsAddress, host_bits, last_of}
use Rattle.prefix_table.proofs.CoverLemmas.{fits_number, is_last_address}
use Rattle.prefix_table.proofs.network.last_of.Goals as goal

pub overflow_add-result : goal.overflow_add-result
overflow_add-result c =
    let n = c.args.network in
    let open_bits : c.width.result - n.length ≡ host_bits n = ap (λ w. w - n.length) c.width.ensures.width in
    let rest = c.ones.ensures ∙ ap (λ bits. 2 ^ bits - 1) open_bits in
    let fits = fits_number (last_of n) (is_last_address n c.requires) in
    omega (arith, rest, fits)

pub returns-clause-fits : goal.returns-clause-fits
returns-clause-fits c =
    let n = c.args.network in
    let open_bits : c.width.result - n.length ≡ host_bits n = ap (λ w. w - n.length) c.width.ensures.width in
    subst (λ rest. IsAddress (record { number = n.number + rest; version = n.version }))
    (sym (c.ones.ensures ∙ ap (λ bits. 2 ^ bits - 1) open_bits))
    (is_last_address n c.requires)
