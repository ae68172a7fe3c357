use Rattle.std.proofs.Common.{refl, ap, sym, ◌∙◌, subst}
use Rattle.prefix_table.specs.declared.network.Address.{Address}
use Rattle.prefix_table.specs.Networks.{IsAddress, IsNetwork, address_of, network_with, width}
use Rattle.ip_routes.proofs.WrittenLemmas.{is_network_but, longer, not_cut}
use Rattle.ip_routes.proofs.route.parse_route.Goals as goal

pub returns-in_default-clause-fault : goal.returns-in_default-clause-fault
returns-in_default-clause-fault c network (address, w, same) = c.in_default.ensures.none address network.length w

pub returns-then-length-from-clause-fault : goal.returns-then-length-from-clause-fault
returns-then-length-from-clause-fault c =
    let (length, w, cut) = c.in-Some.ensures.written in
    let start = address_of c.in-Some.address in
    let room = c.width.ensures.width ∙ ap (λ (a : Address). width a.version) c.address_of-start.ensures.address in (
      network_with start length,
      (c.in-Some.address, w, refl),
      longer (width start.version) c.width.result c.from.result c.in-Some.length length room c.from.ensures cut c.if-length-from.true,
    )

pub returns-in-None-clause-fault : goal.returns-in-None-clause-fault
returns-in-None-clause-fault c =
    let (length, w, cut) = c.in-Some.ensures.written in
    let start = address_of c.in-Some.address in
    let room = c.width.ensures.width ∙ ap (λ (a : Address). width a.version) c.address_of-start.ensures.address in
    let within = not_cut (width start.version) c.width.result c.from.result c.in-Some.length length room
    c.width.ensures.fits c.from.ensures cut c.if-length-from.false in (
      network_with start length,
      (c.in-Some.address, w, refl),
      within.1,
      λ same. c.in-None.ensures
          (subst (λ n. IsNetwork (network_with start n)) (sym within.0)
          (is_network_but start length (subst IsAddress c.address_of-start.ensures.address c.address_of-start.ensures.fits) within.1 same)),
    )
