use Rattle.std.proofs.Common.{◌≡◌, ◌+◌, arith, length, subst}
use Rattle.ip_routes.specs.Sources.{HasRoom}
use Rattle.ip_routes.proofs.SourceLemmas.{adds_line, sources_more}
use Rattle.ip_routes.proofs.lines.Lines.add.Goals as goal

pub invariant_of-self-2 : goal.invariant_of-self-2
invariant_of-self-2 c =
    let from : c.len-from.result ≡ length c.self.inside.text.items = omega (arith, c.len-from.ensures, c.self.inside.text.ok.0) in
    let to : c.len-to.result ≡ length c.self.inside.text.items + length c.args.line.now =
    omega (arith, c.len-to.ensures, c.in-Ok-extend_from_slice.ensures.len, c.self.inside.text.ok.0) in
    rw (c.in-Ok-extend_from_slice.ensures.items, c.push_reserved.ensures.items, c.reserve.ensures.items)
    (sources_more c.self.inside.text.items c.args.line.now c.self.inside.sources.items c.self.invariant c.in-Ok.network c.args.number
    c.len-from.result c.len-to.result from to c.in-Ok.ensures.network
    (subst (λ text. HasRoom text c.self.inside.sources.items c.args.line.now) c.deref.ensures.value
    (subst (λ sources. HasRoom c.deref.result.now sources c.args.line.now) c.deref-2.ensures.value c.if-not-has_room.ensures.yes)))

pub returns-clause-added : goal.returns-clause-added
returns-clause-added c =
    let from : c.len-from.result ≡ length c.self.inside.text.items = omega (arith, c.len-from.ensures, c.self.inside.text.ok.0) in
    let to : c.len-to.result ≡ length c.self.inside.text.items + length c.args.line.now =
    omega (arith, c.len-to.ensures, c.in-Ok-extend_from_slice.ensures.len, c.self.inside.text.ok.0) in
    rw (← c.self.view_is, c.in-Ok-extend_from_slice.ensures.items, c.push_reserved.ensures.items, c.reserve.ensures.items)
    (adds_line c.self.inside.text.items c.args.line.now c.self.inside.sources.items c.self.invariant c.in-Ok.network c.args.number
    c.len-from.result c.len-to.result from to c.in-Ok.ensures.written c.in-Ok.ensures.network)
