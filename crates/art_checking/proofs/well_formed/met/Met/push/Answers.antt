use Rattle.std.proofs.Common.{length, [], ◌∷◌, ◌++◌, ap, ap₂, ◌∙◌}
use Rattle.art_checking.specs.Marks.{marked}
use Rattle.art_checking.specs.declared.well_formed.met.Mark.{Mark}
use Rattle.art_checking.proofs.Marks.{marked-last}
use Rattle.art_checking.proofs.well_formed.met.Met.push.Goals as goal

pub returns : goal.returns
returns c =
    let inside = c.self.inside in
    let place = c.args.place.now in
    let mark : Mark = record { name = c.args.name; from = c.len-from.result; to = c.len-to.result } in
    let bytes = c.in_ok-extend_from_slice.ensures.items in
    let from = c.len-from.ensures ∙ inside.bytes.ok.0 in
    let to = c.len-to.ensures ∙ c.extend_from_slice.new.self.ok.0 ∙ ap length bytes in
    ap₂ marked bytes c.in_ok-push.ensures.items ∙ marked-last inside.bytes.items place inside.marks.items mark c.self.invariant from to
    ∙ ap (λ met. met ++ (c.args.name, place) ∷ []) c.self.view_is
