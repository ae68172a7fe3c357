use Rattle.std.proofs.Common.{refl}
use Rattle.art_parts.specs.Keys.{is_front}
use Rattle.art_model.specs.Pairs.{of_key}
use Rattle.art_map.proofs.Extracted.{step_goes}
use Rattle.art_keyed.proofs.map.extract.TreeExtractPrefixOfTreeMapIterator.next.Goals as goal

pub returns-clause-steps : goal.returns-clause-steps
returns-clause-steps g c = (refl, refl, c.extract_below.ensures)

pub returns-clause-goes : goal.returns-clause-goes
returns-clause-goes g c =
    let text = g.K.StringBytes.text in
    step_goes (of_key g.K.AsBytes.bytes) (λ x. is_front (text c.args.self.now.prefix.now) (text x.0))
    (λ q. q.map.now) c.args.self.now c.extract_below.result _ c.extract_below.ensures
