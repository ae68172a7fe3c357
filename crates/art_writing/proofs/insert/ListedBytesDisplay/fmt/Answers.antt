use Rattle.std.proofs.Common.{◌≡◌, ◌∷◌, ◌++◌, codes, flat_map, refl, ap, sym, ◌∙◌, decimal}
use Rattle.std.proofs.lemmas.Grind.{put_two}
use Rattle.std.proofs.lemmas.List.{take_all}
use Rattle.art_writing.specs.Conflicts.{bytes_text}
use Rattle.art_writing.proofs.insert.ListedBytesDisplay.fmt.Goals as goal

pub returns-clause-writes : goal.returns-clause-writes
returns-clause-writes g c = λ plain ok.
    let first = c.in_ok-write.ensures.writes plain refl in
    let others = c.loop-byte.invariant first.plain in
    let is : c.args.self.now.0.now ≡ c.in-Some.first.now ∷ c.in-Some.others.now = c.in-Some.ensures.cases.0 in
    put_two g.W.Write.write_str_gives c.args.f.now c.write.new.self c.loop-byte.f _ _ _ first others
    (ap (λ bs. decimal c.in-Some.first.now ++ flat_map (λ byte. codes ", " ++ decimal byte) bs)
    (take_all c.loop-byte.byte-index c.in-Some.others.now c.loop-byte-test.false)
    ∙ ap bytes_text (sym is))
