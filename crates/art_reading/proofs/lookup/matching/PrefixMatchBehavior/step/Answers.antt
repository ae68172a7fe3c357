use Rattle.std.proofs.Common.{◌<◌, ap, arith, length, refl, sym, ◌+◌, ◌∙◌}
use Rattle.art_model.specs.Prelude.{ref_view}
use Rattle.art_reading.proofs.Endings.{behavior_passed, child_passed, ended_there, front_byte, front_within, none_parted, rest_of}
use Rattle.art_reading.proofs.lookup.matching.PrefixMatchBehavior.step.Goals as goal

pub returns-then-prefix_len-left : goal.returns-then-prefix_len-left
returns-then-prefix_len-left g c key has =
    ended_there c.args.self.now (ref_view c.args.node)
    key c.args.front.now c.args.depth _ _ has c.requires.depth refl c.prefix_len-prefix_len.ensures (omega arith) c.ended.ensures

pub returns-then-not-passes : goal.returns-then-not-passes
returns-then-not-passes g c key has =
    let node = ref_view c.args.node in
    let within = front_within has c.args.depth in
    let long : c.args.depth + node.prefix.len < length key = omega arith in
    none_parted c.args.self.now node key c.args.depth (rest_of has c.args.depth c.requires.depth) c.requires.stored long (cc)

pub returns-in-Some : goal.returns-in-Some
returns-in-Some g c key has =
    let node = ref_view c.args.node in
    let within = front_within has c.args.depth in
    let long : c.args.depth + node.prefix.len < length key = omega arith in
    let rest = rest_of has c.args.depth c.requires.depth in
    let on = c.passes.ensures.outcome in
    let at = ap (λ n. c.args.depth + n) c.prefix_len-prefix_len.ensures in (
      child_passed c.args.self.now node key c.args.depth rest c.requires.stored long (cc) at
          (front_byte has (c.args.depth + c.prefix_len-prefix_len.result) (omega arith)) (sym c.in-Some.is ∙ c.lookup_child.ensures),
      omega arith,
      omega arith,
      behavior_passed c.args.self.now node key c.args.depth rest c.requires.stored long (cc) (c.passes.ensures.behavior cc),
    )
