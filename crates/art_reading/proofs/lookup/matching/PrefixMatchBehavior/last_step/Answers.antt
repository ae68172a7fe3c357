use Rattle.std.proofs.Common.{◌-◌, ◌++◌, [], ◌∷◌, ap, arith, drop, is_ok, length, length-append, sym, take, ◌∙◌}
use Rattle.std.proofs.Math.Seq.{get_or-append_seam}
use Rattle.art_model.specs.Prelude.{ref_view, Prefix}
use Rattle.art_reading.specs.Matching.{behavior_after, prefix_match}
use Rattle.art_reading.proofs.Endings.{behavior_passed, child_passed, last_rest, none_parted, prefix_same, rest_of}
use Rattle.art_reading.proofs.lookup.matching.PrefixMatchBehavior.last_step.Goals as goal

pub returns-then-not-goes_on-clause-child : goal.returns-then-not-goes_on-clause-child
returns-then-not-goes_on-clause-child g c =
    let node = ref_view c.args.node in
    let l = length-append c.args.front.now (c.args.last ∷ []) in
    let same = prefix_same node.prefix c.prefix_len.ensures c.read_prefix.ensures.stored in
    none_parted c.args.self.now node (c.args.front.now ++ c.args.last ∷ []) c.args.depth
    (rest_of (last_rest c.args.front.now c.args.last) c.args.depth (omega arith)) c.requires.stored (omega arith)
    (sym c.if-not-goes_on.true ∙ c.goes_on.ensures.outcome ∙ ap
    (λ (p : Prefix). is_ok (prefix_match c.args.self.now p (take (length c.args.front.now - c.args.depth) (drop c.args.depth c.args.front.now)))) same)

pub returns-clause-child : goal.returns-clause-child
returns-clause-child g c =
    let node = ref_view c.args.node in
    let l = length-append c.args.front.now (c.args.last ∷ []) in
    let same = prefix_same node.prefix c.prefix_len.ensures c.read_prefix.ensures.stored in
    child_passed c.args.self.now node (c.args.front.now ++ c.args.last ∷ []) c.args.depth
    (rest_of (last_rest c.args.front.now c.args.last) c.args.depth (omega arith)) c.requires.stored (omega arith)
    (sym c.if-not-goes_on.false ∙ c.goes_on.ensures.outcome ∙ ap
    (λ (p : Prefix). is_ok (prefix_match c.args.self.now p (take (length c.args.front.now - c.args.depth) (drop c.args.depth c.args.front.now)))) same)
    (sym c.requires.depth) (sym (get_or-append_seam c.args.front.now c.args.last [] 0)) c.lookup_child.ensures

pub returns-clause-behavior : goal.returns-clause-behavior
returns-clause-behavior g c = λ some.
    let node = ref_view c.args.node in
    let l = length-append c.args.front.now (c.args.last ∷ []) in
    let same = prefix_same node.prefix c.prefix_len.ensures c.read_prefix.ensures.stored in
    behavior_passed c.args.self.now node (c.args.front.now ++ c.args.last ∷ []) c.args.depth
    (rest_of (last_rest c.args.front.now c.args.last) c.args.depth (omega arith)) c.requires.stored (omega arith)
    (sym c.if-not-goes_on.false ∙ c.goes_on.ensures.outcome ∙ ap
    (λ (p : Prefix). is_ok (prefix_match c.args.self.now p (take (length c.args.front.now - c.args.depth) (drop c.args.depth c.args.front.now)))) same)
    (c.goes_on.ensures.behavior ∙ ap (λ (p : Prefix). behavior_after c.args.self.now p
    (take (length c.args.front.now - c.args.depth) (drop c.args.depth c.args.front.now))) same)
