use Rattle.std.proofs.Common.{sym, ap, ◌∙◌, rules}
use Rattle.std.specs.Option.{option_map}
use Rattle.art_parts.specs.Names.{leaf_name}
use Rattle.art_read_tests.proofs.tests.iterator.again.Goals as goal

pub new-requires : goal.new-requires
new-requires g c =
    let (names, is) = c.requires in
    let first = sym (c.next.ensures.leaf names is) ∙ ap (option_map leaf_name) (c.in_ok-first.was) in
    let last = sym (c.next_back.ensures.leaf names is) ∙ ap (option_map leaf_name) (c.in_ok-last.was) in
    (search rules, (names, record { ends = (first, last); segment = is.segment }))

pub returns : goal.returns
returns g c =
    let (names, is) = c.requires in
    let first = sym (c.next.ensures.leaf names is) ∙ ap (option_map leaf_name) (c.in_ok-first.was) in
    let last = sym (c.next_back.ensures.leaf names is) ∙ ap (option_map leaf_name) (c.in_ok-last.was) in
    rw c.new.ensures (names, record { ends = (first, last); segment = is.segment })
