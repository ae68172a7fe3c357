use Rattle.std.proofs.Common.{◌∙◌, refl, ap, sym, append_assoc, arith, rules, ◌++◌}
use Rattle.std.proofs.lemmas.List.{append-nil, nil_from_length}
use Rattle.art_running.proofs.RunChains.{run_none, run_more}
use Rattle.art_running.proofs.Moves.{canonical_sound, on_canonical}
use Rattle.art_running.specs.declared.run.Side.TheVariants.{First}
use Rattle.art_running.proofs.run.run.Goals as goal

pub loop-command-init : goal.loop-command-init
loop-command-init g c =
    let (pairs, canonical) = c.requires.canonical in
    let (old, shows, sound) = canonical_sound g.K.AsBytes.bytes g.row.P First c.args.first.now c.args.second.now c.args.root pairs canonical in
    let given = c.into_iter-command-iterator.ensures.into_iter_gives in
    record { run = rw c.in-Ok.ensures.items (run_none old shows sound); commands = sym given.0; capacity = search rules }

pub returns-clause-run : goal.returns-clause-run
returns-clause-run g c =
    let rest = c.loop-command.command-iterator.rest in
    let none = nil_from_length rest.items (sym rest.ok.0 ∙ c.in-None.ensures.steps.0) in
    let all = c.loop-command.invariant.commands ∙ ap (λ l. c.loop-command.yielded ++ l) none ∙ append-nil c.loop-command.yielded in
    rw all c.loop-command.invariant.run

pub returns-in-Err-clause-refused : goal.returns-in-Err-clause-refused
returns-in-Err-clause-refused g c = refl

pub answer_next-reply-requires : goal.answer_next-reply-requires
answer_next-reply-requires g c =
    let run = c.loop-command.invariant.run in (
      search rules,
      (
        on_canonical g.K.AsBytes.bytes g.row.P c.loop-command.side c.loop-command.first c.loop-command.second c.loop-command.root
            run.end run.ends run.end_sound,
        c.requires.clones,
      ),
    )

pub push_reserved-requires : goal.push_reserved-requires
push_reserved-requires g c = omega (arith, c.loop-command.invariant.capacity, c.in-Some.ensures.steps.1)

pub loop-command-preserved : goal.loop-command-preserved
loop-command-preserved g c =
    let so_far = c.loop-command.invariant in
    record {
      run = rw c.push_reserved.ensures.items (run_more so_far.run c.answer_next-reply.ensures);
      commands = so_far.commands ∙ ap (λ l. c.loop-command.yielded ++ l) c.in-Some.ensures.steps.0 ∙ sym (append_assoc c.loop-command.yielded _ _);
      capacity = omega (arith, so_far.capacity, c.in-Some.ensures.steps.1, c.push_reserved.ensures.len, c.push_reserved.ensures.capacity);
    }

pub returns-clause-canonical : goal.returns-clause-canonical
returns-clause-canonical g c =
    let run = c.loop-command.invariant.run in
    on_canonical g.K.AsBytes.bytes g.row.P c.loop-command.side c.loop-command.first c.loop-command.second c.loop-command.root run.end run.ends run.end_sound
