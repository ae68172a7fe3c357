use Rattle.std.proofs.Common.{◌≡◌, IfSome, Some, ap, sym, ◌∙◌, subst}
use Rattle.std.proofs.lemmas.Result.{IfOk-weaker, MatchResult-weaker}
use Rattle.art_operations.specs.Ended.{HasNoZero, ended}
use Rattle.snapshot_format.specs.Snapshots.{IsStorable, snapshot_of}
use Rattle.art_snapshots.proofs.KeyEntries.{entries_keys, entries_units, have_units, units}
use Rattle.text_programs.proofs.PathSnapshotLemmas.{same_paths}
use Rattle.text_programs.proofs.path_indexes.saving.load_index.Goals as goal

pub returns-clause-read : goal.returns-clause-read
returns-clause-read g c =
    IfOk-weaker c.read_map.result _ _ (λ map read. subst (λ entries. IfSome (g.R.Read.remaining c.args.input) (λ bytes. bytes ≡ snapshot_of entries))
    (entries_keys ended map) read) c.read_map.ensures.read

pub returns-clause-reads_back : goal.returns-clause-reads_back
returns-clause-reads_back g c = λ paths bytes saved left.
    MatchResult-weaker c.read_map.result
    (c.read_map.ensures.reads_back (units paths) (have_units ended HasNoZero paths saved.plain)
    (subst IsStorable (sym (entries_units ended paths)) saved.storable)
    (left ∙ ap Some saved.bytes_are ∙ ap (λ entries. Some (snapshot_of entries)) (sym (entries_units ended paths))))
    (λ map same. same_paths map paths same) (λ error outside. outside)

pub returns-clause-fault : goal.returns-clause-fault
returns-clause-fault g c = c.read_map.ensures.fault
