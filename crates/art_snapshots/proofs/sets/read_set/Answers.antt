use Rattle.std.proofs.Common.{◌≡◌, IfSome, Some, ap, subst, sym, ◌∙◌}
use Rattle.std.proofs.lemmas.Result.{err_from_is_err_and}
use Rattle.std.specs.List.{AllByRecursion as Each}
use Rattle.snapshot_format.specs.Snapshots.{IsStorable, snapshot_of}
use Rattle.art_snapshots.specs.MapEntries.{key_entries}
use Rattle.art_snapshots.proofs.KeyEntries.{are_keys, entries_keys, entries_units, have_units, same_keys, units}
use Rattle.art_snapshots.proofs.sets.read_set.Goals as goal

pub returns-in_err-map-clause-reads_back : goal.returns-in_err-map-clause-reads_back
returns-in_err-map-clause-reads_back g c = λ keys of_keys stored e.
    let bytes = g.K.AsBytes.bytes in
    let p = err_from_is_err_and c.from_residual.result c.from_residual.ensures.1 in
    rw (p.1, p.2) (c.in_err-map.ensures.reads_back (units keys) (have_units bytes g.K.NoPrefixesBytes.is_key keys of_keys)
    (subst IsStorable (sym (entries_units bytes keys)) stored)
    (e ∙ ap (λ entries. Some (snapshot_of entries)) (sym (entries_units bytes keys))))

pub returns-clause-read : goal.returns-clause-read
returns-clause-read g c =
    let bytes = g.K.AsBytes.bytes in
    subst (λ entries. IfSome (g.R.Read.remaining c.args.input) (λ these. these ≡ snapshot_of entries))
    (entries_keys bytes c.in_ok-map.map ∙ ap (key_entries bytes) (sym c.from_map.ensures)) c.in_ok-map.ensures.read

pub returns-clause-reads_back : goal.returns-clause-reads_back
returns-clause-reads_back g c = λ keys of_keys stored e.
    let bytes = g.K.AsBytes.bytes in
    let is_key = g.K.NoPrefixesBytes.is_key in
    let same = c.in_ok-map.ensures.reads_back (units keys) (have_units bytes is_key keys of_keys)
    (subst IsStorable (sym (entries_units bytes keys)) stored)
    (e ∙ ap (λ entries. Some (snapshot_of entries)) (sym (entries_units bytes keys))) in
    let known = subst (Each is_key) (sym c.from_map.ensures) (are_keys bytes is_key c.in_ok-map.map c.as_byte_map.ensures.keys) in
    same_keys bytes is_key g.met.K.NoPrefixesBytes.injective c.from_map.result keys known of_keys
    (ap (key_entries bytes) c.from_map.ensures ∙ sym (entries_keys bytes c.in_ok-map.map) ∙ same ∙ entries_units bytes keys)

pub returns-in_err-map-clause-fault : goal.returns-in_err-map-clause-fault
returns-in_err-map-clause-fault g c =
    let p = err_from_is_err_and c.from_residual.result c.from_residual.ensures.1 in
    rw (p.1, p.2) c.in_err-map.ensures.fault
