use Rattle.std.proofs.Common.{Some, ap, ap₂, subst, sym, ◌∙◌}
use Rattle.std.specs.Option.{option_map}
use Rattle.text_programs.specs.Entries.{IsNoLonger, entries_of}
use Rattle.text_programs.proofs.CodeEntries.{entries_rise, last_match, match_entry, no_longer}
use Rattle.text_programs.proofs.dial_codes.table.find.Goals as goal

pub returns-in-Some-clause-last : goal.returns-in-Some-clause-last
returns-in-Some-clause-last c =
    ap₂ (λ a b. Some (a, b)) c.as_bytes_without_end.ensures.text c.as_slice.ensures.value ∙ ap (option_map (λ x. (x.0, x.1.name.items))) c.in-Some.ensures
    ∙ sym (match_entry c.args.number.now c.args.table.now)

pub returns-in-Some-clause-found : goal.returns-in-Some-clause-found
returns-in-Some-clause-found c = last_match (entries_of c.args.table.now) c.args.number.now _ (sym (returns-in-Some-clause-last c))

pub returns-in-Some-clause-longest : goal.returns-in-Some-clause-longest
returns-in-Some-clause-longest c entry there front =
    subst (IsNoLonger entry) (sym (returns-in-Some-clause-last c))
    (no_longer (entries_of c.args.table.now) c.args.number.now entry (entries_rise c.args.table.now c.rises.ensures) there front)

pub returns-in-None-clause-last : goal.returns-in-None-clause-last
returns-in-None-clause-last c =
    ap (option_map (λ x. (x.0, x.1.name.items))) c.in-None.ensures ∙ sym (match_entry c.args.number.now c.args.table.now)

pub returns-in-None-clause-longest : goal.returns-in-None-clause-longest
returns-in-None-clause-longest c entry there front =
    subst (IsNoLonger entry) (sym (returns-in-None-clause-last c))
    (no_longer (entries_of c.args.table.now) c.args.number.now entry (entries_rise c.args.table.now c.rises.ensures) there front)
