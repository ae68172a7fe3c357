use Rattle.std.proofs.Common.{rules, ap, sym, ◌∙◌, subst, length, None}
use Rattle.art_model.specs.Prelude.{leaf_names, of_key}
use Rattle.art_model.proofs.stores.StoreLaws.{has_children}
use Rattle.art_reading.specs.Iterators.{IsIteratorOf, pairs_left}
use Rattle.art_reading.proofs.PairsLeft.{none_left, whole_len, whole_pairs}
use Rattle.art_reading.proofs.PairsLeft as items
use Rattle.art_changing.proofs.Items.{no_pairs}
use Rattle.art_changing.proofs.MapPuts.{at_some}
use Rattle.art_map.proofs.map.owned.whole_walk.Goals as goal

pub returns-in_default-clause-pairs : goal.returns-in_default-clause-pairs
returns-in_default-clause-pairs g c =
    let nothing = no_pairs (of_key g.K.AsBytes.bytes) g.row.P c.args.store.now c.in_default.is c.requires in
    ap (λ walk. pairs_left c.args.store.now walk c.args.len) c.empty.ensures
    ∙ ap (pairs_left c.args.store.now None) (c.requires.len_is ∙ ap length nothing) ∙ none_left c.args.store.now ∙ sym nothing

pub minimum_unchecked-first-requires : goal.minimum_unchecked-first-requires
minimum_unchecked-first-requires g c =
    let has = at_some c.in-Some.is c.requires in
    (search rules, (has.layout, has_children _ _ _ _ _ has.layout has.by))

pub maximum_unchecked-last-requires : goal.maximum_unchecked-last-requires
maximum_unchecked-last-requires g c =
    let has = at_some c.in-Some.is c.requires in
    (search rules, (has.layout, has_children _ _ _ _ _ has.layout has.by))

pub new-requires : goal.new-requires
new-requires g c =
    let has = at_some c.in-Some.is c.requires in
    let full = has_children _ _ _ _ _ has.layout has.by in (
      search rules,
      (
        leaf_names has.layout,
        items.whole_walk has.by (c.minimum_unchecked-first.ensures has.layout full)
            (c.maximum_unchecked-last.ensures has.layout full),
      ),
    )

pub returns-clause-walk : goal.returns-clause-walk
returns-clause-walk g c =
    let has = at_some c.in-Some.is c.requires in
    let full = has_children _ _ _ _ _ has.layout has.by in
    let walks = items.whole_walk has.by (c.minimum_unchecked-first.ensures has.layout full) (c.maximum_unchecked-last.ensures has.layout full) in
    record {
      names = leaf_names has.layout;
      is = subst (λ walk. IsIteratorOf c.args.store.now walk (leaf_names has.layout)) (sym c.new.ensures) walks;
      len_is = has.len_is ∙ sym (whole_len has.by);
    }

pub returns-clause-pairs : goal.returns-clause-pairs
returns-clause-pairs g c =
    let has = at_some c.in-Some.is c.requires in
    let full = has_children _ _ _ _ _ has.layout has.by in
    ap (λ walk. pairs_left c.args.store.now walk c.args.len) c.new.ensures
    ∙ whole_pairs has.by (c.minimum_unchecked-first.ensures has.layout full) (c.maximum_unchecked-last.ensures has.layout full) has.len_is
