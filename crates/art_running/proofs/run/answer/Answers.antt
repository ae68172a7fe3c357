use Rattle.std.proofs.Common.{Some, refl, rules, sym}
use Rattle.art_model.specs.Prelude.{first_of, last_of, of_key, remove_reply, pairs_of}
use Rattle.art_running.proofs.RemovedPairs.{deletion_at, takes_first, takes_key, takes_last}
use Rattle.art_running.proofs.Moves.{absent_step, asked, canonical_root, found_step, match_step}
use Rattle.art_running.specs.declared.run.Command.TheVariants.{Delete, DeleteMin, DeleteMax}
use Rattle.art_writing.proofs.KeysFound.{found_stored, point_none, removes_none}
use Rattle.art_running.proofs.run.answer.Goals as goal

pub returns-in_default : goal.returns-in_default
returns-in_default g c = rw c.in_default.is (c.answer_without_tree.ensures c.args.side.now c.args.other.now)

pub insert-requires : goal.insert-requires
insert-requires g c = (search rules, (canonical_root g.K.AsBytes.bytes g.row.P c.in-Some.is c.requires.canonical, c.in-Some.is))

pub returns-in-Insert : goal.returns-in-Insert
returns-in-Insert g c = rw (c.in-Insert.is, c.in-Some.is) (c.insert.ensures c.args.side.now c.args.other.now)

pub insert_prefix-requires : goal.insert_prefix-requires
insert_prefix-requires g c = (search rules, (canonical_root g.K.AsBytes.bytes g.row.P c.in-Some.is c.requires.canonical, c.in-Some.is))

pub returns-in-InsertPrefix : goal.returns-in-InsertPrefix
returns-in-InsertPrefix g c = rw (c.in-InsertPrefix.is, c.in-Some.is) (c.insert_prefix.ensures c.args.side.now c.args.other.now)

pub search_for_delete_point-requires : goal.search_for_delete_point-requires
search_for_delete_point-requires g c = (search rules, canonical_root g.K.AsBytes.bytes g.row.P c.in-Some.is c.requires.canonical)

pub delete-requires : goal.delete-requires
delete-requires g c = (search rules, (c.in-Some-search_for_delete_point.ensures.applies, c.in-Some.is))

pub returns-in-Some-search_for_delete_point : goal.returns-in-Some-search_for_delete_point
returns-in-Some-search_for_delete_point g c =
    let bytes = g.K.AsBytes.bytes in
    let key = c.in-Delete.key in
    let found = rw c.deref.ensures.value at c.in-Some-search_for_delete_point.ensures.point in
    rw (c.in-Delete.is, c.in-Some.is) (c.delete.ensures (Delete key)
    (deletion_at bytes g.row.P (Delete key) (remove_reply (of_key bytes) key.items) (takes_key bytes key) found) c.args.side.now c.args.other.now)

pub returns-in-Delete : goal.returns-in-Delete
returns-in-Delete g c =
    let bytes = g.K.AsBytes.bytes in
    let key = c.in-Delete.key.items in
    rw (c.in-Delete.is, c.in-Some.is) (asked bytes g.row.P c.args.side.now c.args.other.now (λ layout by.
    let found = rw c.deref.ensures.value at (c.in-None.ensures.point (pairs_of layout) layout by) in
    let none = point_none layout (remove_reply (of_key bytes) key (pairs_of layout)) found in
    absent_step bytes g.row.P c.args.side.now c.args.other.now (Some layout) (sym none, sym (removes_none (of_key bytes) key (pairs_of layout) none))))

pub find_minimum_to_delete-point-requires : goal.find_minimum_to_delete-point-requires
find_minimum_to_delete-point-requires g c = (search rules, canonical_root g.K.AsBytes.bytes g.row.P c.in-Some.is c.requires.canonical)

pub delete-requires-in-DeleteMin : goal.delete-requires-in-DeleteMin
delete-requires-in-DeleteMin g c = (search rules, (c.find_minimum_to_delete-point.ensures.applies, c.in-Some.is))

pub returns-in-DeleteMin : goal.returns-in-DeleteMin
returns-in-DeleteMin g c =
    let bytes = g.K.AsBytes.bytes in
    rw (c.in-DeleteMin.is, c.in-Some.is) (c.delete-in-DeleteMin.ensures DeleteMin
    (deletion_at bytes g.row.P DeleteMin first_of (takes_first bytes) c.find_minimum_to_delete-point.ensures.point) c.args.side.now c.args.other.now)

pub find_maximum_to_delete-point-requires : goal.find_maximum_to_delete-point-requires
find_maximum_to_delete-point-requires g c = (search rules, canonical_root g.K.AsBytes.bytes g.row.P c.in-Some.is c.requires.canonical)

pub delete-requires-in-DeleteMax : goal.delete-requires-in-DeleteMax
delete-requires-in-DeleteMax g c = (search rules, (c.find_maximum_to_delete-point.ensures.applies, c.in-Some.is))

pub returns-in-DeleteMax : goal.returns-in-DeleteMax
returns-in-DeleteMax g c =
    let bytes = g.K.AsBytes.bytes in
    rw (c.in-DeleteMax.is, c.in-Some.is) (c.delete-in-DeleteMax.ensures DeleteMax
    (deletion_at bytes g.row.P DeleteMax last_of (takes_last bytes) c.find_maximum_to_delete-point.ensures.point) c.args.side.now c.args.other.now)

pub clone_over-requires : goal.clone_over-requires
clone_over-requires g c = (search rules, (canonical_root g.K.AsBytes.bytes g.row.P c.in-Some.is c.requires.canonical, (c.in-Some.is, c.requires.clones)))

pub returns-in-Clone : goal.returns-in-Clone
returns-in-Clone g c = rw (c.in-Clone.is, c.in-Some.is) c.clone_over.ensures

pub search_unchecked-requires : goal.search_unchecked-requires
search_unchecked-requires g c = (search rules, canonical_root g.K.AsBytes.bytes g.row.P c.in-Some.is c.requires.canonical)

pub returns-in-Contains : goal.returns-in-Contains
returns-in-Contains g c =
    let bytes = g.K.AsBytes.bytes in
    rw (c.in-Contains.is, c.in-Some.is, c.is_some.ensures) (asked bytes g.row.P c.args.side.now c.args.other.now (λ layout by.
    let found = rw c.deref-in-Contains.ensures.value at (c.search_unchecked.ensures.leaf (pairs_of layout) layout by) in
    found_step bytes g.row.P c.args.side.now c.args.other.now (Some layout)
    (found_stored (of_key bytes) c.in-Contains.key.items (pairs_of layout) layout c.search_unchecked.result found, refl)))

pub longest_match-requires : goal.longest_match-requires
longest_match-requires g c = (search rules, canonical_root g.K.AsBytes.bytes g.row.P c.in-Some.is c.requires.canonical)

pub returns : goal.returns
returns g c =
    let bytes = g.K.AsBytes.bytes in
    rw (c.in-LongestMatch.is, c.in-Some.is) (asked bytes g.row.P c.args.side.now c.args.other.now (λ layout by.
    let found = rw c.deref-in-LongestMatch.ensures.value at (c.longest_match.ensures (pairs_of layout) layout by) in
    match_step bytes g.row.P c.args.side.now c.args.other.now (Some layout) (found, refl)))
