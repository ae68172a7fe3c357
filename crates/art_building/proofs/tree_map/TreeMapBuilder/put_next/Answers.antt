use Rattle.std.proofs.Common.{refl, sym}
use Rattle.std.proofs.lemmas.Bool.{false≢true}
use Rattle.std.proofs.lemmas.Result.{on_ok_weaker}
use Rattle.art_building.proofs.Lasts.{greater_is_map, greater_is_put, same_is_map, same_is_put}
use Rattle.art_building.proofs.tree_map.TreeMapBuilder.put_next.Goals as goal

pub returns-then-have_same_bytes-clause-put : goal.returns-then-have_same_bytes-clause-put
returns-then-have_same_bytes-clause-put g c =
    same_is_put g.K.AsBytes.bytes c.args.self.now c.args.last.now c.requires.map c.args.next (sym (c.if-have_same_bytes.ensures.0 refl))

pub returns-then-have_same_bytes-clause-map : goal.returns-then-have_same_bytes-clause-map
returns-then-have_same_bytes-clause-map g c =
    same_is_map g.K.AsBytes.bytes c.args.self.now c.args.last.now c.requires.map c.args.next (sym (c.if-have_same_bytes.ensures.0 refl))

pub returns-clause-put : goal.returns-clause-put
returns-clause-put g c =
    on_ok_weaker c.push_last.result
    (greater_is_put g.K.AsBytes.bytes c.args.self.now c.args.last.now c.requires.map g.K.NoPrefixesBytes.is_key g.met.K.NoPrefixesBytes.no_prefixes c.args.next
    c.as_key.ensures c.as_key-2.ensures (λ same. false≢true (c.if-have_same_bytes.ensures.1 same)) c.requires.order
    c.replace-pushed.result c.replace-pushed.new.dest c.push_last.new.self c.replace-pushed.ensures.value c.replace-pushed.ensures.after) c.push_last.ensures

pub returns-clause-map : goal.returns-clause-map
returns-clause-map g c =
    on_ok_weaker c.push_last.result
    (greater_is_map g.K.AsBytes.bytes c.args.self.now c.args.last.now c.requires.map g.K.NoPrefixesBytes.is_key g.met.K.NoPrefixesBytes.no_prefixes c.args.next
    c.as_key.ensures c.as_key-2.ensures (λ same. false≢true (c.if-have_same_bytes.ensures.1 same)) c.requires.order
    c.replace-pushed.result c.replace-pushed.new.dest c.push_last.new.self c.replace-pushed.ensures.value c.replace-pushed.ensures.after) c.push_last.ensures
