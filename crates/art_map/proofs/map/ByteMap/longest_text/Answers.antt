use Rattle.std.proofs.Common.{rules, ap, ◌∙◌, option_map}
use Rattle.art_model.specs.Prelude.{last_of, of_key, AreEnded, texts_in_front}
use Rattle.art_iterating.specs.MapItems.{deref_pair}
use Rattle.art_changing.proofs.MapPuts.{canonical_root}
use Rattle.art_map.proofs.NamedPairs.{found_in, named_pair, tree_has}
use Rattle.art_map.proofs.map.ByteMap.longest_text.Goals as goal

pub longest_text_unchecked-requires : goal.longest_text_unchecked-requires
longest_text_unchecked-requires g c = (
  search rules,
  (
    canonical_root c.in_ok-self.was c.self.invariant,
    tree_has g.K.AsBytes.bytes g.row.P c.in_ok-self.was c.self.invariant (AreEnded (of_key g.K.AsBytes.bytes) c.args.end) c.self.view_is c.requires,
  ),
)

pub returns-in_err-leaf-clause-pair : goal.returns-in_err-leaf-clause-pair
returns-in_err-leaf-clause-pair g c =
    ap (option_map deref_pair) c.from_residual-in_err-leaf.ensures
    ∙ found_in g.K.AsBytes.bytes g.row.P c.in_ok-self.was c.self.invariant
    (λ pairs. last_of (texts_in_front (of_key g.K.AsBytes.bytes) c.args.query.now pairs)) c.in_err-leaf.ensures.pair c.self.view_is

pub returns-clause-pair : goal.returns-clause-pair
returns-clause-pair g c =
    named_pair g.K.AsBytes.bytes g.row.P c.in_ok-self.was c.self.invariant
    (λ pairs. last_of (texts_in_front (of_key g.K.AsBytes.bytes) c.args.query.now pairs))
    c.in_ok-leaf.ensures.leaf c.pair_at.ensures c.self.view_is
