use Rattle.std.proofs.Common.{rules, ap, subst, sym, ◌∙◌, option_map}
use Rattle.art_model.specs.Prelude.{first_of, AreEnded, IsEndedBy}
use Rattle.art_ranges.specs.ShortTexts.{texts_from}
use Rattle.art_sets.proofs.SetLaws.{keys_each, keys_shortest}
use Rattle.art_sets.proofs.set.ByteSet.shortest_text.Goals as goal

pub shortest_text-requires : goal.shortest_text-requires
shortest_text-requires g c = (
  search rules,
  keys_each (λ k. IsEndedBy c.args.end (g.K.AsBytes.bytes k)) c.self.inside.map (subst (AreEnded g.K.AsBytes.bytes c.args.end) (sym c.self.view_is) c.requires),
)

pub returns-in-Some : goal.returns-in-Some
returns-in-Some g c =
    ap (option_map (λ x. x.0)) c.in-Some.ensures.pair ∙ sym (keys_shortest g.K.AsBytes.bytes c.args.query.now c.args.at_least c.self.inside.map)
    ∙ ap (λ keys. first_of (texts_from g.K.AsBytes.bytes c.args.query.now c.args.at_least keys)) c.self.view_is

pub returns-in-None : goal.returns-in-None
returns-in-None g c =
    ap (option_map (λ x. x.0)) c.in-None.ensures.pair ∙ sym (keys_shortest g.K.AsBytes.bytes c.args.query.now c.args.at_least c.self.inside.map)
    ∙ ap (λ keys. first_of (texts_from g.K.AsBytes.bytes c.args.query.now c.args.at_least keys)) c.self.view_is
