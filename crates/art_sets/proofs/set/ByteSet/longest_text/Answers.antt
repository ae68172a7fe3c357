use Rattle.std.proofs.Common.{rules, ap, subst, sym, ◌∙◌, option_map}
use Rattle.art_model.specs.Prelude.{last_of, AreEnded, IsEndedBy, texts_in_front}
use Rattle.art_sets.proofs.SetLaws.{keys_each, keys_longest}
use Rattle.art_sets.proofs.set.ByteSet.longest_text.Goals as goal

pub longest_text-requires : goal.longest_text-requires
longest_text-requires g c = (
  search rules,
  keys_each (λ k. IsEndedBy c.args.end (g.K.AsBytes.bytes k)) c.self.inside.map (subst (AreEnded g.K.AsBytes.bytes c.args.end) (sym c.self.view_is) c.requires),
)

pub returns-in-Some : goal.returns-in-Some
returns-in-Some g c =
    ap (option_map (λ x. x.0)) c.in-Some.ensures.pair ∙ sym (keys_longest g.K.AsBytes.bytes c.args.query.now c.self.inside.map)
    ∙ ap (λ keys. last_of (texts_in_front g.K.AsBytes.bytes c.args.query.now keys)) c.self.view_is

pub returns-in-None : goal.returns-in-None
returns-in-None g c =
    ap (option_map (λ x. x.0)) c.in-None.ensures.pair ∙ sym (keys_longest g.K.AsBytes.bytes c.args.query.now c.self.inside.map)
    ∙ ap (λ keys. last_of (texts_in_front g.K.AsBytes.bytes c.args.query.now keys)) c.self.view_is
