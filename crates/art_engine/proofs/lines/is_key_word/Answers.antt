use Rattle.std.proofs.Common.{inl, inr, ◌∙◌, sym}
use Rattle.std.specs.Cmp.Lexicographic.{other_text}
use Rattle.art_engine.proofs.KeyLemmas.{key_from_words, words_from_key}
use Rattle.art_engine.proofs.lines.is_key_word.Goals as goal

pub returns-else-eq : goal.returns-else-eq
returns-else-eq c = (
  (λ t. key_from_words c.args.word.now (c.has_byte_words.ensures.0 t)),
  (λ key. elim (words_from_key c.args.word.now key) [
    | inl is ↦ absurd (other_text c.args.word.now c.as_slice.result.now c.if-eq.ensures (is ∙ sym c.as_slice.ensures))
    | inr all ↦ c.has_byte_words.ensures.1 all
  ]),
)
