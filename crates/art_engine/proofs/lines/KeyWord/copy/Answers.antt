use Rattle.std.proofs.Common.{inl, inr, ◌∙◌, sym}
use Rattle.std.proofs.Math.Logic.{∥∥₁_map}
use Rattle.std.proofs.lemmas.Result.{IfOk-weaker}
use Rattle.std.specs.Cmp.Lexicographic.{other_text}
use Rattle.art_engine.proofs.KeyLemmas.{words_from_key, key_of_parts}
use Rattle.art_engine.proofs.lines.KeyWord.copy.Goals as goal

pub read_bytes-requires : goal.read_bytes-requires
read_bytes-requires c =
    ∥∥₁_map c.args.self.is_key (λ key. elim (words_from_key c.args.self.word.now key) [
      | inl is ↦ absurd (other_text c.args.self.word.now c.as_slice.result.now c.if-eq.ensures (is ∙ sym c.as_slice.ensures))
      | inr all ↦ all
    ])

pub returns : goal.returns
returns c = IfOk-weaker c.read_bytes.result _ _ (λ key are. key_of_parts c.args.self.word.now key.items are) c.read_bytes.ensures
