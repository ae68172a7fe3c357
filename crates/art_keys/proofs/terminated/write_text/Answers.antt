use Rattle.std.proofs.Common.{◌≡◌, ◌<◌, ◌++◌, length, append-nil, append_assoc, ap, subst, sym, ◌∙◌, refl, rules}
use Rattle.std.specs.Fmt.{HasWritten}
use Rattle.std.specs.Str.Chunks.{utf8_chunks_rest}
use Rattle.std.specs.Str.Lossy.{replacement_bytes, utf8_lossy}
use Rattle.std.proofs.lemmas.Grind.{put_two}
use Rattle.std.proofs.lemmas.Str.{utf8_lossy_chunk, utf8_lossy_empty, utf8_lossy_last_chunk}
use Rattle.art_keys.proofs.terminated.write_text.Goals as goal

pub loop-chunk-preserved-in-Continue-branch-2 : goal.loop-chunk-preserved-in-Continue-branch-2
loop-chunk-preserved-in-Continue-branch-2 g c =
    λ plain.
    let now = c.loop-chunk.invariant plain in
    let steps = c.in-Some.ensures.steps in
    let some : 0 < length c.in-Some.chunk.invalid.now = search rules in
    let valid = c.valid.result.now in
    let rest = utf8_lossy (utf8_chunks_rest c.next.new.self) in
    let text = utf8_lossy_chunk _ _ _ _ steps.0 steps.3.0 steps.3.1 some in
    let first : HasWritten g.W.Write.write_str_gives c.loop-chunk.f valid c.write_str.new.self = c.in_ok-write_str.ensures.writes now.1.plain refl in
    let second : HasWritten g.W.Write.write_str_gives c.write_str.new.self replacement_bytes c.write_str-then-not-is_empty.new.self =
    c.in_ok-write_str-2.ensures.writes first.plain refl in (
      (now.0 ++ valid) ++ replacement_bytes,
      put_two _ _ _ _ _ _ _ (put_two _ _ _ _ _ _ _ now.1 first refl) second refl,
      append_assoc (now.0 ++ valid) replacement_bytes rest ∙ append_assoc now.0 valid (replacement_bytes ++ rest)
          ∙ ap (λ t. now.0 ++ (t ++ (replacement_bytes ++ rest))) c.valid.ensures ∙ ap (λ t. now.0 ++ t) (sym text) ∙ now.2,
    )

pub loop-chunk-preserved : goal.loop-chunk-preserved
loop-chunk-preserved g c =
    λ plain.
    let now = c.loop-chunk.invariant plain in
    let steps = c.in-Some.ensures.steps in
    let none : length c.in-Some.chunk.invalid.now ≡ 0 = search rules in
    let valid = c.valid.result.now in
    let rest = utf8_lossy (utf8_chunks_rest c.next.new.self) in
    let text = utf8_lossy_last_chunk _ _ _ _ steps.0 steps.3.0 none (steps.2 none) in
    let first : HasWritten g.W.Write.write_str_gives c.loop-chunk.f valid c.write_str.new.self = c.in_ok-write_str.ensures.writes now.1.plain refl in (
      now.0 ++ valid,
      put_two _ _ _ _ _ _ _ now.1 first refl,
      append_assoc now.0 valid rest ∙ ap (λ t. now.0 ++ (t ++ rest)) c.valid.ensures ∙ ap (λ t. now.0 ++ t) (sym text) ∙ now.2,
    )

pub returns : goal.returns
returns g c =
    λ plain ok.
    let now = c.loop-chunk.invariant plain in
    let last = sym (append-nil now.0) ∙ ap (λ t. now.0 ++ t) (sym (utf8_lossy_empty _ c.in-None.ensures.steps.0)) ∙ now.2 in
    subst (λ t. HasWritten g.W.Write.write_str_gives c.args.f.now t c.loop-chunk.f) last now.1
