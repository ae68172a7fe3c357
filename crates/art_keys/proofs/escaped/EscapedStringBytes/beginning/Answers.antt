use Rattle.std.proofs.Common.{ap, length, sym, ◌∙◌}
use Rattle.art_parts.specs.Keys.{is_front}
use Rattle.art_keys.specs.Escapes.{escape, escape_inside, unescape}
use Rattle.art_keys.specs.EscapeLaws.{before_end, escape_begins, has_end}
use Rattle.art_keys.proofs.escaped.EscapedStringBytes.beginning.Goals as goal

pub returns-in-Some : goal.returns-in-Some
returns-in-Some c =
    let inside = before_end (unescape c.self.inside.bytes) _ c.in-Some.inside.now c.in-Some.field-0-0.now
    (c.self.invariant ∙ sym c.as_slice.ensures) c.in-Some.ensures.cases.0 in
    record {
      inside = inside ∙ ap escape_inside c.self.view_is;
      begins = λ other of_other.
          ap (λ beginning. is_front beginning (escape other)) inside ∙ escape_begins (unescape c.self.inside.bytes) other
          ∙ ap (λ text. is_front text other) c.self.view_is;
    }

pub returns-in-None : goal.returns-in-None
returns-in-None c =
    absurd (has_end (unescape c.self.inside.bytes) c.self.inside.bytes c.self.invariant
    (ap length (sym c.as_slice.ensures) ∙ c.in-None.ensures.cases))
