use Rattle.std.proofs.Common.{arith, sym, ◌∙◌, ◌+◌}
use Rattle.std.proofs.lemmas.Option.{slice_get_within}
use Rattle.art_keys.specs.Escapes.{escape_inside}
use Rattle.art_keyed.proofs.EscapedFronts.{inside_byte, inside_shorter, none_outside, same_inside, zero_outside}
use Rattle.art_keyed.proofs.escaped_front.EscapedFrontKeyBytes.byte_after.Goals as goal

pub byte_after-requires : goal.byte_after-requires
byte_after-requires c = let len = inside_shorter c.args.self.now.bytes in let within = c.requires in omega arith

pub returns-in_err-byte-clause-byte : goal.returns-in_err-byte-clause-byte
returns-in_err-byte-clause-byte c = c.from_residual.ensures ∙ none_outside c.args.self.now.bytes (c.args.place + c.args.skipped) c.in_err-byte.ensures.byte

pub returns-in_err-byte-clause-fits : goal.returns-in_err-byte-clause-fits
returns-in_err-byte-clause-fits c = let len = inside_shorter c.args.self.now.bytes in let fits = c.byte_after.ensures.fits in omega arith

pub returns-in_err-byte-clause-same : goal.returns-in_err-byte-clause-same
returns-in_err-byte-clause-same c = same_inside c.byte_after.new.self c.args.self.now.bytes c.byte_after.ensures.same

pub returns-then-byte-eq0-clause-byte : goal.returns-then-byte-eq0-clause-byte
returns-then-byte-eq0-clause-byte c = zero_outside c.args.self.now.bytes (c.args.place + c.args.skipped) (rw c.if-byte-eq0.true at c.in_ok-byte.ensures.byte)

pub returns-then-byte-eq0-clause-fits : goal.returns-then-byte-eq0-clause-fits
returns-then-byte-eq0-clause-fits c = let len = inside_shorter c.args.self.now.bytes in let fits = c.byte_after.ensures.fits in omega arith

pub returns-then-byte-eq0-clause-same : goal.returns-then-byte-eq0-clause-same
returns-then-byte-eq0-clause-same c = same_inside c.byte_after.new.self c.args.self.now.bytes c.byte_after.ensures.same

pub returns-clause-byte : goal.returns-clause-byte
returns-clause-byte c =
    inside_byte c.args.self.now.bytes (c.args.place + c.args.skipped) c.in_ok-byte.byte c.if-byte-eq0.false c.in_ok-byte.ensures.byte

pub returns-clause-within : goal.returns-clause-within
returns-clause-within c =
    slice_get_within (escape_inside c.args.self.now.bytes) (c.args.place + c.args.skipped) c.in_ok-byte.byte
    (sym (inside_byte c.args.self.now.bytes (c.args.place + c.args.skipped) c.in_ok-byte.byte c.if-byte-eq0.false c.in_ok-byte.ensures.byte))

pub returns-clause-fits : goal.returns-clause-fits
returns-clause-fits c = let len = inside_shorter c.args.self.now.bytes in let fits = c.byte_after.ensures.fits in omega arith

pub returns-clause-same : goal.returns-clause-same
returns-clause-same c = same_inside c.byte_after.new.self c.args.self.now.bytes c.byte_after.ensures.same
