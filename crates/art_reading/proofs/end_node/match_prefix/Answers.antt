use Rattle.std.proofs.Common.{drop, sym, refl}
use Rattle.std.proofs.lemmas.Bool.{ltb-false}
use Rattle.std.proofs.lemmas.Option.{slice_get_read}
use Rattle.art_reading.proofs.Partings.{all_shared}
use Rattle.art_reading.proofs.end_node.match_prefix.Goals as goal

pub returns-in-None-clause-len : goal.returns-in-None-clause-len
returns-in-None-clause-len g c =
    (all_shared c.args.prefix.now (drop c.args.depth (g.B.KeyBytes.key c.args.key.now)) c.shared_after-matched_bytes.result
    c.shared_after-matched_bytes.ensures.shared (ltb-false _ _ (sym c.in-None.ensures.lookup.0))).0

pub returns-in-None-clause-front : goal.returns-in-None-clause-front
returns-in-None-clause-front g c =
    (all_shared c.args.prefix.now (drop c.args.depth (g.B.KeyBytes.key c.args.key.now)) c.shared_after-matched_bytes.result
    c.shared_after-matched_bytes.ensures.shared (ltb-false _ _ (sym c.in-None.ensures.lookup.0))).1

pub returns-in-Some-clause-byte : goal.returns-in-Some-clause-byte
returns-in-Some-clause-byte g c =
    slice_get_read c.args.prefix.now _ c.shared_after-matched_bytes.result c.in-Some.field-0.now refl c.in-Some.ensures.lookup.3.0
    c.in-Some.ensures.lookup.1
