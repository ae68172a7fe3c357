use Rattle.std.proofs.Common.{ℕ, List}
use Rattle.art_parts.specs.declared.names.OpaqueNodePtr.{OpaqueNodePtr}
use Rattle.art_model.specs.Canonical.{IsCanonical}
use Rattle.art_model.specs.Pairs.{of_key}
use Rattle.art_reading.specs.Iterators.{IsIteratorOf}
use Rattle.art_engine.specs.KeptKeys.{Key, key_bytes}
use Rattle.art_engine.proofs.Rows.{IsRow}
use Rattle.art_engine.proofs.pairs.write_pairs.Given as goal

-- the remaining leaves are in the store, and linked, and the pairs so far are written
abbrev pub invariant-loop-written : goal.invariant-loop-written
invariant-loop-written g l =
    ((names : List OpaqueNodePtr) × IsIteratorOf l.store l.leaves names) ×
    ((pairs : List (Key × ℕ)) → IsCanonical (of_key key_bytes) g.row.P l.store l.fn.root pairs →
    IsRow l.store l.order l.leaves pairs l.written (g.W.Write.contents l.initial.output) (g.W.Write.contents l.output))
