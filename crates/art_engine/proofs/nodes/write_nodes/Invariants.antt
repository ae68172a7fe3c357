use Rattle.std.proofs.Common.{◌≡◌, ℕ, List}
use Rattle.std.specs.List.{AllByRecursion as Each}
use Rattle.std.specs.Vec.{vec_capacity}
use Rattle.art_parts.specs.declared.names.OpaqueNodePtr.{OpaqueNodePtr}
use Rattle.art_model.specs.Canonical.{IsCanonical}
use Rattle.art_model.specs.Pairs.{of_key}
use Rattle.art_engine.specs.KeptKeys.{Key, key_bytes}
use Rattle.art_engine.specs.NodeWalks.{HasRoom, left_after}
use Rattle.art_engine.proofs.NodesBelow.{IsPendingTree}
use Rattle.art_engine.specs.NodeLines.{nodes_text}
use Rattle.art_engine.proofs.NodeRows.{IsWritten}
use Rattle.art_engine.proofs.nodes.write_nodes.Given as goal

-- what is left after so many steps stands for trees, there is room for what will be, and the lines so far are written
abbrev pub invariant-loop : goal.invariant-loop
invariant-loop g l =
    ((root : OpaqueNodePtr) × (turns : ℕ) × (l.pending.items ≡ left_after l.store root turns) ×
    HasRoom l.store root (vec_capacity l.pending) × Each (IsPendingTree l.store) l.pending.items) ×
    ((pairs : List (Key × ℕ)) → IsCanonical (of_key key_bytes) g.row.P l.store l.fn.root pairs →
    IsWritten l.store l.pending.items (nodes_text g.row.P pairs) (g.W.Write.contents l.initial.output) (g.W.Write.contents l.output))
