use Rattle.std.proofs.Common.{IfSome}
use Rattle.art_model.specs.Pairs.{of_key}
use Rattle.art_model.specs.Roots.{IsCanonicalRoot}
use Rattle.art_bench.proofs.store_calls.build.Given as goal

-- the root, if there is one, is canonical
abbrev pub invariant-keys : goal.invariant-keys
invariant-keys l = IfSome l.root (IsCanonicalRoot (of_key (λ key. key.items)) 16 l.store)
