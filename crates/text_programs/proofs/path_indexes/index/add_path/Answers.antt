use Rattle.std.proofs.Common.{subst, sym}
use Rattle.art_operations.specs.Ended.{ended}
use Rattle.art_operations.specs.MapItems.{keys_of}
use Rattle.art_operations.specs.Pairs.{of_key, put}
use Rattle.text_programs.specs.Paths.{AddsPath}
use Rattle.text_programs.proofs.PathParts.{put_adds}
use Rattle.text_programs.proofs.path_indexes.index.add_path.Goals as goal

pub returns-in-Ok-clause-added : goal.returns-in-Ok-clause-added
returns-in-Ok-clause-added c =
    rw c.in-Ok.ensures.pairs (subst (λ k. AddsPath c.args.path.now (keys_of c.args.index.now) (keys_of (put (of_key ended) (k, tt) c.args.index.now)))
    (sym c.in_ok-key.ensures.key) (put_adds c.args.path.now tt c.args.index.now))
