use Rattle.art_writing.proofs.Applied.{applied_prefix, granted, refused_too}
use Rattle.art_writing.proofs.insert.PrefixInsertPoint.apply.Goals as goal

pub returns-in-OverwritePoint-clause-applied : goal.returns-in-OverwritePoint-clause-applied
returns-in-OverwritePoint-clause-applied g c = rw c.in-OverwritePoint.is c.apply.ensures.applied

pub returns-in-OverwritePoint-clause-memory : goal.returns-in-OverwritePoint-clause-memory
returns-in-OverwritePoint-clause-memory g c = rw c.in-OverwritePoint.is c.apply.ensures.memory

pub returns-in-Ok-clause-applied : goal.returns-in-Ok-clause-applied
returns-in-Ok-clause-applied g c = rw c.in-InsertPoint.is (applied_prefix g.K.AsBytes.bytes c.in-Ok.ensures.applied)

pub returns-in-Ok-clause-memory : goal.returns-in-Ok-clause-memory
returns-in-Ok-clause-memory g c = rw c.in-InsertPoint.is (granted c.in-Ok.ensures.memory.promise)

pub returns-in-Err-clause-memory : goal.returns-in-Err-clause-memory
returns-in-Err-clause-memory g c = rw c.in-InsertPoint.is (refused_too c.in-Err.ensures.memory)
