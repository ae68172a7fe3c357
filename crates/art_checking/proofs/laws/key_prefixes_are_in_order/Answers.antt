use Rattle.std.proofs.Common.{refl}
use Rattle.std.proofs.lemmas.Bool.Decides.{Decides-eqb}
use Rattle.std.proofs.lemmas.Slice.Eq.{slice_eq-Decides}
use Rattle.art_checking.proofs.laws.key_prefixes_are_in_order.Goals as goal

pub returns-clause-equal : goal.returns-clause-equal
returns-clause-equal c a b = slice_eq-Decides Decides-eqb a.bytes.items b.bytes.items _ refl
