-- Formulas of memory say the same to every thread where its type may cross.
use base.Fml.{Lft}
use base.Fraction.{full_share}
use base.Shift.{Keyless}
use denote.Param.Send.{IsSend, IsSync, part_keyless}
use denote.RattleType.{RattleType}
use denote.RawPtr.{Ptr, block_ptr, null_ptr, block_of, count_of, lies_at}
use denote.Struct.Lending.{lent_at}

module _ (R : RattleType) where
  pub lies_anywhere : IsSend R → (p : Ptr) (x : R.Denot) → Keyless (lies_at R full_share p x)
  lies_anywhere s (block_ptr b o) x = part_keyless R s full_share x b o
  lies_anywhere s null_ptr x = tt

  pub lent_anywhere : IsSync R → (p : Ptr) (x : R.Denot) (κ : Lft) → Keyless (lent_at R p x κ)
  lent_anywhere s (block_ptr b o) x κ = (tt, s.shared x b o κ)
  lent_anywhere s null_ptr x κ = (tt, s.shared x (block_of null_ptr) (count_of null_ptr) κ)
