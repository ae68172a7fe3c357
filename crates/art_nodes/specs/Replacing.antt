-- A node is replaced by one of another kind, and how the slabs of nodes change. No public clause cites this module.
use Rattle.std.specs.Prelude.{◌≡◌, ℕ, ◌+◌, ◌≤◌, Some, None}
use Rattle.slab.specs.Slab.{Slab, Updates, get, slab_len}
use Rattle.art_inner.specs.Inner.{Inner}

-- clones equal what they are clones of
abbrev pub AreSame : {N : Type 0} → (N → N → Type 0) → Type 0
AreSame {N} is_clone = (node copy : N) → is_clone node copy → copy ≡ node

-- a slot that was vacant has a node that is seen as this one
pub record IsMadeOf {N : Type 0} (view : N → Inner) (old new : Slab N) (slot : ℕ) (is : Inner) : Type 0 where
  pub vacant : get old slot ≡ None
  pub node : N
  pub put : Updates old new slot (Some node)
  pub seen : view node ≡ is

-- a slab has one value fewer, and as many slots
pub record IsOneFewer {N : Type 0} (old new : Slab N) : Type 0 where
  pub len : slab_len new + 1 ≡ slab_len old
  pub capacity : new.capacity ≡ old.capacity

-- a slab has one more value, and as many slots
pub record IsOneMore {N : Type 0} (old new : Slab N) : Type 0 where
  pub len : slab_len new ≡ slab_len old + 1
  pub capacity : new.capacity ≡ old.capacity

-- a slab has the same values, and as many slots or more
pub record IsWider {N : Type 0} (old new : Slab N) : Type 0 where
  pub slots : new.slots ≡ old.slots
  pub len : slab_len new ≡ slab_len old
  pub capacity : old.capacity ≤ new.capacity
