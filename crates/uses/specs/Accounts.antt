-- What accounts hold.
use Rattle.std.specs.Prelude.{ℕ, ◌+◌, ◌-◌, ◌/◌, ◌^◌, List, min}

-- the names of accounts and what each holds
abbrev pub Account : Type 0
Account = List ℕ × ℕ

-- an account with a hundredth more, or at the greatest number
abbrev pub with_interest : Account → Account
with_interest account = (account.0, min (account.1 + account.1 / 100) (2 ^ 64 - 1))

-- what an account pays of a fee
abbrev pub paid : ℕ → Account → ℕ
paid fee account = min account.1 fee

-- an account that has paid a fee
abbrev pub after_fee : ℕ → Account → Account
after_fee fee account = (account.0, account.1 - paid fee account)
