-- A network, the addresses at both of its ends and next to these, and networks inside it.
use Rattle.std.proofs.Common.{◌≡◌, ℕ, true, false, [], ◌∷◌, refl}
use Rattle.std.specs.Net.Addr.{ipv4_bits}
use Rattle.std.specs.declared.net.ip_addr.IpAddr.{IpAddr}
use Rattle.std.specs.declared.net.ip_addr.IpAddr.TheVariants.{V4}
use Rattle.prefix_table.specs.declared.network.Network.{Network}
use Rattle.prefix_table.specs.Networks.{covers, last_of}
use Rattle.prefix_table.specs.Parts.{is_inside}
use Rattle.prefix_table.specs.Entries.{nesting}

-- 10.1.2.128/25
abbrev labels : Network
labels = record { number = 167838336; version = 4; length = 25 }

-- 10.1.2.192/26
abbrev upper_half : Network
upper_half = record { number = 167838400; version = 4; length = 26 }

-- 10.1.2.0/24
abbrev around : Network
around = record { number = 167838208; version = 4; length = 24 }

abbrev dotted : ℕ → ℕ → ℕ → ℕ → IpAddr
dotted a b c d = V4 (record { octets = a ∷ b ∷ c ∷ d ∷ [] })

first_is_covered : covers labels (dotted 10 1 2 128) ≡ true
unfolding ipv4_bits
first_is_covered = refl

last_is_covered : covers labels (dotted 10 1 2 255) ≡ true
unfolding ipv4_bits
last_is_covered = refl

one_before_is_not : covers labels (dotted 10 1 2 127) ≡ false
unfolding ipv4_bits
one_before_is_not = refl

one_after_is_not : covers labels (dotted 10 1 3 0) ≡ false
unfolding ipv4_bits
one_after_is_not = refl

-- 10.1.2.255
last_address : last_of labels ≡ record { number = 167838463; version = 4 }
last_address = refl

half_is_inside : is_inside labels upper_half ≡ true
half_is_inside = refl

around_is_not_inside : is_inside labels around ≡ false
around_is_not_inside = refl

three_nest : nesting {V = ℕ} ((around, 1) ∷ (labels, 2) ∷ (upper_half, 3) ∷ []) ≡ 3
three_nest = refl
