-- A snapshot: the bytes of a sorted list of keys with values.
use Rattle.std.specs.Prelude.{◌≡◌, ℕ, ◌<◌, ◌^◌, Bool, true, false, suc, ◌==◌, if◌then◌else◌, List, [], ◌∷◌, ◌++◌, length, drop, ⊤, codes}
use Rattle.std.specs.List.{AllByRecursion as Each}
use Rattle.std.specs.Cmp.Lexicographic.{slice_cmp}
use Rattle.std.specs.Ordering.{nat_cmp, is_lt}
use Rattle.sha2.specs.Sha256.{sha256}
use Rattle.snapshot_format.specs.Numbers.{number_bytes}

-- the bytes of a key, and those of its value
pub record Entry : Type 0 where
  pub key : List ℕ
  pub value : List ℕ

abbrev pub entry : List ℕ → List ℕ → Entry
entry key value = record { key = key; value = value }

-- the number of bytes that two keys start with
unfoldable pub shared_len : List ℕ → List ℕ → ℕ
shared_len [] other = 0
shared_len (a ∷ key) [] = 0
shared_len (a ∷ key) (b ∷ other) = if a == b then suc (shared_len key other) else 0

-- the bytes, and before them their number
abbrev pub sized : List ℕ → List ℕ
sized bytes = number_bytes (length bytes) ++ bytes

-- how many bytes a key shares with the one before it, and its other bytes
abbrev pub key_bytes : List ℕ → List ℕ → List ℕ
key_bytes before key = number_bytes (shared_len before key) ++ sized (drop (shared_len before key) key)

-- the key and the value
abbrev pub entry_bytes : List ℕ → Entry → List ℕ
entry_bytes before entry = key_bytes before entry.key ++ sized entry.value

-- entries after a key
unfoldable pub entries_bytes : List ℕ → List Entry → List ℕ
entries_bytes before [] = []
entries_bytes before (entry ∷ entries) = entry_bytes before entry ++ entries_bytes entry.key entries

-- what a snapshot starts with
abbrev pub magic : List ℕ
magic = codes "ARTSNAP"

-- the start, the version, and how many entries follow
unfoldable pub head_bytes : ℕ → List ℕ
head_bytes count = magic ++ 1 ∷ number_bytes count

-- all but the checksum
unfoldable pub body_of : List Entry → List ℕ
body_of entries = head_bytes (length entries) ++ entries_bytes [] entries

-- the snapshot of a list of entries
unfoldable pub snapshot_of : List Entry → List ℕ
snapshot_of entries = body_of entries ++ sha256 (body_of entries)

-- the key is the first one, or comes after the one before it
abbrev pub IsAfter : Bool → List ℕ → List ℕ → Type 0
IsAfter true before key = ⊤
IsAfter false before key = is_lt (slice_cmp nat_cmp before key) ≡ true

-- keys rise strictly after a key, unless the first of them is the first of all
unfoldable pub Rise : Bool → List ℕ → List Entry → Type 0
Rise is_first before [] = ⊤
Rise is_first before (entry ∷ entries) = IsAfter is_first before entry.key × Rise false entry.key entries

-- the keys rise strictly
abbrev pub IsRising : List Entry → Type 0
IsRising entries = Rise true [] entries

-- the last key
unfoldable pub last_key : List ℕ → List Entry → List ℕ
last_key before [] = before
last_key before (entry ∷ entries) = last_key entry.key entries

-- whether there is no entry
unfoldable pub is_none : List Entry → Bool
is_none [] = true
is_none (entry ∷ entries) = false

-- the key comes after those of the entries
abbrev pub IsNext : List Entry → List ℕ → Type 0
IsNext entries key = IsAfter (is_none entries) (last_key [] entries) key

-- lengths that a snapshot can have
pub record FitsEntry (entry : Entry) : Type 0 where
  pub key : length entry.key < 2 ^ 64
  pub value : length entry.value < 2 ^ 64

pub record IsStorable (entries : List Entry) : Type 0 where
  pub rising : IsRising entries
  pub count : length entries < 2 ^ 64
  pub each : Each FitsEntry entries
