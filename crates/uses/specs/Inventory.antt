-- What a stock has of each good, by its code.
use Rattle.std.specs.Prelude.{◌≡◌, ◌≢◌, ◌<◌, ◌≤◌, ◌+◌, ◌^◌, ◌==◌, if◌then◌else◌, ℕ, List, Option, Some, None, sum_by}
use Rattle.std.specs.Option.{unwrap_or}
use Rattle.art_operations.specs.MapAnswers.{value_at}
use Rattle.uses.specs.declared.inventory.AddError.{AddError}
use Rattle.uses.specs.declared.inventory.AddError.TheVariants as adds
use Rattle.uses.specs.declared.inventory.TakeError.{TakeError}
use Rattle.uses.specs.declared.inventory.TakeError.TheVariants as takes

-- the codes of goods and how many there are of each
abbrev pub Goods : Type 0
Goods = List (List ℕ × ℕ)

-- how many there are of a good
abbrev pub quantity : List ℕ → Goods → ℕ
quantity code stock = unwrap_or (value_at (λ code. code) code stock) 0

-- how many there are in all
abbrev pub total_of : Goods → ℕ
total_of stock = sum_by (λ good. good.1) stock

-- so many are found under this code now, or nothing if there are none, and under every other what was there before
abbrev pub ChangesTo : List ℕ → Option ℕ → Goods → Goods → Type 0
ChangesTo code count old new =
    (value_at (λ code. code) code new ≡ count) × ((other : List ℕ) → other ≢ code →
    value_at (λ code. code) other new ≡ value_at (λ code. code) other old)

-- so many, or nothing if there are none
abbrev pub if_more : ℕ → Option ℕ
if_more count = if count == 0 then None else Some count

-- there would be more than can be counted, or an allocation failed and there is none yet
abbrev pub IsAddRefusal : List ℕ → ℕ → Goods → AddError → Type 0
IsAddRefusal code count stock adds.TooMany = 2 ^ 32 ≤ quantity code stock + count
IsAddRefusal code count stock adds.NoMemory = quantity code stock ≡ 0

-- there are only so many, or an allocation failed and some would be left
abbrev pub IsTakeRefusal : List ℕ → ℕ → Goods → TakeError → Type 0
IsTakeRefusal code count stock (takes.NotEnough there) = (there ≡ quantity code stock) × (there < count)
IsTakeRefusal code count stock takes.NoMemory = count < quantity code stock
