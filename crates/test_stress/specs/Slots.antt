-- How a slot counts its owners, and whom an owner may find there: readers share, and a writer shares with nobody, as
-- ranges exclude each other (Kogan, Dice and Issa 2020). The counting is this program's own.
use Rattle.std.specs.Prelude.{ℕ, ◌≡◌, ◌+◌, ◌*◌, ◌<◌, ◌^◌}
use Rattle.lock_core.specs.declared.range.Mode.{Mode}
use Rattle.lock_core.specs.declared.range.Mode.TheVariants.{Reader, Writer}

-- a slot's count has each reader as 1 and each writer as 2^32
abbrev pub IsCountOf : ℕ → ℕ → ℕ → Type 0
IsCountOf readers writers count = (readers < 2 ^ 32) × (count ≡ readers + writers * 2 ^ 32)

-- whom an owner may find beside itself: a reader no writer, and a writer nobody
abbrev pub MayShare : Mode → ℕ → ℕ → Type 0
MayShare Reader readers writers = writers ≡ 0
MayShare Writer readers writers = (readers ≡ 0) × (writers ≡ 0)
