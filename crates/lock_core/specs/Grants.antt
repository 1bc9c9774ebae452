-- Which held ranges exclude each other, and what it is that none do. Readers may overlap each other and a writer
-- overlaps nobody, as in Kogan, Dice and Issa, EuroSys 2020. The definitions know grants alone, and nothing of the
-- words in which a lock keeps them.
use Rattle.std.specs.Prelude.{◌≡◌, ◌≢◌, ℕ, List, Option, Some, ◌⊎◌}
use mathlib.Core.Option.{some}
use lib.ListN.{get_elem?}
use Rattle.lock_core.specs.Range.{Overlaps}
use Rattle.lock_core.specs.declared.range.Mode.TheVariants.{Writer}
use Rattle.lock_core.specs.declared.range.Held.{Held}
use Rattle.lock_core.specs.declared.range.Grant.{Grant}

-- two held ranges conflict: they overlap, and at least one is a writer's (Kogan, Dice and Issa 2020)
abbrev pub Conflicts : Held → Held → Type 0
Conflicts a b = Overlaps a.range b.range × ((a.mode ≡ Writer) ⊎ (b.mode ≡ Writer))

-- what a grant holds, whoever has it
abbrev pub held_of : Grant → Held
held_of g = record { range = g.range; mode = g.mode }

-- the held ranges by seat number, so that no seat has two; None where a seat holds nothing
abbrev pub Grants : Type 0
Grants = List (Option Held)

-- the seat of that number holds h
abbrev pub Holds : Grants → ℕ → Held → Type 0
Holds grants seat h = get_elem? grants seat ≡ some (Some h)

-- no two grants of different seats conflict
abbrev pub IsExclusive : Grants → Type 0
IsExclusive grants = (a b : ℕ) (g h : Held) → a ≢ b → Holds grants a g → Holds grants b h → ¬ (Conflicts g h)

-- no other seat's grant conflicts with h
abbrev pub IsFree : Grants → ℕ → Held → Type 0
IsFree grants seat h = (other : ℕ) (g : Held) → other ≢ seat → Holds grants other g → ¬ (Conflicts g h)

-- a list of grants with their seats excludes: no two conflict, and no seat has two
abbrev pub AreExclusive : List Grant → Type 0
AreExclusive grants = (i j : ℕ) (a b : Grant) → i ≢ j → get_elem? grants i ≡ some a → get_elem? grants j ≡ some b
    → (a.seat ≢ b.seat) × ¬ (Conflicts (held_of a) (held_of b))
