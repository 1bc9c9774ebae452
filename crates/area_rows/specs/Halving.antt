-- How far a search by halving has come to the row of a held page. Its loads are made at different moments, and others
-- may move rows between them; but a row that was read on one side of a held page stays on that side (`side` of
-- `StillStands`). So the search rests on two rows that were read, one on each side, and no two rows need have been read
-- at one moment. The definitions are this project's own; nobody but the search of `row_of` speaks of them.
use Rattle.std.specs.Prelude.{ℕ, ◌≡◌, ◌<◌, ◌≤◌, ◌+◌, ◌⊎◌, ◌↔◌, List}
use Rattle.area_guard.specs.declared.guard.ReadRow.{ReadRow}
use Rattle.row_plans.specs.RowWords.{row_start}
use Rattle.area_guard.specs.Reads.{HasRead}

-- the word of a row starts on the same side of the page as each word that was read in that slot before
abbrev pub IsOnSameSide : List ReadRow → ℕ → ℕ → ℕ → Type 0
IsOnSameSide rows slot word page = (old : ℕ) → HasRead rows slot old → (row_start old ≤ page) ↔ (row_start word ≤ page)

-- the row at a place starts at or before the page: it is the first one, or its word was read so in the slot of that
-- place
abbrev pub StartsUpTo : List ReadRow → ℕ → (ℕ → ℕ) → ℕ → ℕ → Type 0
StartsUpTo rows page at place word = (place ≡ 0) ⊎ (HasRead rows (at place) word × (row_start word ≤ page))

-- the row at a place starts behind the page: there is none at that place, and what comes then starts at its own page,
-- or its word was read so
abbrev pub StartsBehind : List ReadRow → ℕ → ℕ → ℕ → (ℕ → ℕ) → ℕ → ℕ → Type 0
StartsBehind rows page count last at place end = ((place ≡ count) × (end ≡ last))
    ⊎ ((word : ℕ) × HasRead rows (at place) word × (page < row_start word) × (end ≡ row_start word) × (place < count))

-- of so many places, each of which has a slot, the row of the page is at one of so many from a base on. The base starts
-- at or before the page, and this is its word, unless it is the first; the first row after them, or the last one of
-- them, starts behind it, at this end
pub record IsAmong (rows : List ReadRow) (page count last : ℕ) (at : ℕ → ℕ) (base size word end : ℕ) : Type 0 where
  pub some : 0 < size
  pub there : base + size ≤ count
  pub from : StartsUpTo rows page at base word
  pub behind : (next : ℕ) × (base < next) × (next ≤ base + size) × (base + size ≤ next + 1) × StartsBehind rows page count last at next end

-- places stand one behind the other, from a slot on
abbrev pub slots_on : ℕ → ℕ → ℕ
slots_on from place = from + place
