-- A list of areas that stands in blocks, as `ReservedSpace` keeps it: a change gathers the blocks at its place, and
-- leaves the others alone. This is the project's own way; only private functions speak of it, and what callers see is
-- one list of areas.
use Rattle.std.specs.Prelude.{ℕ, ◌+◌, ◌-◌, ◌*◌, ◌^◌, ◌<◌, ◌≤◌, ◌≡◌, List, [], ◌∷◌, ◌++◌, length, take, drop}
use Rattle.std.specs.Prelude.{All, IfSome, slice_get, vec_capacity}
use Rattle.page_types.specs.declared.TheConstants.{ROWS}
use Rattle.space_model.specs.declared.areas.Area.{Area}
use Rattle.space_model.specs.declared.blocks.Block.{Block}
use Rattle.space_model.specs.declared.fits.Fit.{Fit}
use Rattle.space_model.specs.declared.fits.Fit.TheVariants.{Fits, Below}
use Rattle.space_model.specs.declared.stored.Stored.{Stored}
use Rattle.space_model.specs.declared.stored.Place.{Place}
use Rattle.space_model.specs.declared.judged.Change.{Change}
use Rattle.space_model.specs.Judges.{patches_of}
use Rattle.space_model.specs.Areas.{IsAreaList, HasNamedKinds, kind_at, row_count}
use Rattle.space_model.specs.Places.{IsHighestFit}
use Rattle.space_model.specs.Cutting.{end_of, start_of, last_end, NoneAbove}

-- the areas of blocks, in order
abbrev pub areas_of : List Block → List Area
areas_of [] = []
areas_of (b ∷ rest) = b.areas.items ++ areas_of rest

-- no gap between two neighbours has more pages
abbrev pub GapsWithin : ℕ → List Area → Type 0
GapsWithin gap [] = Unit {0}
GapsWithin gap (a ∷ rest) = IfSome (slice_get rest 0) (λ b. b.lo ≤ a.hi + gap) × GapsWithin gap rest

-- no gap between the areas of a block is longer than it says, and it has room for as many areas as a block may have
pub record IsBlock (b : Block) : Type 0 where
  pub gaps : GapsWithin b.gap b.areas.items
  pub room : 1024 ≤ vec_capacity b.areas

-- the areas of so many blocks end at or before a page, the last of them at `end`, and behind these are others
pub record IsFrontCut (blocks : List Block) (page count end : ℕ) : Type 0 where
  pub front : List Block
  pub rest : List Block
  pub whole : blocks ≡ front ++ rest
  pub counted : length front ≡ count
  pub some : 0 < length rest
  pub upto : All (λ a. a.hi ≤ page) (areas_of front)
  pub end_is : end ≡ end_of 0 (areas_of front)

-- behind so many blocks, one at least, all areas start above a page, the first of them at `start`
pub record IsBackCut (blocks : List Block) (page count start : ℕ) : Type 0 where
  pub window : List Block
  pub back : List Block
  pub whole : blocks ≡ window ++ back
  pub counted : length window ≡ count
  pub some : 0 < count
  pub above : All (λ a. page < a.lo) (areas_of back)
  pub start_is : start ≡ start_of (areas_of back)

-- what a search for a place down from page `to` comes to in areas between two lists, where none starts above: the
-- highest place, or that each ends at or below another page
abbrev pub TellsFit : List Area → List Area → List Area → ℕ → ℕ → ℕ → Fit → Type 0
TellsFit front B back window pages to (Fits start) = IsHighestFit (kind_at (front ++ (B ++ back))) window pages start
TellsFit front B back window pages to (Below at) = NoneAbove (front ++ (B ++ back)) window pages (length front) at

-- so it is between any two lists
abbrev pub FindsFit : List Area → ℕ → ℕ → Fit → Type 0
FindsFit B pages to fit =
    (front back : List Area) (window : ℕ) → IsAreaList (front ++ (B ++ back)) → NoneAbove (front ++ (B ++ back)) window pages (length front + length B) to
    → TellsFit front B back window pages to fit

-- an area list in blocks, with room for whatever a call makes of it
pub record IsStored (s : Stored) : Type 0 where
  pub areas : IsAreaList (areas_of s.blocks.items)
  pub named : HasNamedKinds (areas_of s.blocks.items)
  pub rows : s.rows ≡ row_count (areas_of s.blocks.items)
  pub blocks : All IsBlock s.blocks.items
  pub some : 256 ≤ length s.blocks.items
  pub few : length s.blocks.items < 2 ^ 24
  pub within : length (areas_of s.blocks.items) ≤ s.room
  pub least : ROWS ≤ s.room
  pub most : s.room < 2 ^ 30
  pub taken : 2 * s.room + 6 ≤ vec_capacity s.taken
  pub middle : 8 * s.room + 8 ≤ vec_capacity s.middle

-- the blocks of a place have all areas that a change touches, and it is told where the others end before them and start
-- behind them
pub record IsPlace (blocks : List Block) (change : Change) (place : Place) : Type 0 where
  pub within : place.first + place.count ≤ length blocks
  pub upto : All (λ a. a.hi ≤ change.first.lo - 1) (areas_of (take place.first blocks))
  pub from_is : place.from ≡ end_of 0 (areas_of (take place.first blocks))
  pub above : All (λ a. last_end 0 (patches_of change) < a.lo) (areas_of (drop (place.first + place.count) blocks))
  pub to_is : place.to ≡ start_of (areas_of (drop (place.first + place.count) blocks))

-- the blocks from one index on, so many of them
abbrev pub blocks_at : List Block → ℕ → ℕ → List Block
blocks_at blocks first count = take count (drop first blocks)
