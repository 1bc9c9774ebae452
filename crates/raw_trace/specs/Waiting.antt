-- How the calls that wait are kept: each by the place where it stands among them (`stand` in Order.antt). It ties the
-- types of the code to the list that contracts see.
use Rattle.std.specs.Prelude.{◌≡◌, ℕ, ◌+◌, ◌≤◌, List, [], ◌∷◌, map, Bool, if◌then◌else◌, Option, Some, None}
use Rattle.std.specs.BTreeMap.{BTreeMap, get, is_at, IsOrdered}
use Rattle.std.specs.Map.{lookup, remove_entry}
use Rattle.std.specs.Ordering.{nat_cmp}
use Rattle.raw_trace.specs.declared.piece.Piece.{Piece}
use Rattle.raw_trace.specs.Order.{Entry, freed, stand, pair_cmp}

-- a line as it is written
abbrev pub entry : Piece → Entry
entry piece = record {
  number = piece.number;
  process = piece.process;
  line = piece.line.items;
  ending = piece.ending;
  joined = piece.joined;
  trouble = piece.trouble;
  call = piece.call;
}

abbrev pub entries : List Piece → List Entry
entries pieces = map entry pieces

-- those of a map, in the order of their places
abbrev pub entries_in : List ((ℕ × ℕ) × Piece) → List Entry
entries_in [] = []
entries_in (e ∷ es) = entry e.1 ∷ entries_in es

-- the place of the first for which the test holds
abbrev pub first_key : (Entry → Bool) → List ((ℕ × ℕ) × Piece) → Option (ℕ × ℕ)
first_key test [] = None
first_key test (e ∷ es) = if test (entry e.1) then Some e.0 else first_key test es

-- the one at a place, where one is asked for
abbrev pub at_place : Option (ℕ × ℕ) → List ((ℕ × ℕ) × Piece) → Option Piece
at_place None es = None
at_place (Some place) es = lookup (is_at (pair_cmp place)) es

-- those that are left without it
abbrev pub without_place : Option (ℕ × ℕ) → List ((ℕ × ℕ) × Piece) → List ((ℕ × ℕ) × Piece)
without_place None es = es
without_place (Some place) es = remove_entry (is_at (pair_cmp place)) es

-- each stands where it frees pages, and frees no more than so many
abbrev pub AreBound : ℕ → List ((ℕ × ℕ) × Piece) → Type 0
AreBound longest [] = Unit {0}
AreBound longest (e ∷ es) = (e.0 ≡ stand (entry e.1)) × ((freed e.1.call).to ≤ e.0.0 + longest) × AreBound longest es

-- the place of each is known by its process
abbrev pub AreKnown : BTreeMap ℕ ℕ → List ((ℕ × ℕ) × Piece) → Type 0
AreKnown pages [] = Unit {0}
AreKnown pages (e ∷ es) = (get nat_cmp pages e.0.1 ≡ Some e.0.0) × AreKnown pages es

-- the calls are kept so
pub record AreKept (pieces : BTreeMap (ℕ × ℕ) Piece) (pages : BTreeMap ℕ ℕ) (longest : ℕ) : Type 0 where
  pub ordered : IsOrdered pair_cmp pieces
  pub bound : AreBound longest pieces.entries
  pub known : AreKnown pages pieces.entries
