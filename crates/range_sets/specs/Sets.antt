-- What contracts see of a set of seats, and what its calls leave of it: all the wants held, or nothing. What one try
-- and one release leave of a seat is said by `range_rw`; that several ranges are taken together or not at all is this
-- project's own profile.
use Rattle.std.specs.Prelude.{◌≡◌, ◌⊎◌, ℕ, zero, suc, ◌+◌, ◌<◌, ◌≤◌, List, [], ◌∷◌, All, length, map, sum_by, slice_get, Option, Some, None, IsSome}
use Rattle.std.specs.Option.{option_and_then, option_map}
use Rattle.atomic_table.specs.Seated.{TableId}
use Rattle.list_cuts.specs.Cut.{Regions, list_count}
use Rattle.lock_core.specs.declared.range.Held.{Held}
use Rattle.range_rw.specs.declared.refusals.NotHeld.{NotHeld}
use Rattle.range_rw.specs.Contract.{AsksOnly, SeatState, TableShape, IsCause, IsGivenBack, IsRelease, KeepsOthers, StandsIn, TakesMany, TellsList, WorksIn}
use Rattle.range_rw.specs.Contract.{pass_in, pools_at, try_steps}
use Rattle.range_sets.specs.declared.wants.Want.{Want}
use Rattle.range_sets.specs.Wants.{want_held}

-- a set: the table of its seats, and the four seats in order
pub record SetView (P : Type 0) : Type 0 where
  pub table : TableId
  pub seats : List (SeatState P)

-- at most so many steps are made by one try for each of these wants, by the lists that each range takes: the sum of the
-- tries' own
abbrev pub TriesTake : TableShape → List Want → ℕ → Type 0
TriesTake t [] steps = steps ≡ 0
TriesTake t (w ∷ ws) steps = (k : ℕ) × (rest : ℕ) × TakesMany t.cut w.range k × TriesTake t ws rest × (steps ≡ try_steps t.seats k + rest)

-- the refusal of the want at that place tells a list, where it tells one, in which the try of that want works
abbrev pub TellsAt : Regions → List Want → ℕ → NotHeld → Type 0
TellsAt c [] index why = ⊥
TellsAt c (w ∷ ws) zero why = TellsList c w.range why
TellsAt c (w ∷ ws) (suc index) why = TellsAt c ws index why

module _ {P : Type 0} where
  -- no seat holds anything
  abbrev pub AllFree : List (SeatState P) → Type 0
  AllFree seats = All (λ s. s.held ≡ None) seats

  -- the passes of all seats are at rest, as a guard says
  abbrev pub AllRest : (P → Type 0) → List (SeatState P) → Type 0
  AllRest at_rest seats = All (λ s. at_rest s.pass) seats

  -- what the seat at a place holds
  abbrev pub held_in : List (SeatState P) → ℕ → Option Held
  held_in seats i = option_and_then (λ s. s.held) (slice_get seats i)

  -- how many steps a seat has made
  abbrev pub taken_of : SeatState P → ℕ
  taken_of s = s.trace.taken

  -- how many steps the seats have made together
  abbrev pub taken_by : List (SeatState P) → ℕ
  taken_by seats = sum_by taken_of seats

  -- a relation holds between the seats at each place of two lists of one length
  abbrev pub EachIs : (SeatState P → SeatState P → Type 0) → List (SeatState P) → List (SeatState P) → Type 0
  EachIs R [] [] = Unit {0}
  EachIs R (x ∷ xs) (y ∷ ys) = R x y × EachIs R xs ys
  EachIs R _ _ = ⊥

  -- the seat of each place asks for the want of that place alone, and one without a want for none
  abbrev pub AsksEach : List Want → List (SeatState P) → List (SeatState P) → Type 0
  AsksEach [] [] [] = Unit {0}
  AsksEach (w ∷ ws) [] [] = Unit {0}
  AsksEach [] (x ∷ xs) (y ∷ ys) = (y.trace.asked ≡ x.trace.asked) × AsksEach [] xs ys
  AsksEach (w ∷ ws) (x ∷ xs) (y ∷ ys) = AsksOnly (want_held w) x.trace.asked y.trace.asked × AsksEach ws xs ys
  AsksEach _ _ _ = ⊥

  -- the seat of each place holds its range in the list that this takes alone, or in list 0 where it takes more
  abbrev pub StandEach : Regions → List Want → List (SeatState P) → Type 0
  StandEach c [] seats = Unit {0}
  StandEach c (w ∷ ws) [] = ⊥
  StandEach c (w ∷ ws) (s ∷ ss) = StandsIn c w.range s.list × StandEach c ws ss

  -- a try for that want leaves what the seat has in each list in which it doesn't work, where the seat had no open scan
  abbrev pub KeepsFor : Regions → Want → SeatState P → SeatState P → Type 0
  KeepsFor c w before after = before.scan ≡ None → KeepsOthers c w.range before after

  -- so do a try that is granted and a release behind it, in each of the lists in which the seat has pools
  abbrev pub KeepsBack : Regions → Want → SeatState P → SeatState P → Type 0
  KeepsBack c w before after = before.scan ≡ None → (j : ℕ) → j < list_count c → j ≤ length after.further → (WorksIn c w.range j → ⊥)
      → pools_at after j ≡ pools_at before j

  -- the seat of each place keeps the lists in which the try for its want doesn't work, and one without a want is as it
  -- was
  abbrev pub KeepsEach : Regions → List Want → List (SeatState P) → List (SeatState P) → Type 0
  KeepsEach c [] before after = after ≡ before
  KeepsEach c (w ∷ ws) (x ∷ xs) (y ∷ ys) = KeepsFor c w x y × KeepsEach c ws xs ys
  KeepsEach c (w ∷ ws) _ _ = ⊥

  -- so do the seat whose want was refused, at that place, and those before it, which gave their ranges back
  abbrev pub KeepsUpTo : Regions → List Want → ℕ → List (SeatState P) → List (SeatState P) → Type 0
  KeepsUpTo c (w ∷ ws) zero (x ∷ xs) (y ∷ ys) = KeepsFor c w x y × (ys ≡ xs)
  KeepsUpTo c (w ∷ ws) (suc index) (x ∷ xs) (y ∷ ys) = KeepsBack c w x y × KeepsUpTo c ws index xs ys
  KeepsUpTo c _ _ _ _ = ⊥

  -- a seat without an open scan has none afterwards
  abbrev pub StaysOutside : SeatState P → SeatState P → Type 0
  StaysOutside before after = before.scan ≡ None → after.scan ≡ None

  -- the seat of each place holds what is wanted at that place, and nothing where nothing is wanted
  abbrev pub AreHeld : List Want → List (SeatState P) → Type 0
  AreHeld wants seats = (i : ℕ) → i < 4 → held_in seats i ≡ option_map want_held (slice_get wants i)

  -- what a refused call leaves of each seat: it holds nothing, and it made no client step
  pub record IsLetGo (before after : SeatState P) : Type 0 where
    pub back : IsGivenBack before after
    pub client : after.trace.client ≡ before.trace.client

  -- the passes after a refusal at that place: those of the seats before it are rested, since their ranges were given
  -- back, and the others are as before
  abbrev pub passes_after : (P → P) → ℕ → List (SeatState P) → List P
  passes_after rested zero seats = map pass_in seats
  passes_after rested (suc i) [] = []
  passes_after rested (suc i) (s ∷ ss) = rested s.pass ∷ passes_after rested i ss

  -- what the seat held was given back; one that held nothing is as before
  abbrev pub IsReleasedIfHeld : (P → P) → SeatState P → SeatState P → Type 0
  IsReleasedIfHeld rested before after = (IsSome before.held × IsRelease rested before after) ⊎ ((before.held ≡ None) × (after ≡ before))

  -- the want at that place was refused to its seat, for a cause of the one try that the seat made, and the seats
  -- behind it are as before
  pub record IsCauseAt (before after : List (SeatState P)) (wants : List Want) (index : ℕ) (why : NotHeld) : Type 0 where
    pub want : Want
    pub at : slice_get wants index ≡ Some want
    pub old : SeatState P
    pub old_at : slice_get before index ≡ Some old
    pub new : SeatState P
    pub new_at : slice_get after index ≡ Some new
    pub cause : IsCause old new (want_held want) why
    pub same : (k : ℕ) → index < k → slice_get after k ≡ slice_get before k
