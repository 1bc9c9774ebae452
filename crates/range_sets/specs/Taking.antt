-- What the seats from a place on are after their wants were tried, from the first want to the last: all are granted, or
-- one is refused and those before it are given back. Only private functions speak of these; a caller reads `Sets`. That
-- nobody waits for one range while it holds another is this project's own profile.
use Rattle.std.specs.Prelude.{◌≡◌, ℕ, zero, suc, ◌+◌, ◌≤◌, List, [], ◌∷◌, Some, None}
use Rattle.range_rw.specs.declared.refusals.NotHeld.{NotHeld}
use Rattle.range_rw.specs.Contract.{AsksOnly, SeatState, TableShape, IsCause, IsLockCall, StandsIn, TakesMany, TellsList, try_steps}
use Rattle.range_sets.specs.declared.wants.Want.{Want}
use Rattle.range_sets.specs.Sets.{KeepsBack, KeepsFor}
use Rattle.range_sets.specs.Wants.{want_held}

module _ {P : Type 0} where
  -- the steps of one try for that want, by the lists that its range takes
  abbrev pub IsOneTry : TableShape → Want → SeatState P → SeatState P → Type 0
  IsOneTry t want before after = (k : ℕ) → TakesMany t.cut want.range k → after.trace.taken ≤ before.trace.taken + try_steps t.seats k

  -- a want was granted to a seat, by one try
  pub record IsGranted (t : TableShape) (want : Want) (before after : SeatState P) : Type 0 where
    pub call : IsLockCall before after
    pub held : after.held ≡ Some (want_held want)
    pub stands : StandsIn t.cut want.range after.list
    pub outside : after.scan ≡ None
    pub keeps : KeepsFor t.cut want before after
    pub asks : AsksOnly (want_held want) before.trace.asked after.trace.asked
    pub bound : IsOneTry t want before after

  -- each want was granted to the seat at its place, and the seats without a want are as before
  abbrev pub AreGranted : TableShape → List Want → List (SeatState P) → List (SeatState P) → Type 0
  AreGranted t [] xs ys = ys ≡ xs
  AreGranted t (w ∷ ws) (x ∷ xs) (y ∷ ys) = IsGranted t w x y × AreGranted t ws xs ys
  AreGranted t (w ∷ ws) _ _ = ⊥

  -- a want was refused to a seat, for that cause, by one try
  pub record IsRefused (t : TableShape) (want : Want) (why : NotHeld) (before after : SeatState P) : Type 0 where
    pub call : IsLockCall before after
    pub free : after.held ≡ None
    pub cause : IsCause before after (want_held want) why
    pub told : TellsList t.cut want.range why
    pub outside : after.scan ≡ None
    pub keeps : KeepsFor t.cut want before after
    pub asks : AsksOnly (want_held want) before.trace.asked after.trace.asked
    pub bound : IsOneTry t want before after

  -- a want was granted, by one try, and given back in two steps at most
  pub record IsTakenBack (t : TableShape) (rested : P → P) (want : Want) (before after : SeatState P) : Type 0 where
    pub table : after.table ≡ before.table
    pub number : after.number ≡ before.number
    pub free : after.held ≡ None
    pub pass : after.pass ≡ rested before.pass
    pub client : after.trace.client ≡ before.trace.client
    pub outside : after.scan ≡ None
    pub keeps : KeepsBack t.cut want before after
    pub asks : AsksOnly (want_held want) before.trace.asked after.trace.asked
    pub bound : (k : ℕ) → TakesMany t.cut want.range k → after.trace.taken ≤ before.trace.taken + try_steps t.seats k + 2

  -- the want at that place was refused to its seat; what the seats before it had got was given back, and the seats
  -- behind it are as before
  abbrev pub IsRefusedAt : TableShape → (P → P) → List Want → List (SeatState P) → List (SeatState P) → ℕ → NotHeld → Type 0
  IsRefusedAt t rested (w ∷ ws) (x ∷ xs) (y ∷ ys) zero why = IsRefused t w why x y × (ys ≡ xs)
  IsRefusedAt t rested (w ∷ ws) (x ∷ xs) (y ∷ ys) (suc i) why = IsTakenBack t rested w x y × IsRefusedAt t rested ws xs ys i why
  IsRefusedAt t rested _ _ _ _ _ = ⊥
