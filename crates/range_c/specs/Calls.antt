-- What a call answers and leaves of a handle, open or closed. Each relation lifts one of `Behind` to handles; that a
-- closed handle is told and stays closed is said here once.
use Rattle.std.specs.Prelude.{◌≡◌, ℕ, Bool, List, Option, Some, None}
use Rattle.list_cuts.specs.Cut.{IsCut}
use Rattle.c_handles.specs.Asked.{cut_into}
use Rattle.c_handles.specs.Handles.{BetweenAnd, Ends, OnOpen, OnOpenTelling, OpenRefusal, Over, ShareRefusal}
use Rattle.range_c.specs.declared.answers.Answer.{Answer}
use Rattle.range_c.specs.declared.answers.Answer.TheVariants.{Done, Closed, Open}
use Rattle.range_c.specs.declared.answers.GzBusy.{GzBusy}
use Rattle.range_c.specs.declared.recording.WordStep.{WordStep}
use Rattle.range_c.specs.Behind.{Behind, IsNewBehind, IsNewBehindIn, IsNotOpened, IsNotCut, IsShared, IsUnshared, IsTriedIn, IsLooked, IsStepped}
use Rattle.range_c.specs.Codes.{nothing_shown}
use Rattle.range_c.specs.Shown.{IsScanned}

-- a call on a handle: where it is closed it stays so, and the answer says it; where it is open it stays open
abbrev pub OnHandle : (Answer → Behind → Behind → Type 0) → Answer → Option Behind → Option Behind → Type 0
OnHandle R answer before after = OnOpen Closed R answer before after

-- a call for a range by a handle, and how many tries it made: where the handle is closed, none
abbrev pub OnTries : ℕ → ℕ → Bool → ℕ → ℕ → Answer → Option Behind → Option Behind → Type 0
OnTries lo hi writer tries made answer before after = OnOpenTelling Closed (made ≡ 0) (IsTriedIn lo hi writer tries made) answer before after

-- a look at what a handle holds: where it is closed, what is shown is nothing
abbrev pub OnLook : GzBusy → Answer → Option Behind → Option Behind → Type 0
OnLook shown answer before after = OnOpenTelling Closed (shown ≡ nothing_shown) (IsLooked shown) answer before after

-- a step on a client word by a handle: where it is closed, what is said is what the call brought
abbrev pub OnWord : ℕ → WordStep → ℕ → ℕ → Answer → Option Behind → Option Behind → Type 0
OnWord i step told said answer before after = OnOpenTelling Closed (said ≡ told) (IsStepped i step told said) answer before after

-- a scan by a handle, with the handle that stands in its place meanwhile: where that one is open nothing is done; where
-- the handle is closed nothing is shown, and it stays so
abbrev pub OnScan : Option Behind → List GzBusy → List GzBusy → ℕ → Answer → Option Behind → Option Behind → Type 0
OnScan (Some next) old new found answer before after = (answer ≡ Open) × (found ≡ 0) × (new ≡ old) × (after ≡ before)
OnScan None old new found answer before after = OnOpenTelling Closed ((found ≡ 0) × (new ≡ old)) (IsScanned old new found) answer before after

-- a handle is over a new table, whose client words begin as these
abbrev pub IsFresh : ℕ → List ℕ → Option Behind → Type 0
IsFresh seats client h = Over (IsNewBehind seats client) h

-- a handle is over a new table, with a list for each of so many regions in blocks of 2^bits numbers, and one for wide
-- ranges where there are several
abbrev pub IsFreshCut : ℕ → ℕ → ℕ → List ℕ → Option Behind → Type 0
IsFreshCut regions bits seats client h = Over (λ b. IsCut regions bits × IsNewBehindIn (cut_into regions bits) seats client b) h

-- why no table was opened behind a handle
abbrev pub IsOpenRefusal : ℕ → ℕ → Option Behind → Answer → Type 0
IsOpenRefusal seats count h why = OpenRefusal Open (IsNotOpened seats count) h why

-- why none was opened over a cut
abbrev pub IsCutRefusal : ℕ → ℕ → ℕ → ℕ → Option Behind → Answer → Type 0
IsCutRefusal regions bits seats count h why = OpenRefusal Open (IsNotCut regions bits seats count) h why

-- a handle was given a seat of another one's table
abbrev pub HandleShared : Option Behind → Option Behind → Option Behind → Type 0
HandleShared before after new = BetweenAnd IsShared before after new

-- why no seat was given: the handle that was to get it is open, or the other one is closed, or has none left, or there
-- was no memory
abbrev pub IsShareRefusal : Option Behind → Option Behind → Answer → Type 0
IsShareRefusal from to why = ShareRefusal Open Closed (λ b. IsUnshared b.spare) from to why

-- what an ending answers, with the handle that is to be put in the place of another: where that one is open nothing is
-- done, and otherwise the handle is closed, and the answer says whether there was anything to end
abbrev pub IsEnd : Option Behind → Option Behind → Option Behind → Answer → Type 0
IsEnd next before after answer = Ends Open Closed Done next before after answer
