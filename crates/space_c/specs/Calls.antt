-- What a call answers and leaves of a handle, open or closed. Each relation lifts one of `Behind` to handles; that a
-- closed handle is told and stays closed is said here once.
use Rattle.std.specs.Prelude.{◌≡◌, ℕ, Bool, Option, None}
use Rattle.list_cuts.specs.Cut.{IsCut}
use Rattle.lock_core.specs.declared.range.Held.{Held}
use Rattle.page_types.specs.declared.calls.Call.{Call}
use Rattle.c_handles.specs.Asked.{cut_into}
use Rattle.c_handles.specs.Handles.{BetweenAnd, Ends, OnOpen, OnOpenTelling, OpenRefusal, Over, ShareRefusal}
use Rattle.space_c.specs.declared.answers.Answer.{Answer}
use Rattle.space_c.specs.declared.answers.Answer.TheVariants.{Done, Closed, Open}
use Rattle.space_c.specs.declared.shown.GzReply.{GzReply}
use Rattle.space_c.specs.declared.shown.GzHeld.{GzHeld}
use Rattle.space_c.specs.Behind.{Behind, IsNewBehind, IsNotOpened, IsShared, IsUnshared, IsTried, IsLooked}
use Rattle.space_c.specs.Shown.{held_shown, nothing_shown}

-- a call on a handle: where it is closed it stays so, and the answer says it; where it is open it stays open
abbrev pub OnHandle : (Answer → Behind → Behind → Type 0) → Answer → Option Behind → Option Behind → Type 0
OnHandle R answer before after = OnOpen Closed R answer before after

-- a try of a call by a handle: where it is closed, no reply is shown
abbrev pub OnTry : Option Call → Held → Bool → ℕ → GzReply → Answer → Option Behind → Option Behind → Type 0
OnTry asked wanted keep refused shown answer before after =
    OnOpenTelling Closed (shown ≡ nothing_shown) (IsTried asked wanted keep refused shown) answer before after

-- a look at what a handle holds: where it is closed, what is shown is nothing
abbrev pub OnLook : GzHeld → Answer → Option Behind → Option Behind → Type 0
OnLook shown answer before after = OnOpenTelling Closed (shown ≡ held_shown 0 None) (IsLooked shown) answer before after

-- a handle is over a new empty space, with a list for each of so many regions in blocks of 2^bits pages, and one for
-- wide ranges where there are several
abbrev pub IsFresh : ℕ → ℕ → ℕ → Option Behind → Type 0
IsFresh regions bits callers h = Over (λ b. IsCut regions bits × IsNewBehind (cut_into regions bits) callers b) h

-- why no space was opened behind a handle
abbrev pub IsOpenRefusal : ℕ → ℕ → ℕ → Option Behind → Answer → Type 0
IsOpenRefusal regions bits callers h why = OpenRefusal Open (IsNotOpened regions bits callers) h why

-- a handle was given a caller of another one's space
abbrev pub HandleShared : Option Behind → Option Behind → Option Behind → Type 0
HandleShared before after new = BetweenAnd IsShared before after new

-- why no caller was given: the handle that was to get it is open, or the other one is closed, or has none left, or
-- there was no memory
abbrev pub IsShareRefusal : Option Behind → Option Behind → Answer → Type 0
IsShareRefusal from to why = ShareRefusal Open Closed (λ b. IsUnshared b.spare) from to why

-- what an ending answers, with the handle that is to be put in the place of another: where that one is open nothing is
-- done, and otherwise the handle is closed, and the answer says whether there was anything to end
abbrev pub IsEnd : Option Behind → Option Behind → Option Behind → Answer → Type 0
IsEnd next before after answer = Ends Open Closed Done next before after answer
