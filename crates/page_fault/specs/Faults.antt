-- What the calls for page faults answer, and what each answer says: an access to a page as sigaction(2) has it. An
-- entry is right at its place in the one history, and at the step that drew its number its caller held the range that
-- the entry names: the page as a reader, or nothing where the arguments decide. Where the space keeps no history the
-- page may be held as a writer. The caller's pass keeps that range.
use Rattle.std.specs.Prelude.{Bool, false, ℕ, ◌≡◌, ◌↔◌, ◌<◌, ◌≤◌, ◌+◌, List, None, Some}
use Rattle.page_types.specs.declared.sets.Access.{Access}
use Rattle.page_types.specs.declared.TheConstants.{SEARCH}
use Rattle.page_types.specs.declared.calls.Call.TheVariants.{Fault}
use Rattle.page_types.specs.declared.calls.Call.{Call}
use Rattle.page_types.specs.declared.pages.Span.{Span}
use Rattle.page_types.specs.Pages.{page_of}
use Rattle.page_types.specs.PlainReply.{plain_reply}
use Rattle.space_model.specs.declared.entries.Entry.{Entry}
use Rattle.lock_core.specs.declared.range.Held.{Held}
use Rattle.lock_core.specs.declared.range.Mode.{Mode}
use Rattle.lock_core.specs.declared.range.Mode.TheVariants.{Reader, Writer}
use Rattle.range_rw.specs.Contract.{SeatState, AsksAmong, IsLockCall, IsCause, IsLongRefusal, IsSpentIn}
use Rattle.area_guard.specs.declared.guard.Pass.{Pass}
use Rattle.area_rows.specs.declared.answer.Answer.{Answer}
use Rattle.area_rows.specs.declared.answer.Answer.TheVariants.{Given, Spent as NoEntry}
use Rattle.area_rows.specs.Callers.{CallerView}
use Rattle.area_rows.specs.Called.{IsCalled, IsAnswered}
use Rattle.range_rw.specs.declared.refusals.NotHeld.{NotHeld as Why}
use Rattle.page_fault.specs.declared.faults.TriedFault.{TriedFault}
use Rattle.page_fault.specs.declared.faults.TriedFault.TheVariants.{Answered, NotHeld, Spent as NoneLeft}

-- the one page of an address, held as a reader
abbrev pub page_held : ℕ → Held
page_held addr = record { range = record { lo = page_of addr; hi = page_of addr + 1 }; mode = Reader }

-- the same, held in this mode
abbrev pub page_held_as : Mode → ℕ → Held
page_held_as mode addr = record { range = record { lo = page_of addr; hi = page_of addr + 1 }; mode = mode }

-- and as a writer
abbrev pub page_alone : ℕ → Held
page_alone addr = page_held_as Writer addr

-- a fault may hold its page in this mode: as a writer only where the space keeps no history
abbrev pub MayHold : Mode → Bool → Type 0
MayHold Reader keeps = Unit {0}
MayHold Writer keeps = keeps ≡ false

-- the call is this access to the one page of this span
abbrev pub IsAccess : Call → Access → Span → Type 0
IsAccess (Fault addr wanted) access span = (access ≡ wanted) × (span.lo ≡ page_of addr) × (span.hi ≡ page_of addr + 1)
IsAccess call access span = ⊥

-- the fault got one entry, as each call that gives one: with this line and these arguments, and with the next number,
-- which was drawn while the caller held what the entry names; the caller holds what it held before
abbrev pub IsFaulted : CallerView → ℕ → ℕ → Access → Entry → CallerView → Type 0
IsFaulted before line addr access e after = IsCalled before line (Fault addr access) e after

-- the answer of a fault: an entry where a number is left, and otherwise nothing has changed
abbrev pub IsAnswer : CallerView → ℕ → ℕ → Access → Answer → CallerView → Type 0
IsAnswer before line addr access answer after = IsAnswered before line (Fault addr access) answer after

-- the answer of a fault that goes on holding its page: the same, but the page is held where an entry is given
abbrev pub IsHeldAnswer : Held → CallerView → ℕ → ℕ → Access → Answer → CallerView → Type 0
IsHeldAnswer held before line addr access (Given e) after = (0 < before.left) × (after.seat.held ≡ Some held)
    × IsFaulted before line addr access e (record after { seat = record after.seat { held = None } })
IsHeldAnswer held before line addr access NoEntry after = (before.left ≡ 0) × (after ≡ before)

-- the range wasn't got in one try in a space of so many callers, for this cause: the arguments don't decide the call,
-- and what the caller knows is as before. The cause is that of the try of the one page, and a walk that was too long is
-- told exactly where the try had one
pub record IsNotHeld (seats : ℕ) (before : CallerView) (addr : ℕ) (access : Access) (why : Why) (after : CallerView) : Type 0 where
  pub undecided : plain_reply (Fault addr access) ≡ None
  pub call : IsLockCall before.seat after.seat
  pub free : after.seat.held ≡ None
  pub left : after.left ≡ before.left
  pub cause : IsCause before.seat after.seat (page_held addr) why
  pub long : IsLongRefusal why ↔ IsSpentIn seats before.seat after.seat

-- each range that a fault asks for is its page as a reader, and its arguments don't decide it: one that they decide
-- asks for none. What is held was asked for, so a fault holds nothing else on its way
abbrev pub AsksPage : ℕ → Access → List Held → List Held → Type 0
AsksPage addr access before after = AsksAmong (λ h. (h ≡ page_held addr) × (plain_reply (Fault addr access) ≡ None)) before after

-- the same of a fault that holds its page in this mode
abbrev pub AsksPageAs : Mode → ℕ → Access → List Held → List Held → Type 0
AsksPageAs mode addr access before after = AsksAmong (λ h. (h ≡ page_held_as mode addr) × (plain_reply (Fault addr access) ≡ None)) before after

-- the first of them of a call that is a fault
abbrev pub AsksPageOf : Call → List Held → List Held → Type 0
AsksPageOf (Fault addr access) before after = AsksPage addr access before after
AsksPageOf call before after = ⊥

-- how many steps on client words a fault makes up to its end, whatever there is beside it: at most SEARCH + 3 up to the
-- draw of its number, to find the row of its page, and none behind it. The pass counts them from the draw before on.
-- All of them are made under the page, since what the fault waits for is made of steps of the lock
abbrev pub FindsSoon : SeatState Pass → Answer → SeatState Pass → Type 0
FindsSoon before (Given e) after = (after.pass.took ≤ before.pass.since + (SEARCH + 3)) × (after.pass.since ≡ 0)
FindsSoon before NoEntry after = after.pass.since ≡ before.pass.since

-- the answer of a fault that waits for nobody, in a space of so many callers
abbrev pub IsTried : ℕ → CallerView → ℕ → ℕ → Access → TriedFault → CallerView → Type 0
IsTried seats before line addr access (Answered e) after = (0 < before.left) × IsFaulted before line addr access e after
IsTried seats before line addr access (NotHeld why) after = (0 < before.left) × IsNotHeld seats before addr access why after
IsTried seats before line addr access NoneLeft after = (before.left ≡ 0) × (after ≡ before)
