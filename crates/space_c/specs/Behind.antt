-- What contracts see of what is behind a handle: its caller, how many callers are left to share, how many the space
-- has, and how the pages are cut for its lists; and what each call answers and leaves of it. What a call is worth is
-- said by `IsCalled` of `area_rows`: its one place in the one legal history of all callers, with this reply.
use Rattle.std.specs.Prelude.{◌≡◌, ◌≢◌, ◌⊎◌, ℕ, ◌+◌, ◌^◌, ◌≤◌, Bool, true, false, List, [], Option, Some, None, Result, Ok, Err}
use mathlib.Core.Option.{some}
use lib.ListN.{get_elem?}
use Rattle.atomic_table.specs.Seated.{TableId}
use Rattle.list_cuts.specs.Cut.{Regions, IsCut, TakesTwo, list_count}
use Rattle.word_rows.specs.declared.backoff.TheConstants.{REFUSED_ROUNDS, KEPT_LOOKS}
use Rattle.lock_core.specs.declared.range.Held.{Held}
use Rattle.page_types.specs.declared.calls.Call.{Call}
use Rattle.page_types.specs.declared.calls.Reply.{Reply}
use Rattle.page_types.specs.PlainReply.{plain_reply}
use Rattle.space_model.specs.declared.entries.Entry.{Entry}
use Rattle.range_rw.specs.declared.patience.Anew.{Anew}
use Rattle.range_rw.specs.declared.patience.Anew.TheVariants.{AtOnce as Again, Later as Wait}
use Rattle.range_rw.specs.Contract.{AsksAmong, IsLockCall, IsRefusedAfter, IsRelease, IsSeatCount, new_seat_in}
use Rattle.area_guard.specs.History.{IsAtRest, rest_of}
use Rattle.area_guard.specs.Rows.{blocks_by}
use Rattle.area_rows.specs.Callers.{CallerView, new_pass}
use Rattle.area_rows.specs.Called.{IsCalled}
use Rattle.space_c.specs.declared.answers.Answer.{Answer}
use Rattle.space_c.specs.declared.answers.Answer.TheVariants.{Done, Later, AtOnce, Holds, HasNone, Memory, Callers, NoneLeft, BadCut, BadCall, Spent}
use Rattle.space_c.specs.declared.shown.GzReply.{GzReply}
use Rattle.space_c.specs.declared.shown.GzHeld.{GzHeld}
use Rattle.space_c.specs.Shown.{held_shown, nothing_shown, reply_shown}

pub record Behind : Type 0 where
  pub caller : CallerView
  pub spare : ℕ
  pub callers : ℕ
  pub cut : Regions

-- the caller of a number when an empty space that keeps no history is opened, over so many lists: it has made no call,
-- and may make 2^56
abbrev pub new_caller : ℕ → TableId → ℕ → CallerView
new_caller lists table k = record {
  seat = new_seat_in lists table (λ _. new_pass [] (blocks_by table) false (2 ^ 56)) k;
  left = 2 ^ 56;
  count = 0;
  cut = record { at = record { block = 0; place = 0 }; gone = 0 };
  more = [];
  change = None;
}

-- the callers are such new ones, by their places
abbrev pub AreNewCallers : ℕ → TableId → List CallerView → Type 0
AreNewCallers lists table callers = (k : ℕ) (c : CallerView) → get_elem? callers k ≡ some c → c ≡ new_caller lists table k

-- what is behind a new handle of a new empty space over a cut: the caller of the highest number, and the others
pub record IsNewBehind (cut : Regions) (callers : ℕ) (b : Behind) : Type 0 where
  pub counted : IsSeatCount callers
  pub spare : b.spare + 1 ≡ callers
  pub caller : b.caller ≡ new_caller (list_count cut) b.caller.seat.table b.spare
  pub all : b.callers ≡ callers
  pub regions : b.cut ≡ cut

-- why no space was opened: the two numbers make no cut, or they do and the callers are too few or many, or memory was
-- short
abbrev pub IsNotOpened : ℕ → ℕ → ℕ → Answer → Type 0
IsNotOpened regions bits callers BadCut = ¬ (IsCut regions bits)
IsNotOpened regions bits callers Callers = IsCut regions bits × ¬ (IsSeatCount callers)
IsNotOpened regions bits callers Memory = IsCut regions bits × IsSeatCount callers
IsNotOpened regions bits callers _ = ⊥

-- why none was opened over a cut: the callers are too few or many, or memory was short
abbrev pub IsNotCounted : ℕ → Answer → Type 0
IsNotCounted callers Callers = ¬ (IsSeatCount callers)
IsNotCounted callers Memory = IsSeatCount callers
IsNotCounted callers _ = ⊥

-- a caller is a new one of the same space
abbrev pub IsNewOf : Behind → CallerView → Type 0
IsNewOf b c = (k : ℕ) × (c ≡ new_caller (list_count b.cut) b.caller.seat.table k)

-- the last of the callers that were left was taken out for a handle of its own: it is new, and of the same space
pub record IsShared (before after new : Behind) : Type 0 where
  pub kept : after ≡ record before { spare = after.spare }
  pub spare : after.spare + 1 ≡ before.spare
  pub caller : new.caller ≡ new_caller (list_count before.cut) before.caller.seat.table after.spare
  pub rest : new ≡ record before { caller = new.caller; spare = 0 }

-- why no caller was taken out of so many that were left
abbrev pub IsUnshared : ℕ → Answer → Type 0
IsUnshared spare NoneLeft = spare ≡ 0
IsUnshared spare Memory = Unit {0}
IsUnshared spare _ = ⊥

-- no caller was taken out, for that cause, and nothing has changed
abbrev pub IsNotShared : Answer → Behind → Behind → Type 0
IsNotShared why before after = IsUnshared before.spare why × (after ≡ before)

-- a caller without what it holds
abbrev pub given_back : CallerView → CallerView
given_back c = record c { seat = record c.seat { held = None } }

-- what is held after a call that held this: it, where it is to be kept, and nothing where the call's arguments decide
-- it
abbrev pub kept_of : Option Reply → Bool → Held → Option Held
kept_of (Some reply) keep wanted = None
kept_of None false wanted = None
kept_of None true wanted = Some wanted

-- what was held is given back, or kept
abbrev pub IsGivenUnless : Bool → CallerView → CallerView → Type 0
IsGivenUnless true before after = after ≡ before
IsGivenUnless false before after = IsRelease rest_of before.seat after.seat × (after.left ≡ before.left)

-- the call was made by a caller that held this, and kept it or gave it back
pub record IsMadeHolding (wanted : Held) (call : Call) (keep : Bool) (before : CallerView) (e : Entry) (after : CallerView) : Type 0 where
  pub called : IsCalled (given_back before) 0 call e (given_back after)
  pub held : after.seat.held ≡ kept_of None keep wanted
  pub asked : after.seat.trace.asked ≡ before.seat.trace.asked
  pub rest : IsAtRest after.seat.pass
  pub table : after.seat.table ≡ before.seat.table

-- each range that was asked for is this one, and the call's arguments don't decide it. What is held was asked for, so
-- nothing else was held on the way
abbrev pub AsksAlone : Held → Call → List Held → List Held → Type 0
AsksAlone wanted call before after = AsksAmong (λ h. (h ≡ wanted) × (plain_reply call ≡ None)) before after

-- the call was made by a caller that held nothing and had a number left: with what it holds given back it has its one
-- place in the one history, with the reply of this entry
pub record IsMade (wanted : Held) (call : Call) (keep : Bool) (before : CallerView) (e : Entry) (after : CallerView) : Type 0 where
  pub called : IsCalled before 0 call e (given_back after)
  pub held : after.seat.held ≡ kept_of (plain_reply call) keep wanted
  pub asks : AsksAlone wanted call before.seat.trace.asked after.seat.trace.asked

-- a round for the call's pages was refused: nothing was called, nothing is held, and what the caller knows is as
-- before. After 16 refused rounds a range of several lists keeps its node in the next one: where that is refused, it
-- was so in list 0, or more than eight of its steps found a list not empty
pub record IsRefusedRound (cut : Regions) (wanted : Held) (call : Call) (refused : ℕ) (before after : CallerView) : Type 0 where
  pub undecided : plain_reply call ≡ None
  pub locks : IsLockCall before.seat after.seat
  pub free : after.seat.held ≡ None
  pub left : after.left ≡ before.left
  pub asks : AsksAlone wanted call before.seat.trace.asked after.seat.trace.asked
  pub looks : TakesTwo cut wanted.range → REFUSED_ROUNDS ≤ refused → IsRefusedAfter cut KEPT_LOOKS before.seat after.seat

-- behind the handle the caller alone has changed
abbrev pub WithCaller : Behind → Behind → Type 0
WithCaller before after = after ≡ record before { caller = after.caller }

-- why a call isn't tried: the caller holds pages, or it has no number left
abbrev pub IsBarred : Answer → CallerView → Type 0
IsBarred Holds c = c.seat.held ≢ None
IsBarred Spent c = (c.seat.held ≡ None) × (c.left ≡ 0)
IsBarred _ c = ⊥

-- what the round of a call came to, as an answer and as it is shown
abbrev pub answer_of : Result Entry Anew → Answer
answer_of (Ok e) = Done
answer_of (Err Wait) = Later
answer_of (Err Again) = AtOnce

abbrev pub shown_of : Result Entry Anew → GzReply
shown_of (Ok e) = reply_shown e.reply
shown_of (Err why) = nothing_shown

-- what a try of a call answers, shows and leaves. The handle's caller held nothing and had a number left where it was
-- made or refused
abbrev pub IsTried : Option Call → Held → Bool → ℕ → GzReply → Answer → Behind → Behind → Type 0
IsTried asked wanted keep refused shown BadCall before after = (asked ≡ None) × (shown ≡ nothing_shown) × (after ≡ before)
IsTried asked wanted keep refused shown Holds before after = (asked ≢ None) × (before.caller.seat.held ≢ None) × (shown ≡ nothing_shown) × (after ≡ before)
IsTried asked wanted keep refused shown Spent before after = (asked ≢ None) × (before.caller.seat.held ≡ None) × (before.caller.left ≡ 0)
    × (shown ≡ nothing_shown) × (after ≡ before)
IsTried asked wanted keep refused shown Done before after = (before.caller.seat.held ≡ None) × (call : Call) × (asked ≡ Some call) × (e : Entry)
    × (shown ≡ reply_shown e.reply) × IsMade wanted call keep before.caller e after.caller × WithCaller before after
IsTried asked wanted keep refused shown Later before after = (before.caller.seat.held ≡ None) × (call : Call) × (asked ≡ Some call)
    × (shown ≡ nothing_shown) × IsRefusedRound before.cut wanted call refused before.caller after.caller × WithCaller before after
IsTried asked wanted keep refused shown AtOnce before after = (before.caller.seat.held ≡ None) × (call : Call) × (asked ≡ Some call)
    × (shown ≡ nothing_shown) × IsRefusedRound before.cut wanted call refused before.caller after.caller × WithCaller before after
IsTried asked wanted keep refused shown _ before after = ⊥

-- what a giving back answers and leaves
abbrev pub IsGiven : Answer → Behind → Behind → Type 0
IsGiven Done before after = (before.caller.seat.held ≢ None) × IsRelease rest_of before.caller.seat after.caller.seat
    × (after.caller.left ≡ before.caller.left) × WithCaller before after
IsGiven HasNone before after = (before.caller.seat.held ≡ None) × (after ≡ before)
IsGiven _ before after = ⊥

-- what a look answers and shows: what is held, with the caller's number. Nothing has changed
abbrev pub IsLooked : GzHeld → Answer → Behind → Behind → Type 0
IsLooked shown Done before after = (before.caller.seat.held ≢ None) × (shown ≡ held_shown before.caller.seat.number before.caller.seat.held) × (after ≡ before)
IsLooked shown HasNone before after = (before.caller.seat.held ≡ None) × (shown ≡ held_shown before.caller.seat.number None) × (after ≡ before)
IsLooked shown _ before after = ⊥
