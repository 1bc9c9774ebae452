-- One round of a call: holding its pages, making it under them, and giving them back or keeping them are one call; what
-- such a round came to is what a try answers.
use Rattle.std.proofs.Common.{◌≡◌, ◌≢◌, ℕ, ◌+◌, ◌∙◌, ◌≤◌, Bool, true, false, Option, Some, None, Result, Ok, Err, List, refl, sym, ap, subst}
use Rattle.std.specs.Prelude.{IfOk, IfErr}
use Rattle.page_types.specs.declared.calls.Call.{Call}
use Rattle.page_types.specs.declared.calls.Reply.{Reply}
use Rattle.page_types.specs.PlainReply.{plain_reply}
use Rattle.page_types.specs.Pages.{page_of}
use Rattle.page_types.specs.declared.pages.Span.{Span}
use Rattle.lock_core.specs.declared.range.Mode.{Mode}
use Rattle.page_fault.specs.Faults.{page_held_as}
use Rattle.space_model.specs.declared.entries.Entry.{Entry}
use Rattle.list_cuts.specs.Cut.{Regions, TakesTwo}
use Rattle.word_rows.specs.declared.backoff.TheConstants.{REFUSED_ROUNDS, KEPT_LOOKS}
use Rattle.lock_core.specs.declared.range.Held.{Held}
use Rattle.range_rw.specs.declared.patience.Anew.{Anew}
use Rattle.range_rw.specs.declared.patience.Anew.TheVariants.{AtOnce as Again, Later as Wait}
use Rattle.range_rw.specs.Contract.{AsksOnly, IsLockCall, IsRefusedAfter}
use Rattle.range_rw.proofs.Asking.{asks_stay, asks_kept, asks_wider}
use Rattle.area_guard.specs.declared.guard.Pass.{Pass}
use Rattle.area_rows.specs.Callers.{CallerView, held_span}
use Rattle.area_rows.specs.Called.{IsCalled}
use Rattle.area_rows.proofs.Wholes.{called_back, called_from}
use Rattle.space_c.specs.declared.answers.Answer.{Answer}
use Rattle.space_c.specs.declared.answers.Answer.TheVariants.{Holds, Spent}
use Rattle.space_c.specs.Behind.{Behind, IsBarred, IsGivenUnless, IsMade, IsMadeHolding, IsRefusedRound, IsTried, WithCaller}
use Rattle.space_c.specs.Behind.{answer_of, given_back, kept_of, shown_of}
use Rattle.space_c.specs.Shown.{nothing_shown}

-- a call of a caller that holds nothing afterwards is one of a caller that gave back what it held
pub called_free : (a d : CallerView) (call : Call) (e : Entry) → d.seat.held ≡ None → IsCalled a 0 call e d → IsCalled a 0 call e (given_back d)
called_free a d call e none called = subst (λ (h : Option Held). IsCalled a 0 call e (record d { seat = record d.seat { held = h } })) none called

-- a call under what is held, and keeping that or giving it back
pub unless_kept : (keep : Bool) (wanted : Held) (call : Call) (b w d : CallerView) (e : Entry) → IsGivenUnless keep w d → w.seat.held ≡ Some wanted
    → w.seat.trace.asked ≡ b.seat.trace.asked → IsCalled (given_back b) 0 call e (given_back w) → IsMadeHolding wanted call keep b e d
unless_kept true wanted call b w d e same held asked called =
    subst (IsMadeHolding wanted call true b e) (sym same)
    (record { called = called; held = held; asked = asked; rest = called.written; table = called.numbered.table })
unless_kept false wanted call b w d e given held asked called =
    let release = given.0 in
    record {
      called = called_free (given_back b) d call e release.held (called_back (given_back b) w d refl release given.1 called);
      held = release.held;
      asked = release.asked ∙ asked;
      rest = ap (λ (p : Pass). p.pending) release.pass ∙ called.written;
      table = release.table ∙ called.numbered.table;
    }

-- a round that got the pages, and the call under them
pub round_made : (a b d : CallerView) (e : Entry) (wanted : Held) (call : Call) (keep : Bool) → plain_reply call ≡ None → a.seat.held ≡ None
    → IsLockCall a.seat b.seat → b.left ≡ a.left → AsksOnly wanted a.seat.trace.asked b.seat.trace.asked → IsMadeHolding wanted call keep b e d
    → IsMade wanted call keep a e d
round_made a b d e wanted call keep undecided free lock same asks made = record {
  called = called_from a b (given_back d) e 0 call free lock same made.called;
  held = made.held ∙ ap (λ (o : Option Reply). kept_of o keep wanted) (sym undecided);
  asks = asks_kept (asks_wider (λ h is. (is, undecided)) asks) made.asked;
}

-- a round that didn't get them
pub round_refused : (cut : Regions) (a b : CallerView) (wanted : Held) (call : Call) (refused : ℕ) → plain_reply call ≡ None → IsLockCall a.seat b.seat
    → b.seat.held ≡ None → b.left ≡ a.left → AsksOnly wanted a.seat.trace.asked b.seat.trace.asked
    → (TakesTwo cut wanted.range → REFUSED_ROUNDS ≤ refused → IsRefusedAfter cut KEPT_LOOKS a.seat b.seat) → IsRefusedRound cut wanted call refused a b
round_refused cut a b wanted call refused undecided lock free same asks looks = record {
  undecided = undecided;
  locks = lock;
  free = free;
  left = same;
  asks = asks_wider (λ h is. (is, undecided)) asks;
  looks = looks;
}

-- a call that its arguments decide
pub plain_made : (a d : CallerView) (e : Entry) (wanted : Held) (call : Call) (keep : Bool) {reply : Reply} → plain_reply call ≡ Some reply
    → a.seat.held ≡ None → IsCalled a 0 call e d → d.seat.trace.asked ≡ a.seat.trace.asked → IsMade wanted call keep a e d
plain_made a d e wanted call keep decided free called asked =
    let none = called.numbered.held ∙ free in
    record {
      called = called_free a d call e none called;
      held = subst (λ (o : Option Reply). d.seat.held ≡ kept_of o keep wanted) (sym decided) none;
      asks = asks_stay asked;
    }

-- what a round came to is what the try answers
pub tried_of : (r : Result Entry Anew) {asked : Option Call} (call : Call) (wanted : Held) (keep : Bool) (refused : ℕ) (before after : Behind)
    → asked ≡ Some call → before.caller.seat.held ≡ None → IfOk r (λ e. IsMade wanted call keep before.caller e after.caller)
    → IfErr r (λ _. IsRefusedRound before.cut wanted call refused before.caller after.caller) → WithCaller before after
    → IsTried asked wanted keep refused (shown_of r) (answer_of r) before after
tried_of (Ok e) call wanted keep refused before after is free made not kept = (free, call, is, e, refl, made, kept)
tried_of (Err Wait) call wanted keep refused before after is free made not kept = (free, call, is, refl, not, kept)
tried_of (Err Again) call wanted keep refused before after is free made not kept = (free, call, is, refl, not, kept)

some_call : {asked : Option Call} (call : Call) → asked ≡ Some call → asked ≢ None
some_call call is none = absurd (let never : Some call ≡ None = sym is ∙ none in cc)

-- where no call may be tried, that is the answer
pub barred_of : (why : Answer) {asked : Option Call} (call : Call) (wanted : Held) (keep : Bool) (refused : ℕ) (b : Behind) → asked ≡ Some call
    → IsBarred why b.caller → IsTried asked wanted keep refused nothing_shown why b b
barred_of Holds call wanted keep refused b is bar = (some_call call is, bar, refl, refl)
barred_of Spent call wanted keep refused b is bar = (some_call call is, bar.0, bar.1, refl, refl)
barred_of _ call wanted keep refused b is bar = absurd bar

-- the span of an address's page, held in a mode
pub page_span : (mode : Mode) (addr : ℕ) (span : Span) → span.lo ≡ page_of addr → span.hi ≡ page_of addr + 1 → held_span span mode ≡ page_held_as mode addr
page_span mode addr span lo hi = λ i. record { range = record { lo = lo i; hi = hi i }; mode = mode }
