-- A step on a client word is always allowed, and it is the last one that its seat knows of, with what it found and what
-- it left there. What a seat knows of the opening stays, and at the opening the words are those of it.
use Rattle.std.proofs.Common.{◌≡◌, ◌≢◌, ℕ, ◌%◌, ◌^◌, ◌+◌, ◌<◌, List, get_or, length, refl, sym, ap, ◌∙◌, subst, get_or-set_same}
use Rattle.std.specs.Prelude.{Option, None, ◌==◌, true, false, Bool, replicate}
use Rattle.std.proofs.Math.Dec.{eqb}
use Rattle.std.proofs.lemmas.Bool.{eq-eqb, eqb-true}
use mathlib.Core.Option.{some-injective}
use prog.Atomic.{either}
use Rattle.atomic_table.specs.Seated.{TableId}
use Rattle.lock_core.specs.Client.{ClientStep, loads, stores, adds, exchanges, place_of, words_after, IsAllowed, IsMade}
use Rattle.lock_core.specs.declared.range.Held.{Held}
use Rattle.list_cuts.specs.Cut.{Regions}
use Rattle.range_rw.specs.Contract.{IsLockCall, IsClientCall, IsRelease, AreNewSeatsIn, first_passes}
use Rattle.range_rw.proofs.SeatLists.{at_firsts}
use Rattle.range_c.specs.declared.answers.Answer.{Answer}
use Rattle.range_c.specs.declared.recording.Made.{Made}
use Rattle.range_c.specs.declared.recording.Recorded.{Recorded}
use Rattle.range_c.specs.declared.recording.WordStep.{WordStep}
use Rattle.range_c.specs.declared.recording.WordStep.TheVariants.{Load, Store, Add, Exchange}
use Rattle.range_c.specs.Recording.{step_on, kind_of, left_by, made_on, begun, with_last, IsBegun, IsRecorded}
use Rattle.range_c.specs.Behind.{Behind, RecordingSeat, IsStepped, IsWordStep}
use Rattle.range_c.proofs.Rows.{behind}

not_equal : (a b : ℕ) → a ≢ b → eqb a b ≡ false
not_equal a b other = go (eqb a b) refl where
  go : (t : Bool) → eqb a b ≡ t → eqb a b ≡ false
  go true e = absurd (other (eqb-true a b e))
  go false e = e

-- what a step leaves in its word
left_is : (words : List ℕ) (step : ClientStep) → place_of step < length words
    → get_or (words_after words step) (place_of step) 0 ≡ left_by (kind_of step) (get_or words (place_of step) 0)
left_is words (loads i) there = refl
left_is words (stores i value) there = get_or-set_same words i value 0 there
left_is words (adds i by) there = get_or-set_same words i ((get_or words i 0 + by) % 2 ^ 64) 0 there
left_is words (exchanges i expected new) there = get_or-set_same words i (either (get_or words i 0 == expected) new (get_or words i 0)) 0 there

-- a step as it is recorded, by what it found and left
abbrev pub as_made : ℕ → WordStep → ℕ → ℕ → Made
as_made i step found left = record { place = i; step = step; found = found; left = left }

module _ (seat : ℕ) (held : Option Held) (pass : Recorded) where
  -- every step on a client word is allowed
  pub may_step : (step : ClientStep) → IsAllowed IsBegun IsRecorded tt seat held pass step
  may_step step grants words passes moment there small = (with_last pass (made_on words step), (there, (pass, moment.own, refl)))

  -- a step is the last one that the seat knows of
  last_is : (step : ClientStep) (found : ℕ) (after : Recorded) → IsMade IsBegun IsRecorded tt seat held pass step found after
      → after ≡ with_last pass (as_made (place_of step) (kind_of step) found (left_by (kind_of step) found))
  last_is step found after made =
      let words = made.1 in let own = made.5.1 in
      let same : own.0 ≡ pass = some-injective _ _ (sym own.1 ∙ made.3.own) in
      let left = left_is words step made.5.0 ∙ ap (left_by (kind_of step)) made.4 in
      own.2 ∙ (ap (λ p. with_last p (made_on words step)) same ∙ λ k. with_last pass (as_made (place_of step) (kind_of step) (made.4 k) (left k)))

  -- a load leaves what it found
  pub loaded : (i found : ℕ) (after : Recorded) → IsMade IsBegun IsRecorded tt seat held pass (step_on i Load) found after
      → after ≡ with_last pass (as_made i Load found found)
  loaded i found after made = last_is (loads i) found after made

  -- a store leaves its value
  pub stored : (i value found : ℕ) (after : Recorded) → IsMade IsBegun IsRecorded tt seat held pass (step_on i (Store value)) found after
      → after ≡ with_last pass (as_made i (Store value) found value)
  stored i value found after made = last_is (stores i value) found after made

  -- an addition leaves the sum
  pub added : (i by found : ℕ) (after : Recorded) → IsMade IsBegun IsRecorded tt seat held pass (step_on i (Add by)) found after
      → after ≡ with_last pass (as_made i (Add by) found ((found + by) % 2 ^ 64))
  added i by found after made = last_is (adds i by) found after made

  -- an exchange that found the expected value leaves the new one
  pub exchanged : (i expected new : ℕ) (after : Recorded) → IsMade IsBegun IsRecorded tt seat held pass (step_on i (Exchange expected new)) expected after
      → after ≡ with_last pass (as_made i (Exchange expected new) expected new)
  exchanged i expected new after made = last_is (exchanges i expected new) expected after made
      ∙ ap (λ (b : Bool). with_last pass (as_made i (Exchange expected new) expected (either b new expected))) (eq-eqb expected expected refl)

  -- one that found another value leaves that
  pub unexchanged : (i expected new found : ℕ) (after : Recorded) → found ≢ expected
      → IsMade IsBegun IsRecorded tt seat held pass (step_on i (Exchange expected new)) found after
      → after ≡ with_last pass (as_made i (Exchange expected new) found found)
  unexchanged i expected new found after other made = last_is (exchanges i expected new) found after made
      ∙ ap (λ (b : Bool). with_last pass (as_made i (Exchange expected new) found (either b new found))) (not_equal found expected other)

-- at the opening the words are those of the opening
pub begins : (words : List ℕ) (seats : ℕ) → IsBegun (replicate seats None) words (first_passes (begun words) 0 seats)
begins words seats untouched seat p at = let m = at_firsts (begun words) 0 seats seat p at in sym (ap (λ (q : Recorded). q.opened) m.1)

-- the seats that are left to share know of the same words at the opening as a seat that was in a call of the lock
pub after_call : (lists : ℕ) (t : TableId) {a b : RecordingSeat} (l : List RecordingSeat) → IsLockCall a b → AreNewSeatsIn lists t (begun a.pass.opened) l
    → AreNewSeatsIn lists t (begun b.pass.opened) l
after_call lists t l call new = subst (λ w. AreNewSeatsIn lists t (begun w) l) (sym (ap (λ (p : Recorded). p.opened) call.pass)) new

-- and after a step on a client word
pub after_step : (lists : ℕ) (t : TableId) (a b : RecordingSeat) (l : List RecordingSeat) (step : ClientStep) (found : ℕ)
    → IsMade IsBegun IsRecorded tt a.number a.held a.pass step found b.pass
    → AreNewSeatsIn lists t (begun a.pass.opened) l → AreNewSeatsIn lists t (begun b.pass.opened) l
after_step lists t a b l step found made new = subst (λ w. AreNewSeatsIn lists t (begun w) l)
    (sym (ap (λ (p : Recorded). p.opened) (last_is a.number a.held a.pass step found b.pass made))) new

-- an exchange, by what it found and left, as it is told
pub exchange_told : (expected new found left told spare words seats : ℕ) (cut : Regions) {i : ℕ} {old seat : RecordingSeat} {before : Behind}
    {step : WordStep} (answer : Answer) {result : Answer × ℕ} → step ≡ Exchange expected new → result ≡ (answer, found)
    → behind old spare words seats cut ≡ before → i < words → IsClientCall old i seat
    → IsMade IsBegun IsRecorded tt old.number old.held old.pass (exchanges i expected new) found seat.pass
    → seat.pass ≡ with_last old.pass (as_made i (Exchange expected new) found left)
    → (IsWordStep i (Exchange expected new) found left before (behind seat spare words seats cut)
    → IsStepped i (Exchange expected new) told found answer before (behind seat spare words seats cut))
    → IsStepped i step told result.1 result.0 before (behind seat spare words seats cut)
exchange_told expected new found left told spare words seats cut {i} {seat} {before} answer is answer_is was there call made last so =
    let now = behind seat spare words seats cut in
    subst (λ (s : WordStep × (Answer × ℕ)). IsStepped i s.0 told s.1.1 s.1.0 before now) (λ j. (sym is j, sym answer_is j))
    (so (subst (λ (b : Behind). IsWordStep i (Exchange expected new) found left b now) was (record {
      there = there;
      call = call;
      made = made;
      last = last;
      spare = refl;
      words = refl;
      seats = refl;
      cut = refl;
    })))
