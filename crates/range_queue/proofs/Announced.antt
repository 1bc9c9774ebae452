-- Announcing a range and taking the announcement back, from the steps that they are.
use Rattle.std.specs.Prelude.{Option, Some, None, Result, Ok, Err, MatchResult, true}
use Rattle.std.proofs.Common.{◌≡◌, ◌≢◌, ℕ, sym, refl, ap, ◌∙◌, subst}
use Rattle.lock_core.specs.declared.range.Held.{Held}
use Rattle.lock_core.specs.Words.{hi_word}
use Rattle.queue_laws.specs.declared.places.Telling.{Telling}
use Rattle.queue_laws.specs.declared.places.Telling.TheVariants.{Silent, Counted, Drawn, Shown}
use Rattle.queue_guard.specs.declared.passes.Ends.{Ends}
use Rattle.queue_guard.specs.declared.passes.QueuePass.{QueuePass}
use Rattle.queue_guard.specs.Acts.{both_ends, is_shown, with_own, with_telling}
use Rattle.range_rw.specs.Contract.{SeatState}
use Rattle.range_queue.specs.Looks.{IsBeside, ticket_of}
use Rattle.range_queue.specs.Settled.{HasDrawn, HasNoneLeft, IsEntered, IsFullCall, IsSameBut, IsToldBy}
use Rattle.range_queue.specs.declared.answers.NotAnnounced.{NotAnnounced}
use Rattle.range_queue.specs.declared.answers.NotAnnounced.TheVariants.{Again, Full}

module _ {P : Type 0} where
  -- a pass in which what the seat has told is another
  pub told_same : {p q : QueuePass P} {t : Telling} → q ≡ with_telling p t → IsSameBut p q
  told_same e = record {
    seats = ap (λ (x : QueuePass P). x.seats) e;
    look = ap (λ (x : QueuePass P). x.look) e;
    begun = ap (λ (x : QueuePass P). x.begun) e;
    inner = ap (λ (x : QueuePass P). x.inner) e;
  }

  -- and one in which its own ends are others
  own_same : {p q : QueuePass P} {ends : Ends} → q ≡ with_own p ends → IsSameBut p q
  own_same e = record {
    seats = ap (λ (x : QueuePass P). x.seats) e;
    look = ap (λ (x : QueuePass P). x.look) e;
    begun = ap (λ (x : QueuePass P). x.begun) e;
    inner = ap (λ (x : QueuePass P). x.inner) e;
  }

  -- one after the other
  pub same_on : {p q r : QueuePass P} → IsSameBut p q → IsSameBut q r → IsSameBut p r
  same_on a b = record { seats = b.seats ∙ a.seats; look = b.look ∙ a.look; begun = b.begun ∙ a.begun; inner = b.inner ∙ a.inner }

  -- a seat counts itself and writes both ends
  pub entered_by : {p q r s : QueuePass P} {lo hi : ℕ} (asked : Held) → q ≡ with_telling p Counted
      → r ≡ with_own q (record { lo = Some lo; hi = q.own.hi })
      → s ≡ with_own r (record { lo = r.own.lo; hi = Some hi }) → lo ≡ asked.range.lo → hi ≡ hi_word asked.range.hi asked.mode
      → IsEntered asked p s
  entered_by {hi = hi} asked a b c low high = record {
    same = same_on (told_same a) (same_on (own_same b) (own_same c));
    telling = ap (λ (x : QueuePass P). x.telling) c ∙ (ap (λ (x : QueuePass P). x.telling) b ∙ ap (λ (x : QueuePass P). x.telling) a);
    own = ap (λ (x : QueuePass P). x.own) c ∙ (ap (λ (x : QueuePass P). record { lo = x.own.lo; hi = Some hi }) b
        ∙ (λ i. both_ends (low i) (high i)));
  }

  -- a pass in which what the seat has told is told again is the same
  pub told_again : {p q : QueuePass P} {t : Telling} → p.telling ≡ t → q ≡ with_telling p t → q ≡ p
  told_again {p} told e = e ∙ ap (with_telling p) (sym told)

-- what a try to draw a ticket comes to
abbrev IsDraw : {A P : Type 0} → QueuePass P → QueuePass P → ℕ → Result A ℕ → Type 0
IsDraw q r ticket d = MatchResult d (λ _. r ≡ with_telling q (Drawn ticket)) (λ found. (found ≢ ticket) × (r ≡ with_telling q Counted))

-- it is drawn, behind a load that left all as it was
pub drawn_ok : {A P : Type 0} (p q r : QueuePass P) (ticket : ℕ) (d : Result A ℕ) (a : A) → q ≡ p → d ≡ Ok a → IsDraw q r ticket d
    → HasDrawn (Ok ticket) p r
drawn_ok {P = P} p q r ticket d a same is m =
    let h : r ≡ with_telling q (Drawn ticket) = subst (IsDraw q r ticket) is m in h ∙ ap (λ (x : QueuePass P). with_telling x (Drawn ticket)) same

-- it isn't
pub drawn_not : {A P : Type 0} (p q r : QueuePass P) (ticket : ℕ) (d : Result A ℕ) (found : ℕ) → q ≡ p → d ≡ Err found → IsDraw q r ticket d
    → p.telling ≡ Counted → HasDrawn (Err (Again ticket found)) p r
drawn_not {P = P} p q r ticket d found same is m told =
    let h : (found ≢ ticket) × (r ≡ with_telling q Counted) = subst (IsDraw q r ticket) is m in
    (told_again (ap (λ (x : QueuePass P). x.telling) same ∙ told) h.1 ∙ same, h.0)

some_none : (n : ℕ) → Some n ≡ None → ⊥
some_none n e = absurd cc

-- who has a ticket between two calls has shown it, and who has none has told nothing
pub is_shown_by : (t : Telling) (n : ℕ) → IsToldBy t (Some n) → is_shown t ≡ true
is_shown_by Silent n told = absurd (some_none n told)
is_shown_by Counted n told = absurd told
is_shown_by (Drawn d) n told = absurd told
is_shown_by (Shown a) n told = refl

pub is_silent_by : (t : Telling) → IsToldBy t None → t ≡ Silent
is_silent_by Silent told = refl
is_silent_by Counted told = absurd told
is_silent_by (Drawn d) told = absurd told
is_silent_by (Shown a) told = absurd (some_none a.ticket (sym told))

-- the ticket of what was told
pub ticket_told : (t : Telling) (mine : Option ℕ) → IsToldBy t mine → ticket_of t ≡ mine
ticket_told Silent mine told = sym told
ticket_told Counted mine told = absurd told
ticket_told (Drawn d) mine told = absurd told
ticket_told (Shown a) mine told = sym told

-- a call for which a step found no ticket left
pub full_call : {P : Type 0} {before mid got after : SeatState (QueuePass P)} → IsBeside before mid → IsBeside got after → (why : NotAnnounced)
    → HasNoneLeft why mid got → IsFullCall why before after
full_call first rest (Again expected found) left = tt
full_call {mid = mid} {got = got} first rest Full left = (mid, got, first, left, rest)
