-- The seats of a new table hold nothing, and there are as many as it was opened with.
use Rattle.std.specs.Prelude.{replicate, remove, None}
use Rattle.std.proofs.Common.{◌≡◌, ◌<◌, ℕ, zero, suc, List, [], ◌∷◌, length, sym, ap, refl, ◌∙◌, arith}
use mathlib.Core.Option.{some, some-injective, some-ne-none}
use lib.ListN.{get_elem?}
use Rattle.atomic_table.specs.Seated.{TableId}
use Rattle.event_count.specs.Calls.{SeatView, new_seat}
use Rattle.queue_guard.specs.declared.passes.QueuePass.{QueuePass}
use Rattle.range_rw.specs.Contract.{SeatState}
use Rattle.range_wait.specs.Seats.{AreNewWaitSeats, WaitState, both, seats_of}
use Rattle.test_waits.specs.Seats.{AreIdle}

module _ {P : Type 0} (lock events : TableId) where
  -- free seats of the lock, each with a new one of the event count
  pub idle_pairs : (locks : List (SeatState (QueuePass P))) → ((k : ℕ) (s : SeatState (QueuePass P)) → get_elem? locks k ≡ some s
      → (s.table ≡ lock) × (s.held ≡ None)) → (n : ℕ) → AreIdle lock events (seats_of locks (replicate n (new_seat events)))
  idle_pairs [] free n k s at = absurd (some-ne-none s (sym at))
  idle_pairs (l ∷ ls) free zero k s at = absurd (some-ne-none s (sym at))
  idle_pairs (l ∷ ls) free (suc n) zero s at = let e : both l (new_seat events) ≡ s = some-injective (both l (new_seat events)) s at in record {
    lock = ap (λ (x : WaitState P). x.lock.table) (sym e) ∙ (free zero l refl).0;
    events = ap (λ (x : WaitState P). x.event.table) (sym e);
    free = ap (λ (x : WaitState P). x.lock.held) (sym e) ∙ (free zero l refl).1;
  }
  idle_pairs (l ∷ ls) free (suc n) (suc k) s at = idle_pairs ls (λ j t was. free (suc j) t was) n k s at

  -- the seats of a new table
  pub idle_new : (n lists : ℕ) (first : ℕ → QueuePass P) (items : List (WaitState P)) → AreNewWaitSeats n lists lock events first items
      → AreIdle lock events items
  idle_new n lists first items new k s at = idle_pairs new.0 (λ j t was. let e = new.2 j t was in
      (ap (λ (x : SeatState (QueuePass P)). x.table) e, ap (λ (x : SeatState (QueuePass P)). x.held) e)) n k s
      (ap (λ (l : List (WaitState P)). get_elem? l k) (sym new.3) ∙ at)

  -- what is left behind the first of them
  pub idle_rest : (items left : List (WaitState P)) → 0 < length items → AreIdle lock events items → left ≡ remove items 0 → AreIdle lock events left
  idle_rest [] left more idle is k s at = absurd (omega arith)
  idle_rest (x ∷ xs) left more idle is k s at = idle (suc k) s (ap (λ (l : List (WaitState P)). get_elem? l k) (sym is) ∙ at)

  -- there are as many pairs as seats of the lock
  pub count_pairs : (locks : List (SeatState (QueuePass P))) (e : SeatView) (n : ℕ) → length locks ≡ n → length (seats_of locks (replicate n e)) ≡ n
  count_pairs [] e zero is = refl
  count_pairs [] e (suc n) is = absurd (omega arith)
  count_pairs (l ∷ ls) e zero is = absurd (omega arith)
  count_pairs (l ∷ ls) e (suc n) is = ap suc (count_pairs ls e n (omega arith))

  -- and as many seats of a new table as it was opened with
  pub count_new : (n lists : ℕ) (first : ℕ → QueuePass P) (items : List (WaitState P)) → AreNewWaitSeats n lists lock events first items → length items ≡ n
  count_new n lists first items new = ap (λ (l : List (WaitState P)). length l) new.3 ∙ count_pairs new.0 (new_seat events) n new.1
