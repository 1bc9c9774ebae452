-- What a load of a walk finds, from the moment at which it was made: a state of the lock that meets the invariant.
use Rattle.std.proofs.Common.{◌≡◌, ◌≢◌, ℕ, suc, ◌/◌, ◌%◌, ◌≤◌, ◌<◌, ⊎_elim, sym, ap, ◌∙◌, subst, arith}
use Rattle.std.specs.Prelude.{Some, slice_index}
use Rattle.lock_core.specs.Range.{IsRange}
use Rattle.lock_core.specs.declared.views.View.{View}
use Rattle.lock_core.specs.declared.views.Cursor.{Cursor}
use Rattle.lock_core.specs.declared.views.Todo.TheVariants.{Done}
use Rattle.lock_core.specs.declared.steps.Step.{Step}
use Rattle.lock_core.specs.declared.steps.Step.TheVariants.{Walk, ReadHi}
use Rattle.lock_core.specs.Words.{to, IsMarked, cell_place, hi_place, hi_word, plain_node_of}
use Rattle.lock_core.specs.Nodes.{Listed, listed, own_times}
use Rattle.lock_core.specs.Machine.{heap}
use Rattle.lock_laws.specs.Invariant.{IsHeldBy}
use Rattle.lock_laws.specs.Paths.{Reach}
use Rattle.lock_laws.proofs.Paths.{unreach, nothing_at_end}
use Rattle.lock_laws.proofs.Seats.{one_seat}
use Rattle.lock_core.proofs.ByView.{is_view}
use Rattle.lock_core.proofs.Counts.{own_linked}
use Rattle.lock_laws.proofs.Sound.{finds_other, reads_range}
use Rattle.epoch_pools.specs.declared.views.SeatPart.{SeatPart}
use Rattle.epoch_pools.specs.Running.{LockMoment, line_for}
use Rattle.marked_list.specs.Walking.{IsOthers}

-- a list has from 1 to 16 seats
pub seat_count : {P : Type 0} (p : SeatPart P) (step : Step) (w : ℕ) → LockMoment p step w → (0 < p.seats) × (p.seats ≤ 16)
seat_count p step w m = let a = m.lock.sized.some in let b = m.lock.sized.few in let s = m.seats in (omega arith, omega arith)

-- the word of a cell, or of a node's higher end, at a moment
cell_found : {P : Type 0} (p : SeatPart P) (w cell : ℕ) (m : LockMoment p Walk w) → (line_for p Walk).place ≡ cell_place p.seats cell
    → (heap m.machine).next cell ≡ w
cell_found p w cell m at = ap (λ n. slice_index m.machine.words n) (ap (λ s. cell_place s cell) m.seats ∙ sym at) ∙ m.word

hi_found : {P : Type 0} (p : SeatPart P) (w y : ℕ) (m : LockMoment p ReadHi w) → (line_for p ReadHi).place ≡ hi_place p.seats y → (heap m.machine).hi y ≡ w
hi_found p w y m at = ap (λ n. slice_index m.machine.words n) (ap (λ s. hi_place s y) m.seats ∙ sym at) ∙ m.word

-- a node that is found unmarked is another seat's, or the own linked one
pub found_other : {P : Type 0} (p : SeatPart P) (w : ℕ) (c : Cursor) (y : ℕ) → LockMoment p Walk w
    → (line_for p Walk).place ≡ cell_place p.seats (suc y) → p.core.cursor ≡ Some c → plain_node_of c.cur ≡ Some y → w % 2 ≡ 0 → IsOthers p.number p.core.own y
found_other p w c y m at is node even = finds_other m.machine m.lock p.number p.core m.view c is y node
    (let e = cell_found p w (suc y) m at in ap (λ n. n % 2) e ∙ even)

-- the hi word that is found ends a range
pub found_range : {P : Type 0} (p : SeatPart P) (w : ℕ) (c : Cursor) (y lo : ℕ) → LockMoment p ReadHi w
    → (line_for p ReadHi).place ≡ hi_place p.seats y → p.core.cursor ≡ Some c → plain_node_of c.cur ≡ Some y → c.lo ≡ Some lo → IsRange lo (w / 2)
found_range p w c y lo m at is node low = subst (λ n. IsRange lo (n / 2)) (hi_found p w y m at)
    (reads_range m.machine m.lock p.number p.core m.view c is y node lo low)

-- at the own linked node it is that of the own range and mode
pub found_own : {P : Type 0} (p : SeatPart P) (w : ℕ) (k : Listed) → LockMoment p ReadHi w
    → (line_for p ReadHi).place ≡ hi_place p.seats k.node → p.core.own ≡ listed k → w ≡ hi_word k.range.hi k.mode
found_own p w k m at own = sym (hi_found p w k.node m at) ∙ (m.lock.invariant.fields.linked p.number p.core k m.view own).hi

-- a head with the low bit isn't found by a writer that validates
pub found_even : {P : Type 0} (p : SeatPart P) (w : ℕ) (k : Listed) → LockMoment p Walk w
    → (line_for p Walk).place ≡ cell_place p.seats 0 → p.core.own ≡ listed k → k.todo ≢ Done → w % 2 ≢ 1
found_even p w k m at own todo odd = let inv = m.lock.invariant in
    let alone = inv.fast_path.alone (ap (λ n. n % 2) (cell_found p w 0 m at) ∙ odd) in
    let l = inv.places.linked p.number p.core k m.view own in
    let same : k.node ≡ alone.node = ⊎_elim (λ (e : k.node ≡ alone.node). e)
    (λ (r : Reach (to (heap m.machine)) k.node (to (heap m.machine) (suc alone.node))). absurd
    (nothing_at_end (to (heap m.machine)) k.node (subst (Reach (to (heap m.machine)) k.node) alone.last r)))
    (unreach (to (heap m.machine)) k.node alone.node (subst (Reach (to (heap m.machine)) k.node) alone.first l.0)) in
    ⊎_elim (λ (marked : IsMarked (heap m.machine) alone.node). let u = l.1 in
    let e = ap (λ n. (heap m.machine).next (suc n) % 2) same in omega arith) (held same) alone.rest
  where
    held : {n : ℕ} → k.node ≡ n → IsHeldBy m.machine.views n → ⊥
    held same t = let a = own_linked p.core k own in
        let b = ap (λ n. own_times n t.view.own) (same ∙ sym t.node) ∙ own_linked t.view t.own t.is in
        let q = one_seat (heap m.machine) m.machine.views m.lock.invariant.places p.number t.seat k.node p.core t.view m.view t.at
        (omega arith) (omega arith) in let v = is_view m.machine.views p.number t.seat p.core t.view m.view t.at (sym q) in
        let o : listed k ≡ listed t.own = sym own ∙ (ap (λ (x : View). x.own) v ∙ t.is) in
        todo (let e : k.todo ≡ t.own.todo = cc in e ∙ t.done)
