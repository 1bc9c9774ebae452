-- What the rows that a caller has read show of the history's state, also while others move boundaries beside its range.
use Rattle.std.proofs.Common.{◌≡◌, ℕ, ◌+◌, ◌-◌, ◌<◌, ◌≤◌, List, [], ◌∷◌, ◌++◌, sym, refl, ap, ◌∙◌, subst, arith, inl, inr, ⊎_elim}
use Rattle.std.proofs.lemmas.Bool.{cases_lt}
use Rattle.std.specs.Prelude.{All, Option, slice_index}
use Rattle.page_types.specs.declared.TheConstants.{LIMIT}
use Rattle.page_types.specs.declared.calls.Kind.{Kind}
use mathlib.Core.Option.{some}
use lib.ListN.{get_elem?}
use Rattle.space_model.specs.declared.areas.Area.{Area}
use Rattle.space_model.specs.Areas.{kind_at}
use Rattle.lock_core.specs.declared.range.Held.{Held}
use Rattle.range_rw.specs.Contract.{SeatState, Record}
use Rattle.area_guard.specs.declared.guard.Pass.{Pass}
use Rattle.area_guard.specs.declared.guard.ReadRow.{ReadRow}
use Rattle.area_guard.specs.Rows.{layout_in, slots_of, slot_at, slots_in, RowsShow, IsRowOf}
use Rattle.area_guard.specs.Reads.{IsHeldPage, HasRead, StillStands}
use Rattle.area_guard.specs.History.{RowsStandFor, HoldsPages, IsAtRest, StillLaid, after_row}
use Rattle.row_plans.specs.RowWords.{row_start, row_kind}
use Rattle.area_rows.specs.declared.row.Row.{Row}
use Rattle.area_rows.specs.Callers.{IsHeldPages, KeepsRead, IsReadIn, IsAsRead, IsReadBefore, IsReadBehind, RowIs, Shows, IsReading, IsClientStep}
use Rattle.plan_words.specs.Writing.{IsCountedOn}
pub use Rattle.plan_words.specs.Reading.{keeps_on, no_reading, reading_on}
use Rattle.area_rows.proofs.Moments.{stands, nobody_plans, shows_held, here_of}
use Rattle.area_rows.proofs.Neighbours.{next_same, none_next, word_says, before_row, behind_row}

-- a held page is below the limit
pub below_end : (held : Option Held) (p : ℕ) → IsHeldPages held → IsHeldPage held p → p < LIMIT
below_end held p pages h = let b = (pages h.0 h.1).1 in let l = h.3 in omega arith

-- what a row that was read says, from what still stands of it and of the next one
module _ (held : Option Held) {words : List ℕ} {kinds : ℕ → Option Kind} (s : RowsShow words kinds) (page : ℕ) {read : List ReadRow} {row : Row}
    (stood : All (StillStands held words) read) (r : IsReadIn read (slots_in words) (slot_at (layout_in words) row.index) row) (here : IsHeldPage held page)
    (from : row.lo ≤ page) (until : page < row.hi) (limit : row.hi ≤ LIMIT) (pages : IsHeldPages held) where
  -- its slot
  abbrev row_slot : ℕ
  row_slot = slot_at (layout_in words) row.index

  first : StillStands held words (record { index = slot_at (layout_in words) row.index; word = r.word })
  first = stands held words read (slot_at (layout_in words) row.index) r.word stood r.read

  behind : (next word : ℕ) → HasRead read next word → StillStands held words (record { index = next; word = word })
  behind next word has = stands held words read next word stood has

  -- a held page between the ends as they were read is in this row still
  row_of_page : (p : ℕ) → IsHeldPage held p → row.lo ≤ p → p < row.hi → IsRowOf words p row_slot
  row_of_page p h low high = record {
    there = r.there;
    from = (first.side p h).0 (let lo = r.lo in omega arith);
    last = λ next after. ⊎_elim (λ t. subst (λ (n : ℕ). p < row_start (slice_index words (3 + n))) (next_same s row_slot t.0 next t.1 after)
        (elim (cases_lt p (row_start (slice_index words (3 + t.0)))) [
          | inl less ↦ less
          | inr ge ↦ let back : row_start t.2 ≤ p = ((behind t.0 t.2 t.3).side p h).1 ge in let e = t.4 in absurd (omega arith)
        ])) (λ t. absurd (none_next s row_slot next t.0 after)) r.hi;
  }

  -- its word has the kind that was read
  pub kind_now : row_kind (slice_index words (3 + slot_at (layout_in words) row.index)) ≡ row.kind
  kind_now = first.kind page here (row_of_page page here from until) ∙ sym r.kind

  -- the row, as it was read, is the row of the page still
  pub row_is_still : (state : List Area) → ((p : ℕ) → IsHeldPage held p → kinds p ≡ kind_at state p) → RowIs held page row words state
  row_is_still state same = record {
    index = row_of_page page here from until;
    kind = λ p h low high. let at = row_of_page p h low high in
        sym (same p h) ∙ ((word_says s row_slot r.there).within p at.from (below_end held p pages h) at.last ∙ kind_now);
    next = λ h e. ⊎_elim (λ t. let at : row_start (slice_index words (3 + t.0)) ≡ row_start t.2 = (behind t.0 t.2 t.3).start row.hi h (inl t.4) in
        behind_row s row_slot r.there t.0 t.1 (ap kinds (at ∙ sym {b = row_start t.2} t.4) ∙ (same row.hi h ∙ (e ∙ sym kind_now))))
        (λ t. absurd (let e = t.1 in let b = below_end held row.hi pages h in omega arith)) r.hi;
    previous = λ more h e.
        let lo = r.lo in
        let at : row_start (slice_index words (3 + row_slot)) ≡ row.lo = first.start (row.lo - 1) h (inr (omega arith)) ∙ sym r.lo in
        before_row s row_slot r.there (omega arith) (ap (λ (n : ℕ). kinds (n - 1)) at ∙ (same (row.lo - 1) h ∙ (e ∙ sym kind_now)));
    ends = λ a.
        let h = a.0 in let left = a.2 in let right = a.3 in
        let low : IsHeldPage held row.lo = (h, a.1, omega arith, omega arith) in
        let high : IsHeldPage held (row.hi - 1) = (h, a.1, omega arith, omega arith) in (
          first.start row.lo low (inl r.lo) ∙ sym r.lo,
          ⊎_elim (λ t. inl (t.0, t.1, (behind t.0 t.2 t.3).start (row.hi - 1) high (inr (let e = t.4 in omega arith)) ∙ sym {b = row_start t.2} t.4))
              (λ t. inr t) r.hi,
        );
  }

-- in the slot in which it was read, where the layout is so still
pub read_now : (words : List ℕ) {p : Pass} {row : Row} → StillLaid words p.laid → IsAsRead p row
    → IsReadIn p.rows (slots_in words) (slot_at (layout_in words) row.index) row
read_now words {p} {row} still r = subst (λ (l : List ℕ). IsReadIn p.rows (slots_of l) (slot_at l row.index) row) (sym (still r.layout r.laid)) r.in_slot

-- what was read of a row and of the one before it is read still
pub before_on : {a b : Pass} (slots : List ℕ) (slot : ℕ) (kind : Option Kind) → KeepsRead a b → IsReadBefore a.rows slots slot kind
    → IsReadBefore b.rows slots slot kind
before_on slots slot kind k r = ⊎_elim (λ t. inl t) (λ t. inr (t.0, t.1, t.2, k.rows t.0 t.2 t.3, t.4)) r

-- and of the one behind it
pub behind_on : {a b : Pass} (slots : List ℕ) (slot next : ℕ) (kind : Option Kind) → KeepsRead a b → IsReadBehind a.rows slots slot next kind
    → IsReadBehind b.rows slots slot next kind
behind_on slots slot next kind k r = ⊎_elim (λ t. inl t) (λ t. inr (t.0, t.1, k.rows next t.1 t.2, t.3)) r

-- a row that is as it was read stays so while more is read
abbrev pub as_read_on : {a b : Pass} {row : Row} → KeepsRead a b → IsAsRead a row → IsAsRead b row
as_read_on {row} k r = record {
  layout = r.layout;
  laid = k.laid r.layout r.laid;
  block = let lt = r.block in let same = k.blocks in omega arith;
  place = r.place;
  in_slot =
      let i = r.in_slot in
      record {
        there = i.there;
        word = i.word;
        read = k.rows (slot_at r.layout row.index) i.word i.read;
        lo = i.lo;
        kind = i.kind;
        hi = ⊎_elim (λ t. inl (t.0, t.1, t.2, k.rows t.0 t.2 t.3, t.4)) (λ t. inr t) i.hi;
      };
}

-- a row that is as it was read is the row of a held page between its ends
pub shows_row : (seat : SeatState Pass) {held : Option Held} (page : ℕ) {row : Row} → seat.held ≡ held → IsHeldPages held → IsAtRest seat.pass
    → IsAsRead seat.pass row → IsHeldPage held page → row.lo ≤ page → page < row.hi → row.hi ≤ LIMIT → Shows seat (RowIs held page row)
shows_row seat {held} page same pages rest read here from until limit start history state words m =
    let part = m.running.parts seat.number m.pass m.own in
    let granted : get_elem? m.grants seat.number ≡ some held = m.granted ∙ ap some same in
    let holds : HoldsPages m.grants seat.number = (here.0, granted ∙ ap some here.1, pages here.0 here.1) in
    let rested : IsAtRest m.pass = m.read.pending ∙ rest in
    let rows : RowsStandFor state m.passes words = m.running.rows (nobody_plans (here_of m) rested holds) in
    row_is_still held rows.2 page ((m.backed seat.number m.pass m.own).rows held granted) (read_now words part.laid (as_read_on m.read read)) here from until
    limit pages state (shows_held (here_of m) rested held granted rows.1)

-- one step on a client word raises the count of steps by one
pub step_taken : (a b : SeatState Pass) (place : ℕ) (p : Pass) → IsClientStep a place p b → b.trace.taken ≡ a.trace.taken + 1
step_taken a b place p s = ap (λ (r : Record). r.taken) s.trace

-- and is counted since the caller's last draw
step_counted : {a b : SeatState Pass} {place : ℕ} {p : Pass} → IsClientStep a place p b → p.since ≡ a.pass.since + 1 → IsCountedOn a b
step_counted {a} {b} {place} {p} s one =
    let t = step_taken a b place p s in let e : b.pass.since ≡ p.since = ap (λ (q : Pass). q.since) s.pass in omega arith

-- a step that keeps what was seen, numbered and read is a reading
pub step_reads : {a b : SeatState Pass} {place : ℕ} {p : Pass} → IsClientStep a place p b → p.start ≡ a.pass.start → p.seen ≡ a.pass.seen
    → p.mine ≡ a.pass.mine → p.looks ≡ a.pass.looks → p.since ≡ a.pass.since + 1 → KeepsRead a.pass p → IsReading a b
step_reads {a} {b} {place} {p} s x y z l n k = record {
  table = s.table;
  number = s.number;
  held = s.held;
  pools = s.pools;
  further = s.further;
  start = ap (λ (q : Pass). q.start) s.pass ∙ x;
  seen = ap (λ (q : Pass). q.seen) s.pass ∙ y;
  mine = ap (λ (q : Pass). q.mine) s.pass ∙ z;
  looks = ap (λ (q : Pass). q.looks) s.pass ∙ l;
  taken = let t = step_taken a b place p s in omega arith;
  counted = step_counted s n;
  asked = ap (λ (r : Record). r.asked) s.trace;
  read = subst (KeepsRead a.pass) (sym s.pass) k;
}

-- what was read before is still read where rows are noted
pub read_behind : (front rows : List ReadRow) (index word : ℕ) → HasRead rows index word → HasRead (front ++ rows) index word
read_behind [] rows index word has = has
read_behind (r ∷ front) rows index word has = inr (read_behind front rows index word has)

-- a load of a row is one
pub row_reads : (a b : SeatState Pass) (index word : ℕ) → IsClientStep a (3 + index) (after_row index word a.pass) b → IsReading a b
row_reads a b index word s = step_reads s refl refl refl refl refl
    (record { laid = λ layout e. e; rows = λ i w h. inr h; sequence = λ n e. e; pending = refl; blocks = refl })

-- what a range has shown lasts while the caller reads more rows
pub shows_on : {a b : SeatState Pass} (what : List ℕ → List Area → Type 0) → IsReading a b → Shows a what → Shows b what
shows_on {a} {b} what r shows start history state words m = shows start history state words (record {
  grants = m.grants;
  passes = m.passes;
  pass = m.pass;
  running = m.running;
  backed = m.backed;
  exclusive = m.exclusive;
  granted = ap (get_elem? m.grants) (sym r.number) ∙ (m.granted ∙ ap some r.held);
  own = ap (get_elem? m.passes) (sym r.number) ∙ m.own;
  read = keeps_on a.pass b.pass m.pass r.read m.read;
})
