use Rattle.std.proofs.Common.{◌≡◌, ◌≤◌, ◌+◌, ℕ, List, ◌∙◌, ap, sym, refl, subst, arith}
use Rattle.std.specs.Prelude.{Option, Some, unwrap_or}
use Rattle.atomic_table.specs.Seated.{TableId}
use Rattle.page_types.specs.Pages.{page_of}
use Rattle.lock_core.specs.declared.range.Held.{Held}
use Rattle.area_guard.specs.Rows.{slots_of, slot_at, IsOneOf, IsInReach, IsNextOf, IsPreviousOf, blocks_by}
use Rattle.area_guard.specs.Reads.{layout_by}
use Rattle.plan_words.specs.Reading.{reading_on}
use Rattle.area_rows.specs.Callers.{CallerView, IsReading, IsPlaceOf, Shows, RowIs}
use Rattle.area_rows.proofs.Neighbours.{before_of, behind_of, previous_in, next_in}
use Rattle.area_rows.proofs.AreaChoices.{IsHeldRow, plan_says}
use Rattle.area_rows.proofs.Reading.{as_read_on, before_on, shows_on}
use Rattle.area_rows.proofs.space.Space.plan_area.Goals as goal

-- the caller has noted the layout of the row
pub beside-beside-requires-clause-laid : goal.beside-beside-requires-clause-laid
beside-beside-requires-clause-laid c = let r = c.requires.read in r.laid ∙ ap (λ (l : List ℕ). Some l) (sym (ap layout_by r.laid))

pub beside-beside-requires-clause-block : goal.beside-beside-requires-clause-block
beside-beside-requires-clause-block c = c.requires.read.block

pub beside-beside-requires-clause-there : goal.beside-beside-requires-clause-there
beside-beside-requires-clause-there c = let r = c.requires.read in subst (λ (l : List ℕ). IsPlaceOf l c.args.row.now.index) (sym (ap layout_by r.laid)) r.place

-- the slots beside it are in reach
pub kind_in-before-requires-clause-reach : goal.kind_in-before-requires-clause-reach
kind_in-before-requires-clause-reach c = λ place is.
    let b = c.beside-beside.ensures in
    subst (λ (t : TableId). IsInReach (blocks_by t) place) (sym b.reading.table)
    (b.reach place (previous_in (slots_of (layout_by c.args.caller.now.seat.pass.laid)) c.beside-beside.result.own place is b.before))

pub kind_in-behind-requires-clause-reach : goal.kind_in-behind-requires-clause-reach
kind_in-behind-requires-clause-reach c = λ place is.
    let b = c.beside-beside.ensures in
    subst (λ (t : TableId). IsInReach (blocks_by t) place) (sym (c.kind_in-before.ensures.reading.table ∙ b.reading.table))
    (b.reach place (next_in (slots_of (layout_by c.args.caller.now.seat.pass.laid)) c.beside-beside.result.own place is b.behind))

-- the way that was chosen, by the row and the kinds beside it, is what a plan over an area promises
pub returns-clause-plan : goal.returns-clause-plan
returns-clause-plan c =
    let r = c.requires in let n = c.beside-beside.ensures in let b = c.kind_in-before.ensures in let d = c.kind_in-behind.ensures in
    let one = c.kind_in-before.new.caller.seat in let two = c.kind_in-behind.new.caller.seat in let row = c.args.row.now in
    let place = c.beside-beside.result in let l = r.read.layout in
    let on : IsReading c.args.caller.now.seat two = reading_on _ _ _ (reading_on _ _ _ n.reading b.reading) d.reading in
    let layout : layout_by c.args.caller.now.seat.pass.laid ≡ l = ap layout_by r.read.laid in
    let slot : place.own ≡ slot_at l row.index = n.own ∙ ap (λ (l : List ℕ). slot_at l row.index) layout in
    plan_says _ (subst (λ (v : CallerView). IsHeldRow v.seat c.args.span row c.args.kind place.own c.unwrap_or.result c.kind_in-before.result
    c.kind_in-behind.result c.args.addr c.args.len c.args.prot) (sym c.caller.view_is) (record {
      held = on.held ∙ r.held;
      rest = on.read.pending ∙ r.rest;
      round = r.round;
      limit = r.limit;
      is_kind = r.kind;
      read = as_read_on on.read r.read;
      slot_is = slot;
      reach = λ at is. subst (λ (t : TableId). IsInReach (blocks_by t) at) (sym on.table)
          (n.reach at (subst (λ (l : List ℕ). IsOneOf (slots_of l) at) (sym layout) is));
      read_before = before_on (slots_of l) (slot_at l row.index) c.kind_in-before.result d.reading.read (before_of one.pass.rows (slots_of l)
          (slot_at l row.index) place.before c.kind_in-before.result (coe 0 1 (i. IsPreviousOf (slots_of (layout i)) (slot i) place.before) n.before) b.read);
      read_behind = behind_of two.pass.rows (slots_of l) (slot_at l row.index) c.unwrap_or.result place.behind c.kind_in-behind.result
          (λ m is. c.unwrap_or.ensures ∙ ap (λ (o : Option ℕ). unwrap_or o 0) is)
          (coe 0 1 (i. IsNextOf (slots_of (layout i)) (slot i) place.behind) n.behind) d.read;
      undecided = r.undecided;
      some_page = let o = c.of_valid.result.ordered in let lo = c.of_valid.ensures.lo in let hi = c.of_valid.ensures.hi in omega arith;
      from = r.from;
      until = r.until;
      shows = subst (λ (h : Option Held). Shows two (RowIs h (page_of c.args.addr) row)) (sym on.held)
          (shows_on (RowIs c.args.caller.now.seat.held (page_of c.args.addr) row) on r.shows);
      named_kind = r.named_kind;
      named = r.named;
    })) c.choose-plan.result refl (record { span_is = refl; lo_is = c.of_valid.ensures.lo; hi_is = c.of_valid.ensures.hi; old_is = refl; new_is = refl })
    c.choose-plan.ensures c.change_in-caller-inside.ensures

-- all loads are a reading
pub returns-clause-reading : goal.returns-clause-reading
returns-clause-reading c =
    let one = c.kind_in-before.new.caller.seat in
    reading_on _ _ _ c.beside-beside.ensures.reading (reading_on _ one _ c.kind_in-before.ensures.reading
    (subst (λ (v : CallerView). IsReading one v.seat) (sym c.caller.view_is) c.kind_in-behind.ensures.reading))

-- and at most five steps
pub returns-clause-loads : goal.returns-clause-loads
returns-clause-loads c =
    let n = c.beside-beside.ensures.loads in let b = c.kind_in-before.ensures.loads in let d = c.kind_in-behind.ensures.loads in
    subst (λ (v : CallerView). v.seat.trace.taken ≤ c.args.caller.now.seat.trace.taken + 5) (sym c.caller.view_is) (omega arith)
