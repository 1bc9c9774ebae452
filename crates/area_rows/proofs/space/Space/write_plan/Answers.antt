use Rattle.std.proofs.Common.{ℕ, List, ◌∙◌, length, ap, sym, subst, arith}
use Rattle.range_rw.specs.Contract.{TableShape}
use Rattle.area_guard.specs.Rows.{keeps_by, blocks_by, room_of}
use Rattle.plan_words.specs.Writing.{IsWritten}
use Rattle.area_rows.specs.Callers.{CallerView, HasToWrite}
use Rattle.area_rows.proofs.Written.{IsReady, ready}
use Rattle.area_rows.proofs.space.Space.write_plan.Goals.{After-as_slice}
use Rattle.area_rows.proofs.space.Space.write_plan.Goals as goal

-- what the caller has to write its seat has to write
is_ready : (c : After-as_slice) → IsReady c.self.inside.table c.self.inside.blocks c.caller.inside.count c.caller.inside.cut.at c.caller.inside.cut.gone
    c.as_slice.result.now c.caller.inside.seat
is_ready c =
    let v = c.caller.inside in
    let has : HasToWrite (record { seat = v.seat; left = v.left; count = v.count; cut = v.cut; more = v.plan.items; change = v.change }) =
    subst HasToWrite (sym c.caller.view_is) c.requires.planned in
    let table = ap (λ (x : CallerView). x.seat.table) c.caller.view_is ∙ (c.requires.table ∙ sym (ap (λ (t : TableShape). t.table) c.self.view_is)) in
    subst (λ (l : List ℕ). IsReady c.self.inside.table c.self.inside.blocks v.count v.cut.at v.cut.gone l v.seat) (sym c.as_slice.ensures.value)
    (ready c.self.inside.table c.self.invariant.0 c.self.invariant.1 c.self.invariant.2 table c.caller.invariant.7 has)

pub write_splice-requires : goal.write_splice-requires
write_splice-requires c =
    let r = is_ready (goal.at.write_splice-requires c).After-as_slice in
    record {
      writes = r.writes;
      blocks = r.blocks;
      stands = r.stands;
      plan = r.plan;
      count = r.count_is;
      counted = r.counted;
      there = r.there;
      inside = r.inside;
      grows = r.grows;
      stays = r.stays;
      fits = r.fits;
      some = r.some;
      low = r.low;
      low_after = r.low_after;
    }

-- it is a caller still
pub invariant_of-caller : goal.invariant_of-caller
invariant_of-caller c =
    let w = c.write_splice.ensures.written in let i = c.caller.invariant in let most = w.most in let blocks = w.blocks in let room = ap room_of blocks in
    let table = ap blocks_by w.table in let few = i.3 in let wide = i.4 in let is = i.7 in
    let limit = i.8 in let mine = ap length w.mine in (
      w.number ∙ i.0,
      λ keeps. i.1 keeps ∙ sym w.mine,
      i.2,
      omega arith,
      omega arith,
      λ h e. i.5 h (sym w.held ∙ e),
      λ none. w.rest,
      omega arith,
      omega arith,
      i.9 ∙ ap keeps_by (sym w.table),
      w.keeps ∙ (i.10 ∙ ap keeps_by (sym w.table)),
    )

-- all is written
pub returns-clause-written : goal.returns-clause-written
returns-clause-written c = subst (λ (v : CallerView). IsWritten v.seat c.write_splice.new.seat) c.caller.view_is c.write_splice.ensures.written

-- in so many steps
pub returns-clause-steps : goal.returns-clause-steps
returns-clause-steps c =
    let steps = c.write_splice.ensures.steps in
    let taken = ap (λ (v : CallerView). v.seat.trace.taken) c.caller.view_is in
    let more = ap length (c.as_slice.ensures.value ∙ ap (λ (v : CallerView). v.more) c.caller.view_is) in
    let table = ap (λ (t : TableShape). blocks_by t.table) c.self.view_is in
    let blocks = c.self.invariant.1 in omega arith

-- and in one where nothing goes and nothing comes
pub returns-clause-none : goal.returns-clause-none
returns-clause-none c = λ gone none.
    let cut = ap (λ (v : CallerView). v.cut.gone) c.caller.view_is in
    let taken = ap (λ (v : CallerView). v.seat.trace.taken) c.caller.view_is in
    let more = ap length (c.as_slice.ensures.value ∙ ap (λ (v : CallerView). v.more) c.caller.view_is) in
    let steps = c.write_splice.ensures.none (omega arith) (omega arith) in omega arith
