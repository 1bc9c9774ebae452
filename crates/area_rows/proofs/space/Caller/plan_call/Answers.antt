use Rattle.std.proofs.Common.{ℕ, ◌∙◌, List, length, ap, sym, subst, arith}
use Rattle.row_plans.specs.RowLists.{areas_from}
use Rattle.row_plans.specs.Plans.{spliced, IsPlan}
use Rattle.row_plans.specs.Loads.{TakesLoads}
use Rattle.row_blocks.specs.declared.positions.Position.{Position}
use Rattle.area_guard.specs.Rows.{keeps_by, blocks_by, room_of}
use Rattle.area_guard.specs.Reads.{known_rows, known_words}
use Rattle.plan_words.specs.Places.{number_at}
use Rattle.plan_words.specs.Reading.{same_known, same_numbers, same_places, same_rows}
use Rattle.plan_words.proofs.Plans.{plan_stays}
use Rattle.area_rows.specs.Callers.{CallerView, IsReading, place_loads}
use Rattle.area_rows.proofs.Written.{may_load_in}
use Rattle.area_rows.proofs.space.Caller.plan_call.Goals as goal

-- the caller's seat may load all rows of the space
pub plan_rows-planned-requires-clause-may : goal.plan_rows-planned-requires-clause-may
plan_rows-planned-requires-clause-may c =
    may_load_in c.space.view_is c.self.view_is c.space.invariant.0 c.space.invariant.1 c.space.invariant.2 c.self.invariant.7 c.requires.may

-- its list has room for SPARE rows more than there are
pub plan_rows-planned-requires-clause-room : goal.plan_rows-planned-requires-clause-room
plan_rows-planned-requires-clause-room c =
    let may = may_load_in c.space.view_is c.self.view_is c.space.invariant.0 c.space.invariant.1 c.space.invariant.2 c.self.invariant.7 c.requires.may in
    let counted = may.counted in let fits = may.fits in let room = c.self.invariant.4 in let same = ap room_of may.blocks_are in omega arith

-- what the loads leave of the seat makes a caller still
pub invariant_of-self : goal.invariant_of-self
invariant_of-self c =
    let l = c.plan_rows-planned.ensures.loaded in let r = l.reading in let i = c.self.invariant in let most = l.most in let blocks = l.blocks in
    let room = ap room_of blocks in let table = ap blocks_by r.table in let few = i.3 in let wide = i.4 in let is = i.7 in let limit = i.8 in
    let mine = ap length r.mine in
    let grown = c.plan_rows-planned.ensures.room in (
      r.number ∙ i.0,
      λ keeps. i.1 keeps ∙ sym r.mine,
      i.2,
      omega arith,
      omega arith,
      λ h e. i.5 h (sym r.held ∙ e),
      λ none. r.read.pending ∙ i.6 (sym r.held ∙ none),
      omega arith,
      omega arith,
      i.9 ∙ ap keeps_by (sym r.table),
      l.keeps ∙ (i.10 ∙ ap keeps_by (sym r.table)),
    )

-- all that was done is a reading
pub returns-clause-reading : goal.returns-clause-reading
returns-clause-reading c = subst (λ (v : CallerView). IsReading v.seat c.plan_rows-planned.new.hand) c.self.view_is c.plan_rows-planned.ensures.loaded.reading

-- the caller knows all rows, and has a splice of them
pub returns-clause-known : goal.returns-clause-known
returns-clause-known c =
    let old = c.self.inside.seat in let p = c.plan_rows-planned.result in let more = c.plan_rows-planned.new.new.items in
    let loaded = c.plan_rows-planned.ensures.loaded in
    let may = may_load_in c.space.view_is c.self.view_is c.space.invariant.0 c.space.invariant.1 c.space.invariant.2 c.self.invariant.7 c.requires.may in
    let next = same_known c.space.inside.table c.space.inside.blocks c.args.count old c.plan_rows-planned.new.hand may loaded in
    let number = same_numbers old c.plan_rows-planned.new.hand loaded p.cut.at in
    let long = ap length next.1 in let at = c.plan_rows-planned.ensures.at in let there = c.plan_rows-planned.ensures.there in
    record {
      rows = next.0.knows;
      list = next.0.list;
      counted = next.0.counted;
      at = omega arith;
      there = omega arith;
      grows = c.plan_rows-planned.ensures.few;
      stays = λ some_row.
          let s = plan_stays (known_rows old.pass) more c.args.call.now p.reply p.rows (number_at old.pass p.cut.at) p.cut.gone may.list
          c.plan_rows-planned.ensures.plan there (omega arith) in
          omega arith;
    }

-- and the splice is the plan of the call
pub returns-clause-plan : goal.returns-clause-plan
returns-clause-plan c =
    let old = c.self.inside.seat in let loaded = c.plan_rows-planned.ensures.loaded in let p = c.plan_rows-planned.result in
    let rows = same_rows old c.plan_rows-planned.new.hand loaded in
    let places = same_places old c.plan_rows-planned.new.hand loaded in
    subst (λ (z : List ℕ × (Position → ℕ)). IsPlan c.args.call.now p.reply p.rows (spliced z.1 z.0 p.cut c.plan_rows-planned.new.new.items) (areas_from z.0))
    (λ i. (sym rows i, sym places i)) c.plan_rows-planned.ensures.plan

-- a refused call leaves the rows
pub returns-clause-leaves : goal.returns-clause-leaves
returns-clause-leaves c = c.plan_rows-planned.ensures.refused

-- it takes the loads of the plan on the rows that are known
pub returns-clause-loads : goal.returns-clause-loads
returns-clause-loads c =
    let old = c.self.inside.seat in let new = c.plan_rows-planned.new.hand in
    let loaded = c.plan_rows-planned.ensures.loaded in
    let may = may_load_in c.space.view_is c.self.view_is c.space.invariant.0 c.space.invariant.1 c.space.invariant.2 c.self.invariant.7 c.requires.may in
    let rows = same_rows old new loaded in let blocks = loaded.blocks ∙ may.blocks_are in
    subst (λ (v : CallerView). TakesLoads (known_rows new.pass) (place_loads new.pass.blocks (known_words new.pass)) c.args.call.now v.seat.trace.taken
    new.trace.taken) c.self.view_is
    (subst (λ (z : List ℕ × ℕ × List ℕ). TakesLoads z.0 (place_loads z.1 z.2) c.args.call.now old.trace.taken new.trace.taken)
    (λ i. (sym rows i, sym blocks i, sym loaded.same i)) c.plan_rows-planned.ensures.loads)
