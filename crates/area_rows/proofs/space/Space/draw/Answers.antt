use Rattle.std.specs.Prelude.{Option}
use Rattle.std.proofs.Common.{◌≡◌, ℕ, List, ◌∙◌, sym, ap, subst}
use Rattle.range_rw.specs.Contract.{SeatState}
use Rattle.row_plans.specs.declared.planning.Cut.{Cut}
use Rattle.space_model.specs.declared.areas.Area.{Area}
use Rattle.space_model.specs.declared.entries.Entry.{Entry}
use Rattle.area_guard.specs.declared.guard.Change.{Change}
use Rattle.area_guard.specs.declared.guard.Pass.{Pass}
use Rattle.area_guard.specs.Rows.{keeps_by}
use Rattle.area_guard.specs.History.{HoldsFor, IsRight, Leaves, pending_of}
use Rattle.area_guard.specs.Replies.{reply_named}
use Rattle.row_blocks.specs.declared.positions.Position.{Position}
use Rattle.area_rows.specs.Callers.{CallerView, Shows, IsDrawn, splice_of, plan_of}
use Rattle.area_rows.proofs.Stepping.{writes_plan, writes_row}
use Rattle.area_rows.proofs.space.Space.draw.Goals.{After-draw_as}
use Rattle.area_rows.proofs.space.Space.draw.Goals as goal

-- what the seat may number is what the caller may
pub draw_as-requires-clause-right : goal.draw_as-requires-clause-right
draw_as-requires-clause-right c =
    let more : c.as_slice.result.now ≡ c.args.caller.now.more = c.as_slice.ensures.value ∙ ap (λ (v : CallerView). v.more) c.caller.view_is in
    let cut : c.caller.inside.cut ≡ c.args.caller.now.cut = ap (λ (v : CallerView). v.cut) c.caller.view_is in
    let seat : c.caller.inside.seat ≡ c.args.caller.now.seat = ap (λ (v : CallerView). v.seat) c.caller.view_is in
    let change : c.caller.inside.change ≡ c.args.caller.now.change = ap (λ (v : CallerView). v.change) c.caller.view_is in
    subst (λ (z : SeatState Pass × Cut Position × List ℕ × Option Change). Shows z.0
    (λ (words : List ℕ) (state : List Area). (left : List Area) × IsRight state c.args.call c.args.reply c.args.under left
    × Leaves state c.args.under (pending_of c.args.under (splice_of z.0 z.1 z.2) z.3) left))
    (λ i. (sym seat i, sym cut i, sym more i, sym change i)) c.requires.right

-- the entry that the seat drew
abbrev entry : After-draw_as → Entry
entry c = record {
  number = c.draw_as.result;
  worker = c.caller.inside.worker;
  line = c.args.line;
  call = c.args.call;
  reply = c.args.reply;
  under = c.args.under;
}

-- what the seat drew is what the caller did
drawn_as : (c : After-draw_as) → IsDrawn c.args.caller.now.seat (entry c)
    (pending_of c.args.under (plan_of c.args.caller.now) c.args.caller.now.change) c.draw_as.new.seat
drawn_as c =
    let more : c.as_slice.result.now ≡ c.args.caller.now.more = c.as_slice.ensures.value ∙ ap (λ (x : CallerView). x.more) c.caller.view_is in
    subst (λ (z : CallerView × List ℕ).
    IsDrawn z.0.seat (entry c) (pending_of c.args.under (splice_of z.0.seat z.0.cut z.1) z.0.change) c.draw_as.new.seat)
    (λ i. (c.caller.view_is i, more i)) c.draw_as.ensures.drawn

-- the reply has named bits alone
pub returns-clause-named : goal.returns-clause-named
returns-clause-named c = let d = c.draw_as.ensures.drawn in let n = d.numbered in
    reply_named n.state n.left c.args.call c.args.reply d.moment.running.named n.right.answers

-- under everything the caller has its plan to write
pub returns-clause-write : goal.returns-clause-write
returns-clause-write c = λ whole known.
    let v = c.args.caller.now in
    let drawn = drawn_as (goal.at.returns-clause-write c).After-draw_as in
    let held = subst (HoldsFor (keeps_by v.seat.table) v.seat.held) whole c.requires.held in
    let right = c.requires.right _ _ _ drawn.words drawn.moment in
    let leaves = subst (λ u. Leaves drawn.numbered.state u (pending_of u (plan_of v) v.change) right.0) whole right.2 in
    writes_plan (record {
      count = ap (λ (x : CallerView). x.count) c.caller.view_is;
      cut = ap (λ (x : CallerView). x.cut) c.caller.view_is;
      more = ap (λ (x : CallerView). x.more) c.caller.view_is;
      change = ap (λ (x : CallerView). x.change) c.caller.view_is;
    }) held drawn whole known leaves

-- over an area the caller has the row to store that it has chosen
pub returns-clause-store : goal.returns-clause-store
returns-clause-store c = λ span change over chosen round.
    writes_row c.args.caller.now _ span (ap (λ (x : CallerView). x.change) c.caller.view_is) (drawn_as (goal.at.returns-clause-store c).After-draw_as) over
    chosen round
