use Rattle.std.proofs.Common.{arith, ap, sym, subst, ◌∙◌, ◌<◌}
use Rattle.std.specs.Prelude.{Option}
use Rattle.area_rows.specs.Seated.{TableId}
use Rattle.lock_core.specs.declared.range.Held.{Held}
use Rattle.space_model.specs.declared.entries.Under.TheVariants.{Reader}
use Rattle.range_rw.specs.Contract.{Record}
use Rattle.area_rows.specs.History.{HoldsFor}
use Rattle.area_rows.specs.Rows.{keeps_by}
use Rattle.area_rows.specs.Reads.{IsHeldPage}
use Rattle.page_fault.proofs.Numbering.{holds_page, shows_fault, called_holding}
use Rattle.page_fault.proofs.faults.answer_held.Goals as goal

-- the page is held
pub row_of-row-requires-clause-held : goal.row_of-row-requires-clause-held
row_of-row-requires-clause-held g c =
    let order = c.args.span.ordered in
    holds_page (keeps_by c.args.caller.now.seat.table) c.args.caller.now.seat.held c.args.span (omega arith) c.requires.held

-- as the entry names it
pub number-requires-clause-held : goal.number-requires-clause-held
number-requires-clause-held g c =
    let r = c.row_of-row.ensures.reading in
    subst (λ (z : TableId × Option Held). HoldsFor (keeps_by z.0) z.1 (Reader c.args.span)) (λ i. (sym r.table i, sym r.held i)) c.requires.held

-- the reply that the held page's row gives may be numbered
pub number-requires-clause-right : goal.number-requires-clause-right
number-requires-clause-right g c =
    let r = c.requires in let row = c.row_of-row.ensures in let order = c.args.span.ordered in
    shows_fault c.row_of-row.new.caller c.args.caller.now.seat.held c.row_of-row.result c.args.call c.args.access
    c.access_reply-reply.result c.args.span row.shows
    (holds_page (keeps_by c.args.caller.now.seat.table) c.args.caller.now.seat.held c.args.span (omega arith) r.held) row.from
    row.until r.undecided r.access c.access_reply-reply.ensures

-- reading the row and the draw are one call
pub returns-clause-called : goal.returns-clause-called
returns-clause-called g c =
    let row = c.row_of-row.ensures in let n = c.number.ensures in
    called_holding c.args.caller.now c.row_of-row.new.caller c.number.new.caller c.args.span row.reading row.left n.line n.call
    n.under n.named n.drawn n.left

-- the page is held still
pub returns-clause-held : goal.returns-clause-held
returns-clause-held g c = c.number.ensures.drawn.numbered.held ∙ c.row_of-row.ensures.reading.held

-- none of them asks for a range
pub returns-clause-asked : goal.returns-clause-asked
returns-clause-asked g c = ap (λ (t : Record). t.asked) c.number.ensures.drawn.trace ∙ c.row_of-row.ensures.reading.asked

-- or takes a node
pub returns-clause-pools : goal.returns-clause-pools
returns-clause-pools g c = c.number.ensures.drawn.pools ∙ c.row_of-row.ensures.reading.pools

-- of any list
pub returns-clause-further : goal.returns-clause-further
returns-clause-further g c = c.number.ensures.drawn.further ∙ c.row_of-row.ensures.reading.further

-- all steps that read are counted, and the draw keeps their count
pub returns-clause-took : goal.returns-clause-took
returns-clause-took g c =
    let r = c.row_of-row.ensures in let all = r.reading.counted in let few = r.bound in let took = c.number.ensures.drawn.took in omega arith

pub returns-clause-since : goal.returns-clause-since
returns-clause-since g c = c.number.ensures.drawn.since
