use Rattle.std.proofs.Common.{◌∙◌, sym, subst}
use Rattle.page_types.specs.declared.calls.Call.{Call}
use Rattle.page_types.specs.declared.calls.Call.TheVariants.{Protect}
use Rattle.page_types.specs.Pages.{page_of, end_page}
use Rattle.area_rows.specs.Called.{IsCalled}
use Rattle.area_protect.specs.Protects.{AskedUnder}
use Rattle.area_protect.proofs.Asking.{asked_pages, area_asked}
use Rattle.area_protect.proofs.Looking.{called_after}
use Rattle.area_protect.proofs.beside.beside_counting.Goals as goal

-- a change over its area is the call, and asked for its pages first
pub returns-in-Done : goal.returns-in-Done
returns-in-Done g c =
    let t = c.in-Done.ensures.made in let q = c.args.request in let pages = c.of_valid-pages in
    record {
      called = t.0;
      asks = area_asked (page_of q.addr) (end_page q.addr q.len) _ t.1
          (asked_pages q pages.result _ _ (pages.ensures.lo, pages.ensures.hi) c.tries.ensures.asks);
    }

-- the call under everything is one call from before the attempts, and asked for everything behind them
pub returns-in-Whole : goal.returns-in-Whole
returns-in-Whole g c =
    let b = c.tries.new.caller in let w = c.call_whole in let q = c.args.request in let pages = c.of_valid-pages in
    let called : IsCalled b q.line (Protect q.addr q.len q.prot) w.result w.new.caller =
    subst (λ (call : Call). IsCalled b q.line call w.result w.new.caller) c.call.ensures w.ensures.called in
    record {
      called = called_after b.seat.held c.in-Whole.ensures.made (c.tries.ensures.free ∙ sym c.requires.caller.free) called;
      asks = subst (λ u. AskedUnder (page_of q.addr) (end_page q.addr q.len) u c.args.caller.now.seat.trace.asked w.new.caller.seat.trace.asked)
          (sym w.ensures.under)
          (b.seat.trace.asked, asked_pages q pages.result _ _ (pages.ensures.lo, pages.ensures.hi) c.tries.ensures.asks, w.ensures.asks);
    }
