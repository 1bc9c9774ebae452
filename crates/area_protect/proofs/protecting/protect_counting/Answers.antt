use Rattle.std.proofs.Common.{ap, ◌∙◌, [], refl, sym, subst}
use Rattle.page_types.specs.declared.calls.Call.{Call}
use Rattle.page_types.specs.declared.calls.Call.TheVariants.{Protect}
use Rattle.area_rows.specs.Rows.{keeps_by}
use Rattle.area_rows.specs.Called.{IsCalled}
use Rattle.area_protect.proofs.Asking.{asked_pages}
use Rattle.area_protect.proofs.Looking.{called_after, cause_of, found_of, first_asked}
use Rattle.area_protect.proofs.protecting.protect_counting.Goals as goal

-- a change over its area is the call
pub returns-in-Done-clause-protected : goal.returns-in-Done-clause-protected
returns-in-Done-clause-protected g c =
    let a = c.args.caller.now in let b = c.attempts.new.caller in let q = c.args.request in let t = c.in-Done.ensures.attempt in
    record {
      called = t.0;
      keeps = ap keeps_by c.requires.caller.table_is ∙ c.requires.keeps;
      way = (c.requires.asked.undecided, t.1, t.2);
      looks = first_asked a.seat b.seat b.seat q c.of_valid-pages.result
          (c.of_valid-pages.ensures.lo, c.of_valid-pages.ensures.hi) c.attempts.ensures.first ([], refl);
    }

-- it asked for its pages first
pub returns-in-Done-clause-asks : goal.returns-in-Done-clause-asks
returns-in-Done-clause-asks g c = asked_pages c.args.request c.of_valid-pages.result c.args.caller.now.seat.trace.asked
    c.attempts.new.caller.seat.trace.asked (c.of_valid-pages.ensures.lo, c.of_valid-pages.ensures.hi) c.attempts.ensures.asks

-- the call under everything is one call from before the attempts, and their reason is its cause
pub returns-in-Whole-clause-protected : goal.returns-in-Whole-clause-protected
returns-in-Whole-clause-protected g c =
    let a = c.args.caller.now in let b = c.attempts.new.caller in let w = c.call_whole-entry in let q = c.args.request in let t = c.in-Whole.ensures.attempt in
    let called : IsCalled b q.line (Protect q.addr q.len q.prot) w.result w.new.caller =
    subst (λ (call : Call). IsCalled b q.line call w.result w.new.caller) c.call.ensures w.ensures.called in
    record {
      keeps = ap keeps_by c.requires.caller.table_is ∙ c.requires.keeps;
      called = called_after b.seat.held t.0 (c.attempts.ensures.free ∙ sym c.requires.caller.free) called;
      way = (
        c.requires.asked.undecided,
        w.ensures.under,
        cause_of a q c.in-Whole.cause
            (ap keeps_by (t.0.table ∙ c.requires.caller.table_is) ∙ c.requires.keeps) t.1 called,
      );
      looks = (
        first_asked a.seat b.seat w.new.caller.seat q c.of_valid-pages.result
            (c.of_valid-pages.ensures.lo, c.of_valid-pages.ensures.hi) c.attempts.ensures.first ([], w.ensures.looks),
        found_of a b w.new.caller q c.in-Whole.cause t.1 w.ensures.looks,
      );
    }

-- and then for everything
pub returns-in-Whole-clause-asks : goal.returns-in-Whole-clause-asks
returns-in-Whole-clause-asks g c = (
  c.attempts.new.caller.seat.trace.asked,
  asked_pages c.args.request c.of_valid-pages.result c.args.caller.now.seat.trace.asked
      c.attempts.new.caller.seat.trace.asked (c.of_valid-pages.ensures.lo, c.of_valid-pages.ensures.hi) c.attempts.ensures.asks,
  c.call_whole-entry.ensures.asks,
)
