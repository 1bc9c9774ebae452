use Rattle.std.proofs.Common.{refl, inr, ap, arith}
use Rattle.std.proofs.lemmas.Result.{err_from_is_err_and}
use Rattle.trace_driver.specs.declared.status.EarlyEnd.TheVariants.{Above}
use Rattle.trace_driver.specs.declared.status.Which.TheVariants.{Rows}
use Rattle.trace_driver.proofs.OpeningLemmas.{opens_in_order}
use Rattle.trace_driver.proofs.ScriptLemmas.{head_of, ends_by_trace}
use Rattle.trace_driver.proofs.script.script_of.Goals as goal

-- what ends the trace behind the opening ends the run
pub returns-in_err-trace-clause-stopped : goal.returns-in_err-trace-clause-stopped
returns-in_err-trace-clause-stopped c =
    let p = err_from_is_err_and c.from_residual-in_err-trace.result c.from_residual-in_err-trace.ensures.1 in
    rw (p.1, p.2) (ends_by_trace c.args.options c.args.bytes.now _ _ _ _ _ c.in_ok-opening.ensures.opens c.in_err-trace.ensures.stopped)

-- the areas of the opening are in order
pub of_pieces-requires-clause-in_order : goal.of_pieces-requires-clause-in_order
of_pieces-requires-clause-in_order c = rw c.deref.ensures.value (opens_in_order c.args.options.opening _ _ _ _ _ c.in_ok-opening.ensures.opens)

-- an opening with too many rows ends the run by its count
pub returns-then-rows-gt-ROWS-clause-stopped : goal.returns-then-rows-gt-ROWS-clause-stopped
returns-then-rows-gt-ROWS-clause-stopped c = inr (inr (inr (record {
  head = head_of c.args.options.opening c.args.bytes.now _ _ _ _ c.in_ok-opening.ensures.opens;
  lines = c.in_ok-trace.trace.lines.items;
  passed = c.in_ok-trace.trace.skipped;
  reads = c.in_ok-trace.ensures.read;
  start = c.in-Ok.space;
  kinds = rw c.deref.ensures.value at c.in-Ok.ensures;
  many_rows = omega (arith, c.rows-rows.ensures);
  is = ap (Above Rows) c.rows-rows.ensures;
})))

-- the opening, its areas and the lines behind it are the script
pub returns-clause-script : goal.returns-clause-script
returns-clause-script c = record {
  head = head_of c.args.options.opening c.args.bytes.now _ _ _ _ c.in_ok-opening.ensures.opens;
  passed = c.in_ok-trace.trace.skipped;
  reads = c.in_ok-trace.ensures.read;
  kinds = rw c.deref.ensures.value at c.in-Ok.ensures;
  few_rows = omega (arith, c.rows-rows.ensures);
  counted = refl;
}
