use Rattle.std.proofs.Common.{inl, inr, ap, arith}
use Rattle.std.proofs.lemmas.Result.{err_from_is_err_and}
use Rattle.trace_driver.specs.declared.status.EarlyEnd.TheVariants.{Above}
use Rattle.trace_driver.specs.declared.status.Which.TheVariants.{Rows}
use Rattle.trace_driver.proofs.JudgeLemmas.{input_verdict, small_numbers}
use Rattle.trace_driver.proofs.OpeningLemmas.{opens_in_order}
use Rattle.trace_driver.proofs.ScriptLemmas.{head_of}
use Rattle.trace_driver.proofs.checking.judge_bytes.Goals as goal

-- a line that passes a limit ends the run
pub returns-in_err-keep_limits-clause-stopped : goal.returns-in_err-keep_limits-clause-stopped
returns-in_err-keep_limits-clause-stopped c =
    let p = err_from_is_err_and c.from_residual-in_err-keep_limits.result c.from_residual-in_err-keep_limits.ensures.1 in
    rw (p.1, p.2) (inr (inr (inl (record {
      head = head_of c.args.opening c.args.bytes.now _ _ _ _ c.in_ok-opened.ensures.opens;
      ends = c.in_err-keep_limits.ensures.stopped;
    }))))

-- the areas of the opening are in order
pub of_pieces-requires-clause-in_order : goal.of_pieces-requires-clause-in_order
of_pieces-requires-clause-in_order c = rw c.deref.ensures.value (opens_in_order c.args.opening _ _ _ _ _ c.in_ok-opened.ensures.opens)

-- an opening with too many rows ends the run by its count
pub returns-then-rows-gt-ROWS-clause-stopped : goal.returns-then-rows-gt-ROWS-clause-stopped
returns-then-rows-gt-ROWS-clause-stopped c = inr (inr (inr (record {
  head = head_of c.args.opening c.args.bytes.now _ _ _ _ c.in_ok-opened.ensures.opens;
  limits = c.in_ok-keep_limits.ensures.kept;
  start = c.in-Ok.space;
  kinds = rw c.deref.ensures.value at c.in-Ok.ensures;
  many_rows = omega (arith, c.rows-rows.ensures);
  is = ap (Above Rows) c.rows-rows.ensures;
})))

-- the verdict on the lines behind the opening is that on the input
pub returns-clause-judged : goal.returns-clause-judged
returns-clause-judged c = input_verdict c.args.opening c.args.bytes.now _ _ _ _ _ c.in-Ok.space c.in-Ok-check.verdict c.in_ok-opened.ensures.opens
    (omega (arith, c.in_ok-opened.ensures.numbered)) c.in_ok-keep_limits.ensures.kept (rw c.deref.ensures.value at c.in-Ok.ensures)
    (omega (arith, c.rows-rows.ensures)) c.in-Ok-check.ensures.found

-- its numbers are small
pub returns-clause-numbered : goal.returns-clause-numbered
returns-clause-numbered c = small_numbers c.args.opening c.args.bytes.now _ _ (returns-clause-judged c) c.requires
