use Rattle.std.proofs.Common.{refl, List, ℕ, subst}
use Rattle.std.proofs.lemmas.Result.{err_from_is_err_and}
use Rattle.line_parts.specs.Lines.{lines_of}
use Rattle.trace_driver.proofs.CheckLemmas.{LogSoFar, log_first, log_next, log_ends, log_over}
use Rattle.trace_driver.proofs.checking.keep_limits.Goals as goal

-- before the first line nothing was taken
pub lines-init : goal.lines-init
lines-init c = log_first (lines_of c.args.text.now) _ refl refl

-- a line that isn't taken ends the run
pub returns-in_err-take-clause-stopped : goal.returns-in_err-take-clause-stopped
returns-in_err-take-clause-stopped c =
    let p = err_from_is_err_and c.from_residual.result c.from_residual.ensures.1 in
    let so_far = subst (λ (x : List (List ℕ)). LogSoFar (lines_of c.args.text.now) x c.lines.reading) c.in-Some.ensures.line c.lines.invariant in
    rw (p.1, p.2) (log_ends _ _ _ _ _ so_far c.in_err-take.ensures.stopped)

-- a line that was taken is behind those before it
pub lines-preserved : goal.lines-preserved
lines-preserved c =
    let so_far = subst (λ (x : List (List ℕ)). LogSoFar (lines_of c.args.text.now) x c.lines.reading) c.in-Some.ensures.line c.lines.invariant in
    log_next _ _ _ _ _ so_far c.in_ok-take.ensures.taken

-- where no line is left all lines keep the limits
pub returns-clause-kept : goal.returns-clause-kept
returns-clause-kept c =
    let none = c.in_default.ensures.none.0 refl in
    log_over (lines_of c.args.text.now) c.lines.reading
    (subst (λ (x : List ℕ). LogSoFar (lines_of c.args.text.now) (lines_of x) c.lines.reading) none c.lines.invariant)
