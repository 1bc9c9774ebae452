use Rattle.std.proofs.Common.{ℕ, List, length, refl, ap, subst, arith}
use Rattle.std.proofs.lemmas.Result.{err_from_is_err_and}
use Rattle.line_parts.specs.Lines.{lines_of}
use Rattle.trace_driver.proofs.TraceLemmas.{SoFar, so_far_start, so_far_step, so_far_all, so_far_ends, left_few}
use Rattle.trace_driver.proofs.trace.read_lines.Goals as goal

-- a new reader stands before the first line
pub lines-init : goal.lines-init
lines-init c =
    let len = ap length c.new-reader.ensures.lines in (
      so_far_start c.args.first (lines_of c.args.text.now) c.new-reader.result (c.new-reader.ensures.start c.args.first)
          c.new-reader.ensures.lines c.new-reader.ensures.skipped,
      omega arith,
      omega (arith, c.new-reader.ensures.skipped),
      λ k d l. absurd (omega (arith, len, l)),
      omega (arith, len),
      omega (arith, c.new-reader.ensures.count),
      omega arith,
    )

-- a line that isn't taken ends the run
pub returns-in_err-take-clause-stopped : goal.returns-in_err-take-clause-stopped
returns-in_err-take-clause-stopped c =
    let p = err_from_is_err_and c.from_residual.result c.from_residual.ensures.1 in
    let so_far = subst (λ (x : List (List ℕ)). SoFar c.args.first (lines_of c.args.text.now) c.lines.number x c.lines.reader)
    c.in-Some.ensures.line c.lines.invariant.0 in
    rw (p.1, p.2) (so_far_ends _ _ _ _ _ _ _ so_far (c.in_err-take.ensures.stopped so_far.stand so_far.stands so_far.numbered))

-- behind a line that was taken the reader stands before the next one
pub lines-preserved : goal.lines-preserved
lines-preserved c =
    let so_far = subst (λ (x : List (List ℕ)). SoFar c.args.first (lines_of c.args.text.now) c.lines.number x c.lines.reader)
    c.in-Some.ensures.line c.lines.invariant.0 in (
      so_far_step _ _ _ _ _ _ _ so_far (c.in_ok-take.ensures.takes so_far.stand so_far.stands so_far.numbered),
      omega (arith, c.in-Some.ensures.shorter),
      omega (arith, c.in_ok-take.ensures.skipped),
      c.in_ok-take.ensures.named c.lines.invariant.3,
      c.in_ok-take.ensures.few,
      c.in_ok-take.ensures.processes,
      omega arith,
    )

-- lines passed over and halves that are left are together few enough for 32 bits
pub overflow_add-result : goal.overflow_add-result
overflow_add-result c = let so_far = c.lines.invariant.0 in omega (arith, left_few _ _ _ _ _ _ so_far (c.end-left.ensures so_far.stand.fed so_far.stands.fed))

-- where no line is left the whole trace is read
pub returns-clause-read : goal.returns-clause-read
returns-clause-read c =
    let none = c.in_default.ensures.none.0 refl in
    let so_far = subst (λ (x : List ℕ). SoFar c.args.first (lines_of c.args.text.now) c.lines.number (lines_of x) c.lines.reader) none c.lines.invariant.0 in
    so_far_all c.args.first (lines_of c.args.text.now) c.lines.number c.end-left.result c.lines.reader so_far
    (c.end-left.ensures so_far.stand.fed so_far.stands.fed)

-- lines passed over and halves that are left are together at most three for each byte
pub returns-clause-counted : goal.returns-clause-counted
returns-clause-counted c =
    let so_far = c.lines.invariant.0 in omega (arith, left_few _ _ _ _ _ _ so_far (c.end-left.ensures so_far.stand.fed so_far.stands.fed))
