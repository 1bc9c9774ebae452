use Rattle.std.proofs.Common.{ℕ, ◌+◌, ◌≡◌, ◌≤◌, ◌∙◌, max, refl, sym, subst, arith}
use Rattle.std.specs.Prelude.{slice_index}
use Rattle.row_plans.specs.RowWords.{row_start, row_kind}
use Rattle.row_blocks.specs.Gaps.{IsLargestGap}
use Rattle.row_blocks.proofs.Tells.{each_low, start_low, max_low}
use Rattle.row_blocks.proofs.GapRows.{free_is, free_low, largest_none, largest_more}
use Rattle.row_blocks.proofs.filling.gap_of_run.Goals as goal

-- no rows have no gap
pub read-init : goal.read-init
read-init c = record { high = omega arith; largest = largest_none c.args.rows.now c.args.from (omega arith); low = omega arith }

-- one row more has its end
pub read-preserved : goal.read-preserved
read-preserved c =
    let rows = c.args.rows.now in
    let n : ℕ = c.args.from + c.read.k in
    let inv = c.read.invariant in
    let lt = c.read-test.true in
    let within = c.requires.within in
    let free = c.free_pages.ensures ∙ free_is rows n refl c.start_of-end.ensures in
    let up : n + 1 ≡ c.args.from + (c.read.k + 1) = omega arith in
    let limit = start_low rows (each_low rows c.requires.low) (n + 1) in
    let ends = c.start_of-end.ensures in
    let most : c.max-gap.result ≡ max c.read.gap c.free_pages.result = omega (arith, c.max-gap.ensures) in
    record {
      high = omega arith;
      largest = subst (λ (m : ℕ). IsLargestGap rows c.args.from m c.max-gap.result) up (largest_more (omega arith) free most inv.largest);
      low = max_low inv.low (subst (λ (f : ℕ). f ≤ c.start_of-end.result) (sym c.free_pages.ensures)
          (free_low (row_kind (slice_index rows n)) (row_start (slice_index rows n)) c.start_of-end.result)) (omega arith) most;
    }

-- all have
pub returns-clause-largest : goal.returns-clause-largest
returns-clause-largest c =
    let inv = c.read.invariant in
    let high = inv.high in
    let last = c.read-test.false in
    let all : c.read.k ≡ c.args.count = omega arith in
    subst (λ (k : ℕ). IsLargestGap c.args.rows.now c.args.from (c.args.from + k) c.read.gap) all inv.largest
