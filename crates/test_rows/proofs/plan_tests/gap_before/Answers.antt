use Rattle.std.proofs.Common.{ℕ, ◌≡◌, ◌<◌, ◌≤◌, ◌+◌, ◌-◌, drop, sym, ap, subst, ◌∙◌, arith, inl, inr}
use Rattle.std.proofs.lemmas.Bool.{cases_lt}
use Rattle.std.specs.Prelude.{slice_index}
use Rattle.row_plans.specs.RowWords.{row_start, row_kind}
use Rattle.row_plans.specs.RowLists.{rows_start}
use Rattle.row_plans.specs.Gaps.{free_pages, free_of, HasNoGap}
use Rattle.row_plans.proofs.Splices.{start_at}
use Rattle.test_rows.proofs.plan_tests.gap_before.Goals.{After-free_pages}
use Rattle.test_rows.proofs.plan_tests.gap_before.Goals as goal

-- no row was passed yet
pub passed-init : goal.passed-init
passed-init c = record {
  high = omega arith;
  ends = c.requires.start ∙ sym (start_at c.args.rows.now c.args.at c.requires.there);
  few = record { few = λ n from until. absurd (omega arith) };
}

-- the row before was read
free : (c : After-free_pages) → c.free_pages.result ≡ free_of c.args.rows.now (c.passed.k - 1)
free c =
    let rows = c.args.rows.now in
    let k = c.passed.k in
    let some = c.passed-test.true in
    let word = slice_index rows (k - 1) in
    let up : k ≡ k - 1 + 1 = omega arith in
    c.free_pages.ensures
    ∙ ap (free_pages (row_kind word) (row_start word)) (c.passed.invariant.ends ∙ ap (λ (n : ℕ). rows_start (drop n rows)) up)

-- it has so many free pages
pub returns-then-free_pages-pages : goal.returns-then-free_pages-pages
returns-then-free_pages-pages c =
    let rows = c.args.rows.now in
    let inv = c.passed.invariant in
    let f = free (goal.at.returns-then-free_pages-pages c).After-free_pages in
    let some = c.passed-test.true in
    let high = inv.high in
    let many = c.if-free_pages-pages.true in
    let up : c.passed.k ≡ c.passed.k - 1 + 1 = omega arith in
    record {
      row = c.passed.k - 1;
      before = omega arith;
      wide = omega arith;
      last = record { few = λ n from until. inv.few.few n (omega arith) until };
      ends = inv.ends ∙ ap (λ (n : ℕ). rows_start (drop n rows)) up;
    }

-- or is passed
pub passed-preserved : goal.passed-preserved
passed-preserved c =
    let rows = c.args.rows.now in
    let inv = c.passed.invariant in
    let k = c.passed.k in
    let f = free (goal.at.passed-preserved c).After-free_pages in
    let some = c.passed-test.true in
    let high = inv.high in
    let there = c.requires.there in
    let less = c.if-free_pages-pages.false in
    record {
      high = omega arith;
      ends = c.read_row-begin.ensures.start ∙ sym (start_at rows (k - 1) (omega arith));
      few = record {
        few = λ n from until. elim (cases_lt (k - 1) n) [
          | inl lt ↦ inv.few.few n (omega arith) until
          | inr ge ↦
              let e : k - 1 ≡ n = omega arith in
              subst (λ (m : ℕ). free_of rows m < c.args.pages) e (omega arith)
        ];
      };
    }

-- all were passed
pub returns : goal.returns
returns c =
    let none = c.passed-test.false in
    let all : c.passed.k ≡ 0 = omega arith in
    subst (λ (n : ℕ). HasNoGap c.args.rows.now n c.args.at c.args.pages) all c.passed.invariant.few
