use Rattle.std.proofs.Common.{rules, ℕ, ◌≡◌, ◌<◌, min, drop, length, ap, sym, ◌∙◌, subst, arith}
use Rattle.std.specs.Prelude.{slice_index}
use Rattle.space_model.specs.Areas.{kind_at}
use Rattle.row_plans.specs.RowWords.{row_start, row_kind}
use Rattle.row_plans.specs.RowLists.{rows_start, areas_from}
use Rattle.row_plans.specs.Planning.{NoneEndsAbove}
use Rattle.row_plans.specs.Gaps.{free_pages, HasNoGap, IsGapBefore}
use Rattle.row_plans.proofs.RowPages.{HasCome, row_pages, row_before, ends_before, ends_here, first_row}
use Rattle.row_plans.proofs.Gaps.{are_free, few_free, gap_before, none_before}
use Rattle.row_plans.proofs.Loading.{HasLoaded, loads_first, loads_on, as_before, as_behind}
use Rattle.row_plans.proofs.places.highest_fit.Given.{Over}
use Rattle.row_plans.proofs.places.highest_fit.Goals.{After-find-row}
use Rattle.row_plans.proofs.places.highest_fit.Goals as goal

-- in a window of no page there is no place
pub returns-then-window-eq0-clause-fit : goal.returns-then-window-eq0-clause-fit
returns-then-window-eq0-clause-fit g c = λ start fits.
    let none : c.args.window ≡ 0 = search rules in let high = fits.high in let some = c.requires.some in absurd (omega arith)

-- the rows as they were found
found : (g : Over) (c : After-find-row g) → HasLoaded g.R.Rows c.args.rows.now c.args.hand.now c.find-row.new.hand
found g c = loads_first g.R.Rows _ _ _ c.requires.may c.find-row.ensures.loaded

-- what the row of the window's last page says, where no place ends behind it
come : (g : Over) (c : After-find-row g) → 0 < c.args.window → let words = g.R.Rows.words c.args.rows.now c.args.hand.now in
    HasCome words (kind_at (areas_from words)) (g.R.Rows.number c.args.rows.now c.args.hand.now c.find-row.result.at) c.args.window c.args.pages
    (row_start c.find-row.result.word) c.find-row.result.end (row_kind c.find-row.result.word)
come g c some =
    let rows = c.args.rows.now in let hand = c.args.hand.now in let words = g.R.Rows.words rows hand in
    let kinds = kind_at (areas_from words) in let show = (g.R.Rows.are_rows rows hand c.requires.may).show in
    let i = g.R.Rows.number rows hand c.find-row.result.at in
    let row = c.find-row.ensures in let until = row.until in
    record {
      row = row_pages words kinds i show row.there (ap row_start row.word) (ap row_kind row.word) row.end;
      before = row_before words kinds i show row.there (ap row_start row.word) (ap row_kind row.word);
      ended = λ s f. let h = f.high in omega arith;
    }

-- it may have the place
pub returns-then-free_pages-pages-clause-fit : goal.returns-then-free_pages-pages-clause-fit
returns-then-free_pages-pages-clause-fit g c =
    let h = (goal.at.returns-then-free_pages-pages-clause-fit g c).After-find-row in
    let many = c.if-free_pages-pages.true in
    let free = are_free (row_kind c.find-row.result.word) (row_start c.find-row.result.word) c.min-top.result c.args.pages c.requires.some
    (omega (arith, c.free_pages.ensures)) in
    ends_here (come g h (omega (arith, c.if-window-eq0.false))) c.requires.some c.min-top.ensures free.0 free.1

-- where it hasn't, no place ends behind its start
ended : (g : Over) (c : After-find-row g) (top : ℕ) → 0 < c.args.window → top ≡ min c.find-row.result.end c.args.window
    → free_pages (row_kind c.find-row.result.word) (row_start c.find-row.result.word) top < c.args.pages
    → NoneEndsAbove (kind_at (areas_from (g.R.Rows.words c.args.rows.now c.args.hand.now))) c.args.window c.args.pages
    (rows_start (drop (g.R.Rows.number c.args.rows.now c.args.hand.now c.find-row.result.at) (g.R.Rows.words c.args.rows.now c.args.hand.now)))
ended g c top some clipped few =
    let row = come g c some in
    subst (λ (e : ℕ). NoneEndsAbove (kind_at (areas_from (g.R.Rows.words c.args.rows.now c.args.hand.now))) c.args.window c.args.pages e)
    (sym row.row.begins)
    (ends_before row c.requires.some clipped
    (few_free (row_kind c.find-row.result.word) (row_start c.find-row.result.word) top top c.args.pages few (omega arith)))

-- the hand may go on, and finds the row where it was
pub gap_before-requires : goal.gap_before-requires
gap_before-requires g c =
    let h = (goal.at.gap_before-requires g c).After-find-row in
    let now = found g h in let at = c.find-row.result.at in
    record {
      may = now.may;
      there = as_behind (λ l n. n at < length l) now c.find-row.ensures.there;
      start = as_behind (λ l n. c.read_row-start.result.0 ≡ row_start (slice_index l (n at))) now
          (c.read_row-start.ensures.start ∙ ap row_start c.find-row.ensures.word);
      some = c.requires.some;
    }

-- a row before it has the place at its end
pub returns-in-Some-clause-fit : goal.returns-in-Some-clause-fit
returns-in-Some-clause-fit g c =
    let h = (goal.at.returns-in-Some-clause-fit g c).After-find-row in let few = c.if-free_pages-pages.false in
    let behind = ended g h c.min-top.result (omega (arith, c.if-window-eq0.false)) c.min-top.ensures (omega (arith, c.free_pages.ensures)) in
    let rows = c.args.rows.now in let hand = c.args.hand.now in let words = g.R.Rows.words rows hand in
    let kinds = kind_at (areas_from words) in let show = (g.R.Rows.are_rows rows hand c.requires.may).show in
    let i = g.R.Rows.number rows hand c.find-row.result.at in
    let row = (come g h (omega (arith, c.if-window-eq0.false))).row in
    let from = c.find-row.ensures.from in let there = c.find-row.ensures.there in let begins = row.begins in
    gap_before words kinds show c.args.window c.args.pages c.requires.some i c.in-Some.end (omega arith) (omega arith) behind
    (as_before (λ l n. IsGapBefore l (n c.find-row.result.at) c.args.pages c.in-Some.end) (found g h) c.in-Some.ensures.gap)

-- or none has
pub returns-in-None-clause-fit : goal.returns-in-None-clause-fit
returns-in-None-clause-fit g c =
    let h = (goal.at.returns-in-None-clause-fit g c).After-find-row in let few = c.if-free_pages-pages.false in
    let behind = ended g h c.min-top.result (omega (arith, c.if-window-eq0.false)) c.min-top.ensures (omega (arith, c.free_pages.ensures)) in
    let rows = c.args.rows.now in let hand = c.args.hand.now in let words = g.R.Rows.words rows hand in
    let kinds = kind_at (areas_from words) in let show = (g.R.Rows.are_rows rows hand c.requires.may).show in
    let i = g.R.Rows.number rows hand c.find-row.result.at in
    let there = c.find-row.ensures.there in
    none_before words kinds show c.args.window c.args.pages c.requires.some i (omega arith) behind (first_row words kinds show).1
    (as_before (λ l n. HasNoGap l 0 (n c.find-row.result.at) c.args.pages) (found g h) c.in-None.ensures.gap)

-- the loads are one
pub returns-in-Some-clause-loaded : goal.returns-in-Some-clause-loaded
returns-in-Some-clause-loaded g c =
    let h = (goal.at.returns-in-Some-clause-loaded g c).After-find-row in (loads_on _ (found g h) c.gap_before.ensures.loaded).loaded

pub returns-in-None-clause-loaded : goal.returns-in-None-clause-loaded
returns-in-None-clause-loaded g c =
    let h = (goal.at.returns-in-None-clause-loaded g c).After-find-row in (loads_on _ (found g h) c.gap_before.ensures.loaded).loaded

-- the row takes some, and whoever keeps the rows the others
pub returns-in-Some-clause-steps : goal.returns-in-Some-clause-steps
returns-in-Some-clause-steps g c =
    let row = c.find-row.ensures in
    let same = g.R.Rows.same_gap c.args.rows.now c.args.hand.now c.find-row.new.hand c.requires.may row.loaded in
    omega (arith, row.steps, c.gap_before.ensures.steps)

pub returns-in-None-clause-steps : goal.returns-in-None-clause-steps
returns-in-None-clause-steps g c =
    let row = c.find-row.ensures in
    let same = g.R.Rows.same_gap c.args.rows.now c.args.hand.now c.find-row.new.hand c.requires.may row.loaded in
    omega (arith, row.steps, c.gap_before.ensures.steps)
