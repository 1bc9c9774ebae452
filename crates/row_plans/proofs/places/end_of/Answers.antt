use Rattle.std.proofs.Common.{rules, ℕ, ◌≡◌, ◌+◌, ◌*◌, ◌<◌, ◌≤◌, min, drop, length, refl, sym, ap, subst, ◌∙◌, arith}
use Rattle.std.specs.Prelude.{Some, slice_index}
use Rattle.space_model.specs.Areas.{kind_at}
use Rattle.space_model.specs.Sorts.{NoneOf}
use Rattle.row_plans.specs.RowWords.{row_start, row_kind}
use Rattle.row_plans.specs.RowLists.{rows_start, areas_from}
use Rattle.row_plans.specs.Plans.{IsPlaceOf}
use Rattle.row_plans.specs.Loads.{rows_between, search_loads, between_within}
use Rattle.row_plans.proofs.RowsBetween.{more_up}
use Rattle.row_plans.proofs.RowPages.{RowPages, row_pages, next_start, none_yet, none_more, end_here, end_passed}
use Rattle.row_plans.proofs.Loading.{HasLoaded, loads_first, loads_on, as_before}
use Rattle.row_plans.proofs.places.end_of.Given.{Over}
use Rattle.row_plans.proofs.places.end_of.Goals.{After-read_row-kind, After-read_row-start}
use Rattle.row_plans.proofs.places.end_of.Goals as goal

-- the row that has the first page, and its pages
first : (g : Over) (c : After-read_row-kind g) → let words = g.R.Rows.words c.args.rows.now c.args.hand.now in
    let at = g.R.Rows.number c.args.rows.now c.args.hand.now c.find-row.result.at in
    RowPages words (kind_at (areas_from words)) at (row_start c.find-row.result.word) c.find-row.result.end c.read_row-kind.result.1
first g c =
    let found = c.find-row.ensures in
    row_pages _ _ _ (g.R.Rows.are_rows c.args.rows.now c.args.hand.now c.requires.may).show found.there (ap row_start found.word)
    (c.read_row-kind.ensures.kind ∙ ap row_kind found.word) found.end

-- no page lies before it
first_none : (g : Over) (c : After-read_row-kind g) → let words = g.R.Rows.words c.args.rows.now c.args.hand.now in
    NoneOf (kind_at (areas_from words)) c.args.sort c.args.lo (rows_start (drop (g.R.Rows.number c.args.rows.now c.args.hand.now c.find-row.result.at) words))
first_none g c =
    let begins = (first g c).begins in let from = c.find-row.ensures.from in
    none_yet (kind_at (areas_from (g.R.Rows.words c.args.rows.now c.args.hand.now))) c.args.sort c.args.lo _ (omega arith)

-- a row behind it is there, and these are its pages
row : (g : Over) (c : After-read_row-start g) → let words = g.R.Rows.words c.args.rows.now c.args.hand.now in
    let number = g.R.Rows.number c.args.rows.now c.args.hand.now in let i = number c.in-Some.next in
    (number c.rows.at + 1 ≡ i) × (i < length words)
    × RowPages words (kind_at (areas_from words)) i c.read_row-start.result.0 (rows_start (drop (i + 1) words)) c.read_row-start.result.1
    × HasLoaded g.R.Rows c.args.rows.now c.args.hand.now c.load.new.hand
row g c =
    let rows = c.args.rows.now in let hand = c.args.hand.now in let words = g.R.Rows.words rows hand in let number = g.R.Rows.number rows hand in
    let i = number c.in-Some.next in
    let now = loads_first g.R.Rows _ _ _ c.requires.may c.rows.invariant.loaded in
    let then = loads_on _ now c.next.ensures.loaded in
    let place : IsPlaceOf (g.R.Rows.words rows c.rows.hand) (g.R.Rows.number rows c.rows.hand) (g.R.Rows.number rows c.rows.hand c.rows.at + 1)
    (Some c.in-Some.next) = search rules in
    let there = as_before (λ l n. (n c.in-Some.next ≡ n c.rows.at + 1) × (n c.rows.at + 1 < length l)) now place in
    let same = there.0 in let low = there.1 in
    let word = as_before (λ l n. c.load.result ≡ slice_index l (n c.in-Some.next)) then c.load.ensures.word in (
      sym same,
      omega arith,
      row_pages words (kind_at (areas_from words)) i
          (g.R.Rows.are_rows rows hand c.requires.may).show (omega arith) (c.read_row-start.ensures.start ∙ ap row_start word)
          (c.read_row-start.ensures.kind ∙ ap row_kind word) refl,
      loads_on _ then c.load.ensures.loaded,
    )

-- where it is of the sort, the first page is the lowest one
pub returns-then-is_sort-clause-end : goal.returns-then-is_sort-clause-end
returns-then-is_sort-clause-end g c =
    let h = (goal.at.returns-then-is_sort-clause-end g c).After-read_row-kind in let from = c.find-row.ensures.from in
    end_here _ _ _ c.args.lo _ (first g h) c.requires.ordered c.find-row.ensures.until (search rules) (first_none g h) (omega arith) (omega arith)

-- where it isn't, and ends at `hi` or behind it, the search ends there
pub returns-then-row-hi-clause-end : goal.returns-then-row-hi-clause-end
returns-then-row-hi-clause-end g c =
    let h = (goal.at.returns-then-row-hi-clause-end g c).After-read_row-kind in let over = c.if-row-hi.true in let ends = (first g h).ends in
    end_passed _ _ _ _ _ c.requires.ordered (none_more c.args.sort c.args.lo (first g h) (search rules) (first_none g h)) (omega arith)

-- otherwise none lies before the row behind, which starts behind the first page
pub rows-init : goal.rows-init
rows-init g c =
    let h = (goal.at.rows-init g c).After-read_row-kind in let found = c.find-row.ensures in
    record {
      loaded = found.loaded;
      there = found.there;
      none = none_more c.args.sort c.args.lo (first g h) (search rules) (first_none g h);
      reach = subst (λ (x : ℕ). c.args.lo < x) found.end found.until;
      few = let loads = found.steps in omega arith;
    }

-- no page of the sort lies before that row, by what the turns before have found
none_here : (g : Over) (c : After-read_row-start g) → let words = g.R.Rows.words c.args.rows.now c.args.hand.now in
    let i = g.R.Rows.number c.args.rows.now c.args.hand.now c.in-Some.next in
    NoneOf (kind_at (areas_from words)) c.args.sort c.args.lo (rows_start (drop i words)) × (c.args.lo < rows_start (drop i words))
none_here g c =
    let words = g.R.Rows.words c.args.rows.now c.args.hand.now in let e = (row g c).0 in
    let inv = c.rows.invariant in (
      subst (λ (n : ℕ). NoneOf (kind_at (areas_from words)) c.args.sort c.args.lo (rows_start (drop n words))) e inv.none,
      subst (λ (n : ℕ). c.args.lo < rows_start (drop n words)) e inv.reach,
    )

-- four loads for each row that was passed, and for this one
loads_here : (g : Over) (c : After-read_row-start g) → let words = g.R.Rows.words c.args.rows.now c.args.hand.now in
    let i = g.R.Rows.number c.args.rows.now c.args.hand.now c.in-Some.next in
    g.R.Rows.steps c.args.rows.now c.load.new.hand ≤ g.R.Rows.steps c.args.rows.now c.args.hand.now + 24
    + 4 * rows_between words c.args.lo (min c.args.hi (rows_start (drop i words)))
loads_here g c =
    let words = g.R.Rows.words c.args.rows.now c.args.hand.now in let steps = g.R.Rows.steps c.args.rows.now in
    let so_far = subst (λ (n : ℕ). steps c.rows.hand ≤ steps c.args.hand.now + 20
    + 4 * rows_between words c.args.lo (min c.args.hi (rows_start (drop n words)))) (row g c).0 c.rows.invariant.few in
    let next = c.next.ensures.steps in let load = c.load.ensures.steps in
    omega arith

-- so no more than those of a search up to a page behind which it starts
loads_to : (g : Over) (c : After-read_row-start g) (end : ℕ)
    → min c.args.hi (rows_start (drop (g.R.Rows.number c.args.rows.now c.args.hand.now c.in-Some.next) (g.R.Rows.words c.args.rows.now c.args.hand.now))) ≤ end
    → g.R.Rows.steps c.args.rows.now c.load.new.hand ≤ g.R.Rows.steps c.args.rows.now c.args.hand.now
    + search_loads (g.R.Rows.words c.args.rows.now c.args.hand.now) c.args.lo end
loads_to g c end high =
    let words = g.R.Rows.words c.args.rows.now c.args.hand.now in let all = loads_here g c in
    let start = rows_start (drop (g.R.Rows.number c.args.rows.now c.args.hand.now c.in-Some.next) words) in
    let within = between_within words c.args.lo (min c.args.hi start) c.args.lo end (omega arith) high in
    omega arith

-- where it starts at `hi` or behind it, the search ends there
pub returns-then-start-hi-clause-end : goal.returns-then-start-hi-clause-end
returns-then-start-hi-clause-end g c =
    let h = (goal.at.returns-then-start-hi-clause-end g c).After-read_row-start in
    let begins = (row g h).2.begins in let over = c.if-start-hi.true in
    end_passed _ _ _ _ _ c.requires.ordered (none_here g h).0 (omega arith)

-- by loads that are one
pub returns-then-start-hi-clause-loaded : goal.returns-then-start-hi-clause-loaded
returns-then-start-hi-clause-loaded g c = (row g (goal.at.returns-then-start-hi-clause-loaded g c).After-read_row-start).3.loaded

-- no row more starts before `hi`
pub returns-then-start-hi-clause-steps : goal.returns-then-start-hi-clause-steps
returns-then-start-hi-clause-steps g c =
    loads_to g (goal.at.returns-then-start-hi-clause-steps g c).After-read_row-start c.args.hi (omega arith)

-- where it is of the sort, its first page is the lowest one
pub returns-then-is_sort-2-clause-end : goal.returns-then-is_sort-2-clause-end
returns-then-is_sort-2-clause-end g c =
    let h = (goal.at.returns-then-is_sort-2-clause-end g c).After-read_row-start in let r = (row g h).2 in
    let begins = r.begins in let some = r.some in let reach = (none_here g h).1 in let below = c.if-start-hi.false in
    end_here _ _ _ c.read_row-start.result.0 _ r c.requires.ordered (omega arith) (search rules) (none_here g h).0 (omega arith) (omega arith)

-- by loads that are one
pub returns-then-is_sort-2-clause-loaded : goal.returns-then-is_sort-2-clause-loaded
returns-then-is_sort-2-clause-loaded g c = (row g (goal.at.returns-then-is_sort-2-clause-loaded g c).After-read_row-start).3.loaded

-- no row more starts before it
pub returns-then-is_sort-2-clause-steps : goal.returns-then-is_sort-2-clause-steps
returns-then-is_sort-2-clause-steps g c =
    let h = (goal.at.returns-then-is_sort-2-clause-steps g c).After-read_row-start in let begins = (row g h).2.begins in
    loads_to g h c.read_row-start.result.0 (omega arith)

-- where it isn't, none lies before the row behind it
pub rows-preserved : goal.rows-preserved
rows-preserved g c =
    let h = (goal.at.rows-preserved g c).After-read_row-start in let words = g.R.Rows.words c.args.rows.now c.args.hand.now in
    let kinds = kind_at (areas_from words) in
    let i = g.R.Rows.number c.args.rows.now c.args.hand.now c.in-Some.next in let r = row g h in
    let up = next_start words kinds i (g.R.Rows.are_rows c.args.rows.now c.args.hand.now c.requires.may).show in
    let reach = (none_here g h).1 in
    record {
      loaded = r.3.loaded;
      there = r.1;
      none = none_more c.args.sort c.args.lo r.2 (search rules) (none_here g h).0;
      reach = omega arith;
      few =
          let begins = r.2.begins in let some = r.2.some in let below = c.if-start-hi.false in let all = loads_here g h in
          let more = more_up words i c.args.lo c.args.hi r.1 reach (omega arith) (omega arith) in omega arith;
    }
