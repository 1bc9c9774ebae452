use Rattle.std.proofs.Common.{ℕ, ◌≡◌, ◌+◌, ◌<◌, ◌++◌, List, [], subst, arith, refl}
use Rattle.row_plans.specs.RowLists.{with_row}
use Rattle.space_model.specs.declared.areas.Area.{Area}
use Rattle.area_looks.specs.Shown.{HasReadTo}
use Rattle.area_looks.proofs.Putting.{put_none}
use Rattle.area_looks.proofs.Showing.{reads_none, reads_more}
use Rattle.area_looks.proofs.counted.fill_rows.Goals as goal

-- no row is read yet
pub rows-init : goal.rows-init
rows-init g c = record {
  told = (
    [],
    put_none g.T.Told.told c.args.into.now,
    (
      0,
      reads_none c.args.caller.now c.args.span c.lo-page.result [] (let o = c.args.span.ordered in omega arith) c.lo-page.ensures refl,
    ),
  );
  last = c.hi-last.ensures;
  few = (omega arith, omega arith);
  counted = refl;
}

-- one row more is read
pub rows-preserved : goal.rows-preserved
rows-preserved g c =
    let i = c.rows.invariant in let r = c.row_of-row in let p = c.put_row-counts.ensures in
    let limit = c.args.span.in_range in
    let on : c.rows.page < c.args.span.hi = (let t = c.rows-test.true in let l = i.last in omega arith) in
    let list : List Area = i.told.0 in let rows : ℕ = i.told.2.0 in
    record {
      told = (
        list ++ with_row c.rows.page r.result.kind c.min-end.result [],
        p.put list c.args.into.now i.told.1,
        (
          rows + 1,
          reads_more c.args.caller.now c.rows.caller r.new.caller c.args.span c.rows.page rows c.min-end.result r.result list i.told.2.1
              c.requires.held limit r.ensures.reading r.ensures.left r.ensures.rows r.ensures.shows r.ensures.from r.ensures.until
              (let e = c.min-end.ensures in let l = i.last in omega arith) on r.ensures.bound,
        ),
      );
      last = i.last;
      few = p.few;
      counted = let t = r.ensures.counted in let b = i.counted in omega arith;
    }

-- where no page is left, the rows reach up to the span's end
pub returns-clause-told : goal.returns-clause-told
returns-clause-told g c =
    let i = c.rows.invariant in let until = i.told.2.1.until in let out = c.rows-test.false in let last = i.last in
    let end : c.rows.page ≡ c.args.span.hi = omega arith in
    let list : List Area = i.told.0 in let rows : ℕ = i.told.2.0 in (
      list,
      i.told.1,
      (
        rows,
        subst (λ (p : ℕ). HasReadTo c.args.caller.now c.args.span p rows rows list c.rows.caller) end i.told.2.1,
      ),
    )
