use Rattle.std.proofs.Common.{ℕ, ◌≡◌, ◌+◌, ◌<◌, ◌≤◌, List, sym, subst, arith}
use Rattle.std.specs.Prelude.{vec_capacity}
use Rattle.space_model.specs.declared.areas.Area.{Area}
use Rattle.area_looks.specs.Shown.{HasReadTo}
use Rattle.area_looks.proofs.Showing.{err_any, reads_none, reads_part, reads_more}
use Rattle.area_looks.proofs.held.read_rows.Goals as goal

-- where an area finds no room, its row is one more
pub returns-in_err-push_area-clause-part : goal.returns-in_err-push_area-clause-part
returns-in_err-push_area-clause-part g c =
    let i = c.rows.invariant in let r = c.row_of-row in
    let on : c.rows.page < c.args.span.hi = (let t = c.rows-test.true in let l = i.last in omega arith) in
    let rows : ℕ = i.read.0 in
    let read : HasReadTo c.args.caller.now c.args.span c.rows.page rows (rows + 1) c.rows.into.items r.new.caller =
    reads_part c.args.caller.now c.rows.caller r.new.caller c.args.span c.rows.page rows c.rows.into.items i.read.1 r.ensures.reading r.ensures.left
    r.ensures.rows r.ensures.bound in
    err_any c.from_residual.result (
      c.rows.page,
      on,
      (
        rows,
        subst (λ (l : List Area). HasReadTo c.args.caller.now c.args.span c.rows.page rows (rows + 1) l r.new.caller)
            (sym c.in_err-push_area.ensures.same) read,
      ),
    )

-- one row more is read
pub rows-preserved : goal.rows-preserved
rows-preserved g c =
    let i = c.rows.invariant in let r = c.row_of-row in
    let limit = c.args.span.in_range in
    let on : c.rows.page < c.args.span.hi = (let t = c.rows-test.true in let l = i.last in omega arith) in
    let rows : ℕ = i.read.0 in
    let read = reads_more c.args.caller.now c.rows.caller r.new.caller c.args.span c.rows.page rows c.min-end.result r.result c.rows.into.items i.read.1
    c.requires.held limit r.ensures.reading r.ensures.left r.ensures.rows r.ensures.shows r.ensures.from r.ensures.until
    (let e = c.min-end.ensures in let l = i.last in omega arith) on r.ensures.bound in
    record {
      read = (
        rows + 1,
        subst (λ (l : List Area). HasReadTo c.args.caller.now c.args.span c.min-end.result (rows + 1) (rows + 1) l r.new.caller)
            (sym c.in_ok-push_area.ensures.items) read,
      );
      last = i.last;
      capacity = let p = c.in_ok-push_area.ensures.capacity in let b = i.capacity in omega arith;
      counted = let t = r.ensures.counted in let b = i.counted in omega arith;
    }

-- where no page is left, the rows reach up to the span's end
pub returns-clause-all : goal.returns-clause-all
returns-clause-all g c =
    let i = c.rows.invariant in let until = i.read.1.until in let out = c.rows-test.false in let last = i.last in
    let end : c.rows.page ≡ c.args.span.hi = omega arith in
    let rows : ℕ = i.read.0 in
    (rows, subst (λ (p : ℕ). HasReadTo c.args.caller.now c.args.span p rows rows c.rows.into.items c.rows.caller) end i.read.1)
