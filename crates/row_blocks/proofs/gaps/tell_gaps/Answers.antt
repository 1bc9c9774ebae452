use Rattle.std.proofs.Common.{ℕ, List, ◌≡◌, ◌+◌, ◌-◌, ◌*◌, ◌<◌, ◌≤◌, ◌∙◌, length, sym, subst, inl, inr, arith}
use Rattle.std.proofs.lemmas.Bool.{cases_lt}
use Rattle.std.specs.Prelude.{slice_index}
use Rattle.page_types.specs.declared.TheConstants.{LIMIT}
use Rattle.row_plans.specs.RowWords.{row_start}
use Rattle.row_blocks.proofs.Counts.{count_next, count_up}
use Rattle.row_blocks.proofs.KeptGaps.{rows_same, laid_same, count_still, rows_in_same, gaps_on}
use Rattle.row_blocks.proofs.Tells.{same_none, same_on}
use Rattle.row_blocks.proofs.Steps.{steps_none, steps_more}
use Rattle.row_blocks.proofs.gaps.tell_gaps.Goals as goal

-- those of the blocks before are told
pub touched-init : goal.touched-init
touched-init g c =
    let load = c.load-used.ensures in
    record {
      same = rw load.words (same_none _ _);
      from = omega arith;
      high = c.requires.ordered;
      but = rw load.words c.requires.but;
      stepped = steps_more _ (steps_none _ _ _ c.requires.may) load.may load.rows load.kept;
      steps = omega arith;
    }

-- the block is laid out as it was
pub tell_gap-requires : goal.tell_gap-requires
tell_gap-requires g c =
    let inv = c.touched.invariant in
    let count = count_still inv.same in
    let used = c.load-used.ensures.word in
    let test = c.touched-test.true in
    let last = c.min-last.ensures in
    let rows = rows_in_same inv.same c.requires.laid in
    record {
      blocks = c.requires.blocks;
      few = c.requires.few;
      may = inv.stepped.may;
      laid = laid_same inv.same c.requires.laid;
      there = omega arith;
      used = omega arith;
      low = subst (λ (l : List ℕ). (k : ℕ) → k < length l → row_start (slice_index l k) ≤ LIMIT) (sym rows) c.requires.low;
    }

-- one block more tells its gap
pub touched-preserved : goal.touched-preserved
touched-preserved g c =
    let nb = c.args.blocks in
    let one = g.W.Loads.words c.args.words.now c.args.hand.now in
    let inv = c.touched.invariant in
    let call = c.tell_gap.ensures in
    let test = c.touched-test.true in
    let last = c.min-last.ensures in
    let next = count_next nb one c.touched.i in
    let rows = rows_same inv.same c.touched.i in
    let from = inv.from in
    record {
      same = same_on inv.same call.same;
      from = omega arith;
      high = omega arith;
      but = gaps_on c.touched.i c.args.end (laid_same inv.same c.requires.laid) call.same call.others call.tells inv.but;
      stepped = steps_more _ inv.stepped call.may call.rows call.kept;
      steps = omega (arith, inv.steps, call.steps);
    }

-- all tell theirs
pub returns-clause-told : goal.returns-clause-told
returns-clause-told g c = λ k lt.
    let inv = c.touched.invariant in
    let count = count_still inv.same in
    let used = c.load-used.ensures.word in
    let test = c.touched-test.false in
    let last = c.min-last.ensures in
    inv.but k lt (elim (cases_lt k c.touched.i) [ inl less ↦ inl less | inr ge ↦ inr (omega arith) ])

-- as many rows were read as these blocks have
pub returns-clause-steps : goal.returns-clause-steps
returns-clause-steps g c =
    let nb = c.args.blocks in
    let one = g.W.Loads.words c.args.words.now c.args.hand.now in
    let inv = c.touched.invariant in
    let up = count_up nb one c.touched.i c.args.end inv.high in
    let high = inv.high in
    omega (arith, inv.steps)
