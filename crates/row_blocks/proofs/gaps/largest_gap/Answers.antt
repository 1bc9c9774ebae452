use Rattle.std.proofs.Common.{ℕ, List, ◌≡◌, ◌+◌, ◌*◌, ◌/◌, ◌%◌, ◌≤◌, ◌∙◌, max, ap, sym, subst, arith}
use Rattle.std.specs.Prelude.{slice_index}
use Rattle.row_plans.specs.RowWords.{row_start, row_kind}
use Rattle.row_blocks.specs.Blocks.{blocks_of, rows_in, count_to}
use Rattle.row_blocks.proofs.Slots.{length-rows_in}
use Rattle.row_blocks.proofs.Counts.{count_next, count_up}
use Rattle.row_blocks.proofs.Places.{head_there}
use Rattle.row_blocks.proofs.GapRows.{free_low, largest_none}
use Rattle.row_blocks.proofs.Tells.{more_read, last_read, max_low, start_low}
use Rattle.row_blocks.proofs.Steps.{steps_none, steps_more}
use Rattle.row_blocks.proofs.gaps.largest_gap.Goals as goal

-- the head was read
pub rows-init : goal.rows-init
rows-init g c =
    let nb = c.args.blocks in
    let one = g.W.Loads.words c.args.words.now c.args.hand.now in
    let load = c.load-word.ensures in
    record {
      words = load.words;
      high = omega arith;
      here = load.word ∙ sym (head_there nb one c.args.i c.requires.laid c.requires.there);
      largest = largest_none (rows_in nb one) (count_to nb one c.args.i) (omega arith);
      low = omega arith;
      stepped = steps_more _ (steps_none _ _ _ c.requires.may) load.may load.rows load.kept;
      steps = omega arith;
    }

-- one row more has its end
pub rows-preserved : goal.rows-preserved
rows-preserved g c =
    let nb = c.args.blocks in
    let one = g.W.Loads.words c.args.words.now c.args.hand.now in
    let i = c.args.i in
    let k = c.rows.k in
    let inv = c.rows.invariant in
    let load = c.load-next.ensures in
    let packed = c.requires.packed in
    let lt = c.rows-test.true in
    let next = load.word ∙ (λ j. slice_index (inv.words j) (nb + 127 * (packed j / 128 % 2048) + k)) in
    let most : c.max-gap.result ≡ max c.rows.gap c.free_pages.result = omega (arith, c.max-gap.ensures) in
    let read = more_read c.requires.laid c.requires.there k (omega arith) inv.here next c.free_pages.ensures most inv.largest in
    let count = count_next nb one i in
    let there = c.requires.there in
    let up = count_up nb one (i + 1) (blocks_of nb one) (omega arith) in
    let long = length-rows_in nb one c.requires.laid in
    let is_next = ap row_start read.1 in
    let limit = c.requires.low (count_to nb one i + (k + 1)) (omega arith) in
    record {
      words = load.words ∙ inv.words;
      high = omega arith;
      here = read.1;
      largest = read.0;
      low = max_low inv.low (subst (λ (f : ℕ). f ≤ c.load-next.result / 64) (sym c.free_pages.ensures)
          (free_low (row_kind c.rows.word) (row_start c.rows.word) (c.load-next.result / 64))) (omega arith) most;
      stepped = steps_more _ inv.stepped load.may load.rows load.kept;
      steps = omega (arith, inv.steps, load.step);
    }

-- the words are those of before
pub end_of_block-end-requires : goal.end_of_block-end-requires
end_of_block-end-requires g c =
    let inv = c.rows.invariant in
    record {
      few = c.requires.few;
      may = inv.stepped.may;
      laid = rw inv.words c.requires.laid;
      there = rw inv.words c.requires.there;
      used = rw inv.words c.requires.used;
    }

-- and the last row has its end where the block ends
pub returns : goal.returns
returns g c =
    let nb = c.args.blocks in
    let one = g.W.Loads.words c.args.words.now c.args.hand.now in
    let i = c.args.i in
    let inv = c.rows.invariant in
    let end = c.end_of_block-end.ensures in
    let packed = c.requires.packed in
    let last = c.rows-test.false in
    let high = inv.high in
    let ends = rw inv.words at end.end in
    let most : c.max.result ≡ max c.rows.gap c.free_pages-2.result = omega (arith, c.max.ensures) in
    let limit = start_low (rows_in nb one) c.requires.low (count_to nb one (i + 1)) in
    record {
      largest = last_read c.requires.laid c.requires.there (omega arith) inv.here ends c.free_pages-2.ensures most inv.largest;
      low = max_low inv.low (subst (λ (f : ℕ). f ≤ c.end_of_block-end.result) (sym c.free_pages-2.ensures)
          (free_low (row_kind c.rows.word) (row_start c.rows.word) c.end_of_block-end.result)) (omega arith) most;
      words = end.words ∙ inv.words;
      may = end.may;
      rows = λ w r. end.rows w (inv.stepped.rows w r);
      kept = g.W.Loads.steps_on _ _ _ _ inv.stepped.kept end.kept;
      steps = omega (arith, inv.steps, end.steps);
    }
