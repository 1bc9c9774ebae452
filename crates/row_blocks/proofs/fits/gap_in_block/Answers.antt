use Rattle.std.proofs.Common.{ℕ, List, ◌≡◌, ◌+◌, ◌-◌, ◌*◌, ◌/◌, ◌<◌, ◌≤◌, ◌∙◌, drop, sym, refl, ap, subst, arith}
use Rattle.std.specs.Prelude.{slice_index}
use Rattle.row_plans.specs.RowWords.{row_start, row_kind}
use Rattle.row_plans.specs.Gaps.{free_pages, HasNoGap, IsGapBefore}
use Rattle.row_blocks.specs.Blocks.{rows_in, count_to}
use Rattle.row_blocks.proofs.Passed.{slot_row, has_gap, pass_row, row_begins}
use Rattle.row_blocks.proofs.Steps.{HasStepped, steps_none, steps_more}
use Rattle.row_blocks.proofs.fits.gap_in_block.Given.{Over}
use Rattle.row_blocks.proofs.fits.gap_in_block.Goals.{After-load-word}
use Rattle.row_blocks.proofs.fits.gap_in_block.Goals as goal

-- no row was passed yet
pub rows-init : goal.rows-init
rows-init g c = record {
  words = refl;
  high = omega arith;
  ends = c.requires.start;
  few = record { few = λ k from until. absurd (omega arith) };
  stepped = steps_none _ _ _ c.requires.may;
  steps = omega arith;
}

-- the row before was read
read : (g : Over) (c : After-load-word g) → c.load-word.result ≡ slice_index (rows_in c.args.blocks (g.W.Loads.words c.args.words.now c.args.hand.now))
    (count_to c.args.blocks (g.W.Loads.words c.args.words.now c.args.hand.now) c.args.at.block + (c.rows.k - 1))
read g c =
    let inv = c.rows.invariant in
    let slot = c.slot_of.ensures in
    let high = inv.high in
    let within = c.requires.place in
    let some = c.rows-test.true in
    c.load-word.ensures.word
    ∙ (ap (λ (l : List ℕ). slice_index l c.slot_of.result) inv.words
    ∙ slot_row (c.rows.k - 1) c.slot_of.result c.args.body c.requires.laid c.requires.there (omega arith) c.requires.body slot.first slot.rest)

-- it has so many free pages
pub returns-then-free_pages-pages-clause-gap : goal.returns-then-free_pages-pages-clause-gap
returns-then-free_pages-pages-clause-gap g c =
    let h = (goal.at.returns-then-free_pages-pages-clause-gap g c).After-load-word in
    let inv = c.rows.invariant in
    has_gap c.requires.laid c.requires.there (omega (arith, c.rows-test.true)) inv.high c.requires.place inv.ends inv.few (read g h)
    (omega (arith, c.free_pages.ensures, c.if-free_pages-pages.true))

-- or is passed
pub rows-preserved : goal.rows-preserved
rows-preserved g c =
    let h = (goal.at.rows-preserved g c).After-load-word in
    let inv = c.rows.invariant in
    let load = c.load-word.ensures in
    let some = c.rows-test.true in
    let more : 0 < c.rows.k = omega arith in
    let high = inv.high in
    record {
      words = load.words ∙ inv.words;
      high = omega arith;
      ends = row_begins c.requires.laid c.requires.there more high c.requires.place inv.ends inv.few (read g h);
      few = pass_row c.requires.laid c.requires.there more high c.requires.place inv.ends inv.few (read g h)
          (omega (arith, c.free_pages.ensures, c.if-free_pages-pages.false));
      stepped = steps_more _ inv.stepped load.may load.rows load.kept;
      steps = omega (arith, inv.steps, load.step);
    }

-- all were passed
pub returns-clause-gap : goal.returns-clause-gap
returns-clause-gap g c =
    let nb = c.args.blocks in
    let one = g.W.Loads.words c.args.words.now c.args.hand.now in
    let inv = c.rows.invariant in
    let all = c.rows-test.false in
    let e : count_to nb one c.args.at.block + c.rows.k ≡ count_to nb one c.args.at.block = omega arith in
    subst (λ (n : ℕ). HasNoGap (rows_in nb one) n (count_to nb one c.args.at.block + c.args.at.place) c.args.pages) e inv.few
