use Rattle.std.proofs.Common.{ℕ, List, ◌≡◌, ◌+◌, ◌*◌, ◌/◌, ◌%◌, ◌∙◌, sym, ap, arith}
use Rattle.std.specs.Prelude.{slice_index, slice_set}
use Rattle.row_blocks.specs.Blocks.{told}
use Rattle.row_blocks.specs.Gaps.{IsLargestGap}
use Rattle.row_blocks.proofs.Settlings.{stands_other}
use Rattle.row_blocks.proofs.Steps.{three_steps}
use Rattle.row_blocks.proofs.Tells.{retold, told_already}
use Rattle.row_blocks.proofs.gaps.tell_gap.Goals as goal

-- the body word was read
pub largest_gap-gap-requires : goal.largest_gap-gap-requires
largest_gap-gap-requires g c =
    let load = c.load-packed.ensures in
    record {
      few = c.requires.few;
      may = load.may;
      laid = rw load.words c.requires.laid;
      there = rw load.words c.requires.there;
      used = rw load.words c.requires.used;
      packed = rw load.words load.word;
      low = rw load.words c.requires.low;
    }

-- another gap is another body word
pub store_layout-requires-clause-differs : goal.store_layout-requires-clause-differs
store_layout-requires-clause-differs g c =
    let place : ℕ = 128 * c.args.blocks + 1 + c.args.i in
    let load = c.load-packed.ensures in
    let gap = c.largest_gap-gap.ensures in
    let differ = c.if-gap-was.false in
    stands_other _ place load.words load.word (ap (λ (l : List ℕ). slice_index l place) gap.words) (λ e. differ (omega arith))

-- the body word tells that gap already
pub returns-then-gap-was : goal.returns-then-gap-was
returns-then-gap-was g c =
    let load = c.load-packed.ensures in
    let gap = c.largest_gap-gap.ensures in
    let stands : c.largest_gap-gap.result ≡ c.load-packed.result / 262144 = omega (arith, c.if-gap-was.true) in
    let done = told_already c.args.i (gap.words ∙ load.words) (stands ∙ ap (λ (x : ℕ). x / 262144) load.word) (rw load.words at gap.largest) in
    record {
      same = done.same;
      others = done.others;
      tells = done.tells;
      may = gap.may;
      rows = λ w r. gap.rows w (load.rows w r);
      kept = g.W.Loads.steps_on _ _ _ _ load.kept gap.kept;
      steps = let steps = rw load.words at gap.steps in omega (arith, load.step);
    }

-- or is stored
pub returns : goal.returns
returns g c =
    let nb = c.args.blocks in
    let i = c.args.i in
    let load = c.load-packed.ensures in
    let gap = c.largest_gap-gap.ensures in
    let store = c.store_layout.ensures in
    let spare = c.requires.laid.spare in
    let there = c.requires.there in
    let same = gap.words ∙ load.words in
    let stored = store.words ∙ (λ j. slice_set (same j) (128 * nb + 1 + i) (c.largest_gap-gap.result * 262144 + load.word j % 262144)) in
    let done = retold i c.largest_gap-gap.result c.requires.laid (omega arith) stored (rw load.words at gap.largest) in
    record {
      same = done.same;
      others = done.others;
      tells = done.tells;
      may = store.may;
      rows = λ w r. store.rows w (gap.rows w (load.rows w r));
      kept = three_steps g.W.Loads _ _ _ _ _ load.kept gap.kept store.kept;
      steps = let steps = rw load.words at gap.steps in omega (arith, load.step, store.step);
    }
