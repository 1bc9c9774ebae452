use Rattle.std.proofs.Common.{ℕ, List, ◌≡◌, ◌+◌, ◌-◌, ◌*◌, ◌/◌, ◌<◌, ◌≤◌, ◌∙◌, refl, ap, subst, arith, inl, inr}
use Rattle.std.proofs.lemmas.Bool.{cases_lt}
use Rattle.std.specs.Prelude.{slice_index}
use Rattle.row_blocks.specs.Gaps.{gap_of}
use Rattle.row_blocks.proofs.Steps.{steps_none, steps_more}
use Rattle.row_blocks.proofs.fits.block_with.Given.{Over}
use Rattle.row_blocks.proofs.fits.block_with.Goals.{After-load-packed}
use Rattle.row_blocks.proofs.fits.block_with.Goals as goal

-- no block was passed yet
pub passed-init : goal.passed-init
passed-init g c = record {
  words = refl;
  high = omega arith;
  few = λ k from until. absurd (omega arith);
  stepped = steps_none _ _ _ c.requires.may;
  steps = omega arith;
}

-- what the block before tells was read
read : (g : Over) (c : After-load-packed g) → c.load-packed.result / 262144
    ≡ gap_of c.args.blocks (g.W.Loads.words c.args.words.now c.args.hand.now) (c.passed.j - 1)
read g c =
    ap (λ (x : ℕ). x / 262144) (c.load-packed.ensures.word
    ∙ ap (λ (l : List ℕ). slice_index l (128 * c.args.blocks + 1 + (c.passed.j - 1))) c.passed.invariant.words)

-- it tells so many pages
pub returns-then-gap-pages-clause-block : goal.returns-then-gap-pages-clause-block
returns-then-gap-pages-clause-block g c =
    let h = (goal.at.returns-then-gap-pages-clause-block g c).After-load-packed in
    let inv = c.passed.invariant in
    let high = inv.high in
    let some = c.passed-test.true in
    let wide = c.if-gap-pages.true in
    let gap = read g h in
    (omega arith, omega arith, λ k from until. inv.few k (omega arith) until)

-- or fewer
pub passed-preserved : goal.passed-preserved
passed-preserved g c =
    let h = (goal.at.passed-preserved g c).After-load-packed in
    let nb = c.args.blocks in
    let one = g.W.Loads.words c.args.words.now c.args.hand.now in
    let inv = c.passed.invariant in
    let load = c.load-packed.ensures in
    let some = c.passed-test.true in
    let high = inv.high in
    let less = c.if-gap-pages.false in
    let gap = read g h in
    record {
      words = load.words ∙ inv.words;
      high = omega arith;
      few = λ k from until. elim (cases_lt (c.passed.j - 1) k) [
        | inl lt ↦ inv.few k (omega arith) until
        | inr ge ↦
            let e : c.passed.j - 1 ≡ k = omega arith in
            subst (λ (n : ℕ). gap_of nb one n < c.args.pages) e (omega arith)
      ];
      stepped = steps_more _ inv.stepped load.may load.rows load.kept;
      steps = omega (arith, inv.steps, load.step);
    }

-- no block is left
pub returns-clause-block : goal.returns-clause-block
returns-clause-block g c = λ k lt. let all = c.passed-test.false in c.passed.invariant.few k (omega arith) lt
