use Rattle.std.proofs.Common.{ℕ, ◌≡◌, ◌+◌, ◌-◌, ◌/◌, List, refl, sym, ap, subst, ◌∙◌, arith}
use Rattle.std.specs.Prelude.{slice_index}
use Rattle.row_blocks.proofs.Finds.{HasHalved, halves_none, halves_to}
use Rattle.row_blocks.proofs.Steps.{HasStepped, steps_none, steps_more}
use Rattle.row_blocks.proofs.finding.halve.Given.{Over}
use Rattle.row_blocks.proofs.finding.halve.Goals.{After-load-read}
use Rattle.row_blocks.proofs.finding.halve.Goals as goal

-- all places are left
pub halve-init : goal.halve-init
halve-init g c =
    let start = g.W.Loads.steps c.args.words.now c.args.hand.now in
    let all : c.args.size ≡ c.args.size - 0 = omega arith in
    record {
      ordered = c.requires.some;
      there = omega arith;
      word = λ l. absurd (omega arith);
      from = λ l. absurd (omega arith);
      end = c.requires.end;
      next = λ l. absurd (omega arith);
      last = λ e. refl;
      same = refl;
      stepped = steps_none _ _ _ c.requires.may;
      steps = subst (HasHalved start start c.args.size) all (halves_none start c.args.size);
    }

-- the middle word, among the words of before
middle : (g : Over) (c : After-load-read g) → let words = g.W.Loads.words c.args.words.now in
    (c.load-read.result ≡ slice_index (words c.args.hand.now) (c.args.from + (c.halve.low + (c.halve.high - c.halve.low) / 2)))
    × (words c.load-read.new.hand ≡ words c.args.hand.now) × HasStepped g.W.Loads c.args.words.now c.args.hand.now c.load-read.new.hand
middle g c =
    let inv = c.halve.invariant in let load = c.load-read.ensures in
    let at : ℕ = c.args.from + (c.halve.low + (c.halve.high - c.halve.low) / 2) in (
      load.word ∙ ap (λ (l : List ℕ). slice_index l at) inv.same,
      load.words ∙ inv.same,
      steps_more _ inv.stepped load.may load.rows load.kept,
    )

-- it starts at or before the page
pub halve-preserved-then-read-page : goal.halve-preserved-then-read-page
halve-preserved-then-read-page g c =
    let inv = c.halve.invariant in let read = middle g (goal.at.halve-preserved-then-read-page g c).After-load-read in
    record {
      ordered = omega arith;
      there = inv.there;
      word = λ l. read.0;
      from = λ l. omega arith;
      end = inv.end;
      next = inv.next;
      last = inv.last;
      same = read.1;
      stepped = read.2;
      steps = halves_to _ _ _ (c.halve.high - c.halve.low) _ inv.steps c.load-read.ensures.step (omega arith) (omega arith);
    }

-- or behind it
pub halve-preserved : goal.halve-preserved
halve-preserved g c =
    let inv = c.halve.invariant in let read = middle g (goal.at.halve-preserved g c).After-load-read in
    record {
      ordered = omega arith;
      there = omega arith;
      word = inv.word;
      from = inv.from;
      end = omega arith;
      next = λ l. ap (λ (x : ℕ). x / 64) read.0;
      last = λ e. absurd (omega arith);
      same = read.1;
      stepped = read.2;
      steps = halves_to _ _ _ (c.halve.high - c.halve.low) _ inv.steps c.load-read.ensures.step (omega arith) (omega arith);
    }

-- one place is left
pub returns-clause-found : goal.returns-clause-found
returns-clause-found g c =
    let one = g.W.Loads.words c.args.words.now c.args.hand.now in
    let inv = c.halve.invariant in
    let next : c.halve.low + 1 ≡ c.halve.high = omega arith in
    record {
      below = omega arith;
      here = inv.word;
      before = inv.from;
      behind = inv.end;
      follows = λ l. inv.next (omega arith) ∙ ap (λ (n : ℕ). slice_index one (c.args.from + n) / 64) (sym next);
    }

-- and where it is the last one, the words behind follow
pub returns-clause-last : goal.returns-clause-last
returns-clause-last g c = λ e. c.halve.invariant.last (omega arith)

-- as many steps as halvings
pub returns-clause-steps : goal.returns-clause-steps
returns-clause-steps g c = c.halve.invariant.steps.most
