use Rattle.std.proofs.Common.{ℕ, ◌≡◌, ◌+◌, ◌<◌, List, ap, subst, ◌∙◌, arith, inl, inr}
use Rattle.std.proofs.lemmas.Bool.{cases_lt}
use Rattle.row_blocks.specs.Blocks.{rows_of}
use Rattle.row_blocks.proofs.Steps.{steps_more}
use Rattle.row_blocks.proofs.Pairs.{pair_there}
use Rattle.row_blocks.proofs.settling.find_pair.Goals as goal

pub returns-then-rows-behind-le127-clause-kept : goal.returns-then-rows-behind-le127-clause-kept
returns-then-rows-behind-le127-clause-kept g c = g.W.Loads.steps_on _ _ _ _ c.pairs.invariant.stepped.kept c.body_of-behind.ensures.kept

-- two more have too many
pub pairs-preserved : goal.pairs-preserved
pairs-preserved g c =
    let nb = c.args.blocks in
    let one = g.W.Loads.words c.args.words.now c.args.hand.now in
    let inv = c.pairs.invariant in
    let call = c.body_of-behind.ensures in
    let lt = c.pairs-test.true in
    let many = c.if-rows-behind-le127.false in
    let here = inv.here in
    let some = inv.some in
    let steps = inv.steps in
    let step = call.step in
    let next : c.body_of-behind.result.rows ≡ rows_of nb one (c.pairs.k + 1) =
    call.rows ∙ ap (λ (l : List ℕ). rows_of nb l (c.pairs.k + 1)) inv.words in
    record {
      words = call.words ∙ inv.words;
      some = omega arith;
      there = lt;
      here = next;
      full = λ k low less. elim (cases_lt k c.pairs.k) [
        | inl before ↦ inv.full k low before
        | inr last ↦ let e : c.pairs.k ≡ k = omega arith in
            subst (λ (n : ℕ). 127 < rows_of nb one n + 1 + rows_of nb one (n + 1)) e (omega arith)
      ];
      stepped = steps_more _ inv.stepped call.may call.stay call.kept;
      steps = omega arith;
    }

-- so they have more rows than there are
pub unreachable-requires : goal.unreachable-requires
unreachable-requires g c =
    let inv = c.pairs.invariant in
    let out = c.pairs-test.false in
    pair_there c.requires.laid c.requires.full c.requires.room (λ k some lt. inv.full k some (omega arith))
