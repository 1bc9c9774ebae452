use Rattle.std.proofs.Common.{sym, subst, ◌∙◌, arith}
use Rattle.row_blocks.proofs.MovedWords.{pushes_end, pushed_none, pushed_on}
use Rattle.row_blocks.proofs.moves.raise.Goals as goal

-- nothing has moved yet
pub shift-init : goal.shift-init
shift-init g c = search (arith, pushed_none)

-- one word more has moved up
pub shift-preserved : goal.shift-preserved
shift-preserved g c =
    let inv = c.shift.invariant in let call = c.exchange-stood.ensures in
    record {
      pushed = pushed_on inv.low (omega arith) inv.pushed (assumption call);
      low = omega arith;
      high = omega arith;
      row = subst (g.W.Loads.is_row c.args.words.now c.exchange-stood.new.hand) (sym (call.stood ∙ inv.pushed.pushing.above c.shift.to (omega arith)))
          (call.rows _ (inv.pushed.stepped.rows _ (c.requires.rows c.shift.to inv.low (omega arith))));
    }

-- the last word that was carried is laid
pub returns-clause-pushed : goal.returns-clause-pushed
returns-clause-pushed g c =
    pushes_end c.requires.ordered c.requires.wide (omega arith) c.shift.invariant.pushed.pushing c.exchange.ensures.words

-- all steps are one
pub returns-clause-kept : goal.returns-clause-kept
returns-clause-kept g c = g.W.Loads.steps_on _ _ _ _ c.shift.invariant.pushed.stepped.kept c.exchange.ensures.kept
