use Rattle.std.proofs.Common.{inl, inr}
use Rattle.line_parts.proofs.Leaves.{not_both}
use Rattle.raw_logs.proofs.NumberFacts.{start_not}
use Rattle.raw_logs.proofs.numbering.start_of.Goals as goal
use Rattle.raw_logs.proofs.numbering.start_of.Goals.{then-pid-eq0-via-then-pid-eq0, then-pid-eq0-via-else-pid-eq0+then-not-begins_with}

-- the words aren't there
pub returns-in_err-text : goal.returns-in_err-text
returns-in_err-text c = rw c.from_residual.ensures (λ pid h. c.in_err-text.ensures h.0 h.2)

-- the number is none, or the verb isn't there
pub returns-then-pid-eq0 : goal.returns-then-pid-eq0
returns-then-pid-eq0 c =
    start_not c.args.line.now c.in_ok-text.text.now _ c.cut-pid.result.0 c.in_ok-text.ensures c.cut-pid.ensures
    (elim c.then-pid-eq0.branch [
      | then-pid-eq0-via-then-pid-eq0 w ↦ inl w.if-pid-eq0.true
      | then-pid-eq0-via-else-pid-eq0+then-not-begins_with w ↦ inr (λ b. not_both (w.begins_with.ensures.1 b) w.if-not-begins_with.true)
    ])
