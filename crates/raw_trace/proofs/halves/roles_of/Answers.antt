use Rattle.std.proofs.Common.{ℕ, List, [], length, ap, arith}
use Rattle.std.specs.BTreeMap.{is_at}
use Rattle.std.specs.Map.{lookup}
use Rattle.std.specs.Ordering.{nat_cmp}
use Rattle.raw_trace.specs.declared.halves.Waiting.{Waiting}
use Rattle.raw_trace.proofs.FoundHalves.{finds_none, finds_line, roles_found}
use Rattle.raw_trace.proofs.halves.roles_of.Goals as goal

-- nothing was looked at
pub lines-init : goal.lines-init
lines-init c =
    let vec = c.new-2.ensures in (
      ([], tt, finds_none _ vec (λ q. ap (λ (es : List (ℕ × Waiting)). lookup (is_at (nat_cmp q)) es) c.new.ensures.empty)),
      ap (λ x. length x) vec,
    )

-- a text more was looked at
pub lines-preserved : goal.lines-preserved
lines-preserved c =
    let i = c.lines.invariant in
    let one = c.in_ok-take.ensures.one in
    let were = i.1 in (
      finds_line c.args.lines.now c.lines.place _ _ _ i.0.0 (omega arith) c.in_ok-text.ensures i.0.1
          (c.in_ok-take.ensures.finds i.0.0 c.in_ok-text.field-0-0 i.0.2),
      omega arith,
    )

-- there are few texts
pub take-requires-clause-few : goal.take-requires-clause-few
take-requires-clause-few c = omega (arith, c.requires.few, c.lines-test.true, c.len-place-end.ensures)

-- the texts before were looked at
pub take-requires-clause-known : goal.take-requires-clause-known
take-requires-clause-known c = (c.lines.invariant.0.0, c.lines.invariant.0.2)

-- all were
pub returns : goal.returns
returns c = roles_found c.args.lines.now c.lines.place _ c.lines.invariant.0 (omega (arith, c.lines-test.false, c.len-place-end.ensures))
