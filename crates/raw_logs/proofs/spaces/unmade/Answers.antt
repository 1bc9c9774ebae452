use Rattle.std.proofs.Common.{◌-◌, ◌+◌, ◌≡◌, drop, refl, sym, subst, arith}
use Rattle.std.proofs.lemmas.List.{drop_all}
use Rattle.raw_logs.specs.Log.{line_of}
use Rattle.raw_logs.specs.Told.{AreTold}
use Rattle.raw_logs.proofs.SpaceFacts.{unmade_none, unmade_step}
use Rattle.raw_logs.proofs.TextLists.{lines_from}
use Rattle.raw_logs.proofs.spaces.unmade.Goals as goal

-- no line
pub lines-init : goal.lines-init
lines-init c =
    unmade_none _ c.args.made.now _ _ (drop_all c.len-place.result c.args.lines.now (omega (arith, c.len-place.ensures))) c.in_ok-known.ensures refl

-- a line more
pub lines-preserved : goal.lines-preserved
lines-preserved c = λ tolds told.
    let next : c.lines.place ≡ c.lines.place - 1 + 1 = omega arith in
    let line = line_of c.in_ok-text.field-0-0 c.in_ok-text.text.now in
    let more = lines_from c.args.lines.now (c.lines.place - 1) c.lines.place line (omega arith) next c.in_ok-text.ensures in
    unmade_step c.lines.known _ c.args.made.now line (drop c.lines.place c.args.lines.now) c.told_of.result c.lines.count c.in_ok-next.next
    c.told_of.ensures c.lines.invariant c.in_ok-next.ensures.known c.in_ok-next.ensures.count tolds (subst (λ x. AreTold x tolds) more told)

-- all lines
pub returns : goal.returns
returns c = λ tolds told.
    let first : c.lines.place ≡ 0 = omega arith in (c.lines.invariant tolds (subst (λ n. AreTold (drop n c.args.lines.now) tolds) (sym first) told)).1
