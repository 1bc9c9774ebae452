use Rattle.std.proofs.Common.{rules, ◌<◌, length, sym, subst}
use Rattle.std.proofs.lemmas.List.{drop_all, drop_more}
use Rattle.page_types.specs.Named.{IsNamedCall}
use Rattle.trace_threads.specs.Stages.{HasTouchedLines}
use Rattle.trace_threads.proofs.Touchers.{touched_more, touched_none, left_on, all_on, may_on}
use Rattle.trace_threads.proofs.touching.touch_lines.Goals as goal

-- one line more is played, and its page touched
pub lines-preserved : goal.lines-preserved
lines-preserved g c =
    let i = c.lines.invariant in let lt : c.lines.line-index < length c.args.lines.now = search rules in
    let e = c.touch_line.ensures.played in
    record {
      caller_table = search rules;
      seat_table = search rules;
      free = search rules;
      left = left_on c.args.lines.now c.lines.line-index lt _ i.left e.1.called.left;
      named = all_on c.args.lines.now c.lines.line-index lt (λ l. IsNamedCall l.call) i.named;
      may = may_on c.args.lines.now c.lines.line-index lt _ e.1.called.call_is e.2 i.may;
      rest = λ after s h. i.rest after s (subst (λ ls. HasTouchedLines ls c.lines.caller after c.lines.seat s)
          (sym (drop_more c.args.lines.now c.lines.line-index _ lt)) (touched_more e.1 e.2 h));
    }

-- with no line left they all are
pub returns : goal.returns
returns g c = c.lines.invariant.rest c.lines.caller c.lines.seat (subst (λ ls. HasTouchedLines ls c.lines.caller c.lines.caller c.lines.seat c.lines.seat)
    (sym (drop_all c.lines.line-index c.args.lines.now c.lines-test.false)) (touched_none c.lines.caller c.lines.seat))
