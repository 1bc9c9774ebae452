use Rattle.std.proofs.Common.{rules, ◌<◌, length, sym, subst}
use Rattle.std.proofs.lemmas.List.{drop_more}
use Rattle.page_types.specs.Named.{IsNamedCall}
use Rattle.trace_threads.specs.Workers.{HasPlayed}
use Rattle.trace_threads.proofs.Plays.{played_more_by}
use Rattle.trace_threads.proofs.Touchers.{left_on, all_on}
use Rattle.trace_threads.proofs.playing.play_lines.Goals as goal

-- one line more is played
pub lines-preserved : goal.lines-preserved
lines-preserved g c =
    let i = c.lines.invariant in let lt : c.lines.line-index < length c.args.lines.now = search rules in
    let p = c.play_line.ensures.played in
    record {
      table = search rules;
      free = search rules;
      left = left_on c.args.lines.now c.lines.line-index lt _ i.left p.1.called.left;
      named = all_on c.args.lines.now c.lines.line-index lt (λ l. IsNamedCall l.call) i.named;
      rest = λ after h. i.rest after (subst (λ ls. HasPlayed ls c.lines.caller after)
          (sym (drop_more c.args.lines.now c.lines.line-index _ lt)) (played_more_by _ after p.1 h).0);
    }
