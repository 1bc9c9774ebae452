use Rattle.std.proofs.Common.{◌-◌, ◌+◌, ◌≡◌, [], drop, sym, subst, rules, arith}
use Rattle.std.proofs.lemmas.List.{drop_all}
use Rattle.raw_logs.specs.Log.{line_of}
use Rattle.raw_logs.specs.Stages.{HasSpeakers}
use Rattle.raw_logs.proofs.SpaceFacts.{speakers_more}
use Rattle.raw_logs.proofs.TextLists.{lines_from}
use Rattle.raw_logs.proofs.spaces.speakers.Goals as goal

-- no line
pub lines-init : goal.lines-init
lines-init c =
    let none : HasSpeakers c.new-found.result [] = search rules in
    subst (HasSpeakers c.new-found.result) (sym (drop_all c.len-place.result c.args.lines.now (omega (arith, c.len-place.ensures)))) none

-- a line more
pub lines-preserved : goal.lines-preserved
lines-preserved c =
    let next : c.lines.place ≡ c.lines.place - 1 + 1 = omega arith in
    let line = line_of c.in_ok-text.field-0-0 c.in_ok-text.text.now in
    let more = lines_from c.args.lines.now (c.lines.place - 1) c.lines.place line (omega arith) next c.in_ok-text.ensures in
    subst (HasSpeakers c.put_number.new.found) (sym more)
    (speakers_more c.lines.found _ line (drop c.lines.place c.args.lines.now) c.told_of.result c.told_of.ensures c.lines.invariant
    c.in_ok-put_number.ensures)

-- all lines
pub returns : goal.returns
returns c =
    let first : c.lines.place ≡ 0 = omega arith in
    subst (λ n. HasSpeakers c.lines.found (drop n c.args.lines.now)) first c.lines.invariant
