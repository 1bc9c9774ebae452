use Rattle.std.proofs.Common.{ap, ◌∙◌}
use Rattle.raw_logs.specs.Counting.{both}
use Rattle.raw_logs.proofs.ReadLogs.{numbered_log, ends_cut}
use Rattle.raw_logs.proofs.reading.read_texts.Goals as goal

-- the stages one behind the other
pub returns-clause-read : goal.returns-clause-read
returns-clause-read c =
    let t = c.in_ok-healer.ensures.takes in
    numbered_log c.args.text.now c.split_log.result.0.now c.split_log.result.1.now c.in_ok-healer.healer _ c.split_log.ensures.log t.0 t.1
    (c.with-2.ensures ∙ ap (λ x. both c.in_ok-healer.healer.counts x) c.with.ensures)

-- what the log ends with
pub returns-clause-cut : goal.returns-clause-cut
returns-clause-cut c =
    ends_cut c.args.text.now c.split_log.result.0.now c.split_log.result.1.now c.in_ok-healer.healer _ c.split_log.ensures.log
    c.in_ok-healer.ensures.takes.0 c.ends_within-ends_cut.ensures.none c.ends_within-ends_cut.ensures.some
