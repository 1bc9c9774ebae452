use Rattle.std.proofs.Common.{refl, sym, ap, subst, arith, length, List}
use Rattle.space_model.specs.declared.areas.Area.{Area}
use Rattle.space_model.specs.History.{Chains, HasRightReply, HasNamedCalls}
use Rattle.trace_driver.specs.Report.{LinesRise}
use Rattle.trace_driver.specs.declared.report.Counts.{Counts}
use Rattle.trace_driver.proofs.Reported.{reported}
use Rattle.trace_driver.proofs.Differences.{reads_rise}
use Rattle.trace_driver.proofs.PlayLemmas.{as_many, named_calls, right_replies}
use Rattle.trace_driver.proofs.RunLemmas.{wrote_nothing, has_cause, never_usage}
use Rattle.trace_driver.proofs.run.play_input.Goals as goal

-- where the run ends early nothing was written
pub returns-in-Err-clause-out : goal.returns-in-Err-clause-out
returns-in-Err-clause-out g c words asked = rw c.status.ensures (wrote_nothing words _ _ _ c.in-Err.end)

-- an early end has its cause
pub returns-in-Err-clause-cause : goal.returns-in-Err-clause-cause
returns-in-Err-clause-cause g c words asked = rw c.status.ensures (has_cause words _ _ _ _ _ _ _ _ asked c.in-Err.ensures.stopped)

-- no early end is that of words that aren't accepted
pub returns-in-Err-clause-no_usage : goal.returns-in-Err-clause-no_usage
returns-in-Err-clause-no_usage g c is = never_usage c.in-Err.end (rw c.status.ensures at is)

-- the numbers of a trace's lines rise
pub shown_of-requires-clause-rising : goal.shown_of-requires-clause-rising
shown_of-requires-clause-rising g c = subst LinesRise (sym c.deref-2.ensures.value) (reads_rise c.in-Ok.ensures.read.2.reads).0

-- the entries have the right replies
pub shown_of-requires-clause-right : goal.shown_of-requires-clause-right
shown_of-requires-clause-right g c =
    let p = c.in-Ok-play_asked.ensures.played in
    subst (λ es. (B : List Area) × Chains HasRightReply c.in-Ok.script.opening es B) (sym c.entries.ensures) (
      c.in-Ok-play_asked.closed.areas,
      right_replies c.in-Ok.script.opening c.in-Ok-play_asked.closed.areas c.in-Ok-play_asked.closed.entries p.runs,
    )

-- their calls have named bits alone
pub shown_of-requires-clause-named : goal.shown_of-requires-clause-named
shown_of-requires-clause-named g c = subst HasNamedCalls (sym c.entries.ensures)
    (named_calls c.in-Ok-play_asked.closed.entries c.in-Ok-play_asked.ensures.played.named)

-- there are as many entries as lines, so their count has 32 bits
pub refused_count-requires : goal.refused_count-requires
refused_count-requires g c =
    let many = let p = c.in-Ok-play_asked.ensures.played in as_many c.args.threads _ _ c.requires.some_threads p.own p.no_other in
    omega (arith, many, ap length c.entries-2.ensures, ap length c.deref.ensures.value, c.in-Ok.ensures.few)

-- the numbers of a trace's lines rise
pub differ_count-requires-clause-rising : goal.differ_count-requires-clause-rising
differ_count-requires-clause-rising g c = subst LinesRise (sym c.deref-3.ensures.value) (reads_rise c.in-Ok.ensures.read.2.reads).0

-- there are as many entries as lines, so those that differ have a count of 32 bits
pub differ_count-requires-clause-few : goal.differ_count-requires-clause-few
differ_count-requires-clause-few g c =
    let many = let p = c.in-Ok-play_asked.ensures.played in as_many c.args.threads _ _ c.requires.some_threads p.own p.no_other in
    omega (arith, many, ap length c.entries-3.ensures, ap length c.deref.ensures.value, c.in-Ok.ensures.few)

-- so many entries are few enough for a report
pub write_report-requires : goal.write_report-requires
write_report-requires g c =
    let many = let p = c.in-Ok-play_asked.ensures.played in as_many c.args.threads _ _ c.requires.some_threads p.own p.no_other in
    omega (arith, many, ap length c.entries-4.ensures, ap length c.deref.ensures.value, c.in-Ok.ensures.few)

-- the whole report was written
pub returns-in-Ok-write_report-clause-out : goal.returns-in-Ok-write_report-clause-out
returns-in-Ok-write_report-clause-out g c words asked =
    let script = c.in-Ok.script in let closed = c.in-Ok-play_asked.closed in
    let counts : Counts = record {
      skipped = script.skipped;
      refused = c.refused_count.result;
      differ = c.differ_count.result;
      touched = c.in-Ok-play_asked.touched;
    } in (
      _,
      reported words c.args.options c.args.threads _ _ script closed _ _ _ _ _ _ _ _ _ _ _ _ counts asked c.in-Ok.ensures.read
          c.deref.ensures.value c.in-Ok-play_asked.ensures.played c.in-Ok-play_asked.ensures.touched c.deref-2.ensures.value c.entries.ensures
          c.in-Ok-shown_of.ensures.differing c.in-Ok-shown_of.ensures.changes c.entries-2.ensures c.refused_count.ensures
          c.deref-3.ensures.value c.entries-3.ensures c.differ_count.ensures c.entries-4.ensures c.areas.ensures c.as_slice.ensures.value
          c.as_slice-2.ensures.value refl,
      c.in-Ok-write_report.ensures.all,
    )

-- or a first part of it
pub returns-clause-out : goal.returns-clause-out
returns-clause-out g c words asked =
    let script = c.in-Ok.script in let closed = c.in-Ok-play_asked.closed in
    let counts : Counts = record {
      skipped = script.skipped;
      refused = c.refused_count.result;
      differ = c.differ_count.result;
      touched = c.in-Ok-play_asked.touched;
    } in (
      _,
      reported words c.args.options c.args.threads _ _ script closed _ _ _ _ _ _ _ _ _ _ _ _ counts asked c.in-Ok.ensures.read
          c.deref.ensures.value c.in-Ok-play_asked.ensures.played c.in-Ok-play_asked.ensures.touched c.deref-2.ensures.value c.entries.ensures
          c.in-Ok-shown_of.ensures.differing c.in-Ok-shown_of.ensures.changes c.entries-2.ensures c.refused_count.ensures
          c.deref-3.ensures.value c.entries-3.ensures c.differ_count.ensures c.entries-4.ensures c.areas.ensures c.as_slice.ensures.value
          c.as_slice-2.ensures.value refl,
      c.in-Err-write_report.ensures.failed_prefix,
    )
