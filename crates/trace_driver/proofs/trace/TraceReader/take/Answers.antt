use Rattle.std.proofs.Common.{◌≤◌, arith, subst, sym}
use Rattle.strace_reader.specs.declared.joiner.Fed.{Fed}
use Rattle.strace_reader.specs.Playing.{skipped_by}
use Rattle.trace_driver.specs.TraceReader.{IsNamedAnswer}
use Rattle.trace_driver.proofs.TraceLemmas.{answers_few, is_named, skips_few, stops_on, takes_on}
use Rattle.trace_driver.proofs.trace.TraceReader.take.Goals as goal

-- an answer passes over two lines at most
pub on_base-told-requires : goal.on_base-told-requires
on_base-told-requires c =
    let b = c.requires.before in let few = answers_few b.0.fed c.args.text.now c.in-Ok.fed (c.in-Ok.ensures.answer b.0.fed b.1.fed) in omega (arith, few)

-- so does what becomes of a line
pub add-requires-clause-skips : goal.add-requires-clause-skips
add-requires-clause-skips c =
    let b = c.requires.before in
    subst (λ (f : Fed). skipped_by f ≤ 2) (sym c.on_base-told.ensures)
    (skips_few c.base_behind-base.result b.0.fed c.args.text.now c.in-Ok.fed (c.in-Ok.ensures.answer b.0.fed b.1.fed))

-- what becomes of a line has named bits alone
pub add-requires-clause-named : goal.add-requires-clause-named
add-requires-clause-named c =
    let b = c.requires.before in
    subst IsNamedAnswer (sym c.on_base-told.ensures)
    (is_named c.base_behind-base.result b.0.fed c.args.text.now c.in-Ok.fed (c.in-Ok.ensures.answer b.0.fed b.1.fed))

-- the reader that was fed the text and added what became of it took it
pub returns-in-Ok-clause-takes : goal.returns-in-Ok-clause-takes
returns-in-Ok-clause-takes c = takes_on c.add.result c.args.text.now c.args.number c.args.self.now c.add.new.self c.feed.new.self c.in-Ok.fed
    c.base_behind-base.result c.on_base-told.result (omega (arith, c.if-text-gt-LINE_LIMIT.false)) c.base_behind-base.ensures c.on_base-told.ensures
    c.in-Ok.ensures.answer c.in-Ok.ensures.next c.add.ensures.joiner c.add.ensures.base c.add.ensures.lines c.add.ensures.seen
    c.add.ensures.len c.add.ensures.few c.add.ensures.skipped

-- where it couldn't be added the text ends the run
pub returns-in-Ok-clause-stopped : goal.returns-in-Ok-clause-stopped
returns-in-Ok-clause-stopped c = stops_on c.add.result c.args.text.now c.args.number c.args.self.now c.in-Ok.fed c.base_behind-base.result c.on_base-told.result
    (omega (arith, c.if-text-gt-LINE_LIMIT.false)) c.base_behind-base.ensures c.on_base-told.ensures c.in-Ok.ensures.answer c.add.ensures.full
