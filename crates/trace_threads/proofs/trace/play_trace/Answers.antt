use Rattle.std.proofs.Common.{rules, ◌≡◌, map, length, sym, ap, ◌∙◌, subst, arith}
use Rattle.std.proofs.lemmas.List.{take_at}
use Rattle.std.specs.Prelude.{List, drop}
use Rattle.area_rows.specs.Callers.{CallerView, AreIdle, IsWhole}
use Rattle.trace_threads.specs.Workers.{WorkerView, AreOfTable, HavePlayed}
use Rattle.trace_threads.specs.Collected.{caller_of}
use Rattle.trace_threads.proofs.Hirings.{of_table, played_idle, all_played}
use Rattle.trace_threads.proofs.trace.play_trace.Goals as goal

-- the new workers are of the space's table
pub play_all-requires-clause-workers : goal.play_all-requires-clause-workers
play_all-requires-clause-workers g c κs within =
    let is : c.as_mut_slice.result.now ≡ c.in-Ok.workers.items = search rules in
    subst (λ (ws : List WorkerView). AreOfTable c.in-Ok.space.table ws) (sym is) (of_table c.in-Ok.ensures.workers)

-- the callers that are dismissed may be closed
pub close-requires-clause-idle : goal.close-requires-clause-idle
close-requires-clause-idle g c =
    let played : HavePlayed c.in-Ok.workers.items c.play_all.new.workers = search rules in
    let workers = c.play_all.new.workers in
    let back = take_at workers (drop (length workers) c.in-Ok.workers.items) c.in-Ok.workers.len (let n = played.count in
    omega (arith, n, c.in-Ok.workers.ok.0)) in
    let callers : c.dismiss.result.items ≡ map caller_of workers = c.dismiss.ensures ∙ ap (map caller_of) back in
    subst (λ (cs : List CallerView). AreIdle c.in-Ok.space.table cs) (sym callers) (played_idle c.in-Ok.ensures.workers played)

-- what the closing gives is the trace of these lines
pub returns-in-Ok-close-clause-played : goal.returns-in-Ok-close-clause-played
returns-in-Ok-close-clause-played g c =
    let played : HavePlayed c.in-Ok.workers.items c.play_all.new.workers = search rules in
    let workers = c.play_all.new.workers in
    let back = take_at workers (drop (length workers) c.in-Ok.workers.items) c.in-Ok.workers.len (let n = played.count in
    omega (arith, n, c.in-Ok.workers.ok.0)) in
    let callers : c.dismiss.result.items ≡ map caller_of workers = c.dismiss.ensures ∙ ap (map caller_of) back in
    let closed = c.in-Ok-close.closed in
    all_played c.in-Ok.ensures.workers played (subst (λ (cs : List CallerView). IsWhole cs closed.entries closed.areas) callers c.in-Ok-close.ensures.whole)
