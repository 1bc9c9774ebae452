use Rattle.std.proofs.Common.{◌≡◌, List, [], ◌∷◌, length, sym, ◌∙◌, subst, arith}
use Rattle.area_rows.specs.Callers.{CallerView, AreIdle, IsWhole}
use Rattle.trace_threads.proofs.Hirings.{of_table}
use Rattle.test_worker.proofs.Besides.{idle_with, played_with}
use Rattle.test_worker.proofs.beside.play_beside_writer.Goals as goal

-- the workers are of the space
pub hold_and_play-requires-clause-workers : goal.hold_and_play-requires-clause-workers
hold_and_play-requires-clause-workers g c κs within = of_table c.in-Ok.ensures.workers

-- the callers of the workers and the holder are idle
pub close-requires-clause-idle : goal.close-requires-clause-idle
close-requires-clause-idle g c =
    let lists = c.args.first.items ∷ c.args.second.items ∷ [] in let before = c.in-Ok.workers.items in
    let after = c.hold_and_play.new.workers.items in let played = c.hold_and_play.ensures.played in
    let back = c.hold_and_play.ensures.back in let third = c.in-Ok.ensures.third in let count = played.count in
    let two = c.in-Ok.ensures.workers.count in let second : 2 ≡ length after = omega arith in
    subst (λ (cs : List CallerView). AreIdle c.in-Ok.space.table cs) (sym c.callers_with.ensures)
    (idle_with c.in-Ok.space.table c.args.start.now lists before after c.hold_and_play.new.holder c.in-Ok.ensures.workers played
    (back.table ∙ third.table_is) (back.number ∙ (third.number ∙ second)) back.held)

-- the entries are those of the lines that the workers have played
pub returns-in-Ok-close-clause-played : goal.returns-in-Ok-close-clause-played
returns-in-Ok-close-clause-played g c =
    let lists = c.args.first.items ∷ c.args.second.items ∷ [] in let closed = c.in-Ok-close.closed in
    let none = c.hold_and_play.ensures.back.mine ∙ c.in-Ok.ensures.third.mine in
    let whole = subst (λ (cs : List CallerView). IsWhole cs closed.entries closed.areas) c.callers_with.ensures c.in-Ok-close.ensures.whole in
    (played_with c.in-Ok.space.table c.args.start.now lists c.in-Ok.workers.items c.hold_and_play.new.workers.items
    c.hold_and_play.new.holder closed.entries closed.areas c.in-Ok.ensures.workers c.hold_and_play.ensures.played none whole).0

-- the entries are a run from the start to the areas at the closing
pub returns-in-Ok-close-clause-runs : goal.returns-in-Ok-close-clause-runs
returns-in-Ok-close-clause-runs g c =
    let lists = c.args.first.items ∷ c.args.second.items ∷ [] in let closed = c.in-Ok-close.closed in
    let none = c.hold_and_play.ensures.back.mine ∙ c.in-Ok.ensures.third.mine in
    let whole = subst (λ (cs : List CallerView). IsWhole cs closed.entries closed.areas) c.callers_with.ensures c.in-Ok-close.ensures.whole in
    (played_with c.in-Ok.space.table c.args.start.now lists c.in-Ok.workers.items c.hold_and_play.new.workers.items
    c.hold_and_play.new.holder closed.entries closed.areas c.in-Ok.ensures.workers c.hold_and_play.ensures.played none whole).1
