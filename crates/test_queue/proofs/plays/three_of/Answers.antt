use Rattle.std.specs.Prelude.{[]}
use Rattle.std.proofs.Common.{arith}
use Rattle.list_cuts.specs.Cut.{list_count}
use Rattle.queue_guard.specs.Rule.{first_pass}
use Rattle.range_queue.specs.Opening.{first_words}
use Rattle.range_rw.proofs.SeatLists.{first_new_in, second_in, third_new_in}
use Rattle.test_queue.proofs.Players.{idle_new}
use Rattle.test_queue.proofs.plays.three_of.Goals as goal

-- each seat is the new one of its number
pub returns-clause-first : goal.returns-clause-first
returns-clause-first c = idle_new (list_count c.args.table.now.cut) 0 c.args.table.now.table (λ _ _. tt) (first_words 3 []) c.remove-first.result
    (first_new_in _ (list_count c.args.table.now.cut) (first_pass (λ _ _. tt) (first_words 3 [])) c.args.seats.items
    c.remove-first.result (omega (arith, c.requires.three)) c.requires.new c.remove-first.ensures.value)

pub returns-clause-second : goal.returns-clause-second
returns-clause-second c = idle_new (list_count c.args.table.now.cut) 1 c.args.table.now.table (λ _ _. tt) (first_words 3 []) c.remove-second.result
    (second_in _ (list_count c.args.table.now.cut) (first_pass (λ _ _. tt) (first_words 3 [])) c.args.seats.items _
    c.remove-second.result (omega (arith, c.requires.three)) c.requires.new c.remove-first.ensures.items c.remove-second.ensures.value)

pub returns-clause-third : goal.returns-clause-third
returns-clause-third c = idle_new (list_count c.args.table.now.cut) 2 c.args.table.now.table (λ _ _. tt) (first_words 3 []) c.remove-third.result
    (third_new_in _ (list_count c.args.table.now.cut) (first_pass (λ _ _. tt) (first_words 3 [])) c.args.seats.items _ _
    c.remove-third.result c.requires.three c.requires.new c.remove-first.ensures.items c.remove-second.ensures.items c.remove-third.ensures.value)
