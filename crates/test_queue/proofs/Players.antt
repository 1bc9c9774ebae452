-- A seat of a new table holds nothing and has announced nothing.
use Rattle.std.proofs.Common.{◌≡◌, ℕ, ap}
use Rattle.atomic_table.specs.Seated.{TableId}
use Rattle.range_rw.specs.Contract.{SeatState, new_seat_in}
use Rattle.queue_guard.specs.declared.passes.QueuePass.{QueuePass}
use Rattle.queue_guard.specs.Rule.{first_pass}
use Rattle.std.specs.Prelude.{List}
use Rattle.test_queue.specs.Players.{IsIdle}

pub idle_new : {P : Type 0} (lists k : ℕ) (table : TableId) (first : List ℕ → ℕ → P) (words : List ℕ) (s : SeatState (QueuePass P))
    → s ≡ new_seat_in lists table (first_pass first words) k → IsIdle table s
idle_new {P} lists k table first words s e = record {
  of = ap (λ (x : SeatState (QueuePass P)). x.table) e;
  free = ap (λ (x : SeatState (QueuePass P)). x.held) e;
  silent = ap (λ (x : SeatState (QueuePass P)). x.pass.telling) e;
}
