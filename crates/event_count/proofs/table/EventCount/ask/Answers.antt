use Rattle.std.proofs.Common.{◌∙◌, ap, sym, arith}
use Rattle.event_count.proofs.Steps.{ask_allows}
use Rattle.event_count.proofs.table.EventCount.ask.Goals as goal

-- any seat may load the count of sleepers
pub load-requires : goal.load-requires
load-requires c =
    let two = c.self.invariant.0 in (
      ap (λ s. s.table) c.seat.view_is ∙ (c.requires.table ∙ sym (ap (λ s. s.table) c.self.view_is)),
      omega arith,
      ask_allows _ _ _ c.seat.inside.seat.me,
    )
