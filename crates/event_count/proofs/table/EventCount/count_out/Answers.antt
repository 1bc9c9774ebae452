use Rattle.std.proofs.Common.{◌∙◌, ap, sym, arith}
use Rattle.event_count.proofs.Steps.{leave_allows}
use Rattle.event_count.proofs.table.EventCount.count_out.Goals as goal

-- a seat that is counted may count itself out
pub fetch_sub-requires : goal.fetch_sub-requires
fetch_sub-requires c =
    let two = c.self.invariant.0 in (
      ap (λ s. s.table) c.seat.view_is ∙ (c.requires.table ∙ sym (ap (λ s. s.table) c.self.view_is)),
      omega arith,
      leave_allows _ _ _ c.seat.inside.seat.me (ap (λ s. s.counted) c.seat.view_is ∙ c.requires.counted),
    )
