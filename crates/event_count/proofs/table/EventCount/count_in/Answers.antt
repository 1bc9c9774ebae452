use Rattle.std.proofs.Common.{◌∙◌, ap, sym, arith}
use Rattle.event_count.proofs.Steps.{count_allows}
use Rattle.event_count.proofs.table.EventCount.count_in.Goals as goal

-- a seat that isn't counted may count itself
pub fetch_add-requires : goal.fetch_add-requires
fetch_add-requires c =
    let two = c.self.invariant.0 in (
      ap (λ s. s.table) c.seat.view_is ∙ (c.requires.table ∙ sym (ap (λ s. s.table) c.self.view_is)),
      omega arith,
      count_allows _ _ _ c.seat.inside.seat.me (ap (λ s. s.counted) c.seat.view_is ∙ c.requires.out),
    )
