use Rattle.std.proofs.Common.{rules, ◌<◌, length, ap, ◌∙◌}
use Rattle.page_touch.proofs.Joining.{joins}
use Rattle.page_touch.proofs.closing.join_all.Goals as goal

-- both seats are of the table, so the one may be joined to the other
pub join_seat-requires : goal.join_seat-requires
join_seat-requires c =
    let i = c.all.invariant in let more : 0 < length c.all.seats.items = search rules in
    let here = ap (λ s. s.table) c.remove-in-all.ensures.value ∙ i.rest 0 c.remove-in-all.result more in (
      i.table,
      ap (λ s. s.table) c.token-in-all-2.view_is ∙ (ap (λ s. s.table) c.token-in-all.view_is ∙ here),
      c.token-in-all-2.invariant,
      c.requires.words,
      joins _ _ _ _ _ _,
    )
