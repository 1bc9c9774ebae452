use Rattle.std.proofs.Common.{ℕ, ◌∙◌, ap, sym, subst}
use Rattle.page_touch.specs.declared.records.SeatRecord.{SeatRecord}
use Rattle.page_touch.specs.Probes.{MayProbe}
use Rattle.page_touch.proofs.Probing.{put_allows, word_there}
use Rattle.page_touch.proofs.table.Touches.put_at.Goals as goal

-- the exchange is of a word of the table, and keeps the rule
pub compare_exchange-requires : goal.compare_exchange-requires
compare_exchange-requires g c =
    let shape = c.self.view_is in let room = c.self.invariant.0 ∙ ap (λ s. s.room) shape in
    let own = ap (λ s. s.own) c.token.view_is in (
      ap (λ s. s.table) c.token.view_is ∙ (c.requires.table ∙ sym (ap (λ s. s.table) shape)),
      word_there c.args.place (c.self.invariant.1 ∙ ap (λ s. s.room) shape) c.requires.may.within,
      put_allows _ _ _ c.token.inside.seat.me (c.requires.picked.0 ∙ sym room) c.requires.picked.1 c.requires.picked.2
          (subst (λ (z : ℕ × SeatRecord). MayProbe z.0 c.args.page c.args.place z.1) (λ i. (sym room i, sym own i)) c.requires.may),
    )
