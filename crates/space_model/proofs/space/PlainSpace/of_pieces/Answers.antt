use Rattle.std.proofs.Common.{◌^◌, ◌<◌, ◌∙◌, arith, sym, ap, subst}
use Rattle.space_model.specs.Areas.{kind_at, row_count, HasKinds}
use Rattle.space_model.proofs.Joining.{pieces-kinds}
use Rattle.space_model.proofs.NamedKinds.{named_at, named_all}
use Rattle.space_model.proofs.Stepping.{row_count-le}
use Rattle.page_types.specs.Named.{IsNamedOption}
use Rattle.space_model.proofs.space.PlainSpace.of_pieces.Goals as goal

-- the rows are few enough to count
pub row_count-row_total-requires : goal.row_count-row_total-requires
row_count-row_total-requires c =
    subst (λ A. row_count A < 2 ^ 32) (sym c.as_slice.ensures.value)
    (omega (arith, row_count-le c.in_ok-areas.areas.items, c.in_ok-areas.ensures.few, c.requires.few))

-- the joined pieces are an area list with named bits alone, few areas, and as many rows as were counted
pub invariant_of-result : goal.invariant_of-result
invariant_of-result c =
    let kinds : HasKinds (kind_at c.args.pieces.now) c.in_ok-areas.areas.items =
    rw c.in_ok-areas.ensures.list (pieces-kinds c.args.pieces.now c.requires.in_order) in (
      kinds.areas,
      named_all _ kinds.areas (λ p. subst IsNamedOption (sym (kinds.kinds_are p)) (named_at c.args.pieces.now p c.requires.named)),
      omega (arith, c.in_ok-areas.ensures.few, c.requires.few),
      c.row_count-row_total.ensures ∙ ap row_count c.as_slice.ensures.value,
    )

-- they have the kinds of the pieces
pub returns : goal.returns
returns c = rw c.in_ok-areas.ensures.list (pieces-kinds c.args.pieces.now c.requires.in_order)
