use Rattle.std.proofs.Common.{sym, subst}
use Rattle.space_model.specs.Areas.{IsAreaList}
use Rattle.space_model.specs.Blocks.{areas_of, IsPlace}
use Rattle.space_model.proofs.InRoom.{drop_areas, place_by}
use Rattle.space_model.proofs.stored.Stored.place_of.Goals as goal

-- the blocks behind the first cut have an area list
pub cut_back-count-requires-clause-in_order : goal.cut_back-count-requires-clause-in_order
cut_back-count-requires-clause-in_order c =
    subst (λ X. IsAreaList (areas_of X)) (sym c.split_at.ensures.back)
    (drop_areas c.as_slice-blocks.result.now _ (subst (λ X. IsAreaList (areas_of X)) (sym c.as_slice-blocks.ensures.value) c.requires.stored.areas))

-- the place is between the two cuts
pub returns : goal.returns
returns c =
    subst (λ X. IsPlace X c.args.change (record {
      first = c.cut_front-first.result.0;
      count = c.cut_back-count.result.0;
      from = c.cut_front-first.result.1;
      to = c.cut_back-count.result.1;
    })) c.as_slice-blocks.ensures.value
    (place_by c.as_slice-blocks.result.now c.split_at.result.1.now c.args.change _ _ _ _ _ _ c.saturating_sub.ensures c.end.ensures
    c.cut_front-first.ensures c.split_at.ensures.back c.cut_back-count.ensures)
