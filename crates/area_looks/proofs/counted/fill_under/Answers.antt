use Rattle.std.proofs.Common.{List, sym, subst}
use Rattle.std.specs.Prelude.{Option}
use Rattle.lock_core.specs.declared.range.Held.{Held}
use Rattle.space_model.specs.declared.areas.Area.{Area}
use Rattle.area_rows.specs.Callers.{CallerView}
use Rattle.area_looks.specs.Shown.{AreAreasIn, ShowsAreas, WasSeen}
use Rattle.area_looks.proofs.counted.fill_under.Goals as goal

-- what was read under the hold is told, and where the span is kept it is shown still
pub returns-clause-told : goal.returns-clause-told
returns-clause-told g c =
    let r = c.fill_held-counts in let span = c.args.span in
    let list : List Area = r.ensures.shows.0 in let seen = r.ensures.shows.2 in (
      list,
      r.ensures.shows.1,
      (
        subst (λ (h : Option Held). WasSeen c.args.caller.now.seat h (AreAreasIn span.lo span.hi list)) c.requires.held seen.1,
        λ keeps. subst (λ (v : CallerView). ShowsAreas v.seat span.lo span.hi list) (sym (c.give_unless.ensures.kept keeps)) seen.0,
      ),
    )
