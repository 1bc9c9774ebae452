use Rattle.std.proofs.Common.{◌∙◌}
use Rattle.std.specs.Prelude.{length}
use Rattle.area_rows.proofs.Gathering.{whole, kept_stand, idle_rows}
use Rattle.area_rows.proofs.collect.collect.Goals as goal

-- what was collected is the whole history, with the areas that the rows stand for
pub returns : goal.returns
returns c = λ callers r all wide.
    whole callers r.3 c.args.kept.now all (idle_rows (length callers) r.3 r.4) c.place_callers.new.out.items
    c.last_areas.result.items (c.place_callers.ensures.wide ∙ wide) (c.place_callers.ensures.placed r.1 (kept_stand callers r.3 c.args.kept.now all))
    c.last_areas.ensures
