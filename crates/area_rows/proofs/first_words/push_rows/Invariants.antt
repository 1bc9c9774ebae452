use Rattle.std.proofs.Common.{◌≡◌, ◌++◌, drop}
use Rattle.space_model.specs.Areas.{IsAreaList, HasNamedKinds}
use Rattle.row_plans.specs.RowLists.{rows_from}
use Rattle.area_rows.proofs.first_words.push_rows.Given as goal

-- the rows so far, and those of the areas that are left, are all of them
abbrev pub invariant-areas : goal.invariant-areas
invariant-areas l = record {
  all : l.words.items ++ rows_from l.at (drop l.area-index l.areas) ≡ l.initial.words.items ++ rows_from 0 l.areas;
  in_order : IsAreaList (drop l.area-index l.areas);
  named : HasNamedKinds (drop l.area-index l.areas);
}
