use Rattle.std.proofs.Common.{ℕ, ◌≡◌, ◌<◌, ◌≤◌, ◌+◌, ◌*◌, ◌-◌, min, length, vec_capacity}
use Rattle.std.specs.Prelude.{All, Option}
use Rattle.page_types.specs.declared.calls.Kind.{Kind}
use Rattle.row_plans.specs.RowLists.{ShowFrom, IsBareGap}
use Rattle.row_plans.specs.Planning.{ShowTo, repainted, IsCome, come_to}
use Rattle.row_plans.proofs.planning.put_to.Given as goal

-- the rows so far show the new kinds up to where the next old row starts, or up to the end of the pages
abbrev pub invariant-rows : goal.invariant-rows
invariant-rows g l = record {
  loaded : g.R.Rows.loaded l.old l.initial.hand l.hand;
  at_is : l.at ≡ min l.now.end l.pages.to;
  come : IsCome (g.R.Rows.words l.old l.initial.hand) (g.R.Rows.number l.old l.initial.hand) l.at l.now;
  first : l.now.at ≡ l.fn.come.at;
  few : length l.rows.items + l.fn.come.gone ≤ length l.initial.rows.items + l.now.gone;
  loads : g.R.Rows.steps l.old l.hand + 6 * l.fn.come.gone ≤ g.R.Rows.steps l.old l.initial.hand + 6 * l.now.gone;
  above : l.pages.from ≤ l.at;
  room : vec_capacity l.initial.rows ≤ vec_capacity l.rows;
  gaps : All IsBareGap l.rows.items;
  shows : (from : ℕ) (kinds others : ℕ → Option Kind) → ShowFrom 0 (g.R.Rows.words l.old l.initial.hand) kinds →
      ((p : ℕ) → l.pages.from ≤ p → p < l.pages.to → others p ≡ repainted l.pages.paint (kinds p)) →
      ShowTo from l.initial.rows.items l.end others → ShowTo from l.rows.items l.at others;
}

-- with each turn one old row less is left
abbrev pub decreases-rows : goal.decreases-rows
decreases-rows g l = length (g.R.Rows.words l.old l.initial.hand) - come_to (g.R.Rows.number l.old l.initial.hand) l.now
