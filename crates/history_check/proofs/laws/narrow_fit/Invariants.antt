use Rattle.std.proofs.Common.{ℕ, ◌<◌, get_or}
use Rattle.space_model.specs.declared.entries.Entry.{Entry}
use Rattle.history_check.specs.Checking.{IsNarrow}
use Rattle.history_check.proofs.laws.narrow_fit.Given as goal

-- the numbers of the entries so far fit
abbrev pub invariant-entries : goal.invariant-entries
invariant-entries l = (k : ℕ) (d : Entry) → k < l.entry-index → IsNarrow (get_or l.entries k d)
