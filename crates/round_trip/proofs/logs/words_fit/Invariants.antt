use Rattle.std.proofs.Common.{ℕ, ◌<◌, get_or}
use Rattle.space_model.specs.declared.entries.Entry.{Entry}
use Rattle.round_trip.specs.Logs.{HasWordNumbers}
use Rattle.round_trip.proofs.logs.words_fit.Given as goal

-- the numbers of the entries so far fit
abbrev pub invariant-entries : goal.invariant-entries
invariant-entries l = (k : ℕ) (d : Entry) → k < l.entry-index → HasWordNumbers (get_or l.entries k d)
