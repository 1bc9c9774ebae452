use Rattle.round_trip.proofs.LogsRead.{log_tells}
use Rattle.round_trip.proofs.logs.logs_tell_entries.Goals as goal

-- the two lists of entries with one text are equal
pub returns : goal.returns
returns c = log_tells c.args.entries.now c.args.others.now c.words_fit.ensures c.words_fit-2.ensures c.requires.entries c.requires.others c.requires.text
