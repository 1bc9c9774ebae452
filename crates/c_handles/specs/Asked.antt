-- What the numbers mean that C gives: a flag, two numbers of a cut, and the turns of a wait. They are this project's
-- own.
use Rattle.std.specs.Prelude.{ℕ, Bool, true, false, min, max}
use Rattle.list_cuts.specs.Cut.{Regions}
use Rattle.lock_core.specs.declared.range.Mode.{Mode}
use Rattle.lock_core.specs.declared.range.Mode.TheVariants.{Reader, Writer}
use Rattle.word_rows.specs.declared.backoff.TheConstants.{SHORTEST_WAIT, LONGEST_WAIT}

-- the mode that a flag means: true is a writer's
abbrev pub mode_for : Bool → Mode
mode_for false = Reader
mode_for true = Writer

-- the cut into so many regions, in blocks of 2^bits numbers
abbrev pub cut_into : ℕ → ℕ → Regions
cut_into regions bits = record { count = regions; bits = bits }

-- how many turns a wait takes that is to take so many: as near to it as the shortest and the longest wait allow
abbrev pub wait_of : ℕ → ℕ
wait_of turns = min (max turns SHORTEST_WAIT) LONGEST_WAIT
