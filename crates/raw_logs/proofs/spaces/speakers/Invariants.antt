use Rattle.std.proofs.Common.{drop}
use Rattle.raw_logs.specs.Stages.{HasSpeakers}
use Rattle.raw_logs.proofs.spaces.speakers.Given as goal

-- the numbers of the lines from here on
abbrev pub invariant-lines : goal.invariant-lines
invariant-lines l = HasSpeakers l.found (drop l.place l.lines)
