use Rattle.std.proofs.Common.{◌≡◌, ◌++◌, ◌≤◌, ℕ, length, drop, List, Option}
use Rattle.raw_logs.specs.declared.spaces.Made.{Made}
use Rattle.raw_logs.specs.declared.told.Told.{Told}
use Rattle.raw_logs.specs.Buffer.{IsSieve, kept_in, rest_in}
use Rattle.raw_logs.specs.Spaces.{has_line}
use Rattle.raw_logs.specs.Stages.{AreShort, IsChooser, kept_from}
use Rattle.raw_logs.specs.Told.{AreTold}
use Rattle.raw_logs.proofs.choosing.chosen.Given as goal

-- with those from here on they are all that are written
abbrev pub invariant-places : goal.invariant-places
invariant-places l = ((process : Option ℕ) (made : List Made) (count : ℕ) (tolds : List Told) → IsChooser process made count l.chooser
    → AreTold l.fn.lines tolds
    → kept_in l.sieve ++ kept_from (has_line process made count) l.place l.fn.lines tolds ≡ kept_from (has_line process made count) l.fn.start l.fn.lines tolds)
    × (length (kept_in l.sieve) ≤ l.place) × AreShort (kept_in l.sieve) × IsSieve l.sieve × (rest_in l.sieve ≡ drop l.place l.fn.lines)
