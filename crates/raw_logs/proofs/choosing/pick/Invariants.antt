use Rattle.std.proofs.Common.{ℕ, ◌≤◌, length, List, Option}
use Rattle.raw_logs.specs.declared.spaces.Made.{Made}
use Rattle.raw_logs.specs.declared.told.Told.{Told}
use Rattle.raw_logs.specs.Spaces.{has_line}
use Rattle.raw_logs.specs.Stages.{HasPicked, IsChooser}
use Rattle.raw_logs.specs.Told.{AreTold}
use Rattle.raw_logs.proofs.choosing.pick.Given as goal

-- the lines from here on were looked at
abbrev pub invariant-lines : goal.invariant-lines
invariant-lines l = ((process : Option ℕ) (made : List Made) (count : ℕ) (tolds : List Told) → IsChooser process made count l.chooser → AreTold l.lines tolds
    → HasPicked (has_line process made count) l.lines tolds l.place l.picker) × (l.picker.start ≤ length l.lines)
