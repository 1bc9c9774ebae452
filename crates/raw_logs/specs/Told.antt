-- What the text of a line tells by itself: whose it is, what it tells of new threads, processes and programs, and
-- whether it is written as it stands. Each text tells one thing; the definitions of spaces and of choosing are
-- functions of it.
use Rattle.std.specs.Prelude.{◌≡◌, ◌≢◌, ℕ, ◌<◌, ◌≤◌, List, [], ◌∷◌, length}
use Rattle.std.specs.Bool.{Decides}
use Rattle.strace_reader.specs.Grammar.{IsCut}
use Rattle.raw_lines.specs.Beginnings.{IsKnown, IsOfProfile}
use Rattle.raw_lines.specs.Makers.{IsMaking}
use Rattle.raw_lines.specs.Marks.{IsUnread}
use Rattle.raw_logs.specs.declared.told.Form.{Form}
use Rattle.raw_logs.specs.declared.told.Form.TheVariants.{Blank, Unknown, Long, TooLong, Whole}
use Rattle.raw_logs.specs.declared.told.Told.{Told}
use Rattle.raw_logs.specs.Log.{Numbered}

-- how a text with this body is taken: as it is, or not, since it is empty, begins in a way that isn't known, or is
-- longer than a line may be, which ends the run where it is of a call of the profile
abbrev pub IsForm : List ℕ → List ℕ → Form → Type 0
IsForm text body Blank = body ≡ []
IsForm text body Unknown = (body ≢ []) × (¬ IsKnown body)
IsForm text body Long = (body ≢ []) × IsKnown body × (65535 < length text) × (¬ IsOfProfile body)
IsForm text body TooLong = (body ≢ []) × IsKnown body × (65535 < length text) × IsOfProfile body
IsForm text body Whole = (body ≢ []) × IsKnown body × (length text ≤ 65535)

-- the text tells this; one that bears the mark of an unread line was chosen before, and shows no number
abbrev pub Tells : List ℕ → Told → Type 0
Tells text told = (body : List ℕ) × IsCut text told.pid body × IsMaking body told.making × IsForm text body told.form × Decides told.marked (IsUnread text)

-- each line tells this
pub data AreTold : List Numbered → List Told → Type 0 where
  all_told : AreTold [] []
  line_told : {line : Numbered} {lines : List Numbered} {told : Told} {tolds : List Told} → Tells line.text told → AreTold lines tolds →
      AreTold (line ∷ lines) (told ∷ tolds)
