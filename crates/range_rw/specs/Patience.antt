-- The further looks of a reader in a validation, of which there are so many at most. Kogan, Dice and Issa 2020.
use Rattle.std.specs.Prelude.{ℕ, ◌+◌, ◌*◌, Bool, true, false, if◌then◌else◌}
use Rattle.lock_core.specs.declared.views.Own.{Own}
use Rattle.lock_core.specs.declared.views.Own.TheVariants.{Nothing, Filling, Linked}
use Rattle.lock_core.specs.declared.views.Todo.{Todo}
use Rattle.lock_core.specs.declared.views.Todo.TheVariants.{Forward, FromHead, Done}
use Rattle.marked_list.specs.declared.answers.Walked.{Walked}
use Rattle.marked_list.specs.declared.answers.Walked.TheVariants.{Place, Conflict, Lost, Long}

-- whether a walk met a node in conflict
abbrev pub has_met : Walked → Bool
has_met Place = false
has_met (Conflict owner range mode) = true
has_met (Lost l) = false
has_met (Long visits) = false

-- whether what is still to do is a reader's validation
abbrev pub is_forward : Todo → Bool
is_forward Forward = true
is_forward FromHead = false
is_forward Done = false

abbrev pub reads_on : Own → Bool
reads_on Nothing = false
reads_on (Filling node lo hi mode aimed) = false
reads_on (Linked node range mode todo) = is_forward todo

-- how many further looks a node that is validated may have: so many where it is a reader's
abbrev pub looks_of : ℕ → Own → ℕ
looks_of most own = if reads_on own then most else 0

-- how many steps so many validations one behind another make at most, at a list of so many seats
abbrev pub most_steps : ℕ → ℕ → ℕ
most_steps seats looks = looks * (2 + 3 * (16 * seats + 1))
