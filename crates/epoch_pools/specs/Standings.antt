-- How what a seat's lists hold counts for the layer above. With one list every range counts that is held. With several,
-- list 0 is for wide ranges, which take more lists than one, and a range counts once it is linked and its seat has then
-- looked at the lists in which a range in conflict may stand: a narrow one at list 0, a wide one at each list that it
-- takes. First the link and then the look, on both sides, is what exclusion rests on. This project's own profile.
use Rattle.std.specs.Prelude.{ℕ, ◌==◌, ◌&&◌, ◌||◌, Bool, true, false, if◌then◌else◌, Option, None, is_none}
use Rattle.lock_core.specs.declared.range.Held.{Held}
use Rattle.epoch_pools.specs.declared.views.Standing.{Standing}
use Rattle.epoch_pools.specs.declared.views.Standing.TheVariants.{Free, Narrow, Wide}

-- whether it is in that list that the range is held
abbrev pub is_here : Standing → ℕ → Bool
is_here Free i = false
is_here (Narrow j) i = i == j
is_here (Wide p) i = i == 0

-- whether all lists are passed that must be
abbrev pub is_whole : Standing → ℕ → Bool
is_whole Free lists = false
is_whole (Narrow j) lists = true
is_whole (Wide p) lists = p == lists

-- whether a range counts that list i holds, among so many lists
abbrev pub is_counted : ℕ → Standing → ℕ → Bool
is_counted lists s i = lists == 1 || is_here s i && is_whole s lists

-- how it counts once list i holds nothing any more
abbrev pub standing_back : Standing → ℕ → Standing
standing_back s i = if is_here s i then Free else s

-- how it counts after a step that leaves this held in list i
abbrev pub standing_after : Standing → ℕ → Option Held → Standing
standing_after s i o = if is_here s i && is_none o then Free else s

-- the range that counts, by what each list holds, where there are several
abbrev pub counted_of_many : ℕ → Standing → (ℕ → Option Held) → Option Held
counted_of_many lists Free held = None
counted_of_many lists (Narrow i) held = held i
counted_of_many lists (Wide p) held = if p == lists then held 0 else None

-- the range that counts
abbrev pub counted_of : ℕ → Standing → (ℕ → Option Held) → Option Held
counted_of lists s held = if lists == 1 then held 0 else counted_of_many lists s held

-- how many lists a wide range has passed
abbrev pub passed_by : Standing → ℕ
passed_by Free = 0
passed_by (Narrow i) = 0
passed_by (Wide p) = p
