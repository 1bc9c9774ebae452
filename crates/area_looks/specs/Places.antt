-- What is told of areas in a row of places, without memory: the first areas, as far as there are places, and how many
-- there are in all, with their pages. These are this project's own.
use Rattle.std.specs.Prelude.{ℕ, ◌≡◌, ◌+◌, ◌-◌, Bool, true, false, Option, Some, None, List, [], ◌∷◌, ◌++◌, length, map, take, drop}
use Rattle.lock_core.specs.declared.range.Held.{Held}
use Rattle.space_model.specs.declared.areas.Area.{Area}
use Rattle.area_looks.specs.declared.told.Counts.{Counts}

-- how many pages areas have together
abbrev pub pages_of : List Area → ℕ
pages_of [] = 0
pages_of (a ∷ list) = (a.hi - a.lo) + pages_of list

-- how many areas there are, and how many pages they have together
abbrev pub counts_of : List Area → Counts
counts_of list = record { areas = length list; pages = pages_of list }

-- places with a list put into them from the first one on, as far as they reach
abbrev pub put_into : {A : Type 0} → List A → List A → List A
put_into list places = take (length places) list ++ drop (length list) places

-- these areas, each told in this way, were put into places, and counted
abbrev pub IsPut : {A : Type 0} → (Area → A) → List Area → List A → List A → Counts → Type 0
IsPut told list before after counts = (after ≡ put_into (map told list) before) × (counts ≡ counts_of list)

-- areas of which this holds were put into places, and counted
abbrev pub Tells : {A : Type 0} → (Area → A) → List A → List A → Counts → (List Area → Type 0) → Type 0
Tells told before after counts Holds = (list : List Area) × IsPut told list before after counts × Holds list

-- what is held once a look is done: this, where it is kept
abbrev pub held_if : Bool → Held → Option Held
held_if true held = Some held
held_if false held = None
