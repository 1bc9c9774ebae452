-- The looks of a refill at home words, which are made before the hand's view is written. While they are made, what came
-- home stands in the hand's list of homes alone; behind the last of them the barrier begins anew for the whole list. So
-- the view then is one closed line, and the lists beside it say at each moment which home words may be read. Homes and
-- the barrier are this project's own profile.
use Rattle.std.specs.Prelude.{◌≡◌, ℕ, ◌+◌, ◌≤◌, ◌==◌, Bool, if◌then◌else◌, List, [], ◌∷◌, ◌++◌, length, replicate, None, false}
use Rattle.view_lists.specs.Counted.{times}
use Rattle.lock_core.specs.declared.views.View.{View}
use Rattle.lock_core.specs.Views.{released}

-- a used node that isn't among the homes, so that its home word may be read
abbrev pub IsAwaited : List ℕ → List ℕ → ℕ → Type 0
IsAwaited used homes x = (1 ≤ times x used) × (times x homes ≡ 0)

-- no note, and no seat is passed
abbrev pub anew : ℕ → View → View
anew seats v = record v { notes = replicate seats None; passed = replicate seats false }

-- the barrier begins anew for all homes; with one seat alone they are ready at once
abbrev pub begun : ℕ → View → View
begun seats v = if seats == 1 then released (anew seats v) else anew seats v

-- one node more came home
abbrev pub come_back : ℕ → View → ℕ → View
come_back seats v n = begun seats (record v { homes = v.homes ++ n ∷ [] })

-- after looks at home words, with these homes: where no node came home nothing changed
abbrev pub homes_read : ℕ → View → List ℕ → Bool → View
homes_read seats v homes came = if came then begun seats (record v { homes = homes }) else v

-- what lists of used nodes and homes say of a view: the same home words may be read, and there is room for the homes
pub record IsBeside (v : View) (used homes : List ℕ) : Type 0 where
  pub may : (x : ℕ) → IsAwaited used homes x → IsAwaited v.used v.homes x
  pub only : (x : ℕ) → IsAwaited v.used v.homes x → IsAwaited used homes x
  pub room : length homes ≤ length v.ready + length v.homes
