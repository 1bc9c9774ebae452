-- What a hand knows of its pools whatever other seats do, beside what every view keeps: no node of its sixteen is lost,
-- and a hand that is alone has no node that waits for the barrier. Taking a node rests on it, since a hand without a
-- ready node has used ones then. The pools of ready nodes and of nodes on their way home are this project's own
-- profile.
use Rattle.std.specs.Prelude.{◌≡◌, ℕ, ◌+◌, ◌/◌, ◌==◌, if◌then◌else◌, []}
use Rattle.view_lists.specs.Counted.{times}
use Rattle.lock_core.specs.declared.views.View.{View}
use Rattle.lock_core.specs.Nodes.{own_times}

-- each of the sixteen nodes of seat i is its own node, ready or used, once
abbrev pub IsWhole : ℕ → View → Type 0
IsWhole i v = (x : ℕ) → own_times x v.own + times x v.ready + times x v.used ≡ (if x / 16 == i then 1 else 0)

-- what the hand of number i keeps, of so many seats
pub record IsPooled (seats i : ℕ) (v : View) : Type 0 where
  pub whole : IsWhole i v
  pub alone : seats ≡ 1 → v.homes ≡ []
