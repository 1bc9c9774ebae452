-- What each step leaves in the record of its seat. The record stands in no part of the table's rule and changes at the
-- stepping seat alone; a contract reads in it at which step of a call a node was met, an exchange was lost, or a home
-- word or an epoch was read. An entry's number is how many steps the seat had made before its step, so an entry of a
-- call has a number from the count at the call's entry on, and it tells the list. This project's own profile.
use Rattle.std.specs.Prelude.{◌≡◌, ℕ, suc, ◌+◌, ◌-◌, ◌*◌, ◌/◌, ◌%◌, ◌==◌, ◌||◌, ◌&&◌, ◌++◌, Bool, true, false, if◌then◌else◌, List}
use Rattle.std.specs.Prelude.{[], ◌∷◌, Option, Some, None, unwrap_or, is_some, is_none}
use Rattle.lock_core.specs.declared.views.View.{View}
use Rattle.lock_core.specs.declared.views.Cursor.{Cursor}
use Rattle.lock_core.specs.declared.views.Own.{Own}
use Rattle.lock_core.specs.declared.views.Own.TheVariants.{Nothing, Filling, Linked}
use Rattle.lock_core.specs.declared.range.Held.{Held}
use Rattle.lock_core.specs.declared.steps.Step.{Step}
use Rattle.lock_core.specs.declared.steps.Step.TheVariants.{Leave, FillHi, ReadEpoch, ReadHome, Walk, ReadHi, Mark, Link, Unlink, QuickLink, QuickUnlink, Settle}
use Rattle.lock_core.specs.Words.{mode_of}
use Rattle.lock_core.specs.Nodes.{Listed, listed_of}
use Rattle.lock_core.specs.Views.{is_passed}
use Rattle.lock_core.specs.Machine.{held_at}
use Rattle.epoch_pools.specs.declared.record.Met.{Met}
use Rattle.epoch_pools.specs.declared.record.Lost.{Lost}
use Rattle.epoch_pools.specs.declared.record.Away.{Away}
use Rattle.epoch_pools.specs.declared.record.Noted.{Noted}
use Rattle.epoch_pools.specs.declared.record.Looked.{Looked}
use Rattle.epoch_pools.specs.declared.record.Occupied.{Occupied}
use Rattle.epoch_pools.specs.declared.record.Record.{Record}

-- before the first step
abbrev pub no_steps : Record
no_steps =
    record {
      taken = 0;
      client = None;
      met = None;
      lost = None;
      away = [];
      noted = [];
      looked = None;
      asked = [];
      occupied = [];
      walks = [];
      walked = 0;
      list = 0;
    }

-- ReadHi meets the cursor's node, with the lower end that was read before and the hi word that it finds
abbrev pub met_at : Record → Option Cursor → ℕ → Option Met
met_at t None found = t.met
met_at t (Some c) found =
    Some (record {
      owner = (c.cur / 2 - 1) / 16;
      held = record { range = record { lo = unwrap_or c.lo 0; hi = found / 2 }; mode = mode_of found };
      list = t.list;
      step = t.walked;
    })

abbrev pub met_after : Record → View → Step → ℕ → Option Met
met_after t v ReadHi found = met_at t v.cursor found
met_after t v _ found = t.met

-- the value that an exchange expects: the cursor's word, the end, or the own node with the low bit
abbrev pub cursor_word : Option Cursor → ℕ
cursor_word None = 0
cursor_word (Some c) = c.cur

abbrev pub own_word : Option Listed → ℕ
own_word None = 0
own_word (Some k) = 2 * suc k.node + 1

abbrev pub expected_by : View → Step → Option ℕ
expected_by v Link = Some (cursor_word v.cursor)
expected_by v Unlink = Some (cursor_word v.cursor)
expected_by v Settle = Some (cursor_word v.cursor)
expected_by v QuickLink = Some 0
expected_by v QuickUnlink = Some (own_word (listed_of v.own))
expected_by v _ = None

-- an exchange that finds another value than it expects is lost
abbrev pub lost_by : Record → Step → ℕ → Option ℕ → ℕ → Option Lost
lost_by t step place None found = t.lost
lost_by t step place (Some e) found =
    if found == e then t.lost
    else Some (record { kind = step; list = t.list; place = place; expected = e; found = found; step = t.taken })

-- a step that finds that list not empty where an empty one would have let its range be held or count at once
abbrev pub occupied_at : Record → ℕ → Bool → List Occupied
occupied_at t list clear = if clear then t.occupied else record { list = list; step = t.taken } ∷ t.occupied

-- of the steps of a list's lock that is the exchange of the fast path
abbrev pub occupied_after : Record → Step → ℕ → List Occupied
occupied_after t QuickLink found = occupied_at t t.list (found == 0)
occupied_after t _ found = t.occupied

-- what the record had of lists that weren't empty it still has
abbrev pub KeepsOccupied : Record → Record → Type 0
KeepsOccupied before after = (more : List Occupied) × (after.occupied ≡ more ++ before.occupied)

-- ReadHome adds a node that it finds away, and leaves the others, and so does Mark; a step of another kind forgets them
-- all
abbrev pub away_after : Record → Step → ℕ → List Away
away_after t (ReadHome n) found = if found == 1 then t.away else record { node = n; list = t.list; step = t.taken } ∷ t.away
away_after t Mark found = t.away
away_after t _ found = []

-- ReadEpoch adds an odd epoch of a seat that isn't passed after it
abbrev pub noted_after : Record → View → Step → ℕ → List Noted
noted_after t now (ReadEpoch j) found =
    if found % 2 == 0 || is_passed now j then t.noted else record { seat = j; epoch = found; list = t.list; step = t.taken } ∷ t.noted
noted_after t now _ found = t.noted

abbrev pub is_judging : Step → Bool
is_judging ReadHi = true
is_judging _ = false

-- nothing was held before, and something is now
abbrev pub gained_by : View → View → Bool
gained_by v now = is_none (held_at v.own) && is_some (held_at now.own)

-- what the cursor has looked at, by the cursor before and now: a new cursor begins anew, and what a cursor has looked
-- at stays when it goes
abbrev pub looked_on : Option Looked → Cursor → Bool → Bool → Option Looked
looked_on None c judging gained = None
looked_on (Some l) c judging gained =
    Some (record l { nodes = c.seen; judged = (if judging then l.judged + 1 else l.judged); ended = l.ended || c.cur == 0; held = l.held || gained })

abbrev pub looked_with : Record → Option Cursor → Option Cursor → Bool → Bool → Option Looked
looked_with t before None judging gained = t.looked
looked_with t None (Some c) judging gained = Some (record { nodes = c.seen; judged = 0; ended = c.cur == 0; held = gained; list = t.list; step = t.taken })
looked_with t (Some b) (Some c) judging gained = looked_on t.looked c judging gained

-- the walk of a cursor joins those that were left before it
abbrev pub with_walk : Option Cursor → Option Looked → List Looked → List Looked
with_walk None looked walks = walks
with_walk (Some c) None walks = walks
with_walk (Some c) (Some walk) walks = walk ∷ walks

-- that is where the seat leaves its epoch; no other step ends in the middle of a list, or at its end
abbrev pub walks_after : Record → View → Step → List Looked
walks_after t v Leave = with_walk v.cursor t.looked t.walks
walks_after t v _ = t.walks

-- the lower end that is filled in the own node
abbrev pub low_end : Own → ℕ
low_end Nothing = 0
low_end (Filling node lo hi mode aimed) = unwrap_or lo 0
low_end (Linked node range mode todo) = range.lo

-- FillHi asks for the range that it completes. FillLo before it forgets the higher end, and a node is linked only where
-- both ends are known, so this is the last store of an end before a link
abbrev pub asked_after : Record → View → Step → List Held
asked_after t v (FillHi hi mode) = record { range = record { lo = low_end v.own; hi = hi }; mode = mode } ∷ t.asked
asked_after t v _ = t.asked

-- the number of the last Walk
abbrev pub walked_at : Record → Step → ℕ
walked_at t Walk = t.taken
walked_at t _ = t.walked

-- the record after a step on the lock word of that place which found that value, in this view before and now
abbrev pub record_after : Record → View → Step → ℕ → ℕ → View → Record
record_after t v step place found now =
    record {
      taken = t.taken + 1;
      client = t.client;
      met = met_after t v step found;
      lost = lost_by t step place (expected_by v step) found;
      away = away_after t step found;
      noted = noted_after t now step found;
      looked = looked_with t v.cursor now.cursor (is_judging step) (gained_by v now);
      asked = asked_after t v step;
      occupied = occupied_after t step found;
      walks = walks_after t v step;
      walked = walked_at t step;
      list = t.list;
    }

-- the record after a step on client word i
abbrev pub client_trace : Record → ℕ → Record
client_trace t i = record t { taken = t.taken + 1; away = []; client = Some (record { place = i; step = t.taken }) }
