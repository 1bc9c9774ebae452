-- How the whole history is put together when a space is closed: each caller's entries go to the places of their
-- numbers. Only private functions speak of this; what callers see is `IsWhole`.
use Rattle.std.specs.Prelude.{true, length, ℕ, ◌≡◌, ◌+◌, ◌≤◌, ◌<◌, ◌^◌, None, List, [], ◌∷◌, map, vec_len, vec_capacity}
use mathlib.Core.Option.{some}
use lib.ListN.{get_elem?}
use Rattle.page_types.specs.declared.TheConstants.{SPARE}
use Rattle.space_model.specs.declared.entries.Entry.{Entry}
use Rattle.range_rw.specs.Contract.{SeatState}
use Rattle.area_guard.specs.declared.guard.Pass.{Pass}
use Rattle.area_rows.specs.declared.close.Kept.{Kept}
use Rattle.area_guard.specs.Rows.{blocks_by, keeps_by, room_of}
use Rattle.area_guard.specs.History.{entry_count, IsAtRest}
use Rattle.area_rows.specs.Callers.{CallerView, IsHeldPages}

-- each of these entries stands in the history at the place of its number
abbrev pub AllStand : List Entry → List Entry → Type 0
AllStand history mine = (j : ℕ) (e : Entry) → get_elem? mine j ≡ some e → get_elem? history e.number ≡ some e

-- at this place the entries are those of the history
abbrev pub AgreesAt : List Entry → List Entry → ℕ → Type 0
AgreesAt history out i = get_elem? out i ≡ get_elem? history i

-- at the places of these entries' numbers the entries are those of the history
abbrev pub ArePlaced : List Entry → List Entry → List Entry → Type 0
ArePlaced history mine out = (j : ℕ) (e : Entry) → get_elem? mine j ≡ some e → AgreesAt history out e.number

-- the numbers of these entries are below a bound
abbrev pub AreBelow : ℕ → List Entry → Type 0
AreBelow bound mine = (j : ℕ) (e : Entry) → get_elem? mine j ≡ some e → e.number < bound

-- a caller's pass
abbrev pub caller_pass : CallerView → Pass
caller_pass c = c.seat.pass

-- how many entries the callers have together
abbrev pub callers_count : List CallerView → ℕ
callers_count callers = entry_count (map caller_pass callers)

-- a caller from its seat and what it has besides
abbrev pub caller_of : SeatState Pass → Kept → CallerView
caller_of s k = record { seat = s; left = k.left; count = k.count; cut = k.cut; more = k.plan.items; change = k.change }

-- a seat and the rest of a caller belong together
pub record IsPair (s : SeatState Pass) (k : Kept) (c : CallerView) : Type 0 where
  pub whole : c ≡ caller_of s k
  pub number : s.number ≡ k.worker
  pub mine : k.keeps ≡ true → k.mine.items ≡ s.pass.mine
  pub room : k.keeps ≡ true → vec_len k.mine + k.left ≤ vec_capacity k.mine
  pub few : length s.pass.mine + k.left ≤ s.pass.most
  pub plan : room_of s.pass.blocks + SPARE ≤ vec_capacity k.plan
  pub pages : IsHeldPages s.held
  pub rest : s.held ≡ None → IsAtRest s.pass
  pub blocks : s.pass.blocks ≡ blocks_by s.table
  pub most : s.pass.most < 2 ^ 57
  pub kept : k.keeps ≡ keeps_by s.table
  pub keeps : s.pass.keeps ≡ keeps_by s.table

-- the same of lists of them
abbrev pub ArePairs : List (SeatState Pass) → List Kept → List CallerView → Type 0
ArePairs [] [] [] = Unit {0}
ArePairs (s ∷ ss) (k ∷ ks) (c ∷ cs) = IsPair s k c × ArePairs ss ks cs
ArePairs _ _ _ = ⊥

-- the callers are of a space that keeps its history
abbrev pub AreKeeping : List CallerView → Type 0
AreKeeping callers = (k : ℕ) (c : CallerView) → get_elem? callers k ≡ some c → keeps_by c.seat.table ≡ true

-- what the callers kept are their own entries
abbrev pub AreKept : List Kept → List CallerView → Type 0
AreKept [] [] = Unit {0}
AreKept (k ∷ ks) (c ∷ cs) = (k.mine.items ≡ c.seat.pass.mine) × AreKept ks cs
AreKept _ _ = ⊥

-- the callers that seats and the rest make together
abbrev pub together : List (SeatState Pass) → List Kept → List CallerView
together [] ks = []
together (s ∷ ss) [] = []
together (s ∷ ss) (k ∷ ks) = caller_of s k ∷ together ss ks
