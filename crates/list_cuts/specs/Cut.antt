-- How the numbers are shared out among the lists of one table. Blocks of 2^bits numbers are dealt out in turn to
-- regions, and each region has a list of its own; where there are several, list 0 stands beside them for the ranges
-- with numbers in more than one. A range takes the list of each of its numbers, so two ranges that overlap take a list
-- in common: that is what exclusion over several lists rests on. This project's own profile.
use Rattle.std.specs.Prelude.{◌≡◌, ◌≢◌, ℕ, ◌+◌, ◌/◌, ◌%◌, ◌^◌, ◌<◌, ◌≤◌, ◌==◌, if◌then◌else◌}
use Rattle.lock_core.specs.Range.{Interval, IsRange, Overlaps}

-- how many regions there are, and of how many numbers a block is, as the exponent of a power of two
pub record Regions : Type 0 where
  pub count : ℕ
  pub bits : ℕ

-- there are from 1 to 16 regions, and a block has at most 2^62 numbers
abbrev pub IsCut : ℕ → ℕ → Type 0
IsCut count bits = (0 < count) × (count ≤ 16) × (bits ≤ 62)

-- the list of the first region: list 0 where there is no other region, and otherwise list 1, behind that of wide ranges
abbrev pub first_list : Regions → ℕ
first_list c = if c.count == 1 then 0 else 1

abbrev pub list_count : Regions → ℕ
list_count c = first_list c + c.count

-- the list of a number: blocks are dealt out in turn
abbrev pub list_of : Regions → ℕ → ℕ
list_of c n = first_list c + n / 2 ^ c.bits % c.count

-- a range takes the list of each of its numbers
pub record Takes (c : Regions) (range : Interval) (list : ℕ) : Type 0 where
  pub number : ℕ
  pub low : range.lo ≤ number
  pub high : number < range.hi
  pub is : list_of c number ≡ list

-- a narrow range takes one list alone
pub record TakesOne (c : Regions) (range : Interval) (list : ℕ) : Type 0 where
  pub takes : Takes c range list
  pub alone : (other : ℕ) → Takes c range other → other ≡ list

-- a wide range takes two different lists
pub record TakesTwo (c : Regions) (range : Interval) : Type 0 where
  pub one : ℕ
  pub two : ℕ
  pub differ : one ≢ two
  pub takes_one : Takes c range one
  pub takes_two : Takes c range two

-- both ranges take that list, which is there
pub record Meets (c : Regions) (a b : Interval) : Type 0 where
  pub list : ℕ
  pub there : list < list_count c
  pub left : Takes c a list
  pub right : Takes c b list

-- two ranges that overlap take a list in common
abbrev pub OverlapsMeet : Type 0
OverlapsMeet = (c : Regions) (a b : Interval) → 0 < c.count → IsRange a.lo a.hi → IsRange b.lo b.hi → Overlaps a b → Meets c a b
