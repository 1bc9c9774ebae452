-- How texts stand in one buffer: each behind the one before it, up to its end. The number of a process that texts share
-- stands before them, and not in the buffer. It ties the type of the code to the list of numbered texts that contracts
-- see.
use Rattle.std.specs.Prelude.{◌≡◌, ℕ, zero, suc, ◌≤◌, ◌-◌, List, [], ◌∷◌, length, take, drop, Bool, if◌then◌else◌}
use Rattle.raw_logs.specs.declared.lines.End.{End}
use Rattle.raw_logs.specs.declared.lines.Sieve.{Sieve}
use Rattle.raw_logs.specs.Log.{Numbered, line_of}
use Rattle.raw_logs.specs.Numbering.{with_number}

-- a text as a whole, where it may have the number that texts share
abbrev pub shown : ℕ → Bool → List ℕ → List ℕ
shown first numbered body = if numbered then with_number first body else body

-- the texts of a buffer, from this byte on
abbrev pub cut_at : ℕ → ℕ → List ℕ → List End → List Numbered
cut_at first from bytes [] = []
cut_at first from bytes (end ∷ ends) =
    line_of end.number (shown first end.numbered (take (end.behind - from) (drop from bytes))) ∷ cut_at first end.behind bytes ends

-- the ends rise from this byte on, and the last is the buffer's
abbrev pub AreEnds : ℕ → ℕ → List End → Type 0
AreEnds from count [] = from ≡ count
AreEnds from count (end ∷ ends) = (from ≤ end.behind) × AreEnds end.behind count ends

-- where a text begins
abbrev pub start_at : ℕ → List End → ℕ → ℕ
start_at from [] place = from
start_at from (end ∷ ends) zero = from
start_at from (end ∷ ends) (suc place) = start_at end.behind ends place

-- ---- texts of which some are kept

-- those that were kept stand at the front of the buffer, and those that weren't looked at where they stood
pub record IsSieve (sieve : Sieve) : Type 0 where
  pub few : sieve.kept ≤ sieve.place
  pub short : sieve.behind ≤ sieve.from
  pub within : sieve.from ≤ length sieve.bytes.items
  pub front : AreEnds 0 sieve.behind (take sieve.kept sieve.ends.items)
  pub back : AreEnds sieve.from (length sieve.bytes.items) (drop sieve.place sieve.ends.items)

-- the texts that were kept
abbrev pub kept_in : Sieve → List Numbered
kept_in sieve = cut_at sieve.first 0 (take sieve.behind sieve.bytes.items) (take sieve.kept sieve.ends.items)

-- the texts that weren't looked at
abbrev pub rest_in : Sieve → List Numbered
rest_in sieve = cut_at sieve.first sieve.from sieve.bytes.items (drop sieve.place sieve.ends.items)
