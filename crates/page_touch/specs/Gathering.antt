-- How the seats and words of a table are put together at its end. Only private functions speak of this; what a caller
-- sees of the closing are the clauses of `Touches::close`.
use Rattle.std.specs.Prelude.{ℕ, ◌+◌, ◌-◌, ◌==◌, if◌then◌else◌, List, [], ◌∷◌, ◌++◌, None, flat_map}
use Rattle.page_touch.specs.declared.records.SeatRecord.{SeatRecord}

-- the page of a word, if it has one
abbrev pub page_in : ℕ → List ℕ
page_in w = if w == 0 then [] else (w - 1) ∷ []

-- the pages of words, in their order
abbrev pub pages_in : List ℕ → List ℕ
pages_in words = flat_map page_in words

-- what belongs to two seats together
abbrev pub gathered : SeatRecord → SeatRecord → SeatRecord
gathered v w = record {
  quota = v.quota + w.quota;
  touched = v.touched ++ w.touched;
  firsts = v.firsts ++ w.firsts;
  looking = None;
  taken = v.taken + w.taken;
  last = None;
}
