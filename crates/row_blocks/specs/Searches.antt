-- What halving over rows comes to, as a record, so that a proof can hand it on as one: of words of which the first is
-- known to start at or before a page, the last one that does, and where the next one starts. The form is this
-- project's own; a reader may rely on each part being about a word that was loaded.
use Rattle.std.specs.Prelude.{ℕ, ◌≡◌, ◌<◌, ◌≤◌, ◌+◌, List, slice_index}
use Rattle.row_plans.specs.RowWords.{row_start}

-- among so many words from one on; the word of place 0 isn't told, nor what comes behind the last place
pub record IsLast (words : List ℕ) (from size page place word next : ℕ) : Type 0 where
  pub below : place < size
  pub here : 0 < place → word ≡ slice_index words (from + place)
  pub before : 0 < place → row_start word ≤ page
  pub behind : page < next
  pub follows : place + 1 < size → next ≡ row_start (slice_index words (from + (place + 1)))
