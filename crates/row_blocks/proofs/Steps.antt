-- What steps leave of a hand, besides the words and the number of steps, as one: every loop over words keeps it.
use Rattle.std.proofs.Common.{ℕ}
use Rattle.row_blocks.specs.declared.words.Loads.{Ghosts}

-- the hand may go on, each word that was a row is one, and the rest is what steps leave
pub record HasStepped {Words Hand : Type 0} (L : Ghosts Words Hand) (words : Words) (one two : Hand) : Type 0 where
  pub may : L.may_store words two
  pub rows : (w : ℕ) → L.is_row words one w → L.is_row words two w
  pub kept : L.kept words one two

module _ {Words Hand : Type 0} where
  -- before the first step
  pub steps_none : (L : Ghosts Words Hand) (words : Words) (hand : Hand) → L.may_store words hand → HasStepped L words hand hand
  steps_none L words hand may = record { may = may; rows = λ w r. r; kept = L.no_step words hand }

  -- and after one more
  pub steps_more : {L : Ghosts Words Hand} {words : Words} {one two : Hand} (three : Hand) → HasStepped L words one two → L.may_store words three
      → ((w : ℕ) → L.is_row words two w → L.is_row words three w) → L.kept words two three → HasStepped L words one three
  steps_more {L} {words} {one} {two} three so_far may rows kept = record {
    may = may;
    rows = λ w r. rows w (so_far.rows w r);
    kept = L.steps_on words one two three so_far.kept kept;
  }

  -- three steps leave what one does
  pub three_steps : (L : Ghosts Words Hand) (words : Words) (one two three four : Hand) → L.kept words one two → L.kept words two three
      → L.kept words three four → L.kept words one four
  three_steps L words one two three four first second third = L.steps_on words one three four (L.steps_on words one two three first second) third
