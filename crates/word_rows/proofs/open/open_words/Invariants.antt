use Rattle.std.proofs.Common.{◌-◌, ◌≡◌, ◌+◌, ◌≤◌, [], length, vec_capacity}
use Rattle.word_rows.specs.Rows.{IsSeated}
use Rattle.word_rows.proofs.open.open_words.Given as goal

-- the seats of the numbers so far are made, and the one in hand has what is left for the others
abbrev pub invariant-numbers : goal.invariant-numbers
invariant-numbers g l = record {
  below : l.number + 1 ≤ l.seats;
  room : vec_capacity l.made ≡ vec_capacity l.initial.made;
  count : length l.made.items ≡ l.number;
  made : IsSeated l.table.shared.table_id (g.R.StartRule.one l.seats l.words l.shares) l.made.items;
  same_table : l.seat.table_id ≡ l.table.shared.table_id;
  now : l.seat.me ≡ (g.R.StartRule.rest l.seats l.words l.shares l.number, []);
}

-- how many numbers are still to get a seat
abbrev pub decreases-numbers : goal.decreases-numbers
decreases-numbers g l = l.seats - l.number

-- which seat is cut off: the table's counts and words, and the number
abbrev pub ghosts-cut_off : goal.ghosts-cut_off
ghosts-cut_off g a = record { seats = a.start.now.seats; words = a.start.now.words.items; shares = a.start.now.shares.items; number = a.number }
