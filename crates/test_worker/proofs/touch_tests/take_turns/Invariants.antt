use Rattle.std.proofs.Common.{◌≡◌, ◌+◌, ◌≤◌, length, drop}
use Rattle.std.specs.Prelude.{vec_capacity, vec_len}
use Rattle.test_worker.proofs.touch_tests.take_turns.Given as goal

-- the seats are of their table, with their quotas, and there is room for the answers of the turns that are left
abbrev pub invariant-turns : goal.invariant-turns
invariant-turns l = record {
  one_table : l.one.table ≡ l.initial.one.table;
  other_table : l.other.table ≡ l.initial.other.table;
  one_quota : l.one.quota ≡ l.initial.one.quota;
  other_quota : l.other.quota ≡ l.initial.other.quota;
  room : vec_len l.answers + length (drop l.turn-index l.turns) ≤ vec_capacity l.answers;
}
