use Rattle.std.proofs.Common.{◌≡◌, ◌+◌, ◌-◌, ◌*◌, ◌≤◌}
use Rattle.page_touch.specs.Probes.{MayProbe, count_of}
use Rattle.page_touch.proofs.table.Touches.find.Given as goal

-- so far the call has but looked at other pages, in two steps a word at most
abbrev pub invariant-words : goal.invariant-words
invariant-words g l = record {
  table : l.token.table ≡ l.self.table;
  may : MayProbe l.self.room l.page l.place l.token.own;
  quota : l.token.own.quota ≡ l.initial.token.own.quota;
  touched : l.token.own.touched ≡ l.initial.token.own.touched;
  firsts : l.token.own.firsts ≡ l.initial.token.own.firsts;
  taken : l.initial.token.own.taken ≤ l.token.own.taken;
  bound : l.token.own.taken ≤ l.initial.token.own.taken + 2 * count_of l.token.own.looking;
  counted : l.steps + l.initial.token.own.taken ≡ l.initial.steps + l.token.own.taken;
}

-- each turn looks at one word more
abbrev pub decreases-words : goal.decreases-words
decreases-words g l = l.self.room - count_of l.token.own.looking
