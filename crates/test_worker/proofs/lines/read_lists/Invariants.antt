use Rattle.std.proofs.Common.{◌≡◌, ◌<◌, ◌+◌, ◌^◌, ◌++◌, drop, map, length}
use Rattle.std.specs.Prelude.{All, vec_items, vec_len}
use Rattle.page_types.specs.Named.{IsNamedCall}
use Rattle.test_worker.proofs.lines.read_lists.Given as goal

-- the lists so far are as long as asked for, and named; the numbers that are left are as small as all
abbrev pub invariant-counts : goal.invariant-counts
invariant-counts l = record {
  counts : map length (map vec_items l.lists.items) ++ drop l.count-index l.counts ≡ l.counts;
  few : All (λ list. vec_len list < 2 ^ 32) l.lists.items;
  named : All (λ ls. All (λ m. IsNamedCall m.call) ls) (map vec_items l.lists.items);
  first : l.first ≡ 1 + l.count-index;
}
