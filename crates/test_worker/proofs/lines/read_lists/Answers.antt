use Rattle.std.proofs.Common.{rules, ◌≡◌, ◌<◌, ◌≤◌, ◌^◌, [], ◌∷◌, ◌++◌, map, get_or, arith}
use Rattle.std.specs.Prelude.{All, vec_items, vec_len}
use Rattle.lock_core.proofs.ByPlace.{same_or}
use Rattle.page_types.specs.Named.{IsNamedCall}
use Rattle.test_worker.proofs.Dealing.{all_more, items_more, counts_more}
use Rattle.test_worker.proofs.lines.read_lists.Goals as goal

-- one list more is as long as asked for, and named
pub counts-preserved : goal.counts-preserved
counts-preserved c =
    let list = c.in_ok-reads.field-0 in let n = get_or c.args.counts.now c.counts.count-index 0 in
    let few : n ≤ 1000 = c.requires.counts c.counts.count-index 0 c.counts-test.true in
    let long = c.in_ok-reads.ensures.count in
    let pushed : c.push.new.self.items ≡ c.counts.lists.items ++ list ∷ [] = search rules in
    record {
      counts = counts_more c.counts.lists.items c.push.new.self.items list c.args.counts.now c.counts.count-index n pushed
          c.counts-test.true (same_or c.args.counts.now c.counts.count-index 0 n c.counts-test.true) long c.counts.invariant.counts;
      few = all_more (λ v. vec_len v < 2 ^ 32) c.counts.lists.items c.push.new.self.items list pushed c.counts.invariant.few
          (omega (arith, long, few, list.ok.0));
      named = all_more (λ ls. All (λ m. IsNamedCall m.call) ls) (map vec_items c.counts.lists.items) (map vec_items c.push.new.self.items) (vec_items list)
          (items_more c.counts.lists.items c.push.new.self.items list pushed) c.counts.invariant.named c.in_ok-reads.ensures.named;
      first = (let f = c.counts.invariant.first in omega arith);
    }
