use Rattle.std.proofs.Common.{rules}
use Rattle.std.specs.Mem.Slots.{slots_items}
use Rattle.epoch_pools.proofs.Joining.{copied}
use Rattle.epoch_pools.proofs.closing.copy_words.Goals as goal

-- with one word more the words so far are copied
pub words-preserved : goal.words-preserved
words-preserved c = let i = c.words.invariant in record {
  below = search rules;
  room = search rules;
  count = search rules;
  items = copied (slots_items c.args.closed.now.words) _ _ c.args.from c.words.i _ i.items c.push_reserved.ensures.items c.word.ensures;
}
