use Rattle.epoch_pools.specs.Beside.{given_back}
use Rattle.marked_list.proofs.Beginning.{may_make_cursor, cursor_made}
use Rattle.marked_list.proofs.walk_loop.make_cursor.Goals as goal

-- where a walk may begin, its first load may be made
pub step-requires-clause-enabled : goal.step-requires-clause-enabled
step-requires-clause-enabled g c = may_make_cursor c.args.hand.now.part c.requires.begins

-- the cursor names the word that was found
pub returns-clause-made : goal.returns-clause-made
returns-clause-made g c = cursor_made c.args.hand.now.part c.requires.begins (given_back g.G.Guard.rested) c.step.new.hand.part c.step.result
    c.step.ensures.made _ c.step.ensures.told
