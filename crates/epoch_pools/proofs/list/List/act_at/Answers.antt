use Rattle.std.proofs.Common.{◌+◌, ◌%◌, ◌^◌, [], ◌∙◌, ap, sym, refl, eqb}
use prog.Atomic.{either}
use Rattle.epoch_pools.proofs.LockSteps.{IsLockCall, lock_goes, lock_puts, made_played, either_if}
use Rattle.epoch_pools.proofs.Placing.{token_of, one_table}
use Rattle.epoch_pools.proofs.list.List.act_at.Given.{Over}
use Rattle.epoch_pools.proofs.list.List.act_at.Goals as goal
use Rattle.epoch_pools.proofs.list.List.act_at.Goals.{After-place_of-place}

-- what the call knows of its token, the table, the step and the step's word
call : (g : Over) (c : After-place_of-place g) → IsLockCall (g.G.Guard.first [] 0) g.G.Guard.holds g.G.Guard.rested g.G.Guard.is_at_rest
    c.token.inside.seat.me.0.parts c.token.inside.lists c.token.inside.list c.token.inside.seat.table_id c.self.inside.table.shared.table_id
    c.args.token.now.part g.D.Doing.lists g.D.Doing.list c.self.inside.table.shared.key.seats g.D.Doing.seats g.D.Doing.doing c.args.word
    c.place_of-place.result
call g c = record {
  gains = g.G.Guard.gains;
  loses = g.G.Guard.loses;
  token = token_of _ c.token.invariant c.token.view_is c.requires.lists;
  same = one_table c.token.view_is c.self.view_is c.requires.table;
  same_seats = c.self.invariant.same_seats ∙ (ap (λ s. s.seats) c.self.view_is ∙ sym c.requires.seats);
  may = c.requires.enabled;
  rests = c.requires.rest;
  at = c.requires.place.0;
  low = c.requires.place.1;
  there = c.place_of-place.ensures;
}

-- each operation that is the step's keeps the rule, and tells what it should
pub load-requires : goal.load-requires
load-requires g c = lock_goes (call g (goal.at.load-requires g c).After-place_of-place) c.requires.writes _ _ _ _ c.in-Load.is (λ n. n) (λ n. refl)

pub store-requires : goal.store-requires
store-requires g c = lock_puts (call g (goal.at.store-requires g c).After-place_of-place) c.requires.writes _ _ _ _ c.in-Store.is

pub fetch_add-requires : goal.fetch_add-requires
fetch_add-requires g c = lock_goes (call g (goal.at.fetch_add-requires g c).After-place_of-place) c.requires.writes _ _ _ _ c.in-Add.is
    (λ n. (n + 1) % 2 ^ 64) (λ n. refl)

pub compare_exchange-requires : goal.compare_exchange-requires
compare_exchange-requires g c = lock_goes (call g (goal.at.compare_exchange-requires g c).After-place_of-place) c.requires.writes _ _ _ _ c.in-Exchange.is
    (λ n. either (eqb n c.in-Exchange.old) c.in-Exchange.new n) (λ n. either_if (eqb n c.in-Exchange.old) c.in-Exchange.new n)

-- what belongs to the seat is that of the step's line, and what the step says
pub returns-in-Load-clause-made : goal.returns-in-Load-clause-made
returns-in-Load-clause-made g c =
    made_played c.load.ensures.2 (call g (goal.at.returns-in-Load-clause-made g c).After-place_of-place).token c.in-Load.is _ refl

pub returns-in-Store-clause-made : goal.returns-in-Store-clause-made
returns-in-Store-clause-made g c =
    made_played c.store.ensures.2.1 (call g (goal.at.returns-in-Store-clause-made g c).After-place_of-place).token c.in-Store.is _ refl

pub returns-in-Add-clause-made : goal.returns-in-Add-clause-made
returns-in-Add-clause-made g c =
    made_played c.fetch_add.ensures.2 (call g (goal.at.returns-in-Add-clause-made g c).After-place_of-place).token c.in-Add.is _ refl

pub returns-in-Exchange-clause-made : goal.returns-in-Exchange-clause-made
returns-in-Exchange-clause-made g c =
    made_played c.compare_exchange.ensures.2 (call g (goal.at.returns-in-Exchange-clause-made g c).After-place_of-place).token c.in-Exchange.is _ refl
