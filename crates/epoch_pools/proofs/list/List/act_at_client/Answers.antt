use Rattle.std.proofs.Common.{◌+◌, ◌-◌, ◌*◌, ◌%◌, ◌^◌, [], eqb, length, refl, ap, ◌∙◌, sym}
use Rattle.std.proofs.lemmas.List.{set-get_or}
use prog.Atomic.{either}
use Rattle.list_cuts.specs.Cut.{list_count}
use Rattle.lock_core.specs.Client.{place_of}
use Rattle.lock_core.specs.Words.{word_count}
use Rattle.epoch_pools.specs.Hands.{cut_of}
use Rattle.epoch_pools.proofs.ClientSteps.{IsClientCall, client_goes, client_stores, client_place, client_made, acts_on}
use Rattle.epoch_pools.proofs.Placing.{token_of, one_table}
use Rattle.epoch_pools.proofs.list.List.act_at_client.Given.{Over}
use Rattle.epoch_pools.proofs.list.List.act_at_client.Goals as goal
use Rattle.epoch_pools.proofs.list.List.act_at_client.Goals.{After-client_word-word}

-- what the call knows of its token, the table, the step and the client word
call : (g : Over) (c : After-client_word-word g) → let key = c.self.inside.table.shared.key in
    let start = list_count (cut_of key.shares.items) * word_count key.seats in
    IsClientCall (g.G.Guard.first [] 0) g.G.Guard.holds g.G.Guard.allows g.M.Means.note c.token.inside.seat.me.0.parts c.token.inside.lists
    c.token.inside.list c.token.inside.seat.table_id c.self.inside.table.shared.table_id c.args.token.now.part g.C.Acting.lists g.C.Acting.list
    (cut_of key.shares.items) key.seats (length key.words.items - start) g.C.Acting.acting c.args.act c.args.i c.client_word-word.result
call g c = record {
  law = g.G.Guard.keeps;
  token = token_of _ c.token.invariant c.token.view_is c.requires.lists;
  same = one_table c.token.view_is c.self.view_is c.requires.table;
  acting = c.requires.acting;
  there = client_place c.self.invariant c.self.view_is (ap place_of c.requires.acting ∙ acts_on c.args.act c.args.i) c.requires.place
      c.client_word-word.ensures;
  allowed = c.requires.allowed;
}

-- each operation that the guard allows keeps the rule, and tells what it should
pub load-requires : goal.load-requires
load-requires g c = client_goes (call g (goal.at.load-requires g c).After-client_word-word) _ _ c.in-Load.is (λ n. n)
    (λ words. sym (set-get_or words c.args.i 0))

pub store-requires : goal.store-requires
store-requires g c = client_stores (call g (goal.at.store-requires g c).After-client_word-word) _ _ c.in-Store.is

pub fetch_add-requires : goal.fetch_add-requires
fetch_add-requires g c = client_goes (call g (goal.at.fetch_add-requires g c).After-client_word-word) _ _ c.in-Add.is (λ n. (n + c.in-Add.by) % 2 ^ 64)
    (λ words. refl)

pub compare_exchange-requires : goal.compare_exchange-requires
compare_exchange-requires g c = client_goes (call g (goal.at.compare_exchange-requires g c).After-client_word-word) _ _ c.in-Exchange.is
    (λ n. either (eqb n c.in-Exchange.expected) c.in-Exchange.new n) (λ words. refl)

-- a store was made at a moment, whatever value it found
pub returns-in-Store-clause-stored : goal.returns-in-Store-clause-stored
returns-in-Store-clause-stored g c = let told = c.store.ensures.2 in
    (told.0, client_made told.1 (call g (goal.at.returns-in-Store-clause-stored g c).After-client_word-word).token)
