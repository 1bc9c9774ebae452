use Rattle.std.proofs.Common.{◌≡◌, ◌∙◌, ap, sym, arith, Bool, true, false, if◌then◌else◌}
use Rattle.epoch_pools.proofs.Taking.{both_looks, home_known}
use Rattle.epoch_pools.proofs.Looking.{beside_read, core_more, fresh_more, none_more, homes_room}
use Rattle.epoch_pools.proofs.list.List.read_homes.Goals as goal
use Rattle.epoch_pools.proofs.list.List.read_homes.Goals.{then-look_home, else-look_home}

-- the lists say which home words may be read
pub look_home-requires-clause-beside : goal.look_home-requires-clause-beside
look_home-requires-clause-beside g c = let p = c.args.token.now.part in
    beside_read p.seats p.core c.nodes.token.part.core c.args.used.now c.nodes.homes c.nodes.came c.requires.used
    (λ off. c.nodes.invariant.none off ∙ c.requires.homes) c.nodes.invariant.core

-- the closed line after one look more
pub nodes-preserved : goal.nodes-preserved
nodes-preserved g c = let p = c.args.token.now.part in let q = c.nodes.token.part in let r = c.look_home.new.token.part in
    let was = c.nodes.invariant in let look = c.look_home.ensures in let b = c.look_home.result in
    let by : c.if-look_home.came ≡ (if b then true else c.nodes.came) = elim c.if-look_home.branch [
      | then-look_home w ↦ w.came-is ∙ ap (λ (t : Bool). if t then true else c.nodes.came) (sym w.if-look_home.true)
      | else-look_home w ↦ w.came-is ∙ ap (λ (t : Bool). if t then true else c.nodes.came) (sym w.if-look_home.false)
    ] in
    let none : c.nodes.came ≡ false → c.nodes.homes ≡ p.core.homes = λ off. was.none off ∙ c.requires.homes in record {
      table = look.table ∙ was.table;
      sound = look.sound;
      core = core_more p q r c.nodes.homes c.look_home.new.homes c.nodes.came c.nodes.node b c.if-look_home.came by was.on.call.seats was.core
          none look.core look.homes;
      fresh = λ first x above. fresh_more b c.nodes.homes c.look_home.new.homes c.nodes.node x look.homes (omega arith) (was.fresh first x (omega arith));
      none = λ off. none_more p q r c.nodes.homes c.look_home.new.homes c.nodes.came c.nodes.node b c.if-look_home.came by none
          look.homes off ∙ sym c.requires.homes;
      on = both_looks p q r was.on look.on;
      known = λ x low high. home_known p q r c.nodes.node x was.on.call.list was.on.call.taken look.on.call.taken look.looked
          (λ other. was.known x low (omega arith));
      taken = let a = was.taken in let b = look.taken in omega arith;
      counted = let a = was.counted in let b = look.counted in omega arith;
    }

-- the homes have room behind the ready nodes
pub returns-clause-room : goal.returns-clause-room
returns-clause-room g c = let p = c.args.token.now.part in let q = c.nodes.token.part in
    let was = c.nodes.invariant in let seats = was.on.call.seats in let same = was.on.call.number in let below = c.seat_count-seats.ensures.there in
    let few = c.seat_count-seats.ensures.few in
    homes_room p q c.nodes.homes c.nodes.came was.sound (omega arith) (omega arith) (λ off. was.none off ∙ c.requires.homes) was.core
