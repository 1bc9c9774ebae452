use Rattle.std.proofs.Common.{◌*◌, ◌<◌, [], ◌∙◌, ap, sym, subst, arith}
use Rattle.std.proofs.lemmas.Nat.{mul-le}
use Rattle.list_cuts.specs.Cut.{list_count}
use Rattle.epoch_pools.specs.Hands.{ListShape, HandState}
use Rattle.epoch_pools.proofs.Placing.{token_of, one_table}
use Rattle.epoch_pools.proofs.LookSteps.{token_looks, head_there, part_looked}
use Rattle.epoch_pools.proofs.list.List.look_at.Goals as goal

-- there are few lists, and each has few words
pub overflow_mul-head : goal.overflow_mul-head
overflow_mul-head g c =
    let there : c.args.list < c.token.inside.lists = subst (λ (h : HandState _). c.args.list < h.part.pass.lists) (sym c.token.view_is) c.requires.there in
    let most = c.token.invariant.2.most in let few = c.token.invariant.2.few in let words = c.lock_word_count.ensures in
    let small = mul-le c.args.list c.lock_word_count.result 17 1041 (omega arith) (omega arith) in omega arith

-- a look that the seat may make keeps the rule, and tells what it should
pub load-requires : goal.load-requires
load-requires g c = let shape = c.self.view_is in let token = token_of (g.G.Guard.first [] 0) c.token.invariant c.token.view_is c.requires.lists in
    let same = one_table c.token.view_is shape c.requires.table in let there = ap (λ n. c.args.list * n) c.lock_word_count.ensures in (
      same,
      head_there same token c.requires.there there,
      token_looks (g.G.Guard.first [] 0) c.args.self.now.cut _ _ g.G.Guard.holds g.G.Guard.rested g.G.Guard.gains
          (subst (λ (s : ListShape). 0 < s.cut.count) shape c.self.invariant.is_cut.0) (c.self.invariant.same_cut ∙ ap (λ s. s.cut) shape)
          c.requires.cut (c.self.invariant.same_seats ∙ ap (λ s. s.seats) shape) c.requires.at g.D.Look.standing g.D.Look.too _ _ _ c.token.inside.seat.me token
          c.requires.may there,
    )

-- what belongs to the seat has the standing of the look
pub returns-clause-part : goal.returns-clause-part
returns-clause-part g c = part_looked c.load.ensures.2 c.requires.at (token_of _ c.token.invariant c.token.view_is c.requires.lists)

-- the table has as many lists as its cut
pub returns-clause-lists : goal.returns-clause-lists
returns-clause-lists g c = sym c.requires.lists.0 ∙ (c.load.ensures.2.many ∙ ap list_count c.requires.cut)
