use Rattle.std.proofs.Common.{rules, ◌≡◌, ◌∷◌, []}
use Rattle.range_sets.specs.Taking.{IsGranted}
use Rattle.range_sets.proofs.Places.{granted_more, refused_behind, taken_back}
use Rattle.range_sets.proofs.taking.try_two.Goals as goal

-- a want behind the first was refused, and the first seat's range given back
pub returns-in-Err-try_last-clause-refused : goal.returns-in-Err-try_last-clause-refused
returns-in-Err-try_last-clause-refused g c =
    let t = c.args.table.now in let rest = c.in-Some.behind.now in let w = c.in-Some.want.now in let e = c.in_default-take.ensures in
    let now = c.take.new.self in let xs = c.args.d.now ∷ [] in let ys = c.try_last.new.d ∷ [] in
    let all : c.args.wants.now ≡ c.in-Some.want.now ∷ c.in-Some.behind.now = search rules in
    let one : IsGranted t w c.args.c.now now = record {
      call = e.call;
      held = e.held;
      stands = e.stands;
      outside = e.outside;
      keeps = e.keeps;
      asks = e.asks;
      bound = e.each;
    } in
    let back = taken_back t g.G.Guard.rested w c.args.c.now now c.give_for.new.self one c.give_for.ensures.release in
    let of = c.in-Err-try_last.refused in let told = c.give_for.result in let say = c.give_for.ensures in
    refused_behind t g.G.Guard.rested c.args.wants.now rest w c.args.c.now c.give_for.new.self xs ys of.index told.index of.why told.why all say.index say.why
    back c.in-Err-try_last.ensures.refused

-- the first want was granted, and those behind it
pub returns-clause-granted : goal.returns-clause-granted
returns-clause-granted g c =
    let t = c.args.table.now in let rest = c.in-Some.behind.now in let w = c.in-Some.want.now in let e = c.in_default-take.ensures in
    let now = c.take.new.self in let xs = c.args.d.now ∷ [] in let ys = c.try_last.new.d ∷ [] in
    let all : c.args.wants.now ≡ c.in-Some.want.now ∷ c.in-Some.behind.now = search rules in
    let one : IsGranted t w c.args.c.now now = record {
      call = e.call;
      held = e.held;
      stands = e.stands;
      outside = e.outside;
      keeps = e.keeps;
      asks = e.asks;
      bound = e.each;
    } in
    granted_more t c.args.wants.now rest w c.args.c.now now xs ys all one c.in_default-try_last.ensures.granted
