use Rattle.std.proofs.Common.{rules, ◌≡◌, ◌∷◌, [], None, subst}
use Rattle.range_rw.specs.Contract.{SeatState}
use Rattle.range_sets.specs.Sets.{SetView}
use Rattle.range_sets.specs.Taking.{AreGranted, IsGranted, IsRefusedAt}
use Rattle.range_sets.proofs.Places.{four_seats, last_three, first_changed, granted_more, refused_behind, taken_back}
use Rattle.range_sets.proofs.taking.try_four.Goals as goal

-- the passes of the seats behind the first one are at rest
pub try_three-requires-clause-rest : goal.try_three-requires-clause-rest
try_three-requires-clause-rest g c = let s = c.set.inside in let at_rest = λ (x : SeatState g.row.G-Pass.Denot). g.G.Guard.is_at_rest x.pass in
    last_three at_rest s.a s.b s.c s.d (four_seats at_rest s.a.table s.a s.b s.c s.d c.args.set.now c.set.view_is c.requires.rest)

-- these seats hold nothing
pub try_three-requires-clause-free : goal.try_three-requires-clause-free
try_three-requires-clause-free g c = let s = c.set.inside in let free = λ (x : SeatState g.row.G-Pass.Denot). x.held ≡ None in
    last_three free s.a s.b s.c s.d (four_seats free s.a.table s.a s.b s.c s.d c.args.set.now c.set.view_is c.requires.free)

-- where the first want is refused, the pass of its seat is at rest still
pub returns-in-Err-clause-at_rest : goal.returns-in-Err-clause-at_rest
returns-in-Err-clause-at_rest g c = let s = c.set.inside in let at_rest = λ (x : SeatState g.row.G-Pass.Denot). g.G.Guard.is_at_rest x.pass in first_changed
    at_rest s.a c.take.new.self (s.b ∷ s.c ∷ s.d ∷ []) (four_seats at_rest s.a.table s.a s.b s.c s.d c.args.set.now c.set.view_is c.requires.rest)
    c.take.ensures.at_rest

-- a want behind the first was refused, and the first seat's range given back
pub returns-in-Err-try_three-clause-refused : goal.returns-in-Err-try_three-clause-refused
returns-in-Err-try_three-clause-refused g c =
    let t = c.args.table.now in let rest = c.in-Some.behind.now in let w = c.in-Some.want.now in let e = c.in_default-take.ensures in
    let now = c.take.new.self in let x = c.set.inside.a in
    let xs = c.set.inside.b ∷ c.set.inside.c ∷ c.set.inside.d ∷ [] in let ys = c.try_three.new.b ∷ c.try_three.new.c ∷ c.try_three.new.d ∷ [] in
    let all : c.args.wants.now ≡ c.in-Some.want.now ∷ c.in-Some.behind.now = search rules in
    let one : IsGranted t w x now = record {
      call = e.call;
      held = e.held;
      stands = e.stands;
      outside = e.outside;
      keeps = e.keeps;
      asks = e.asks;
      bound = e.each;
    } in
    let back = taken_back t g.G.Guard.rested w x now c.give_for.new.self one c.give_for.ensures.release in
    let of = c.in-Err-try_three.refused in let told = c.give_for.result in let say = c.give_for.ensures in
    let four = refused_behind t g.G.Guard.rested c.args.wants.now rest w x c.give_for.new.self xs ys of.index told.index of.why told.why all say.index say.why
    back c.in-Err-try_three.ensures.refused in
    subst (λ (s : SetView g.row.G-Pass.Denot). IsRefusedAt t g.G.Guard.rested c.args.wants.now s.seats (c.give_for.new.self ∷ ys) told.index told.why)
    c.set.view_is four

-- the first want was granted, and those behind it
pub returns-clause-granted : goal.returns-clause-granted
returns-clause-granted g c =
    let t = c.args.table.now in let rest = c.in-Some.behind.now in let w = c.in-Some.want.now in let e = c.in_default-take.ensures in
    let now = c.take.new.self in let x = c.set.inside.a in
    let xs = c.set.inside.b ∷ c.set.inside.c ∷ c.set.inside.d ∷ [] in let ys = c.try_three.new.b ∷ c.try_three.new.c ∷ c.try_three.new.d ∷ [] in
    let all : c.args.wants.now ≡ c.in-Some.want.now ∷ c.in-Some.behind.now = search rules in
    let one : IsGranted t w x now = record {
      call = e.call;
      held = e.held;
      stands = e.stands;
      outside = e.outside;
      keeps = e.keeps;
      asks = e.asks;
      bound = e.each;
    } in
    let four = granted_more t c.args.wants.now rest w x now xs ys all one c.in_default-try_three.ensures.granted in
    subst (λ (s : SetView g.row.G-Pass.Denot). AreGranted t c.args.wants.now s.seats (now ∷ ys)) c.set.view_is four
