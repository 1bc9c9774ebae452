use Rattle.std.proofs.Common.{◌≡◌, ◌+◌, ◌*◌, sym, ap, ◌∙◌, subst, arith}
use Rattle.std.specs.Prelude.{Some}
use Rattle.marked_list.specs.declared.answers.Passed.{Passed}
use Rattle.marked_list.specs.declared.answers.Passed.TheVariants.{End as ListEnd, Long as TooLong}
use Rattle.range_rw.specs.Seats.{seat_state_of}
use Rattle.range_rw.specs.Scan.{scanned_as, IsNextIn, ListGives, IsNoEnd}
use Rattle.range_rw.proofs.SeatedScans.{stays_on, opened_inside, no_end, passes_list}
use Rattle.range_rw.proofs.scan.pass_or_turn.Goals as goal

-- there is a next list
pub next_list-requires-clause-more : goal.next_list-requires-clause-more
next_list-requires-clause-more g c = let a = c.pass_here.ensures.list in let b = c.pass_here.ensures.later.is.later.later.lists in
    let m = c.requires.more in omega arith

-- the hand is inside its epoch still
-- the cursor stands at the end of the list
pub next_list-requires-clause-end : goal.next_list-requires-clause-end
next_list-requires-clause-end g c = c.pass_here.ensures.end c.in-None.ensures.end

-- an answer is that of the list
pub returns-in-Some-clause-gives : goal.returns-in-Some-clause-gives
returns-in-Some-clause-gives g c = λ was opened. let b = seat_state_of c.args.hand.now in let a = seat_state_of c.pass_here.new.hand in
    let q = c.pass_here.new.hand.part in let o = c.in-Some.ensures.other in subst (λ x. IsNextIn b a was (scanned_as x)) (sym o.0) (no_end
    (q.pass.list + 1 ≡ q.pass.lists) b a was c.pass_here.result (subst IsNoEnd o.0 o.1) (c.pass_here.ensures.gives was opened))

-- where the walk has looked at as many nodes as it may, nothing changes
pub returns-in-Some-clause-spent : goal.returns-in-Some-clause-spent
returns-in-Some-clause-spent g c = λ seen. let s = c.pass_here.ensures.spent seen in (s.0, ap Some (c.in-Some.ensures.other.0 ∙ s.1))

-- and it isn't at the end
pub returns-in-None-clause-spent : goal.returns-in-None-clause-spent
returns-in-None-clause-spent g c = λ seen. let s = c.pass_here.ensures.spent seen in
    absurd (let z : ◌≡◌ {A = Passed} ListEnd (TooLong (16 * c.args.hand.now.part.seats + 1)) = sym c.in-None.ensures.end ∙ s.1 in cc)

-- the seat still holds nothing, and its hand is inside its epoch
pub returns-in-None-clause-later : goal.returns-in-None-clause-later
returns-in-None-clause-later g c = let e = c.pass_here.new.hand.part in let q = c.next_list.new.hand.part in let next = c.next_list.ensures.inside in
    stays_on c.pass_here.ensures.later
    (record { counted = next.counted; is = record { later = next.is.later; inside = opened_inside (e.pass.list + 1) e q next.is } })

-- in the next list
pub returns-in-None-clause-turned : goal.returns-in-None-clause-turned
returns-in-None-clause-turned g c = c.next_list.ensures.inside.is.list ∙ ap (λ n. n + 1) c.pass_here.ensures.list

-- and its list was passed
pub returns-in-None-clause-passed : goal.returns-in-None-clause-passed
returns-in-None-clause-passed g c = λ was opened. let p = c.args.hand.now in let e = c.pass_here.new.hand in let q = c.next_list.new.hand in passes_list p.table
    e.table q.table p.part e.part q.part was c.pass_here.ensures.later.counted.table c.next_list.ensures.inside.counted.table c.requires.inside.is.inside opened
    c.pass_here.ensures.later.is.later
    c.pass_here.ensures.list (subst (λ x. ListGives (e.part.pass.list + 1 ≡ e.part.pass.lists) (seat_state_of p) (seat_state_of e) was x) c.in-None.ensures.end
    (c.pass_here.ensures.gives was opened)).0 c.next_list.ensures.inside.is c.next_list.ensures.taken c.next_list.ensures.looked c.next_list.ensures.walks
