-- A crew read by place, before and after what was done to each caller.
use Rattle.std.proofs.Common.{◌≡◌, ℕ, zero, suc, ◌<◌, List, [], ◌∷◌, ◌++◌, ◌≤◌, get_or, set, length, take, drop, ◌+◌}
use Rattle.std.proofs.Common.{sym, refl, ap, ◌∙◌, subst, arith, length-set, length-append, ⊎_elim}
use Rattle.std.specs.Prelude.{None}
use mathlib.Core.Option.{some, some-injective, some-ne-none}
use lib.ListN.{get_elem?}
use Rattle.std.proofs.lemmas.List.{append-nil}
use Rattle.std.proofs.Math.ListN.{drop_of_length-le}
use Rattle.std.proofs.Math.Seq.{take-length}
use Rattle.atomic_table.specs.Seated.{TableId}
use Rattle.atomic_table.proofs.Lists.{at_index, at_set}
use Rattle.lock_core.proofs.ByPlace.{below, at_or, same_or}
use Rattle.page_types.specs.declared.sets.Access.{Access}
use Rattle.page_types.specs.declared.calls.Call.{Call}
use Rattle.space_model.specs.declared.areas.Area.{Area}
use Rattle.area_rows.specs.declared.answer.Answer.{Answer}
use Rattle.area_rows.specs.declared.answer.Answer.TheVariants.{Given, Spent}
use Rattle.area_rows.specs.Callers.{CallerView, AreIdle, AreNewCallersIn, entry_in}
use Rattle.area_rows.specs.Called.{IsAnswered}
use Rattle.page_fault.specs.Faults.{IsTried}
use Rattle.page_fault.specs.declared.faults.TriedFault.{TriedFault}
use Rattle.test_crews.specs.Crews.{HasCalled, HaveCalled, IsIdleAgain, IsCrew, OfCaller}

-- what is back is idle
pub back_idle : (table : TableId) (k : ℕ) (a b : CallerView) → IsIdleAgain a b → (a.seat.table ≡ table) × (a.seat.number ≡ k) × (a.seat.held ≡ None)
    → (b.seat.table ≡ table) × (b.seat.number ≡ k) × (b.seat.held ≡ None)
back_idle table k a b back i = (back.table ∙ i.0, back.number ∙ i.1, back.held)

-- a crew whose callers are each back is a crew
pub crew_back : (table : TableId) (seats : ℕ) (old new : List CallerView) → length new ≡ length old → IsCrew table seats old
    → ((k : ℕ) (d : CallerView) → k < length old → (a : CallerView) × (b : CallerView) × (a ≡ get_or old k d) × IsIdleAgain a b
    × (b ≡ get_or new k d)) → IsCrew table seats new
crew_back table seats old new same crew each = record {
  count = same ∙ crew.count;
  some = crew.some;
  idle = λ k c at.
      let lt = below new k c at in let e = each k c (omega arith) in
      let was : get_elem? old k ≡ some e.0 = at_index old k e.0 (omega arith) (e.2 ∙ same_or old k c e.0 (omega arith)) in
      let now : e.1 ≡ c = e.4 ∙ at_or new k c c at in
      subst (λ (x : CallerView). (x.seat.table ≡ table) × (x.seat.number ≡ k) × (x.seat.held ≡ None)) now (back_idle table k e.0 e.1 e.3 (crew.idle k e.0 was));
}

-- an answered caller is back
pub answer_back : (before after : CallerView) (line : ℕ) (call : Call) (answer : Answer) → before.seat.held ≡ None
    → IsAnswered before line call answer after → IsIdleAgain before after
answer_back before after line call (Given e) free is = let n = is.1.numbered in record { table = n.table; number = n.number; held = n.held ∙ free }
answer_back before after line call Spent free is = record {
  table = ap (λ (x : CallerView). x.seat.table) is.1;
  number = ap (λ (x : CallerView). x.seat.number) is.1;
  held = ap (λ (x : CallerView). x.seat.held) is.1 ∙ free;
}

-- the first caller of a crew
pub first_of : (table : TableId) (seats : ℕ) (callers : List CallerView) (c : CallerView) → IsCrew table seats callers
    → c ≡ get_or callers 0 c → (c.seat.table ≡ table) × (c.seat.number ≡ 0) × (c.seat.held ≡ None)
first_of table seats callers c crew is = crew.idle 0 c (at_index callers 0 c (let n = crew.count in let m = crew.some in omega arith) is)

-- a crew whose first caller is back
pub first_back : (table : TableId) (seats : ℕ) (callers : List CallerView) (before after : CallerView)
    → IsCrew table seats callers → before ≡ get_or callers 0 before → IsIdleAgain before after → IsCrew table seats (set callers 0 after)
first_back table seats callers before after crew is back = record {
  count = length-set callers 0 after ∙ crew.count;
  some = crew.some;
  idle = λ k c at. ⊎_elim (λ t. subst (λ (z : ℕ × CallerView). (z.1.seat.table ≡ table) × (z.1.seat.number ≡ z.0) × (z.1.seat.held ≡ None))
      (λ i. (sym t.0 i, t.1 i)) (back_idle table 0 before after back (first_of table seats callers before crew is))) (λ t. crew.idle k c t.1)
      (at_set callers 0 k after c at);
}

-- two callers at the head that are each back
idle_two : (table : TableId) (x y : CallerView) (rest : List CallerView) (a b : CallerView) → AreIdle table (x ∷ y ∷ rest) → IsIdleAgain x a → IsIdleAgain y b
    → (k : ℕ) (c : CallerView) → get_elem? (a ∷ b ∷ rest) k ≡ some c → (c.seat.table ≡ table) × (c.seat.number ≡ k) × (c.seat.held ≡ None)
idle_two table x y rest a b idle p q zero c at =
    subst (λ (v : CallerView). (v.seat.table ≡ table) × (v.seat.number ≡ 0) × (v.seat.held ≡ None)) (some-injective a c at)
    (back_idle table 0 x a p (idle 0 x refl))
idle_two table x y rest a b idle p q (suc zero) c at =
    subst (λ (v : CallerView). (v.seat.table ≡ table) × (v.seat.number ≡ 1) × (v.seat.held ≡ None)) (some-injective b c at)
    (back_idle table 1 y b q (idle 1 y refl))
idle_two table x y rest a b idle p q (suc (suc k)) c at = idle (suc (suc k)) c at

two_split : (table : TableId) (seats : ℕ) (first others : List CallerView) (a b : CallerView) → length first ≡ 1
    → IsCrew table seats (first ++ others) → 2 ≤ seats
    → ((get_or first 0 a).seat.table ≡ table) × ((get_or first 0 a).seat.held ≡ None) × ((get_or others 0 b).seat.table ≡ table)
    × ((get_or others 0 b).seat.held ≡ None)
two_split table seats [] others a b one crew two = absurd (omega arith)
two_split table seats (x ∷ y ∷ rest) others a b one crew two = absurd (omega arith)
two_split table seats (x ∷ []) [] a b one crew two = absurd (let n = crew.count in omega arith)
two_split table seats (x ∷ []) (y ∷ rest) a b one crew two = let i = crew.idle 0 x refl in let j = crew.idle 1 y refl in (i.0, i.2, j.0, j.2)

-- the one caller of a first part, and the first of the others, of a crew of two or more
pub two_of : (table : TableId) (seats : ℕ) (callers first others : List CallerView) (a b : CallerView) → callers ≡ first ++ others
    → length first ≡ 1 → IsCrew table seats callers → 2 ≤ seats
    → ((get_or first 0 a).seat.table ≡ table) × ((get_or first 0 a).seat.held ≡ None) × ((get_or others 0 b).seat.table ≡ table)
    × ((get_or others 0 b).seat.held ≡ None)
two_of table seats callers first others a b parts one crew two = two_split table seats first others a b one (subst (IsCrew table seats) parts crew) two

-- a crew of two or more whose first two callers are each back
pub two_back : (table : TableId) (seats : ℕ) (first others : List CallerView) (x a y b : CallerView) → length first ≡ 1
    → IsCrew table seats (first ++ others) → 2 ≤ seats
    → IsIdleAgain (get_or first 0 x) a → IsIdleAgain (get_or others 0 y) b → IsCrew table seats (set first 0 a ++ set others 0 b)
two_back table seats [] others x a y b one crew two p q = absurd (omega arith)
two_back table seats (u ∷ v ∷ rest) others x a y b one crew two p q = absurd (omega arith)
two_back table seats (u ∷ []) [] x a y b one crew two p q = absurd (let n = crew.count in omega arith)
two_back table seats (u ∷ []) (v ∷ rest) x a y b one crew two p q =
    record { count = crew.count; some = crew.some; idle = idle_two table u v rest a b crew.idle p q }

-- what became of the first caller, told by places
pub first_is : (callers : List CallerView) (d n : CallerView) (what : CallerView → CallerView → Type 0)
    → what (get_or callers 0 d) n → OfCaller 0 callers (set callers 0 n) what
first_is [] d n what is a b p q = absurd (some-ne-none a (sym p))
first_is (x ∷ xs) d n what is a b p q = subst (λ (z : CallerView × CallerView). what z.0 z.1) (λ i. (some-injective x a p i, some-injective n b q i)) is

-- the others stay
pub others_stay : (callers : List CallerView) (n : CallerView) → drop 1 (set callers 0 n) ≡ drop 1 callers
others_stay [] n = refl
others_stay (x ∷ xs) n = refl

-- the second caller's answer, told by places
pub second_tried : (seats : ℕ) (first others : List CallerView) (w d n : CallerView) (line addr : ℕ) (access : Access)
    (answer : TriedFault) → length first ≡ 1 → IsTried seats (get_or others 0 d) line addr access answer n
    → OfCaller 1 (first ++ others) (set first 0 w ++ set others 0 n) (λ before after. IsTried seats before line addr access answer after)
second_tried seats [] others w d n line addr access answer one is a b p q = absurd (omega arith)
second_tried seats (x ∷ y ∷ rest) others w d n line addr access answer one is a b p q = absurd (omega arith)
second_tried seats (x ∷ []) [] w d n line addr access answer one is a b p q = absurd (some-ne-none a (sym p))
second_tried seats (x ∷ []) (y ∷ rest) w d n line addr access answer one is a b p q =
    subst (λ (z : CallerView × CallerView). IsTried seats z.0 line addr access answer z.1) (λ i. (some-injective y a p i, some-injective n b q i)) is

-- one call more
pub one_more : (calls : ℕ) (start before after : CallerView) (line : ℕ) (call : Call) (answer : Answer)
    → HasCalled calls start before → IsAnswered before line call answer after → HasCalled (calls + 1) start after
one_more calls start before after line call (Given e) h is =
    let more : length after.seat.pass.mine ≡ length before.seat.pass.mine + 1 = ap length is.1.numbered.mine ∙ length-append before.seat.pass.mine
    (entry_in is.1.numbered.history e ∷ []) in
    let l = h.left in let k = h.kept in let m = is.1.left in record { left = omega arith; kept = omega arith }
one_more calls start before after line call Spent h is =
    let same : after.left ≡ before.left = ap (λ (x : CallerView). x.left) is.1 in
    let mine : length after.seat.pass.mine ≡ length before.seat.pass.mine = ap (λ (x : CallerView). length x.seat.pass.mine) is.1 in
    let l = h.left in let k = h.kept in let z = is.0 in record { left = omega arith; kept = omega arith }

-- a crew whose callers each made so many calls
pub crew_called : (calls : ℕ) (old new : List CallerView)
    → ((k : ℕ) (d : CallerView) → k < length old → (a : CallerView) × (b : CallerView) × (a ≡ get_or old k d)
    × HasCalled calls a b × (b ≡ get_or new k d)) → HaveCalled calls old new
crew_called calls old new each k a b at_a at_b =
    let e = each k a (below old k a at_a) in let was : e.0 ≡ a = e.2 ∙ at_or old k a a at_a in
    let now : e.1 ≡ b = e.4 ∙ (at_or new k b a at_b) in subst (λ (z : CallerView × CallerView). HasCalled calls z.0 z.1) (λ i. (was i, now i)) e.3

-- a crew that was lent as a slice of all of its callers is idle where it is handed back
pub idle_kept : (table : TableId) (seats len : ℕ) (callers items : List CallerView) → IsCrew table seats callers → length items ≡ seats → len ≡ seats
    → AreIdle table (take len (callers ++ drop (length callers) items))
idle_kept table seats len callers items crew own wide =
    let le : length items ≤ length callers = let n = crew.count in omega (arith, own, n) in
    let whole : take len (callers ++ drop (length callers) items) ≡ callers = ap (λ n. take n (callers ++ drop (length callers) items)) (wide ∙ sym crew.count)
    ∙ ap (λ r. take (length callers) (callers ++ r)) (drop_of_length-le items le) ∙ ap (take (length callers)) (append-nil callers) ∙ take-length callers in
    subst (AreIdle table) (sym whole) crew.idle
