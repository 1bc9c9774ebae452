-- A piece of work in one list of several: the hand turns to the list, works there, and shows each other list as
-- before. So what the calls on one list say of the hand is what a piece says of the seat.
use Rattle.std.proofs.Common.{◌≡◌, ◌≢◌, ℕ, ◌%◌, ◌<◌, ◌≤◌, Bool, false, Result, Ok, Err, refl, sym, ap, ◌∙◌, subst, arith, eq-eqb, ne_eqb}
use Rattle.std.specs.Prelude.{[], ◌++◌, Option, Some, None, IfOk, IfErr, IfSome, OnOk, OnErr, if◌then◌else◌}
use mathlib.Core.Logic.{dite}
use native.Mathlib.Decide.{ℕ_discrete}
use Rattle.atomic_table.specs.Seated.{TableId}
use Rattle.lock_core.specs.declared.range.Held.{Held}
use Rattle.lock_core.specs.declared.views.View.{View}
use Rattle.lock_core.specs.declared.views.Own.{Own}
use Rattle.lock_core.specs.declared.views.Own.TheVariants.{Nothing, Linked}
use Rattle.lock_core.specs.declared.views.Todo.TheVariants.{Done}
use Rattle.lock_core.specs.Machine.{held_at}
use Rattle.epoch_pools.specs.declared.views.SeatPart.{SeatPart}
use Rattle.epoch_pools.specs.declared.views.Beside.{Beside}
use Rattle.epoch_pools.specs.Standings.{is_counted, standing_back}
use Rattle.epoch_pools.specs.Beside.{core_at, shown_core, given_back}
use Rattle.epoch_pools.specs.Hands.{IsResting, turned}
use Rattle.epoch_pools.specs.Record.{KeepsOccupied}
use Rattle.marked_list.specs.Order.{MaySweep}
use Rattle.marked_list.specs.Answers.{IsMarkCall}
use Rattle.range_rw.specs.declared.refusals.NotHeld.{NotHeld}
use Rattle.range_rw.specs.Contract.{SeatState, IsReadyLeft, IsListCause}
use Rattle.range_rw.specs.Seats.{IsSettled, pools_of, seat_state_in}
use Rattle.range_rw.specs.Trying.{IsLaterInTry, IsLaterOutside}
use Rattle.range_rw.specs.Releasing.{GivesBack}
use Rattle.range_rw.specs.Several.{list_state, IsCauseAt, IsPiece, KeepsCauses, MayGiveIn, MayLinkIn}
use Rattle.range_rw.proofs.Taking.{cause_within}

-- what is so of each refusal is so of a result's
pub err_on : {A E : Type 0} (F G : E → Type 0) (r : Result A E) → ((e : E) → F e → G e) → IfErr r F → IfErr r G
err_on F G (Ok x) on h = h
err_on F G (Err e) on h = on e h

-- the same of what is so where a result is good, and where it is refused
pub ok_on : {A E : Type 0} {X Y : Type 0} (r : Result A E) → (X → Y) → OnOk r X → OnOk r Y
ok_on (Ok x) on h = on h
ok_on (Err e) on h = h

pub ok_if : {A E : Type 0} {F G : A → Type 0} (r : Result A E) → ((a : A) → F a → G a) → IfOk r F → IfOk r G
ok_if (Ok x) on h = on x h
ok_if (Err e) on h = h

pub ok_both : {A E : Type 0} {X Y Z : Type 0} (r : Result A E) → (X → Y → Z) → OnOk r X → OnOk r Y → OnOk r Z
ok_both (Ok x) on h k = on h k
ok_both (Err e) on h k = h

pub err_free : {A E : Type 0} {X Y : Type 0} (r : Result A E) → (X → Y) → OnErr r X → OnErr r Y
err_free (Ok x) on h = h
err_free (Err e) on h = on h

pub some_on : {A : Type 0} {F G : A → Type 0} (o : Option A) → ((a : A) → F a → G a) → IfSome o F → IfSome o G
some_on None on h = h
some_on (Some a) on h = on a h

-- the list to which a hand is turned is one of its lists, by the number that the hand told
pub is_there : {list told lists : ℕ} → told ≡ list → told < lists → list < lists
is_there e less = omega arith

-- an own node by which a range is held is settled
pub settled_by : (own : Own) → held_at own ≢ None → IsSettled own
settled_by (Linked node range mode Done) h = refl
settled_by _ h = absurd (h refl)

-- a hand that rests without an own node may sweep
pub rests_free : (v : View) → IsResting v → v.own ≡ Nothing → MaySweep v
rests_free v rests none = record { outside = record { even = rests.outside; hand = rests.hand }; own = none }

module _ {P : Type 0} where
  -- a hand that was turned to a list in which a node may be linked may sweep there
  pub turned_free : {at : ℕ} {p t : SeatPart (Beside P)} → MayLinkIn at p → t ≡ turned p at → IsResting t.core → MaySweep t.core
  turned_free {at} {p} {t} may is rests = rests_free t.core rests (ap (λ (x : SeatPart (Beside P)). x.core.own) is ∙ may.free)

  pub turned_beside : {at : ℕ} {p t : SeatPart (Beside P)} → MayGiveIn at p → t ≡ turned p at → is_counted t.pass.lists t.pass.standing t.pass.list ≡ false
  turned_beside may is = subst (λ (x : SeatPart (Beside P)). is_counted x.pass.lists x.pass.standing x.pass.list ≡ false) (sym is) may.beside

  -- the list to which the hand is turned is shown as its view, and each other one as what stands beside
  pub own_at : (p : SeatPart (Beside P)) (i : ℕ) → p.pass.list ≡ i → shown_core p i ≡ p.core
  own_at p i e = ap (λ (b : Bool). if b then p.core else core_at i p.pass.others) (eq-eqb i p.pass.list (sym e))

  pub ready_at_home : (p : SeatPart (Beside P)) {i : ℕ} → p.pass.list ≡ i → (shown_core p i).ready ≢ [] → p.core.ready ≢ []
  ready_at_home p {i} e some none = some (ap (λ (v : View). v.ready) (own_at p i e) ∙ none)

  pub else_at : (p : SeatPart (Beside P)) (j : ℕ) → j ≢ p.pass.list → shown_core p j ≡ core_at j p.pass.others
  else_at p j differ = ap (λ (b : Bool). if b then p.core else core_at j p.pass.others) (ne_eqb j p.pass.list differ)

  -- where the hand stays turned, and what stands beside stays, each other list is shown as before
  pub only_stays : (p q : SeatPart (Beside P)) → q.pass.list ≡ p.pass.list → q.pass.others ≡ p.pass.others
      → (j : ℕ) → j ≢ p.pass.list → shown_core q j ≡ shown_core p j
  only_stays p q same others j differ = else_at q j (λ e. differ (e ∙ same)) ∙ (ap (core_at j) others ∙ sym (else_at p j differ))

  -- and the ready nodes of each list stay where those of its own do
  pub ready_stays : (p q : SeatPart (Beside P)) → q.pass.list ≡ p.pass.list → q.pass.others ≡ p.pass.others → q.core.ready ≡ p.core.ready
      → (j : ℕ) → (shown_core q j).ready ≡ (shown_core p j).ready
  ready_stays p q same others ready j = dite (ℕ_discrete j p.pass.list)
      (λ e. ap (λ (v : View). v.ready) (own_at q j (same ∙ sym e)) ∙ (ready ∙ ap (λ (v : View). v.ready) (sym (own_at p j (sym e)))))
      (λ away. ap (λ (v : View). v.ready) (only_stays p q same others j away))

  -- a hand that has no own node in its list and in no other has none in any
  pub own_each : (at : ℕ) (q : SeatPart (Beside P)) → q.pass.list ≡ at → q.core.own ≡ Nothing → ((j : ℕ) → j ≢ at → (shown_core q j).own ≡ Nothing)
      → (j : ℕ) → (shown_core q j).own ≡ Nothing
  own_each at q turned own others j = dite (ℕ_discrete j at) (λ e. ap (λ (v : View). v.own) (own_at q j (turned ∙ sym e)) ∙ own) (others j)

  -- the seat as that list has it to which the hand is turned
  pub here_state : (table : TableId) (q : SeatPart (Beside P)) (at : ℕ) → q.pass.list ≡ at → list_state table q at ≡ seat_state_in table q
  here_state table q at e = λ i. seat_state_in table (record { number = q.number; seats = q.seats; core = own_at q at e i; pass = q.pass; trace = q.trace })

  -- the turn to that list, and then some work there
  module _ (at : ℕ) (p t q : SeatPart (Beside P)) (is : t ≡ turned p at) (stays : (j : ℕ) → shown_core t j ≡ shown_core p j) where
    turned_list : t.pass.list ≡ at
    turned_list = ap (λ (x : SeatPart (Beside P)). x.pass.list) is

    turned_taken : t.trace.taken ≡ p.trace.taken
    turned_taken = ap (λ (x : SeatPart (Beside P)). x.trace.taken) is

    piece_by : q.number ≡ t.number → q.seats ≡ t.seats → q.pass.lists ≡ t.pass.lists → q.pass.list ≡ t.pass.list → q.pass.others ≡ t.pass.others
        → q.pass.pass ≡ t.pass.pass → q.trace.client ≡ t.trace.client → KeepsOccupied t.trace q.trace → t.trace.taken ≤ q.trace.taken
        → IsResting q.core → IsPiece at p q
    piece_by number seats lists list others pass client occupied taken rests = record {
      later = record {
        number = number ∙ ap (λ (x : SeatPart (Beside P)). x.number) is;
        seats = seats ∙ ap (λ (x : SeatPart (Beside P)). x.seats) is;
        lists = lists ∙ ap (λ (x : SeatPart (Beside P)). x.pass.lists) is;
        pass = pass ∙ ap (λ (x : SeatPart (Beside P)). x.pass.pass) is;
        client = client ∙ ap (λ (x : SeatPart (Beside P)). x.trace.client) is;
        occupied = (occupied.0, occupied.1 ∙ ap (λ (x : SeatPart (Beside P)). occupied.0 ++ x.trace.occupied) is);
        taken = let e = turned_taken in omega arith;
      };
      turned = list ∙ turned_list;
      only = λ j differ. only_stays t q list others j (λ e. differ (e ∙ turned_list)) ∙ stays j;
      rests = rests;
    }

    -- a call of a try is a piece
    pub try_piece : IsLaterOutside t q → IsPiece at p q
    try_piece o = let l = o.later in piece_by l.number l.seats (ap (λ (b : Beside P). b.lists) l.pass) (ap (λ (b : Beside P). b.list) l.pass)
        (ap (λ (b : Beside P). b.others) l.pass) (ap (λ (b : Beside P). b.pass) l.pass) l.client l.occupied l.taken
        (record { outside = o.outside.even; cursor = o.cursor; hand = o.outside.hand })

    pub try_standing : IsLaterInTry t q → q.pass.standing ≡ p.pass.standing
    try_standing l = ap (λ (b : Beside P). b.standing) l.pass ∙ ap (λ (x : SeatPart (Beside P)). x.pass.standing) is

    -- what it leaves of the ready nodes
    pub ready_piece : q.pass.list ≡ at → IsReadyLeft t.core.ready q.core.ready → IsReadyLeft (shown_core p at).ready (shown_core q at).ready
    ready_piece there r = subst (λ (z : View × View). IsReadyLeft z.0.ready z.1.ready) (λ i.
        (ap (λ (x : SeatPart (Beside P)). x.core) is i, sym (own_at q at there) i)) r

    -- and the cause of its refusal, by what the seat has in that list
    pub cause_piece : (table other : TableId) → other ≡ table → q.pass.list ≡ at → (asked : Held) (why : NotHeld)
        → IsListCause t.pass.list (seat_state_in other t) (seat_state_in other q) asked why → IsCauseAt table at p q asked why
    cause_piece table other same there asked why cause = subst (λ (s : SeatState P). IsListCause at (list_state table p at) s asked why)
        (sym (here_state table q at there)) (subst (λ (x : SeatPart (Beside P)). IsListCause at (seat_state_in table x) (seat_state_in table q) asked why) is
        (subst (λ (z : TableId × ℕ). IsListCause z.1 (seat_state_in z.0 t) (seat_state_in z.0 q) asked why) (λ i. (same i, turned_list i)) cause))

    -- a range that is given back in that list
    module _ (rested : P → P) where
      pub given_piece : IsResting t.core → is_counted t.pass.lists t.pass.standing t.pass.list ≡ false → GivesBack (given_back rested) t q → IsPiece at p q
      given_piece rests beside g = piece_by g.number g.seats (ap (λ (b : Beside P). b.lists) g.pass) (ap (λ (b : Beside P). b.list) g.pass)
          (ap (λ (b : Beside P). b.others) g.pass) (ap (λ (b : Beside P). b.pass) g.pass ∙ ap (λ (b : Bool). if b then rested t.pass.pass else t.pass.pass)
          beside) g.client g.occupied (let n = g.least in omega arith)
          (record { outside = ap (λ n. n % 2) g.epoch ∙ rests.outside; cursor = g.cursor ∙ rests.cursor; hand = g.hand })

      pub given_standing : q.pass ≡ given_back rested t.pass → q.pass.standing ≡ standing_back p.pass.standing at
      given_standing e = ap (λ (b : Beside P). b.standing) e ∙ (λ i. standing_back (ap (λ (x : SeatPart (Beside P)). x.pass.standing) is i) (turned_list i))

module _ {P : Type 0} (table : TableId) (at : ℕ) (p t q : SeatPart (Beside P)) (is : t ≡ turned p at)
    (piece : IsPiece at p q) (rests : IsResting t.core) (rested : Beside P → Beside P) (m : IsMarkCall rested t q) where
  -- the cause of a refusal in another list is still there behind the mark
  pub causes_kept : KeepsCauses table at p q
  causes_kept was i asked why differ cause = let shown = piece.only i differ in cause_within (list_state table was i) (list_state table was i)
      (list_state table p i) (list_state table q i) (omega arith) refl (λ e. e) piece.later.number (ap pools_of shown) (m.met ∙ ap
      (λ (x : SeatPart (Beside P)). x.trace.met) is) (m.lost ∙ ap (λ (x : SeatPart (Beside P)). x.trace.lost) is) (m.looked rests.cursor ∙ ap
      (λ (x : SeatPart (Beside P)). x.trace.looked) is) (m.away ∙ ap (λ (x : SeatPart (Beside P)). x.trace.away) is) (m.noted ∙ ap
      (λ (x : SeatPart (Beside P)). x.trace.noted) is) piece.later.taken i asked why cause
