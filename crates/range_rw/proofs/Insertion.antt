-- The insertion of a filled node: the walk to its place, the link there and the validation, and the epoch around them.
-- What each of them comes to is what the whole comes to.
use Rattle.std.proofs.Common.{◌≡◌, ◌≢◌, ◌⊎◌, ◌↔◌, ℕ, Bool, true, false, List, ◌∷◌, inl, inr, ⊎_elim, refl, sym, ap, ◌∙◌, subst, arith}
use Rattle.std.specs.Prelude.{[], Option, Some, None, MatchOption, unwrap_or}
use Rattle.lock_core.specs.declared.range.Held.{Held}
use Rattle.lock_core.specs.declared.range.Mode.{Mode}
use Rattle.lock_core.specs.declared.range.Mode.TheVariants.{Reader, Writer}
use Rattle.lock_core.specs.declared.views.View.{View}
use Rattle.lock_core.specs.declared.views.Own.{Own}
use Rattle.lock_core.specs.declared.views.Own.TheVariants.{Nothing, Filling, Linked}
use Rattle.lock_core.specs.declared.views.Todo.{Todo}
use Rattle.lock_core.specs.declared.views.Todo.TheVariants.{Forward, FromHead, Done}
use Rattle.lock_core.specs.declared.steps.Step.TheVariants.{Enter, Leave}
use Rattle.lock_core.specs.Views.{todo_of, marked, entered, left, kept_own, ready_left}
use Rattle.lock_core.specs.Machine.{held_at, may_leave, given}
use Rattle.epoch_pools.specs.declared.views.SeatPart.{SeatPart}
use Rattle.epoch_pools.specs.Record.{cursor_word, is_judging, gained_by}
use Rattle.epoch_pools.specs.declared.views.Beside.{Beside}
use Rattle.epoch_pools.specs.Hands.{HandState, ListShape, quiet_after}
use Rattle.marked_list.proofs.Unlinking.{gone_looked}
use Rattle.marked_list.specs.declared.cursor.Cursor.{Cursor as Traversal}
use Rattle.marked_list.specs.declared.answers.Linked.{Linked as LinkAnswer}
use Rattle.marked_list.specs.declared.answers.Linked.TheVariants.{Done as IsLinked, Lost as NotLinked}
use Rattle.marked_list.specs.declared.answers.Lost.{Lost as LostAnswer}
use Rattle.marked_list.specs.declared.answers.Walked.{Walked}
use Rattle.marked_list.specs.declared.answers.Walked.TheVariants.{Place, Lost}
use Rattle.marked_list.specs.Order.{IsInside, HasEnds, HasToValidate, StandsAtPlace, MayWalk, MayLink, MayValidate, MayMark, MayEnd}
use Rattle.marked_list.specs.Leaves.{IsLaterInWalk, IsCall, IsSameLook, IsNewWalk}
use Rattle.marked_list.specs.Causes.{asked_of, nodes_in, IsSpent}
use Rattle.marked_list.specs.Answers.{Answers, Arrives, Links, IsLong, IsMarkCall, linked_own, aimed_own}
use Rattle.range_rw.specs.Calls.{IsHandOf, Leaves}
use Rattle.range_rw.specs.Contract.{RefusesTry}
use Rattle.range_rw.specs.Trying.{has_come, IsFilling, IsLaterInTry, IsLaterInEpoch, IsHeldIn, Refuses, RefusesOnce, LinkEnds, LookEnds, ValidateEnds}
use Rattle.range_rw.specs.Trying.{InsertEnds, StaysFilled, LeavesNode, EpochEnds, MayWalkIn, BeginsToValidate, IsLaterInTraversal}
use Rattle.range_rw.proofs.Later.{later_on, call_later, still_on, walk_still, inside_still, Keeps, keeps_all, lost_on, refuses_on, walk_refuses}
use Rattle.range_rw.proofs.Later.{answer_stays, come_held, come_refused, come_any, spent_look, long_after}

-- ---- the walk and the link

-- what an own node that is filled asks for, and what it holds
fill_free : (own : Own) → HasEnds own → held_at own ≡ None
fill_free own e = ap held_at e.is

-- a walk that came to its end came to its place
come_is : (a : Walked) → has_come a ≡ true → a ≡ Place
come_is Place came = refl
come_is _ came = absurd (let z : ◌≡◌ {A = Bool} false true = came in cc)

came_by : {P : Type 0} (first : ℕ) (p q : SeatPart P) (a : Walked) → has_come a ≡ true → HasEnds p.core.own
    → Answers first p.core.own q a → (q.core.own ≡ p.core.own) × StandsAtPlace q.core.cursor
came_by first p q a came e x =
    let y = subst (λ (o : Own). Arrives o q.core) e.is (subst (Answers first p.core.own q) (come_is a came) x) in (y.0 ∙ sym e.is, y.1)

ends_same : (own now : Own) → now ≡ own → HasEnds own → HasEnds now
ends_same own now same e = subst HasEnds (sym same) e

module _ {P : Type 0} (p q : SeatPart P) (a : Walked) (may : MayWalk p.core) (on : IsLaterInWalk p q) (answer : Answers p.trace.taken p.core.own q a) where
  -- a walk that came to the place of a filled node leaves it so that it may be linked
  pub may_link_on : has_come a ≡ true → MayLink q.core
  may_link_on came = let c = came_by p.trace.taken p q a came may.own answer in
      record { inside = inside_still p q may.inside (walk_still p q on); own = ends_same p.core.own q.core.own c.0 may.own; place = c.1 }

  -- any other answer of the walk refuses the try, with the node still being filled
  pub walk_ends : has_come a ≡ false → IsNewWalk p.trace.taken q → LinkEnds p q a
  walk_ends isnt new = let x = walk_refuses p.trace.taken p.core.own q a isnt answer new in come_refused isnt ((λ node f. (f.0, x.0 ∙ f.1, f.2)), x.1)

  module _ (came : has_come a ≡ true) (r : SeatPart P) (call : IsCall 2 q r) (look : IsSameLook q r) (long : IsLong a ↔ IsSpent q) where
    same : q.core.own ≡ p.core.own
    same = (came_by p.trace.taken p q a came may.own answer).0

    free : held_at q.core.own ≡ None
    free = ap held_at same ∙ fill_free p.core.own may.own

    not_spent : IsSpent r → ⊥
    not_spent s = subst IsLong (come_is a came) (long.1 (spent_look q r look call.seats free s))

    core_still : (u : View) → r.trace.asked ≡ q.trace.asked → r.core ≡ u → u.epoch ≡ q.core.epoch → u.hand ≡ q.core.hand
        → u.ready ≡ q.core.ready → IsLaterInEpoch p r
    core_still u asked core epoch hand ready = still_on p q r (walk_still p q on) (record {
      later = call_later q r call;
      epoch = ap (λ (v : View). v.epoch) core ∙ epoch;
      hand = ap (λ (v : View). v.hand) core ∙ (hand ∙ on.hand);
      ready = ap (λ (v : View). v.ready) core ∙ ready;
      asked = asked;
    })

    -- walk and link stay in one epoch
    pub link_still : (b : LinkAnswer) → r.trace.asked ≡ q.trace.asked → Links q r b → IsLaterInEpoch p r
    link_still IsLinked asked x = core_still _ asked x refl refl refl
    link_still (NotLinked l) asked x = core_still _ asked x.1 refl refl refl

    -- a link that is made leaves the node to be validated
    pub linked_ends : Links q r IsLinked → LinkEnds p r Place
    linked_ends x = come_held refl (ap (λ (v : View). v.own) x ∙ ap (linked_own todo_of) same, ap (λ (v : View). v.cursor) x)

    aimed_filling : (w node : ℕ) → IsFilling node p.core.own → IsFilling node (aimed_own w q.core.own)
    aimed_filling w node f = (record f.0 { aimed = Some w }, ap (aimed_own w) (same ∙ f.1), f.2)

    -- a link that is lost refuses the try, with the node still being filled
    pub lost_ends : (l : LostAnswer) → Links q r (NotLinked l) → LinkEnds p r (Lost l)
    lost_ends l x = come_refused refl (
      (λ node f. subst (IsFilling node) (sym (ap (λ (v : View). v.own) x.1)) (aimed_filling (cursor_word q.core.cursor) node f)),
      lost_on (keeps_all r) x.0 (λ s is_link. subst RefusesTry (sym is_link) tt) (let t = on.taken in omega arith),
    )

    -- after a walk that came to its place no walk is spent
    pub link_long : (b : Walked) → ¬ (IsLong b) → IsLong b ↔ IsSpent r
    link_long b never = (λ l. absurd (never l), λ s. absurd (not_spent s))

-- ---- the validation

-- an own node that has to be validated is not held
pub to_do : (mode : Mode) → todo_of mode ≢ Done
to_do Reader e = absurd (let z : ◌≡◌ {A = Todo} Forward Done = e in cc)
to_do Writer e = absurd (let z : ◌≡◌ {A = Todo} FromHead Done = e in cc)

-- so nothing is held by it
pub unheld : (own : Own) → HasToValidate own → held_at own ≡ None
unheld own h = ap held_at h.is ∙ (ap (λ (t : Todo). held_at (Linked h.node.node h.node.range h.node.mode t)) h.todo ∙ by_mode h.node.mode)
  where
    by_mode : (mode : Mode) → held_at (Linked h.node.node h.node.range mode (todo_of mode)) ≡ None
    by_mode Reader = refl
    by_mode Writer = refl

-- a node that was just linked may be validated
pub may_validate_on : {P : Type 0} (p : SeatPart P) → IsInside p.core → HasToValidate p.core.own → p.core.cursor ≡ None → MayValidate p.seats p.core
may_validate_on p in_epoch own none = record { inside = in_epoch; own = own; begins = inl none }

module _ {P : Type 0} {patient : Bool} (p q : SeatPart P) (own : HasToValidate p.core.own) where
  -- what a validation comes to, or a further look, which begins no walk
  pub look_ends : (first : ℕ) (a : Walked) → Answers first p.core.own q a → (patient ≡ false → (first ≡ p.trace.taken) × IsNewWalk first q)
      → LookEnds patient p q a
  look_ends first a x once = by (has_come a) refl
    where
      by : (c : Bool) → has_come a ≡ c → LookEnds patient p q a
      by true came = let z : q.core.own ≡ Linked own.node.node own.node.range own.node.mode Done =
          subst (λ (o : Own). Arrives o q.core) own.is (subst (Answers first p.core.own q) (come_is a came) x) in
          come_held came (ap held_at z ∙ ap asked_of (sym own.is), ap may_leave z)
      by false isnt = come_refused isnt (
        answer_stays first p.core.own q a isnt x,
        λ e. let o = once e in
            subst (λ n. Refuses n (asked_of p.core.own) q a) o.0 (walk_refuses first p.core.own q a isnt x o.1).1,
      )

  -- after any answer but its end the node may be marked, since nothing is held
  module _ (still : IsLaterInEpoch p q) (a : Walked) (ends : LookEnds patient p q a) (isnt : has_come a ≡ false) where
    refused : (q.core.own ≡ p.core.own) × RefusesOnce patient p q a
    refused = ends.refused isnt

    unheld_now : held_at q.core.own ≡ None
    unheld_now = ap held_at refused.0 ∙ unheld p.core.own own

    pub may_mark_on : (is_at_rest : P → Type 0) → MayMark is_at_rest q
    may_mark_on is_at_rest = record { node = own.node; is = refused.0 ∙ own.is; rest = λ done. absurd (to_do own.node.mode (sym own.todo ∙ done)) }

    module _ (rested : P → P) (r : SeatPart P) (mark : IsMarkCall rested q r) (long : IsLong a ↔ IsSpent q) where
      core_marked : r.core ≡ marked q.core own.node.node
      core_marked = mark.core own.node (refused.0 ∙ own.is)

      keeps : Keeps q r
      keeps = record {
        number = mark.number;
        seats = mark.seats;
        taken = let t = mark.taken in omega arith;
        list = mark.list;
        met = mark.met;
        lost = mark.lost;
        look = mark.look;
      }

      -- validation and mark stay in one epoch
      marked_still : IsLaterInEpoch p r
      marked_still = still_on p q r still (record {
        later = record {
          number = mark.number;
          seats = mark.seats;
          pass = mark.free unheld_now;
          client = mark.client;
          occupied = ([], mark.occupied);
          taken = let t = mark.taken in omega arith;
        };
        epoch = ap (λ (v : View). v.epoch) core_marked;
        hand = ap (λ (v : View). v.hand) core_marked ∙ still.hand;
        ready = ap (λ (v : View). v.ready) core_marked;
        asked = mark.asked;
      })

      -- then the hand has no own node, and the answer refuses a try; Long comes exactly where the walk is spent
      pub marked_all : IsLaterInEpoch p r × ValidateEnds patient p r a × (IsLong a ↔ IsSpent r)
      marked_all = (
        marked_still,
        come_refused isnt (
          ap (λ (v : View). v.own) core_marked,
          λ e. refuses_on p.trace.taken p.trace.taken (asked_of p.core.own) (asked_of p.core.own) q r a (omega arith) refl keeps (refused.1 e),
        ),
        long_after q r a mark.look mark.seats unheld_now (ap (λ (v : View). held_at v.own) core_marked) long,
      )

-- ---- the two together

-- a node that was linked asks for what it was filled with
pub asks_linked : (own now : Own) → HasEnds own → now ≡ linked_own todo_of own → asked_of now ≡ asked_of own
asks_linked own now e same = ap asked_of (same ∙ ap (linked_own todo_of) e.is) ∙ ((λ i. Some
    (record { range = record { lo = unwrap_or (e.low i) 0; hi = unwrap_or (e.high i) 0 }; mode = e.node.mode })) ∙ ((λ i. given (sym e.low i) (λ low. given
    (sym e.high i) (λ high. Some (record { range = record { lo = low; hi = high }; mode = e.node.mode })))) ∙ ap asked_of (sym e.is)))

validates_linked : (own now : Own) → HasEnds own → now ≡ linked_own todo_of own → HasToValidate now
validates_linked own now e same = record {
  node = record {
    node = e.node.node;
    range = record { lo = unwrap_or e.node.lo 0; hi = unwrap_or e.node.hi 0 };
    mode = e.node.mode;
    todo = todo_of e.node.mode;
  };
  is = same ∙ ap (linked_own todo_of) e.is;
  todo = refl;
}

module _ {P : Type 0} (p q : SeatPart P) (a : Walked) (may : MayWalk p.core) (still : IsLaterInEpoch p q) (ends : LinkEnds p q a) where
  -- where walk or link refused, the node is still being filled
  pub insert_refused : {patient : Bool} → has_come a ≡ false → InsertEnds patient p q a
  insert_refused isnt = let x = ends.refused isnt in come_refused isnt (inr x.0, λ _. x.1)

  -- otherwise what the validation came to is what the whole comes to
  pub insert_valid : {patient : Bool} → has_come a ≡ true → (r : SeatPart P) (b : Walked) → ValidateEnds patient q r b → InsertEnds patient p r b
  insert_valid came r b x =
      let asks = asks_linked p.core.own q.core.own may.own (ends.held came).0 in record {
        held = λ e. ((x.held e).0 ∙ asks, (x.held e).1);
        refused = λ e. (
          inl (x.refused e).0,
          λ once. refuses_on p.trace.taken q.trace.taken (asked_of p.core.own) (asked_of q.core.own) r r b still.later.taken asks (keeps_all r)
              ((x.refused e).1 once),
        );
      }

-- so one that was linked in an epoch may be validated there
pub to_validate : {P : Type 0} {list : ListShape} {h k : HandState (Beside P)} {i j : Traversal} {x y : ℕ} (a : Walked) → IsHandOf (MayWalkIn i) list h
    → Leaves (IsLaterInTraversal i j) h k x y → LinkEnds h.part k.part a → has_come a ≡ true → IsHandOf (BeginsToValidate j) list k
to_validate {P} {list} {h} {k} {i} {j} a may on ends came = record {
  table = on.counted.table ∙ may.table;
  is = record {
    may = record {
      inside = inside_still h.part k.part may.is.order.inside on.is.later;
      own = validates_linked h.part.core.own k.part.core.own may.is.order.own (ends.held came).0;
      epoch = ap (λ (t : Traversal). t.epoch) on.is.cursor ∙ (may.is.epoch ∙ sym on.is.later.epoch);
    };
    begins = (ends.held came).1;
  };
}

-- ---- the epoch around them

-- an own node that isn't linked may be left
leaves_filled : (own : Own) (node : ℕ) → IsFilling node own → may_leave own ≡ true
leaves_filled own node f = ap may_leave f.1

kept_held : (own : Own) → held_at (kept_own own) ≡ held_at own
kept_held Nothing = refl
kept_held (Filling node lo hi mode aimed) = refl
kept_held (Linked node range mode todo) = refl

ready_held : (own : Own) (h : Held) (ready : List ℕ) → held_at own ≡ Some h → ready_left own ready ≡ ready
ready_held Nothing h ready e = refl
ready_held (Filling node lo hi mode aimed) h ready e = absurd (let z : ◌≡◌ {A = Option Held} None (Some h) = e in cc)
ready_held (Linked node range mode todo) h ready e = refl

asks_ends : (own : Own) → HasEnds own → (h : Held) × (asked_of own ≡ Some h)
asks_ends own e = (
  record { range = record { lo = e.lo; hi = e.hi }; mode = e.node.mode },
  ap asked_of e.is ∙ (λ i. given (e.low i) (λ low. given (e.high i) (λ high. Some (record { range = record { lo = low; hi = high }; mode = e.node.mode })))),
)

same_looked : {P : Type 0} (p q : SeatPart P) → q.trace.looked ≡ p.trace.looked → IsSameLook p q
same_looked p q e = (ap nodes_in e, λ l is. (l, e ∙ is, refl, refl))

module _ {P : Type 0} (p e : SeatPart P) (own : HasEnds p.core.own) (entering : e ≡ quiet_after p Enter (entered p.core)) where
  own_in : e.core.own ≡ p.core.own
  own_in = ap (λ (x : SeatPart P). x.core.own) entering

  later_in : IsLaterInTry p e
  later_in = subst (IsLaterInTry p) (sym entering)
      (record { number = refl; seats = refl; pass = refl; client = refl; occupied = ([], refl); taken = omega arith })

  -- a hand that entered its epoch with a filled node may walk
  pub may_walk_in : IsInside e.core → MayWalk e.core
  may_walk_in i = record { inside = i; own = ends_same p.core.own e.core.own own_in own; cursor = ap (λ (x : SeatPart P). x.core.cursor) entering }

  module _ (f : SeatPart P) (still : IsLaterInEpoch e f) where
    abbrev IsBack : Type 0
    IsBack = (f.core.own ≡ Nothing) ⊎ ((node : ℕ) → IsFilling node e.core.own → IsFilling node f.core.own)

    filled_in : IsFilling own.node.node e.core.own
    filled_in = (own.node, own_in ∙ own.is, refl)

    same_back : f.core.own ≡ e.core.own → IsBack
    same_back same = inr (λ node at. (at.0, same ∙ at.1, at.2))

    leaves_back : IsBack → may_leave f.core.own ≡ true
    leaves_back x = ⊎_elim (λ n. ap may_leave n) (λ g. leaves_filled f.core.own own.node.node (g own.node.node filled_in)) x

    free_back : IsBack → held_at f.core.own ≡ None
    free_back x = ⊎_elim (λ n. ap held_at n) (λ g. ap held_at (g own.node.node filled_in).1) x

    kept_back : IsBack → kept_own f.core.own ≡ Nothing
    kept_back x = ⊎_elim (λ n. ap kept_own n) (λ g. ap kept_own (g own.node.node filled_in).1) x

    may_leave_in : (patient : Bool) (a : Option Walked) (leaves : Bool) → MatchOption a (StaysFilled leaves e f) (InsertEnds patient e f)
        → may_leave f.core.own ≡ true
    may_leave_in patient None leaves x = leaves_back (same_back x.0)
    may_leave_in patient (Some b) leaves x = come_any (has_come b) x (λ y. y.1) (λ y. leaves_back y.0)

    -- after the insertion, also where it was given up, the epoch may be left
    pub may_end_in : (patient : Bool) (a : Option Walked) (leaves : Bool) → MatchOption a (StaysFilled leaves e f) (InsertEnds patient e f)
        → IsInside e.core → MayEnd f.core
    may_end_in patient a leaves ends i = record { inside = inside_still e f i still; own = may_leave_in patient a leaves ends }

    module _ (q : SeatPart P) (leaving : q ≡ quiet_after f Leave (left f.core)) where
      looked_out : q.trace.looked ≡ f.trace.looked
      looked_out = ap (λ (x : SeatPart P). x.trace.looked) leaving ∙ gone_looked f.trace f.core.cursor (is_judging Leave) (gained_by f.core (left f.core))

      seats_out : q.seats ≡ f.seats
      seats_out = ap (λ (x : SeatPart P). x.seats) leaving

      own_out : q.core.own ≡ kept_own f.core.own
      own_out = ap (λ (x : SeatPart P). x.core.own) leaving

      ready_out : q.core.ready ≡ ready_left f.core.own f.core.ready
      ready_out = ap (λ (x : SeatPart P). x.core.ready) leaving

      ready_in : f.core.ready ≡ p.core.ready
      ready_in = still.ready ∙ ap (λ (x : SeatPart P). x.core.ready) entering

      keeps_out : Keeps f q
      keeps_out = record {
        number = ap (λ (x : SeatPart P). x.number) leaving;
        seats = seats_out;
        taken = let t = ap (λ (x : SeatPart P). x.trace.taken) leaving in omega arith;
        list = ap (λ (x : SeatPart P). x.trace.list) leaving;
        met = ap (λ (x : SeatPart P). x.trace.met) leaving;
        lost = ap (λ (x : SeatPart P). x.trace.lost) leaving;
        look = same_looked f q looked_out;
      }

      -- the whole, from entering to leaving, is a call of the try
      pub insert_later : IsLaterInTry p q
      insert_later = later_on p e q later_in (later_on e f q still.later
          (subst (IsLaterInTry f) (sym leaving)
          (record { number = refl; seats = refl; pass = refl; client = refl; occupied = ([], refl); taken = omega arith })))

      back_ready : IsBack → (node : ℕ) → IsFilling node p.core.own → (q.core.ready ≡ p.core.ready) ⊎ (q.core.ready ≡ node ∷ p.core.ready)
      back_ready x node at = ⊎_elim
          (λ n. inl (ready_out ∙ (ap (λ (o : Own). ready_left o f.core.ready) n ∙ ready_in)))
          (λ g. let h = g node (at.0, own_in ∙ at.1, at.2) in inr (ready_out ∙ (ap (λ (o : Own). ready_left o f.core.ready) h.1 ∙ (λ i. h.2 i ∷ ready_in i)))) x

      back_refuses : (b : Walked) → Refuses e.trace.taken (asked_of e.core.own) f b → Refuses p.trace.taken (asked_of p.core.own) q b
      back_refuses b x = refuses_on p.trace.taken e.trace.taken (asked_of p.core.own) (asked_of e.core.own) f q b later_in.taken
          (ap asked_of own_in) keeps_out x

      -- the node that is still being filled is the first ready one again
      ready_again : f.core.own ≡ e.core.own → (node : ℕ) → IsFilling node p.core.own → q.core.ready ≡ node ∷ p.core.ready
      ready_again same node at = ready_out ∙ (ap (λ (o : Own). ready_left o f.core.ready) (same ∙ (own_in ∙ at.1)) ∙ (λ i. at.2 i ∷ ready_in i))

      held_out : IsHeldIn e f → (held_at q.core.own ≡ asked_of p.core.own) × (q.core.ready ≡ p.core.ready)
      held_out x = let asks = asks_ends p.core.own own in let held : held_at f.core.own ≡ asked_of p.core.own = x.0 ∙ ap asked_of own_in in
          (ap held_at own_out ∙ (kept_held f.core.own ∙ held), ready_out ∙ (ready_held f.core.own asks.0 f.core.ready (held ∙ asks.1) ∙ ready_in))

      -- after it the range is held, or the hand has no own node and its ready nodes are as before or with it
      pub insert_ends : (patient : Bool) (a : Option Walked) (leaves : Bool) → MatchOption a (StaysFilled leaves e f) (InsertEnds patient e f)
          → MatchOption a (LeavesNode p q × (leaves ≡ true)) (EpochEnds patient p q)
      insert_ends patient None leaves x = ((own_out ∙ kept_back (same_back x.0), ready_again x.0), x.1)
      insert_ends patient (Some b) leaves x = record {
        held = λ came. held_out (x.held came);
        refused = λ isnt. let y = x.refused isnt in (own_out ∙ kept_back y.0, (λ once. back_refuses b (y.1 once)), back_ready y.0);
      }

      -- Long comes exactly where the walk is spent, also behind the leaving
      pub insert_long : (patient : Bool) (a : Option Walked) (leaves : Bool) → MatchOption a (StaysFilled leaves e f) (InsertEnds patient e f)
          → MatchOption a (Unit {0}) (λ b. IsLong b ↔ IsSpent f) → MatchOption a (Unit {0}) (λ b. IsLong b ↔ IsSpent q)
      insert_long patient None leaves x l = l
      insert_long patient (Some b) leaves x l = by (has_come b) refl
        where
          by : (c : Bool) → has_come b ≡ c → IsLong b ↔ IsSpent q
          by true came = let asks = asks_ends p.core.own own in (
            (λ is. absurd (subst IsLong (come_is b came) is)),
            (λ s. absurd (let none : ◌≡◌ {A = Option Held} None (Some asks.0) = sym s.1 ∙ ((held_out (x.held came)).0 ∙ asks.1) in cc)),
          )
          by false isnt = let back = (x.refused isnt).0 in
              long_after f q b (same_looked f q looked_out) seats_out (free_back back) (ap held_at (own_out ∙ kept_back back)) l
