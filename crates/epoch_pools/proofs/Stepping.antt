-- What a step leaves of a hand, by what its operation returned: what belongs to the hand's number, what the hand may
-- rely on then, and that a store returns 0. The steps of epochs and homes leave what their calls name.
use Rattle.std.proofs.Common.{◌≡◌, ℕ, ◌+◌, ◌%◌, ◌^◌, ◌<◌, true, false, Bool, List, [], ◌∷◌, ◌++◌}
use Rattle.std.proofs.Common.{append_assoc, refl, sym, ap, ◌∙◌, subst, arith, eq-eqb, ne_eqb}
use Rattle.std.specs.Prelude.{Option, Some, None, is_some, ◌==◌, ◌||◌, if◌then◌else◌}
use Rattle.lock_core.specs.declared.views.View.{View}
use Rattle.lock_core.specs.declared.views.Cursor.{Cursor}
use Rattle.lock_core.specs.declared.steps.Step.{Step}
use Rattle.lock_core.specs.declared.steps.Step.TheVariants.{Enter, GiveHome, FillLo, FillHi, Aim, ClearHome, Mark, QuickLink}
use Rattle.lock_core.specs.declared.ops.Act.{Act}
use Rattle.lock_core.specs.declared.ops.Act.TheVariants.{Load, Store, Add, Exchange}
use Rattle.lock_core.specs.StepTable.{Plan, IsLine, enter, give_home, fill_lo, fill_hi, aim, clear_home}
use Rattle.lock_core.specs.Machine.{held_at}
use Rattle.lock_core.specs.Sizes.{IsViewSound}
use Rattle.lock_core.specs.Operations.{planned, IsEnabled, IsStoring, Writes}
use Rattle.lock_core.proofs.Enabled.{line_of}
use Rattle.lock_core.proofs.Table.{plan_of_line}
use Rattle.epoch_pools.specs.declared.record.Looked.{Looked}
use Rattle.epoch_pools.specs.declared.record.Occupied.{Occupied}
use Rattle.epoch_pools.specs.declared.record.Record.{Record}
use Rattle.epoch_pools.specs.declared.views.SeatPart.{SeatPart}
use Rattle.epoch_pools.specs.Record.{record_after, occupied_at, occupied_after, KeepsOccupied, looked_on, looked_with, is_judging, gained_by}
use Rattle.epoch_pools.specs.Pools.{IsWhole}
use Rattle.epoch_pools.specs.Running.{pass_kept, IsAnswer, line_for, Enables, core_after, part_after, Told}
use Rattle.epoch_pools.specs.Hands.{IsHandView}
use Rattle.epoch_pools.proofs.Pools.{pooled_after}

-- after a store the record doesn't depend on what the word was
record_same : (t : Record) (v now : View) (step : Step) (place found answer : ℕ) → IsStoring step
    → record_after t v step place found now ≡ record_after t v step place answer now
record_same t v now GiveHome place found answer s = refl
record_same t v now (FillLo lo) place found answer s = refl
record_same t v now (FillHi hi mode) place found answer s = refl
record_same t v now Aim place found answer s = refl
record_same t v now (ClearHome n) place found answer s = refl
record_same t v now _ place found answer s = absurd s

-- a step keeps what the record had of lists that weren't empty
pub occupied_kept : (t : Record) (step : Step) (found : ℕ) → (more : List Occupied) × (occupied_after t step found ≡ more ++ t.occupied)
occupied_kept t QuickLink found = by_test (found == 0)
  where
    by_test : (b : Bool) → (more : List Occupied) × (occupied_at t t.list b ≡ more ++ t.occupied)
    by_test true = ([], refl)
    by_test false = (record { list = t.list; step = t.taken } ∷ [], refl)
occupied_kept t _ found = ([], refl)

-- and so do steps one after another
pub occupied_on : (a b c : Record) → KeepsOccupied a b → KeepsOccupied b c → KeepsOccupied a c
occupied_on a b c x y = (y.0 ++ x.0, y.1 ∙ (ap (λ l. y.0 ++ l) x.1 ∙ sym (append_assoc y.0 x.0 a.occupied)))

-- a store's line makes of every word the same
writes_same : (seats s : ℕ) (v : View) (step : Step) (p : Plan) → IsStoring step → IsLine seats s v step p → (w u : ℕ) → p.write w ≡ p.write u
writes_same seats s v GiveHome p st (give_home n hand) w u = refl
writes_same seats s v (FillLo k) p st (fill_lo f lo own aimed cursor) w u = refl
writes_same seats s v (FillHi k m) p st (fill_hi f lo hi mode own low less most aimed cursor) w u = refl
writes_same seats s v Aim p st (aim f lo hi x own low high at) w u = refl
writes_same seats s v (ClearHome k) p st (clear_home n rest own even ready) w u = refl
writes_same seats s v _ p st line w u = absurd st

-- an exchange leaves a word that isn't the one that it expects
else_same : (old new w : ℕ) → (w ≡ old → ⊥) → (if w == old then new else w) ≡ w
else_same old new w differ = ap (λ (b : Bool). if b then new else w) (ne_eqb w old differ)

not_mark : (step : Step) (w : ℕ) → IsStoring step → step ≡ Mark → w % 2 ≡ 0
not_mark step w st e = absurd (subst IsStoring e st)

-- the line of a step, by the seat's number, the number of seats and the view that a call has
pub line_again : {P : Type 0} (p : SeatPart P) (seats number : ℕ) (v : View) (step : Step) → p.seats ≡ seats → p.number ≡ number
    → p.core ≡ v → planned seats number v step ≡ line_for p step
line_again p seats number v step many is core = λ i. planned (sym many i) (sym is i) (sym core i) step

module _ {P : Type 0} (rested : P → P) (p : SeatPart P) (step : Step) where
  -- what a step leaves, by what its operation returns
  pub answered : (act : Act) (found answer : ℕ) → Writes step (line_for p step) act → IsAnswer act found answer
      → part_after rested p step found ≡ part_after rested p step answer
  answered Load found answer w f = ap (part_after rested p step) (sym f)
  answered Add found answer w f = ap (part_after rested p step) (sym f)
  answered (Exchange old new) found answer w f = ap (part_after rested p step) (sym f)
  answered (Store value) found answer w f = let e : core_after p step found ≡ core_after p step answer = w.1 found answer in
      let t = ap (record_after p.trace p.core step (line_for p step).place found) e
      ∙ record_same p.trace p.core (core_after p step answer) step (line_for p step).place found answer w.2 in
      λ i. record { number = p.number; seats = p.seats; core = e i; pass = pass_kept rested (held_at p.core.own) (held_at (e i).own) p.pass; trace = t i }

  -- and what it says beside, by what its operation returns
  pub told_again : (seats : ℕ) (act : Act) (found answer : ℕ) → Writes step (line_for p step) act → IsAnswer act found answer
      → Told seats p step found → Told seats p step answer
  told_again seats Load found answer w f t = subst (Told seats p step) (sym f) t
  told_again seats Add found answer w f t = subst (Told seats p step) (sym f) t
  told_again seats (Exchange old new) found answer w f t = subst (Told seats p step) (sym f) t
  told_again seats (Store value) found answer w f t = record {
    many = t.many;
    sound = subst (IsViewSound p.seats p.number) (w.1 found answer) t.sound;
    whole = subst (IsWhole p.number) (w.1 found answer) t.whole;
    kept = λ keeping h is. ap (λ (c : View). held_at c.own) (sym (w.1 found answer)) ∙ t.kept keeping h is;
    moment = λ loading. absurd (loading w.2);
  }

  -- a step that stores returns 0, since no other operation makes the same of every word
  pub zero_after : (act : Act) (found answer : ℕ) → Enables p step → Writes step (line_for p step) act → IsAnswer act found answer → IsStoring step → answer ≡ 0
  zero_after act found answer may w f st = by_act act w f
    where
      same : (a b : ℕ) → (line_for p step).write a ≡ (line_for p step).write b
      same a b = writes_same p.seats p.number p.core step (line_for p step) st (line_of p.seats p.number p.core step may) a b

      by_act : (act : Act) → Writes step (line_for p step) act → IsAnswer act found answer → answer ≡ 0
      by_act (Store value) w f = f
      by_act Load w f = let e : ◌≡◌ {A = ℕ} 0 1 = sym (w 0) ∙ same 0 1 ∙ w 1 in absurd (omega arith)
      by_act Add w f =
          let e : (0 + 1) % 2 ^ 64 ≡ (1 + 1) % 2 ^ 64 = sym (w 0 (omega arith) (not_mark step 0 st)) ∙ same 0 1 ∙ w 1 (omega arith) (not_mark step 1 st) in
          absurd (omega arith)
      by_act (Exchange old new) w f = let a = old + 1 in let b = old + 2 in
          let one : (line_for p step).write a ≡ a = w a ∙ else_same old new a (λ h. omega arith) in
          let two : (line_for p step).write b ≡ b = w b ∙ else_same old new b (λ h. omega arith) in
          let e : old + 1 ≡ old + 2 = sym one ∙ same a b ∙ two in absurd (omega arith)

module _ (seats s : ℕ) (v : View) where
  -- when the steps of epochs and homes are enabled
  pub may_enter : v.epoch % 2 ≡ 0 → v.hand ≡ None → IsEnabled seats s v Enter
  may_enter even hand = ap is_some (plan_of_line seats s v Enter _ (enter even hand))

or_last : (a b : Bool) → b ≡ true → (a || b) ≡ true
or_last true b e = refl
or_last false b e = e

-- what a cursor in that list has looked at is known, as the record keeps it
abbrev pub HasLooked : Option Looked → ℕ → Option Cursor → Type 0
HasLooked looked list cursor = (c : Cursor) → cursor ≡ Some c → (l : Looked) × (looked ≡ Some l) × (l.nodes ≡ c.seen) × (c.cur ≡ 0 → l.ended ≡ true)
    × (l.list ≡ list)

-- what a cursor has looked at is in the record after a step, if it was before
looked_kept : (t : Record) (before now : Option Cursor) (judging gained : Bool) → HasLooked t.looked t.list before
    → HasLooked (looked_with t before now judging gained) t.list now
looked_kept t before None judging gained old c e = absurd (cc)
looked_kept t None (Some d) judging gained old c e = let same : d ≡ c = cc in (
  record { nodes = d.seen; judged = 0; ended = d.cur == 0; held = gained; list = t.list; step = t.taken },
  refl,
  ap (λ (x : Cursor). x.seen) same,
  (λ at. eq-eqb d.cur 0 (ap (λ (x : Cursor). x.cur) same ∙ at)),
  refl,
)
looked_kept t (Some b) (Some d) judging gained old c e = let same : d ≡ c = cc in let l = old b refl in (
  record l.0 { nodes = d.seen; judged = (if judging then l.0.judged + 1 else l.0.judged); ended = l.0.ended || d.cur == 0; held = l.0.held || gained },
  ap (λ (o : Option Looked). looked_on o d judging gained) l.1,
  ap (λ (x : Cursor). x.seen) same,
  (λ at. or_last l.0.ended (d.cur == 0) (eq-eqb d.cur 0 (ap (λ (x : Cursor). x.cur) same ∙ at))),
  l.4,
)

module _ {P : Type 0} (p : SeatPart P) where
  -- what a hand may rely on after a step of the lock
  pub hand_after : (rested : P → P) (step : Step) (found seats : ℕ) → p.number < p.seats → Enables p step → IsHandView p
      → Told seats p step found → IsHandView (part_after rested p step found)
  hand_after rested step found seats below may view told = record {
    sound = told.sound;
    pooled = pooled_after p.seats p.number p.core step found below may view.pooled told.whole;
    looked = looked_kept p.trace p.core.cursor (core_after p step found).cursor (is_judging step) (gained_by p.core (core_after p step found)) view.looked;
  }
