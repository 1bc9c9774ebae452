-- The computing plan is the table: for every kind of step a plan is the line that the view enables, and a line is the
-- plan.
use Rattle.std.proofs.Common.{◌≡◌, ◌≢◌, ℕ, Bool, true, false, List, [], ◌∷◌, Some, None, inl, inr, ⊎_elim, refl, sym, ap, ◌∙◌, subst, arith, eqb-true, eq-eqb}
use Rattle.std.specs.Prelude.{Option, ◌==◌, ◌&&◌, not, is_some, is_none, if◌then◌else◌}
use Rattle.std.proofs.lemmas.Bool.{eqb-false, ltb-true, lt-ltb, leb-true, le-leb}
use Rattle.view_lists.specs.Counted.{is_empty, times}
use Rattle.lock_core.specs.declared.views.View.{View}
use Rattle.lock_core.specs.declared.views.Cursor.{Cursor}
use Rattle.lock_core.specs.declared.views.Todo.{Todo}
use Rattle.lock_core.specs.declared.views.Todo.TheVariants.{Done}
use Rattle.lock_core.specs.declared.views.Own.{Own}
use Rattle.lock_core.specs.declared.views.Own.TheVariants.{Nothing, Filling, Linked}
use Rattle.lock_core.specs.declared.steps.Step.{Step}
use Rattle.lock_core.specs.declared.steps.Step.TheVariants.{Enter, Leave, ReadEpoch, ReadHome, GiveHome, FillLo, FillHi}
use Rattle.lock_core.specs.declared.steps.Step.TheVariants.{Aim, ClearHome, Walk, ReadLo, ReadHi, Link, Unlink, Mark}
use Rattle.lock_core.specs.declared.steps.Step.TheVariants.{QuickLink, QuickUnlink, Settle}
use Rattle.lock_core.specs.Nodes.{Filled, Listed, filling, listed, filled_of, listed_of}
use Rattle.lock_core.specs.StepTable.{Plan, IsLine, IsAtPlace, Aims, enter, leave, read_epoch, read_home, give_home}
use Rattle.lock_core.specs.StepTable.{fill_lo, fill_hi, aim, clear_home, walk, read_lo, read_hi, link, unlink, mark}
use Rattle.lock_core.specs.StepTable.{quick_link, quick_unlink, settle}
use Rattle.lock_core.specs.Machine.{given, when, plan, is_done, may_leave, may_judge, is_at_place, aim_of, first_of_list, is_nothing}

-- where the whole has a value, the first part has one, and the rest has the value on it
pub given-some : {A B : Type 0} (o : Option A) (f : A → Option B) (b : B) → given o f ≡ Some b → (a : A) × (o ≡ Some a) × (f a ≡ Some b)
given-some None f b e = absurd (cc)
given-some (Some a) f b e = (a, refl, e)

-- a condition with a value holds, and the value is the one given
pub when-some : {A : Type 0} (t : Bool) (a b : A) → when t a ≡ Some b → (t ≡ true) × (a ≡ b)
when-some false a b e = absurd (cc)
when-some true a b e = (refl, cc)

-- two tests that hold together hold each
pub both : (a b : Bool) → (a && b) ≡ true → (a ≡ true) × (b ≡ true)
both true b e = (refl, e)
both false b e = absurd (cc)

-- where the first part has a value and the rest has one on it, the whole has that
pub given-is : {A B : Type 0} (o : Option A) (f : A → Option B) (a : A) (b : B) → o ≡ Some a → f a ≡ Some b → given o f ≡ Some b
given-is None f a b e e' = absurd (cc)
given-is (Some c) f a b e e' = let same : c ≡ a = cc in ap f same ∙ e'

-- a condition that holds gives its value
pub when-is : {A : Type 0} (t : Bool) (a : A) → t ≡ true → when t a ≡ Some a
when-is false a e = absurd (cc)
when-is true a e = refl

-- two tests that hold each hold together
pub together : (a b : Bool) → a ≡ true → b ≡ true → (a && b) ≡ true
together true b e e' = e'
together false b e e' = absurd (cc)

-- an own node that reads as one being filled is that one
pub is_filling : (own : Own) (f : Filled) → filled_of own ≡ Some f → own ≡ filling f
is_filling Nothing f e = absurd (cc)
is_filling (Filling node lo hi mode aimed) f e = let same : record { node = node; lo = lo; hi = hi; mode = mode; aimed = aimed } ≡ f = cc in ap filling same
is_filling (Linked node range mode todo) f e = absurd (cc)

-- an own node that reads as a linked one is that one
pub is_listed : (own : Own) (k : Listed) → listed_of own ≡ Some k → own ≡ listed k
is_listed Nothing k e = absurd (cc)
is_listed (Filling node lo hi mode aimed) k e = absurd (cc)
is_listed (Linked node range mode todo) k e = let same : record { node = node; range = range; mode = mode; todo = todo } ≡ k = cc in ap listed same

none : {A : Type 0} (o : Option A) → is_none o ≡ true → o ≡ None
none None e = refl
none (Some a) e = absurd (cc)

some : {A : Type 0} (o : Option A) → is_some o ≡ true → o ≢ None
some None e = absurd (cc)
some (Some a) e = λ q. cc

placed : (c : Cursor) → is_at_place c ≡ true → IsAtPlace c
placed c e = split (c.cur == 0) refl e
  where
    split : (b : Bool) → (c.cur == 0) ≡ b → (if b then true else is_none c.next && is_some c.lo) ≡ true → IsAtPlace c
    split true at e = inl (eqb-true _ _ at)
    split false at e = let t = both _ _ e in inr (none c.next t.0, some c.lo t.1)

none_is : {A : Type 0} (o : Option A) → o ≡ None → is_none o ≡ true
none_is o e = ap is_none e

some_is : {A : Type 0} (o : Option A) → o ≢ None → is_some o ≡ true
some_is None d = absurd (d refl)
some_is (Some a) d = refl

apart : (a b : ℕ) → not (a == b) ≡ true → a ≢ b
apart a b e q = let t = eq-eqb a b q in let z = ap not t in cc

apart_is : (a b : ℕ) → a ≢ b → not (a == b) ≡ true
apart_is a b d = split (a == b) refl
  where
    split : (t : Bool) → (a == b) ≡ t → not t ≡ true
    split true e = absurd (d (eqb-true a b e))
    split false e = refl

filled : (v : View) (l : List ℕ) → not (is_empty l) ≡ true → l ≢ []
filled v [] e = absurd (cc)
filled v (n ∷ rest) e = λ q. cc

filled_is : (l : List ℕ) → l ≢ [] → not (is_empty l) ≡ true
filled_is [] d = absurd (d refl)
filled_is (n ∷ rest) d = refl

done : (todo : Todo) → is_done todo ≡ true → todo ≡ Done
done Done e = refl
done _ e = absurd (cc)

leaving : (own : Own) → may_leave own ≡ true → (k : Listed) → own ≡ listed k → k.todo ≡ Done
leaving (Linked node range mode todo) e k is = let d = done todo e in let same : todo ≡ k.todo = cc in sym same ∙ d
leaving _ e k is = absurd (cc)

leaving_is : (own : Own) → ((k : Listed) → own ≡ listed k → k.todo ≡ Done) → may_leave own ≡ true
leaving_is (Linked node range mode todo) h = ap is_done (h (record { node = node; range = range; mode = mode; todo = todo }) refl)
leaving_is _ h = refl

-- a seat that may judge and fills a node knows both its ends
pub judging : (own : Own) → may_judge own ≡ true → (f : Filled) → own ≡ filling f → (f.lo ≢ None) × (f.hi ≢ None)
judging (Filling node lo hi mode aimed) e f is =
    let t = both _ _ e in let l : lo ≡ f.lo = cc in let h : hi ≡ f.hi = cc in
    ((λ q. some lo t.0 (l ∙ q)), (λ q. some hi t.1 (h ∙ q)))
judging _ e f is = absurd (cc)

-- a seat that knows both ends of the node that it fills, if it fills one, may judge
pub judging_is : (own : Own) → ((f : Filled) → own ≡ filling f → (f.lo ≢ None) × (f.hi ≢ None)) → may_judge own ≡ true
judging_is (Filling node lo hi mode aimed) h =
    let t = h (record { node = node; lo = lo; hi = hi; mode = mode; aimed = aimed }) refl in
    together _ _ (some_is lo t.0) (some_is hi t.1)
judging_is _ h = refl

nothing : (own : Own) → is_nothing own ≡ true → own ≡ Nothing
nothing Nothing e = refl
nothing _ e = absurd (cc)

placed_is : (c : Cursor) → IsAtPlace c → is_at_place c ≡ true
placed_is c place = split (c.cur == 0) refl
  where
    split : (b : Bool) → (c.cur == 0) ≡ b → (if b then true else is_none c.next && is_some c.lo) ≡ true
    split true e = refl
    split false e = ⊎_elim
        (λ (z : c.cur ≡ 0). absurd (eqb-false _ _ e z))
        (λ (t : (c.next ≡ None) × (c.lo ≢ None)). together _ _ (none_is c.next t.0) (some_is c.lo t.1))
        place

aiming : (o : Option Cursor) (w : ℕ) → aim_of o ≡ Some w → Aims o w
aiming None w e = cc
aiming (Some c) w e =
    let t = when-some _ _ _ e in let a = both _ _ t.0 in
    (sym t.1, eqb-true _ _ a.0, placed c a.1)

aiming_is : (o : Option Cursor) (w : ℕ) → Aims o w → aim_of o ≡ Some w
aiming_is None w e = ap (λ (n : ℕ). Some n) (sym e)
aiming_is (Some c) w t = when-is _ _ (together _ _ (eq-eqb _ _ t.1) (placed_is c t.2)) ∙ ap (λ (n : ℕ). Some n) (sym t.0)

first_is : (l : List ℕ) (t : ℕ × List ℕ) → first_of_list l ≡ Some t → l ≡ t.0 ∷ t.1
first_is [] t e = absurd (cc)
first_is (n ∷ rest) t e = let same : (n, rest) ≡ t = cc in ap (λ (q : ℕ × List ℕ). q.0 ∷ q.1) same

-- from the plan to the line
module _ (seats s : ℕ) (v : View) (p : Plan) where
  line : (step : Step) → plan seats s v step ≡ Some p → IsLine seats s v step p
  line Enter e =
      let t = when-some _ _ _ e in let a = both _ _ t.0 in
      subst (IsLine seats s v Enter) t.1 (enter (eqb-true _ _ a.0) (none _ a.1))
  line Leave e =
      let t = when-some _ _ _ e in let a = both _ _ t.0 in let b = both _ _ a.0 in
      subst (IsLine seats s v Leave) t.1 (leave (eqb-true _ _ b.0) (none _ b.1) (leaving v.own a.1))
  line (ReadEpoch j) e =
      let t = when-some _ _ _ e in let a = both _ _ t.0 in let b = both _ _ a.0 in let d = both _ _ b.0 in
      subst (IsLine seats s v (ReadEpoch j)) t.1 (read_epoch j (eqb-true _ _ d.0) (filled v v.homes d.1) (ltb-true _ _ b.1) (apart j s a.1))
  line (ReadHome n) e =
      let t = when-some _ _ _ e in let a = both _ _ t.0 in let b = both _ _ a.0 in
      let d = apart (times n v.used) 0 b.1 in
      subst (IsLine seats s v (ReadHome n)) t.1 (read_home n (eqb-true _ _ b.0) (omega arith) (eqb-true _ _ a.1))
  line GiveHome e =
      let n = given-some _ _ _ e in
      subst (IsLine seats s v GiveHome) (cc) (give_home n.0 n.1)
  line (FillLo lo) e =
      let f = given-some _ _ _ e in let t = when-some _ _ _ f.2 in let a = both _ _ t.0 in
      subst (IsLine seats s v (FillLo lo)) t.1 (fill_lo f.0 lo (is_filling v.own f.0 f.1) (none _ a.0) (none _ a.1))
  line (FillHi hi mode) e =
      let f = given-some _ _ _ e in let lo = given-some _ _ _ f.2 in let t = when-some _ _ _ lo.2 in
      let a = both _ _ t.0 in let b = both _ _ a.0 in let d = both _ _ b.0 in
      subst (IsLine seats s v (FillHi hi mode)) t.1
      (fill_hi f.0 lo.0 hi mode (is_filling v.own f.0 f.1) lo.1 (ltb-true _ _ d.0) (leb-true _ _ d.1) (none _ b.1)
      (none _ a.1))
  line Aim e =
      let f = given-some _ _ _ e in let lo = given-some _ _ _ f.2 in let hi = given-some _ _ _ lo.2 in let w = given-some _ _ _ hi.2 in
      subst (IsLine seats s v Aim) (cc) (aim f.0 lo.0 hi.0 w.0 (is_filling v.own f.0 f.1) lo.1 hi.1 (aiming v.cursor w.0 w.1))
  line (ClearHome n) e =
      let l = given-some _ _ _ e in let t = when-some _ _ _ l.2 in
      let a = both _ _ t.0 in let b = both _ _ a.0 in
      subst (IsLine seats s v (ClearHome n)) t.1 (clear_home n l.0.1 (nothing v.own b.0) (eqb-true _ _ b.1)
      (first_is v.ready l.0 l.1 ∙ ap (λ (m : ℕ). m ∷ l.0.1) (eqb-true _ _ a.1)))
  line Walk e =
      let cell = given-some _ _ _ e in let t = when-some _ _ _ cell.2 in let a = both _ _ t.0 in
      subst (IsLine seats s v Walk) t.1 (walk cell.0 (eqb-true _ _ a.0) (none _ a.1) cell.1)
  line ReadLo e =
      let c = given-some _ _ _ e in let y = given-some _ _ _ c.2 in let n = given-some _ _ _ y.2 in let t = when-some _ _ _ n.2 in
      subst (IsLine seats s v ReadLo) t.1 (read_lo c.0 y.0 n.0 c.1 y.1 n.1 (eqb-true _ _ t.0))
  line ReadHi e =
      let c = given-some _ _ _ e in let y = given-some _ _ _ c.2 in let n = given-some _ _ _ y.2 in let lo = given-some _ _ _ n.2 in
      let t = when-some _ _ _ lo.2 in let a = both _ _ t.0 in
      subst (IsLine seats s v ReadHi) t.1 (read_hi c.0 y.0 n.0 lo.0 c.1 y.1 n.1 (eqb-true _ _ a.0) lo.1 (judging v.own a.1))
  line Link e =
      let f = given-some _ _ _ e in let c = given-some _ _ _ f.2 in let lo = given-some _ _ _ c.2 in
      let hi = given-some _ _ _ lo.2 in let w = given-some _ _ _ hi.2 in
      let t = when-some _ _ _ w.2 in let a = both _ _ t.0 in let b = both _ _ a.0 in
      subst (IsLine seats s v Link) t.1 (link f.0 c.0 lo.0 hi.0 (is_filling v.own f.0 f.1) c.1 lo.1 hi.1
      (w.1 ∙ ap (λ (n : ℕ). Some n) (eqb-true _ _ b.0)) (eqb-true _ _ b.1) (placed c.0 a.1))
  line Unlink e =
      let c = given-some _ _ _ e in let y = given-some _ _ _ c.2 in let n = given-some _ _ _ y.2 in
      let t = when-some _ _ _ n.2 in let a = both _ _ t.0 in
      subst (IsLine seats s v Unlink) t.1 (unlink c.0 y.0 n.0 c.1 y.1 n.1 (eqb-true _ _ a.0) (none _ a.1))
  line Mark e =
      let k = given-some _ _ _ e in
      subst (IsLine seats s v Mark) (cc) (mark k.0 (is_listed v.own k.0 k.1))
  line QuickLink e =
      let f = given-some _ _ _ e in let lo = given-some _ _ _ f.2 in let hi = given-some _ _ _ lo.2 in let w = given-some _ _ _ hi.2 in
      let t = when-some _ _ _ w.2 in let a = both _ _ t.0 in
      subst (IsLine seats s v QuickLink) t.1 (quick_link f.0 lo.0 hi.0 (is_filling v.own f.0 f.1) lo.1 hi.1
      (w.1 ∙ ap (λ (n : ℕ). Some n) (eqb-true _ _ a.0)) (eqb-true _ _ a.1))
  line QuickUnlink e =
      let k = given-some _ _ _ e in let t = when-some _ _ _ k.2 in let a = both _ _ t.0 in
      subst (IsLine seats s v QuickUnlink) t.1 (quick_unlink k.0 (is_listed v.own k.0 k.1) (done _ a.0) (none _ a.1))
  line Settle e =
      let c = given-some _ _ _ e in let t = when-some _ _ _ c.2 in let a = both _ _ t.0 in
      subst (IsLine seats s v Settle) t.1 (settle c.0 c.1 (none _ a.0) (eqb-true _ _ a.1))

-- what the plan computes is a line of the table
pub line_of_plan : (seats s : ℕ) (v : View) (step : Step) (p : Plan) → plan seats s v step ≡ Some p → IsLine seats s v step p
line_of_plan seats s v step p = line seats s v p step

-- and back
pub plan_of_line : (seats s : ℕ) (v : View) (step : Step) (p : Plan) → IsLine seats s v step p → plan seats s v step ≡ Some p
plan_of_line seats s v step p (enter even hand) = when-is _ _ (together _ _ (eq-eqb _ _ even) (none_is _ hand))
plan_of_line seats s v step p (leave odd hand own) = when-is _ _ (together _ _ (together _ _ (eq-eqb _ _ odd) (none_is _ hand)) (leaving_is v.own own))
plan_of_line seats s v step p (read_epoch j even homes less other) =
    when-is _ _ (together _ _ (together _ _ (together _ _ (eq-eqb _ _ even) (filled_is v.homes homes)) (lt-ltb _ _ less)) (apart_is j s other))
plan_of_line seats s v step p (read_home n even used homes) =
    when-is _ _ (together _ _ (together _ _ (eq-eqb _ _ even) (apart_is _ _ (λ q. omega arith))) (eq-eqb _ _ homes))
plan_of_line seats s v step p (give_home n hand) = given-is _ _ n _ hand refl
plan_of_line seats s v step p (fill_lo f lo own aimed cursor) =
    given-is _ _ f _ (ap filled_of own) (when-is _ _ (together _ _ (none_is _ aimed) (none_is _ cursor)))
plan_of_line seats s v step p (fill_hi f lo hi mode own low less most aimed cursor) =
    given-is _ _ f _ (ap filled_of own) (given-is _ _ lo _ low
    (when-is _ _ (together _ _ (together _ _ (together _ _ (lt-ltb _ _ less) (le-leb _ _ most)) (none_is _ aimed)) (none_is _ cursor))))
plan_of_line seats s v step p (aim f lo hi w own low high at) =
    given-is _ _ f _ (ap filled_of own) (given-is _ _ lo _ low (given-is _ _ hi _ high (given-is _ _ w _ (aiming_is v.cursor w at) refl)))
plan_of_line seats s v step p (clear_home n rest own even ready) =
    given-is _ _ (n, rest) _ (ap first_of_list ready) (when-is _ _ (together _ _ (together _ _ (ap is_nothing own) (eq-eqb _ _ even)) (eq-eqb _ _ refl)))
plan_of_line seats s v step p (walk cell odd hand at) = given-is _ _ cell _ at (when-is _ _ (together _ _ (eq-eqb _ _ odd) (none_is _ hand)))
plan_of_line seats s v step p (read_lo c y n cursor node next plain) =
    given-is _ _ c _ cursor (given-is _ _ y _ node (given-is _ _ n _ next (when-is _ _ (eq-eqb _ _ plain))))
plan_of_line seats s v step p (read_hi c y n lo cursor node next plain low own) =
    given-is _ _ c _ cursor (given-is _ _ y _ node
    (given-is _ _ n _ next (given-is _ _ lo _ low (when-is _ _ (together _ _ (eq-eqb _ _ plain) (judging_is v.own own))))))
plan_of_line seats s v step p (link f c lo hi own cursor low high aimed plain place) =
    given-is _ _ f _ (ap filled_of own) (given-is _ _ c _ cursor (given-is _ _ lo _ low (given-is _ _ hi _ high (given-is _ _ c.cur _ aimed
    (when-is _ _ (together _ _ (together _ _ (eq-eqb _ _ refl) (eq-eqb _ _ plain)) (placed_is c place)))))))
plan_of_line seats s v step p (unlink c y n cursor node next marked hand) =
    given-is _ _ c _ cursor (given-is _ _ y _ node (given-is _ _ n _ next (when-is _ _ (together _ _ (eq-eqb _ _ marked) (none_is _ hand)))))
plan_of_line seats s v step p (mark k own) = given-is _ _ k _ (ap listed_of own) refl
plan_of_line seats s v step p (quick_link f lo hi own low high aimed even) =
    given-is _ _ f _ (ap filled_of own) (given-is _ _ lo _ low
    (given-is _ _ hi _ high (given-is _ _ 0 _ aimed (when-is _ _ (together _ _ (eq-eqb 0 0 refl) (eq-eqb _ _ even))))))
plan_of_line seats s v step p (quick_unlink k own todo hand) =
    given-is _ _ k _ (ap listed_of own) (when-is _ _ (together _ _ (ap is_done todo) (none_is _ hand)))
plan_of_line seats s v step p (settle c cursor prev low) =
    given-is _ _ c _ cursor (when-is _ _ (together _ _ (none_is _ prev) (eq-eqb _ _ low)))
