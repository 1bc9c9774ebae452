-- A step in list i, as the rule of all lists has it, shows as the step of one list: what stands beside the list stays,
-- but where the step gives a range back.
use Rattle.std.proofs.Common.{◌≡◌, ◌≢◌, ◌⊎◌, ℕ, ◌<◌, arith, Bool, true, false, List, length, refl, sym, ap, ◌∙◌, ⊎_elim, eqb-true, eq-eqb, ne_eqb}
use Rattle.std.specs.Prelude.{Option, Some, None, is_none, slice_set, ◌==◌, ◌&&◌, ◌||◌, if◌then◌else◌}
use Rattle.std.proofs.lemmas.List.{set-set}
use mathlib.Core.Logic.{dite}
use native.Mathlib.Decide.{ℕ_discrete}
use Rattle.lock_core.specs.declared.range.Held.{Held}
use Rattle.lock_core.specs.declared.views.View.{View}
use Rattle.lock_core.specs.declared.steps.Step.{Step}
use Rattle.lock_core.specs.Machine.{held_at}
use Rattle.epoch_pools.specs.declared.views.SeatLists.{SeatLists}
use Rattle.epoch_pools.specs.declared.views.SeatPart.{SeatPart}
use Rattle.epoch_pools.specs.declared.views.Beside.{Beside}
use Rattle.epoch_pools.specs.declared.views.Standing.{Standing}
use Rattle.epoch_pools.specs.declared.views.Standing.TheVariants.{Free, Narrow, Wide}
use Rattle.epoch_pools.specs.Standings.{is_here, is_whole, is_counted, standing_after, counted_of_many, counted_of}
use Rattle.epoch_pools.specs.Beside.{blank, core_at, held_in, grant_in, shown, given_back, may_give_back}
use Rattle.epoch_pools.specs.Running.{pass_kept, core_after, part_after, MayRest, lists_after}
use Rattle.epoch_pools.proofs.Granting.{kept_again}
use Rattle.epoch_pools.proofs.Frames.{core_new, core_else}
use Rattle.epoch_pools.proofs.Counting.{counts_one, counts_many}
use Rattle.epoch_pools.proofs.Keeping.{MayRestIn}

module _ {P : Type 0} (rested : P → P) (lists i : ℕ) (w : SeatLists P) (step : Step) (found : ℕ) (full : length w.cores ≡ lists) (less : i < lists)
    (on_held : is_here w.standing i ≡ true → held_in w i ≢ None) (on : (h : Held) → held_in w i ≡ Some h
    → (held_at (core_after (shown lists i w) step found).own ≡ Some h) ⊎ (held_at (core_after (shown lists i w) step found).own ≡ None)) where
  abbrev p : SeatPart (Beside P)
  p = shown lists i w

  abbrev now : View
  now = core_after p step found

  abbrev q : SeatLists P
  q = lists_after lists rested w i step found

  abbrev others : List View
  others = slice_set w.cores i blank

  abbrev beside_of : Standing → P → Beside P
  beside_of standing pass = record { lists = lists; list = i; others = others; standing = standing; pass = pass }

  core_is : core_at i q.cores ≡ now
  core_is = core_new lists i w.cores now full less

  others_stay : slice_set q.cores i blank ≡ others
  others_stay = set-set w.cores i now blank

  held_now : held_in q i ≡ held_at now.own
  held_now = ap (λ (x : View). held_at x.own) core_is

  held_else : (j : ℕ) → j ≢ i → held_in q j ≡ held_in w j
  held_else j differ = ap (λ (x : View). held_at x.own) (core_else i j w.cores now differ)

  self : (k : ℕ) → (k == k) ≡ true
  self k = eq-eqb k k refl

  -- a standing that isn't in list i counts what it did
  same_else : (s : Standing) → is_here s i ≡ false → counted_of_many lists s (held_in q) ≡ counted_of_many lists s (held_in w)
  same_else Free e = refl
  same_else (Narrow j) e = held_else j (λ h. (let x : ◌≡◌ {A = Bool} false true = sym e ∙ (ap (λ k. i == k) h ∙ self i) in cc))
  same_else (Wide up) e = ap (λ (o : Option Held). if up == lists then o else None)
      (held_else 0 (λ h. (let x : ◌≡◌ {A = Bool} false true = sym e ∙ eq-eqb i 0 (sym h) in cc)))

  -- what a standing in list i counts
  here_counts : (s : Standing) → is_here s i ≡ true → (held : ℕ → Option Held) → counted_of_many lists s held ≡ (if is_whole s lists then held i else None)
  here_counts Free e held = absurd (cc)
  here_counts (Narrow j) e held = ap held (sym (eqb-true i j e))
  here_counts (Wide up) e held = ap (λ (o : Option Held). if up == lists then o else None) (ap held (sym (eqb-true i 0 e)))

  abbrev after : Beside P
  after = beside_of (standing_after w.standing i (held_at now.own))
      (pass_kept rested (grant_in lists w) (counted_of lists (standing_after w.standing i (held_at now.own)) (held_in q)) w.pass)

  -- the standing and the pass stay
  stays : standing_after w.standing i (held_at now.own) ≡ w.standing → counted_of lists w.standing (held_in q) ≡ grant_in lists w → after ≡ p.pass
  stays s g = λ k. beside_of (s k) (pass_is k)
    where
      pass_is : pass_kept rested (grant_in lists w) (counted_of lists (standing_after w.standing i (held_at now.own)) (held_in q)) w.pass ≡ w.pass
      pass_is = ap (λ (o : Option Held). pass_kept rested (grant_in lists w) o w.pass)
          (ap (λ (t : Standing). counted_of lists t (held_in q)) s ∙ g) ∙ kept_again rested (grant_in lists w) w.pass

  -- with several lists
  both : lists ≢ 1 → counted_of_many lists w.standing (held_in q) ≡ counted_of_many lists w.standing (held_in w)
      → counted_of lists w.standing (held_in q) ≡ grant_in lists w
  both several e = counts_many lists w.standing (held_in q) several ∙ (e ∙ sym (counts_many lists w.standing (held_in w) several))

  -- what is given back where something counts in this list, and where nothing does
  back_is : lists ≢ 1 → (b : Bool) → is_here w.standing i ≡ b
      → given_back rested p.pass ≡ beside_of (if b then Free else w.standing) (if b && is_whole w.standing lists then rested w.pass else w.pass)
  back_is several b e = let counted : is_counted lists w.standing i ≡ (b && is_whole w.standing lists) =
      ap (λ (t : Bool × Bool). t.0 || t.1 && is_whole w.standing lists) (λ k. (ne_eqb lists 1 several k, e k)) in
      λ k. beside_of (ap (λ (b : Bool). if b then Free else w.standing) e k) (ap (λ (b : Bool). if b then rested w.pass else w.pass) counted k)

  abbrev was_free : Bool → Option Held → Standing
  was_free b o = if b && is_none o then Free else w.standing

  -- where nothing counts in this list, standing and pass stay
  stays_else : lists ≢ 1 → is_here w.standing i ≡ false → after ≡ p.pass
  stays_else several e = stays (ap (λ (b : Bool). was_free b (held_at now.own)) e) (both several (same_else w.standing e))

  by_here : lists ≢ 1 → (b : Bool) → is_here w.standing i ≡ b → (before behind : Option Held) → held_in w i ≡ before → held_at now.own ≡ behind
      → after ≡ pass_kept (given_back rested) before behind p.pass
  by_here several false e None behind x y = stays_else several e
  by_here several false e (Some h) (Some g) x y = stays_else several e
  by_here several false e (Some h) None x y = stays_else several e ∙ sym (back_is several false e)
  by_here several true e None behind x y = absurd (on_held e x)
  by_here several true e (Some h) (Some g) x y = let one : held_at now.own ≡ Some h = ⊎_elim (λ (a : held_at now.own ≡ Some h). a)
      (λ (a : held_at now.own ≡ None). absurd (let z : ◌≡◌ {A = Option Held} (Some g) None = sym y ∙ a in cc)) (on h x) in
      let kept : standing_after w.standing i (held_at now.own) ≡ w.standing = ap (λ (t : Bool × Option Held). was_free t.0 t.1) (λ k. (e k, one k)) in
      stays kept (both several (here_counts w.standing e (held_in q)
      ∙ (ap (λ (o : Option Held). if is_whole w.standing lists then o else None) (held_now ∙ (one ∙ sym x)) ∙ sym (here_counts w.standing e (held_in w)))))
  by_here several true e (Some h) None x y =
      let lost : standing_after w.standing i (held_at now.own) ≡ Free = ap (λ (t : Bool × Option Held). was_free t.0 t.1) (λ k. (e k, y k)) in
      let grant : grant_in lists w ≡ (if is_whole w.standing lists then Some h else None) = counts_many lists w.standing (held_in w) several
      ∙ (here_counts w.standing e (held_in w) ∙ ap (λ (o : Option Held). if is_whole w.standing lists then o else None) x) in
      let pass : pass_kept rested (grant_in lists w) (counted_of lists (standing_after w.standing i (held_at now.own)) (held_in q)) w.pass
      ≡ (if is_whole w.standing lists then rested w.pass else w.pass) = ap (λ (o : Option Held). pass_kept rested (grant_in lists w) o w.pass)
      (ap (λ (t : Standing). counted_of lists t (held_in q)) lost ∙ counts_many lists Free (held_in q) several)
      ∙ (ap (λ (o : Option Held). pass_kept rested o None w.pass) grant ∙ by_whole (is_whole w.standing lists)) in
      (λ k. beside_of (lost k) (pass k)) ∙ sym (back_is several true e)
    where
      by_whole : (b : Bool) → pass_kept rested (if b then Some h else None) None w.pass ≡ (if b then rested w.pass else w.pass)
      by_whole true = refl
      by_whole false = refl

  -- with one list
  by_one : lists ≡ 1 → (before behind : Option Held) → held_in w i ≡ before → held_at now.own ≡ behind
      → after ≡ pass_kept (given_back rested) before behind p.pass
  by_one one before behind x y = let first : i ≡ 0 = omega arith in
      let was : grant_in lists w ≡ before = counts_one lists w.standing (held_in w) one ∙ (ap (held_in w) (sym first) ∙ x) in
      let is : counted_of lists (standing_after w.standing i (held_at now.own)) (held_in q) ≡ behind =
      counts_one lists (standing_after w.standing i (held_at now.own)) (held_in q) one ∙ (ap (held_in q) (sym first) ∙ (held_now ∙ y)) in
      (λ k. beside_of (standing_after w.standing i (y k)) (pass_kept rested (was k) (is k) w.pass)) ∙ by_held before behind x
    where
      by_held : (before behind : Option Held) → held_in w i ≡ before
          → beside_of (standing_after w.standing i behind) (pass_kept rested before behind w.pass) ≡ pass_kept (given_back rested) before behind p.pass
      by_held None behind x = λ k. beside_of (away (is_here w.standing i) refl behind k) w.pass
        where
          away : (b : Bool) → is_here w.standing i ≡ b → (o : Option Held) → standing_after w.standing i o ≡ w.standing
          away true e o = absurd (on_held e x)
          away false e o = ap (λ (b : Bool). was_free b o) e
      by_held (Some h) (Some g) x = λ k. beside_of (stay (is_here w.standing i) k) w.pass
        where
          stay : (b : Bool) → (if b && false then Free else w.standing) ≡ w.standing
          stay true = refl
          stay false = refl
      by_held (Some h) None x =
          let counted : is_counted lists w.standing i ≡ true = ap (λ (b : Bool). b || is_here w.standing i && is_whole w.standing lists) (eq-eqb lists 1 one) in
          λ k. beside_of (gone (is_here w.standing i) k) (ap (λ (b : Bool). if b then rested w.pass else w.pass) (sym counted) k)
        where
          gone : (b : Bool) → (if b && true then Free else w.standing) ≡ (if b then Free else w.standing)
          gone true = refl
          gone false = refl

  -- the step shows as that of one list
  pub step_shows : shown lists i q ≡ part_after (given_back rested) p step found
  step_shows = let beside : after ≡ pass_kept (given_back rested) (held_in w i) (held_at now.own) p.pass = dite (ℕ_discrete lists 1)
      (λ one. by_one one (held_in w i) (held_at now.own) refl refl)
      (λ several. by_here several (is_here w.standing i) refl (held_in w i) (held_at now.own) refl refl) in
      (λ k. record {
        number = w.number;
        seats = w.seats;
        core = core_is k;
        pass = record { lists = lists; list = i; others = others_stay k; standing = q.standing; pass = q.pass };
        trace = q.trace;
      }) ∙ (λ k. record { number = w.number; seats = w.seats; core = now; pass = beside k; trace = q.trace })

-- what counts is whole
whole_counts : (lists : ℕ) (s : Standing) (held : ℕ → Option Held) (h : Held) → counted_of_many lists s held ≡ Some h → is_whole s lists ≡ true
whole_counts lists Free held h e = absurd (cc)
whole_counts lists (Narrow j) held h e = refl
whole_counts lists (Wide up) held h e = by_all (up == lists) refl e
  where
    by_all : (b : Bool) → (up == lists) ≡ b → (if b then held 0 else None) ≡ Some h → (up == lists) ≡ true
    by_all true q e = q
    by_all false q e = absurd (cc)

-- where one list's rule lets a range be given back, the rule of all lists does
pub rests_in : {P : Type 0} (is_at_rest : P → Type 0) (lists i : ℕ) (w : SeatLists P) (step : Step) → i < lists
    → (is_here w.standing i ≡ true → held_in w i ≢ None) → MayRest (may_give_back is_at_rest) (shown lists i w) step → MayRestIn is_at_rest lists w i step
rests_in is_at_rest lists i w step less on_held rests giving counts h grant = by_held (held_in w i) refl
  where
    several_counted : lists ≢ 1 → is_here w.standing i ≡ true → is_counted lists w.standing i ≡ true
    several_counted several here =
        let whole : is_whole w.standing lists ≡ true = whole_counts lists w.standing (held_in w) h (sym (counts_many lists w.standing (held_in w) several)
        ∙ grant) in ap (λ (t : Bool × (Bool × Bool)). t.0 || t.1.0 && t.1.1) (λ k. (ne_eqb lists 1 several k, (here k, whole k)))

    one_counted : lists ≡ 1 → is_counted lists w.standing i ≡ true
    one_counted one = ap (λ (b : Bool). b || is_here w.standing i && is_whole w.standing lists) (eq-eqb lists 1 one)

    -- with one list the range that counts is held there
    one_held : lists ≡ 1 → held_in w i ≡ Some h
    one_held one = let first : i ≡ 0 = omega arith in ap (held_in w) first ∙ (sym (counts_one lists w.standing (held_in w) one) ∙ grant)

    by_held : (o : Option Held) → held_in w i ≡ o → is_at_rest w.pass
    by_held (Some g) e = rests giving g e (dite (ℕ_discrete lists 1) one_counted
        (λ several. several_counted several (⊎_elim (λ one. absurd (several one)) (λ (here : is_here w.standing i ≡ true). here) counts)))
    by_held None e = ⊎_elim (λ (one : lists ≡ 1). absurd (let x : ◌≡◌ {A = Option Held} (Some h) None = sym (one_held one) ∙ e in cc))
        (λ (here : is_here w.standing i ≡ true). absurd (on_held here e)) counts
