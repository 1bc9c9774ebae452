-- A step of any kind in one list keeps the rule of all lists. It makes no range count; where it gives back the one
-- that counts, the pass rests.
use Rattle.std.proofs.Common.{◌≡◌, ◌≢◌, ◌⊎◌, ℕ, ◌+◌, ◌*◌, ◌<◌, Bool, true, false, List, [], ◌∷◌, map, drop, get_or, set, length, refl, sym, ap, ◌∙◌}
use Rattle.std.proofs.Common.{subst, arith, inl, inr, ⊎_elim, length-set, eqb-true, eq-eqb}
use Rattle.std.specs.Prelude.{slice_get, Option, Some, None, is_none, ◌==◌, ◌&&◌, if◌then◌else◌}
use Rattle.std.proofs.lemmas.List.{map-set}
use mathlib.Core.Option.{some}
use mathlib.Core.Logic.{dite}
use native.Mathlib.Decide.{ℕ_discrete}
use lib.ListN.{get_elem?}
use Rattle.atomic_table.proofs.Lists.{at_map, set_again}
use Rattle.lock_core.specs.Grants.{Grants}
use Rattle.lock_core.specs.declared.range.Held.{Held}
use Rattle.lock_core.specs.declared.views.View.{View}
use Rattle.lock_core.specs.declared.steps.Step.{Step}
use Rattle.lock_core.specs.StepTable.{Plan}
use Rattle.lock_core.specs.Words.{word_count}
use Rattle.lock_core.specs.Operations.{IsEnabled}
use Rattle.lock_core.specs.Machine.{Machine, plan, held_at, held_by_seat}
use Rattle.lock_core.proofs.ByView.{new_view}
use Rattle.lock_core.proofs.Enabled.{is_planned}
use Rattle.lock_laws.specs.HeldSteps.{HoldsOn, Gains, IsGiving}
use Rattle.lock_laws.specs.Laws.{IsLock}
use Rattle.lock_laws.proofs.Holding.{held_there}
use Rattle.lock_laws.proofs.Outcomes.{change}
use Rattle.epoch_pools.proofs.Granting.{GainLaw, LossLaw, kept_again, guard_after}
use Rattle.epoch_pools.proofs.Placing.{apart_with}
use Rattle.epoch_pools.specs.declared.views.SeatLists.{SeatLists}
use Rattle.epoch_pools.specs.declared.views.Standing.{Standing}
use Rattle.epoch_pools.specs.declared.views.Standing.TheVariants.{Free, Narrow, Wide}
use Rattle.epoch_pools.specs.Standings.{is_here, standing_after, counted_of_many}
use Rattle.epoch_pools.specs.Beside.{core_at, held_in, grant_in}
use Rattle.epoch_pools.specs.Running.{pass_kept, machine_at, cores_of, pass_of, grants_in, IsNarrow, IsWide, AreLocks, AreLists, line_in, lists_after}
use Rattle.epoch_pools.proofs.Slices.{further, behind_slices}
use Rattle.epoch_pools.proofs.Frames as frames
use Rattle.epoch_pools.proofs.Counting.{counts_one, counts_many}

-- with what a step in list i may be made that gives back: a pass at rest, where the range that counts is held there
abbrev pub MayRestIn : {P : Type 0} → (P → Type 0) → ℕ → SeatLists P → ℕ → Step → Type 0
MayRestIn is_at_rest lists w i step = IsGiving step → (lists ≡ 1) ⊎ (is_here w.standing i ≡ true) → (h : Held) → grant_in lists w ≡ Some h → is_at_rest w.pass

-- what a standing becomes by a step: it stays, or is gone with what its list held
pub record IsLost (s : Standing) (i : ℕ) (o : Option Held) (t : Standing) : Type 0 where
  pub here : is_here s i ≡ true
  pub none : o ≡ None
  pub now : t ≡ Free

pub record IsKept (s : Standing) (i : ℕ) (o : Option Held) (t : Standing) : Type 0 where
  pub now : t ≡ s
  pub some : is_here s i ≡ true → o ≢ None

stand_is : (s : Standing) (i : ℕ) (o : Option Held) → IsKept s i o (standing_after s i o) ⊎ IsLost s i o (standing_after s i o)
stand_is s i o = by_here (is_here s i) refl o
  where
    by_here : (b : Bool) → is_here s i ≡ b → (o : Option Held) → IsKept s i o (standing_after s i o) ⊎ IsLost s i o (standing_after s i o)
    by_here false e o = inl (record {
      now = ap (λ (b : Bool). if b && is_none o then Free else s) e;
      some = λ t. absurd (let x : false ≡ true = sym e ∙ t in cc);
    })
    by_here true e None = inr (record { here = e; none = refl; now = ap (λ (b : Bool). if b && true then Free else s) e })
    by_here true e (Some h) = inl (record { now = ap (λ (b : Bool). if b && false then Free else s) e; some = λ t q. cc })

-- what counts in list i is held there
pub here_held : {P : Type 0} {lists seats : ℕ} {takes : Held → ℕ → Type 0} {words : List ℕ} {parts : List (SeatLists P)}
    → AreLocks lists seats takes words parts → (n i : ℕ) (w : SeatLists P) → get_elem? parts n ≡ some w → is_here w.standing i ≡ true
    → (g : Held) × (held_in w i ≡ Some g)
here_held r n i w here = by_standing w.standing refl
  where
    by_standing : (s : Standing) → w.standing ≡ s → is_here w.standing i ≡ true → (g : Held) × (held_in w i ≡ Some g)
    by_standing Free e is = absurd (let x : ◌≡◌ {A = Bool} false true = ap (λ (s : Standing). is_here s i) (sym e) ∙ is in cc)
    by_standing (Narrow j) e is = let one = r.narrow_one n j w here e in
        (one.range, ap (held_in w) (eqb-true i j (ap (λ (s : Standing). is_here s i) (sym e) ∙ is)) ∙ one.held)
    by_standing (Wide p) e is = let one = r.wide_one n p w here e in
        (one.range, ap (held_in w) (eqb-true i 0 (ap (λ (s : Standing). is_here s i) (sym e) ∙ is)) ∙ one.held)

module _ {P : Type 0} (holds : Grants → List ℕ → List P → Type 0) (rested : P → P) (is_at_rest : P → Type 0) (gains : GainLaw holds)
    (loses : LossLaw holds rested is_at_rest) where
  module _ {lists seats : ℕ} {takes : Held → ℕ → Type 0} {words : List ℕ} {parts : List (SeatLists P)} {n : ℕ} {w : SeatLists P} (i : ℕ) (step : Step)
      (r : AreLists lists seats takes holds words parts) (here : get_elem? parts n ≡ some w) (num : w.number ≡ n) (many : w.seats ≡ seats) (less : i < lists)
      (may : IsEnabled w.seats w.number (core_at i w.cores) step) (rests : MayRestIn is_at_rest lists w i step)
      (low : (line_in w i step).place < word_count seats) where
    abbrev all : List (List View)
    all = map cores_of parts

    abbrev line : Plan
    line = line_in w i step

    full : length w.cores ≡ lists
    full = r.apart.many n w here

    pub at_step : frames.IsStepIn lists seats words all n i w.cores step line
    at_step = record {
      locks = r.apart.locks;
      here = at_map cores_of parts n w here;
      many = full;
      less = less;
      enabled = subst (λ (z : ℕ × ℕ). plan z.0 z.1 (core_at i w.cores) step ≡ Some line) (λ k. (many k, num k))
          (is_planned w.seats w.number (core_at i w.cores) step may);
      low = low;
    }

    abbrev found : ℕ
    found = get_or words (i * word_count seats + line.place) 0

    abbrev v : View
    v = core_at i w.cores

    abbrev now : View
    now = line.view found

    abbrev words' : List ℕ
    words' = set words (i * word_count seats + line.place) (line.write found)

    abbrev q : SeatLists P
    q = lists_after lists rested w i step found

    abbrev parts' : List (SeatLists P)
    parts' = set parts n q

    abbrev Kept : Type 0
    Kept = IsKept w.standing i (held_at now.own) q.standing

    abbrev Lost : Type 0
    Lost = IsLost w.standing i (held_at now.own) q.standing

    abbrev m : Machine
    m = machine_at i seats words all

    locks' : (j : ℕ) → j < lists → IsLock (machine_at j seats words' (map cores_of parts'))
    locks' j there = subst (λ (l : List (List View)). IsLock (machine_at j seats words' l)) (sym (map-set cores_of parts n q))
        (frames.locks_after at_step j there)

    -- what the lists hold
    held_now : held_in q i ≡ held_at now.own
    held_now = ap (λ (x : View). held_at x.own) (frames.core_new lists i w.cores now full less)

    held_else : (j : ℕ) → j ≢ i → held_in q j ≡ held_in w j
    held_else j differ = ap (λ (x : View). held_at x.own) (frames.core_else i j w.cores now differ)

    -- what is held is held on, or given back
    pub on_or_gone : (g : Held) → held_at v.own ≡ Some g → (held_at now.own ≡ Some g) ⊎ (IsGiving step × (held_at now.own ≡ None))
    on_or_gone g e = let next : Machine = frames.next at_step in let before = held_there m.views n v (frames.seen at_step) in
        let behind = held_there next.views n now (frames.seen_next at_step) in
        ⊎_elim
        (λ (same : HoldsOn m next).
        let is : ◌≡◌ {A = Option (Option Held)} (Some (held_at now.own)) (Some (held_at v.own)) = sym behind ∙ (ap (λ l. slice_get l n) same ∙ before) in
        let one : held_at now.own ≡ held_at v.own = cc in inl (one ∙ e))
        (λ t. ⊎_elim
        (λ (g' : Gains m next n). absurd (let x : ◌≡◌ {A = Option (Option Held)} (Some (Some g)) (Some None) = sym (before ∙ ap (λ
        (o : Option Held). Some o) e) ∙ g'.nothing in cc))
        (λ k. let is : ◌≡◌ {A = Option (Option Held)} (Some (held_at now.own)) (Some None) = sym behind ∙ (ap (λ l. slice_get l n) k.1 ∙ new_view
        (held_by_seat m) n None (held_at v.own) before) in inr (k.0, cc)) t) (change step m next n (frames.stepped at_step))

    stands : Kept ⊎ Lost
    stands = stand_is w.standing i (held_at now.own)

    -- where something counts after it, the standing stays
    stays : Free ≢ q.standing → Kept
    stays counts = ⊎_elim (λ k. k) (λ (k : Lost). absurd (counts (sym k.now))) stands

    -- then what counts is held as before
    held_on : Kept → (j : ℕ) (g : Held) → held_in w j ≡ Some g → (i ≡ j → is_here w.standing i ≡ true) → held_in q j ≡ held_in w j
    held_on k j g held at = dite (ℕ_discrete j i)
        (λ (e : j ≡ i). ⊎_elim (λ (on : held_at now.own ≡ Some g). ap (held_in q) e ∙ (held_now ∙ (on ∙ sym held)))
        (λ gone. absurd (k.some (at (sym e)) gone.1)) (on_or_gone g (ap (held_in w) (sym e) ∙ held)))
        (λ differ. held_else j differ)

    narrow_on : Kept → (j : ℕ) → w.standing ≡ Narrow j → held_in q j ≡ held_in w j
    narrow_on k j is = let one = r.apart.narrow_one n j w here is in held_on k j one.range one.held (λ e. ap (λ (s : Standing). is_here s i) is ∙ eq-eqb i j e)

    wide_on : Kept → (p : ℕ) → w.standing ≡ Wide p → held_in q 0 ≡ held_in w 0
    wide_on k p is = let one = r.apart.wide_one n p w here is in held_on k 0 one.range one.held (λ e. ap (λ (s : Standing). is_here s i) is ∙ eq-eqb i 0 e)

    narrow_now : (j : ℕ) → q.standing ≡ Narrow j → IsNarrow lists takes q j
    narrow_now j is = let k = stays (λ e. let x = e ∙ is in cc) in let was = sym k.now ∙ is in let one = r.apart.narrow_one n j w here was in
        record { there = one.there; range = one.range; held = narrow_on k j was ∙ one.held; only = one.only }

    wide_now : (p : ℕ) → q.standing ≡ Wide p → IsWide lists q p
    wide_now p is = let k = stays (λ e. let x = e ∙ is in cc) in let was = sym k.now ∙ is in let one = r.apart.wide_one n p w here was in
        record { first = one.first; most = one.most; range = one.range; held = wide_on k p was ∙ one.held }

    -- each list after the step
    apart_after : AreLocks lists seats takes words' parts'
    apart_after = apart_with r.apart words' n q (length-set w.cores i now ∙ full) locks' narrow_now wide_now
        (λ b j p y g h other there is wide_b below held_a held_b taken. let k = stays (λ e. let x = e ∙ is in cc) in let was = sym k.now ∙ is in
        r.apart.passed n b j p w y g h other here there was wide_b below (sym (narrow_on k j was) ∙ held_a) held_b taken)
        (λ a j p x g h other there narrow_a is below held_a held_b taken. let k = stays (λ e. let x = e ∙ is in cc) in let was = sym k.now ∙ is in
        r.apart.passed a n j p x w g h other there here narrow_a was below held_a (sym (wide_on k p was) ∙ held_b) taken)

    -- what counts
    same_grant : Kept → counted_of_many lists q.standing (held_in q) ≡ counted_of_many lists w.standing (held_in w)
    same_grant k = ap (λ (s : Standing). counted_of_many lists s (held_in q)) k.now ∙ by_stand w.standing refl
      where
        by_stand : (s : Standing) → w.standing ≡ s → counted_of_many lists w.standing (held_in q) ≡ counted_of_many lists w.standing (held_in w)
        by_stand Free e = ap (λ (s : Standing). counted_of_many lists s (held_in q)) e ∙ sym (ap (λ (s : Standing). counted_of_many lists s (held_in w)) e)
        by_stand (Narrow j) e = ap (λ (s : Standing). counted_of_many lists s (held_in q)) e ∙ (narrow_on k j e ∙ sym (ap (λ
            (s : Standing). counted_of_many lists s (held_in w)) e))
        by_stand (Wide p) e = ap (λ (s : Standing). counted_of_many lists s (held_in q)) e ∙ (ap (λ (o : Option Held). if p == lists then o else None)
            (wide_on k p e) ∙ sym (ap (λ (s : Standing). counted_of_many lists s (held_in w)) e))

    -- where it is lost, the step is of a giving kind
    gives : Lost → IsGiving step
    gives k = let g = here_held r.apart n i w here k.here in
        ⊎_elim (λ (on : held_at now.own ≡ Some g.0). absurd (let x : ◌≡◌ {A = Option Held} (Some g.0) None = sym on ∙ k.none in cc)) (λ gone. gone.0)
        (on_or_gone g.0 g.1)

    abbrev grants : Grants
    grants = grants_in lists parts

    abbrev passes : List P
    passes = map pass_of parts

    abbrev client : List ℕ
    client = drop (lists * word_count seats) words

    grant_here : get_elem? grants n ≡ some (grant_in lists w)
    grant_here = at_map (grant_in lists) parts n w here

    pass_here : get_elem? passes n ≡ some w.pass
    pass_here = at_map pass_of parts n w here

    abbrev Good : Option Held → Type 0
    Good o = holds (set grants n o) client (set passes n (pass_kept rested (grant_in lists w) o w.pass))

    good_many : lists ≢ 1 → Good (grant_in lists q)
    good_many several = ⊎_elim
        (λ (k : Kept).
        subst Good (sym (counts_many lists q.standing (held_in q) several ∙ (same_grant k ∙ sym (counts_many lists w.standing (held_in w) several))))
        (subst (λ (z : Grants × List P). holds z.0 client z.1) (λ k. (
          sym (set_again grants n (grant_in lists w) grant_here) k,
          sym (ap (set passes n) (kept_again rested (grant_in lists w) w.pass) ∙ set_again passes n w.pass pass_here) k,
        )) r.guard))
        (λ (k : Lost).
        subst Good (sym (counts_many lists q.standing (held_in q) several ∙ ap (λ (s : Standing). counted_of_many lists s (held_in q)) k.now)) (by_grant k
        (grant_in lists w) refl)) stands
      where
        by_grant : Lost → (o : Option Held) → grant_in lists w ≡ o → holds (set grants n None) client
            (set passes n (pass_kept rested (grant_in lists w) None w.pass))
        by_grant k None e = subst (λ (z : Grants × List P). holds z.0 client z.1) (λ k. (
          sym (set_again grants n None (grant_here ∙ ap some e)) k,
          sym (ap (λ (o : Option Held). set passes n (pass_kept rested o None w.pass)) e ∙ set_again passes n w.pass pass_here) k,
        )) r.guard
        by_grant k (Some h) e = subst (λ (o : Option Held). holds (set grants n None) client (set passes n (pass_kept rested o None w.pass))) (sym e)
            (loses grants client passes n w.pass r.guard pass_here (rests (gives k) (inr k.here) h e))

    -- with one list it is as it was: a step gains or gives back, or changes no grant
    grants_one : lists ≡ 1 → (l : List (SeatLists P)) → map (λ (x : View). held_at x.own) (map (core_at 0) (map cores_of l)) ≡ grants_in lists l
    grants_one one [] = refl
    grants_one one (x ∷ xs) = let here = sym (counts_one lists x.standing (held_in x) one) in let rest = grants_one one xs in λ k. here k ∷ rest k

    good_one : lists ≡ 1 → Good (grant_in lists q)
    good_one one = let first : i ≡ 0 = omega arith in let next : Machine = frames.next at_step in
        let this : next ≡ machine_at i seats words' (set all n q.cores) = frames.this at_step in
        let lock : IsLock next = subst IsLock (sym this) (frames.locks_after at_step i less) in
        let before : held_by_seat m ≡ grants = ap (λ k. map (λ (x : View). held_at x.own) (map (core_at k) all)) first ∙ grants_one one parts in
        let behind : held_by_seat next ≡ set grants n (grant_in lists q) =
        ap held_by_seat this ∙ (ap (λ k. map (λ (x : View). held_at x.own) (map (core_at k) (set all n q.cores))) first
        ∙ (ap (λ (l : List (List View)). map (λ (x : View). held_at x.own) (map (core_at 0) l)) (sym (map-set cores_of parts n q)) ∙ (grants_one one parts'
        ∙ map-set (grant_in lists) parts n q))) in
        let own : grant_in lists w ≡ held_at v.own = counts_one lists w.standing (held_in w) one ∙ ap (held_in w) (sym first) in
        let own' : grant_in lists q ≡ held_at now.own = counts_one lists q.standing (held_in q) one ∙ (ap (held_in q) (sym first) ∙ held_now) in
        let g = guard_after holds rested is_at_rest gains loses m next n step v now client passes w.pass lock (frames.seen at_step)
        (frames.seen_next at_step) pass_here (λ giving h e. rests giving (inl one) h (own ∙ e))
        (subst (λ (l : Grants). holds l client passes) (sym before) r.guard) (frames.stepped at_step) in
        subst (λ (z : Grants × (Option Held × Option Held)). holds z.0 client (set passes n (pass_kept rested z.1.0 z.1.1 w.pass))) (λ k. (
          behind k,
          (sym own k, sym own' k),
        )) g

    good : Good (grant_in lists q)
    good = dite (ℕ_discrete lists 1) good_one good_many

    -- the rule after the step
    pub lists_kept : AreLists lists seats takes holds words' parts'
    lists_kept = let clients : client ≡ drop (lists * word_count seats) words' = sym (behind_slices (word_count seats) (i * word_count seats)
        (lists * word_count seats) line.place words (line.write found) (further i lists (word_count seats) less) low) in
        let grants_now : set grants n (grant_in lists q) ≡ grants_in lists parts' = sym (map-set (grant_in lists) parts n q) in
        let passes_now : set passes n q.pass ≡ map pass_of parts' = sym (map-set pass_of parts n q) in
        record {
          apart = apart_after;
          guard = subst (λ (z : Grants × (List ℕ × List P)). holds z.0 z.1.0 z.1.1) (λ k. (grants_now k, (clients k, passes_now k))) good;
        }
