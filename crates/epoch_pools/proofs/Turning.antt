-- A hand that turns to another list shows the same seat: what it shows of the list before goes to the other views, and
-- the view of the list after comes from there.
use Rattle.std.proofs.Common.{◌≡◌, ◌≢◌, ℕ, ◌+◌, ◌-◌, ◌<◌, Bool, List, length, refl, sym, ap, ◌∙◌, subst, arith, eq-eqb, ne_eqb, length-set}
use Rattle.std.specs.Prelude.{Option, Some, None, slice_get, slice_set, unwrap_or, ◌==◌, if◌then◌else◌}
use Rattle.std.proofs.lemmas.List.{set-set}
use mathlib.Core.Logic.{dite}
use native.Mathlib.Decide.{ℕ_discrete}
use Rattle.lock_core.specs.declared.range.Held.{Held}
use Rattle.lock_core.specs.declared.views.View.{View}
use Rattle.lock_core.proofs.ByPlace.{below, from_get}
use Rattle.lock_core.proofs.ByView.{new_view, set_there}
use Rattle.epoch_pools.specs.declared.views.SeatLists.{SeatLists}
use Rattle.epoch_pools.specs.declared.views.SeatPart.{SeatPart}
use Rattle.epoch_pools.specs.declared.views.Beside.{Beside}
use Rattle.epoch_pools.specs.Beside.{blank, core_at, shown, shown_core, given_back}
use Rattle.epoch_pools.specs.Running.{pass_kept}
use Rattle.epoch_pools.specs.Hands.{IsHandView, IsResting, IsOther, AreOthers, slot_of, view_of, views_of, turned}
use Rattle.epoch_pools.proofs.Frames.{get_else, core_there, core_new, core_else}

-- a choice by whether two numbers are the same
chosen_same : {A : Type 0} (i j : ℕ) (a b : A) → i ≡ j → (if i == j then a else b) ≡ a
chosen_same i j a b e = ap (λ (t : Bool). if t then a else b) (eq-eqb i j e)

chosen_else : {A : Type 0} (i j : ℕ) (a b : A) → i ≢ j → (if i == j then a else b) ≡ b
chosen_else i j a b e = ap (λ (t : Bool). if t then a else b) (ne_eqb i j e)

-- a hand shows each of the seat's views
pub core_shown : {P : Type 0} (lists i : ℕ) (w : SeatLists P) (j : ℕ) → shown_core (shown lists i w) j ≡ core_at j w.cores
core_shown lists i w j = dite (ℕ_discrete j i)
    (λ e. chosen_same j i (core_at i w.cores) (core_at j (slice_set w.cores i blank)) e ∙ ap (λ n. core_at n w.cores) (sym e))
    (λ differ. chosen_else j i (core_at i w.cores) (core_at j (slice_set w.cores i blank)) differ ∙ core_else i j w.cores blank differ)

-- a place at which something stands is below the length
at_below_get : (l : List View) (i : ℕ) (v : View) → slice_get l i ≡ Some v → i < length l
at_below_get l i v at = below l i v (from_get l i v at)

-- a seat that is shown by list i shows by list j what it shows once its hand is turned there
pub shown_turned : {P : Type 0} (lists i j : ℕ) (w : SeatLists P) → length w.cores ≡ lists → i < lists → shown lists j w ≡ turned (shown lists i w) j
shown_turned lists i j w full less = let own : slice_set (slice_set w.cores i blank) i (core_at i w.cores) ≡ w.cores =
    set-set w.cores i blank (core_at i w.cores) ∙ set_there w.cores i (core_at i w.cores) (core_there lists i w.cores full less) in
    λ k. record {
      number = w.number;
      seats = w.seats;
      core = sym (core_shown lists i w j) k;
      pass = record { lists = lists; list = j; others = slice_set (sym own k) j blank; standing = w.standing; pass = w.pass };
      trace = record w.trace { list = j };
    }

module _ (seats number lists c d : ℕ) (others views : List View) (core : View) (a : AreOthers seats number lists c others views) (at_c : c < lists)
    (less : d < lists) (differ : d ≢ c) (mine : IsOther seats number core) where
  abbrev one : View
  one = view_of c views core

  abbrev rest : List View
  rest = views_of c views core

  abbrev two : View
  two = view_of d rest one

  abbrev last : List View
  last = views_of d rest one

  slot_else : (list j : ℕ) → j ≢ 0 → slot_of list j ≡ j - 1
  slot_else list j e = ap (λ n. n - 1) (chosen_else j 0 list j e)

  -- the views of lists behind the first
  behind : (j : ℕ) → j < lists → j ≢ c → j ≢ 0 → slice_get views (j - 1) ≡ Some (core_at j others)
  behind j there other more = ap (slice_get views) (sym (slot_else c j more)) ∙ a.there j there other

  view_is : (k : ℕ) (l : List View) (v : View) → slice_get l k ≡ Some v → core_at k l ≡ v
  view_is k l v at = ap (λ (o : Option View). unwrap_or o blank) at

  -- where the hand isn't turned to the first list, that one's view is taken up
  one_is : c ≢ 0 → one ≡ core_at 0 others
  one_is more = chosen_else c 0 core (core_at (c - 1) views) more ∙ view_is (c - 1) views (core_at 0 others) (a.there 0 (omega arith) (λ e. more (sym e)))

  one_own : c ≡ 0 → one ≡ core
  one_own e = chosen_same c 0 core (core_at (c - 1) views) e

  rest_is : c ≢ 0 → rest ≡ slice_set views (c - 1) core
  rest_is more = chosen_else c 0 views (slice_set views (c - 1) core) more

  rest_own : c ≡ 0 → rest ≡ views
  rest_own e = chosen_same c 0 views (slice_set views (c - 1) core) e

  -- what stands in the place of another list behind the first
  rest_behind : (j : ℕ) → j < lists → j ≢ c → j ≢ 0 → slice_get rest (j - 1) ≡ Some (core_at j others)
  rest_behind j there other more = dite (ℕ_discrete c 0) (λ e. ap (λ l. slice_get l (j - 1)) (rest_own e) ∙ behind j there other more)
      (λ far. ap (λ l. slice_get l (j - 1)) (rest_is far) ∙ (get_else views (c - 1) (j - 1) core (λ e. other (omega arith)) ∙ behind j there other more))

  -- and in the place of the list before
  rest_own_place : c ≢ 0 → slice_get rest (c - 1) ≡ Some core
  rest_own_place far = ap (λ l. slice_get l (c - 1)) (rest_is far) ∙ new_view views (c - 1) core (core_at 0 others) (a.there 0 (omega arith) (λ e. far (sym e)))

  -- the view of the list after is taken up
  pub two_is : two ≡ core_at d others
  two_is = dite (ℕ_discrete d 0) (λ e. chosen_same d 0 one (core_at (d - 1) rest) e ∙ (one_is (λ z. differ (e ∙ sym z)) ∙ ap (λ n. core_at n others) (sym e)))
      (λ far. chosen_else d 0 one (core_at (d - 1) rest) far ∙ view_is (d - 1) rest (core_at d others) (rest_behind d less differ far))

  last_is : d ≢ 0 → last ≡ slice_set rest (d - 1) one
  last_is more = chosen_else d 0 rest (slice_set rest (d - 1) one) more

  last_own : d ≡ 0 → last ≡ rest
  last_own e = chosen_same d 0 rest (slice_set rest (d - 1) one) e

  abbrev others' : List View
  others' = slice_set (slice_set others c core) d blank

  -- the other views after
  core_after : (j : ℕ) → j ≢ d → j ≢ c → core_at j others' ≡ core_at j others
  core_after j after before = core_else d j (slice_set others c core) blank after ∙ core_else c j others core before

  core_before : core_at c others' ≡ core
  core_before = core_else d c (slice_set others c core) blank (λ e. differ (sym e)) ∙ core_new lists c others core a.full at_c

  long : length rest ≡ length views
  long = dite (ℕ_discrete c 0) (λ e. ap length (rest_own e)) (λ far. ap length (rest_is far) ∙ length-set views (c - 1) core)

  long_last : length last ≡ length views
  long_last = dite (ℕ_discrete d 0) (λ e. ap length (last_own e) ∙ long) (λ far. ap length (last_is far) ∙ (length-set rest (d - 1) one ∙ long))

  -- what stands in the place of the list to which the hand was turned, or that of the first in its place
  place_before : slice_get last (slot_of d c) ≡ Some core
  place_before = dite (ℕ_discrete c 0)
      (λ (e : c ≡ 0). let far : d ≢ 0 = λ z. differ (z ∙ sym e) in
      let slot : slot_of d c ≡ d - 1 = ap (λ n. n - 1) (chosen_same c 0 d c e) in
      ap (slice_get last) slot ∙ (ap (λ l. slice_get l (d - 1)) (last_is far)
      ∙ (new_view rest (d - 1) one (core_at d others) (rest_behind d less differ far) ∙ ap (λ (x : View). Some x) (one_own e))))
      (λ (far : c ≢ 0). ap (slice_get last) (slot_else d c far) ∙ dite (ℕ_discrete d 0)
      (λ (e : d ≡ 0). ap (λ l. slice_get l (c - 1)) (last_own e) ∙ rest_own_place far)
      (λ (more : d ≢ 0). ap (λ l. slice_get l (c - 1)) (last_is more) ∙ (get_else rest (d - 1) (c - 1) one (λ e. differ (omega arith)) ∙ rest_own_place far)))

  place_else : (j : ℕ) → j < lists → j ≢ d → j ≢ c → slice_get last (slot_of d j) ≡ Some (core_at j others)
  place_else j there after before = dite (ℕ_discrete j 0)
      (λ (e : j ≡ 0). let far : d ≢ 0 = λ z. after (e ∙ sym z) in let much : c ≢ 0 = λ z. before (e ∙ sym z) in
      let slot : slot_of d j ≡ d - 1 = ap (λ n. n - 1) (chosen_same j 0 d j e) in
      ap (slice_get last) slot ∙ (ap (λ l. slice_get l (d - 1)) (last_is far) ∙ (new_view rest (d - 1) one (core_at d others) (rest_behind d less differ far)
      ∙ (ap (λ (x : View). Some x) (one_is much) ∙ ap (λ n. Some (core_at n others)) (sym e)))))
      (λ (far : j ≢ 0). ap (slice_get last) (slot_else d j far) ∙ dite (ℕ_discrete d 0)
      (λ (e : d ≡ 0). ap (λ l. slice_get l (j - 1)) (last_own e) ∙ rest_behind j there before far)
      (λ (more : d ≢ 0). ap (λ l. slice_get l (j - 1)) (last_is more)
      ∙ (get_else rest (d - 1) (j - 1) one (λ e. after (omega arith)) ∙ rest_behind j there before far)))

  pub turned_others : AreOthers seats number lists d others' last
  turned_others = record {
    count = ap (λ n. n + 1) long_last ∙ a.count;
    full = length-set (slice_set others c core) d blank ∙ (length-set others c core ∙ a.full);
    blank_at = new_view (slice_set others c core) d blank (core_at d (slice_set others c core))
        (core_there lists d (slice_set others c core) (length-set others c core ∙ a.full) less);
    there = λ j there after. dite (ℕ_discrete j c)
        (λ e. ap (λ n. slice_get last (slot_of d n)) e ∙ (place_before ∙ ap (λ (x : View). Some x) (sym (ap (λ n. core_at n others') e ∙ core_before))))
        (λ before. place_else j there after before ∙ ap (λ (x : View). Some x) (sym (core_after j after before)));
    rest = λ j there after. dite (ℕ_discrete j c) (λ e. subst (IsOther seats number) (sym (ap (λ n. core_at n others') e ∙ core_before)) mine)
        (λ before. subst (IsOther seats number) (sym (core_after j after before)) (a.rest j there before));
  }

module _ {P : Type 0} where
  -- a hand that may turn leaves its view as one of the others
  pub rests_now : (p : SeatPart (Beside P)) → IsHandView p → IsResting p.core → IsOther p.seats p.number p.core
  rests_now p sound rest = record { sound = sound.sound; pooled = sound.pooled; resting = rest }

  -- what a hand may rely on of the list to which it turned
  pub turned_view : (p : SeatPart (Beside P)) (d : ℕ) → IsOther p.seats p.number (shown_core p d) → IsHandView (turned p d)
  turned_view p d other = record { sound = other.sound; pooled = other.pooled; looked = λ c e. absurd (let none = other.resting.cursor in cc) }

  -- a step leaves the views of the other lists
  pub others_kept : (rested : P → P) (before behind : Option Held) (b : Beside P) (seats number : ℕ) (views : List View)
      → AreOthers seats number b.lists b.list b.others views
      → AreOthers seats number (pass_kept (given_back rested) before behind b).lists (pass_kept (given_back rested) before behind b).list
      (pass_kept (given_back rested) before behind b).others views
  others_kept rested None behind b seats number views a = a
  others_kept rested (Some h) None b seats number views a = a
  others_kept rested (Some h) (Some g) b seats number views a = a

module _ {P : Type 0} {p : SeatPart (Beside P)} (d : ℕ) {core : View} {views : List View}
    (own : p.core ≡ core) (sound : IsHandView p) (a : AreOthers p.seats p.number p.pass.lists p.pass.list p.pass.others views) where
  within : p.pass.list < p.pass.lists
  within = subst (λ n. p.pass.list < n) a.full (at_below_get p.pass.others p.pass.list blank a.blank_at)

  -- turned to its own list a hand shows what it showed
  pub turned_same : p.trace.list ≡ p.pass.list → d ≡ p.pass.list → turned p d ≡ p
  turned_same same e = let others : slice_set (slice_set p.pass.others p.pass.list p.core) d blank ≡ p.pass.others = ap (λ n. slice_set
      (slice_set p.pass.others p.pass.list p.core) n blank) e
      ∙ (set-set p.pass.others p.pass.list p.core blank ∙ set_there p.pass.others p.pass.list blank a.blank_at) in
      λ k. record {
        number = p.number;
        seats = p.seats;
        core = chosen_same d p.pass.list p.core (core_at d p.pass.others) e k;
        pass = record { lists = p.pass.lists; list = e k; others = others k; standing = p.pass.standing; pass = p.pass.pass };
        trace = record p.trace { list = (e ∙ sym same) k };
      }

  -- however it turns, a hand shows each list as before
  pub turned_shows : (j : ℕ) → shown_core (turned p d) j ≡ shown_core p j
  turned_shows j = let o = p.pass.others in let now = slice_set o p.pass.list p.core in
      let room : p.pass.list < length o = at_below_get o p.pass.list blank a.blank_at in
      dite (ℕ_discrete j d) (λ e. chosen_same j d (shown_core p d) (core_at j (slice_set now d blank)) e ∙ ap (shown_core p) (sym e))
      (λ differ. chosen_else j d (shown_core p d) (core_at j (slice_set now d blank)) differ ∙ (core_else d j now blank differ ∙ dite (ℕ_discrete j p.pass.list)
      (λ e. ap (λ n. core_at n now) e ∙ (core_new (length o) p.pass.list o p.core refl room ∙ sym (chosen_same j p.pass.list p.core (core_at j o) e)))
      (λ other. core_else p.pass.list j o p.core other ∙ sym (chosen_else j p.pass.list p.core (core_at j o) other))))

  -- and rests in the list to which it turns
  pub turned_rests : d ≢ p.pass.list → d < p.pass.lists → IsResting (shown_core p d)
  turned_rests differ less = subst IsResting (sym (chosen_else d p.pass.list p.core (core_at d p.pass.others) differ)) (a.rest d less differ).resting

  -- after the two exchanges the hand's view is that of the list after, and the others are kept, as the token shows them
  pub turned_hand : d ≢ p.pass.list → d < p.pass.lists → IsResting p.core
      → (shown_core p d ≡ view_of d (views_of p.pass.list views core) (view_of p.pass.list views core))
      × (IsHandView (turned p d) × AreOthers p.seats p.number p.pass.lists d (turned p d).pass.others
      (views_of d (views_of p.pass.list views core) (view_of p.pass.list views core)))
  turned_hand differ less rest = let mine : IsOther p.seats p.number p.core = rests_now p sound rest in
      let core_is : shown_core p d ≡ core_at d p.pass.others = chosen_else d p.pass.list p.core (core_at d p.pass.others) differ in
      let two = two_is p.seats p.number p.pass.lists p.pass.list d p.pass.others views p.core a within less differ mine in
      let last = turned_others p.seats p.number p.pass.lists p.pass.list d p.pass.others views p.core a within less differ mine in (
        core_is ∙ (sym two ∙ ap (λ (v : View). view_of d (views_of p.pass.list views v) (view_of p.pass.list views v)) own),
        (
          turned_view p d (subst (IsOther p.seats p.number) (sym core_is) (a.rest d less differ)),
          subst (λ (v : View). AreOthers p.seats p.number p.pass.lists d (turned p d).pass.others
              (views_of d (views_of p.pass.list views v) (view_of p.pass.list views v))) own last,
        ),
      )
