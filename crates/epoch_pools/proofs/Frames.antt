-- A step in one list is a step of that list's machine, and leaves the machine of each other list.
use Rattle.std.proofs.Common.{◌≡◌, ◌≢◌, ℕ, zero, suc, ◌+◌, ◌*◌, ◌<◌, List, [], ◌∷◌, map, take, drop, get_or, set, length, refl, sym, ap, ◌∙◌, subst, arith}
use Rattle.std.specs.Prelude.{slice_get, Option, Some, unwrap_or}
use Rattle.std.proofs.lemmas.List.{map-set}
use mathlib.Core.Option.{some}
use mathlib.Core.Logic.{dite}
use native.Mathlib.Decide.{ℕ_discrete}
use lib.ListN.{get_elem?}
use Rattle.atomic_table.proofs.Lists.{at_map, set_again}
use Rattle.lock_core.specs.declared.views.View.{View}
use Rattle.lock_core.specs.declared.steps.Step.{Step}
use Rattle.lock_core.specs.StepTable.{Plan}
use Rattle.lock_core.specs.Words.{word_count}
use Rattle.lock_core.specs.Machine.{Machine, plan, after, carried_out}
use Rattle.lock_core.proofs.ByPlace.{there, to_get}
use Rattle.lock_core.proofs.ByView.{new_view}
use Rattle.lock_core.proofs.Table.{given-is}
use Rattle.lock_laws.specs.Laws.{IsLock}
use Rattle.lock_laws.proofs.Running.{every_step_keeps}
use Rattle.epoch_pools.specs.Beside.{blank, core_at}
use Rattle.epoch_pools.specs.Running.{machine_at}
use Rattle.epoch_pools.proofs.Slices.{other_slice, this_slice, slice_word, slices_apart}

-- what is at another place stays
pub get_else : {A : Type 0} (l : List A) (i j : ℕ) (a : A) → j ≢ i → slice_get (set l i a) j ≡ slice_get l j
get_else [] i j a n = refl
get_else (x ∷ xs) zero zero a n = absurd (n refl)
get_else (x ∷ xs) zero (suc j) a n = refl
get_else (x ∷ xs) (suc i) zero a n = refl
get_else (x ∷ xs) (suc i) (suc j) a n = get_else xs i j a (λ e. n (ap suc e))

-- a seat has a view of each list
pub core_there : (lists i : ℕ) (cores : List View) → length cores ≡ lists → i < lists → slice_get cores i ≡ Some (core_at i cores)
core_there lists i cores many less = let t = there cores i (omega arith) in
    let at : slice_get cores i ≡ Some t.0 = to_get cores i t.0 t.1 in
    let core : core_at i cores ≡ t.0 = ap (λ (o : Option View). unwrap_or o blank) at in at ∙ ap (λ (x : View). Some x) (sym core)

-- the view that a step leaves, and the views of other lists
pub core_new : (lists i : ℕ) (cores : List View) (now : View) → length cores ≡ lists → i < lists → core_at i (set cores i now) ≡ now
core_new lists i cores now many less = ap (λ (o : Option View). unwrap_or o blank) (new_view cores i now (core_at i cores) (core_there lists i cores many less))

pub core_else : (i j : ℕ) (cores : List View) (now : View) → j ≢ i → core_at j (set cores i now) ≡ core_at j cores
core_else i j cores now differ = ap (λ (o : Option View). unwrap_or o blank) (get_else cores i j now differ)

-- a step of seat n in list i, whose line is this, where each list is a lock
pub record IsStepIn (lists seats : ℕ) (words : List ℕ) (all : List (List View)) (n i : ℕ) (cores : List View) (step : Step) (line : Plan) : Type 0 where
  pub locks : (j : ℕ) → j < lists → IsLock (machine_at j seats words all)
  pub here : get_elem? all n ≡ some cores
  pub many : length cores ≡ lists
  pub less : i < lists
  pub enabled : plan seats n (core_at i cores) step ≡ Some line
  pub low : line.place < word_count seats

module _ {lists seats : ℕ} {words : List ℕ} {all : List (List View)} {n i : ℕ} {cores : List View} {step : Step} {line : Plan}
    (s : IsStepIn lists seats words all n i cores step line) where
  abbrev base : ℕ
  base = word_count seats

  abbrev start : ℕ
  start = i * base

  abbrev pub found : ℕ
  found = get_or words (start + line.place) 0

  abbrev pub v : View
  v = core_at i cores

  abbrev pub now : View
  now = line.view found

  abbrev pub words' : List ℕ
  words' = set words (start + line.place) (line.write found)

  abbrev pub cores' : List View
  cores' = set cores i now

  abbrev pub m : Machine
  m = machine_at i seats words all

  abbrev pub next : Machine
  next = carried_out m n line

  pub seen : slice_get m.views n ≡ Some v
  seen = to_get m.views n v (at_map (core_at i) all n cores s.here)

  pub stepped : after m n step ≡ Some next
  stepped = given-is _ _ v _ seen (given-is _ _ line _ s.enabled refl)

  pub found_is : get_or m.words line.place 0 ≡ found
  found_is = slice_word base start line.place words s.low

  pub seen_next : slice_get next.views n ≡ Some now
  seen_next = new_view m.views n _ v seen ∙ ap (λ k. Some (line.view k)) found_is

  -- the stepping list
  pub this : next ≡ machine_at i seats words' (set all n cores')
  this = let words_now : set m.words line.place (line.write (get_or m.words line.place 0)) ≡ take base (drop start words') = ap (λ k. set m.words line.place
      (line.write k)) found_is ∙ sym (this_slice base start line.place words (line.write found) s.low) in
      let core : core_at i cores' ≡ now = core_new lists i cores now s.many s.less in
      let views_now : set m.views n (line.view (get_or m.words line.place 0)) ≡ map (core_at i) (set all n cores') = ap (λ k. set m.views n
      (line.view k)) found_is ∙ (ap (set m.views n) (sym core) ∙ sym (map-set (core_at i) all n cores')) in
      λ k. record { seats = seats; words = words_now k; views = views_now k }

  -- another list
  other : (j : ℕ) → j ≢ i → machine_at j seats words all ≡ machine_at j seats words' (set all n cores')
  other j differ =
      let words_now : take base (drop (j * base) words) ≡ take base (drop (j * base) words') = sym (other_slice base start (j * base) line.place words
      (line.write found) (slices_apart i j base (λ e. differ (sym e))) s.low) in
      let core : core_at j cores' ≡ core_at j cores = core_else i j cores now differ in
      let views_now : map (core_at j) all ≡ map (core_at j) (set all n cores') = sym (map-set (core_at j) all n cores' ∙ (ap (set (map
      (core_at j) all) n) core ∙ set_again (map (core_at j) all) n (core_at j cores) (at_map (core_at j) all n cores s.here))) in
      λ k. record { seats = seats; words = words_now k; views = views_now k }

  pub locks_after : (j : ℕ) → j < lists → IsLock (machine_at j seats words' (set all n cores'))
  locks_after j there = dite (ℕ_discrete j i)
      (λ e. subst (λ k. IsLock (machine_at k seats words' (set all n cores'))) (sym e) (subst IsLock this (every_step_keeps step m next n
      (s.locks i s.less) stepped)))
      (λ differ. subst IsLock (other j differ) (s.locks j there))
