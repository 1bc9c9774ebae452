-- Every kind of lock step in every list keeps the table's rule: the list's machine by the law of `lock_laws` for every
-- step, the other lists since their words and views stay, and the guard by what counts before and after. One lemma
-- serves all eighteen kinds, and names none but Mark, whose addition has no carry.
use Rattle.std.proofs.Common.{◌≡◌, ◌≢◌, ℕ, ◌+◌, ◌*◌, ◌%◌, ◌<◌, ◌≤◌, true, false, Bool, List, [], ◌∷◌, get_or, set, length, sym, refl, ap, ◌∙◌, subst}
use Rattle.std.proofs.Common.{arith, inl, inr, ⊎_elim, length-set}
use Rattle.std.specs.Prelude.{slice_get, slice_index, Some, None, if◌then◌else◌}
use prog.Atomic.{either}
use mathlib.Core.Option.{some}
use lib.ListN.{get_elem?}
use Rattle.atomic_table.specs.Table.{Me, keeps, Allows}
use Rattle.atomic_table.specs.Seated.{TableId}
use Rattle.lock_core.specs.Grants.{Grants}
use Rattle.list_cuts.specs.Cut.{Regions, list_count}
use Rattle.lock_core.specs.declared.range.Held.{Held}
use Rattle.lock_core.specs.declared.views.View.{View}
use Rattle.lock_core.specs.declared.steps.Step.{Step}
use Rattle.lock_core.specs.declared.steps.Step.TheVariants.{Mark}
use Rattle.lock_core.specs.declared.ops.Act.{Act}
use Rattle.lock_core.specs.declared.ops.Act.TheVariants.{Load, Store, Add, Exchange}
use Rattle.lock_core.specs.Operations.{Writes, written}
use Rattle.lock_core.specs.Words.{word_count}
use Rattle.lock_core.specs.StepTable.{Plan, IsLine, mark}
use Rattle.lock_core.specs.Sizes.{IsViewSound, bound_node}
use Rattle.lock_core.specs.Machine.{Machine}
use Rattle.lock_core.proofs.Table.{line_of_plan}
use Rattle.lock_laws.specs.Laws.{IsLock}
use Rattle.lock_laws.proofs.Running.{every_step_keeps}
use Rattle.lock_laws.proofs.Sound.{view_sound}
use Rattle.epoch_pools.specs.declared.views.SeatLists.{SeatLists}
use Rattle.epoch_pools.specs.declared.views.SeatPart.{SeatPart}
use Rattle.epoch_pools.specs.declared.views.Beside.{Beside}
use Rattle.epoch_pools.specs.declared.views.ListView.{ListView}
use Rattle.epoch_pools.specs.Standings.{is_here}
use Rattle.epoch_pools.specs.Beside.{core_at, held_in, shown, given_back, may_give_back}
use Rattle.epoch_pools.specs.Hands.{part_in, shown_of, IsSeatOf}
use Rattle.epoch_pools.specs.Running.{takes_in, AreLists, view, line_in, lists_after, line_for, Enables, MayRest, part_after, Told}
use Rattle.epoch_pools.specs.Running.{IsAnswer, IsLockPlay, IsRunningList}
use Rattle.epoch_pools.proofs.Placing.{part_here, placed, same_seat, IsKept, IsToken, Goes, untold, same_lists, list_there, play_shown, play_shows, many_seats}
use Rattle.epoch_pools.proofs.Frames as frames
use Rattle.epoch_pools.proofs.Slices.{further}
use Rattle.epoch_pools.proofs.Granting.{GainLaw, LossLaw}
use Rattle.epoch_pools.proofs.Keeping.{MayRestIn, here_held, at_step, on_or_gone, lists_kept}
use Rattle.epoch_pools.proofs.Showing.{step_shows, rests_in}

-- the own next word of a linked node has no mark
even_mark : (m : Machine) (s : ℕ) (v : View) (p : Plan) → IsLock m → slice_get m.views s ≡ Some v → IsLine m.seats s v Mark p
    → slice_index m.words p.place % 2 ≡ 0
even_mark m s v p l at (mark k own) = l.sized.even s v at k.node (ap bound_node own)

-- so the word that a Mark finds has none
found_even : {lists seats : ℕ} {words : List ℕ} {all : List (List View)} {n i : ℕ} {cores : List View} {step : Step} {line : Plan}
    (s : frames.IsStepIn lists seats words all n i cores step line) → step ≡ Mark → get_or words (i * word_count seats + line.place) 0 % 2 ≡ 0
found_even {lists} {seats} {words} {all} {n} {i} {cores} {step} {line} s q = ap (λ k. k % 2) (sym (frames.found_is s))
    ∙ even_mark (frames.m s) n (core_at i cores) line (s.locks i s.less) (frames.seen s)
    (subst (λ st. IsLine seats n (core_at i cores) st line) q (line_of_plan seats n (core_at i cores) step line s.enabled))

module _ {P : Type 0} (begin : P) (c : Regions) (seats clients : ℕ) (holds : Grants → List ℕ → List P → Type 0) (rested : P → P) (is_at_rest : P → Type 0)
    (gains : GainLaw holds) (loses : LossLaw holds rested is_at_rest) where
  -- one case for all lock steps in all lists; f says what the operation makes of the word
  pub lock_keeps : (lists i : ℕ) (step : Step) (f : ℕ → ℕ) (slots id : ℕ) (me : Me (Unit {0}) (ListView P)) (w : SeatLists P) → me.0 ≡ view (w ∷ [])
      → length w.cores ≡ lists → i < lists → Enables (shown lists i w) step → MayRest (may_give_back is_at_rest) (shown lists i w) step
      → (line_for (shown lists i w) step).place < word_count w.seats
      → ((n : ℕ) → n < 18446744073709551616 → (step ≡ Mark → n % 2 ≡ 0) → f n ≡ (line_for (shown lists i w) step).write n)
      → Allows (IsRunningList c seats clients holds) slots id me (i * word_count seats + (line_for (shown lists i w) step).place) f
      (IsLockPlay begin rested lists i seats step me)
  lock_keeps lists i step f slots id me w is full less may rests low writes s running _ at small =
      let parts = running.0 in let owner = running.1 in let r = running.2 in
      let base : ℕ = word_count seats in let at' : get_elem? s.views id ≡ some (view (w ∷ [])) = at ∙ ap some is in
      let here = part_here c seats clients holds s parts owner r id w at' in
      let many : w.seats ≡ seats = r.same w.number w here in
      let same : lists ≡ list_count c = sym full ∙ r.lists_are.apart.many w.number w here in
      let less' : i < list_count c = omega arith in let line : Plan = line_in w i step in let place : ℕ = i * base + line.place in
      let low' : line.place < base = subst (λ n. line.place < word_count n) many low in
      let held : is_here w.standing i ≡ true → (g : Held) × (held_in w i ≡ Some g) = here_held r.lists_are.apart w.number i w here in
      let on_held : is_here w.standing i ≡ true → held_in w i ≢ None = λ e none. let x = sym (held e).1 ∙ none in cc in
      let rest : MayRestIn is_at_rest (list_count c) w i step =
      subst (λ k. MayRestIn is_at_rest k w i step) same (rests_in is_at_rest lists i w step less on_held rests) in
      let at_list = at_step holds rested is_at_rest gains loses i step r.lists_are here refl many less' may rest low' in
      let m : Machine = frames.m at_list in let next : Machine = frames.next at_list in
      let now_lock : IsLock m = r.lists_are.apart.locks i less' in
      let lock : IsLock next = every_step_keeps step m next w.number now_lock (frames.stepped at_list) in let y : ℕ = get_or s.words place 0 in
      let found : get_or m.words line.place 0 ≡ y = frames.found_is at_list in let now : View = line.view y in
      let seen_now : slice_get next.views w.number ≡ Some now = frames.seen_next at_list in
      let even : step ≡ Mark → y % 2 ≡ 0 = found_even at_list in
      let wrote : f y ≡ line.write y = writes y small even in let q : SeatLists P = lists_after lists rested w i step y in
      let on = on_or_gone holds rested is_at_rest gains loses i step r.lists_are here refl many less' may rest low' in
      let shows : shown lists i q ≡ part_after (given_back rested) (shown lists i w) step y =
      step_shows rested lists i w step y full less on_held (λ h held. ⊎_elim (λ a. inl a) (λ b. inr b.1) (on h held)) in
      let kept = lists_kept holds rested is_at_rest gains loses i step r.lists_are here refl many less' may rest low' in
      let part : part_in begin me.0.parts ≡ w = ap (λ (v : ListView P). part_in begin v.parts) is in (
        view (q ∷ []),
        keeps,
        tt,
        placed c seats clients holds s parts owner r place (f y) id me.1 w q at' refl refl
            (subst (λ (z : ℕ × ℕ). AreLists (list_count c) seats (takes_in c) holds (set s.words place z.0) (set parts w.number
            (lists_after z.1 rested w i step y)))
            (λ k. (sym wrote k, sym same k)) kept),
        record {
          left = record { slots = refl; one = refl; full = length-set w.cores i now ∙ ap (λ (x : SeatLists P). length x.cores) (sym part) };
          shows = shows ∙ ap (λ (x : SeatLists P). part_after (given_back rested) (shown lists i x) step y) (sym part);
          told = subst (λ (x : SeatLists P). Told seats (shown lists i x) step y) (sym part) (record {
            many = many;
            sound = subst (λ n. IsViewSound n w.number now) (sym many) (view_sound next lock w.number now seen_now);
            whole = λ x. lock.invariant.places.once w.number x now seen_now;
            kept = λ keeping h held. ⊎_elim (λ a. a) (λ b. absurd (keeping b.0)) (on h held);
            moment = λ _. record { machine = m; lock = now_lock; seats = sym many; view = frames.seen at_list; word = found };
          });
        },
      )

-- what the call that makes a step knows: the guard's laws, its token and the table that both are of, that the seat may
-- make the step, and its word
pub record IsLockCall {P : Type 0} (begin : P) (holds : Grants → List ℕ → List P → Type 0) (rested : P → P) (is_at_rest : P → Type 0)
    (parts : List (SeatLists P)) (lists i : ℕ) (id other : TableId) (p : SeatPart (Beside P)) (play_lists play_list key_seats seats : ℕ) (step : Step)
    (word place : ℕ) : Type 0 where
  pub gains : GainLaw holds
  pub loses : LossLaw holds rested is_at_rest
  pub token : IsToken begin parts lists i id.words p play_lists play_list
  pub same : id ≡ other
  pub same_seats : key_seats ≡ seats
  pub may : Enables p step
  pub rests : MayRest (may_give_back is_at_rest) p step
  pub at : word ≡ (line_for p step).place
  pub low : word < word_count p.seats
  pub there : place ≡ p.pass.list * word_count p.seats + word

module _ {P : Type 0} {begin : P} {holds : Grants → List ℕ → List P → Type 0} {rested : P → P} {is_at_rest : P → Type 0} {me : Me (Unit {0}) (ListView P)}
    {lists i : ℕ} {id other : TableId} {p : SeatPart (Beside P)} {play_lists play_list key_seats seats : ℕ} {step : Step} {word place : ℕ}
    (call : IsLockCall begin holds rested is_at_rest me.0.parts lists i id other p play_lists play_list key_seats seats step word place) where
  module _ {act : Act} (writes : (n : ℕ) → n < 18446744073709551616 → (step ≡ Mark → n % 2 ≡ 0) → written act n ≡ (line_for p step).write n) where
    -- an operation that does what the step's line says is this step
    pub lock_goes : (c : Regions) (clients slots own : ℕ) {of : Act} → act ≡ of → (f : ℕ → ℕ) → ((n : ℕ) → f n ≡ written of n)
        → Goes id other (IsRunningList c key_seats clients holds) slots own me place f (IsLockPlay begin rested play_lists play_list seats step me)
    lock_goes c clients slots own is f makes = let w : SeatLists P = part_in begin me.0.parts in let many = call.token.many in
        let shows : p ≡ shown_of begin play_lists play_list me.0.parts = sym (play_shows call.token) in
        let n : word_count p.seats ≡ word_count many = ap word_count (many_seats call.token) in
        let list : p.pass.list ≡ i = ap (λ (x : SeatPart (Beside P)). x.pass.list) (sym call.token.shown_is) in
        let behind : i * word_count many + word_count many ≤ lists * word_count many = further i lists (word_count many) call.token.seat.within in
        let all : lists * word_count many ≤ id.words = call.token.seat.words_there in
        let words : id.words ≡ other.words = ap (λ (t : TableId). t.words) call.same in let low = call.low in let there = call.there in
        let begins : p.pass.list * word_count p.seats ≡ i * word_count many = λ k. list k * n k in (
          call.same,
          omega arith,
          λ s running l here small. let r = running.2 in
              let at' : get_elem? s.views own ≡ some (view (w ∷ [])) = here ∙ ap (λ l. some (view l)) call.token.one in
              let now : w.seats ≡ key_seats = r.same w.number w (part_here c key_seats clients holds s running.0 running.1 r own w at') in
              let where_is : place ≡ play_list * word_count key_seats + (line_for (shown play_lists play_list w) step).place =
              call.there ∙ (ap (λ n. p.pass.list * word_count p.seats + n) call.at
              ∙ (ap (λ (x : SeatPart (Beside P)). x.pass.list * word_count x.seats + (line_for x step).place) shows
              ∙ ap (λ n. play_list * word_count n + (line_for (shown play_lists play_list w) step).place) now)) in
              subst (λ (z : ℕ × ℕ). Allows (IsRunningList c key_seats clients holds) slots own me z.0 f
              (IsLockPlay begin rested play_lists play_list z.1 step me))
              (λ k. (sym where_is k, call.same_seats k))
              (lock_keeps begin c key_seats clients holds rested is_at_rest call.gains call.loses play_lists play_list step f slots own me w
              (ap view call.token.one)
              (call.token.seat.full ∙ sym (same_lists call.token)) (list_there call.token)
              (subst (λ (x : SeatPart (Beside P)). Enables x step) shows call.may)
              (subst (λ (x : SeatPart (Beside P)). MayRest (may_give_back is_at_rest) x step) shows call.rests)
              (subst (λ (x : SeatPart (Beside P)). (line_for x step).place < word_count x.seats) shows (subst (λ n. n < word_count p.seats) call.at call.low))
              (λ n small even. makes n ∙ (ap (λ a. written a n) (sym is) ∙ (writes n small even
              ∙ ap (λ (x : SeatPart (Beside P)). (line_for x step).write n) shows)))) s running l here small,
        )

    -- so is a store, which doesn't tell what it found
    pub lock_puts : (c : Regions) (clients slots own : ℕ) {value : ℕ} → act ≡ Store value
        → Goes id other (IsRunningList c key_seats clients holds) slots own me place (λ _. value)
        (λ _ me'. (found : ℕ) × IsLockPlay begin rested play_lists play_list seats step me found me')
    lock_puts c clients slots own {value} is = untold id other (IsRunningList c key_seats clients holds) slots own me place (λ _. value)
        (IsLockPlay begin rested play_lists play_list seats step me) (lock_goes c clients slots own is (λ _. value) (λ n. refl))

module _ {P : Type 0} {begin : P} {rested : P → P} {play_lists play_list seats : ℕ} {step : Step} {found : ℕ} {me me' : Me (Unit {0}) (ListView P)}
    (play : IsLockPlay begin rested play_lists play_list seats step me found me') {lists i words : ℕ} {p : SeatPart (Beside P)}
    (token : IsToken begin me.0.parts lists i words p play_lists play_list) where
  -- what a token shows after a step, and what the step says beside, with the names that the call has
  pub part_played : shown_of begin lists i me'.0.parts ≡ part_after (given_back rested) p step found
  part_played = sym (play_shown token me'.0.parts)
      ∙ (play.shows ∙ ap (λ (x : SeatPart (Beside P)). part_after (given_back rested) x step found) (play_shows token))

  pub told_played : Told seats p step found
  told_played = subst (λ (x : SeatPart (Beside P)). Told seats x step found) (play_shows token) play.told

  -- so a call may say it of an operation that answers so
  pub made_played : {act of : Act} → act ≡ of → (answer : ℕ) → IsAnswer of found answer
      → (found : ℕ) × (shown_of begin lists i me'.0.parts ≡ part_after (given_back rested) p step found) × Told seats p step found × IsAnswer act found answer
  made_played is answer answers = (found, part_played, told_played, subst (λ (a : Act). IsAnswer a found answer) (sym is) answers)

-- the token is of the same seat still
pub seat_played : {P : Type 0} {begin : P} {rested : P → P} {lists i seats : ℕ} {step : Step} {found : ℕ} {me me' : Me (Unit {0}) (ListView P)}
    → IsLockPlay begin rested lists i seats step me found me' → {number many token_lists list first words words' : ℕ} → me.1 ≡ []
    → IsSeatOf (part_in begin me.0.parts) number many token_lists list first words → words' ≡ words
    → IsKept begin me' number many token_lists list first words'
seat_played play = same_seat play.left (ap (λ (x : SeatPart (Beside _)). x.number) play.shows) (ap (λ (x : SeatPart (Beside _)). x.seats) play.shows)

-- what an exchange makes of a word, said in two ways
pub either_if : (t : Bool) (new old : ℕ) → either t new old ≡ (if t then new else old)
either_if true new old = refl
either_if false new old = refl

-- an operation that writes what a line says makes of each word what the line does
pub writes_of : (step : Step) (line : Plan) (act : Act) → Writes step line act → (n : ℕ) → n < 18446744073709551616 → (step ≡ Mark → n % 2 ≡ 0)
    → written act n ≡ line.write n
writes_of step line Load w n small even = sym (w n)
writes_of step line (Store value) w n small even = sym (w.0 n)
writes_of step line Add w n small even = sym (w n small even)
writes_of step line (Exchange old new) w n small even = sym (w n)

-- what a step says, said of what its operation returned
pub answer_says : {P : Type 0} (rested : P → P) {p q : SeatPart (Beside P)} {step : Step} {seats answer : ℕ}
    → (found : ℕ) × (q ≡ part_after (given_back rested) p step found) × Told seats p step found × (answer ≡ found)
    → (q ≡ part_after (given_back rested) p step answer) × Told seats p step answer
answer_says rested {p} {q} {step} {seats} m = (m.1 ∙ ap (part_after (given_back rested) p step) (sym m.3), subst (Told seats p step) (sym m.3) m.2)
