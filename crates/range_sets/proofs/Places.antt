-- The seats of a set from a place on: what is left of them by tries of one seat after the other, and what this says of
-- the whole set. Each law is an induction on the wants, with the seats at their places.
use Rattle.std.proofs.Common.{◌≡◌, ◌≢◌, ℕ, zero, suc, ◌+◌, ◌*◌, ◌<◌, ◌≤◌, List, [], ◌∷◌, length, take}
use Rattle.std.proofs.Common.{Some, None, Result, Ok, Err, inl, inr, refl, sym, ap, subst, ◌∙◌, arith}
use Rattle.std.specs.Prelude.{All, IfErr, OnOk, OnErr, map, slice_get}
use Rattle.std.specs.Option.{option_map}
use Rattle.std.proofs.Math.Nat.{suc-mul, zero-mul}
use Rattle.std.proofs.Math.Seq.{take-length}
use Rattle.std.proofs.lemmas.List.{length-map}
use Rattle.std.proofs.lemmas.List.Elements.{All-cons}
use Rattle.std.proofs.lemmas.List.Sums.{sum_by-cons}
use Rattle.std.proofs.lemmas.Option.{none-some, slice_get_past}
use Rattle.atomic_table.specs.Seated.{TableId}
use Rattle.list_cuts.specs.Cut.{Regions, Takes}
use Rattle.lock_core.specs.Range.{Interval}
use Rattle.lock_core.specs.declared.range.Held.{Held}
use Rattle.range_rw.specs.declared.refusals.NotHeld.{NotHeld}
use Rattle.range_rw.specs.Contract.{AsksOnly, SeatState, TableShape, IsLockCall, IsRelease, StandsIn, WorksIn, pass_in, ready_in, try_steps}
use Rattle.range_rw.specs.Several.{TakesAlone}
use Rattle.range_rw.proofs.Asking.{asks_stay, asks_kept}
use Rattle.range_rw.proofs.TakenLists.{alone_steps}
use Rattle.range_sets.specs.declared.taking.SetRefused.{SetRefused}
use Rattle.range_sets.specs.declared.wants.Want.{Want}
use Rattle.range_sets.specs.Wants.{want_held}
use Rattle.range_sets.specs.Sets.{SetView, AllFree, AreHeld, AsksEach, EachIs, IsCauseAt, IsLetGo, TriesTake, held_in, passes_after, taken_by, taken_of}
use Rattle.range_sets.specs.Sets.{KeepsBack, KeepsEach, KeepsFor, KeepsUpTo, StandEach, StaysOutside, TellsAt}
use Rattle.range_sets.specs.Taking.{AreGranted, IsGranted, IsOneTry, IsRefused, IsRefusedAt, IsTakenBack}

-- the steps of one granted try beside those of the others
granted_steps : (x y xs ys sx sy one rest all : ℕ) → sx ≡ x + xs → sy ≡ y + ys → all ≡ one + rest → ys ≤ xs + rest → y ≤ x + one → sy ≤ sx + all
granted_steps x y xs ys sx sy one rest all before after e more first = omega arith

-- the steps of a refused try, with no others behind it
refused_steps : (x y xs ys sx sy one rest all : ℕ) → sx ≡ x + xs → sy ≡ y + ys → all ≡ one + rest → ys ≡ xs → y ≤ x + one → sy ≤ sx + all + 2 * 0
refused_steps x y xs ys sx sy one rest all before after e same first = omega arith

-- the steps of a try that is taken back, beside those behind it
back_steps : (x y xs ys sx sy one rest all i : ℕ) → sx ≡ x + xs → sy ≡ y + ys → all ≡ one + rest → ys ≤ xs + rest + 2 * i → y ≤ x + one + 2
    → sy ≤ sx + all + 2 * suc i
back_steps x y xs ys sx sy one rest all i before after e more first = omega arith

-- what is so of each of a list is so of those behind the first
all_behind : {A : Type 0} (Q : A → Type 0) (x : A) (xs : List A) → All Q (x ∷ xs) → All Q xs
all_behind Q x xs all i d lt = all (suc i) d (omega arith)

-- the first wants of some, where each range takes one list
alone_first : (t : TableShape) (i : ℕ) (wants : List Want) → i ≤ length wants → All (λ w. TakesAlone t.cut w.range) wants
    → TriesTake t (take i wants) (i * (64 + 386 * t.seats))
alone_first t zero [] there alone = zero-mul (64 + 386 * t.seats)
alone_first t zero (w ∷ ws) there alone = zero-mul (64 + 386 * t.seats)
alone_first t (suc i) [] there alone = absurd (omega arith)
alone_first t (suc i) (w ∷ ws) there alone = let one = alone_steps t.cut w.range t.seats (alone 0 w (omega arith)) in
    let more = suc-mul i (64 + 386 * t.seats) in let behind = all_behind (λ w. TakesAlone t.cut w.range) w ws alone in
    (one.0, i * (64 + 386 * t.seats), one.1, alone_first t i ws (omega arith) behind, let s = one.2 in omega arith)

-- and all of them
pub alone_take : (t : TableShape) (wants : List Want) → All (λ w. TakesAlone t.cut w.range) wants → TriesTake t wants (length wants * (64 + 386 * t.seats))
alone_take t wants alone =
    subst (λ l. TriesTake t l (length wants * (64 + 386 * t.seats))) (take-length wants) (alone_first t (length wants) wants (omega arith) alone)

-- the list that holds a range is one in which its try works
works_there : (c : Regions) (range : Interval) (list : ℕ) → StandsIn c range list → WorksIn c range list
works_there c range list (inl one) = inr one.takes
works_there c range list (inr wide) = inl wide.1

module _ {P : Type 0} where
  -- seats of which the first holds something aren't all free
  pub first_holds : (seats : List (SeatState P)) (a : SeatState P) (h : Held) → a.held ≡ Some h → ¬ (AllFree (a ∷ seats))
  first_holds seats a h holds free = none-some h (sym (free 0 a (omega arith)) ∙ holds)

  -- the seats behind the first of free ones are free
  free_behind : (x : SeatState P) (xs : List (SeatState P)) → AllFree (x ∷ xs) → AllFree xs
  free_behind x xs free i d lt = free (suc i) d (omega arith)

  -- what is so of each seat of a set is so of its four seats
  pub four_seats : (Q : SeatState P → Type 0) (table : TableId) (a b c d : SeatState P) (set : SetView P)
      → record { table = table; seats = a ∷ b ∷ c ∷ d ∷ [] } ≡ set → All Q set.seats → All Q (a ∷ b ∷ c ∷ d ∷ [])
  four_seats Q table a b c d set is all = subst (λ (x : SetView P). All Q x.seats) (sym is) all

  -- and of the last three
  pub last_three : (Q : SeatState P → Type 0) (a b c d : SeatState P) → All Q (a ∷ b ∷ c ∷ d ∷ []) → Q b × Q c × Q d
  last_three Q a b c d all = let one = all_behind Q a (b ∷ c ∷ d ∷ []) all in let two = all_behind Q b (c ∷ d ∷ []) one in
      let three = all_behind Q c (d ∷ []) two in (one 0 b (omega arith), two 0 c (omega arith), three 0 d (omega arith))

  -- it stays so where it is so of the first one's new state
  pub first_changed : (Q : SeatState P → Type 0) (a x : SeatState P) (rest : List (SeatState P)) → All Q (a ∷ rest) → Q x → All Q (x ∷ rest)
  first_changed Q a x rest all now = All-cons Q x rest now (all_behind Q a rest all)

  none_held : (xs : List (SeatState P)) → AllFree xs → (i : ℕ) → i < length xs → held_in xs i ≡ None
  none_held [] free i lt = absurd (omega arith)
  none_held (x ∷ xs) free zero lt = free 0 x lt
  none_held (x ∷ xs) free (suc i) lt = none_held xs (free_behind x xs free) i (omega arith)

  -- a seat that made no step
  same_call : (x : SeatState P) → IsLockCall x x
  same_call x = record { table = refl; number = refl; pass = refl; client = refl; taken = omega arith }

  same_calls : (xs : List (SeatState P)) → EachIs IsLockCall xs xs
  same_calls [] = tt
  same_calls (x ∷ xs) = (same_call x, same_calls xs)

  same_free : (xs : List (SeatState P)) → AllFree xs → EachIs IsLetGo xs xs
  same_free [] free = tt
  same_free (x ∷ xs) free =
      (record { back = record { table = refl; number = refl; held = free 0 x (omega arith) }; client = refl }, same_free xs (free_behind x xs free))

  same_outside : (xs : List (SeatState P)) → EachIs StaysOutside xs xs
  same_outside [] = tt
  same_outside (x ∷ xs) = (λ none. none, same_outside xs)

  -- a range that was got and given back: the lists in which its try doesn't work are as before
  keeps_back : (rested : P → P) (c : Regions) (w : Want) (x z y : SeatState P) → StandsIn c w.range z.list → KeepsFor c w x z → IsRelease rested z y
      → KeepsBack c w x y
  keeps_back rested c w x z y stands keeps back outside j there few away =
      let many : length y.further ≡ length z.further =
      sym (length-map y.further ready_in) ∙ (ap length back.further ∙ length-map z.further ready_in) in
      let other : j ≢ z.list = λ e. away (subst (WorksIn c w.range) (sym e) (works_there c w.range z.list stands)) in
      back.only j (omega arith) other ∙ keeps outside j there away

  -- seats that are as before have asked for nothing
  same_asks : (wants : List Want) (xs : List (SeatState P)) → AsksEach wants xs xs
  same_asks [] [] = tt
  same_asks (w ∷ ws) [] = tt
  same_asks [] (x ∷ xs) = (refl, same_asks [] xs)
  same_asks (w ∷ ws) (x ∷ xs) = (asks_stay refl, same_asks ws xs)

  module _ (t : TableShape) where
    -- without a want nothing was tried
    pub granted_none : (wants : List Want) (xs : List (SeatState P)) → length wants ≡ 0 → AreGranted t wants xs xs
    granted_none [] xs none = refl
    granted_none (w ∷ ws) xs none = absurd (omega arith)

    -- the first want was granted, and those behind it
    pub granted_more : (wants rest : List Want) (w : Want) (x y : SeatState P) (xs ys : List (SeatState P)) → wants ≡ w ∷ rest
        → IsGranted t w x y → AreGranted t rest xs ys → AreGranted t wants (x ∷ xs) (y ∷ ys)
    granted_more wants rest w x y xs ys e one more = subst (λ l. AreGranted t l (x ∷ xs) (y ∷ ys)) (sym e) (one, more)

    -- the one want was granted to the last seat
    pub granted_last : (wants rest : List Want) (w : Want) (x y : SeatState P) → wants ≡ w ∷ rest → length wants ≤ 1
        → IsGranted t w x y → AreGranted t wants (x ∷ []) (y ∷ [])
    granted_last wants rest w x y e few one = let long : length wants ≡ length (w ∷ rest) = ap length e in
        granted_more wants rest w x y [] [] e one (granted_none rest [] (omega arith))

    -- granted wants are held, each by the seat at its place, and the other seats hold nothing
    pub held_at : (wants : List Want) (xs ys : List (SeatState P)) → AllFree xs → AreGranted t wants xs ys
        → (i : ℕ) → i < length xs → held_in ys i ≡ option_map want_held (slice_get wants i)
    held_at [] xs ys free e i lt = subst (λ l. held_in l i ≡ None) (sym e) (none_held xs free i lt)
        ∙ sym (ap (option_map want_held) (slice_get_past [] i (omega arith)))
    held_at (w ∷ ws) [] ys free g i lt = absurd g
    held_at (w ∷ ws) (x ∷ xs) [] free g i lt = absurd g
    held_at (w ∷ ws) (x ∷ xs) (y ∷ ys) free g zero lt = g.0.held
    held_at (w ∷ ws) (x ∷ xs) (y ∷ ys) free g (suc i) lt = held_at ws xs ys (free_behind x xs free) g.1 i (omega arith)

    -- what was granted changed no pass and made no client step
    pub granted_calls : (wants : List Want) (xs ys : List (SeatState P)) → AreGranted t wants xs ys → EachIs IsLockCall xs ys
    granted_calls [] xs ys e = subst (EachIs IsLockCall xs) (sym e) (same_calls xs)
    granted_calls (w ∷ ws) [] ys g = absurd g
    granted_calls (w ∷ ws) (x ∷ xs) [] g = absurd g
    granted_calls (w ∷ ws) (x ∷ xs) (y ∷ ys) g = (g.0.call, granted_calls ws xs ys g.1)

    -- each seat asked for its own want
    pub granted_asks : (wants : List Want) (xs ys : List (SeatState P)) → AreGranted t wants xs ys → AsksEach wants xs ys
    granted_asks [] xs ys e = subst (AsksEach [] xs) (sym e) (same_asks [] xs)
    granted_asks (w ∷ ws) [] ys g = absurd g
    granted_asks (w ∷ ws) (x ∷ xs) [] g = absurd g
    granted_asks (w ∷ ws) (x ∷ xs) (y ∷ ys) g = (g.0.asks, granted_asks ws xs ys g.1)

    -- each range stands where it takes one list alone, or in list 0
    pub granted_stands : (wants : List Want) (xs ys : List (SeatState P)) → AreGranted t wants xs ys → StandEach t.cut wants ys
    granted_stands [] xs ys e = tt
    granted_stands (w ∷ ws) [] ys g = absurd g
    granted_stands (w ∷ ws) (x ∷ xs) [] g = absurd g
    granted_stands (w ∷ ws) (x ∷ xs) (y ∷ ys) g = (g.0.stands, granted_stands ws xs ys g.1)

    -- each seat keeps the lists in which its try doesn't work
    pub granted_keeps : (wants : List Want) (xs ys : List (SeatState P)) → AreGranted t wants xs ys → KeepsEach t.cut wants xs ys
    granted_keeps [] xs ys e = e
    granted_keeps (w ∷ ws) [] ys g = absurd g
    granted_keeps (w ∷ ws) (x ∷ xs) [] g = absurd g
    granted_keeps (w ∷ ws) (x ∷ xs) (y ∷ ys) g = (g.0.keeps, granted_keeps ws xs ys g.1)

    -- no scan is open where none was
    pub granted_outside : (wants : List Want) (xs ys : List (SeatState P)) → AreGranted t wants xs ys → EachIs StaysOutside xs ys
    granted_outside [] xs ys e = subst (EachIs StaysOutside xs) (sym e) (same_outside xs)
    granted_outside (w ∷ ws) [] ys g = absurd g
    granted_outside (w ∷ ws) (x ∷ xs) [] g = absurd g
    granted_outside (w ∷ ws) (x ∷ xs) (y ∷ ys) g = (λ none. g.0.outside, granted_outside ws xs ys g.1)

    -- where a want was granted something is held
    pub granted_some : (wants : List Want) (xs ys : List (SeatState P)) → 0 < length wants → AreGranted t wants xs ys → ¬ (AllFree ys)
    granted_some [] xs ys some g = absurd (omega arith)
    granted_some (w ∷ ws) [] ys some g = absurd g
    granted_some (w ∷ ws) (x ∷ xs) [] some g = absurd g
    granted_some (w ∷ ws) (x ∷ xs) (y ∷ ys) some g = first_holds ys y (want_held w) g.0.held

    -- each granted want took one try
    pub granted_each : (wants : List Want) (xs ys : List (SeatState P)) → AreGranted t wants xs ys
        → (n : ℕ) → TriesTake t wants n → taken_by ys ≤ taken_by xs + n
    granted_each [] xs ys e n takes = let same : taken_by ys ≡ taken_by xs = ap taken_by e in omega arith
    granted_each (w ∷ ws) [] ys g n takes = absurd g
    granted_each (w ∷ ws) (x ∷ xs) [] g n takes = absurd g
    granted_each (w ∷ ws) (x ∷ xs) (y ∷ ys) g n takes = granted_steps x.trace.taken y.trace.taken (taken_by xs) (taken_by ys) (taken_by (x ∷ xs))
        (taken_by (y ∷ ys)) (try_steps t.seats takes.0) takes.1 n (sum_by-cons taken_of x xs) (sum_by-cons taken_of y ys) takes.4
        (granted_each ws xs ys g.1 takes.1 takes.3) (g.0.bound takes.0 takes.2)

    -- four seats hold what is wanted, each at its place
    pub all_held : (wants : List Want) (xs ys : List (SeatState P)) → length xs ≡ 4 → AllFree xs → AreGranted t wants xs ys → AreHeld wants ys
    all_held wants xs ys four free granted i lt = held_at wants xs ys free granted i (omega arith)

    module _ (rested : P → P) where
      -- a range that was got in one try and given back
      pub taken_back : (w : Want) (x z y : SeatState P) → IsGranted t w x z → IsRelease rested z y → IsTakenBack t rested w x y
      taken_back w x z y one back = record {
        table = back.table ∙ one.call.table;
        number = back.number ∙ one.call.number;
        free = back.held;
        pass = back.pass ∙ ap rested one.call.pass;
        client = back.client ∙ one.call.client;
        outside = back.scan ∙ one.outside;
        keeps = keeps_back rested t.cut w x z y one.stands one.keeps back;
        asks = asks_kept one.asks back.asked;
        bound = λ k takes. let most = one.bound k takes in let two = back.most in omega arith;
      }

      -- the first want was refused
      pub refused_first : (wants rest : List Want) (w : Want) (x y : SeatState P) (xs : List (SeatState P)) (i : ℕ) (why : NotHeld)
          → wants ≡ w ∷ rest → i ≡ 0 → IsRefused t w why x y → IsRefusedAt t rested wants (x ∷ xs) (y ∷ xs) i why
      refused_first wants rest w x y xs i why e first one = subst (λ l. IsRefusedAt t rested l (x ∷ xs) (y ∷ xs) i why) (sym e) (subst (λ k. IsRefusedAt t
          rested (w ∷ rest) (x ∷ xs) (y ∷ xs) k why) (sym first) (one, refl))

      -- a want behind the first was refused, and the first seat's range given back
      pub refused_behind : (wants rest : List Want) (w : Want) (x y : SeatState P) (xs ys : List (SeatState P)) (i n : ℕ) (why told : NotHeld)
          → wants ≡ w ∷ rest → n ≡ i + 1 → told ≡ why → IsTakenBack t rested w x y → IsRefusedAt t rested rest xs ys i why
          → IsRefusedAt t rested wants (x ∷ xs) (y ∷ ys) n told
      refused_behind wants rest w x y xs ys i n why told e next same one behind = let is : n ≡ suc i = omega arith in subst (λ l. IsRefusedAt t rested l
          (x ∷ xs) (y ∷ ys) n told) (sym e) (subst (λ k. IsRefusedAt t rested (w ∷ rest) (x ∷ xs) (y ∷ ys) k told) (sym is) (subst (λ v. IsRefusedAt t rested
          (w ∷ rest) (x ∷ xs) (y ∷ ys) (suc i) v) (sym same) (one, behind)))

      -- each seat asked for its own want, also where one was refused
      pub refused_asks : (wants : List Want) (xs ys : List (SeatState P)) (i : ℕ) (why : NotHeld) → IsRefusedAt t rested wants xs ys i why
          → AsksEach wants xs ys
      refused_asks (w ∷ ws) (x ∷ xs) (y ∷ ys) zero why r = (r.0.asks, subst (AsksEach ws xs) (sym r.1) (same_asks ws xs))
      refused_asks (w ∷ ws) (x ∷ xs) (y ∷ ys) (suc i) why r = (r.0.asks, refused_asks ws xs ys i why r.1)
      refused_asks [] xs ys i why r = absurd r
      refused_asks (w ∷ ws) [] ys i why r = absurd r
      refused_asks (w ∷ ws) (x ∷ xs) [] i why r = absurd r

      -- the refusal tells a list in which the try of its want works
      refused_told : (wants : List Want) (xs ys : List (SeatState P)) (i : ℕ) (why : NotHeld) → IsRefusedAt t rested wants xs ys i why
          → TellsAt t.cut wants i why
      refused_told (w ∷ ws) (x ∷ xs) (y ∷ ys) zero why r = r.0.told
      refused_told (w ∷ ws) (x ∷ xs) (y ∷ ys) (suc i) why r = refused_told ws xs ys i why r.1
      refused_told [] xs ys i why r = absurd r
      refused_told (w ∷ ws) [] ys i why r = absurd r
      refused_told (w ∷ ws) (x ∷ xs) [] i why r = absurd r

      -- each seat that tried keeps the other lists
      refused_keeps : (wants : List Want) (xs ys : List (SeatState P)) (i : ℕ) (why : NotHeld) → IsRefusedAt t rested wants xs ys i why
          → KeepsUpTo t.cut wants i xs ys
      refused_keeps (w ∷ ws) (x ∷ xs) (y ∷ ys) zero why r = (r.0.keeps, r.1)
      refused_keeps (w ∷ ws) (x ∷ xs) (y ∷ ys) (suc i) why r = (r.0.keeps, refused_keeps ws xs ys i why r.1)
      refused_keeps [] xs ys i why r = absurd r
      refused_keeps (w ∷ ws) [] ys i why r = absurd r
      refused_keeps (w ∷ ws) (x ∷ xs) [] i why r = absurd r

      -- and has no open scan where it had none
      refused_outside : (wants : List Want) (xs ys : List (SeatState P)) (i : ℕ) (why : NotHeld) → IsRefusedAt t rested wants xs ys i why
          → EachIs StaysOutside xs ys
      refused_outside (w ∷ ws) (x ∷ xs) (y ∷ ys) zero why r = (λ none. r.0.outside, subst (EachIs StaysOutside xs) (sym r.1) (same_outside xs))
      refused_outside (w ∷ ws) (x ∷ xs) (y ∷ ys) (suc i) why r = (λ none. r.0.outside, refused_outside ws xs ys i why r.1)
      refused_outside [] xs ys i why r = absurd r
      refused_outside (w ∷ ws) [] ys i why r = absurd r
      refused_outside (w ∷ ws) (x ∷ xs) [] i why r = absurd r

      pub list_told : (wants : List Want) (xs ys : List (SeatState P)) (r : Result (Unit {0}) SetRefused)
          → IfErr r (λ e. IsRefusedAt t rested wants xs ys e.index e.why) → IfErr r (λ e. TellsAt t.cut wants e.index e.why)
      list_told wants xs ys (Ok x) refused = tt
      list_told wants xs ys (Err e) refused = refused_told wants xs ys e.index e.why refused

      pub keeps_told : (wants : List Want) (xs ys : List (SeatState P)) (r : Result (Unit {0}) SetRefused)
          → IfErr r (λ e. IsRefusedAt t rested wants xs ys e.index e.why) → IfErr r (λ e. KeepsUpTo t.cut wants e.index xs ys)
      keeps_told wants xs ys (Ok x) refused = tt
      keeps_told wants xs ys (Err e) refused = refused_keeps wants xs ys e.index e.why refused

      pub outside_told : (wants : List Want) (xs ys : List (SeatState P)) (r : Result (Unit {0}) SetRefused) → OnOk r (AreGranted t wants xs ys)
          → IfErr r (λ e. IsRefusedAt t rested wants xs ys e.index e.why) → EachIs StaysOutside xs ys
      outside_told wants xs ys (Ok x) granted refused = granted_outside wants xs ys granted
      outside_told wants xs ys (Err e) granted refused = refused_outside wants xs ys e.index e.why refused

      -- whatever the answer is
      pub asks_told : (wants : List Want) (xs ys : List (SeatState P)) (r : Result (Unit {0}) SetRefused) → OnOk r (AreGranted t wants xs ys)
          → IfErr r (λ e. IsRefusedAt t rested wants xs ys e.index e.why) → AsksEach wants xs ys
      asks_told wants xs ys (Ok x) granted refused = granted_asks wants xs ys granted
      asks_told wants xs ys (Err e) granted refused = refused_asks wants xs ys e.index e.why refused

      -- what a refusal leaves of the seats from a place on
      pub record Refusal (wants : List Want) (xs ys : List (SeatState P)) (i : ℕ) (why : NotHeld) : Type 0 where
        pub free : AllFree ys
        pub let_go : EachIs IsLetGo xs ys
        pub passes : map pass_in ys ≡ passes_after rested i xs
        pub cause : IsCauseAt xs ys wants i why
        pub each : (n : ℕ) → TriesTake t (take (suc i) wants) n → taken_by ys ≤ taken_by xs + n + 2 * i

      -- the place of a refused want is one of the wants
      refused_there : (wants : List Want) (xs ys : List (SeatState P)) (i : ℕ) (why : NotHeld) → IsRefusedAt t rested wants xs ys i why → i < length wants
      refused_there [] xs ys i why r = absurd r
      refused_there (w ∷ ws) [] ys i why r = absurd r
      refused_there (w ∷ ws) (x ∷ xs) [] i why r = absurd r
      refused_there (w ∷ ws) (x ∷ xs) (y ∷ ys) zero why r = omega arith
      refused_there (w ∷ ws) (x ∷ xs) (y ∷ ys) (suc i) why r = let n = refused_there ws xs ys i why r.1 in omega arith

      same_behind : (x y : SeatState P) (xs ys : List (SeatState P)) → ys ≡ xs → (k : ℕ) → 0 < k → slice_get (y ∷ ys) k ≡ slice_get (x ∷ xs) k
      same_behind x y xs ys e zero lt = absurd (omega arith)
      same_behind x y xs ys e (suc k) lt = ap (λ l. slice_get l k) e

      same_further : (x y : SeatState P) (xs ys : List (SeatState P)) (i : ℕ) → ((k : ℕ) → i < k → slice_get ys k ≡ slice_get xs k)
          → (k : ℕ) → suc i < k → slice_get (y ∷ ys) k ≡ slice_get (x ∷ xs) k
      same_further x y xs ys i same zero lt = absurd (omega arith)
      same_further x y xs ys i same (suc k) lt = same k (omega arith)

      -- what a refused want leaves of its seat and those behind it, and what the seats before it are
      pub refusal : (wants : List Want) (xs ys : List (SeatState P)) (i : ℕ) (why : NotHeld) → AllFree xs
          → IsRefusedAt t rested wants xs ys i why → Refusal wants xs ys i why
      refusal [] xs ys i why free r = absurd r
      refusal (w ∷ ws) [] ys i why free r = absurd r
      refusal (w ∷ ws) (x ∷ xs) [] i why free r = absurd r
      refusal (w ∷ ws) (x ∷ xs) (y ∷ ys) zero why free r =
          let behind = free_behind x xs free in
          record {
            free = All-cons (λ s. s.held ≡ None) y ys r.0.free (subst AllFree (sym r.1) behind);
            let_go = (
              record { back = record { table = r.0.call.table; number = r.0.call.number; held = r.0.free }; client = r.0.call.client },
              subst (EachIs IsLetGo xs) (sym r.1) (same_free xs behind),
            );
            passes = λ j. r.0.call.pass j ∷ map pass_in (r.1 j);
            cause = record {
              want = w;
              at = refl;
              old = x;
              old_at = refl;
              new = y;
              new_at = refl;
              cause = r.0.cause;
              same = same_behind x y xs ys r.1;
            };
            each = λ n takes. refused_steps x.trace.taken y.trace.taken (taken_by xs) (taken_by ys) (taken_by (x ∷ xs)) (taken_by (y ∷ ys))
                (try_steps t.seats takes.0) takes.1 n (sum_by-cons taken_of x xs) (sum_by-cons taken_of y ys) takes.4 (ap taken_by r.1)
                (r.0.bound takes.0 takes.2);
          }
      refusal (w ∷ ws) (x ∷ xs) (y ∷ ys) (suc i) why free r =
          let n = refusal ws xs ys i why (free_behind x xs free) r.1 in
          record {
            free = All-cons (λ s. s.held ≡ None) y ys r.0.free n.free;
            let_go = (record { back = record { table = r.0.table; number = r.0.number; held = r.0.free }; client = r.0.client }, n.let_go);
            passes = λ j. r.0.pass j ∷ n.passes j;
            cause = record {
              want = n.cause.want;
              at = n.cause.at;
              old = n.cause.old;
              old_at = n.cause.old_at;
              new = n.cause.new;
              new_at = n.cause.new_at;
              cause = n.cause.cause;
              same = same_further x y xs ys i n.cause.same;
            };
            each = λ m takes. back_steps x.trace.taken y.trace.taken (taken_by xs) (taken_by ys) (taken_by (x ∷ xs)) (taken_by (y ∷ ys))
                (try_steps t.seats takes.0) takes.1 m i (sum_by-cons taken_of x xs) (sum_by-cons taken_of y ys) takes.4
                (n.each takes.1 takes.3) (r.0.bound takes.0 takes.2);
          }

      module _ (wants : List Want) (xs ys : List (SeatState P)) (free : AllFree xs) where
        -- after a refusal nothing is held
        pub free_told : (r : Result (Unit {0}) SetRefused) → IfErr r (λ e. IsRefusedAt t rested wants xs ys e.index e.why) → OnErr r (AllFree ys)
        free_told (Ok x) h = tt
        free_told (Err e) h = (refusal wants xs ys e.index e.why free h).free

        -- each seat let go what it had got
        pub let_go_told : (r : Result (Unit {0}) SetRefused) → IfErr r (λ e. IsRefusedAt t rested wants xs ys e.index e.why) → OnErr r (EachIs IsLetGo xs ys)
        let_go_told (Ok x) h = tt
        let_go_told (Err e) h = (refusal wants xs ys e.index e.why free h).let_go

        -- the passes before the refused place are rested
        pub passes_told : (r : Result (Unit {0}) SetRefused) → IfErr r (λ e. IsRefusedAt t rested wants xs ys e.index e.why)
            → IfErr r (λ e. map pass_in ys ≡ passes_after rested e.index xs)
        passes_told (Ok x) h = tt
        passes_told (Err e) h = (refusal wants xs ys e.index e.why free h).passes

        -- the refused want has its cause
        pub cause_told : (r : Result (Unit {0}) SetRefused) → IfErr r (λ e. IsRefusedAt t rested wants xs ys e.index e.why)
            → IfErr r (λ e. IsCauseAt xs ys wants e.index e.why)
        cause_told (Ok x) h = tt
        cause_told (Err e) h = (refusal wants xs ys e.index e.why free h).cause

        -- a refusal took the steps of the tries up to that of its want, and two for each range given back
        pub each_told : (r : Result (Unit {0}) SetRefused) → IfErr r (λ e. IsRefusedAt t rested wants xs ys e.index e.why)
            → IfErr r (λ e. (n : ℕ) → TriesTake t (take (e.index + 1) wants) n → taken_by ys ≤ taken_by xs + n + 2 * e.index)
        each_told (Ok x) h = tt
        each_told (Err e) h = λ n takes. let next : e.index + 1 ≡ suc e.index = omega arith in
            (refusal wants xs ys e.index e.why free h).each n (subst (λ k. TriesTake t (take k wants) n) next takes)

        -- with the steps of one list for each, where each range takes one
        pub bound_told : All (λ w. TakesAlone t.cut w.range) wants → (r : Result (Unit {0}) SetRefused) → IfErr r (λ e. IsRefusedAt t rested wants xs ys e.index
            e.why) → IfErr r (λ e. taken_by ys ≤ taken_by xs + (e.index + 1) * (64 + 386 * t.seats) + 2 * e.index)
        bound_told alone (Ok x) h = tt
        bound_told alone (Err e) h = let there = refused_there wants xs ys e.index e.why h in
            each_told (Err e) h ((e.index + 1) * (64 + 386 * t.seats)) (alone_first t (e.index + 1) wants (omega arith) alone)
