-- The steps that found a list not empty, call after call: what the record had of them it keeps, so what a part of a
-- call met the whole call met.
use Rattle.std.proofs.Common.{◌≡◌, ◌⊎◌, ℕ, ◌+◌, ◌<◌, ◌≤◌, Bool, true, false, Result, Ok, Err, List, [], ◌∷◌, ◌++◌, length, inl, inr, ⊎_elim}
use Rattle.std.proofs.Common.{refl, sym, ap, ◌∙◌, subst, arith}
use Rattle.std.specs.Prelude.{IfOk, OnOk, OnErr}
use Rattle.epoch_pools.specs.declared.record.Occupied.{Occupied}
use Rattle.epoch_pools.specs.declared.record.Record.{Record}
use Rattle.epoch_pools.specs.declared.views.SeatPart.{SeatPart}
use Rattle.epoch_pools.specs.declared.views.Beside.{Beside}
use Rattle.epoch_pools.specs.declared.views.Standing.{Standing}
use Rattle.epoch_pools.specs.Record.{occupied_at, KeepsOccupied}
use Rattle.epoch_pools.specs.Passing.{after_look_at}
use Rattle.epoch_pools.specs.Beside.{shown_core}
use Rattle.range_rw.specs.Contract.{HasOccupied, Meets, Finds}
use Rattle.range_rw.specs.Looks.{LooksOnce, MeetsMore}
use Rattle.range_rw.specs.Trying.{IsFast}

joined : (IsOne : Occupied → Type 0) (more l : List Occupied) → HasOccupied IsOne l → HasOccupied IsOne (more ++ l)
joined IsOne [] l x = x
joined IsOne (o ∷ more) l x = inr (joined IsOne more l x)

wider : (IsOne IsAny : Occupied → Type 0) → ((o : Occupied) → IsOne o → IsAny o) → (l : List Occupied) → HasOccupied IsOne l → HasOccupied IsAny l
wider IsOne IsAny wide [] x = x
wider IsOne IsAny wide (o ∷ l) x = ⊎_elim (λ a. inl (wide o a)) (λ b. inr (wider IsOne IsAny wide l b)) x

more_length : (more l : List Occupied) → length l ≤ length (more ++ l)
more_length [] l = omega arith
more_length (o ∷ more) l = let le = more_length more l in omega arith

-- what was met is met still
pub met_still : (first : ℕ) (a b : Record) → KeepsOccupied a b → Meets first a → Meets first b
met_still first a b kept x = subst (HasOccupied (λ o. first ≤ o.step)) (sym kept.1) (joined (λ o. first ≤ o.step) kept.0 a.occupied x)

pub found_still : (first list : ℕ) (a b : Record) → KeepsOccupied a b → Finds first list a → Finds first list b
found_still first list a b kept x = subst (HasOccupied (λ o. (first ≤ o.step) × (o.list ≡ list))) (sym kept.1)
    (joined (λ o. (first ≤ o.step) × (o.list ≡ list)) kept.0 a.occupied x)

-- what was met in a later part of the call was met in the call
pub met_before : {first later : ℕ} (t : Record) → first ≤ later → Meets later t → Meets first t
met_before {first} {later} t le x = wider (λ o. later ≤ o.step) (λ o. first ≤ o.step) (λ o from. omega arith) t.occupied x

pub found_before : {first later : ℕ} (list : ℕ) (t : Record) → first ≤ later → Finds later list t → Finds first list t
found_before {first} {later} list t le x = wider (λ o. (later ≤ o.step) × (o.list ≡ list)) (λ o. (first ≤ o.step) × (o.list ≡ list))
    (λ o h. ((let from = h.0 in omega arith), h.1)) t.occupied x

-- who finds a list not empty meets another
pub found_met : (first list : ℕ) (t : Record) → Finds first list t → Meets first t
found_met first list t x = wider (λ o. (first ≤ o.step) × (o.list ≡ list)) (λ o. first ≤ o.step) (λ o h. h.0) t.occupied x

-- the record has no fewer of them
pub no_fewer : (a b : Record) → KeepsOccupied a b → length a.occupied ≤ length b.occupied
no_fewer a b kept = subst (λ l. length a.occupied ≤ length l) (sym kept.1) (more_length kept.0 a.occupied)

-- a step keeps them, whether it found its list clear or not
pub seen_keeps : (t : Record) (at : ℕ) (b : Bool) → (more : List Occupied) × (occupied_at t at b ≡ more ++ t.occupied)
seen_keeps t at true = ([], refl)
seen_keeps t at false = (record { list = at; step = t.taken } ∷ [], refl)

-- what is so whatever a result is
pub ok_any : {A E X : Type 0} (r : Result A E) → X → OnOk r X
ok_any (Ok x) h = h
ok_any (Err e) h = tt

pub ok_each : {A E : Type 0} {F : A → Type 0} (r : Result A E) → ((a : A) → F a) → IfOk r F
ok_each (Ok x) h = h x
ok_each (Err e) h = tt

pub err_any : {A E X : Type 0} (r : Result A E) → X → OnErr r X
err_any (Ok x) h = tt
err_any (Err e) h = h

module _ {P : Type 0} where
  -- the fast path of a part behind a turn
  pub fast_from : {quick : Bool} (p t q : SeatPart P) → t.trace.taken ≡ p.trace.taken → IsFast t q quick → IsFast p q quick
  fast_from {quick} p t q same fast = subst (λ n. ((q.trace.taken ≡ n + 5) × (quick ≡ true)) ⊎ Meets n q.trace) same fast

  -- a look that found its list not empty
  pub look_met : (at : ℕ) {b : Bool} (s : Standing) (p : SeatPart (Beside P)) {q : SeatPart (Beside P)} → q ≡ after_look_at at b s p
      → b ≡ false → MeetsMore at p q
  look_met at {b} s p {q} is far =
      let now : q.trace.occupied ≡ record { list = at; step = p.trace.taken } ∷ p.trace.occupied = ap (λ (x : SeatPart (Beside P)). x.trace.occupied) is
      ∙ ap (occupied_at p.trace at) far in (
        subst (λ l. length p.trace.occupied < length l) (sym now) (omega arith),
        subst (HasOccupied (λ o. (p.trace.taken ≤ o.step) × (o.list ≡ at))) (sym now)
            (inl ((let le : p.trace.taken ≤ p.trace.taken = omega arith in le), refl)),
      )

  -- it is met still after more steps
  pub more_still : (at : ℕ) (p m q : SeatPart (Beside P)) → MeetsMore at p m → KeepsOccupied m.trace q.trace → MeetsMore at p q
  more_still at p m q x kept =
      ((let a = x.0 in let b = no_fewer m.trace q.trace kept in omega arith), found_still p.trace.taken at m.trace q.trace kept x.1)

  -- ---- each other list is as before, or was found not empty

  abbrev pub IsApart : ℕ → SeatPart (Beside P) → SeatPart (Beside P) → Type 0
  IsApart j p q = (shown_core q j ≡ shown_core p j) ⊎ Finds p.trace.taken j q.trace

  -- before and after a part that leaves the list
  pub apart_before : (j : ℕ) (p m q : SeatPart (Beside P)) → shown_core m j ≡ shown_core p j → p.trace.taken ≤ m.trace.taken → IsApart j m q → IsApart j p q
  apart_before j p m q same le x = ⊎_elim (λ e. inl (e ∙ same)) (λ f. inr (found_before j q.trace le f)) x

  pub apart_after : (j : ℕ) (p m q : SeatPart (Beside P)) → IsApart j p m → KeepsOccupied m.trace q.trace → shown_core q j ≡ shown_core m j → IsApart j p q
  apart_after j p m q x kept same = ⊎_elim (λ e. inl (same ∙ e)) (λ f. inr (found_still p.trace.taken j m.trace q.trace kept f)) x

  -- two parts
  pub apart_both : (j : ℕ) (p m q : SeatPart (Beside P)) → IsApart j p m → IsApart j m q → p.trace.taken ≤ m.trace.taken → KeepsOccupied m.trace q.trace
      → IsApart j p q
  apart_both j p m q x y le kept = ⊎_elim (λ e. apart_before j p m q e le y) (λ f. inr (found_still p.trace.taken j m.trace q.trace kept f)) x

  -- a look at a list
  pub once_apart : (at : ℕ) (p q : SeatPart (Beside P)) → LooksOnce at p q → IsApart at p q
  once_apart at p q x = ⊎_elim (λ e. inl e.1) (λ f. inr f) x

  -- ---- few steps, or another was met

  abbrev pub IsFew : ℕ → SeatPart (Beside P) → SeatPart (Beside P) → Type 0
  IsFew few p q = (q.trace.taken ≤ p.trace.taken + few) ⊎ Meets p.trace.taken q.trace

  pub few_both : (a b : ℕ) {c : ℕ} (p m q : SeatPart (Beside P)) → IsFew a p m → IsFew b m q → a + b ≤ c → p.trace.taken ≤ m.trace.taken
      → KeepsOccupied m.trace q.trace → IsFew c p q
  few_both a b p m q x y sum le kept = ⊎_elim (λ few. ⊎_elim (λ more. inl (omega arith)) (λ r. inr (met_before q.trace le r)) y)
      (λ r. inr (met_still p.trace.taken m.trace q.trace kept r)) x

  pub few_more : {a b : ℕ} (p q : SeatPart (Beside P)) → IsFew a p q → a ≤ b → IsFew b p q
  few_more p q x le = ⊎_elim (λ few. inl (omega arith)) (λ m. inr m) x

  pub once_few : (at : ℕ) (p q : SeatPart (Beside P)) → LooksOnce at p q → IsFew 1 p q
  once_few at p q x = ⊎_elim (λ e. inl (let t = e.0 in omega arith)) (λ f. inr (found_met p.trace.taken at q.trace f)) x

  -- ---- the same of a try, whose node the fast path linked

  abbrev pub IsFewBy : Bool → ℕ → SeatPart (Beside P) → SeatPart (Beside P) → Type 0
  IsFewBy quick few p q = ((q.trace.taken ≤ p.trace.taken + few) × (quick ≡ true)) ⊎ Meets p.trace.taken q.trace

  pub fast_few : {quick : Bool} (p q : SeatPart (Beside P)) → IsFast p q quick → IsFewBy quick 5 p q
  fast_few p q x = ⊎_elim (λ e. inl ((let n = e.0 in omega arith), e.1)) (λ m. inr m) x

  pub fast_more : {quick : Bool} {a b : ℕ} (p q : SeatPart (Beside P)) → IsFewBy quick a p q → a ≤ b → IsFewBy quick b p q
  fast_more p q x le = ⊎_elim (λ e. inl ((let n = e.0 in omega arith), e.1)) (λ m. inr m) x

  -- with the looks behind it
  pub fast_both : {quick : Bool} (a b : ℕ) {c : ℕ} (p m q : SeatPart (Beside P)) → IsFewBy quick a p m → IsFew b m q → a + b ≤ c
      → p.trace.taken ≤ m.trace.taken → KeepsOccupied m.trace q.trace → IsFewBy quick c p q
  fast_both a b p m q x y sum le kept = ⊎_elim
      (λ few. ⊎_elim (λ more. inl ((let n = few.0 in omega arith), few.1)) (λ r. inr (met_before q.trace le r)) y)
      (λ r. inr (met_still p.trace.taken m.trace q.trace kept r)) x
