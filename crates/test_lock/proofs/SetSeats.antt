-- The seats of a new table as the tests take them: in sets of four, also in the other order, and back together.
use Rattle.std.proofs.Common.{◌≡◌, ℕ, zero, suc, ◌<◌, List, [], ◌∷◌, ◌++◌, append_assoc, get_or, inl, inr, length, refl, sym, ap, subst, ◌∙◌, arith}
use Rattle.std.specs.Prelude.{remove, None}
use mathlib.Core.Option.{some, some-injective, some-ne-none}
use lib.ListN.{get_elem?}
use Rattle.atomic_table.specs.Seated.{TableId}
use Rattle.range_rw.specs.Contract.{SeatState, AreIdleSeats, AreNewSeats, IsGivenBack, IsLockCall}
use Rattle.range_sets.specs.Sets.{AllFree, EachIs, IsLetGo, IsReleasedIfHeld, SetView}

-- four seats that hold nothing do so in the other order too
pub turned_free : {P : Type 0} (a b c d : SeatState P) → AllFree (a ∷ b ∷ c ∷ d ∷ []) → AllFree (d ∷ c ∷ b ∷ a ∷ [])
turned_free a b c d free zero e lt = free 3 e (omega arith)
turned_free a b c d free (suc zero) e lt = free 2 e (omega arith)
turned_free a b c d free (suc (suc zero)) e lt = free 1 e (omega arith)
turned_free a b c d free (suc (suc (suc zero))) e lt = free 0 e (omega arith)
turned_free a b c d free (suc (suc (suc (suc k)))) e lt = absurd (omega arith)

-- four seats hold nothing where each of them does
pub free_four : {P : Type 0} (a b c d : SeatState P) → a.held ≡ None → b.held ≡ None → c.held ≡ None → d.held ≡ None → AllFree (a ∷ b ∷ c ∷ d ∷ [])
free_four a b c d w x y z zero e lt = w
free_four a b c d w x y z (suc zero) e lt = x
free_four a b c d w x y z (suc (suc zero)) e lt = y
free_four a b c d w x y z (suc (suc (suc zero))) e lt = z
free_four a b c d w x y z (suc (suc (suc (suc k)))) e lt = absurd (omega arith)

module _ {P : Type 0} where
  at_append : (xs ys : List (SeatState P)) (k : ℕ) (s : SeatState P) → get_elem? xs k ≡ some s → get_elem? (xs ++ ys) k ≡ some s
  at_append [] ys k s at = absurd (some-ne-none s (sym at))
  at_append (x ∷ xs) ys zero s at = at
  at_append (x ∷ xs) ys (suc k) s at = at_append xs ys k s at

  -- the seats of two sets that were taken from a new table one behind the other stand in order, and hold nothing
  pub both_idle : (table : TableId) (first : ℕ → P) (all ps rest qs left : List (SeatState P)) → AreNewSeats table first all
      → all ≡ ps ++ rest → rest ≡ qs ++ left → AreIdleSeats table (ps ++ qs)
  both_idle table first all ps rest qs left new e f k s at =
      let whole : all ≡ (ps ++ qs) ++ left = e ∙ (ap (λ l. ps ++ l) f ∙ sym (append_assoc ps qs left)) in
      let is = new k s (ap (λ l. get_elem? l k) whole ∙ at_append (ps ++ qs) left k s at) in (ap (λ x. x.table) is, ap (λ x. x.number) is, ap (λ x. x.held) is)

  each_at : (R : SeatState P → SeatState P → Type 0) (xs ys : List (SeatState P)) → EachIs R xs ys → (k : ℕ) (t : SeatState P)
      → get_elem? ys k ≡ some t → (s : SeatState P) × (get_elem? xs k ≡ some s) × R s t
  each_at R [] [] each k t at = absurd (some-ne-none t (sym at))
  each_at R [] (y ∷ ys) each k t at = absurd each
  each_at R (x ∷ xs) [] each k t at = absurd each
  each_at R (x ∷ xs) (y ∷ ys) each zero t at = (x, refl, subst (R x) (some-injective y t at) each.0)
  each_at R (x ∷ xs) (y ∷ ys) each (suc k) t at = each_at R xs ys each.1 k t at

  each_append : (R : SeatState P → SeatState P → Type 0) (xs ys zs ws : List (SeatState P)) → EachIs R xs ys → EachIs R zs ws → EachIs R (xs ++ zs) (ys ++ ws)
  each_append R [] [] zs ws one other = other
  each_append R [] (y ∷ ys) zs ws one other = absurd one
  each_append R (x ∷ xs) [] zs ws one other = absurd one
  each_append R (x ∷ xs) (y ∷ ys) zs ws one other = (one.0, each_append R xs ys zs ws one.1 other)

  -- seats of two sets that were idle are idle again, where each is given back
  pub idle_again : (table : TableId) (xs ys zs ws : List (SeatState P)) → AreIdleSeats table (xs ++ zs) → EachIs IsGivenBack xs ys
      → EachIs IsGivenBack zs ws → AreIdleSeats table (ys ++ ws)
  idle_again table xs ys zs ws idle one other k t at =
      let e = each_at IsGivenBack (xs ++ zs) (ys ++ ws) (each_append IsGivenBack xs ys zs ws one other) k t at in
      let was = idle k e.0 e.1 in (e.2.table ∙ was.0, e.2.number ∙ was.1, e.2.held)

  -- the seats of two sets are those that the sets give back
  pub both_given : (table : TableId) (xs ys ps qs : List (SeatState P)) → ps ≡ xs → qs ≡ ys → AreIdleSeats table (xs ++ ys) → AreIdleSeats table (ps ++ qs)
  both_given table xs ys ps qs e f = subst (AreIdleSeats table) (sym (λ i. e i ++ f i))

  -- each seat of a set that let go what it had got is given back
  pub let_go_back : (xs ys : List (SeatState P)) → EachIs IsLetGo xs ys → EachIs IsGivenBack xs ys
  let_go_back [] [] each = tt
  let_go_back [] (y ∷ ys) each = absurd each
  let_go_back (x ∷ xs) [] each = absurd each
  let_go_back (x ∷ xs) (y ∷ ys) each = (each.0.back, let_go_back xs ys each.1)

  release_back : (rested : P → P) (x y z : SeatState P) → IsLockCall x y → IsReleasedIfHeld rested y z → IsGivenBack x z
  release_back rested x y z call (inl r) = let back = r.1 in record { table = back.table ∙ call.table; number = back.number ∙ call.number; held = back.held }
  release_back rested x y z call (inr r) =
      record { table = ap (λ s. s.table) r.1 ∙ call.table; number = ap (λ s. s.number) r.1 ∙ call.number; held = ap (λ s. s.held) r.1 ∙ r.0 }

  -- each seat of a set that was granted and released is given back
  pub held_and_back : (rested : P → P) (xs ys zs : List (SeatState P)) → EachIs IsLockCall xs ys → EachIs (IsReleasedIfHeld rested) ys zs
      → EachIs IsGivenBack xs zs
  held_and_back rested [] [] [] call back = tt
  held_and_back rested [] [] (z ∷ zs) call back = absurd back
  held_and_back rested [] (y ∷ ys) zs call back = absurd call
  held_and_back rested (x ∷ xs) [] zs call back = absurd call
  held_and_back rested (x ∷ xs) (y ∷ ys) [] call back = absurd back
  held_and_back rested (x ∷ xs) (y ∷ ys) (z ∷ zs) call back = (release_back rested x y z call.0 back.0, held_and_back rested xs ys zs call.1 back.1)
