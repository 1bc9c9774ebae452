-- What a seat may do by its range, what its pass is after, and what all seats have brought in.
use Rattle.std.proofs.Common.{◌≡◌, ℕ, zero, suc, ◌+◌, ◌*◌, ◌%◌, ◌^◌, ◌<◌, List, [], ◌∷◌, map, length, slice_index, sym, refl, ap, ◌∙◌, suc-mul, arith}
use Rattle.std.specs.Prelude.{Option, true, false}
use Rattle.std.proofs.Math.Nat.{mod-eq_of_lt}
use Rattle.std.proofs.lemmas.Bool.{false≢true}
use Rattle.std.proofs.lemmas.List.Sums.{sum_by-cons}
use mathlib.Core.Option.{some, some-injective}
use lib.ListN.{get_elem?}
use Rattle.atomic_table.specs.Seated.{TableId}
use Rattle.lock_core.specs.Grants.{Grants}
use Rattle.lock_core.specs.Client.{loads, stores, IsAllowed, IsMade}
use Rattle.lock_core.specs.declared.range.Held.{Held}
use Rattle.range_rw.specs.Contract.{SeatState, AreNewSeats, first_passes, pass_in}
use Rattle.range_rw.proofs.SeatLists.{at_firsts, new_passes}
use Rattle.test_lock.specs.declared.tally.Brought.{Brought}
use Rattle.test_lock.specs.Turnstile.{IsWriterIn}
use Rattle.test_lock.specs.Tally.{IsTallied, IsTallyStep, first_share, amount_of, total, has_read, has_written}
use Rattle.test_lock.specs.Turns.{HaveAdded}

module _ (seat : ℕ) (held : Option Held) (pass : Brought) where
  -- a seat that holds the word as a writer may read it
  pub may_read : IsWriterIn held → IsAllowed IsTallied IsTallyStep tt seat held pass (loads 0)
  may_read h grants words passes m there small = (has_read pass (slice_index words 0), (refl, (h.0, m.grant ∙ ap some h.1, h.2, h.3), (pass, m.own, refl)))

  -- a seat that holds it so, and has just read it, may store the next number
  pub may_write : (value : ℕ) → IsWriterIn held → pass.sure ≡ true → value ≡ (pass.seen + 1) % 2 ^ 64
      → IsAllowed IsTallied IsTallyStep tt seat held pass (stores 0 value)
  may_write value h sure next grants words passes m there small =
      (has_written pass value, (refl, m.exclusive, (h.0, m.grant ∙ ap some h.1, h.2, h.3), (pass, m.own, sure, next, refl)))

  -- after a read the pass knows the value that was found
  pub was_read : (found : ℕ) (after : Brought) → IsMade IsTallied IsTallyStep tt seat held pass (loads 0) found after → after ≡ has_read pass found
  was_read found after made =
      let m = made.3 in let here = made.4 in let step = made.5.2 in
      let same : step.0 ≡ pass = some-injective _ _ (sym step.1 ∙ m.own) in step.2 ∙ (λ i. has_read (same i) (here i))

  -- after a store the pass knows the value that was stored
  pub was_written : (value found : ℕ) (after : Brought)
      → IsMade IsTallied IsTallyStep tt seat held pass (stores 0 value) found after → after ≡ has_written pass value
  was_written value found after made =
      let m = made.3 in let step = made.5.3 in let same : step.0 ≡ pass = some-injective _ _ (sym step.1 ∙ m.own) in
      step.4 ∙ ap (λ (p : Brought). has_written p value) same

-- the seats behind the first begin with nothing
total_later : (words : List ℕ) (n k : ℕ) → total (first_passes (first_share words) (suc n) k) ≡ 0
total_later words n zero = refl
total_later words n (suc k) =
    let r = total_later words (suc n) k in
    let s = sum_by-cons amount_of (first_share words (suc n)) (first_passes (first_share words) (suc (suc n)) k) in omega arith

total_first : (word seats : ℕ) → 0 < seats → total (first_passes (first_share (word ∷ [])) 0 seats) ≡ word
total_first word zero more = absurd (omega arith)
total_first word (suc k) more =
    let r = total_later (word ∷ []) 0 k in let s = sum_by-cons amount_of (first_share (word ∷ []) 0) (first_passes (first_share (word ∷ [])) 1 k) in omega arith

-- the rule holds at the opening
pub tally_begins : (word seats : ℕ) (grants : Grants) → 0 < seats → word < 2 ^ 64
    → IsTallied grants (word ∷ []) (first_passes (first_share (word ∷ [])) 0 seats)
tally_begins word seats grants more small = record {
  there = omega arith;
  count = sym (ap (λ n. n % 2 ^ 64) (total_first word seats more) ∙ mod-eq_of_lt small);
  sure = λ n p at yes. let m = at_firsts (first_share (word ∷ [])) 0 seats n p at in absurd (false≢true (sym (ap (λ (v : Brought). v.sure) m.1) ∙ yes));
}

-- what seats bring in once each has added so many times
total_added : (n : ℕ) (old new : List (SeatState Brought)) → length new ≡ length old → HaveAdded n old new
    → total (map pass_in new) ≡ total (map pass_in old) + length old * n
total_added n [] [] same all = omega arith
total_added n [] (y ∷ ys) same all = absurd (omega arith)
total_added n (x ∷ xs) [] same all = absurd (omega arith)
total_added n (x ∷ xs) (y ∷ ys) same all =
    let h : y.pass.amount ≡ x.pass.amount + n = all 0 x y refl refl in
    let r = total_added n xs ys (omega arith) (λ k a b at_a at_b. all (suc k) a b at_a at_b) in
    let s = sum_by-cons amount_of y.pass (map pass_in ys) in let t = sum_by-cons amount_of x.pass (map pass_in xs) in
    let m = suc-mul (length xs) n in omega arith

-- what the word is at the closing
pub tally_left : (table : TableId) (word n : ℕ) (old new : List (SeatState Brought)) (grants : Grants) (words : List ℕ)
    → 0 < length old → length new ≡ length old
    → AreNewSeats table (first_share (word ∷ [])) old → HaveAdded n old new → IsTallied grants words (map pass_in new)
    → slice_index words 0 ≡ (word + length old * n) % 2 ^ 64
tally_left table word n old new grants words more same begun added tallied =
    let passes : map pass_in old ≡ first_passes (first_share (word ∷ [])) 0 (length old) = new_passes table (first_share (word ∷ [])) old begun in
    let first : total (map pass_in old) ≡ word = ap total passes ∙ total_first word (length old) more in
    tallied.count ∙ ap (λ (m : ℕ). m % 2 ^ 64) (total_added n old new same added ∙ ap (λ (m : ℕ). m + length old * n) first)
