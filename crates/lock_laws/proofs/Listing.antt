-- The held ranges as a list of grants: what stands in it is what its seat holds, and seats rise along it.
use Rattle.std.proofs.Common.{◌≡◌, ◌≢◌, ℕ, zero, suc, ◌+◌, ◌<◌, List, [], ◌∷◌, Some, None, sym, ap, ◌∙◌, arith}
use Rattle.std.specs.Prelude.{Option}
use mathlib.Core.Option.{some, some-injective, some-ne-none}
use mathlib.Core.Logic.{dite}
use native.Mathlib.Decide.{dec_le}
use lib.ListN.{get_elem?}
use Rattle.lock_core.specs.Grants.{held_of, IsExclusive, AreExclusive}
use Rattle.lock_core.specs.declared.range.Held.{Held}
use Rattle.lock_core.specs.declared.range.Grant.{Grant}
use Rattle.lock_core.specs.Machine.{grants_from}

-- a grant of the list is held by its seat
granted : (os : List (Option Held)) (s i : ℕ) (a : Grant) → get_elem? (grants_from s os) i ≡ some a
    → (k : ℕ) × (a.seat ≡ s + k) × (get_elem? os k ≡ some (Some (held_of a)))
granted [] s i a e = absurd (some-ne-none a (sym e))
granted (None ∷ os) s i a e = let r = granted os (s + 1) i a e in let n = r.1 in (suc r.0, omega arith, r.2)
granted (Some h ∷ os) s zero a e =
    let is : record { seat = s; range = h.range; mode = h.mode } ≡ a = some-injective _ _ e in
    let z : s ≡ s + 0 = omega arith in
    (0, sym (ap (λ (g : Grant). g.seat) is) ∙ z, ap (λ (g : Grant). some (Some (held_of g))) is)
granted (Some h ∷ os) s (suc i) a e = let r = granted os (s + 1) i a e in let n = r.1 in (suc r.0, omega arith, r.2)

-- of two places the later has the higher seat
rising : (os : List (Option Held)) (s i j : ℕ) (a b : Grant) → i < j → get_elem? (grants_from s os) i ≡ some a
    → get_elem? (grants_from s os) j ≡ some b → a.seat < b.seat
rising [] s i j a b lt e f = absurd (some-ne-none a (sym e))
rising (None ∷ os) s i j a b lt e f = rising os (s + 1) i j a b lt e f
rising (Some h ∷ os) s i zero a b lt e f = absurd (omega arith)
rising (Some h ∷ os) s zero (suc j) a b lt e f =
    let is : record { seat = s; range = h.range; mode = h.mode } ≡ a = some-injective _ _ e in
    let here : s ≡ a.seat = ap (λ (g : Grant). g.seat) is in
    let n = (granted os (s + 1) j b f).1 in omega arith
rising (Some h ∷ os) s (suc i) (suc j) a b lt e f = rising os (s + 1) i j a b (omega arith) e f

-- grants by seat that exclude each other do so as a list, in which no seat stands twice
pub listed_apart : (os : List (Option Held)) → IsExclusive os → AreExclusive (grants_from 0 os)
listed_apart os exclusive i j a b differ e f =
    let g = granted os 0 i a e in let h = granted os 0 j b f in
    let apart : a.seat ≢ b.seat = λ same. dite (dec_le (suc i) j)
    (λ le. let lt = rising os 0 i j a b le e f in omega arith)
    (λ no. dite (dec_le (suc j) i)
    (λ le. let lt = rising os 0 j i b a le f e in omega arith)
    (λ neither. differ (omega arith))) in
    let p = g.1 in let q = h.1 in
    (apart, exclusive g.0 h.0 (held_of a) (held_of b) (λ k. apart (omega arith)) g.2 h.2)
