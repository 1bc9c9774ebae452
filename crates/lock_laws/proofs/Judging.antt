-- What the compare rule gives for the order.
-- A node that a walk goes past stands before the walker's own node, and the node that it stops before stands behind it.
use Rattle.std.proofs.Common.{◌≡◌, ◌⊎◌, ℕ, ◌/◌, ◌%◌, ◌<◌, ◌≤◌, ◌&&◌, nat_lt, nat_le, Bool, true, false, inl, inr, ⊎_elim, refl, sym, ap, ◌∙◌, arith, leb-true}
use Rattle.std.specs.Prelude.{if◌then◌else◌, ◌==◌}
use Rattle.std.proofs.lemmas.Bool.{ltb-true, eqb-false}
use Rattle.lock_core.specs.declared.range.Mode.{Mode}
use Rattle.lock_core.specs.declared.range.Mode.TheVariants.{Reader, Writer}
use Rattle.lock_core.specs.declared.compare.Verdict.{Verdict}
use Rattle.lock_core.specs.declared.compare.Verdict.TheVariants.{Past, Stop, Conflict}
use Rattle.lock_core.specs.Words.{Heap, mode_of, hi_word}
use Rattle.lock_core.specs.Compare.{is_reader, compared}
use Rattle.lock_laws.specs.Invariant.{IsBefore}

-- of three tests that all hold each holds
pub all_three : (a b c : Bool) → (a && b && c) ≡ true → (a ≡ true) × (b ≡ true) × (c ≡ true)
all_three true true true e = (refl, refl, refl)
all_three _ _ _ e = absurd (cc)

abbrev judged : Bool → Bool → Bool → Bool → Verdict
judged a b c d = if a then Past else if b then Past else if c then Stop else if d then Stop else Conflict

judged_past : (a b c d : Bool) → judged a b c d ≡ Past → (a ≡ true) ⊎ (b ≡ true)
judged_past true b c d e = inl refl
judged_past false true c d e = inr refl
judged_past false false true d e = absurd (cc)
judged_past false false false true e = absurd (cc)
judged_past false false false false e = absurd (cc)

judged_stop : (a b c d : Bool) → judged a b c d ≡ Stop → (c ≡ true) ⊎ (d ≡ true)
judged_stop false false true d e = inl refl
judged_stop false false false true e = inr refl
judged_stop _ _ _ _ e = absurd (cc)

reader_is : (m : Mode) → is_reader m ≡ true → m ≡ Reader
reader_is Reader e = refl
reader_is Writer e = absurd (cc)

reader_even : (w : ℕ) (b : Bool) → (w % 2 == 1) ≡ b → is_reader (if b then Writer else Reader) ≡ true → w % 2 ≡ 0
reader_even w true e r = absurd (cc)
reader_even w false e r = let d = eqb-false (w % 2) 1 e in omega arith

-- a node that is gone past ends by the walker's start, or both are readers and it starts earlier
pub past_means : (m : Mode) (lo hi node_lo w : ℕ) → compared m lo hi node_lo w ≡ Past → (w / 2 ≤ lo) ⊎ ((m ≡ Reader) × (w % 2 ≡ 0) × (node_lo < lo))
past_means m lo hi node_lo w e =
    ⊎_elim
    (λ (a : nat_le (w / 2) lo ≡ true). inl (leb-true (w / 2) lo a))
    (λ (b : (is_reader m && is_reader (mode_of w) && nat_lt node_lo lo) ≡ true).
    let t = all_three _ _ _ b in inr (reader_is m t.0, reader_even w (w % 2 == 1) refl t.1, ltb-true node_lo lo t.2))
    (judged_past (nat_le (w / 2) lo) (is_reader m && is_reader (mode_of w) && nat_lt node_lo lo) (nat_le hi node_lo)
    (is_reader m && is_reader (mode_of w) && nat_le lo node_lo) e)

-- a node that is stopped before starts at the walker's end or later, or both are readers and it starts no earlier
pub stop_means : (m : Mode) (lo hi node_lo w : ℕ) → compared m lo hi node_lo w ≡ Stop → (hi ≤ node_lo) ⊎ ((m ≡ Reader) × (w % 2 ≡ 0) × (lo ≤ node_lo))
stop_means m lo hi node_lo w e =
    ⊎_elim
    (λ (a : nat_le hi node_lo ≡ true). inl (leb-true hi node_lo a))
    (λ (b : (is_reader m && is_reader (mode_of w) && nat_le lo node_lo) ≡ true).
    let t = all_three _ _ _ b in inr (reader_is m t.0, reader_even w (w % 2 == 1) refl t.1, leb-true lo node_lo t.2))
    (judged_stop (nat_le (w / 2) lo) (is_reader m && is_reader (mode_of w) && nat_lt node_lo lo) (nat_le hi node_lo)
    (is_reader m && is_reader (mode_of w) && nat_le lo node_lo) e)

-- a hi word tells its end and its mode
pub hi_is : (hi : ℕ) (m : Mode) → hi_word hi m / 2 ≡ hi
hi_is hi Reader = omega arith
hi_is hi Writer = omega arith

-- the hi word of a writer is odd
pub writer_odd : (hi : ℕ) (m : Mode) → m ≡ Writer → hi_word hi m % 2 ≡ 1
writer_odd hi Reader e = absurd (cc)
writer_odd hi Writer e = omega arith

-- the hi word of a reader is even
pub reader_low : (hi : ℕ) (m : Mode) → m ≡ Reader → hi_word hi m % 2 ≡ 0
reader_low hi Reader e = omega arith
reader_low hi Writer e = absurd (cc)

-- a node that is gone past stands in order before the walker's own
pub past_before : (h : Heap) (x o lo hi : ℕ) (m : Mode) → compared m lo hi (h.lo x) (h.hi x) ≡ Past → h.lo o ≡ lo → h.lo x < h.hi x / 2 → IsBefore h x o
past_before h x o lo hi m past e r =
    ⊎_elim
    (λ (a : h.hi x / 2 ≤ lo). record { starts = omega arith; clear = λ w. omega arith })
    (λ (b : (m ≡ Reader) × (h.hi x % 2 ≡ 0) × (h.lo x < lo)). let c = b.1 in let d = b.2 in record { starts = omega arith; clear = λ w. absurd (omega arith) })
    (past_means m lo hi (h.lo x) (h.hi x) past)

-- the walker's own node stands in order before the one that it stops before
pub stop_before : (h : Heap) (o y lo hi : ℕ) (m : Mode) → compared m lo hi (h.lo y) (h.hi y) ≡ Stop → h.lo o ≡ lo
    → h.hi o ≡ hi_word hi m → lo < hi → IsBefore h o y
stop_before h o y lo hi m stop e e' r =
    let half : h.hi o / 2 ≡ hi = ap (λ w. w / 2) e' ∙ hi_is hi m in
    ⊎_elim
    (λ (a : hi ≤ h.lo y). record { starts = omega arith; clear = λ _. omega arith })
    (λ (b : (m ≡ Reader) × (h.hi y % 2 ≡ 0) × (lo ≤ h.lo y)).
    let d = b.2 in let even : h.hi o % 2 ≡ 0 = ap (λ w. w % 2) e' ∙ reader_low hi m b.0 in record { starts = omega arith; clear = λ w. absurd (omega arith) })
    (stop_means m lo hi (h.lo y) (h.hi y) stop)

-- the order speaks of lo and hi alone
module _ (h now : Heap) (lo_is : (n : ℕ) → now.lo n ≡ h.lo n) (hi_same : (n : ℕ) → now.hi n ≡ h.hi n) where
  -- two nodes in order stay so where no lo or hi word changes
  pub before_same : (x y : ℕ) → IsBefore h x y → IsBefore now x y
  before_same x y b = record {
    starts = omega (arith, lo_is x, lo_is y, b.starts);
    clear = λ w. omega (arith, lo_is y, hi_same x, b.clear (sym (ap (λ k. k % 2) (hi_same x)) ∙ w));
  }

  -- the verdict of the compare rule stays too
  pub compared_same : (m : Mode) (lo hi x : ℕ) (verdict : Verdict) → compared m lo hi (h.lo x) (h.hi x) ≡ verdict
      → compared m lo hi (now.lo x) (now.hi x) ≡ verdict
  compared_same m lo hi x verdict e = (λ z. compared m lo hi (lo_is x z) (hi_same x z)) ∙ e

-- of three nodes in a row, each in order before the next, the first is in order before the last
pub before_on : (h : Heap) (x y z : ℕ) → IsBefore h x y → IsBefore h y z → IsBefore h x z
before_on h x y z a b = record { starts = omega (arith, a.starts, b.starts); clear = λ w. omega (arith, a.clear w, b.starts) }
