-- A node is judged to be in conflict exactly where the grants conflict: while the own node is filled, in a reader's
-- validation and in a writer's.
use Rattle.std.proofs.Common.{◌≡◌, ◌⊎◌, ℕ, ◌/◌, ◌<◌, ◌&&◌, nat_lt, nat_le, Bool, true, false, inl, inr, ⊎_elim, refl, ap, ◌∙◌, arith}
use Rattle.std.specs.Prelude.{if◌then◌else◌}
use Rattle.std.proofs.lemmas.Bool.{ltb-true, ltb-false, leb-false, lt-ltb, lt-leb}
use Rattle.lock_core.specs.declared.range.Mode.{Mode}
use Rattle.lock_core.specs.declared.range.Mode.TheVariants.{Reader, Writer}
use Rattle.lock_core.specs.declared.range.Held.{Held}
use Rattle.lock_core.specs.declared.compare.Verdict.TheVariants.{Past, Stop, Conflict}
use Rattle.lock_core.specs.Words.{mode_of}
use Rattle.lock_core.specs.Grants.{Conflicts}
use Rattle.lock_core.specs.Compare.{is_reader}
use Rattle.lock_core.specs.Laws.{JudgesByConflict}

abbrev held : ℕ → ℕ → Mode → Held
held lo hi mode = record { range = record { lo = lo; hi = hi }; mode = mode }

conflict_is : (m n : Mode) (lo hi node_lo e : ℕ) (a b c d : Bool) → nat_le e lo ≡ a → nat_lt node_lo lo ≡ b → nat_le hi node_lo ≡ c → nat_le lo node_lo ≡ d →
    (if a then Past else if is_reader m && is_reader n && b then Past else if c then Stop
    else if is_reader m && is_reader n && d then Stop else Conflict) ≡ Conflict → Conflicts (held lo hi m) (held node_lo e n)
conflict_is Reader Reader lo hi node_lo e false false false false ea eb ec ed q = absurd (omega (arith, ltb-false _ _ eb, leb-false _ _ ed))
conflict_is Writer n lo hi node_lo e false b false d ea eb ec ed q = ((omega (arith, leb-false _ _ ea), omega (arith, leb-false _ _ ec)), inl refl)
conflict_is Reader Writer lo hi node_lo e false b false d ea eb ec ed q = ((omega (arith, leb-false _ _ ea), omega (arith, leb-false _ _ ec)), inr refl)
conflict_is _ _ lo hi node_lo e _ _ _ _ ea eb ec ed q = absurd (cc)

is_conflict : (m n : Mode) (lo hi node_lo e : ℕ) (b d : Bool) → lo < e → node_lo < hi → (m ≡ Writer) ⊎ (n ≡ Writer) →
    (if nat_le e lo then Past else if is_reader m && is_reader n && b then Past else if nat_le hi node_lo then Stop
    else if is_reader m && is_reader n && d then Stop else Conflict) ≡ Conflict
is_conflict Reader Reader lo hi node_lo e b d low high w = absurd (⊎_elim (λ (q : Reader ≡ Writer). cc) (λ (q : Reader ≡ Writer). cc) w)
is_conflict Writer n lo hi node_lo e b d low high w =
    ap (λ a. if a then Past else if nat_le hi node_lo then Stop else Conflict) (lt-leb e lo low)
    ∙ ap (λ c. if c then Stop else Conflict) (lt-leb hi node_lo high)
is_conflict Reader Writer lo hi node_lo e b d low high w =
    ap (λ a. if a then Past else if nat_le hi node_lo then Stop else Conflict) (lt-leb e lo low)
    ∙ ap (λ c. if c then Stop else Conflict) (lt-leb hi node_lo high)

forward_is : (n : Mode) (lo hi node_lo e : ℕ) (a b : Bool) → nat_le hi node_lo ≡ a → nat_lt lo e ≡ b
    → (if a then Stop else if is_reader n then Past else if b then Conflict else Past) ≡ Conflict
    → Conflicts (held lo hi Reader) (held node_lo e n)
forward_is Reader lo hi node_lo e false b ea eb q = absurd (cc)
forward_is Writer lo hi node_lo e false true ea eb q = ((ltb-true _ _ eb, omega (arith, leb-false _ _ ea)), inr refl)
forward_is _ lo hi node_lo e _ _ ea eb q = absurd (cc)

is_forward : (n : Mode) (lo hi node_lo e : ℕ) → lo < e → node_lo < hi → (Reader ≡ Writer) ⊎ (n ≡ Writer)
    → (if nat_le hi node_lo then Stop else if is_reader n then Past else if nat_lt lo e then Conflict else Past) ≡ Conflict
is_forward Reader lo hi node_lo e low high w = absurd (⊎_elim (λ (q : Reader ≡ Writer). cc) (λ (q : Reader ≡ Writer). cc) w)
is_forward Writer lo hi node_lo e low high w =
    ap (λ a. if a then Stop else if nat_lt lo e then Conflict else Past) (lt-leb hi node_lo high)
    ∙ ap (λ b. if b then Conflict else Past) (lt-ltb lo e low)

from_head_is : (n : Mode) (lo hi node_lo e : ℕ) (a b : Bool) → nat_lt lo e ≡ a → nat_lt node_lo hi ≡ b
    → (if a && b then Conflict else Past) ≡ Conflict → Conflicts (held lo hi Writer) (held node_lo e n)
from_head_is n lo hi node_lo e true true ea eb q = ((ltb-true _ _ ea, ltb-true _ _ eb), inl refl)
from_head_is n lo hi node_lo e _ _ ea eb q = absurd (cc)

is_from_head : (lo hi node_lo e : ℕ) → lo < e → node_lo < hi → (if nat_lt lo e && nat_lt node_lo hi then Conflict else Past) ≡ Conflict
is_from_head lo hi node_lo e low high = ap (λ a. if a && nat_lt node_lo hi then Conflict else Past) (lt-ltb lo e low)
    ∙ ap (λ b. if b then Conflict else Past) (lt-ltb node_lo hi high)

-- for all three ways to judge, the verdict is a conflict exactly where the two grants conflict
pub judges_by_conflict_law : JudgesByConflict
judges_by_conflict_law = record {
  filling = λ node lo hi mode aimed node_lo w. (
    (λ q. conflict_is mode (mode_of w) lo hi node_lo (w / 2) (nat_le (w / 2) lo) (nat_lt node_lo lo) (nat_le hi node_lo)
        (nat_le lo node_lo) refl refl refl refl q),
    (λ c. is_conflict mode (mode_of w) lo hi node_lo (w / 2) (nat_lt node_lo lo) (nat_le lo node_lo) c.0.0 c.0.1 c.1),
  );
  reader = λ node range mode node_lo w. (
    (λ q. forward_is (mode_of w) range.lo range.hi node_lo (w / 2) (nat_le range.hi node_lo) (nat_lt range.lo (w / 2)) refl refl q),
    (λ c. is_forward (mode_of w) range.lo range.hi node_lo (w / 2) c.0.0 c.0.1 c.1),
  );
  writer = λ node range mode node_lo w. (
    (λ q. from_head_is (mode_of w) range.lo range.hi node_lo (w / 2) (nat_lt range.lo (w / 2)) (nat_lt node_lo range.hi) refl refl q),
    (λ c. is_from_head range.lo range.hi node_lo (w / 2) c.0.0 c.0.1),
  );
}
