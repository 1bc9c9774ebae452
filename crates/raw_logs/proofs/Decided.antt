-- What a test decides holds where it is true, and fails where it is false.
use Rattle.std.proofs.Common.{◌≡◌, Bool, true, false, refl}
use Rattle.std.specs.Bool.{Decides}

true_false : (b : Bool) → b ≡ true → b ≡ false → ⊥
true_false b e f = absurd cc

-- where the test is true it holds
pub is_so : {P : Type 0} (b : Bool) → Decides b P → b ≡ true → P
is_so b d e = d.0 e

-- where the test is false it doesn't
pub is_not : {P : Type 0} (b : Bool) → Decides b P → b ≡ false → ¬ P
is_not b d e = λ p. true_false b (d.1 p) e

-- a test that says the contrary decides the contrary
pub decides_false : {P : Type 0} → (¬ P) → Decides false P
decides_false never = ((λ e. absurd (true_false false e refl)), (λ p. absurd (never p)))

-- a fact is decided by a test that is true
pub decides_true : {P : Type 0} → P → Decides true P
decides_true p = ((λ e. p), (λ q. refl))
