-- The turns of a sleep, one after another.
use Rattle.std.proofs.Common.{◌≡◌, ◌≢◌, ℕ, ◌+◌, List, [], ◌∷◌, ◌++◌, replicate, Some}
use Rattle.std.proofs.Common.{sym, ap, ◌∙◌, arith, append-nil, append_assoc}
use Rattle.std.proofs.lemmas.List.{replicate_more}
use Rattle.std.specs.declared.time.Instant.{Instant}
use Rattle.event_count.specs.declared.records.EventStep.{EventStep}
use Rattle.event_count.specs.declared.records.EventStep.TheVariants.{Read}
use Rattle.event_count.specs.declared.sleeping.Slept.{Slept}
use Rattle.event_count.specs.declared.sleeping.Slept.TheVariants.{Advanced, Late, NoClock}
use Rattle.event_count.specs.Sleeping.{IsAsleep, Dozes, DozesInVain, DozesUntil, Turns}

-- the turns so far
abbrev pub HasTurned : ℕ → List EventStep → List EventStep → Type 0
HasTurned seen before after = (turns : ℕ) × IsAsleep seen turns before after

-- none yet
pub no_turn : (seen : ℕ) (before : List EventStep) → HasTurned seen before before
no_turn seen before = (0, sym (append-nil before))

-- one more turn
longer : (seen turns : ℕ) (before : List EventStep) {mid after : List EventStep} → IsAsleep seen turns before mid → after ≡ mid ++ Read seen ∷ []
    → IsAsleep seen (turns + 1) before after
longer seen turns before {mid} {after} is more =
    more ∙ (ap (λ l. l ++ Read seen ∷ []) is ∙ (append_assoc before (replicate turns (Read seen)) (Read seen ∷ [])
    ∙ ap (λ l. before ++ l) (replicate_more turns (Read seen))))

pub one_turn : (seen found : ℕ) (before mid after : List EventStep) → HasTurned seen before mid → after ≡ mid ++ Read found ∷ [] → found ≡ seen
    → HasTurned seen before after
one_turn seen found before mid after turned more same =
    (turned.0 + 1, longer seen turned.0 before turned.1 (more ∙ ap (λ n. mid ++ Read n ∷ []) same))

-- the last load found another number
pub dozed : (seen found : ℕ) (before mid after : List EventStep) → HasTurned seen before mid → after ≡ mid ++ Read found ∷ [] → found ≢ seen
    → Dozes seen before found after
dozed seen found before mid after turned more other = (mid, turned.0, turned.1, other, more)

in_vain : (seen : ℕ) (before mid after : List EventStep) → HasTurned seen before mid → after ≡ mid ++ Read seen ∷ [] → DozesInVain seen before after
in_vain seen before mid after turned more = (turned.0 + 1, omega arith, longer seen turned.0 before turned.1 more)

-- the last turn, with a deadline
pub dozed_until : (seen : ℕ) (deadline : Instant) (before mid after : List EventStep) (how : Slept) → HasTurned seen before mid
    → Turns seen deadline mid (Some how) after → DozesUntil seen deadline before how after
dozed_until seen deadline before mid after (Advanced found) turned t = dozed seen found before mid after turned t.1 t.0
dozed_until seen deadline before mid after (Late now) turned t = (t.0, in_vain seen before mid after turned t.1)
dozed_until seen deadline before mid after NoClock turned t = in_vain seen before mid after turned t
