use Rattle.std.proofs.Common.{ℕ, List, inl, inr}
use Rattle.strace_reader.specs.Grammar.{IsBracketed, IsPrefixed}
use Rattle.strace_reader.proofs.FormFacts.{space_no_digit, either_way}
use Rattle.strace_reader.proofs.forms.prefix.Goals as goal

-- a space isn't empty and is no digit
pub pid_then-requires : goal.pid_then-requires
pid_then-requires c = (space_no_digit, λ e. cc)

-- where no number and space stand, a number in brackets is the prefix, and else there is none
pub returns-in-None : goal.returns-in-None
returns-in-None c =
    let text = c.args.text.now in
    either_way c.bracketed.result ((pid : ℕ) → (rest : List ℕ) → IsBracketed text pid rest → ⊥) ((pid : ℕ) → (rest : List ℕ) → IsPrefixed text pid rest → ⊥)
    (λ x. IsBracketed text x.0 x.1.now) (λ x. IsPrefixed text x.0 x.1.now)
    (λ none pid rest h. elim h [ inl a ↦ c.in-None.ensures pid rest a | inr a ↦ none pid rest a ]) (λ x h. inr h) c.bracketed.ensures
