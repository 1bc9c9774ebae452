use Rattle.std.proofs.Common.{◌≡◌, ℕ, List, ◌++◌, inr}
use Rattle.strace_reader.proofs.FormFacts.{either_way}
use Rattle.raw_lines.specs.Fields.{IsBracket, IsFieldTo}
use Rattle.raw_lines.proofs.RunFacts.{field_none}
use Rattle.raw_lines.proofs.fields.field_bytes.Goals as goal

-- where no time stands, a bracket is the field, and else there is none
pub returns : goal.returns
returns c =
    let text = c.args.text.now in
    either_way c.bracket.result ((front rest : List ℕ) → IsBracket front → text ≡ front ++ rest → ⊥)
    ((front rest : List ℕ) → IsFieldTo front rest → text ≡ front ++ rest → ⊥)
    (λ x. (front : List ℕ) × IsBracket front × (text ≡ front ++ x.now)) (λ x. (front : List ℕ) × IsFieldTo front x.now × (text ≡ front ++ x.now))
    (λ none. field_none text c.in_default.ensures c.in_default-since.ensures none) (λ x h. (h.0, inr (inr h.1), h.2)) c.bracket.ensures
