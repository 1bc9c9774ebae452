use Rattle.std.proofs.Common.{◌≡◌, ◌≢◌, ◌⊎◌, ℕ, List, ◌++◌, codes, inr}
use Rattle.strace_reader.specs.Grammar.{EndsWith}
use Rattle.strace_reader.proofs.FormFacts.{either_way}
use Rattle.raw_lines.proofs.marks.before_verb.Goals as goal

-- where the first verb isn't there, the other one is, or none is
pub returns-in-None : goal.returns-in-None
returns-in-None c =
    let text = c.args.text.now in
    either_way c.strip_back-in-None.result ((front : List ℕ) → text ≢ front ++ codes " detached")
    ((EndsWith (codes " attached") text → ⊥) × (EndsWith (codes " detached") text → ⊥))
    (λ x. text ≡ x.now ++ codes " detached") (λ x. (text ≡ x.now ++ codes " attached") ⊎ (text ≡ x.now ++ codes " detached"))
    (λ none. (λ h. c.in-None.ensures h.0 h.1, λ h. none h.0 h.1)) (λ x e. inr e) c.strip_back-in-None.ensures
