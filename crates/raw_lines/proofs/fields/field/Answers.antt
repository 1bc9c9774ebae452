use Rattle.std.proofs.Common.{◌≡◌, ◌≢◌, ℕ, List, ◌∷◌, ◌++◌, codes}
use Rattle.strace_reader.proofs.FormFacts.{either_way}
use Rattle.raw_lines.specs.Fields.{IsField}
use Rattle.raw_lines.proofs.RunFacts.{field_no_space_behind, field_yes}
use Rattle.raw_lines.proofs.fields.field.Goals as goal

-- behind the field stands a space, or there is none
pub returns : goal.returns
returns c =
    let text = c.args.text.now in let rest = c.in_ok-rest.rest.now in let k = c.in_ok-rest.ensures in
    either_way c.strip_front.result ((x : List ℕ) → rest ≢ codes " " ++ x) ((front left : List ℕ) → IsField front → text ≡ front ++ (32 ∷ left) → ⊥)
    (λ x. rest ≡ codes " " ++ x.now) (λ x. (front : List ℕ) × IsField front × (text ≡ front ++ (32 ∷ x.now))) (field_no_space_behind text k.0 rest k.1 k.2)
    (λ x e. field_yes text k.0 rest x.now k.1 k.2 e) c.strip_front.ensures
