-- At the end of an input nothing is left of it.
use Rattle.std.proofs.Common.{◌≡◌, ℕ, List, [], Option, None, Some, refl, sym, ap, ◌∙◌, rules, take}
use Rattle.std.proofs.lemmas.Grind.{common_steps}
use Rattle.std.specs.Io.KnownBytes.{Consumes, IsAtEnd}
use Rattle.byte_ports.specs.Input.{Drains}

-- a read that moved nothing at the end of the input says that all bytes so far are the whole of it
pub drained : (first before last : Option (List ℕ)) (all piece : List ℕ) (count : ℕ) → Consumes first before all
    → count ≡ 0 → Consumes before last (take count piece) → IsAtEnd before → Drains first last all
drained None before last all piece count taken none moved end = tt
drained (Some bytes) None last all piece count taken none moved end = absurd taken
drained (Some bytes) (Some rest) None all piece count taken none moved end = absurd moved
drained (Some bytes) (Some rest) (Some left) all piece count taken none moved end =
    let empty : take count piece ≡ [] = rw none refl in
    let same : rest ≡ left = rw empty at moved in
    (grind (rules, common_steps), ap Some (sym same ∙ end))
