use Rattle.std.proofs.Common.{◌≡◌, ℕ, List, ◌++◌, false}
use Rattle.line_parts.specs.declared.refusal.What.TheVariants.{Number}
use Rattle.line_parts.specs.Parts.{starts}
use Rattle.line_parts.specs.Leaves.{IsRun}
use Rattle.strace_reader.proofs.FormFacts.{either_way}
use Rattle.raw_lines.specs.Fields.{is_clock_byte, IsClock}
use Rattle.raw_lines.proofs.RunFacts.{digits_took, digits_refused, clock_yes, clock_only_digits, clock_no_digits}
use Rattle.raw_lines.proofs.fields.clock.Goals as goal

-- digits and more bytes of a clock are one, and digits alone are none
pub returns-in-Ok : goal.returns-in-Ok
returns-in-Ok c =
    let text = c.args.text.now in let behind = c.in-Ok.behind.now in
    let d = digits_took Number text behind c.in-Ok.ensures in
    either_way c.behind_clock.result (starts is_clock_byte behind ≡ false)
    ((front rest : List ℕ) → IsClock front → text ≡ front ++ rest → starts is_clock_byte rest ≡ false → ⊥)
    (λ x. (more : List ℕ) × IsRun is_clock_byte is_clock_byte more × (behind ≡ more ++ x.now) × (starts is_clock_byte x.now ≡ false))
    (λ x. (front : List ℕ) × IsClock front × (text ≡ front ++ x.now) × (starts is_clock_byte x.now ≡ false))
    (λ none. clock_only_digits text behind d.0 d.1 d.2 none)
    (λ x h. let y = clock_yes text behind x.now d.0 h.0 d.1 d.2 d.3 h.1 h.2 in (d.0 ++ h.0, y.0, y.1, h.3)) c.behind_clock.ensures

-- a text without a digit at its front begins with no clock
pub returns-in-Err : goal.returns-in-Err
returns-in-Err c = λ front rest h e n. clock_no_digits c.args.text.now (digits_refused Number c.args.text.now _ c.in-Err.ensures) front rest h e
