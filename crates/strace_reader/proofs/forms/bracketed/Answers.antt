use Rattle.std.proofs.Common.{◌≡◌, ℕ, List, codes, ◌++◌, subst, sym}
use Rattle.line_parts.specs.Reading.{after_spaces}
use Rattle.strace_reader.specs.Grammar.{PidThen, IsBracketed}
use Rattle.strace_reader.proofs.FormFacts.{bracket_no_digit, bracket_yes, bracket_no, either_way}
use Rattle.strace_reader.proofs.forms.bracketed.Goals as goal

-- the word behind the number isn't empty and begins with no digit
pub pid_then-requires : goal.pid_then-requires
pid_then-requires c = (bracket_no_digit, λ e. cc)

-- behind "[pid " and the spaces, what is found is the number in brackets, and where none is found none stands
pub returns-in-Some : goal.returns-in-Some
returns-in-Some c =
    let text = c.args.text.now in let rest = c.in-Some.rest.now in let skipped = c.skip_spaces.result.now in
    let e : skipped ≡ after_spaces rest = c.skip_spaces.ensures in
    either_way c.pid_then.result ((pid : ℕ) → (behind : List ℕ) → PidThen (codes "] ") skipped pid behind → ⊥) ((pid : ℕ)
    → (behind : List ℕ) → IsBracketed text pid behind → ⊥) (λ x. PidThen (codes "] ") skipped x.0 x.1.now) (λ x. IsBracketed text x.0 x.1.now)
    (λ none pid behind h. none pid behind (subst (λ (x : List ℕ). PidThen (codes "] ") x pid behind) (sym e)
    (bracket_no text rest pid behind c.in-Some.ensures h.0 h.1 h.2 h.3 h.4)))
    (λ x h. bracket_yes text rest x.0 x.1.now c.in-Some.ensures (subst (λ (y : List ℕ). PidThen (codes "] ") y x.0 x.1.now) e h)) c.pid_then.ensures

-- a text that doesn't begin with "[pid " has no number in brackets
pub returns-in-None : goal.returns-in-None
returns-in-None c = λ pid rest h. c.in-None.ensures (h.0 ++ h.1) h.3
