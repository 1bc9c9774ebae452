use Rattle.std.proofs.Common.{◌≡◌, ◌+◌, ℕ, List, ◌++◌, length, refl, sym, ◌∙◌}
use Rattle.std.proofs.lemmas.List.{length-append}
use Rattle.std.proofs.lemmas.Bool.Decides.{Decides-eqb, Decides-like, not_from_Decides}
use Rattle.raw_lines.specs.Marks.{IsBroken}
use Rattle.raw_lines.specs.Plain.{IsStill}
use Rattle.raw_lines.proofs.LineFacts.{unread_still, taken_still, still_long, broken_not_still, some_value, no_value}
use Rattle.raw_lines.proofs.plain.is_still.Goals as goal

-- a line with the mark stays as it is
pub returns-then-is_unread : goal.returns-then-is_unread
returns-then-is_unread c = (λ e. unread_still c.args.text.now (c.is_unread.ensures.0 c.if-is_unread.true), λ h. refl)

-- a message doesn't
pub returns-then-is_message : goal.returns-then-is_message
returns-then-is_message c = (λ e. absurd cc, λ h. absurd (h.no_message (c.is_message.ensures.0 c.if-is_message.true)))

-- nor does a line of a stack
pub returns-then-is_stack_line : goal.returns-then-is_stack_line
returns-then-is_stack_line c = (λ e. absurd cc, λ h. absurd (h.no_stack (c.is_stack_line.ensures.0 c.if-is_stack_line.true)))

-- nor one that a message broke
pub returns-then-is_some : goal.returns-then-is_some
returns-then-is_some c =
    let text = c.args.text.now in
    let unmarked = not_from_Decides c.is_unread.result c.is_unread.ensures c.if-is_unread.false in
    let k = some_value c.broken.result ((front : List ℕ) → IsBroken text front → ⊥) (λ x. IsBroken text x.now) (sym c.is_some.ensures ∙ c.if-is_some.true)
    c.broken.ensures in (λ e. absurd cc, λ h. absurd (broken_not_still text k.0.now unmarked k.1 h))

-- another line does just where nothing is taken from it
pub returns : goal.returns
returns c =
    let text = c.args.text.now in let front = c.taken.result.0.now in let end = c.taken.result.1.now in
    let unmarked = not_from_Decides c.is_unread.result c.is_unread.ensures c.if-is_unread.false in
    let whole = no_value c.broken.result ((f : List ℕ) → IsBroken text f → ⊥) (λ x. IsBroken text x.now) (sym c.is_some.ensures ∙ c.if-is_some.false)
    c.broken.ensures in
    Decides-like {P = length front + length end ≡ length text} {Q = IsStill text} _
    (λ e. taken_still text (front ++ end) unmarked (not_from_Decides c.is_message.result c.is_message.ensures c.if-is_message.false)
    (not_from_Decides c.is_stack_line.result c.is_stack_line.ensures c.if-is_stack_line.false) whole c.taken.ensures.taken (length-append front end ∙ e))
    (λ h. sym (length-append front end) ∙ still_long text (front ++ end) unmarked c.taken.ensures.taken h)
    (Decides-eqb (length front + length end) (length text))
