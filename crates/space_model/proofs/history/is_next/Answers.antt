-- Both tests together are the entry's rightness.
use Rattle.std.proofs.lemmas.Bool.{eqb-true}
use Rattle.space_model.proofs.history.is_next.Goals as goal

-- where the number is right, the entry is right exactly where its reply is
pub returns-then-entry-number : goal.returns-then-entry-number
returns-then-entry-number c = (
  c.in_ok-reply.reply,
  c.in_ok-reply.ensures.answer,
  (λ t. (c.if-entry-number.true, c.same_reply.ensures.0 t), λ both. c.same_reply.ensures.1 both.1),
)

-- where the number is wrong, the entry is wrong
pub returns-else-entry-number : goal.returns-else-entry-number
returns-else-entry-number c = (
  c.in_ok-reply.reply,
  c.in_ok-reply.ensures.answer,
  (λ t. absurd (c.if-entry-number.false (eqb-true _ _ t)), λ both. absurd (c.if-entry-number.false both.0)),
)
