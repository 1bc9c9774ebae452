use Rattle.std.proofs.Common.{sym, subst}
use Rattle.page_types.specs.declared.calls.Reply.{Reply}
use Rattle.space_model.specs.Answers.{Answers}
use Rattle.space_model.proofs.OneAnswer.{one_answer}
use Rattle.history_check.proofs.Fitting.{fits_tells}
use Rattle.history_check.proofs.taking.wrong_call.Goals as goal

-- what the entry held doesn't fit
pub returns-then-not-may_be : goal.returns-then-not-may_be
returns-then-not-may_be c before place = (
  place.number,
  place.order,
  λ fits.
      let told =
      fits_tells _ _ c.step_under-reply.result.1 c.args.entry.now.under c.step_under-reply.ensures.in_order c.step_under-reply.ensures.fits
      c.step_under-reply.ensures.simple in
      let may = c.may_be.ensures.1 (told.1 fits) in absurd cc,
)

-- it fits, and the reply is another
pub returns-then-not-same_reply : goal.returns-then-not-same_reply
returns-then-not-same_reply c before place =
    let told =
    fits_tells _ _ c.step_under-reply.result.1 c.args.entry.now.under c.step_under-reply.ensures.in_order c.step_under-reply.ensures.fits
    c.step_under-reply.ensures.simple in (
      place.number,
      place.order,
      told.0 (c.may_be.ensures.0 c.if-not-may_be.false),
      λ C right. let one = one_answer _ _ _ _ _ C c.step_under-reply.ensures.answer right in let same = c.same_reply.ensures.1 (sym one.0) in absurd cc,
    )

-- it fits, and the reply is right
pub returns : goal.returns
returns c =
    let told =
    fits_tells _ _ c.step_under-reply.result.1 c.args.entry.now.under c.step_under-reply.ensures.in_order c.step_under-reply.ensures.fits
    c.step_under-reply.ensures.simple in (
      told.0 (c.may_be.ensures.0 c.if-not-may_be.false),
      subst (λ (r : Reply). Answers c.args.space.now c.args.entry.now.call r c.step_under-reply.new.self)
          (sym (c.same_reply.ensures.0 c.if-not-same_reply.false)) c.step_under-reply.ensures.answer,
    )
