use Rattle.std.proofs.Common.{subst, inl, inr}
use Rattle.std.proofs.lemmas.Bool.{cases_lt}
use Rattle.page_types.specs.declared.TheConstants.{LIMIT}
use Rattle.space_model.specs.Answers.{Answers}
use Rattle.area_changes.proofs.Untouched.{kept_high}
use Rattle.area_changes.proofs.touched.pages_of_call.Goals as goal

-- no page behind the addresses of users has a kind
pub returns-in-At : goal.returns-in-At
returns-in-At c B page h old list out = elim (cases_lt page LIMIT) [
  | inl low ↦ c.touched_at.ensures B page (subst (λ r. Answers c.args.space.now c.args.call.now r B) c.in-At.is h) low out
  | inr high ↦ kept_high c.args.space.now B page old list high
]

pub returns-in-Zero : goal.returns-in-Zero
returns-in-Zero c B page h old list out = elim (cases_lt page LIMIT) [
  | inl low ↦
      c.touched_by_done.ensures c.args.space.now B page (subst (λ r. Answers c.args.space.now c.args.call.now r B) c.in-Zero.is h) low out
  | inr high ↦ kept_high c.args.space.now B page old list high
]
