use Rattle.raw_logs.proofs.Decided.{is_so}
use Rattle.raw_logs.proofs.numbering.is_bare_call.Goals as goal

-- without a number it is one where it is of the profile
pub returns-then-has_no_number : goal.returns-then-has_no_number
returns-then-has_no_number c = (
  λ e. (is_so c.has_no_number.result c.has_no_number.ensures c.if-has_no_number.true, c.is_of_profile.ensures.0 e),
  λ h. c.is_of_profile.ensures.1 h.1,
)
