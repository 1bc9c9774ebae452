use Rattle.strace_reader.proofs.FormFacts.{never_yes, never_one, never_two, never_three}
use Rattle.strace_reader.proofs.forms.never_returned.Goals as goal

-- the call never returned just where "<unfinished ...>)" stands before all the spaces
pub returns-in-Some-strip_back : goal.returns-in-Some-strip_back
returns-in-Some-strip_back c =
    let text = c.args.text.now in let one = c.in-Some.rest.now in let two = c.in-Some-strip_back.rest.now in
    let three = c.trim.result.now in
    let t = c.trim.ensures in (
      λ h. never_yes text one two three t.0 c.in-Some.ensures c.in-Some-strip_back.ensures t.2 t.1 (c.ends_with.ensures.0 h),
      λ h. c.ends_with.ensures.1 (never_three text one two three t.0 c.in-Some.ensures c.in-Some-strip_back.ensures t.2 t.1 t.3 h),
    )

-- where no space stands before "= ?", the call is none that never returned
pub returns-in-None-strip_back : goal.returns-in-None-strip_back
returns-in-None-strip_back c = (λ h. absurd cc, λ h. absurd (never_two c.args.text.now c.in-Some.rest.now c.in-Some.ensures c.in-None-strip_back.ensures h))

-- where the text doesn't end with "= ?", the call is none that never returned
pub returns-in-None : goal.returns-in-None
returns-in-None c = (λ h. absurd cc, λ h. absurd (never_one c.args.text.now c.in-None.ensures h))
