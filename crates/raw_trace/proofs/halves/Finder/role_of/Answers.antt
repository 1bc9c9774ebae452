use Rattle.std.proofs.Common.{None, refl, subst}
use Rattle.std.specs.Prelude.{Ok, Err}
use Rattle.strace_reader.specs.declared.item.Item.TheVariants.{Played, Other, Blank}
use Rattle.strace_reader.specs.Grammar.{Spells}
use Rattle.raw_trace.proofs.FoundHalves.{role_alone, role_of_process, role_begins, role_resumed, waits_within}
use Rattle.raw_trace.proofs.halves.Finder.role_of.Goals as goal

-- a text that is passed over
pub returns-in-Ok-Other : goal.returns-in-Ok-Other
returns-in-Ok-Other c = λ before number f.
    role_alone c.args.self.now c.args.self.now before number c.args.text.now (Ok Other) f
    (subst (Spells c.args.text.now) c.in-Ok-Other.field-0-is c.in-Ok-Other.ensures.found) tt refl f.waits

-- an empty one
pub returns-in-Ok-Blank : goal.returns-in-Ok-Blank
returns-in-Ok-Blank c = λ before number f.
    role_alone c.args.self.now c.args.self.now before number c.args.text.now (Ok Blank) f
    (subst (Spells c.args.text.now) c.in-Ok-Blank.field-0-is c.in-Ok-Blank.ensures.found) tt refl f.waits

-- a whole call
pub returns-in-Ok-Played : goal.returns-in-Ok-Played
returns-in-Ok-Played c = λ before number f.
    role_of_process c.args.self.now c.forget.new.self before number c.args.text.now (Ok (Played _ _ _)) _ None f
    (subst (Spells c.args.text.now) c.in-Ok-Played.field-0-is c.in-Ok-Played.ensures.found) tt c.forget.ensures.roles c.forget.ensures.gone
    c.forget.ensures.others refl (λ q. refl)

-- a first half
pub returns-in_ok-wait-in-Ok-Unfinished : goal.returns-in_ok-wait-in-Ok-Unfinished
returns-in_ok-wait-in-Ok-Unfinished c = λ before number f.
    let wait = c.in_ok-wait-in-Ok-Unfinished.ensures in
    role_begins c.args.self.now c.wait.new.self before number c.args.text.now _ c.args.place _ _ _ f c.requires.place
    (subst (Spells c.args.text.now) c.in-Ok-Unfinished.field-0-is c.in-Ok-Unfinished.ensures.found) wait.roles wait.waits wait.others

-- the first half that waits is there
pub resume-requires : goal.resume-requires
resume-requires c = λ first e. waits_within c.args.self.now c.requires.known.0 _ first c.requires.known.1 e

-- a second half
pub returns-in_ok-role-in-Ok-Resumed : goal.returns-in_ok-role-in-Ok-Resumed
returns-in_ok-role-in-Ok-Resumed c = λ before number f.
    let resume = c.in_ok-role-in-Ok-Resumed.ensures in
    role_resumed c.args.self.now c.resume.new.self before number c.args.text.now _ c.args.place _ _ c.in_ok-role-in-Ok-Resumed.role f c.requires.place
    (subst (Spells c.args.text.now) c.in-Ok-Resumed.field-0-is c.in-Ok-Resumed.ensures.found) resume.found resume.gone resume.others

-- a refused line
pub returns-in-Err : goal.returns-in-Err
returns-in-Err c = λ before number f.
    role_of_process c.args.self.now c.forget-in-Err.new.self before number c.args.text.now (Err _) _ None f
    (_, _, c.in-Err.ensures.refused, c.cut-pid.ensures) tt c.forget-in-Err.ensures.roles c.forget-in-Err.ensures.gone
    c.forget-in-Err.ensures.others refl (λ q. refl)
