use Rattle.std.proofs.Common.{◌∷◌, [], length, refl, sym, ap, ◌+◌, ◌∙◌}
use Rattle.std.proofs.lemmas.List.{length-append}
use Rattle.raw_trace.proofs.FoundHalves.{found_count, finds_more}
use Rattle.raw_trace.proofs.halves.Finder.take.Goals as goal

-- its place is the next one
pub push-requires-clause-place : goal.push-requires-clause-place
push-requires-clause-place c =
    let f = c.requires.known.1 in
    c.requires.place ∙ sym (found_count c.args.self.now c.role_of.new.self c.requires.known.0 0 c.args.text.now c.in_ok-role.role f
    (c.in_ok-role.ensures c.requires.known.0 0 f))

-- the text has its role
pub returns-clause-finds : goal.returns-clause-finds
returns-clause-finds c = λ before number f.
    finds_more c.role_of.new.self _ before number c.args.text.now c.in_ok-role.role (c.in_ok-role.ensures before number f) c.in_ok-push.ensures refl

-- there is one role more
pub returns-clause-one : goal.returns-clause-one
returns-clause-one c =
    let f = c.requires.known.1 in
    let k = found_count c.args.self.now c.role_of.new.self c.requires.known.0 0 c.args.text.now c.in_ok-role.role f
    (c.in_ok-role.ensures c.requires.known.0 0 f) in
    ap (λ x. length x) c.in_ok-push.ensures ∙ length-append c.role_of.new.self.roles (c.in_ok-role.role ∷ []) ∙ ap (λ x. x + 1) k
