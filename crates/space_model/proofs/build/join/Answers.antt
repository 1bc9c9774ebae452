-- Popping and pushing is joining at the end.
use Rattle.std.proofs.Common.{◌∙◌, sym, ap, [], ◌∷◌, ◌++◌, append_assoc}
use Rattle.space_model.specs.Building.{joined}
use Rattle.space_model.proofs.Joining.{joined-append, pair-true, pair-false}
use Rattle.space_model.proofs.build.join.Goals as goal

-- where the area goes on with the last, the lengthened one stands in its place
pub returns-in_ok-push-in-Some-clause-items : goal.returns-in_ok-push-in-Some-clause-items
returns-in_ok-push-in-Some-clause-items c =
    let front = c.pop.new.self.items in
    c.in_ok-push-in-Some.ensures.items ∙
    ap (λ pair. front ++ pair) (sym (pair-true c.in-Some.last c.args.area (sym c.if-goes_on.ensures))) ∙
    sym (joined-append front c.in-Some.last c.args.area) ∙
    ap (λ list. joined list c.args.area) (sym c.in-Some.ensures.items)

-- where it doesn't, it stands behind the last
pub returns-in_ok-push-in-Some-3-clause-items : goal.returns-in_ok-push-in-Some-3-clause-items
returns-in_ok-push-in-Some-3-clause-items c =
    let front = c.pop.new.self.items in
    c.in_ok-push-in-Some-3.ensures.items ∙
    ap (λ list. list ++ c.args.area ∷ []) c.in_ok-push-in-Some-2.ensures.items ∙
    append_assoc front (c.in-Some.last ∷ []) (c.args.area ∷ []) ∙
    ap (λ pair. front ++ pair) (sym (pair-false c.in-Some.last c.args.area (sym c.if-goes_on.ensures))) ∙
    sym (joined-append front c.in-Some.last c.args.area) ∙
    ap (λ list. joined list c.args.area) (sym c.in-Some.ensures.items)
