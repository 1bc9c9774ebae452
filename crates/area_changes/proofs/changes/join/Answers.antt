-- Popping and pushing is joining at the end.
use Rattle.std.proofs.Common.{◌∙◌, sym, ap, [], ◌∷◌, ◌++◌, append_assoc}
use Rattle.area_changes.specs.Touching.{joined}
use Rattle.area_changes.proofs.Adding.{joined-append, pair-true, pair-false}
use Rattle.area_changes.proofs.changes.join.Goals as goal

-- where the change goes on with the last, the lengthened one stands in its place
pub returns-in_ok-push-in-Some : goal.returns-in_ok-push-in-Some
returns-in_ok-push-in-Some c =
    let front = c.pop.new.self.items in
    c.in_ok-push-in-Some.ensures.items ∙
    ap (λ pair. front ++ pair) (sym (pair-true c.in-Some.last c.args.change (sym c.if-goes_on.ensures))) ∙
    sym (joined-append front c.in-Some.last c.args.change) ∙
    ap (λ list. joined list c.args.change) (sym c.in-Some.ensures.items)

-- where it doesn't, it stands behind the last
pub returns-in_ok-push-in-Some-3 : goal.returns-in_ok-push-in-Some-3
returns-in_ok-push-in-Some-3 c =
    let front = c.pop.new.self.items in
    c.in_ok-push-in-Some-3.ensures.items ∙
    ap (λ list. list ++ c.args.change ∷ []) c.in_ok-push-in-Some-2.ensures.items ∙
    append_assoc front (c.in-Some.last ∷ []) (c.args.change ∷ []) ∙
    ap (λ pair. front ++ pair) (sym (pair-false c.in-Some.last c.args.change (sym c.if-goes_on.ensures))) ∙
    sym (joined-append front c.in-Some.last c.args.change) ∙
    ap (λ list. joined list c.args.change) (sym c.in-Some.ensures.items)
