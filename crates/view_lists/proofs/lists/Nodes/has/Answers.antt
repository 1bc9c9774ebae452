use Rattle.std.proofs.Common.{rules, ◌≡◌, ◌∙◌, ◌≤◌, ◌<◌, sym, ap}
use Rattle.std.specs.Prelude.{◌==◌, not}
use Rattle.std.specs.List.{list_any, All}
use Rattle.view_lists.proofs.Times.{any_times, none_above}
use Rattle.view_lists.proofs.lists.Nodes.has.Goals as goal

-- a node above the highest one isn't in the list
pub returns-then-node-self : goal.returns-then-node-self
returns-then-node-self c =
    let low : All (λ x. x ≤ c.self.inside.highest) c.args.self.now = search rules in
    let above : c.self.inside.highest < c.args.node = search rules in
    sym (ap (λ n. not (n == 0)) (none_above c.args.node c.self.inside.highest c.args.self.now low above))

-- what the search says is whether the node is counted in the list
pub returns : goal.returns
returns c =
    c.contains.ensures.value ∙ ap (list_any (λ y. y == c.args.node)) (c.deref.ensures.value ∙ c.self.view_is) ∙ any_times c.args.node c.args.self.now
