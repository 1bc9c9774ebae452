use Rattle.std.proofs.Common.{rules, ◌≡◌, ◌<◌, ◌==◌, not, true, ◌∙◌, ◌++◌, take, drop, length, get_or, sym, ap, subst}
use Rattle.std.specs.List.{All}
use Rattle.view_lists.specs.Counted.{times, without}
use Rattle.view_lists.proofs.Times.{without_itself, All-removed, removed_done}
use Rattle.view_lists.proofs.lists.Nodes.leave_out.Goals as goal

-- a node of the other list is taken out, and what is to be left stays the same
pub loop-i-preserved-then-has : goal.loop-i-preserved-then-has
loop-i-preserved-then-has c =
    let xs = c.loop-i.self-inside.items.items in
    let less : c.loop-i.i < length xs = search rules in
    let at : c.index.result.now ≡ get_or xs c.loop-i.i c.index.result.now = search rules in
    let some : not (times c.index.result.now c.args.gone.now == 0) ≡ true = search rules in
    record {
      room = search rules;
      within = search rules;
      low = All-removed c.loop-i.self-inside.highest c.loop-i.self-inside.items.items c.remove.new.self.items c.loop-i.i
          c.loop-i.invariant.low (c.remove.ensures.items);
      done = subst (λ l. take c.loop-i.i l ++ without c.args.gone.now (drop c.loop-i.i l) ≡ without c.args.gone.now
          c.args.self.now) (sym c.remove.ensures.items)
          (removed_done c.args.gone.now xs c.loop-i.i c.index.result.now less at some ∙ c.loop-i.invariant.done);
    }

-- where both lists are the same nothing is left
pub returns-then-eq : goal.returns-then-eq
returns-then-eq c = let same : c.args.self.now ≡ c.args.gone.now = search rules in
    c.clear.ensures.items ∙ (sym (without_itself c.args.self.now) ∙ ap (λ l. without l c.args.self.now) same)
