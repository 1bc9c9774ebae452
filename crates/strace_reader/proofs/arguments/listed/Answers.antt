use Rattle.std.proofs.Common.{rules, refl, sym, ◌∙◌}
use Rattle.line_parts.proofs.Lists.{on_shorter, list_on, list_last, list_left, list_refusal}
use Rattle.strace_reader.specs.Reading.{listed_word_at, listed_at}
use Rattle.strace_reader.proofs.ArgumentParts.{listed_word_shortens}
use Rattle.strace_reader.proofs.arguments.listed.Goals as goal

-- before the first item all of the list is left
pub items-init : goal.items-init
unfolding listed_at
items-init c = refl

-- an item that is refused refuses the list
pub returns-in_err-more : goal.returns-in_err-more
returns-in_err-more c = rw (c.items.invariant ∙ list_refusal (listed_word_at c.args.list) c.items.bits c.items.left.now _ c.in_err-more.ensures) (search rules)

-- an item that took the rest ends the list, without a value
pub returns-in_default : goal.returns-in_default
returns-in_default c = c.items.invariant ∙ list_left (listed_word_at c.args.list) c.items.bits c.items.left.now
    c.in_ok-more.rest.now (rw c.in_default.is at c.in_ok-more.ensures)

-- an item with no bar behind it ends the list, with its bits
pub returns-then-not-begins : goal.returns-then-not-begins
returns-then-not-begins c = c.items.invariant ∙ list_last (listed_word_at c.args.list) c.items.bits c.in-Some.more c.items.left.now c.in_ok-more.rest.now
    (rw c.in-Some.is at c.in_ok-more.ensures) (sym c.if-not-begins.ensures)

-- behind an item and its bar fewer bytes are left
pub items-smaller : goal.items-smaller
items-smaller c = rw c.behind_first-left.ensures
    (on_shorter (listed_word_at c.args.list) (listed_word_shortens c.args.list) c.items.left.now c.in_ok-more.rest.now
    c.in_ok-more.more c.in_ok-more.ensures (sym c.if-not-begins.ensures))

-- the list is what is left of it behind an item and its bar, with the item's bits
pub items-preserved : goal.items-preserved
items-preserved c = rw c.behind_first-left.ensures
    (c.items.invariant ∙ list_on (listed_word_at c.args.list) (listed_word_shortens c.args.list) c.items.bits c.in-Some.more
    c.items.left.now c.in_ok-more.rest.now (rw c.in-Some.is at c.in_ok-more.ensures) (sym c.if-not-begins.ensures))
