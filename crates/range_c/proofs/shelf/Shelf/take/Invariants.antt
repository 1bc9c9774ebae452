use Rattle.range_c.proofs.shelf.Shelf.take.Given as goal

-- nothing is kept from one place to the next
abbrev pub invariant-places : goal.invariant-places
invariant-places l = Unit {0}

-- there is one place less each time
abbrev pub decreases-places : goal.decreases-places
decreases-places l = l.left
