use Rattle.std.proofs.Common.{◌++◌, ◌∷◌, [], ◌+◌, ap, ◌∙◌, arith, add-one, length}
use Rattle.lock_core.proofs.Opening.{numbers_length, numbers_more}
use Rattle.lock_core.proofs.state.nodes_from.Goals as goal

-- there is room for one node more
pub push-requires : goal.push-requires
push-requires c = let e = ap (λ l. length l) c.loop-k.invariant ∙ numbers_length c.args.first c.loop-k.k in omega arith

-- with the next node they are the numbers from the first one on, one more
pub loop-k-preserved : goal.loop-k-preserved
loop-k-preserved c = rw add-one (c.push.ensures ∙ ap (λ l. l ++ (c.args.first + c.loop-k.k) ∷ []) c.loop-k.invariant ∙ numbers_more c.args.first c.loop-k.k)
