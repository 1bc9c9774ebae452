use Rattle.std.proofs.Common.{arith, inl, inr}
use Rattle.area_changes.proofs.Untouched.{brk_keeps}
use Rattle.area_changes.proofs.touched.touched_heap.Goals as goal

-- pages below the base, and behind the ends that the heap had and was asked for, stay
pub returns : goal.returns
returns c B page h low out =
    brk_keeps c.args.space.now B page c.args.base c.args.addr c.args.addr c.heap_end.result h c.heap_end.ensures
    (elim (c.stretch.ensures page low out) [
      | inl below ↦ inl below
      | inr above ↦ inr (omega (arith, above, c.max.ensures), omega (arith, above, c.max.ensures, c.page_count.ensures))
    ])
