use Rattle.std.proofs.Common.{rules, ◌<◌, [], ◌∷◌, ◌++◌, length, sym}
use Rattle.area_rows.specs.Closing.{IsPair}
use Rattle.area_rows.proofs.Pairing.{pairs_more, moved}
use Rattle.area_rows.proofs.close.part.Goals as goal

some_left : (c : goal.After-push_reserved-in-callers) → 0 < length c.callers.callers.items
some_left c = search rules

pair : (c : goal.After-push_reserved-in-callers) → IsPair c.seat.inside.seat (record {
  worker = c.seat.inside.worker;
  keeps = c.seat.inside.keeps;
  mine = c.seat.inside.mine;
  left = c.seat.inside.left;
  count = c.seat.inside.count;
  cut = c.seat.inside.cut;
  plan = c.seat.inside.plan;
  change = c.seat.inside.change;
}) c.remove.result
pair c = let i = c.seat.invariant in record {
  whole = sym c.seat.view_is;
  number = i.0;
  mine = i.1;
  room = i.2;
  few = i.3;
  plan = i.4;
  pages = i.5;
  rest = i.6;
  blocks = i.7;
  most = i.8;
  kept = i.9;
  keeps = i.10;
}

-- one caller more was taken apart, and its seat and the rest belong together
pub callers-preserved : goal.callers-preserved
callers-preserved c = record {
  keeps = search rules;
  first = search rules;
  second = search rules;
  sum = search rules;
  sum_kept = search rules;
  pairs = let i = c.callers.invariant.pairs in (
    i.0 ++ c.remove.result ∷ [],
    rw (c.push_reserved.ensures.items, c.push_reserved-in-callers.ensures.items) (pairs_more _ _ i.0 i.1 (pair c)),
    rw c.remove.ensures.items (moved i.0 c.callers.callers.items i.2 (some_left c) c.remove.ensures.value),
  );
}
