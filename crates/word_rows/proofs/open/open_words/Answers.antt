use Rattle.std.proofs.Common.{rules, ◌≡◌, ◌+◌, [], ap, ◌∙◌, arith}
use Rattle.word_rows.proofs.Rowing.{one_more, last_view}
use Rattle.word_rows.proofs.open.open_words.Goals as goal

-- the seat that keeps its number's view goes behind the others, and the new one has the rest
pub numbers-preserved : goal.numbers-preserved
numbers-preserved g c = let i = c.numbers.invariant in let o = c.cut_off-next.ensures.old in record {
  below = search rules;
  room = search rules;
  count = search rules;
  made = rw c.push_reserved.ensures.items (one_more _ _ _ _ _ i.count i.made (search rules) (search rules));
  same_table = search rules;
  now = search rules;
}

-- the last seat has the view of the last number, so each number has its seat
pub returns-clause-seated : goal.returns-clause-seated
returns-clause-seated g c = let i = c.numbers.invariant in let last : c.args.seats ≡ c.numbers.number + 1 = omega arith in
    rw c.push_reserved-2.ensures.items (one_more _ _ _ _ _ i.count i.made i.same_table
    (i.now ∙ ap (λ v. (v, [])) (last_view g.R.StartRule.rest g.R.StartRule.one _ _ _ _ g.R.StartRule.ends last)))
