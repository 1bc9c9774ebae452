use Rattle.std.proofs.Common.{eqb, rules, ◌≡◌, ◌+◌, ◌-◌, ◌<◌, ◌≤◌, ℕ, List, length, ap, sym, ◌∙◌, subst, arith}
use Rattle.std.specs.Prelude.{All, slice_index}
use Rattle.page_types.specs.declared.TheConstants.{LIMIT}
use Rattle.row_plans.specs.RowWords.{row_start}
use Rattle.row_plans.specs.RowLists.{rows_from}
use Rattle.row_plans.proofs.RowLists.{length-rows}
use Rattle.area_guard.specs.Rows.{number_place}
use Rattle.area_rows.proofs.Beginning.{some_start, start_low}
use Rattle.area_rows.proofs.first_words.words_of.Goals.{After-as_slice}
use Rattle.area_rows.proofs.first_words.words_of.Goals as goal

-- the rows of the start
rows_are : (c : After-as_slice) → c.as_slice.result.now ≡ rows_from 0 c.args.start.now
rows_are c = search rules

-- there is one
pub lay_rows-requires-clause-some : goal.lay_rows-requires-clause-some
lay_rows-requires-clause-some c =
    let rows = rows_are (goal.at.lay_rows-requires-clause-some c).After-as_slice in
    subst (λ (l : List ℕ). 0 < length l) (sym rows) (some_start c.args.start.now c.requires.in_order c.requires.named)

-- and there is room for them
pub lay_rows-requires-clause-room : goal.lay_rows-requires-clause-room
lay_rows-requires-clause-room c =
    let rows = ap length (rows_are (goal.at.lay_rows-requires-clause-room c).After-as_slice) in
    let many = length-rows c.args.start.now in let count = c.requires.rows in let fits = c.requires.fits in omega arith

-- none of them starts above the limit
pub lay_rows-requires-clause-low : goal.lay_rows-requires-clause-low
lay_rows-requires-clause-low c =
    let rows = rows_are (goal.at.lay_rows-requires-clause-low c).After-as_slice in
    subst (All (λ w. row_start w ≤ LIMIT)) (sym rows) (start_low c.args.start.now c.requires.in_order c.requires.named)

-- laid out among the others they are the words of the opening
pub returns-clause-words : goal.returns-clause-words
returns-clause-words c =
    let rows = rows_are (goal.at.returns-clause-words c).After-as_slice in
    let around = c.in_ok-words.ensures in let old = c.in_ok-words.words.items in let new = c.lay_rows.new.words.items in let laid = c.lay_rows.ensures in
    let long = laid.length in let wide = around.wide in
    record {
      wide = omega arith;
      number = laid.above (number_place c.args.blocks) (omega arith) ∙ around.number;
      sequence = laid.first 1 (omega arith) ∙ around.sequence;
      count = laid.first 2 (omega arith) ∙ (around.count ∙ c.requires.rows);
      laid = laid.laid;
      rows = laid.same ∙ rows;
      free = laid.free;
      short = laid.short;
      told = laid.told;
      blocks = ap (λ (n : ℕ). slice_index new (n - 17)) long ∙ (laid.above (length old - 17) (omega arith) ∙ around.blocks);
      kept = ap (λ (n : ℕ). eqb (slice_index new (n - 18)) 1) long ∙ (ap (λ (n : ℕ). eqb n 1) (laid.above (length old - 18) (omega arith)) ∙ around.kept);
      quotas = λ n lt. ap (λ (k : ℕ). slice_index new (k - 16 + n)) long ∙ (laid.above (length old - 16 + n) (omega arith) ∙ around.quotas n lt);
    }

-- so many are they
pub returns-clause-wide : goal.returns-clause-wide
returns-clause-wide c = c.lay_rows.ensures.length ∙ c.in_ok-words.ensures.wide
