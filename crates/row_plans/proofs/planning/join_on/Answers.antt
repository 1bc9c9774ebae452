use Rattle.std.proofs.Common.{rules, ℕ, ◌≡◌, ◌<◌, ◌≤◌, ◌+◌, ◌∙◌, true, false, drop, length, get_or, refl, ap, subst, arith}
use Rattle.std.specs.Prelude.{slice_index, Option}
use Rattle.page_types.specs.declared.TheConstants.{LIMIT}
use Rattle.page_types.specs.declared.calls.Kind.{Kind}
use Rattle.row_plans.specs.RowWords.{row_kind}
use Rattle.row_plans.specs.RowLists.{rows_start, ShowFrom, areas_from}
use Rattle.row_plans.specs.declared.planning.Come.{Come}
use Rattle.row_plans.specs.Plans.{IsPlaceOf}
use Rattle.row_plans.specs.Planning.{ShowTo, ends_with, GoesOn, come_to}
use Rattle.space_model.specs.Areas.{kind_at}
use Rattle.row_plans.proofs.RowPages.{row_pages, next_start}
use Rattle.row_plans.proofs.Splices.{last_longer, row_stays, next_stays, start_low}
use Rattle.row_plans.proofs.Comes.{come_kind}
use Rattle.row_plans.proofs.planning.join_on.Given.{Over}
use Rattle.row_plans.proofs.planning.join_on.Goals.{After-put_part, After-read_row-kind}
use Rattle.row_plans.proofs.planning.join_on.Goals as goal

-- what is left of the last row before is put as it was, up to where the row behind starts
part : (g : Over) (c : After-put_part g) (from : ℕ) (kinds others : ℕ → Option Kind) → ShowFrom 0 (g.R.Rows.words c.args.old.now c.args.hand.now) kinds
    → ((p : ℕ) → c.args.to ≤ p → p < LIMIT → others p ≡ kinds p) → ShowTo from c.args.rows.now.items c.args.to others
    → ShowTo from c.put_part.new.rows.items (rows_start (drop (come_to (g.R.Rows.number c.args.old.now c.args.hand.now) c.args.come)
    (g.R.Rows.words c.args.old.now c.args.hand.now))) others
part g c from kinds others show kept before =
    let words = g.R.Rows.words c.args.old.now c.args.hand.now in let number = g.R.Rows.number c.args.old.now c.args.hand.now in
    let come = c.requires.come in let end = come.end in let ahead = come.before.ahead in
    let limit = start_low words (come_to number c.args.come) kinds show in
    subst (λ (x : ℕ). ShowTo from c.put_part.new.rows.items x others) end (c.put_part.ensures.shows from others (omega arith)
    (λ p low high. kept p low (omega arith) ∙ come_kind words number kinds c.args.to c.args.come show come p low high) before)

-- there is a row behind, and its kind is loaded
behind : (g : Over) (c : After-read_row-kind g) → let words = g.R.Rows.words c.args.old.now c.args.hand.now in
    let next = come_to (g.R.Rows.number c.args.old.now c.args.hand.now) c.args.come in
    (next < length words) × (c.read_row-kind.result.1 ≡ row_kind (get_or words next 0))
behind g c =
    let words = g.R.Rows.words c.args.old.now c.args.hand.now in let number = g.R.Rows.number c.args.old.now c.args.hand.now in
    let next = come_to number c.args.come in
    let there : (number c.in-Some.next ≡ next) × (next < length words) = subst (IsPlaceOf words number next) c.in-Some.is c.requires.come.next in
    (there.1, c.read_row-kind.ensures.kind ∙ ap row_kind (c.load.ensures.word ∙ ap (slice_index words) there.0))

-- what goes ends one row further
further : (P : Type 0) (number : P → ℕ) (come : Come P) → come_to number come + 1 ≡ number come.at + (come.gone + 1)
further P number come = omega arith

-- the row behind is there
pub load-requires-clause-there : goal.load-requires-clause-there
load-requires-clause-there g c =
    let words = g.R.Rows.words c.args.old.now c.args.hand.now in let number = g.R.Rows.number c.args.old.now c.args.hand.now in
    let next = come_to number c.args.come in
    let there : (number c.in-Some.next ≡ next) × (next < length words) = subst (IsPlaceOf words number next) c.in-Some.is c.requires.come.next in
    let same = there.0 in let low = there.1 in
    omega arith

-- one more row goes
pub returns-then-ends_with-clause-there : goal.returns-then-ends_with-clause-there
returns-then-ends_with-clause-there g c =
    let there = (behind g (goal.at.returns-then-ends_with-clause-there g c).After-read_row-kind).0 in omega arith

-- the row behind starts no lower than the one that goes
pub returns-then-ends_with-clause-ahead : goal.returns-then-ends_with-clause-ahead
returns-then-ends_with-clause-ahead g c =
    let words = g.R.Rows.words c.args.old.now c.args.hand.now in let number = g.R.Rows.number c.args.old.now c.args.hand.now in
    let list = g.R.Rows.are_rows c.args.old.now c.args.hand.now c.requires.may in let ahead = c.requires.come.before.ahead in
    let up = next_start words (kind_at (areas_from words)) (come_to number c.args.come) list.show in
    let far : c.args.to ≤ rows_start (drop (come_to number c.args.come + 1) words) = omega arith in
    subst (λ (n : ℕ). c.args.to ≤ rows_start (drop n words)) (further _ number c.args.come) far

-- a row that goes is shown by the last one that comes
pub returns-then-ends_with-clause-shows : goal.returns-then-ends_with-clause-shows
returns-then-ends_with-clause-shows g c = λ from kinds others show kept before.
    let h = goal.at.returns-then-ends_with-clause-shows g c in let words = g.R.Rows.words c.args.old.now c.args.hand.now in
    let number = g.R.Rows.number c.args.old.now c.args.hand.now in let next = come_to number c.args.come in let come = c.requires.come in
    let ahead = come.before.ahead in
    let row = behind g h.After-read_row-kind in let kind = c.read_row-kind.result.1 in
    let same_kind : ends_with c.put_part.new.rows.items kind ≡ true = search rules in
    let r = row_pages words kinds next show row.0 refl row.1 refl in
    let begins = r.begins in let some = r.some in let low_end = r.low in
    subst (λ (n : ℕ). ShowTo from c.put_part.new.rows.items (rows_start (drop n words)) others) (further _ number c.args.come)
    (last_longer from c.put_part.new.rows.items (rows_start (drop next words)) (rows_start (drop (next + 1) words)) kind others c.read_row-kind.ensures.named
    same_kind (omega arith) (λ p low high. kept p (omega arith) (omega arith) ∙ r.all p (omega arith) high)
    (part g h.After-put_part from kinds others show kept before))

-- the one behind it is of another kind
pub returns-then-ends_with-clause-differs : goal.returns-then-ends_with-clause-differs
returns-then-ends_with-clause-differs g c =
    let words = g.R.Rows.words c.args.old.now c.args.hand.now in let number = g.R.Rows.number c.args.old.now c.args.hand.now in
    let row = behind g (goal.at.returns-then-ends_with-clause-differs g c).After-read_row-kind in
    let same_kind : ends_with c.put_part.new.rows.items c.read_row-kind.result.1 ≡ true = search rules in
    subst (λ (n : ℕ). GoesOn c.put_part.new.rows.items (drop n words)) (further _ number c.args.come)
    (next_stays c.put_part.new.rows.items _ _ _ _ (g.R.Rows.are_rows c.args.old.now c.args.hand.now c.requires.may).show row.0 row.1 same_kind)

-- where the row behind stays, the rows that come end before it
pub returns-else-ends_with-clause-shows : goal.returns-else-ends_with-clause-shows
returns-else-ends_with-clause-shows g c = part g (goal.at.returns-else-ends_with-clause-shows g c).After-put_part

-- it is of another kind
pub returns-else-ends_with-clause-differs : goal.returns-else-ends_with-clause-differs
returns-else-ends_with-clause-differs g c =
    let other : ends_with c.put_part.new.rows.items c.read_row-kind.result.1 ≡ false = search rules in
    row_stays c.put_part.new.rows.items (g.R.Rows.words c.args.old.now c.args.hand.now) (come_to (g.R.Rows.number c.args.old.now c.args.hand.now) c.args.come)
    _ (behind g (goal.at.returns-else-ends_with-clause-differs g c).After-read_row-kind).1 other

-- where there is no row behind, they end at LIMIT
pub returns-in_default-clause-shows : goal.returns-in_default-clause-shows
returns-in_default-clause-shows g c = part g (goal.at.returns-in_default-clause-shows g c).After-put_part
