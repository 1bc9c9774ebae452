use Rattle.std.proofs.Common.{ℕ, ◌≡◌, ◌+◌, ◌-◌, ◌/◌, ◌^◌, ◌<◌, ◌≤◌, List, drop, sym, ap, subst, ◌∙◌, arith, rules}
use Rattle.std.specs.Prelude.{slice_index, min}
use Rattle.page_types.specs.declared.TheConstants.{LIMIT}
use Rattle.row_plans.specs.RowLists.{rows_start}
use Rattle.row_blocks.specs.Blocks.{blocks_of, body_at, rows_of, rows_in, rank}
use Rattle.row_blocks.specs.Searches.{IsLast}
use Rattle.row_blocks.proofs.Finds.{end_there}
use Rattle.row_blocks.proofs.Places.{head_there, row_there}
use Rattle.row_blocks.proofs.finding.find.Given.{Over}
use Rattle.row_blocks.proofs.finding.find.Goals.{After-halve-found}
use Rattle.row_blocks.proofs.finding.find.Goals as goal

-- the words before, which are the words after
abbrev words : (g : Over) (c : After-halve-found g) → List ℕ
words g c = g.W.Loads.words c.args.words.now c.args.hand.now

-- the head that was found, among the words of before
head : (g : Over) (c : After-halve-found g) → IsLast (words g c) 0
    (blocks_of c.args.blocks (words g c)) c.args.page c.halve-heads.result.place c.halve-heads.result.word
    c.halve-heads.result.end
head g c =
    let to = c.halve-heads.result in
    coe 0 1 (j. IsLast (c.load-used.ensures.words j) 0 (c.load-used.ensures.word j) c.args.page to.place to.word to.end) c.halve-heads.ensures.found

-- nothing was stored meanwhile
same : (g : Over) (c : After-halve-found g) → g.W.Loads.words c.args.words.now c.body_of-body.new.hand ≡ words g c
same g c = c.body_of-body.ensures.words ∙ (c.halve-heads.ensures.words ∙ c.load-used.ensures.words)

-- where the body of the block stands
at : (g : Over) (c : After-halve-found g) → c.body_of-body.result.at
    ≡ body_at c.args.blocks (words g c) c.halve-heads.result.place
at g c = c.body_of-body.ensures.at
    ∙ ap (λ (l : List ℕ). body_at c.args.blocks l c.halve-heads.result.place) (c.halve-heads.ensures.words ∙ c.load-used.ensures.words)

-- and how many rows it has
rows : (g : Over) (c : After-halve-found g) → c.body_of-body.result.rows
    ≡ rows_of c.args.blocks (words g c) c.halve-heads.result.place
rows g c = c.body_of-body.ensures.rows
    ∙ ap (λ (l : List ℕ). rows_of c.args.blocks l c.halve-heads.result.place) (c.halve-heads.ensures.words ∙ c.load-used.ensures.words)

-- the row that was found in its block
row : (g : Over) (c : After-halve-found g) → IsLast (words g c)
    (body_at c.args.blocks (words g c) c.halve-heads.result.place - 1)
    (rows_of c.args.blocks (words g c) c.halve-heads.result.place + 1) c.args.page
    c.halve-found.result.place c.halve-found.result.word c.halve-found.result.end
row g c =
    let to = c.halve-found.result in
    coe 0 1 (j. IsLast (same g c j) (at g c j - 1) (rows g c j + 1) c.args.page to.place to.word to.end) c.halve-found.ensures.found

-- where the row behind it starts
end_is : (g : Over) (c : After-halve-found g)
    → (c.halve-found.result.place + 1 ≡ c.body_of-body.result.rows + 1 → c.halve-found.result.end ≡ c.halve-heads.result.end)
    → min c.halve-found.result.end LIMIT
    ≡ rows_start (drop (rank c.args.blocks (words g c) c.halve-heads.result.place c.halve-found.result.place + 1)
    (rows_in c.args.blocks (words g c)))
end_is g c last =
    let one = words g c in
    let i : ℕ = c.halve-heads.result.place in
    let h = head g c in
    let r = row g c in
    let count = rows g c in
    end_there i c.requires.laid h.below c.halve-found.result.place c.halve-found.result.end c.halve-heads.result.end (omega arith) c.requires.low r.follows
    (λ e. last (omega arith)) (λ lt. let next : 0 + (i + 1) ≡ i + 1 = omega arith in h.follows lt ∙ ap (λ (n : ℕ). slice_index one n / 64) next)
    (λ e. let b = c.halve-heads.ensures.last (omega arith) in omega arith)

-- its block is in use
pub returns-then-found-gt0-clause-block : goal.returns-then-found-gt0-clause-block
returns-then-found-gt0-clause-block g c = let h = head g (goal.at.returns-then-found-gt0-clause-block g c).After-halve-found in h.below

-- and has so many rows
pub returns-then-found-gt0-clause-place : goal.returns-then-found-gt0-clause-place
returns-then-found-gt0-clause-place g c = let r = row g (goal.at.returns-then-found-gt0-clause-place g c).After-halve-found in omega arith

-- a row of a body
pub returns-then-found-gt0-clause-word : goal.returns-then-found-gt0-clause-word
returns-then-found-gt0-clause-word g c =
    let one = g.W.Loads.words c.args.words.now c.args.hand.now in
    let k = (goal.at.returns-then-found-gt0-clause-word g c).After-halve-found in
    let h = head g k in
    let r = row g k in
    let some = c.if-found-gt0.true in
    r.here some ∙ sym (row_there _ one c.halve-heads.result.place c.requires.laid h.below c.halve-found.result.place some (omega arith))

-- and the one behind it
pub returns-then-found-gt0-clause-end : goal.returns-then-found-gt0-clause-end
returns-then-found-gt0-clause-end g c =
    c.min-end.ensures ∙ end_is g (goal.at.returns-then-found-gt0-clause-end g c).After-halve-found c.halve-found.ensures.last

-- it starts at or before the page
pub returns-then-found-gt0-clause-from : goal.returns-then-found-gt0-clause-from
returns-then-found-gt0-clause-from g c = let r = row g (goal.at.returns-then-found-gt0-clause-from g c).After-halve-found in r.before c.if-found-gt0.true

-- so many steps are made up to a row of a body with fewer rows than 2 ^ n
steps_in : (g : Over) (c : After-halve-found g) (n m : ℕ) → rows_of c.args.blocks (words g c) c.halve-heads.result.place < 2 ^ n
    → blocks_of c.args.blocks (words g c) ≤ 2 ^ m
    → g.W.Loads.steps c.args.words.now c.halve-found.new.hand ≤ g.W.Loads.steps c.args.words.now c.args.hand.now + (m + (2 + n))
steps_in g c n m few le =
    let to = c.halve-heads.ensures.steps m (omega arith) in let count = rows g c in let within = c.halve-found.ensures.steps n (omega arith) in omega arith

-- any body takes seven
steps_all : (g : Over) (c : After-halve-found g) (m : ℕ) → blocks_of c.args.blocks (words g c) ≤ 2 ^ m
    → g.W.Loads.steps c.args.words.now c.halve-found.new.hand ≤ g.W.Loads.steps c.args.words.now c.args.hand.now + (m + 9)
steps_all g c m le = steps_in g c 7 m (omega arith) le

-- the first one, which has fewer rows, takes one less
steps_first : (g : Over) (c : After-halve-found g) → 0 ≡ c.halve-heads.result.place → (m : ℕ) → blocks_of c.args.blocks (words g c) ≤ 2 ^ m
    → g.W.Loads.steps c.args.words.now c.halve-found.new.hand ≤ g.W.Loads.steps c.args.words.now c.args.hand.now + (m + 8)
steps_first g c first m le = steps_in g c 6 m (subst (λ (i : ℕ). rows_of c.args.blocks (words g c) i < 64) first c.requires.short) le

-- and the most blocks take eleven
eleven : (g : Over) (c : After-halve-found g) → blocks_of c.args.blocks (words g c) ≤ 2 ^ 11
eleven g c = omega arith

-- the steps to a row of a body
pub returns-then-found-gt0-clause-fewer : goal.returns-then-found-gt0-clause-fewer
returns-then-found-gt0-clause-fewer g c = steps_all g (goal.at.returns-then-found-gt0-clause-fewer g c).After-halve-found

-- over the most blocks
pub returns-then-found-gt0-clause-steps : goal.returns-then-found-gt0-clause-steps
returns-then-found-gt0-clause-steps g c =
    let k = (goal.at.returns-then-found-gt0-clause-steps g c).After-halve-found in
    let all = steps_all g k 11 (eleven g k) in
    omega arith

-- all loads are one step
kept_to : (g : Over) (c : After-halve-found g) → g.W.Loads.kept c.args.words.now c.args.hand.now c.halve-found.new.hand
kept_to g c = g.W.Loads.steps_on _ _ _ _
    (g.W.Loads.steps_on _ _ _ _ (g.W.Loads.steps_on _ _ _ _ c.load-used.ensures.kept c.halve-heads.ensures.kept) c.body_of-body.ensures.kept)
    c.halve-found.ensures.kept

-- those of a row of a body
pub returns-then-found-gt0-clause-kept : goal.returns-then-found-gt0-clause-kept
returns-then-found-gt0-clause-kept g c = kept_to g (goal.at.returns-then-found-gt0-clause-kept g c).After-halve-found

-- a head that was loaded
pub returns-then-heads-gt0 : goal.returns-then-heads-gt0
returns-then-heads-gt0 g c =
    let one = g.W.Loads.words c.args.words.now c.args.hand.now in
    let nb = c.args.blocks in
    let k = (goal.at.returns-then-heads-gt0 g c).After-halve-found in
    let h = head g k in
    let r = row g k in
    let all = steps_all g k 11 (eleven g k) in
    let i : ℕ = c.halve-heads.result.place in
    let at : 0 + i ≡ i = omega arith in
    let none : 0 ≡ c.halve-found.result.place = omega arith in
    record {
      block = h.below;
      place = omega arith;
      word = h.here c.if-heads-gt0.true ∙ (ap (slice_index one) at
          ∙ (sym (head_there nb one i c.requires.laid h.below) ∙ ap (λ (j : ℕ). slice_index (rows_in nb one) (rank nb one i j)) none));
      end = c.min-end.ensures ∙ end_is g k c.halve-found.ensures.last;
      from = h.before c.if-heads-gt0.true;
      until = omega arith;
      words = c.halve-found.ensures.words ∙ same g k;
      may = c.halve-found.ensures.may;
      rows = search rules;
      kept = kept_to g k;
      steps = omega arith;
      fewer = steps_all g k;
    }

-- and the first row of all, which is loaded then
pub returns : goal.returns
returns g c =
    let one = g.W.Loads.words c.args.words.now c.args.hand.now in
    let nb = c.args.blocks in
    let k = (goal.at.returns g c).After-halve-found in
    let h = head g k in
    let r = row g k in
    let none : 0 ≡ c.halve-found.result.place = omega arith in
    let zero : 0 ≡ c.halve-heads.result.place = omega arith in
    let same_1 = c.halve-found.ensures.words ∙ same g k in
    let all = steps_first g k zero 11 (eleven g k) in
    let start = c.load-word.ensures.word ∙ ap (λ (l : List ℕ). slice_index l 0) same_1 in
    record {
      block = h.below;
      place = omega arith;
      word = start ∙ (sym (head_there nb one 0 c.requires.laid c.requires.laid.some) ∙ (λ j. slice_index (rows_in nb one) (rank nb one (zero j) (none j))));
      end = c.min-end.ensures ∙ end_is g k c.halve-found.ensures.last;
      from = let low = ap (λ (w : ℕ). w / 64) start ∙ c.requires.first in omega arith;
      until = omega arith;
      words = c.load-word.ensures.words ∙ same_1;
      may = c.load-word.ensures.may;
      rows = search rules;
      kept = g.W.Loads.steps_on _ _ _ _ (kept_to g k) c.load-word.ensures.kept;
      steps = omega arith;
      fewer = λ m le. let some = steps_first g k zero m le in omega arith;
    }
