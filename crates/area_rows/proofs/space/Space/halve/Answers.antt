use Rattle.std.proofs.Common.{rules, arith, ℕ, ◌≡◌, ◌+◌, ◌-◌, ◌*◌, ◌/◌, ◌<◌, ap, ◌∙◌, refl, subst, sym, inl, inr}
use Rattle.std.proofs.lemmas.Bool.{cases_lt}
use Rattle.std.specs.Prelude.{Option}
use Rattle.lock_core.specs.declared.range.Held.{Held}
use Rattle.row_blocks.proofs.Finds.{HasHalved, halves_none, halves_on}
use Rattle.area_guard.specs.declared.guard.Pass.{Pass}
use Rattle.area_guard.specs.Rows.{blocks_by, IsOneOf}
use Rattle.area_guard.specs.Reads.{slots_by, IsHeldPage}
use Rattle.area_rows.specs.Halving.{slots_on, IsAmong}
use Rattle.area_rows.proofs.Halving.{all_rows, narrowed}
use Rattle.area_rows.proofs.LayoutLoads.{blocks_few}
use Rattle.area_rows.proofs.Reading.{row_reads, step_taken}
use Rattle.plan_words.specs.Reading.{no_reading, reading_on}
use Rattle.area_rows.proofs.space.Space.halve.Goals as goal

-- the row of the page is among all of them
pub halve-init : goal.halve-init
halve-init g c = record {
  reading = no_reading c.args.caller.now.seat;
  laid = refl;
  left = refl;
  rows = search rules;
  rest = c.requires.rest;
  counted = refl;
  among = all_rows c.args.caller.now.seat.pass.rows c.args.page c.args.count c.args.last (slots_on c.args.from) 0 c.requires.some;
  limit = c.requires.limit;
  steps = halves_none c.args.caller.now.seat.trace.taken c.args.count;
}

-- there is room for the middle row
pub load_row-read-requires-clause-reach : goal.load_row-read-requires-clause-reach
load_row-read-requires-clause-reach g c =
    let i = c.halve.invariant in let table = ap blocks_by i.reading.table in
    let room = c.requires.room in let there = i.among.there in let lt = c.halve-test.true in omega arith

-- and its slot fits
pub overflow_add-from : goal.overflow_add-from
overflow_add-from g c =
    let room = c.requires.room in let few = blocks_few c.args.caller.now.seat.table in let there = c.halve.invariant.among.there in omega arith

-- one row more is read, and the row of the page is among the half that is left
pub halve-preserved : goal.halve-preserved
halve-preserved g c =
    let i = c.halve.invariant in let w = c.load_row-read.ensures in let page = c.args.page in let from = c.args.from in
    let middle : ℕ = from + (c.halve.base + c.halve.size / 2) in
    let seat = c.halve.caller.seat in let new = c.load_row-read.new.caller.seat in let taken = step_taken seat new _ _ w.step in
    let side = w.side page (subst (λ (h : Option Held). IsHeldPage h page) (sym i.reading.held) c.requires.held) in
    let start = c.read_row-start.result.0 in let up = c.starts_up_to-up.result in let there = i.among.there in
    let more : 1 < c.halve.size = let lt = c.halve-test.true in omega arith in
    let below = w.below (subst (λ (l : _). IsOneOf (slots_by l) middle) (sym i.laid)
    (c.requires.there (c.halve.base + c.halve.size / 2) (omega arith) (omega arith))) in
    let at = c.read_row-start.ensures.start in
    record {
      reading = reading_on c.args.caller.now.seat seat new i.reading (row_reads seat new middle c.load_row-read.result w.step);
      laid = ap (λ (p : Pass). p.laid) w.step.pass ∙ i.laid;
      left = w.left ∙ i.left;
      rows = search rules;
      rest = ap (λ (p : Pass). p.pending) w.step.pass ∙ i.rest;
      counted = let t = c.tick.ensures in let b = i.counted in omega arith;
      among = subst (λ (p : Pass). IsAmong p.rows page c.args.count c.args.last (slots_on from) (c.halve.base + c.halve.size / 2 * up)
          (c.halve.size - c.halve.size / 2) c.pick-word.result c.pick-end.result) (sym w.step.pass)
          (narrowed seat.pass.rows page c.args.count c.args.last (slots_on from) c.halve.base c.halve.size c.halve.word c.halve.end
          c.load_row-read.result start (c.halve.base + c.halve.size / 2 * up) c.pick-word.result c.pick-end.result i.among more side at
          (λ low. let one : up ≡ 1 = c.starts_up_to-up.ensures.upper low in
          let all : c.halve.size / 2 * up ≡ c.halve.size / 2 * 1 = ap (λ (n : ℕ). c.halve.size / 2 * n) one in
          (omega arith, c.pick-word.ensures.one one, c.pick-end.ensures.one one)) (λ high. let zero_is : up ≡ 0 = c.starts_up_to-up.ensures.lower high in
          let none : c.halve.size / 2 * up ≡ c.halve.size / 2 * 0 = ap (λ (n : ℕ). c.halve.size / 2 * n) zero_is in
          (omega arith, c.pick-word.ensures.zero zero_is, c.pick-end.ensures.zero zero_is)));
      limit = elim (cases_lt page start) [
        | inl high ↦ let e = c.pick-end.ensures.zero (c.starts_up_to-up.ensures.lower high) in omega arith
        | inr low ↦ let e = c.pick-end.ensures.one (c.starts_up_to-up.ensures.upper (omega arith)) in let l = i.limit in omega arith
      ];
      steps = subst (λ (n : ℕ). HasHalved c.args.caller.now.seat.trace.taken n c.args.count (c.halve.size - c.halve.size / 2)) (sym taken)
          (halves_on c.args.caller.now.seat.trace.taken seat.trace.taken c.args.count c.halve.size (c.halve.size - c.halve.size / 2) i.steps more
          (omega arith));
    }

-- one place is left
pub returns-clause-found : goal.returns-clause-found
returns-clause-found g c =
    let i = c.halve.invariant in let out = c.halve-test.false in let some = i.among.some in
    let one : c.halve.size ≡ 1 = omega arith in
    subst (λ (n : ℕ). IsAmong c.halve.caller.seat.pass.rows c.args.page c.args.count c.args.last (slots_on c.args.from) c.halve.base n c.halve.word c.halve.end)
    one i.among

-- as many steps as halvings
pub returns-clause-bound : goal.returns-clause-bound
returns-clause-bound g c = c.halve.invariant.steps.most
