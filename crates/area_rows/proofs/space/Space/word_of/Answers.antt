use Rattle.std.proofs.Common.{inl, refl, sym, subst, arith}
use Rattle.area_guard.specs.declared.guard.Pass.{Pass}
use Rattle.area_guard.specs.Reads.{HasRead}
use Rattle.plan_words.specs.Reading.{no_reading}
use Rattle.area_rows.proofs.Reading.{row_reads, step_taken}
use Rattle.area_rows.proofs.space.Space.word_of.Goals as goal

-- a word that was read isn't read again
pub returns-then-found-gt0-clause-reading : goal.returns-then-found-gt0-clause-reading
returns-then-found-gt0-clause-reading g c = no_reading c.args.caller.now.seat

pub returns-then-heads-gt0-clause-reading : goal.returns-then-heads-gt0-clause-reading
returns-then-heads-gt0-clause-reading g c = no_reading c.args.caller.now.seat

-- the first slot is in reach
pub load_row-requires-clause-reach : goal.load_row-requires-clause-reach
load_row-requires-clause-reach g c = let some_blocks = c.requires.some in omega arith

-- the first row starts at page 0
pub returns-clause-first : goal.returns-clause-first
returns-clause-first g c = λ place head. (
  subst (λ (p : Pass). HasRead p.rows 0 c.load_row.result) (sym c.load_row.ensures.step.pass) (inl (refl, refl)),
  c.load_row.ensures.first refl,
)

-- its load is a reading
pub returns-clause-reading : goal.returns-clause-reading
returns-clause-reading g c = row_reads c.args.caller.now.seat c.load_row.new.caller.seat 0 c.load_row.result c.load_row.ensures.step

-- and one step
pub returns-clause-bound : goal.returns-clause-bound
returns-clause-bound g c = let t = step_taken _ _ _ _ c.load_row.ensures.step in omega arith

pub returns-clause-counted : goal.returns-clause-counted
returns-clause-counted g c = let t = step_taken _ _ _ _ c.load_row.ensures.step in let b = c.tick.ensures in omega arith
