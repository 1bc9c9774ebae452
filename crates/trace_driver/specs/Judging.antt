-- What is said of the private functions of a check: where the reading of a log's lines stands, and that the numbers of
-- a verdict are small. An input has fewer lines than bytes, so a number of a line has 32 bits.
use Rattle.std.specs.Prelude.{◌≡◌, ℕ, ◌+◌, ◌≤◌, true, false, List, All, length}
use Rattle.history_check.specs.declared.verdict.Verdict.{Verdict}
use Rattle.history_check.specs.declared.verdict.Verdict.TheVariants.{Legal, Wrong as WrongVerdict}
use Rattle.history_check.specs.LogLines.{BeginsLog}
use Rattle.trace_driver.specs.declared.checking.LogReading.{LogReading}
use Rattle.trace_driver.specs.Checking.{KeepsLimits}

-- the reading stands behind these lines, which keep the limits: each belongs to the log, and they are as many as were
-- counted; or one came that doesn't
pub record StandsBehind (front : List (List ℕ)) (reading : LogReading) : Type 0 where
  pub kept : KeepsLimits front
  pub log : reading.over ≡ false → All BeginsLog front × (length front ≡ reading.lines)
  pub over : reading.over ≡ true → ¬ All BeginsLog front

-- the numbers of a verdict, behind so many lines of an input, are small
abbrev pub HasNumbers : ℕ → Verdict → Type 0
HasNumbers before (Legal entries) = entries ≤ 67108864
HasNumbers before (WrongVerdict line why) = before + line ≤ 67108866
