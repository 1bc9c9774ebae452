-- The verdict on an input is that on the lines behind its opening. Its numbers are small, since an input has fewer
-- lines than bytes, and a log as many entries as lines.
use Rattle.std.proofs.Common.{◌≡◌, ◌⊎◌, Bool, true, false, inl, inr, ℕ, zero, suc, ◌+◌, ◌<◌, ◌≤◌, List, [], ◌∷◌, ◌++◌, length}
use Rattle.std.proofs.Common.{Some, refl, sym, ap, subst, ◌∙◌, arith, length-append}
use Rattle.std.specs.Prelude.{◌==◌, if◌then◌else◌}
use Rattle.std.specs.List.{AllZip}
use Rattle.page_types.specs.declared.TheConstants.{ROWS}
use Rattle.space_model.specs.declared.areas.Area.{Area}
use Rattle.space_model.specs.declared.entries.Entry.{Entry}
use Rattle.space_model.specs.Areas.{HasKinds, kind_at, row_count}
use Rattle.line_parts.specs.Lines.{lines_of, put_first}
use Rattle.history_check.specs.declared.verdict.Verdict.{Verdict}
use Rattle.history_check.specs.declared.verdict.Verdict.TheVariants.{Legal, Wrong as WrongVerdict}
use Rattle.history_check.specs.declared.verdict.WrongLog.{WrongLog}
use Rattle.history_check.specs.declared.verdict.WrongLog.TheVariants.{Rest}
use Rattle.history_check.specs.LogLines.{IsLogLine}
use Rattle.history_check.specs.Verdicts.{IsVerdict, FailsInLog, FailsInRest}
use Rattle.trace_driver.specs.Checking.{KeepsLimits, IsInputVerdict}
use Rattle.trace_driver.specs.Judging.{HasNumbers}
use Rattle.trace_driver.specs.Script.{ReadsMaps}
use Rattle.trace_driver.specs.TraceReader.{Opens}
use Rattle.trace_driver.specs.Script.ReadsMaps.{over, empty, mapped, past_end}
use Rattle.std.proofs.lemmas.Option.{slice_get_within}

-- ---- the verdict

-- the verdict on the lines behind the opening is that on the input
pub input_verdict : (opening : Bool) (bytes : List ℕ) (areas : List Area) (past next before : ℕ) (left : List (List ℕ)) (start : List Area) (verdict : Verdict)
    → Opens opening (lines_of bytes) areas past next left → next ≡ before + 1 → KeepsLimits left → HasKinds (kind_at areas) start
    → row_count start ≤ ROWS → IsVerdict start left verdict → IsInputVerdict opening bytes before verdict
input_verdict opening bytes areas past next before left start verdict opens number limits kinds few is = record {
  head = record { areas = areas; past = past; next = next; left = left; opens = opens };
  next = number;
  limits = limits;
  start = start;
  kinds = kinds;
  few_rows = few;
  verdict_is = is;
}

-- ---- its numbers

-- maps lines and the empty line behind them have their numbers
maps_few : {number from past next : ℕ} {texts left : List (List ℕ)} {areas : List Area} → ReadsMaps number from texts areas past next left
    → next + length left ≤ number + length texts
maps_few over = omega arith
maps_few empty = omega arith
maps_few (mapped next rest) = let few = maps_few rest in omega arith
maps_few (past_end next rest) = let few = maps_few rest in omega arith

-- and so an input with lines without maps lines
pub opens_few : (has : Bool) (texts left : List (List ℕ)) (areas : List Area) (past next : ℕ) → Opens has texts areas past next left
    → next + length left ≤ 1 + length texts
opens_few true texts left areas past next h = maps_few h
opens_few false texts left areas past next h = omega (arith, h.2, ap length h.3)

put_few : (byte : ℕ) (lines : List (List ℕ)) (n : ℕ) → length lines ≤ n → length (put_first byte lines) ≤ n + 1
put_few byte [] n few = omega arith
put_few byte (line ∷ lines) n few = omega arith

of_byte : (is_end : Bool) (byte : ℕ) (lines : List (List ℕ)) (n : ℕ) → length lines ≤ n → length (if is_end then [] ∷ lines else put_first byte lines) ≤ n + 1
of_byte true byte lines n few = omega arith
of_byte false byte lines n few = put_few byte lines n few

-- a text has at most as many lines as bytes
pub lines_few : (text : List ℕ) → length (lines_of text) ≤ length text
lines_few [] = omega arith
lines_few (byte ∷ text) = let few = of_byte (byte == 10) byte (lines_of text) (length text) (lines_few text) in omega (arith, few)

-- there are as many entries as lines
as_many_lines : (lines : List (List ℕ)) (entries : List Entry) → AllZip IsLogLine lines entries → length lines ≡ length entries
as_many_lines [] [] h = refl
as_many_lines [] (e ∷ es) h = absurd h
as_many_lines (l ∷ ls) [] h = absurd h
as_many_lines (l ∷ ls) (e ∷ es) h = let rest = as_many_lines ls es h.1 in omega arith

-- a verdict has no more entries than there are lines, and a wrong line is one of them or the one behind them
abbrev IsAmong : ℕ → Verdict → Type 0
IsAmong lines (Legal entries) = entries ≤ lines
IsAmong lines (WrongVerdict line why) = line ≤ lines + 1

fails_among : (A : List Area) (lines : List (List ℕ)) (line : ℕ) (why : WrongLog) → FailsInLog A lines line why → line ≤ length lines + 1
fails_among A lines line why h = let whole = ap length h.whole ∙ length-append h.front (h.text ∷ h.behind) in omega (arith, whole, h.place)

rest_among : (A : List Area) (lines : List (List ℕ)) (line : ℕ) → FailsInRest A lines line → line ≤ length lines + 1
rest_among A lines line h = let whole = ap length h.cut.whole ∙ length-append h.log h.rest in elim h.fails.fails [
  | inl there ↦ let low = slice_get_within h.rest h.count there.0 there.1 in omega (arith, whole, h.place)
  | inr ended ↦ omega (arith, whole, h.place, ended.0)
]

is_among : (A : List Area) (lines : List (List ℕ)) (verdict : Verdict) → IsVerdict A lines verdict → IsAmong (length lines) verdict
is_among A lines (Legal n) (entries, good, count) =
    let whole = ap length good.cut.whole ∙ length-append good.log good.rest in
    let many = as_many_lines good.log entries good.right.spelled in omega (arith, whole, many, count)
is_among A lines (WrongVerdict line Rest) h = rest_among A lines line h
is_among A lines (WrongVerdict line why) h = fails_among A lines line why h

numbers_of : (verdict : Verdict) (before lines : ℕ) → IsAmong lines verdict → before + lines ≤ 67108864 → HasNumbers before verdict
numbers_of (Legal n) before lines among few = omega (arith, among, few)
numbers_of (WrongVerdict line why) before lines among few = omega (arith, among, few)

-- the numbers of the verdict on an input are small
pub small_numbers : (opening : Bool) (bytes : List ℕ) (before : ℕ) (verdict : Verdict) → IsInputVerdict opening bytes before verdict
    → length bytes ≤ 67108864 → HasNumbers before verdict
small_numbers opening bytes before verdict h few =
    let head = opens_few opening (lines_of bytes) h.head.left h.head.areas h.head.past h.head.next h.head.opens in
    let lines = lines_few bytes in
    numbers_of verdict before (length h.head.left) (is_among h.start h.head.left verdict h.verdict_is) (omega (arith, head, lines, few, h.next))
