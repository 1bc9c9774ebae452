-- The lines of a log are read one by one, and none ends the run before a limit is passed; of a line, the digits at its
-- front and the byte behind them tell whether it belongs to the log. The numbers of a verdict are small, since an input
-- has fewer lines than bytes.
use Rattle.std.proofs.Common.{◌≡◌, ◌⊎◌, ◌↔◌, Bool, true, false, inl, inr, ℕ, zero, suc, ◌+◌, ◌<◌, ◌≤◌, List, [], ◌∷◌, ◌++◌, length, Result, Ok, Err, refl, sym}
use Rattle.std.proofs.Common.{ap, subst, ◌∙◌, arith, append-nil, append_assoc, length-append, IsTrue, get_or}
use Rattle.std.proofs.lemmas.List.{get_or_append_left}
use Rattle.std.specs.Prelude.{All}
use Rattle.std.proofs.lemmas.List.Elements.{All-push, All-nil, All-head, All-tail}
use Rattle.line_parts.specs.declared.refusal.What.{What}
use Rattle.line_parts.specs.declared.refusal.Refusal.{Refusal}
use Rattle.line_parts.specs.Leaves.{is}
use Rattle.line_parts.specs.Parts.{starts}
use Rattle.line_parts.specs.Reading.{digits_end}
use Rattle.history_check.specs.LogLines.{BeginsLog}
use Rattle.history_check.proofs.Beginnings.{ends_log, log_ends as digits_before, same_rest, no_rest}
use Rattle.trace_driver.specs.declared.checking.LogReading.{LogReading}
use Rattle.trace_driver.specs.Checking.{KeepsLimits, EndsBehind, EndsLog}
use Rattle.trace_driver.specs.Judging.{StandsBehind}
use Rattle.trace_driver.specs.Endings.{IsShort}
use Rattle.trace_driver.specs.declared.status.EarlyEnd.{EarlyEnd}
use Rattle.trace_driver.specs.declared.status.EarlyEnd.TheVariants.{Above}
use Rattle.trace_driver.specs.declared.status.Which.TheVariants.{Lines as OfLines}

-- ---- whether a line belongs to the log

-- behind digits a space tells that the line belongs to the log
pub begins_behind : (due : What) (text rest : List ℕ) → digits_end due text ≡ Ok (tt, rest) → IsTrue (starts (is 32) rest) ↔ BeginsLog text
begins_behind due text rest e = (
  (λ yes. ends_log due text rest e yes),
  (λ begins. let k = digits_before due text begins in ap (starts (is 32)) (same_rest _ _ _ e k.1)),
)

-- without digits it doesn't
pub begins_not : (due : What) (text : List ℕ) (why : Refusal) → digits_end due text ≡ Err why → IsTrue false ↔ BeginsLog text
begins_not due text why e = ((λ yes. absurd cc), (λ begins. let k = digits_before due text begins in absurd (no_rest _ _ _ e k.1)))

-- ---- the lines of a log, up to a limit

-- what holds of each holds of each of the first ones
all_front : {X : Type 0} (P : X → Type 0) (xs ys : List X) → All P (xs ++ ys) → All P xs
all_front P xs ys h k d low = subst P (get_or_append_left xs ys d k low) (h k d (omega (arith, low, length-append xs ys)))

-- and of each of the last ones
pub all_behind : {X : Type 0} (P : X → Type 0) (xs ys : List X) → All P (xs ++ ys) → All P ys
all_behind P [] ys h = h
all_behind P (x ∷ xs) ys h = all_behind P xs ys (All-tail P x (xs ++ ys) h)

none_before : (ls rest : List (List ℕ)) → ls ++ rest ≡ [] → ls ≡ []
none_before [] rest e = refl
none_before (l ∷ ls) rest e = absurd cc

-- a first part of lines with one behind them is all of them, or a first part of the lines before it
cut_last : (log rest front : List (List ℕ)) (x : List ℕ) → log ++ rest ≡ front ++ x ∷ []
    → (log ≡ front ++ x ∷ []) ⊎ ((more : List (List ℕ)) × (front ≡ log ++ more))
cut_last [] rest front x e = inr (front, refl)
cut_last (l ∷ ls) rest [] x e =
    let none : ls ≡ [] = none_before ls rest (let k : ls ++ rest ≡ [] = cc in k) in let first : l ≡ x = cc in inl (rw (none, first) refl)
cut_last (l ∷ ls) rest (f ∷ fs) x e =
    let first : l ≡ f = cc in let others : ls ++ rest ≡ fs ++ x ∷ [] = cc in
    elim (cut_last ls rest fs x others) [ inl all ↦ inl (rw (first, all) refl) | inr part ↦ inr (part.0, rw (first, part.1) refl) ]

-- lines that keep the limits keep them with one behind them that is short, where not all of them belong to the log
keeps_over : (front : List (List ℕ)) (text : List ℕ) → KeepsLimits front → IsShort text → ¬ All BeginsLog (front ++ text ∷ [])
    → KeepsLimits (front ++ text ∷ [])
keeps_over front text kept short not_all = record {
  short = All-push IsShort front text kept.short short;
  few = λ log rest whole begins. elim (cut_last log rest front text (sym whole)) [
    | inl all ↦ absurd (not_all (subst (All BeginsLog) all begins))
    | inr part ↦ kept.few log part.0 part.1 begins
  ];
}

-- before the first line nothing was counted
pub stands_first : (reading : LogReading) → reading.over ≡ false → reading.lines ≡ 0 → StandsBehind [] reading
stands_first reading over none = record {
  kept = record {
    short = All-nil IsShort;
    few = λ log rest whole begins. let long : 0 ≡ length log + length rest = ap length whole ∙ length-append log rest in omega arith;
  };
  log = λ not_over. (All-nil BeginsLog, sym none);
  over = λ is_over. absurd (cc (over, is_over));
}

-- a line behind one that doesn't belong to the log is taken
pub stands_over : (front : List (List ℕ)) (text : List ℕ) (reading : LogReading) → StandsBehind front reading → reading.over ≡ true → length text ≤ 65535
    → StandsBehind (front ++ text ∷ []) reading
stands_over front text reading stands over short =
    let not_all : ¬ All BeginsLog (front ++ text ∷ []) = λ all. stands.over over (all_front BeginsLog front (text ∷ []) all) in
    record { kept = keeps_over front text stands.kept short not_all; log = λ not_over. absurd (cc (over, not_over)); over = λ is_over. not_all }

-- the first line that doesn't belong to the log is taken, and the log is over
pub stands_ended : (front : List (List ℕ)) (text : List ℕ) (reading after : LogReading) → StandsBehind front reading → ¬ BeginsLog text
    → length text ≤ 65535 → after.over ≡ true → StandsBehind (front ++ text ∷ []) after
stands_ended front text reading after stands not_log short over =
    let not_all : ¬ All BeginsLog (front ++ text ∷ []) = λ all. not_log (All-head BeginsLog text [] (all_behind BeginsLog front (text ∷ []) all)) in
    record { kept = keeps_over front text stands.kept short not_all; log = λ not_over. absurd (cc (over, not_over)); over = λ is_over. not_all }

-- one line of the log more is taken, where it isn't one too many
pub stands_on : (front : List (List ℕ)) (text : List ℕ) (reading after : LogReading) → StandsBehind front reading → reading.over ≡ false → BeginsLog text
    → length text ≤ 65535 → reading.lines < 1048576 → after.over ≡ false → after.lines ≡ reading.lines + 1 → StandsBehind (front ++ text ∷ []) after
stands_on front text reading after stands over begins_text short below over_after lines_after =
    let so_far = stands.log over in
    let long : length (front ++ text ∷ []) ≡ length front + 1 = length-append front (text ∷ []) in
    record {
      kept = record {
        short = All-push IsShort front text stands.kept.short short;
        few = λ log rest whole begins. let all : length (front ++ text ∷ []) ≡ length log + length rest = ap length whole ∙ length-append log rest in
            omega (arith, so_far.1);
      };
      log = λ not_over. (All-push BeginsLog front text so_far.0 begins_text, omega (arith, so_far.1));
      over = λ is_over. absurd (cc (over_after, is_over));
    }

-- a line of the log that is one too many ends the run
pub one_too_many : (front : List (List ℕ)) (text : List ℕ) (reading : LogReading) → StandsBehind front reading → reading.over ≡ false → BeginsLog text
    → length text ≤ 65535 → 1048576 ≤ reading.lines → EndsBehind front text (Above OfLines 1048577)
one_too_many front text reading stands over begins_text short above =
    let so_far = stands.log over in
    let few : length front ≤ 1048576 = stands.kept.few front [] (sym (append-nil front)) so_far.0 in
    (short, refl, All-push BeginsLog front text so_far.0 begins_text, omega (arith, so_far.1))

-- the lines that were taken so far, those that are left, and where the reading stands
pub record LogSoFar (all left : List (List ℕ)) (reading : LogReading) : Type 0 where
  pub front : List (List ℕ)
  pub whole : all ≡ front ++ left
  pub stands : StandsBehind front reading

-- at the beginning no line is taken
pub log_first : (all : List (List ℕ)) (reading : LogReading) → reading.over ≡ false → reading.lines ≡ 0 → LogSoFar all all reading
log_first all reading over none = record { front = []; whole = refl; stands = stands_first reading over none }

-- one more line is taken, where the reading stands behind it then
pub log_next : (all texts : List (List ℕ)) (text : List ℕ) (reading after : LogReading) → (so_far : LogSoFar all (text ∷ texts) reading)
    → ((front : List (List ℕ)) → StandsBehind front reading → StandsBehind (front ++ text ∷ []) after) → LogSoFar all texts after
log_next all texts text reading after so_far takes = record {
  front = so_far.front ++ text ∷ [];
  whole = so_far.whole ∙ sym (append_assoc so_far.front (text ∷ []) texts);
  stands = takes so_far.front so_far.stands;
}

-- a line that ends the run is the first one that does
pub log_ends : (all texts : List (List ℕ)) (text : List ℕ) (reading : LogReading) (end : EarlyEnd) → (so_far : LogSoFar all (text ∷ texts) reading)
    → ((front : List (List ℕ)) → StandsBehind front reading → EndsBehind front text end) → EndsLog all end
log_ends all texts text reading end so_far ends = record {
  front = so_far.front;
  text = text;
  behind = texts;
  whole = so_far.whole;
  kept = so_far.stands.kept;
  ends = ends so_far.front so_far.stands;
}

-- where no line is left all of them keep the limits
pub log_over : (all : List (List ℕ)) (reading : LogReading) → LogSoFar all [] reading → KeepsLimits all
log_over all reading so_far = subst KeepsLimits (sym (so_far.whole ∙ append-nil so_far.front)) so_far.stands.kept
