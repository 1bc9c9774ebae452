-- What a run printed with its log is good: its entries have workers below 16, the lines of each worker rise as those of
-- the input do, and they run from the opening areas to the areas whose maps follow.
use Rattle.std.proofs.Common.{◌≡◌, ◌≢◌, ◌⊎◌, ℕ, suc, ◌<◌, ◌≤◌, Bool, true, false, cond, List, [], ◌∷◌, ◌++◌, length, map, get_or}
use Rattle.std.proofs.Common.{Option, Some, refl, sym, ap, subst, ◌∙◌, inl, inr, arith, append_assoc, not, codes, decimal}
use Rattle.std.specs.Prelude.{All, ◌==◌, if◌then◌else◌}
use Rattle.std.specs.List.{AllPairs, filter}
use Rattle.std.proofs.lemmas.Bool.{cases_lt}
use Rattle.std.proofs.lemmas.Bool.Decides.{eqb_tells}
use Rattle.std.proofs.lemmas.List.{append_cancel_left}
use Rattle.std.proofs.lemmas.List.Elements.{All-cons, All-head, All-nil, All-tail}
use Rattle.std.proofs.lemmas.List.Kept.{AllPairs-cons, AllPairs-filter}
use Rattle.space_model.specs.declared.areas.Area.{Area}
use Rattle.space_model.specs.declared.entries.Entry.{Entry}
use Rattle.space_model.specs.Areas.{IsAreaList}
use Rattle.space_model.proofs.Histories.{area_state, one_state}
use Rattle.area_rows.proofs.Storing.{all_legal}
use Rattle.area_rows.specs.Callers.{ClosedView}
use Rattle.area_rows.specs.History.{entries_of}
use Rattle.line_parts.specs.Lines.{lines_of}
use Rattle.maps_printer.specs.Lines.{changes_text, differing_text, log_text, maps_text, summary_text, touched_text}
use Rattle.line_parts.specs.Leaves.{worth}
use Rattle.round_trip.proofs.LogsRead.{lacks, decimal_lacks}
use Rattle.history_check.specs.Laws.{PrintedLogIsGood, IsTouchedLine}
use Rattle.history_check.specs.Logs.{IsGoodLog, WorkersRise}
use Rattle.history_check.specs.declared.verdict.Verdict.TheVariants.{Legal}
use Rattle.history_check.specs.Verdicts.{IsVerdict}
use Rattle.trace_threads.specs.declared.worker.Line.{Line as Turn}
use Rattle.trace_threads.specs.Workers.{AreEntriesOf}
use Rattle.command_words.specs.declared.commands.Command.{Command}
use Rattle.command_words.specs.declared.commands.Command.TheVariants.{Play, Load}
use Rattle.command_words.specs.declared.commands.Options.{Options}
use Rattle.command_words.specs.Commands.{AskFor, AskForOne, HasRanges}
use Rattle.command_words.proofs.CommandLemmas.{has_ranges}
use Rattle.trace_driver.specs.declared.status.Status.{Status}
use Rattle.trace_driver.specs.declared.trace.Line.{Line}
use Rattle.std.specs.Io.KnownBytes.{Appends}
use Rattle.trace_driver.specs.Checking.{HasRead}
use Rattle.trace_driver.specs.Dealt.{worker_of, own_lines, worker_lines, played_line}
use Rattle.trace_driver.specs.Play.{IsHistoryOf}
use Rattle.trace_driver.specs.Laws.{LogsAreGood, HasGoodLog, LegalFrom}
use Rattle.trace_driver.specs.Report.{LinesRise, asked_changes, asked_log, asked_touched, refused_count, CountsTouched}
use Rattle.trace_driver.specs.Run.{IsReport, Reports, Wrote}
use Rattle.trace_driver.proofs.Differences.{reads_rise}
use Rattle.trace_driver.proofs.PlayLemmas.{AreOwn, none_from, of_worker}

-- ---- the lines of each worker

abbrev LineBelow : Entry → Entry → Type 0
LineBelow one other = one.line < other.line

first_passes : {X : Type 0} (P : X → Type 0) (p : X → Bool) (x : X) (xs own : List X) (b : Bool) → p x ≡ b → All P (cond b (x ∷ own) own)
    → (All P own → All (λ y. p y ≡ true → P y) xs) → All (λ y. p y ≡ true → P y) (x ∷ xs)
first_passes P p x xs own true is all rest = All-cons (λ y. p y ≡ true → P y) x xs (λ yes. All-head P x own all) (rest (All-tail P x own all))
first_passes P p x xs own false is all rest = All-cons (λ y. p y ≡ true → P y) x xs (λ yes. absurd (cc (is, yes))) (rest all)

-- what holds of those that pass holds of each that passes
all_of_filter : {X : Type 0} (P : X → Type 0) (p : X → Bool) (xs : List X) → All P (filter p xs) → All (λ x. p x ≡ true → P x) xs
all_of_filter P p [] h = All-nil (λ x. p x ≡ true → P x)
all_of_filter P p (x ∷ xs) h = first_passes P p x xs (filter p xs) (p x) refl h (all_of_filter P p xs)

-- the first of pairs, with each of the others
pairs_head : {X : Type 0} (R : X → X → Type 0) (x : X) (xs : List X) → AllPairs R (x ∷ xs) → All (R x) xs
pairs_head R x xs h k d low = h 0 (suc k) d (omega arith) (omega arith)

-- and the others
pairs_tail : {X : Type 0} (R : X → X → Type 0) (x : X) (xs : List X) → AllPairs R (x ∷ xs) → AllPairs R xs
pairs_tail R x xs h i j d below low = h (suc i) (suc j) d (omega arith) (omega arith)

own_first : (e : Entry) (es : List Entry) → entries_of e.worker (e ∷ es) ≡ e ∷ entries_of e.worker es
own_first e es = elim (eqb_tells e.worker e.worker) [
  | inl h ↦ ap (λ b. cond b (e ∷ entries_of e.worker es) (entries_of e.worker es)) h.0
  | inr h ↦ absurd (h.1 refl)
]

own_rest : (R : Entry → Entry → Type 0) (b : Bool) (e : Entry) (own : List Entry) → AllPairs R (cond b (e ∷ own) own) → AllPairs R own
own_rest R true e own h = pairs_tail R e own h
own_rest R false e own h = h

-- where the lines of each worker's entries rise they rise among all entries
workers_rise : (entries : List Entry) → ((k : ℕ) → AllPairs LineBelow (entries_of k entries)) → WorkersRise entries
workers_rise [] each = λ i j d below low. absurd (omega arith)
workers_rise (e ∷ es) each =
    let own : AllPairs LineBelow (e ∷ entries_of e.worker es) = subst (AllPairs LineBelow) (own_first e es) (each e.worker) in
    let first = all_of_filter (LineBelow e) (λ (x : Entry). x.worker == e.worker) es (pairs_head LineBelow e (entries_of e.worker es) own) in
    AllPairs-cons (λ (one other : Entry). one.worker ≡ other.worker → one.line < other.line) e es
    (λ k d low same. first k d low (is_own (get_or es k d).worker e.worker (sym same)))
    (workers_rise es (λ k. own_rest LineBelow (e.worker == k) e (entries_of k es) (each k)))
  where
    is_own : (a b : ℕ) → a ≡ b → (a == b) ≡ true
    is_own a b same = elim (eqb_tells a b) [ inl h ↦ h.0 | inr h ↦ absurd (h.1 same) ]

-- entries of lines behind a number are behind it
all_behind : (n worker : ℕ) (turns : List Turn) (entries : List Entry) → AreEntriesOf worker turns entries → All (λ (t : Turn). n < t.line) turns
    → All (λ (e : Entry). n < e.line) entries
all_behind n worker [] [] h all = All-nil (λ (e : Entry). n < e.line)
all_behind n worker [] (e ∷ es) h all = absurd h
all_behind n worker (t ∷ ts) [] h all = absurd h
all_behind n worker (t ∷ ts) (e ∷ es) h all =
    All-cons (λ (e : Entry). n < e.line) e es (let first = All-head (λ (t : Turn). n < t.line) t ts all in omega (arith, first, h.0.line_is))
    (all_behind n worker ts es h.1 (All-tail (λ (t : Turn). n < t.line) t ts all))

abbrev TurnBelow : Turn → Turn → Type 0
TurnBelow one other = one.line < other.line

-- entries of lines that rise have lines that rise
own_rise : (worker : ℕ) (turns : List Turn) (entries : List Entry) → AreEntriesOf worker turns entries → AllPairs TurnBelow turns → AllPairs LineBelow entries
own_rise worker [] [] h rise = λ i j d below low. absurd (omega arith)
own_rise worker [] (e ∷ es) h rise = absurd h
own_rise worker (t ∷ ts) [] h rise = absurd h
own_rise worker (t ∷ ts) (e ∷ es) h rise =
    let from : All (λ (o : Turn). e.line < o.line) ts =
    (λ k d low. let up : t.line < (get_or ts k d).line = pairs_head TurnBelow t ts rise k d low in omega (arith, h.0.line_is)) in
    AllPairs-cons LineBelow e es (all_behind e.line worker ts es h.1 from) (own_rise worker ts es h.1 (pairs_tail TurnBelow t ts rise))

turns_from : (n : ℕ) (lines : List Line) → All (λ (l : Line). n < l.number) lines → All (λ (t : Turn). n < t.line) (map played_line lines)
turns_from n [] all = All-nil (λ (t : Turn). n < t.line)
turns_from n (l ∷ ls) all = All-cons (λ (t : Turn). n < t.line) (played_line l) (map played_line ls) (All-head (λ (l : Line). n < l.number) l ls all)
    (turns_from n ls (All-tail (λ (l : Line). n < l.number) l ls all))

abbrev NumberBelow : Line → Line → Type 0
NumberBelow one other = one.number < other.number

-- lines are played with their numbers
turns_rise : (lines : List Line) → AllPairs NumberBelow lines → AllPairs TurnBelow (map played_line lines)
turns_rise [] rise = λ i j d below low. absurd (omega arith)
turns_rise (l ∷ ls) rise = AllPairs-cons TurnBelow (played_line l) (map played_line ls) (turns_from l.number ls (pairs_head NumberBelow l ls rise))
    (turns_rise ls (pairs_tail NumberBelow l ls rise))

-- the entries of workers that played lines which rise have lines that rise
each_rises : (threads : ℕ) (lines : List Line) (entries : List Entry) → LinesRise lines → AreOwn threads lines entries
    → All (λ (e : Entry). e.worker < threads) entries → (k : ℕ) → AllPairs LineBelow (entries_of k entries)
each_rises threads lines entries rise own low k = elim (cases_lt k threads) [
  | inl below ↦ own_rise k (worker_lines threads lines k) (entries_of k entries) (of_worker threads lines entries k own below)
      (turns_rise (own_lines threads lines k) (AllPairs-filter NumberBelow (λ line. worker_of threads line == k) lines rise))
  | inr above ↦ let none = none_from threads entries low k above in subst (AllPairs LineBelow) (sym none) (λ i j d below low. absurd (omega arith))
]

-- ---- the whole log

last_is_list : (threads : ℕ) (start : List Area) (lines : List Line) (entries : List Entry) (last : List Area) → IsAreaList start
    → IsHistoryOf threads start lines entries last → IsAreaList last
last_is_list threads start lines entries last list h =
    let left = area_state start entries list in subst IsAreaList (one_state start entries left.0 last left.2 (all_legal start last entries h.runs).1) left.1

-- a text without a newline has no byte that is one
lacks_all : (text : List ℕ) → lacks 10 text ≡ true → All (λ byte. byte ≢ 10) text
lacks_all [] h = All-nil (λ byte. byte ≢ 10)
lacks_all (b ∷ text) h = elim (eqb_tells b 10) [
  | inl same ↦ absurd (let no : not (b == 10) ≡ false = ap not same.0 in let e = rw no at h in cc)
  | inr apart ↦ All-cons (λ byte. byte ≢ 10) b text apart.1 (lacks_all text (let yes : not (b == 10) ≡ true = ap not apart.0 in rw yes at h))
]

above_digits : 10 ≤ worth 10
unfolding worth
above_digits = omega arith

touched_if : (asked : Bool) (entries : List Entry) (count : ℕ) → (asked ≡ true → CountsTouched entries count)
    → ((if asked then touched_text count else []) ≡ []) ⊎ IsTouchedLine (if asked then touched_text count else [])
touched_if false entries count counts = inl refl
touched_if true entries count counts =
    let small = (counts refl).narrow in
    inr (
      decimal count,
      lacks_all (decimal count) (decimal_lacks 10 count (omega (arith, small)) above_digits),
      append_assoc (codes "touched ") (decimal count) (codes "\n"),
    )

-- the options ask for the whole log, and for no changes
record AskForLog (options : Options) : Type 0 where
  log : options.log ≡ true
  all : options.differ ≡ false
  alone : options.changes ≡ false

-- the text of a report with its log
log_first_text : (options : Options) (bytes : List ℕ) (threads : ℕ) (closed : ClosedView) (report : List ℕ) → AskForLog options
    → (h : IsReport options threads bytes closed report) → log_text closed.entries ++ (maps_text closed.areas
    ++ (summary_text (length closed.entries) h.skipped (refused_count closed.entries) h.differ ++ asked_touched options h.touched)) ≡ report
log_first_text options bytes threads closed report log h =
    let asked : asked_log options closed.entries h.differing ≡ log_text closed.entries =
    (λ i. if (log.all i) then differing_text h.differing else if (log.log i) then log_text closed.entries else []) in
    let none : asked_changes options h.changes ≡ [] = ap (λ (b : Bool). if b then changes_text h.changes else []) log.alone in
    let summary = summary_text (length closed.entries) h.skipped (refused_count closed.entries) h.differ in
    (λ i. sym asked i ++ (sym none i ++ (maps_text closed.areas ++ (summary ++ asked_touched options h.touched)))) ∙ sym h.text

-- the report of a run with its log is a good log of its entries
report_is_good : (options : Options) (threads : ℕ) (bytes : List ℕ) (closed : ClosedView) (report : List ℕ) → threads ≤ 16 → AskForLog options
    → (h : IsReport options threads bytes closed report) → PrintedLogIsGood closed.entries → IsGoodLog h.start (lines_of report) closed.entries
report_is_good options threads bytes closed report few log h law =
    let low = h.played.no_other in
    let workers : All (λ (e : Entry). e.worker < 16) closed.entries = (λ k d within. let below = low k d within in omega (arith, below, few)) in
    let rise = workers_rise closed.entries (each_rises threads h.lines closed.entries (reads_rise h.script.reads).0 h.played.own low) in
    let list = last_is_list threads h.start h.lines closed.entries closed.areas h.script.kinds.areas h.played in
    let good = law h.start closed.areas (length closed.entries) h.skipped (refused_count closed.entries) h.differ (asked_touched options h.touched)
    h.played.named workers h.played.runs rise list (touched_if options.touched closed.entries h.touched h.touches) in
    subst (λ text. IsGoodLog h.start (lines_of text) closed.entries) (log_first_text options bytes threads closed report log h) good

-- ---- the clause

-- a report with its log is checked as legal, from the areas that its input opens with
legal_report : (options : Options) (threads : ℕ) (bytes : List ℕ) (closed : ClosedView) (text report : List ℕ) → threads ≤ 16 → AskForLog options
    → IsReport options threads bytes closed text → report ≡ text → PrintedLogIsGood closed.entries
    → LegalFrom options.opening bytes (lines_of report) (length closed.entries)
legal_report options threads bytes closed text report few log h same law = record {
  head = h.script.head;
  start = h.start;
  kinds = h.script.kinds;
  verdict_is = subst (λ r. IsVerdict h.start (lines_of r) (Legal (length closed.entries))) (sym same)
      (closed.entries, report_is_good options threads bytes closed text few log h law, refl);
}

-- a word list spells numbers in their ranges
ranges_of : (words : List (List ℕ)) (command : Command) → AskFor words command → HasRanges command
ranges_of words command h = has_ranges h.name h.rest h.asked h.options command h.is

-- the report of a run whose words ask for its log is such a one
of_reports : (words : List (List ℕ)) (input_old input_new : Option (List ℕ)) (options : Options) (threads : ℕ) (closed : ClosedView) (text report : List ℕ)
    → AskForOne words → AskFor words (Play options threads) → AskForLog options → Reports words input_old input_new closed text → report ≡ text
    → PrintedLogIsGood closed.entries → HasRead input_old input_new (λ bytes. LegalFrom options.opening bytes (lines_of report) (length closed.entries))
of_reports words a b options threads closed text report one spells log (inl h) same law =
    let command : Play h.options h.threads ≡ Play options threads = one (Play h.options h.threads) (Play options threads) h.accepted spells in
    let these : h.options ≡ options = cc in
    let few = ranges_of words (Play h.options h.threads) h.accepted in (
      h.bytes,
      h.input,
      subst (λ o. LegalFrom o.opening h.bytes (lines_of report) (length closed.entries)) these
          (legal_report h.options h.threads h.bytes closed text report few.1 (subst AskForLog (sym these) log) h.holds same law),
    )
of_reports words a b options threads closed text report one spells log (inr h) same law =
    let other : Load h.seed h.threads h.calls ≡ Play options threads = one (Load h.seed h.threads h.calls) (Play options threads) h.accepted spells in absurd cc

-- the log that a run printed is good, by the law on its entries
pub logs_good : (words : List (List ℕ)) (input_old input_new out_old out_new : Option (List ℕ)) (status : Status) → AskForOne words
    → Wrote words input_old input_new out_old out_new status → HasGoodLog status → LogsAreGood words input_old input_new out_old out_new status
logs_good words a b out_old out_new status one wrote law closed options threads old report is spells log all alone told_old told_new =
    let at = subst (λ s. Wrote words a b out_old out_new s) is wrote in
    let before = subst (λ known. Appends known out_new at.0) told_old at.2 in
    let after : old ++ report ≡ old ++ at.0 = subst (λ known. Appends (Some old) known at.0) told_new before in
    let asked : AskForLog options = record { log = log; all = all; alone = alone } in
    of_reports words a b options threads closed at.0 report one spells asked at.1 (append_cancel_left old report at.0 after) (law closed is)
