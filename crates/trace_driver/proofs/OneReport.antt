-- By one worker the words and the bytes of an input have one report. The bytes ask for one script, one worker's lines
-- have one history from given areas, with what each call held, and what is counted of lines and entries is one number.
use Rattle.std.proofs.Common.{◌≡◌, ◌⊎◌, ◌↔◌, Bool, true, false, ℕ, zero, suc, ◌+◌, ◌<◌, ◌≤◌, List, [], ◌∷◌, ◌++◌, length, map}
use Rattle.std.proofs.Common.{Option, None, Some, inl, inr, refl, sym, ap, subst, ◌∙◌, arith}
use Rattle.std.specs.Prelude.{if◌then◌else◌, All}
use Rattle.std.specs.List.{AllPairs, Contains}
use Rattle.std.proofs.lemmas.List.Kept.{AllPairs-from_increasing}
use Rattle.page_types.specs.declared.calls.Call.{Call}
use Rattle.page_types.specs.PlainReply.{plain_reply}
use Rattle.space_model.specs.declared.areas.Area.{Area}
use Rattle.space_model.specs.declared.entries.Entry.{Entry}
use Rattle.space_model.specs.declared.entries.Under.{Under}
use Rattle.space_model.specs.Areas.{IsAreaList}
use Rattle.space_model.specs.Answers.{Answers}
use Rattle.space_model.specs.Held.{FitsUnder, HoldsSomeArea, IsSimple}
use Rattle.space_model.specs.History.{Chains, IsNumberedFrom, StateAfter}
use Rattle.space_model.proofs.Histories.{chains_weaker, one_state}
use Rattle.space_model.proofs.OneAnswer.{one_answer}
use Rattle.space_model.proofs.SomeAnswer.{leaves_areas}
use Rattle.line_parts.specs.Lines.{lines_of}
use Rattle.strace_reader.specs.Joining.{CountsKept}
use Rattle.strace_reader.proofs.KeptCounts.{few_kept}
use Rattle.history_check.proofs.Fitting.{fits_tells}
use Rattle.area_changes.specs.declared.changes.EntryChange.{EntryChange}
use Rattle.area_changes.specs.Changes.{Make}
use Rattle.area_changes.proofs.OneList.{make_one}
use Rattle.maps_printer.specs.declared.differing.DifferingReply.{DifferingReply}
use Rattle.maps_printer.specs.Lines.{changes_text, differing_text, log_text, maps_text, summary_text, touched_text}
use Rattle.area_rows.specs.Callers.{ClosedView}
use Rattle.trace_threads.specs.declared.worker.Line.{Line as Turn}
use Rattle.trace_threads.specs.Workers.{AreEntriesOf}
use Rattle.area_rows.proofs.Storing.{all_legal}
use Rattle.trace_threads.specs.Collected.{HeldAndReplies}
use Rattle.command_words.specs.declared.commands.Command.TheVariants.{Play, Load}
use Rattle.command_words.specs.declared.commands.Options.{Options}
use Rattle.command_words.specs.Commands.{AskForOne, AskFor}
use Rattle.trace_driver.specs.declared.report.Counts.{Counts}
use Rattle.trace_driver.specs.declared.trace.Line.{Line}
use Rattle.load_lines.specs.Calls.{drawn_lines}
use Rattle.trace_driver.specs.Dealt.{worker_lines}
use Rattle.trace_driver.specs.Play.{line_of, IsHistoryOf}
use Rattle.trace_driver.specs.Laws.{AreOneReport, AskForOneWorker, OneWorkerHasOneReport}
use Rattle.trace_driver.specs.Report.{AreDiffering, CountsTouched, Differing, LinesRise, asked_changes, asked_log, asked_touched, refused_count}
use Rattle.trace_driver.specs.Report.{report_text}
use Rattle.trace_driver.specs.Run.{Heard, IsReport, Loaded, Reports}
use Rattle.strace_reader.specs.Playing.{skipped_by}
use Rattle.trace_driver.specs.Script.{IsScript, Reads, TracePosition, after, lines_by, start_at, taken}
use Rattle.trace_driver.specs.Script.Reads.{nothing, line}
use Rattle.trace_driver.proofs.Differences.{one_other, reads_rise}
use Rattle.trace_driver.proofs.JudgeLemmas.{lines_few, opens_few}
use Rattle.trace_driver.proofs.OneWorker.{of_lines}
use Rattle.trace_driver.proofs.Outcomes.{asks_same, same_opens, start_one}
use Rattle.trace_driver.proofs.PlayLemmas.{HeldAsMay, area_alone}

-- ---- numbers that rise

abbrev Rises : List ℕ → Type 0
Rises = AllPairs (λ p q. p < q)

rises_behind : (x : ℕ) (xs : List ℕ) → Rises (x ∷ xs) → Rises xs
rises_behind x xs h i j d below low = h (suc i) (suc j) d (omega arith) (omega arith)

-- the first is below each later one
first_lowest : (x : ℕ) (xs : List ℕ) (z : ℕ) → Rises (x ∷ xs) → Contains xs z → x < z
first_lowest x xs z h (k, l, e) = omega (arith, h 0 (suc k) z (omega arith) (omega arith), e)

first_or_later : (y : ℕ) (ys : List ℕ) (z : ℕ) → Contains (y ∷ ys) z → (y ≡ z) ⊎ Contains ys z
first_or_later y ys z (zero, l, e) = inl e
first_or_later y ys z (suc k, l, e) = inr (k, omega (arith, l), e)

-- where all are among others with the same first one, the later ones are among the later ones
later_among : (x y : ℕ) (xs ys : List ℕ) → x ≡ y → Rises (x ∷ xs) → ((z : ℕ) → Contains (x ∷ xs) z → Contains (y ∷ ys) z)
    → (z : ℕ) → Contains xs z → Contains ys z
later_among x y xs ys same rise among z (k, l, e) = elim (first_or_later y ys z (among z (suc k, omega arith, e))) [
  | inl is ↦ absurd (omega (arith, first_lowest x xs z rise (k, l, e), same, is))
  | inr later ↦ later
]

-- the same numbers in rising order are one list
rising_one : (xs ys : List ℕ) → Rises xs → Rises ys → ((z : ℕ) → Contains xs z → Contains ys z) → ((z : ℕ) → Contains ys z → Contains xs z) → xs ≡ ys
rising_one [] [] a b there back = refl
rising_one [] (y ∷ ys) a b there back = absurd (omega (arith, (back y (zero, omega arith, refl)).1))
rising_one (x ∷ xs) [] a b there back = absurd (omega (arith, (there x (zero, omega arith, refl)).1))
rising_one (x ∷ xs) (y ∷ ys) a b there back = let same : x ≡ y = elim (first_or_later y ys x (there x (zero, omega arith, refl))) [
  | inl e ↦ sym e
  | inr up ↦ elim (first_or_later x xs y (back y (zero, omega arith, refl))) [
    | inl e ↦ e
    | inr over ↦ absurd (omega (arith, first_lowest y ys x b up, first_lowest x xs y a over))
  ]
] in
    let rest = rising_one xs ys (rises_behind x xs a) (rises_behind y ys b) (later_among x y xs ys same a there) (later_among y x ys xs (sym same) b back) in
    λ i. same i ∷ rest i

-- ---- one script

-- so many first halves are left, where fewer texts were fed than the count can tell
counted : (fed : List (List ℕ)) (n : ℕ) → length fed ≤ 67108865 → (h : CountsKept fed n) → n ≡ length h.processes
counted fed n few h = elim h.is [ inl e ↦ e | inr e ↦ absurd (omega (arith, few_kept fed n h, few, e.0)) ]

kept_one : (fed : List (List ℕ)) (n m : ℕ) → length fed ≤ 67108865 → CountsKept fed n → CountsKept fed m → n ≡ m
kept_one fed n m few a b =
    let one = rising_one a.processes b.processes (AllPairs-from_increasing a.processes a.ascending) (AllPairs-from_increasing b.processes b.ascending)
    (λ z h. (b.each z).1 ((a.each z).0 h)) (λ z h. (a.each z).1 ((b.each z).0 h)) in counted fed n few a ∙ ap length one ∙ sym (counted fed m few b)

-- texts are read in one way
reads_one : {stand : TracePosition} {texts : List (List ℕ)} {xs ys : List Line} {n m : ℕ} → Reads stand texts xs n → Reads stand texts ys m
    → length stand.fed + length texts ≤ 67108865 → (xs ≡ ys) × (n ≡ m)
reads_one (nothing {stand = s} {left = n} a) (nothing {left = m} b) few = (refl, kept_one s.fed n m (omega (arith, few)) a b)
reads_one (line {stand = s} {text = t} {texts = ts} answer a r) (line {lines = ys} {skipped = m} other b q) few =
    let same : other ≡ answer = asks_same s t other answer b a in
    let rest = reads_one r (subst (λ x. Reads (after s t x) ts ys m) same q) (omega (arith, few)) in
    ((λ i. lines_by s (taken s (sym same i)) ++ rest.0 i), (λ i. skipped_by (taken s (sym same i)) + rest.1 i))

record SameScript (A B : List Area) (xs ys : List Line) (n m : ℕ) : Type 0 where
  pub start : A ≡ B
  pub lines : xs ≡ ys
  pub skipped : n ≡ m

-- an input asks for one script
script_one : (options : Options) (bytes : List ℕ) (A B : List Area) (xs ys : List Line) (n m : ℕ) → length bytes ≤ 67108864
    → IsScript options bytes A xs n → IsScript options bytes B ys m → SameScript A B xs ys n m
script_one options bytes A B xs ys n m few a b =
    let s = same_opens options.opening (lines_of bytes) _ _ _ _ _ _ _ _ b.head.opens a.head.opens in
    let reads : Reads (start_at a.head.next) a.head.left ys b.passed = rw (s.next, s.left) at b.reads in
    let short = opens_few options.opening (lines_of bytes) a.head.left a.head.areas a.head.past a.head.next a.head.opens in
    let fewer = lines_few bytes in let one = reads_one a.reads reads (omega (arith, short, fewer, few)) in
    record { start = start_one a.head b.head A B a.kinds b.kinds; lines = one.0; skipped = omega (arith, a.counted, b.counted, s.past, one.1) }

-- ---- one history

-- where what is held is an area exactly where it may be, there is one thing that may be held
one_under : (A : List Area) (c : Call) (u v : Under) → IsAreaList A → FitsUnder A c u → FitsUnder A c v
    → HoldsSomeArea u ↔ ((plain_reply c ≡ None) × IsSimple A c) → HoldsSomeArea v ↔ ((plain_reply c ≡ None) × IsSimple A c) → u ≡ v
one_under A c u v w fits other area same = elim ((fits_tells A c u v w fits area).1 other) [
  | inl e ↦ sym e
  | inr whole ↦ absurd (subst HoldsSomeArea whole.1 (same.1 (area.0 whole.0)))
]

-- the calls of one worker's lines, from one area list, have one list of entries
entries_one : (turns : List Turn) (xs ys : List Entry) (n : ℕ) (A B C : List Area) → IsAreaList A → AreEntriesOf 0 turns xs → AreEntriesOf 0 turns ys
    → IsNumberedFrom n xs → IsNumberedFrom n ys → Chains HeldAndReplies A xs B → Chains HeldAndReplies A ys C → xs ≡ ys
entries_one [] [] [] n A B C w a b l m s t = refl
entries_one [] (x ∷ xs) ys n A B C w a b l m s t = absurd a
entries_one [] [] (y ∷ ys) n A B C w a b l m s t = absurd b
entries_one (turn ∷ turns) [] ys n A B C w a b l m s t = absurd a
entries_one (turn ∷ turns) (x ∷ xs) [] n A B C w a b l m s t = absurd b
entries_one (turn ∷ turns) (x ∷ xs) (y ∷ ys) n A B C w a b l m (D, (x_held, x_replies), s) (E, (y_held, y_replies), t) =
    let call : x.call ≡ y.call = a.0.call_is ∙ sym b.0.call_is in
    let fits : FitsUnder A x.call y.under = subst (λ c. FitsUnder A c y.under) (sym call) y_held.fits in
    let area = subst (λ c. HoldsSomeArea y.under ↔ ((plain_reply c ≡ None) × IsSimple A c)) (sym call) y_held.area in
    let under : x.under ≡ y.under = one_under A x.call x.under y.under w x_held.fits fits x_held.area area in
    let one = one_answer A x.call x.reply y.reply D E x_replies (subst (λ c. Answers A c y.reply E) (sym call) y_replies) in
    let number : x.number ≡ y.number = l.0 ∙ sym m.0 in
    let worker : x.worker ≡ y.worker = a.0.worker_is ∙ sym b.0.worker_is in
    let line_number : x.line ≡ y.line = a.0.line_is ∙ sym b.0.line_is in
    let rest = entries_one turns xs ys (n + 1) D B C (leaves_areas A x.call x.reply D w x_replies) a.1 b.1 l.1 m.1 s
    (subst (λ X. Chains HeldAndReplies X ys C) (sym one.1) t) in
    λ i. (record { number = number i; worker = worker i; line = line_number i; call = call i; reply = one.0 i; under = under i }) ∷ rest i

-- all entries are of the first worker
first_alone : (entries : List Entry) → All (λ (e : Entry). e.worker < 1) entries → All (λ (e : Entry). e.worker ≡ 0) entries
first_alone entries below k d within = let low = below k d within in omega (arith, low)

-- what is held along a chain, as `entries_one` has it
held_along : (A : List Area) (entries : List Entry) (B : List Area) → Chains HeldAsMay A entries B → Chains HeldAndReplies A entries B
held_along = chains_weaker HeldAsMay HeldAndReplies (λ A e B step. (record { fits = step.0.0; area = area_alone A e.call e.under step.0.0 step.1 }, step.0.1))

-- by one worker, lines from an area list have one history, which leaves one list
played_one : (opening : List Area) (lines : List Line) (entries others : List Entry) (last end : List Area) → IsAreaList opening
    → IsHistoryOf 1 opening lines entries last → IsHistoryOf 1 opening lines others end → (entries ≡ others) × (last ≡ end)
played_one opening lines entries others last end w a b =
    let held = held_along opening entries last (a.alone 0 (first_alone entries a.no_other)) in
    let other_held = held_along opening others end (b.alone 0 (first_alone others b.no_other)) in
    let same = entries_one (worker_lines 1 lines 0) entries others 0 opening last end w (of_lines lines entries a.own a.no_other)
    (of_lines lines others b.own b.no_other) a.runs.0 b.runs.0 held other_held in
    let left = (all_legal opening last entries a.runs).1 in let other_left = (all_legal opening end others b.runs).1 in
    (same, one_state opening entries last end left (subst (λ es. StateAfter opening es end) (sym same) other_left))

-- ---- one report

-- the replies that differ from their lines are one number
differing_one : (lines : List Line) (entries : List Entry) (n m : ℕ) → Differing lines entries n → Differing lines entries m → n ≡ m
differing_one lines [] n m a b = a ∙ sym b
differing_one lines (e ∷ es) n m (inl a) (inl b) = a.1.2 ∙ ap (λ k. 1 + k) (differing_one lines es a.1.0 b.1.0 a.1.1 b.1.1) ∙ sym b.1.2
differing_one lines (e ∷ es) n m (inl a) (inr b) = absurd (b.0 a.0)
differing_one lines (e ∷ es) n m (inr a) (inl b) = absurd (a.0 b.0)
differing_one lines (e ∷ es) n m (inr a) (inr b) = differing_one lines es n m a.1 b.1

-- and they are one list
differing_list : (lines : List Line) (entries : List Entry) (xs ys : List DifferingReply) → LinesRise lines → AreDiffering lines entries xs
    → AreDiffering lines entries ys → xs ≡ ys
differing_list lines [] xs ys rise a b = a ∙ sym b
differing_list lines (e ∷ es) xs ys rise (inl a) (inl b) =
    let told = one_other lines e a.0 b.0 rise a.1 b.1 in let rest = differing_list lines es a.2.0 b.2.0 rise a.2.1 b.2.1 in
    a.2.2 ∙ (λ i. (record { entry = e; recorded = told i }) ∷ rest i) ∙ sym b.2.2
differing_list lines (e ∷ es) xs ys rise (inl a) (inr b) = absurd (b.0 (a.0, a.1))
differing_list lines (e ∷ es) xs ys rise (inr a) (inl b) = absurd (a.0 (b.0, b.1))
differing_list lines (e ∷ es) xs ys rise (inr a) (inr b) = differing_list lines es xs ys rise a.1 b.1

-- so are the pages that were touched
touched_one : (entries : List Entry) (n m : ℕ) → CountsTouched entries n → CountsTouched entries m → n ≡ m
touched_one entries n m a b =
    let one = rising_one a.pages b.pages a.rising b.rising (λ z h. (b.all z).1 ((a.all z).0 h)) (λ z h. (a.all z).1 ((b.all z).0 h)) in
    a.counted ∙ ap length one ∙ sym b.counted

-- what is written only where it is asked for is one text
where_asked : {X : Type 0} (text : X → List ℕ) (other : List ℕ) (asked : Bool) (x y : X) → (asked ≡ true → x ≡ y)
    → (if asked then text x else other) ≡ (if asked then text y else other)
where_asked text other true x y same = ap text (same refl)
where_asked text other false x y same = refl

-- the same parts make the same text
text_one : (options : Options) (last end : List Area) (entries others : List Entry) (xs ys : List DifferingReply) (some other : List EntryChange)
    (c d : Counts) → last ≡ end
    → entries ≡ others → asked_log options entries xs ≡ asked_log options others ys → asked_changes options some ≡ asked_changes options other
    → c.skipped ≡ d.skipped → c.refused ≡ d.refused → c.differ ≡ d.differ → asked_touched options c.touched ≡ asked_touched options d.touched
    → report_text options last entries xs some c ≡ report_text options end others ys other d
text_one options last end entries others xs ys some other c d areas same log changed skipped refused differ touched =
    λ i. log i ++ (changed i ++ (maps_text (areas i) ++ (summary_text (length (same i)) (skipped i) (refused i) (differ i) ++ touched i)))

-- two reports of one input by one worker are one
report_one : (options : Options) (bytes : List ℕ) (one other : ClosedView) (first second : List ℕ) → length bytes ≤ 67108864
    → IsReport options 1 bytes one first → IsReport options 1 bytes other second → AreOneReport one other first second
report_one options bytes one other first second few a b =
    let script = script_one options bytes b.start a.start b.lines a.lines b.skipped a.skipped few b.script a.script in
    let played : IsHistoryOf 1 a.start a.lines other.entries other.areas = rw (script.start, script.lines) at b.played in
    let same = played_one a.start a.lines one.entries other.entries one.areas other.areas a.script.kinds.areas a.played played in
    let differs : Differing a.lines one.entries b.differ = rw (script.lines, sym same.0) at b.differs in
    let differ : a.differ ≡ b.differ = differing_one a.lines one.entries a.differ b.differ a.differs differs in
    let listed = where_asked differing_text (if options.log then log_text other.entries else []) options.differ a.differing b.differing
    (λ is.
    let theirs : AreDiffering a.lines one.entries b.differing = rw (script.lines, sym same.0) at (b.differing_are is) in
    differing_list a.lines one.entries a.differing b.differing (reads_rise a.script.reads).0 (a.differing_are is) theirs) in
    let log : asked_log options one.entries a.differing ≡ asked_log options other.entries b.differing =
    ap (λ es. asked_log options es a.differing) same.0 ∙ listed in
    let changed = where_asked changes_text [] options.changes a.changes b.changes
    (λ is.
    let theirs : Make a.start one.entries b.changes = rw (script.start, sym same.0) at (b.changes_are is) in
    make_one a.start one.entries a.changes b.changes (a.changes_are is) theirs) in
    let touched = where_asked touched_text [] options.touched a.touched b.touched
    (λ is. touched_one one.entries a.touched b.touched (a.touches is) (subst (λ es. CountsTouched es b.touched) (sym same.0) (b.touches is))) in
    let text = text_one options one.areas other.areas one.entries other.entries a.differing b.differing a.changes b.changes
    (record { skipped = a.skipped; refused = refused_count one.entries; differ = a.differ; touched = a.touched })
    (record { skipped = b.skipped; refused = refused_count other.entries; differ = b.differ; touched = b.touched }) same.1 same.0 log changed
    (sym script.skipped) (ap refused_count same.0) differ touched in record { entries = same.0; areas = same.1; bytes = a.text ∙ text ∙ sym b.text }

-- two reports of one load by one worker are one
load_one : (seed calls : ℕ) (one other : ClosedView) (first second : List ℕ) → IsHistoryOf 1 [] (map line_of (drawn_lines seed 1 calls)) one.entries one.areas
    → IsHistoryOf 1 [] (map line_of (drawn_lines seed 1 calls)) other.entries other.areas
    → first ≡ summary_text (length one.entries) 0 (refused_count one.entries) 0
    → second ≡ summary_text (length other.entries) 0 (refused_count other.entries) 0 → AreOneReport one other first second
load_one seed calls one other first second a b text other_text =
    let same = played_one [] (map line_of (drawn_lines seed 1 calls)) one.entries other.entries one.areas other.areas tt a b in
    let summary = ap (λ (es : List Entry). summary_text (length es) 0 (refused_count es) 0) same.0 in
    record { entries = same.0; areas = same.1; bytes = text ∙ summary ∙ sym other_text }

module _ (words : List (List ℕ)) (asks : AskForOne words) where
  -- the report of an input is by one worker where the words ask for one
  by_one : (bytes : List ℕ) (left : Option (List ℕ)) (closed : ClosedView) (report : List ℕ) (options : Options) → AskFor words (Play options 1)
      → Heard words (Some bytes) left (λ o threads b. IsReport o threads b closed report) → (length bytes ≤ 67108864) × IsReport options 1 bytes closed report
  by_one bytes left closed report options spells h =
      let same : Play h.options h.threads ≡ Play options 1 = asks _ _ h.accepted spells in
      let o : h.options ≡ options = cc in let n : h.threads ≡ 1 = cc in let b : bytes ≡ h.bytes = h.input.0.0 in
      (subst (λ l. length l ≤ 67108864) (sym b) h.input.1, rw (o, n, sym b) at h.holds)

  -- and the report of a load
  load_by_one : (closed : ClosedView) (report : List ℕ) (seed calls : ℕ) → AskFor words (Load seed 1 calls) → Loaded words closed report
      → IsHistoryOf 1 [] (map line_of (drawn_lines seed 1 calls)) closed.entries closed.areas
  load_by_one closed report seed calls spells h =
      let same : Load h.seed h.threads h.calls ≡ Load seed 1 calls = asks _ _ h.accepted spells in
      let s : h.seed ≡ seed = cc in let n : h.threads ≡ 1 = cc in let c : h.calls ≡ calls = cc in rw (s, n, c) at h.played

  -- words that ask for an input to be played have no load
  no_load : (closed : ClosedView) (report : List ℕ) (options : Options) (threads : ℕ) → AskFor words (Play options threads) → Loaded words closed report → ⊥
  no_load closed report options threads spells h = let same : Load h.seed h.threads h.calls ≡ Play options threads = asks _ _ h.accepted spells in cc

  -- nor have those that ask for a load an input
  no_input : (input left : Option (List ℕ)) (P : Options → ℕ → List ℕ → Type 0) (seed threads calls : ℕ) → AskFor words (Load seed threads calls)
      → Heard words input left P → ⊥
  no_input input left P seed threads calls spells h = let same : Play h.options h.threads ≡ Load seed threads calls = asks _ _ h.accepted spells in cc

  of_loads : (one other : ClosedView) (first second : List ℕ) → AskForOneWorker words → Loaded words one first → Loaded words other second
      → AreOneReport one other first second
  of_loads one other first second (inl (options, spells)) a b = absurd (no_load one first options 1 spells a)
  of_loads one other first second (inr (seed, calls, spells)) a b =
      load_one seed calls one other first second (load_by_one one first seed calls spells a) (load_by_one other second seed calls spells b) a.text b.text

  of_inputs : (bytes : List ℕ) (left other_left : Option (List ℕ)) (one other : ClosedView) (first second : List ℕ) → AskForOneWorker words
      → Reports words (Some bytes) left one first → Reports words (Some bytes) other_left other second → AreOneReport one other first second
  of_inputs bytes left other_left one other first second (inl (options, spells)) (inl a) (inl b) =
      let x = by_one bytes left one first options spells a in
      let y = by_one bytes other_left other second options spells b in report_one options bytes one other first second x.0 x.1 y.1
  of_inputs bytes left other_left one other first second (inl (options, spells)) (inl a) (inr b) = absurd (no_load other second options 1 spells b)
  of_inputs bytes left other_left one other first second (inl (options, spells)) (inr a) b = absurd (no_load one first options 1 spells a)
  of_inputs bytes left other_left one other first second (inr (seed, calls, spells)) (inl a) b = absurd (no_input (Some bytes) left _ seed 1 calls spells a)
  of_inputs bytes left other_left one other first second (inr (seed, calls, spells)) (inr a) (inl b) =
      absurd (no_input (Some bytes) other_left _ seed 1 calls spells b)
  of_inputs bytes left other_left one other first second (inr (seed, calls, spells)) (inr a) (inr b) =
      load_one seed calls one other first second (load_by_one one first seed calls spells a) (load_by_one other second seed calls spells b) a.text b.text

-- by one worker words and input have one report
pub one_report : OneWorkerHasOneReport
one_report words asks = record { of_input = of_inputs words asks; of_load = of_loads words asks }
