-- The words and the bytes of an input have one outcome: what reads an input and what ends a run exclude each other, and
-- an input ends a run in one way. It rests on each text having one outcome, and on one area list having given kinds.
use Rattle.std.proofs.Common.{◌≡◌, ◌⊎◌, Bool, true, false, ℕ, ◌+◌, ◌*◌, ◌<◌, ◌≤◌, List, [], ◌∷◌, ◌++◌, length, Option, None, Some}
use Rattle.std.proofs.Common.{subst, inl, inr, refl, sym, ap, ◌∙◌, arith, append_assoc, length-append}
use Rattle.std.proofs.lemmas.List.Elements.{All-head}
use Rattle.area_rows.specs.Callers.{ClosedView}
use Rattle.space_model.specs.declared.areas.Area.{Area}
use Rattle.space_model.specs.Areas.{HasKinds, kind_at, row_count}
use Rattle.space_model.proofs.AreaKinds.{only_one}
use Rattle.strace_reader.specs.declared.item.BadCall.{BadCall}
use Rattle.strace_reader.specs.declared.maps.MapsItem.{MapsItem}
use Rattle.strace_reader.specs.declared.maps.MapsItem.TheVariants.{Area as Mapped, Past}
use Rattle.strace_reader.proofs.OneFeed.{one_answer}
use Rattle.strace_reader.proofs.OneOutcome.{one_maps_outcome}
use Rattle.strace_reader.specs.declared.joiner.Fed.{Fed}
use Rattle.trace_driver.specs.declared.status.EarlyEnd.{EarlyEnd}
use Rattle.trace_driver.specs.declared.status.EarlyEnd.TheVariants.{Refused, Above}
use Rattle.trace_driver.specs.declared.status.Status.{Status}
use Rattle.trace_driver.specs.declared.status.Status.TheVariants.{Done, Usage, BadLine, ReadFault, WriteFault, Memory, Limit, Wrong}
use Rattle.trace_driver.specs.declared.status.Which.TheVariants.{Input, Line as OfLine, Lines as OfLines, Rows}
use Rattle.trace_driver.specs.declared.trace.Line.{Line}
use Rattle.command_words.specs.declared.commands.Command.TheVariants.{Play, Load, Check}
use Rattle.command_words.specs.declared.commands.Options.{Options}
use Rattle.line_parts.specs.Lines.{lines_of}
use Rattle.trace_driver.specs.Script.{Begins, IsNext, ReadsMaps, map_start, IsScript, TracePosition, start_at, after, Asks, Reads, lines_by, taken}
use Rattle.trace_driver.specs.TraceReader.{Opens}
use Rattle.trace_driver.specs.Endings.{IsRefused, IsShort, EndsMap, EndsMaps, EndsOpening, map_stop, EndsTrace, EndsByRows, EndsInput, Ends, EndsAt}
use Rattle.trace_driver.specs.Script.ReadsMaps.{over, empty as empty_map, mapped, past_end}
use Rattle.trace_driver.specs.Endings.EndsMaps.{here as here_map, later as later_map}
use Rattle.trace_driver.specs.Run.{Heard, EndsByInput, EndsByLog, Reports, Wrote, HasCause, IsOutcome, IsOnlyOutcome, IsHindered}
use Rattle.trace_driver.specs.Run.IsOutcome.{usage, too_long, early, done, loaded, check_early, checked}
use Rattle.trace_driver.specs.Status.{status_of, ending}
use Rattle.trace_driver.proofs.CheckLemmas.{all_behind}
use Rattle.trace_driver.specs.Script.Reads.{nothing, line}
use Rattle.trace_driver.specs.Endings.EndsAt.{here, later}
use Rattle.command_words.specs.Commands.{AskFor, RefusesWords, AskForOne, AskToRead}
use Rattle.command_words.specs.declared.commands.Command.{Command}
use Rattle.history_check.specs.declared.verdict.Verdict.{Verdict}
use Rattle.history_check.specs.declared.verdict.Verdict.TheVariants.{Legal, Wrong as WrongVerdict}
use Rattle.history_check.specs.Verdicts.{IsVerdict}
use Rattle.history_check.proofs.Cutting.{places}
use Rattle.history_check.proofs.Cutting.Places.{one_place as at_same, first_earlier as is_before, first_later as is_behind}
use Rattle.history_check.proofs.OneVerdict.{one_verdict}
use Rattle.trace_driver.specs.Checking.{KeepsLimits, EndsBehind, EndsLog, EndsByLine, EndsByStart, EndsCheck, IsInputVerdict, Judged, ChecksAs, verdict_status}

-- a line that asks for something ends no run
asks_ends : (stand : TracePosition) (text : List ℕ) (answer : Fed) (end : EarlyEnd) → Asks stand text answer → Ends stand text end → ⊥
asks_ends stand text answer (Refused l k w) a e = (one_answer stand.fed text).never_both _ _ a.1 e.1
asks_ends stand text answer (Above OfLine v) a e = omega (arith, a.0, e.0)
asks_ends stand text answer (Above OfLines v) a e =
    let same : answer ≡ e.2.0 = (one_answer stand.fed text).item _ _ a.1 e.2.1 in
    omega (arith, a.2, e.2.2, ap (λ x. length (lines_by stand (taken stand x))) same)
asks_ends stand text answer other a e = e

-- a line has one answer
pub asks_same : (stand : TracePosition) (text : List ℕ) (a b : Fed) → Asks stand text a → Asks stand text b → a ≡ b
asks_same stand text a b x y = (one_answer stand.fed text).item a b x.1 y.1

-- lines that are all read end no run
reads_ends : {stand : TracePosition} {skipped : ℕ} {texts : List (List ℕ)} {lines : List Line} {end : EarlyEnd}
    → Reads stand texts lines skipped → EndsAt stand texts end → ⊥
reads_ends (nothing left) h = elim h [ ]
reads_ends (line {stand = s} {text = t} answer a r) (here {end = u} e) = asks_ends s t answer u a e
reads_ends (line {stand = s} {text = t} {texts = ts} answer a r) (later {end = u} other b e) =
    reads_ends r (subst (λ x. EndsAt (after s t x) ts u) (asks_same s t other answer b a) e)

-- a line ends a run in one way
ends_one : (stand : TracePosition) (text : List ℕ) (s u : EarlyEnd) → Ends stand text s → Ends stand text u → s ≡ u
ends_one stand text (Refused a1 a2 a3) (Refused b1 b2 b3) e h =
    let same = (one_answer stand.fed text).refusal (record { column = a2; what = a3 }) (record { column = b2; what = b3 }) e.1 h.1 in
    let k : a2 ≡ b2 = ap (λ x. x.column) same in let w : a3 ≡ b3 = ap (λ x. x.what) same in rw (e.2, h.2, k, w) refl
ends_one stand text (Refused a1 a2 a3) (Above OfLine b) e h = absurd (omega (arith, e.0, h.0))
ends_one stand text (Refused a1 a2 a3) (Above OfLines b) e h = absurd ((one_answer stand.fed text).never_both _ _ h.2.1 e.1)
ends_one stand text (Above OfLine a) (Refused b1 b2 b3) e h = absurd (omega (arith, e.0, h.0))
ends_one stand text (Above OfLine a) (Above OfLine b) e h = rw (e.1, h.1) refl
ends_one stand text (Above OfLine a) (Above OfLines b) e h = absurd (omega (arith, e.0, h.0))
ends_one stand text (Above OfLines a) (Refused b1 b2 b3) e h = absurd ((one_answer stand.fed text).never_both _ _ e.2.1 h.1)
ends_one stand text (Above OfLines a) (Above OfLine b) e h = absurd (omega (arith, e.0, h.0))
ends_one stand text (Above OfLines a) (Above OfLines b) e h = rw (e.1, h.1) refl
ends_one stand text (Refused a1 a2 a3) other e h = absurd h
ends_one stand text (Above OfLine a) other e h = absurd h
ends_one stand text (Above OfLines a) other e h = absurd h
ends_one stand text other u e h = absurd e

-- so do lines
ends_same : {stand : TracePosition} {texts : List (List ℕ)} {s u : EarlyEnd} → EndsAt stand texts s → EndsAt stand texts u → s ≡ u
ends_same (here {stand = p} {text = t} {end = s} e) (here {end = u} h) = ends_one p t s u e h
ends_same (here {stand = p} {text = t} {end = s} e) (later answer b h) = absurd (asks_ends p t answer s b e)
ends_same (later {stand = p} {text = t} answer b h) (here {end = s} e) = absurd (asks_ends p t answer s b e)
ends_same (later {stand = p} {text = t} {texts = ts} answer b h) (later {end = u} other c k) =
    ends_same h (subst (λ x. EndsAt (after p t x) ts u) (asks_same p t other answer c b) k)

next_same : (from : ℕ) (text : List ℕ) (s t : MapsItem) → IsNext from text s → IsNext from text t → s ≡ t
next_same from text s t a b = (one_maps_outcome text).item s t a.spells b.spells

-- a maps line that is read ends no run
next_ends : (number from : ℕ) (text : List ℕ) (item : MapsItem) (end : EarlyEnd) → IsNext from text item → EndsMap number from text end → ⊥
next_ends number from text item (Refused l k w) a (short, some, inl bad, is) = (one_maps_outcome text).never_both item _ a.spells bad
next_ends number from text item (Refused l k w) a (short, some, inr (it, spells, below, bad), is) =
    omega (arith, a.in_order, below, ap map_start ((one_maps_outcome text).item item it a.spells spells))
next_ends number from text item (Above OfLine v) a e = omega (arith, a.short, e.0)
next_ends number from text item other a e = e

-- an empty line ends the opening and not the run
empty_ends : (number from : ℕ) (end : EarlyEnd) → EndsMap number from [] end → ⊥
empty_ends number from (Refused l k w) e = e.1 refl
empty_ends number from (Above OfLine v) e = omega (arith, e.0)
empty_ends number from other e = e

-- maps lines that are all read end no run
maps_ends : {number from past next : ℕ} {texts left : List (List ℕ)} {areas : List Area} {end : EarlyEnd}
    → ReadsMaps number from texts areas past next left → EndsMaps number from texts end → ⊥
maps_ends over h = elim h [ ]
maps_ends (empty_map {number = n} {from = f}) (here_map {end = s} e) = empty_ends n f s e
maps_ends empty_map (later_map item a e) = a.some refl
maps_ends (mapped {number = n} {from = f} {text = t} {area = x} a r) (here_map {end = s} e) = next_ends n f t (Mapped x) s a e
maps_ends (mapped {number = n} {from = f} {text = t} {texts = ts} {area = x} a r) (later_map {end = s} item b e) =
    maps_ends r (subst (λ k. EndsMaps (n + 1) (map_stop k) ts s) (next_same f t item (Mapped x) b a) e)
maps_ends (past_end {number = n} {from = f} {start = x} {stop = y} {text = t} a r) (here_map {end = s} e) = next_ends n f t (Past x y) s a e
maps_ends (past_end {number = n} {from = f} {start = x} {stop = y} {text = t} {texts = ts} a r) (later_map {end = s} item b e) =
    maps_ends r (subst (λ k. EndsMaps (n + 1) (map_stop k) ts s) (next_same f t item (Past x y) b a) e)

-- a maps line has one refusal
refused_one : (from : ℕ) (text : List ℕ) (a b : BadCall) → IsRefused from text a → IsRefused from text b → a ≡ b
refused_one from text a b (inl e) (inl h) = (one_maps_outcome text).refusal a b e h
refused_one from text a b (inl e) (inr h) = absurd ((one_maps_outcome text).never_both _ _ h.1 e)
refused_one from text a b (inr e) (inl h) = absurd ((one_maps_outcome text).never_both _ _ e.1 h)
refused_one from text a b (inr e) (inr h) = e.3 ∙ sym h.3

-- a maps line ends a run in one way
map_ends_one : (number from : ℕ) (text : List ℕ) (s u : EarlyEnd) → EndsMap number from text s → EndsMap number from text u → s ≡ u
map_ends_one number from text (Refused a1 a2 a3) (Refused b1 b2 b3) e h =
    let same = refused_one from text (record { column = a2; what = a3 }) (record { column = b2; what = b3 }) e.2 h.2 in
    let k : a2 ≡ b2 = ap (λ x. x.column) same in let w : a3 ≡ b3 = ap (λ x. x.what) same in rw (e.3, h.3, k, w) refl
map_ends_one number from text (Refused a1 a2 a3) (Above OfLine b) e h = absurd (omega (arith, e.0, h.0))
map_ends_one number from text (Above OfLine a) (Refused b1 b2 b3) e h = absurd (omega (arith, e.0, h.0))
map_ends_one number from text (Above OfLine a) (Above OfLine b) e h = rw (e.1, h.1) refl
map_ends_one number from text (Refused a1 a2 a3) other e h = absurd h
map_ends_one number from text (Above OfLine a) other e h = absurd h
map_ends_one number from text other u e h = absurd e

-- so do maps lines
maps_ends_same : {number from : ℕ} {texts : List (List ℕ)} {s u : EarlyEnd} → EndsMaps number from texts s → EndsMaps number from texts u → s ≡ u
maps_ends_same (here_map {number = n} {from = f} {text = t} {end = s} e) (here_map {end = u} h) = map_ends_one n f t s u e h
maps_ends_same (here_map {number = n} {from = f} {text = t} {end = s} e) (later_map item b h) = absurd (next_ends n f t item s b e)
maps_ends_same (later_map {number = n} {from = f} {text = t} item b h) (here_map {end = s} e) = absurd (next_ends n f t item s b e)
maps_ends_same (later_map {number = n} {from = f} {text = t} {texts = ts} item b h) (later_map {end = u} other_item c k) =
    maps_ends_same h (subst (λ i. EndsMaps (n + 1) (map_stop i) ts u) (next_same f t other_item item c b) k)

-- two openings have the same areas, as many lines past the user addresses, and the same lines behind them
pub record Same (xs bs : List Area) (p q n m : ℕ) (l r : List (List ℕ)) : Type 0 where
  pub areas : xs ≡ bs
  pub past : p ≡ q
  pub next : n ≡ m
  pub left : l ≡ r

-- an input begins in one way
same_maps : {number from past past2 next next2 : ℕ} {texts left left2 : List (List ℕ)} {areas areas2 : List Area}
    → ReadsMaps number from texts areas past next left → ReadsMaps number from texts areas2 past2 next2 left2
    → Same areas areas2 past past2 next next2 left left2
same_maps over over = record { areas = refl; past = refl; next = refl; left = refl }
same_maps empty_map empty_map = record { areas = refl; past = refl; next = refl; left = refl }
same_maps empty_map (mapped a r) = absurd (a.some refl)
same_maps empty_map (past_end a r) = absurd (a.some refl)
same_maps (mapped a r) empty_map = absurd (a.some refl)
same_maps (past_end a r) empty_map = absurd (a.some refl)
same_maps (mapped {number = n} {from = f} {text = t} {texts = ts} {area = x} a r) (mapped {past = p} {next = m} {left = l} {area = y} {areas = ys} b q) =
    let is : Mapped y ≡ Mapped x = next_same f t (Mapped y) (Mapped x) b a in let same : y ≡ x = cc in
    let s = same_maps r (subst (λ k. ReadsMaps (n + 1) (k.hi * 4096) ts ys p m l) same q) in
    record { areas = rw (same, s.areas) refl; past = s.past; next = s.next; left = s.left }
same_maps (mapped {from = f} {text = t} {area = x} a r) (past_end {start = u} {stop = v} b q) =
    absurd (let is : Mapped x ≡ Past u v = next_same f t (Mapped x) (Past u v) a b in cc)
same_maps (past_end {from = f} {start = u} {stop = v} {text = t} a r) (mapped {area = x} b q) =
    absurd (let is : Mapped x ≡ Past u v = next_same f t (Mapped x) (Past u v) b a in cc)
same_maps (past_end {number = n} {from = f} {start = u} {stop = v} {text = t} {texts = ts} a r)
    (past_end {past = p} {next = m} {start = w} {stop = z} {left = l} {areas = ys} b q) =
    let is : Past w z ≡ Past u v = next_same f t (Past w z) (Past u v) b a in let same : z ≡ v = cc in
    let s = same_maps r (subst (λ k. ReadsMaps (n + 1) k ts ys p m l) same q) in
    record { areas = s.areas; past = ap (λ n. 1 + n) s.past; next = s.next; left = s.left }

-- an input begins in one way, with maps lines or without
pub same_opens : (has : Bool) (texts : List (List ℕ)) (past past2 next next2 : ℕ) (left left2 : List (List ℕ)) (areas areas2 : List Area)
    → Opens has texts areas past next left → Opens has texts areas2 past2 next2 left2 → Same areas areas2 past past2 next next2 left left2
same_opens true texts past past2 next next2 left left2 areas areas2 a b = same_maps a b
same_opens false texts past past2 next next2 left left2 areas areas2 a b =
    record { areas = a.0 ∙ sym b.0; past = a.1 ∙ sym b.1; next = a.2 ∙ sym b.2; left = a.3 ∙ sym b.3 }

opening_ends : (has : Bool) (texts : List (List ℕ)) (end : EarlyEnd) (past next : ℕ) (left : List (List ℕ)) (areas : List Area)
    → Opens has texts areas past next left → EndsOpening has texts end → ⊥
opening_ends true texts end past next left areas a e = maps_ends a e
opening_ends false texts end past next left areas a e = e

opening_ends_same : (has : Bool) (texts : List (List ℕ)) (s u : EarlyEnd) → EndsOpening has texts s → EndsOpening has texts u → s ≡ u
opening_ends_same true texts s u e h = maps_ends_same e h
opening_ends_same false texts s u e h = absurd e

-- the areas of an input's beginning are those of one area list
pub start_one : {has : Bool} {bytes : List ℕ} (a b : Begins has bytes) (A B : List Area) → HasKinds (kind_at a.areas) A → HasKinds (kind_at b.areas) B → A ≡ B
start_one {has = has} {bytes = bytes} a b A B x y =
    let same = same_opens has (lines_of bytes) _ _ _ _ _ _ _ _ b.opens a.opens in
    let kinds : HasKinds (kind_at a.areas) B = rw same.areas at y in only_one A B x.areas kinds.areas (λ page. x.kinds_are page ∙ sym (kinds.kinds_are page))

-- an input that its opening, a line behind it or its rows may end is ended in one way, where each of the latter does so
-- and they exclude each other
one_of_three : (has : Bool) (bytes : List ℕ) (ByLine ByRows : EarlyEnd → Type 0) → ((end : EarlyEnd) → ByLine end ⊎ ByRows end → Begins has bytes)
    → ((s u : EarlyEnd) → ByLine s → ByLine u → s ≡ u) → ((s u : EarlyEnd) → ByLine s → ByRows u → ⊥) → ((s u : EarlyEnd) → ByRows s → ByRows u → s ≡ u)
    → (s u : EarlyEnd) → EndsOpening has (lines_of bytes) s ⊎ (ByLine s ⊎ ByRows s) → EndsOpening has (lines_of bytes) u ⊎ (ByLine u ⊎ ByRows u) → s ≡ u
one_of_three has bytes ByLine ByRows begins lines apart rows s u (inl e) (inl h) = opening_ends_same has (lines_of bytes) s u e h
one_of_three has bytes ByLine ByRows begins lines apart rows s u (inl e) (inr h) = absurd (opening_ends has (lines_of bytes) s _ _ _ _ (begins u h).opens e)
one_of_three has bytes ByLine ByRows begins lines apart rows s u (inr e) (inl h) = absurd (opening_ends has (lines_of bytes) u _ _ _ _ (begins s e).opens h)
one_of_three has bytes ByLine ByRows begins lines apart rows s u (inr (inl e)) (inr (inl h)) = lines s u e h
one_of_three has bytes ByLine ByRows begins lines apart rows s u (inr (inl e)) (inr (inr h)) = absurd (apart s u e h)
one_of_three has bytes ByLine ByRows begins lines apart rows s u (inr (inr e)) (inr (inl h)) = absurd (apart u s h e)
one_of_three has bytes ByLine ByRows begins lines apart rows s u (inr (inr e)) (inr (inr h)) = rows s u e h

trace_ends : (options : Options) (bytes : List ℕ) (lines : List Line) (passed past next : ℕ) (left : List (List ℕ)) (areas : List Area) (end : EarlyEnd)
    → Opens options.opening (lines_of bytes) areas past next left → Reads (start_at next) left lines passed → EndsTrace options bytes end → ⊥
trace_ends options bytes lines passed past next left areas end opens reads e =
    let s = same_opens options.opening (lines_of bytes) _ _ _ _ _ _ _ _ e.head.opens opens in reads_ends reads (rw (s.next, s.left) at e.ends)

-- an input that asks for a script ends no run
script_ends : (options : Options) (bytes : List ℕ) (start : List Area) (lines : List Line) (skipped : ℕ) (end : EarlyEnd)
    → IsScript options bytes start lines skipped → EndsInput options bytes end → ⊥
script_ends options bytes start lines skipped end script (inl e) = opening_ends options.opening (lines_of bytes) end _ _ _ _ script.head.opens e
script_ends options bytes start lines skipped end script (inr (inl e)) = trace_ends options bytes lines _ _ _ _ _ end script.head.opens script.reads e
script_ends options bytes start lines skipped end script (inr (inr p)) =
    omega (arith, p.many_rows, script.few_rows, ap row_count (start_one p.head script.head p.start start p.kinds script.kinds))

-- an input ends a run in one way
input_ends_same : (options : Options) (bytes : List ℕ) (s u : EarlyEnd) → EndsInput options bytes s → EndsInput options bytes u → s ≡ u
input_ends_same options bytes s u e h =
    one_of_three options.opening bytes (EndsTrace options bytes) (EndsByRows options bytes) (λ end x. elim x [ inl a ↦ a.head | inr b ↦ b.head ])
    (λ _ _ a b. let p = same_opens options.opening (lines_of bytes) _ _ _ _ _ _ _ _ b.head.opens a.head.opens in
    ends_same a.ends (rw (p.next, p.left) at b.ends)) (λ x _ a b. trace_ends options bytes b.lines _ _ _ _ _ x b.head.opens b.reads a)
    (λ _ _ a b. a.is ∙ ap (λ l. Above Rows (row_count l)) (start_one a.head b.head a.start b.start a.kinds b.kinds) ∙ sym b.is) s u e h

-- ---- the ends of a check

-- a line that ends a check is none of those that keep the limits
ends_kept : (front : List (List ℕ)) (text : List ℕ) (more : List (List ℕ)) (end : EarlyEnd) → EndsBehind front text end → KeepsLimits (front ++ text ∷ more) → ⊥
ends_kept front text more (Above OfLine v) e kept =
    let short = All-head IsShort text more (all_behind IsShort front (text ∷ more) kept.short) in omega (arith, short, e.0)
ends_kept front text more (Above OfLines v) e kept =
    let few = kept.few (front ++ text ∷ []) more (sym (append_assoc front (text ∷ []) more)) e.2 in omega (arith, few, e.3, length-append front (text ∷ []))
ends_kept front text more other e kept = e

-- a line ends a check in one way
ends_behind_one : (front : List (List ℕ)) (text : List ℕ) (s u : EarlyEnd) → EndsBehind front text s → EndsBehind front text u → s ≡ u
ends_behind_one front text (Above OfLine a) (Above OfLine b) e h = rw (e.1, h.1) refl
ends_behind_one front text (Above OfLine a) (Above OfLines b) e h = absurd (omega (arith, e.0, h.0))
ends_behind_one front text (Above OfLines a) (Above OfLine b) e h = absurd (omega (arith, e.0, h.0))
ends_behind_one front text (Above OfLines a) (Above OfLines b) e h = rw (e.1, h.1) refl
ends_behind_one front text (Above OfLine a) other e h = absurd h
ends_behind_one front text (Above OfLines a) other e h = absurd h
ends_behind_one front text other u e h = absurd e

-- so do the lines of a log
log_ends_same : (lines : List (List ℕ)) (s u : EarlyEnd) → EndsLog lines s → EndsLog lines u → s ≡ u
log_ends_same lines s u a b = elim (places a.front a.text a.behind b.front b.text b.behind (sym a.whole ∙ b.whole)) [
  | at_same front text ↦
      let there = subst (λ t. EndsBehind b.front t s) text (subst (λ f. EndsBehind f a.text s) front a.ends) in ends_behind_one b.front b.text s u there b.ends
  | is_before more is ↦ absurd (ends_kept a.front a.text more s a.ends (subst KeepsLimits is b.kept))
  | is_behind more is ↦ absurd (ends_kept b.front b.text more u b.ends (subst KeepsLimits is a.kept))
]

-- lines that keep the limits end no check
log_ends : (lines : List (List ℕ)) (end : EarlyEnd) → KeepsLimits lines → EndsLog lines end → ⊥
log_ends lines end kept e = ends_kept e.front e.text e.behind end e.ends (subst KeepsLimits e.whole kept)

line_ends : (opening : Bool) (bytes : List ℕ) (areas : List Area) (past next : ℕ) (left : List (List ℕ)) (end : EarlyEnd)
    → Opens opening (lines_of bytes) areas past next left → KeepsLimits left → EndsByLine opening bytes end → ⊥
line_ends opening bytes areas past next left end opens kept e =
    let s = same_opens opening (lines_of bytes) _ _ _ _ _ _ _ _ e.head.opens opens in log_ends left end kept (rw s.left at e.ends)

-- an input ends a check in one way
check_ends_same : (opening : Bool) (bytes : List ℕ) (s u : EarlyEnd) → EndsCheck opening bytes s → EndsCheck opening bytes u → s ≡ u
check_ends_same opening bytes s u e h =
    one_of_three opening bytes (EndsByLine opening bytes) (EndsByStart opening bytes) (λ end x. elim x [ inl a ↦ a.head | inr b ↦ b.head ])
    (λ x y a b. let p = same_opens opening (lines_of bytes) _ _ _ _ _ _ _ _ b.head.opens a.head.opens in
    log_ends_same a.head.left x y a.ends (rw p.left at b.ends)) (λ x _ a b. line_ends opening bytes _ _ _ _ x b.head.opens b.limits a)
    (λ _ _ a b. a.is ∙ ap (λ l. Above Rows (row_count l)) (start_one a.head b.head a.start b.start a.kinds b.kinds) ∙ sym b.is) s u e h

-- an input that has a verdict ends no check
verdict_ends : (opening : Bool) (bytes : List ℕ) (before : ℕ) (verdict : Verdict) (end : EarlyEnd) → IsInputVerdict opening bytes before verdict
    → EndsCheck opening bytes end → ⊥
verdict_ends opening bytes before verdict end v (inl e) = opening_ends opening (lines_of bytes) end _ _ _ _ v.head.opens e
verdict_ends opening bytes before verdict end v (inr (inl e)) = line_ends opening bytes _ _ _ _ end v.head.opens v.limits e
verdict_ends opening bytes before verdict end v (inr (inr e)) =
    omega (arith, e.many_rows, v.few_rows, ap row_count (start_one e.head v.head e.start v.start e.kinds v.kinds))

-- an input has one verdict
verdict_same : (opening : Bool) (bytes : List ℕ) (m n : ℕ) (v w : Verdict) → IsInputVerdict opening bytes m v → IsInputVerdict opening bytes n w
    → verdict_status m v ≡ verdict_status n w
verdict_same opening bytes m n v w a b =
    let s = same_opens opening (lines_of bytes) _ _ _ _ _ _ _ _ b.head.opens a.head.opens in
    let there : IsVerdict a.start a.head.left w = subst (λ A. IsVerdict A a.head.left w) (start_one b.head a.head b.start a.start b.kinds a.kinds)
    (subst (λ lines. IsVerdict b.start lines w) s.left b.verdict_is) in
    let number : m ≡ n = omega (arith, s.next, a.next, b.next) in
    let verdict = one_verdict a.start a.head.left v w a.verdict_is there in λ i. verdict_status (number i) (verdict i)

status_ends : (before : ℕ) (verdict : Verdict) → ending (verdict_status before verdict) ≡ verdict_status before verdict
status_ends before (Legal entries) = refl
status_ends before (WrongVerdict n why) = refl

-- ---- one status

-- what an input ends in that is to be read: it is too long, something ends the run early, or it is read to its last
-- line
data InputEnd (bytes : List ℕ) (Early : EarlyEnd → Type 0) (Last : Status → Type 0) (end : Status) : Type 0 where
  long : 67108864 < length bytes → end ≡ Limit Input 67108865 → InputEnd bytes Early Last end
  stops : (at : EarlyEnd) → length bytes ≤ 67108864 → Early at → end ≡ ending (status_of at) → InputEnd bytes Early Last end
  last : length bytes ≤ 67108864 → Last end → InputEnd bytes Early Last end

-- it ends in one way where each of these does
one_end : {bytes : List ℕ} {Early : EarlyEnd → Type 0} {Last : Status → Type 0} {s u : Status} → ((a b : EarlyEnd) → Early a → Early b → a ≡ b)
    → ((a : EarlyEnd) (e : Status) → Early a → Last e → ⊥) → ((e f : Status) → Last e → Last f → e ≡ f)
    → InputEnd bytes Early Last s → InputEnd bytes Early Last u → s ≡ u
one_end one apart whole (long high is) (long high2 is2) = is ∙ sym is2
one_end one apart whole (long high is) (stops b fits h is2) = absurd (omega (arith, high, fits))
one_end one apart whole (long high is) (last fits h) = absurd (omega (arith, high, fits))
one_end one apart whole (stops a fits e is) (long high is2) = absurd (omega (arith, high, fits))
one_end one apart whole (stops a fits e is) (stops b fits2 h is2) = is ∙ ap (λ x. ending (status_of x)) (one a b e h) ∙ sym is2
one_end {u = u} one apart whole (stops a fits e is) (last fits2 h) = absurd (apart a u e h)
one_end one apart whole (last fits h) (long high is) = absurd (omega (arith, high, fits))
one_end {s = s} one apart whole (last fits h) (stops a fits2 e is) = absurd (apart a s e h)
one_end {s = s} {u = u} one apart whole (last fits h) (last fits2 k) = whole s u h k

-- the input asks for a script, and the run is done
record Scripted (options : Options) (bytes : List ℕ) (end : Status) : Type 0 where
  start : List Area
  lines : List Line
  skipped : ℕ
  script : IsScript options bytes start lines skipped
  is : end ≡ Done None

-- the input has a verdict, and its status
record Verdicted (opening : Bool) (bytes : List ℕ) (end : Status) : Type 0 where
  before : ℕ
  verdict : Verdict
  verdict_is : IsInputVerdict opening bytes before verdict
  is : end ≡ verdict_status before verdict

-- what the words and the bytes call for where the words ask for this command
abbrev CommandEnd : Command → List ℕ → Status → Type 0
CommandEnd (Play options threads) bytes end = InputEnd bytes (EndsInput options bytes) (Scripted options bytes) end
CommandEnd (Load seed threads calls) bytes end = end ≡ Done None
CommandEnd (Check opening) bytes end = InputEnd bytes (EndsCheck opening bytes) (Verdicted opening bytes) end

-- each command ends in one way
one_command_end : (command : Command) (bytes : List ℕ) (s u : Status) → CommandEnd command bytes s → CommandEnd command bytes u → s ≡ u
one_command_end (Play options threads) bytes s u a b = one_end (λ x y e h. input_ends_same options bytes x y e h)
    (λ x end e w. script_ends options bytes w.start w.lines w.skipped x w.script e) (λ e f v w. v.is ∙ sym w.is) a b
one_command_end (Load seed threads calls) bytes s u a b = a ∙ sym b
one_command_end (Check opening) bytes s u a b = one_end (λ x y e h. check_ends_same opening bytes x y e h)
    (λ x end e w. verdict_ends opening bytes w.before w.verdict x w.verdict_is e)
    (λ e f v w. v.is ∙ verdict_same opening bytes v.before w.before v.verdict w.verdict v.verdict_is w.verdict_is ∙ sym w.is) a b

-- an outcome is that of refused words, or of a command that the words spell
record Spelled (words : List (List ℕ)) (bytes : List ℕ) (end : Status) : Type 0 where
  command : Command
  spells : AskFor words command
  ends : CommandEnd command bytes end

spelled : {words : List (List ℕ)} {bytes : List ℕ} {s : Status} → IsOutcome words bytes s
    → (RefusesWords words × (ending s ≡ Usage)) ⊎ Spelled words bytes (ending s)
spelled (usage none) = inl (none, refl)
spelled (too_long (inl (o, n, acc)) high) = inr (record { command = Play o n; spells = acc; ends = long high refl })
spelled (too_long (inr (o, acc)) high) = inr (record { command = Check o; spells = acc; ends = long high refl })
spelled (early {options = o} {threads = n} {end = e} acc fits ends is) =
    inr (record { command = Play o n; spells = acc; ends = stops e fits ends (ap ending is) })
spelled (done {options = o} {threads = n} {start = x} {lines = l} {skipped = k} acc fits script) =
    inr (record { command = Play o n; spells = acc; ends = last fits (record { start = x; lines = l; skipped = k; script = script; is = refl }) })
spelled (loaded {seed = x} {threads = n} {calls = k} acc) = inr (record { command = Load x n k; spells = acc; ends = refl })
spelled (check_early {opening = o} {end = e} acc fits ends is) = inr (record { command = Check o; spells = acc; ends = stops e fits ends (ap ending is) })
spelled (checked {opening = o} {before = m} {verdict = v} acc fits verdict is) = inr (record {
  command = Check o;
  spells = acc;
  ends = last fits (record { before = m; verdict = v; verdict_is = verdict; is = ap ending is ∙ status_ends m v });
})

-- words and an input have one outcome, but for the history that it carries
one_status : {words : List (List ℕ)} {bytes : List ℕ} {s u : Status} → AskForOne words → IsOutcome words bytes s → IsOutcome words bytes u → ending s ≡ ending u
one_status {bytes = bytes} {s = s} {u = u} one a b = elim (spelled a) [
  | inl none ↦ elim (spelled b) [ inl other ↦ none.1 ∙ sym other.1 | inr some ↦ absurd (none.0 some.command some.spells) ]
  | inr first ↦ elim (spelled b) [
    | inl none ↦ absurd (none.0 first.command first.spells)
    | inr other ↦ one_command_end first.command bytes (ending s) (ending u) first.ends
        (subst (λ c. CommandEnd c bytes (ending u)) (one other.command first.command other.spells first.spells) other.ends)
  ]
]

-- what ends a run by a known input is called for
early_from : (words : List (List ℕ)) (bytes : List ℕ) (new : Option (List ℕ)) (end : EarlyEnd) → EndsByInput words (Some bytes) new end
    → IsOutcome words bytes (status_of end)
early_from words bytes new end (inl h) =
    let same = sym h.input.0.0 in early h.accepted (subst (λ b. length b ≤ 67108864) same h.input.1) (subst (λ b. EndsInput h.options b end) same h.holds) refl
early_from words bytes new end (inr h) =
    let same = sym h.input.0.0 in
    check_early h.accepted (subst (λ b. length b ≤ 67108864) same h.input.1) (subst (λ b. EndsCheck h.opening b end) same h.ends) refl

-- a verdict is called for
checked_from : (words : List (List ℕ)) (bytes : List ℕ) (new : Option (List ℕ)) (status : Status) (P : ℕ → Verdict → Type 0) (opening : Bool)
    → AskFor words (Check opening) → (h : Judged opening (Some bytes, new) P) → verdict_status h.before h.verdict ≡ status → IsOutcome words bytes status
checked_from words bytes new status P opening accepted h is =
    let same = sym h.read.0.0 in
    checked accepted (subst (λ b. length b ≤ 67108864) same h.read.1) (subst (λ b. IsInputVerdict opening b h.before h.verdict) same h.is) (sym is)

-- a report is called for
done_outcome : (words : List (List ℕ)) (bytes : List ℕ) (new : Option (List ℕ)) (closed : ClosedView) (report : List ℕ)
    → Reports words (Some bytes) new closed report → IsOutcome words bytes (Done (Some closed))
done_outcome words bytes new closed report (inl h) =
    let same = sym h.input.0.0 in
    let script = subst (λ b. IsScript h.options b h.holds.start h.holds.lines h.holds.skipped) same h.holds.script in
    done h.accepted (subst (λ b. length b ≤ 67108864) same h.input.1) script
done_outcome words bytes new closed report (inr h) = loaded h.accepted

-- the status of a run is the outcome of its words and its input, unless something hindered it
outcome_of : (words : List (List ℕ)) (bytes : List ℕ) (new out_old out_new : Option (List ℕ)) (input out : ℕ × ℕ) (result : Status)
    → Wrote words (Some bytes) new out_old out_new result → ChecksAs words (Some bytes, new) (out_old, out_new) result
    → HasCause words (Some bytes) new input out result → IsOutcome words bytes result ⊎ IsHindered input out result
outcome_of words bytes new out_old out_new input out (Done None) wrote says cause =
    let h = says wrote.0 wrote.1 in inl (checked_from words bytes new (Done None) _ wrote.0 wrote.1 h h.holds.0)
outcome_of words bytes new out_old out_new input out (Done (Some closed)) wrote says cause = inl (done_outcome words bytes new closed wrote.0 wrote.1)
outcome_of words bytes new out_old out_new input out Usage wrote says cause = inl (usage cause)
outcome_of words bytes new out_old out_new input out (BadLine l k w) wrote says cause = inl (early_from words bytes new (Refused l k w) cause)
outcome_of words bytes new out_old out_new input out ReadFault wrote says cause = inr cause
outcome_of words bytes new out_old out_new input out (WriteFault closed) wrote says cause = inr cause
outcome_of words bytes new out_old out_new input out Memory wrote says cause = inr tt
outcome_of words bytes new out_old out_new input out (Limit Input v) wrote says cause =
    inl (subst (λ n. IsOutcome words bytes (Limit Input n)) (sym cause.0) (too_long cause.2 cause.1))
outcome_of words bytes new out_old out_new input out (Limit OfLine v) wrote says cause = inl (early_from words bytes new (Above OfLine v) cause)
outcome_of words bytes new out_old out_new input out (Limit OfLines v) wrote says cause = inl (early_from words bytes new (Above OfLines v) cause)
outcome_of words bytes new out_old out_new input out (Limit Rows v) wrote says cause = inl (early_from words bytes new (Above Rows v) cause)
outcome_of words bytes new out_old out_new input out (Wrong n) wrote says cause =
    let h = says wrote.0 wrote.1 in inl (checked_from words bytes new (Wrong n) _ wrote.0 wrote.1 h h.holds.0)

-- and it is the only one
pub complete : (words : List (List ℕ)) → AskForOne words → (bytes : List ℕ) (new out_old out_new : Option (List ℕ)) (input out : ℕ × ℕ) (result : Status)
    → Wrote words (Some bytes) new out_old out_new result → ChecksAs words (Some bytes, new) (out_old, out_new) result
    → HasCause words (Some bytes) new input out result → IsOnlyOutcome words bytes result ⊎ IsHindered input out result
complete words one bytes new out_old out_new input out result wrote says cause =
    elim (outcome_of words bytes new out_old out_new input out result wrote says cause) [
      | inl is ↦ inl (record { called_for = is; only = λ other h. one_status one h is })
      | inr hindered ↦ inr hindered
    ]
