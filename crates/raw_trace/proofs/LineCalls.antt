-- What is written is read as the calls of its entries, and no line of it is refused or half of a call.
use Rattle.std.proofs.Common.{◌≡◌, ℕ, List, [], ◌∷◌, ◌++◌, ◌^◌, ◌<◌, codes, Bool, Option, Some, None, refl, sym, ap, subst, ◌∙◌, inl, inr, arith}
use Rattle.std.specs.Prelude.{option_to_list}
use Rattle.page_types.specs.declared.calls.Call.{Call}
use Rattle.line_parts.specs.Lines.{lines_of}
use Rattle.line_parts.specs.Leaves.{worth}
use Rattle.strace_reader.specs.declared.item.Item.{Item}
use Rattle.strace_reader.specs.declared.item.Item.TheVariants.{Played, Unfinished, Resumed, Other, Blank}
use Rattle.strace_reader.specs.declared.item.Name.{Name}
use Rattle.strace_reader.specs.declared.item.Recorded.{Recorded}
use Rattle.strace_reader.specs.declared.joiner.Fed.TheVariants.{Played as Answered, Skipped, Blank as BlankFed}
use Rattle.strace_reader.specs.Words.{call_head}
use Rattle.strace_reader.specs.Grammar.{BeginsWith, IsPid, IsPrefixed, IsCut, IsHalf, IsBody, Spells}
use Rattle.strace_reader.specs.Joining.{KeepsNone}
use Rattle.strace_reader.proofs.OneOutcome.{one_outcome}
use Rattle.raw_lines.specs.Marks.{unread_text}
use Rattle.raw_lines.specs.Mends.{IsWhole}
use Rattle.raw_logs.proofs.CleanLogs.{IsClean, EachLine, texts_clean}
use Rattle.raw_trace.specs.declared.calls.ReadCall.{ReadCall}
use Rattle.raw_trace.specs.declared.settling.Ending.{Ending}
use Rattle.raw_trace.specs.Order.{Entry, Step, frees_for, order}
use Rattle.raw_trace.specs.Places.{Becomes, becomes_itself, becomes_mended, becomes_unreturned, becomes_undone, becomes_unread, IsReadAs, IsEntry, ReadText, part, AreSteps}
use Rattle.raw_logs.specs.declared.counts.Counts.{Counts}
use Rattle.raw_trace.specs.declared.tally.Tally.{Tally}
use Rattle.raw_trace.specs.Heaps.{shown}
use Rattle.raw_trace.specs.Rewriting.{lines_as, calls_of, no_calls, counted_call, shown_all, IsRewriting}
use Rattle.raw_trace.specs.Stages.{EachEntry}
use Rattle.raw_trace.specs.Laws.{ReadsAs, all_read, reads_text, KeepsCalls}
use Rattle.raw_trace.proofs.CleanLines.{lines_back, becomes_clean, clean_texts, part_clean, AreCleanTexts}
use Rattle.raw_trace.proofs.EachEntries.{EachStep, line_in, done_each, order_each}
use Rattle.raw_trace.proofs.HeapLines.{IsInstead, line_spells, line_clean, IsShown, stays, turns_into, shows}
use Rattle.raw_trace.proofs.OneWay.{read_one}
use Rattle.raw_trace.proofs.ReadTexts.{parts_of}

-- the body of a first half
pub half_first : (line : List ℕ) (process : ℕ) (name : Name) (from to : ℕ) → Spells line (Unfinished process name from to)
    → (body half : List ℕ) × IsCut line process body × BeginsWith (call_head name) body × IsHalf body half
unfolding Spells IsBody
half_first line process name from to h = (h.0, h.3.0, h.2, h.3.1, h.3.2)

-- a dash is no digit
dash_digit : (digits more rest : List ℕ) (n : ℕ) → IsPid digits n → digits ++ more ≡ codes "---" ++ rest → ⊥
unfolding worth
dash_digit [] more rest n h e = omega (arith, h.0.0)
dash_digit (b ∷ digits) more rest n h e = let k : b ≡ 45 = cc in let d = h.0.1.0 in let w = ap worth k in omega arith

-- a line that begins with dashes has no number
pub no_prefix : (text rest : List ℕ) (n : ℕ) (left : List ℕ) → text ≡ codes "---" ++ rest → IsPrefixed text n left → ⊥
no_prefix text rest n left e (inl h) = dash_digit h.0 (codes " " ++ left) rest n h.1 (sym h.2 ∙ e)
no_prefix text rest n left e (inr h) =
    let k : codes "---" ++ rest ≡ codes "[pid " ++ (h.0 ++ h.1) = sym e ∙ h.3 in
    let l : ◌≡◌ {A = ℕ} 45 91 = cc in omega arith

-- such a line is passed over
pub unread_passes : (line : List ℕ) → Spells (unread_text line) Other
unfolding Spells IsBody
unread_passes line =
    let e : unread_text line ≡ codes "---" ++ (codes " unread: " ++ line) = refl in (
      λ none. let k : codes "---" ++ (codes " unread: " ++ line) ≡ [] = none in cc,
      0,
      unread_text line,
      inr (refl, refl, λ n rest p. no_prefix (unread_text line) (codes " unread: " ++ line) n rest e p),
      inl (codes " unread: " ++ line, e),
    )

-- none of the lines is a half
abbrev AreWhole : List (List ℕ) → Type 0
AreWhole lines = EachLine (λ line. (item : Item) × Spells line item × IsWhole item) lines

none_kept : (lines later earlier : List (List ℕ)) (text : List ℕ) (p : ℕ) (n : Name) (from to : ℕ) → AreWhole lines → lines ≡ later ++ (text ∷ earlier)
    → Spells text (Unfinished p n from to) → ⊥
none_kept [] [] earlier text p n from to w e s = cc
none_kept [] (l ∷ later) earlier text p n from to w e s = cc
none_kept (line ∷ lines) [] earlier text p n from to w e s =
    let k : text ≡ line = cc in
    let t : Spells line (Unfinished p n from to) = subst (λ (x : List ℕ). Spells x (Unfinished p n from to)) k s in
    subst IsWhole ((one_outcome line).item w.0.0 (Unfinished p n from to) w.0.1 t) w.0.2
none_kept (line ∷ lines) (l ∷ later) earlier text p n from to w e s =
    let k : lines ≡ later ++ (text ∷ earlier) = cc in
    none_kept lines later earlier text p n from to w.1 k s

-- so a reader keeps none
keeps_none : (lines : List (List ℕ)) (p : ℕ) → AreWhole lines → KeepsNone lines p
keeps_none lines p w name half h = none_kept lines h.later h.earlier h.text p name h.from h.to w h.parts h.is_half

-- ---- what is written

-- the line is read as a whole, as the call of its entry, and has no newline
pub record IsWritten (entry : Entry) : Type 0 where
  pub item : Item
  pub spelled : Spells entry.line item
  pub whole : IsWhole item
  pub read : IsReadAs entry.line entry.call
  pub clean : IsClean entry.line

-- what a line becomes is whole
becomes_whole : (line written : List ℕ) (ending : Ending) → Becomes line written ending → (item : Item) × Spells written item × IsWhole item
becomes_whole line written ending (becomes_itself g) = g.0
becomes_whole line written ending (becomes_mended bad r short m g) = g.0
becomes_whole line written ending (becomes_unreturned h) = h.5.0
becomes_whole line written ending (becomes_undone l) = (Other, unread_passes line, tt)
becomes_whole line written ending (becomes_unread never half left none) = (Other, unread_passes line, tt)

entry_written : (number : ℕ) (joined : Bool) (line : List ℕ) (entry : Entry) → IsClean line → IsEntry number joined line entry → IsWritten entry
entry_written number joined line entry c is =
    let w = becomes_whole line entry.line entry.ending is.becomes in
    record { item = w.0; spelled = w.1; whole = w.2; read = is.read; clean = becomes_clean line entry.line entry.ending c is.becomes }

steps_written : (fed texts : List ReadText) (steps : List Step) → AreCleanTexts (texts ++ []) → AreSteps fed texts [] steps → EachStep IsWritten steps
steps_written fed [] [] clean are = tt
steps_written fed (text ∷ texts) (step ∷ steps) clean are =
    let o = part fed text (texts ++ []) text.reading in
    let c = part_clean fed text (texts ++ []) o clean.0 clean.1 (parts_of fed text (texts ++ [])) in
    done_each IsWritten text.line o step steps (λ number two e h. entry_written number two (line_in text.line o) e c h) are.0
    (steps_written (text ∷ fed) texts steps clean.1 are.1)
steps_written fed texts steps clean are = absurd are

entries_clean : (entries : List Entry) → EachEntry IsWritten entries → EachLine IsClean (lines_as entries)
entries_clean [] h = tt
entries_clean (e ∷ entries) h = (h.0.clean, entries_clean entries h.1)

-- a line that is read as no call has none
no_call : (line : List ℕ) (item : Item) (call : Option ReadCall) → ((pid : ℕ) (done : Call) (recorded : Option Recorded) → item ≡ Played pid done recorded → ⊥)
    → Spells line item → IsReadAs line call → call ≡ None
no_call line item call never s r =
    read_one line call None r (λ pid done recorded k. never pid done recorded ((one_outcome line).item item (Played pid done recorded) s k))

-- one line is read, and then the others
read_line : (heard : List (List ℕ)) (e : Entry) (lines : List (List ℕ)) (calls : List ReadCall) → AreWhole heard → IsReadAs e.line e.call
    → ReadsAs (e.line ∷ heard) lines calls → (item : Item) → Spells e.line item → IsWhole item
    → ReadsAs heard (e.line ∷ lines) (option_to_list e.call ++ calls)
read_line heard e lines calls w r more (Played pid done recorded) s t =
    subst (λ (x : Option ReadCall). ReadsAs heard (e.line ∷ lines) (option_to_list x ++ calls))
    (read_one e.line (Some (record { pid = pid; call = done; recorded = recorded })) e.call s r)
    (reads_text (Answered pid done recorded 0) (inl (s, inr (keeps_none heard pid w, refl))) more)
read_line heard e lines calls w r more (Unfinished pid name from to) s t = absurd t
read_line heard e lines calls w r more (Resumed pid name from) s t = absurd t
read_line heard e lines calls w r more Other s t =
    subst (λ (x : Option ReadCall). ReadsAs heard (e.line ∷ lines) (option_to_list x ++ calls))
    (sym (no_call e.line Other e.call (λ pid done recorded k. cc) s r)) (reads_text (Skipped 1) (inl (s, refl)) more)
read_line heard e lines calls w r more Blank s t =
    subst (λ (x : Option ReadCall). ReadsAs heard (e.line ∷ lines) (option_to_list x ++ calls))
    (sym (no_call e.line Blank e.call (λ pid done recorded k. cc) s r)) (reads_text BlankFed s more)

reads : (heard : List (List ℕ)) (entries : List Entry) → AreWhole heard → EachEntry IsWritten entries → ReadsAs heard (lines_as entries) (calls_of entries)
reads heard [] w h = all_read
reads heard (e ∷ entries) w h =
    read_line heard e (lines_as entries) (calls_of entries) w h.0.read
    (reads (e.line ∷ heard) entries ((h.0.item, h.0.spelled, h.0.whole), w) h.1) h.0.item h.0.spelled h.0.whole

-- the number of a line has 32 bits
cut_small : (text : List ℕ) (pid : ℕ) (body : List ℕ) → IsCut text pid body → pid < 2 ^ 32
cut_small text pid body (inl (rest, inl p, behind)) = p.1.1
cut_small text pid body (inl (rest, inr p, behind)) = p.4.1.1
cut_small text pid body (inr h) = omega (arith, h.0)

call_small : (line : List ℕ) (read : ReadCall) → IsReadAs line (Some read) → read.pid < 2 ^ 32
unfolding Spells
call_small line read h = cut_small line read.pid h.0 h.1

-- so is what is written instead
pub instead_small : (e : Entry) (read : ReadCall) → IsWritten e → IsInstead e.call read → read.pid < 2 ^ 32
instead_small e read w k =
    let small = call_small e.line k.old (subst (IsReadAs e.line) k.is w.read) in omega (arith, small, k.pid)

shown_written : (t : Tally) (e : Entry) → IsWritten e → IsWritten (shown t e)
shown_written t e w = by (shows t e)
  where
    by : IsShown t e → IsWritten (shown t e)
    by (stays k) = subst IsWritten (sym k) w
    by (turns_into read k is) =
        let small = instead_small e read w k in
        let spelled = line_spells read small k.plain k.recorded in
        subst IsWritten (sym is) (record {
          item = Played read.pid read.call read.recorded;
          spelled = spelled;
          whole = tt;
          read = spelled;
          clean = line_clean read small k.plain;
        })

pub all_shown : (t : Tally) (entries : List Entry) → EachEntry IsWritten entries → EachEntry IsWritten (shown_all t entries)
all_shown t [] h = tt
all_shown t (e ∷ entries) h = (shown_written t e h.0, all_shown (counted_call e.call t) entries h.1)

-- the lines of what is written are those of its entries, with what is written instead
pub lines_written : (process : Option ℕ) (bytes out : List ℕ) (counts : Counts) (number : Tally) → (is : IsRewriting process bytes out counts number)
    → EachEntry IsWritten (order frees_for [] is.steps) × (lines_of out ≡ lines_as (shown_all no_calls (order frees_for [] is.steps)))
lines_written process bytes out counts number is =
    let clean = clean_texts is.chosen is.read is.reads (texts_clean process bytes is.chosen is.before is.texts) in
    let each = order_each IsWritten frees_for [] is.steps tt (steps_written [] is.read is.steps clean is.are) in
    let entries = shown_all no_calls (order frees_for [] is.steps) in
    (each, ap lines_of is.bytes_of ∙ lines_back (lines_as entries) (entries_clean entries (all_shown no_calls (order frees_for [] is.steps) each)))

-- what is written is read as just the calls of the log
pub calls_kept : KeepsCalls
calls_kept process bytes out counts number is =
    let written = lines_written process bytes out counts number is in
    let entries = shown_all no_calls (order frees_for [] is.steps) in
    subst (λ (x : List (List ℕ)). ReadsAs [] x (calls_of entries)) (sym written.1)
    (reads [] entries tt (all_shown no_calls (order frees_for [] is.steps) written.0))
