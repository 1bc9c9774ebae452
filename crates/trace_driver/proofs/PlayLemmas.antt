-- What the workers of a space have played is a legal history of just their lines, with as many entries as lines.
use Rattle.std.proofs.Common.{◌≡◌, ℕ, zero, suc, ◌+◌, ◌<◌, List, [], ◌∷◌, length, map, get_or, refl}
use Rattle.std.proofs.Common.{sym, ap, subst, ◌∙◌, inl, inr, cond, None, Some, arith, mod-lt, add-one, Global}
use Rattle.std.specs.Prelude.{Vec, vec_items, vec_len, sum_by, All, MatchOption, Option, ◌↔◌, ◌≢◌, ◌==◌}
use Rattle.std.proofs.lemmas.Bool.{eqb-true}
use Rattle.std.proofs.lemmas.Bool.Decides.{eqb_tells}
use Rattle.std.proofs.lemmas.List.Elements.{All-cons, All-head, All-nil, All-tail, filter_passes}
use Rattle.std.proofs.lemmas.List.Sums.{sum_by-cons}
use mathlib.Core.Option.{some}
use lib.ListN.{get_elem?}
use Rattle.std.specs.List.{AllZip, range_with_len}
use Rattle.std.proofs.lemmas.List.{length-map}
use Rattle.std.proofs.lemmas.List.FromFn.{length-map-range_with_len, sum_by-map-range_with_len_more}
use Rattle.space_model.specs.declared.areas.Area.{Area}
use Rattle.space_model.specs.declared.entries.Entry.{Entry}
use Rattle.space_model.specs.declared.entries.Under.{Under}
use Rattle.space_model.specs.declared.entries.Under.TheVariants.{Nothing, Area as Held, Whole}
use Rattle.page_types.specs.declared.calls.Call.{Call}
use Rattle.page_types.specs.declared.calls.Call.TheVariants.{Protect, Fault}
use Rattle.page_types.specs.declared.calls.Reply.{Reply}
use Rattle.page_types.specs.Pages.{page_of}
use Rattle.page_types.specs.PlainReply.{plain_reply}
use Rattle.space_model.specs.Held.{FitsByState, FitsUnder, HoldsSomeArea, IsSimple, IsSimpleIn, ReadsPage}
use Rattle.space_model.specs.History.{Chains, FitsAndReplies, HasNamedCalls, HasRightReply, Runs, StateAfter}
use Rattle.space_model.proofs.Histories.{chains_weaker, one_state, replied_state}
use Rattle.area_rows.specs.History.{entries_of}
use Rattle.area_rows.proofs.Storing.{all_legal}
use Rattle.trace_threads.specs.declared.worker.Line.{Line as Turn}
use Rattle.round_trip.specs.Logs.{IsNamedEntry}
use Rattle.strace_reader.specs.Playing.{as_played}
use Rattle.trace_threads.specs.Workers.{AreEntriesOf}
use Rattle.trace_threads.specs.Collected.{AllHeld, HeldAndReplies, IsOnlyWorker, IsPlayed as WerePlayed}
use Rattle.trace_driver.specs.declared.trace.Line.{Line}
use Rattle.trace_driver.specs.Dealt.{worker_of, own_lines, played_line, worker_lines, dealt}
use Rattle.trace_driver.specs.Play.{IsHistoryOf}
use Rattle.trace_driver.proofs.Parts.{NoneAbove, first_below, rest_none, total, total_same, parts_whole, none_above}

-- the list of each number
pub numbered_list : {A : Type 0} (f : ℕ → A) (from n k j : ℕ) → k < n → from + k ≡ j → get_elem? (map f (range_with_len from n)) k ≡ some (f j)
numbered_list f from zero k j low is = absurd (omega arith)
numbered_list f from (suc n) zero j low is = ap (λ (i : ℕ). some (f i)) (let same : from ≡ j = omega arith in same)
numbered_list f from (suc n) (suc k) j low is = numbered_list f (from + 1) n k j (omega arith) (omega arith)

-- there are as many lists as workers
pub dealt_length : (threads : ℕ) (lines : List Line) → length (dealt threads lines) ≡ threads
dealt_length threads lines = length-map-range_with_len (worker_lines threads lines) 0 threads

-- where each entry has a worker below a bound none has another
pub none_from : (n : ℕ) (entries : List Entry) → All (λ (e : Entry). e.worker < n) entries → NoneAbove (λ (e : Entry). e.worker) n entries
none_from n [] all k above = refl
none_from n (e ∷ es) all k above = elim (eqb_tells e.worker k) [
  | inl h ↦ absurd (let low = All-head (λ (x : Entry). x.worker < n) e es all in omega (arith, low, h.1, above))
  | inr h ↦ ap (λ b. cond b (e ∷ entries_of k es) (entries_of k es)) h.0 ∙ none_from n es (All-tail (λ (x : Entry). x.worker < n) e es all) k above
]

-- what fits what was held and has the right reply has the right reply
pub right_replies : (A B : List Area) (entries : List Entry) → Runs 0 A entries B → Chains HasRightReply A entries B
right_replies A B entries runs = chains_weaker FitsAndReplies HasRightReply (λ X e Y h. h.1) A entries B runs.1

-- the calls of entries with named bits alone have such bits
pub named_calls : (entries : List Entry) → All IsNamedEntry entries → HasNamedCalls entries
named_calls entries all k d low = (all k d low).0

-- the entry is that of the line: it has its number, and its call as it is played
abbrev pub IsEntryOfLine : Line → Entry → Type 0
IsEntryOfLine line e = (e.line ≡ line.number) × (e.call ≡ as_played line.call line.recorded)

-- the entries of each worker are those of its lines
abbrev pub AreOwn : ℕ → List Line → List Entry → Type 0
AreOwn threads lines entries = (worker : ℕ) → worker < threads → AllZip IsEntryOfLine (own_lines threads lines worker) (entries_of worker entries)

zip_long : (lines : List Line) (es : List Entry) → AllZip IsEntryOfLine lines es → length es ≡ length lines
zip_long [] [] h = refl
zip_long [] (e ∷ es) h = absurd h
zip_long (l ∷ ls) [] h = absurd h
zip_long (l ∷ ls) (e ∷ es) h = let rest = zip_long ls es h.1 in omega (arith, rest)

-- one entry for each line
pub as_many : (threads : ℕ) (lines : List Line) (entries : List Entry) → 0 < threads → AreOwn threads lines entries
    → All (λ (e : Entry). e.worker < threads) entries → length entries ≡ length lines
as_many threads lines entries some_threads own below = sym (parts_whole (λ (e : Entry). e.worker) threads entries (none_from threads entries below))
    ∙ total_same threads (λ k. length (entries_of k entries)) (λ k. length (own_lines threads lines k))
    (λ k low. zip_long (own_lines threads lines k) (entries_of k entries) (own k low))
    ∙ parts_whole (worker_of threads) threads lines (none_above (worker_of threads) threads (λ line. mod-lt line.process some_threads) lines)

lists_total : (lists : List (Vec Turn Global)) → sum_by vec_len lists ≡ sum_by length (map vec_items lists)
lists_total [] = refl
lists_total (v ∷ vs) =
    let rest = lists_total vs in let left = sum_by-cons vec_len v vs in let right = sum_by-cons length (vec_items v) (map vec_items vs) in omega (arith, v.ok.0)

numbered_total : (f : ℕ → List Turn) (n : ℕ) → sum_by length (map f (range_with_len 0 n)) ≡ total n (λ k. length (f k))
numbered_total f zero = refl
numbered_total f (suc n) =
    let more : sum_by length (map f (range_with_len 0 (suc n))) ≡ sum_by length (map f (range_with_len 0 n)) + length (f n) =
    rw add-one at (sum_by-map-range_with_len_more length f 0 n n (omega arith)) in let rest = numbered_total f n in omega arith

-- the lists have as many lines together as were dealt out
pub dealt_total : (threads : ℕ) (lines : List Line) (lists : List (Vec Turn Global)) → 0 < threads → map vec_items lists ≡ dealt threads lines
    → sum_by vec_len lists ≡ length lines
dealt_total threads lines lists some_threads is = lists_total lists ∙ ap (λ (x : List (List Turn)). sum_by length x) is
    ∙ numbered_total (worker_lines threads lines) threads
    ∙ total_same threads (λ k. length (worker_lines threads lines k)) (λ k. length (own_lines threads lines k))
    (λ k low. length-map (own_lines threads lines k) played_line)
    ∙ parts_whole (worker_of threads) threads lines (none_above (worker_of threads) threads (λ line. mod-lt line.process some_threads) lines)

-- where all entries are of one worker no other has one
alone_of : (worker : ℕ) (entries : List Entry) → All (λ (e : Entry). e.worker ≡ worker) entries → IsOnlyWorker worker entries
alone_of worker [] all k apart = refl
alone_of worker (e ∷ es) all k apart = elim (eqb_tells e.worker k) [
  | inl h ↦ absurd (apart (sym h.1 ∙ All-head (λ (x : Entry). x.worker ≡ worker) e es all))
  | inr h ↦ ap (λ b. cond b (e ∷ entries_of k es) (entries_of k es)) h.0 ∙ alone_of worker es (All-tail (λ (x : Entry). x.worker ≡ worker) e es all) k apart
]

-- what each call held is so on the way to the last state
to_last : (A : List Area) (entries : List Entry) (last : List Area) → AllHeld A entries → StateAfter A entries last → Chains HeldAndReplies A entries last
to_last A entries last (B, held) state =
    let replied = chains_weaker HeldAndReplies HasRightReply (λ X e Y step. step.1) A entries B held in
    subst (λ (X : List Area). Chains HeldAndReplies A entries X) (one_state A entries B last (replied_state A entries B replied) state) held

-- the entries of lines as they are played are those of the lines
zip_of : (worker : ℕ) (lines : List Line) (es : List Entry) → AreEntriesOf worker (map played_line lines) es → AllZip IsEntryOfLine lines es
zip_of worker [] [] h = tt
zip_of worker (l ∷ ls) (e ∷ es) h = ((h.0.line_is, h.0.call_is), zip_of worker ls es h.1)
zip_of worker lines es h = absurd h

-- and back, where they are of one worker
zip_entries : (worker : ℕ) (lines : List Line) (es : List Entry) → AllZip IsEntryOfLine lines es → All (λ (e : Entry). e.worker ≡ worker) es
    → AreEntriesOf worker (map played_line lines) es
zip_entries worker [] [] h all = tt
zip_entries worker [] (e ∷ es) h all = absurd h
zip_entries worker (l ∷ ls) [] h all = absurd h
zip_entries worker (l ∷ ls) (e ∷ es) h all = (
  record { worker_is = All-head (λ (x : Entry). x.worker ≡ worker) e es all; line_is = h.0.0; call_is = h.0.1 },
  zip_entries worker ls es h.1 (All-tail (λ (x : Entry). x.worker ≡ worker) e es all),
)

own_are : (worker : ℕ) (entries : List Entry) → All (λ (e : Entry). e.worker ≡ worker) (entries_of worker entries)
own_are worker entries k d low =
    eqb-true (get_or (entries_of worker entries) k d).worker worker (filter_passes (λ (e : Entry). e.worker == worker) entries k d low)

-- the entries of a worker are those of its lines, one by one
pub of_worker : (threads : ℕ) (lines : List Line) (entries : List Entry) (worker : ℕ) → AreOwn threads lines entries → worker < threads
    → AreEntriesOf worker (worker_lines threads lines worker) (entries_of worker entries)
of_worker threads lines entries worker own low =
    zip_entries worker (own_lines threads lines worker) (entries_of worker entries) (own worker low) (own_are worker entries)

-- no entry has a worker that isn't below the number of workers
workers_below : (n : ℕ) (entries : List Entry) → NoneAbove (λ (e : Entry). e.worker) n entries → All (λ (e : Entry). e.worker < n) entries
workers_below n [] none = All-nil (λ (e : Entry). e.worker < n)
workers_below n (e ∷ es) none = All-cons (λ (e : Entry). e.worker < n) e es (first_below (λ (e : Entry). e.worker) n e es none)
    (workers_below n es (rest_none (λ (e : Entry). e.worker) n e es none))

-- ---- who holds an area alone

-- a call that may hold its area alone doesn't hold everything
abbrev pub HoldsItAlone : List Area → Call → Under → Type 0
HoldsItAlone A c under = plain_reply c ≡ None → (a : Area) → IsSimpleIn A c a → under ≢ Whole

-- what a call holds, beside that it fits and that its reply is right
abbrev pub HeldAsMay : List Area → Entry → List Area → Type 0
HeldAsMay A e B = FitsAndReplies A e B × HoldsItAlone A e.call e.under

-- the page of a fault is no area
page_held : (page : ℕ) (under : Under) → ReadsPage page under → HoldsSomeArea under → ⊥
page_held page (Held span) reads holds = reads
page_held page other reads holds = holds

-- a call that holds an area, which fits, is simple there
simple_there : (A : List Area) (c : Call) (under : Under) → FitsByState A c under → HoldsSomeArea under → IsSimple A c
simple_there A (Protect addr len prot) under (inl all) holds = absurd (subst HoldsSomeArea all holds)
simple_there A (Protect addr len prot) under (inr h) holds = (h.0, h.1)
simple_there A (Fault addr access) under fits holds = absurd (page_held (page_of addr) under fits holds)
simple_there A other under fits holds = absurd (subst HoldsSomeArea fits holds)

-- a simple call, which fits and doesn't hold everything, holds an area
holds_there : (A : List Area) (c : Call) (under : Under) (a : Area) → FitsByState A c under → IsSimpleIn A c a → under ≢ Whole → HoldsSomeArea under
holds_there A (Protect addr len prot) under a (inl all) simple apart = absurd (apart all)
holds_there A (Protect addr len prot) under a (inr h) simple apart = subst HoldsSomeArea (sym h.3) tt
holds_there A other under a fits simple apart = absurd simple

-- so what fits is an area exactly where the call may hold it alone
pub area_alone : (A : List Area) (c : Call) (under : Under) → FitsUnder A c under → HoldsItAlone A c under
    → HoldsSomeArea under ↔ ((plain_reply c ≡ None) × IsSimple A c)
area_alone A c under fits alone = (
  λ holds. let none = decided (plain_reply c) fits holds in (none.0, simple_there A c under none.1 holds),
  λ simple.
      let state = subst (λ o. MatchOption o (FitsByState A c under) (λ reply. under ≡ Nothing)) simple.0 fits in
      holds_there A c under simple.1.0 state simple.1.1 (alone simple.0 simple.1.0 simple.1.1),
)
  where
    decided : (o : Option Reply) → MatchOption o (FitsByState A c under) (λ reply. under ≡ Nothing) → HoldsSomeArea under → (o ≡ None) × FitsByState A c under
    decided None fits holds = (refl, fits)
    decided (Some reply) fits holds = absurd (subst HoldsSomeArea fits holds)

-- and where it is an area it isn't everything
not_whole : (under : Under) → HoldsSomeArea under → under ≢ Whole
not_whole under holds all = subst HoldsSomeArea all holds

held_alone : (A : List Area) (e : Entry) (B : List Area) → HeldAndReplies A e B → HeldAsMay A e B
held_alone A e B step = ((step.0.fits, step.1), λ none a simple. not_whole e.under (step.0.area.1 (none, (a, simple))))

-- what workers have played is what `run` says of it
pub played : (threads : ℕ) (opening : List Area) (lines : List Line) (entries : List Entry) (last : List Area)
    → WerePlayed opening (dealt threads lines) entries last → IsHistoryOf threads opening lines entries last
played threads opening lines entries last h = record {
  own = λ worker low. zip_of worker (own_lines threads lines worker) (entries_of worker entries)
      (h.collected.lines worker (worker_lines threads lines worker) (numbered_list (worker_lines threads lines) 0 threads worker worker low (omega arith)));
  no_other = workers_below threads entries (λ k above. let count = dealt_length threads lines in h.collected.no_other k (omega arith));
  runs = h.runs;
  alone = λ worker all. chains_weaker HeldAndReplies HeldAsMay held_alone opening entries last
      (to_last opening entries last (h.alone worker (alone_of worker entries all)) (all_legal opening last entries h.runs).1);
  named = λ k d within. (h.calls k d within, h.replies k d within);
}
