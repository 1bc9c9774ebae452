-- Lines are read one by one: what becomes of those that are left completes what became of those before them.
use Rattle.std.proofs.Common.{◌≡◌, ℕ, ◌+◌, ◌≤◌, ◌==◌, Bool, true, false, not, if◌then◌else◌, List, [], ◌∷◌, ◌++◌, length, Option, Some, None, Result, Ok, Err}
use Rattle.std.proofs.Common.{ap, subst, sym, refl, ◌∙◌, inl, inr, arith, append-nil, append_assoc}
use Rattle.std.specs.Prelude.{IfErr, OnOk}
use Rattle.page_types.specs.declared.calls.Call.{Call}
use Rattle.page_types.specs.declared.calls.Call.TheVariants.{Brk}
use Rattle.page_types.specs.Named.{IsNamedCall}
use Rattle.strace_reader.specs.declared.item.Recorded.{Recorded}
use Rattle.strace_reader.specs.declared.joiner.Fed.{Fed}
use Rattle.strace_reader.specs.declared.joiner.Fed.TheVariants.{Played, Kept, Skipped, Blank}
use Rattle.strace_reader.specs.declared.joiner.Joiner.{Joiner}
use Rattle.strace_reader.specs.Joiner.{IsFed}
use Rattle.strace_reader.specs.Joining.{CountsKept, Drops, IsAnswer}
use Rattle.strace_reader.specs.Playing.{answered, base_behind, on_base, skipped_by, with_base}
use Rattle.strace_reader.proofs.KeptCounts.{few_kept}
use Rattle.strace_reader.proofs.NamedCalls.{named_answer}
use Rattle.trace_driver.specs.declared.status.EarlyEnd.{EarlyEnd}
use Rattle.trace_driver.specs.declared.trace.Line.{Line}
use Rattle.trace_driver.specs.declared.trace.TraceReader.{TraceReader}
use Rattle.trace_driver.specs.Status.{OrMemory}
use Rattle.trace_driver.specs.Script.{TracePosition, start_at, after, taken, lines_by, seen_by, Reads}
use Rattle.trace_driver.specs.Endings.{Ends, EndsAt, IsShort}
use Rattle.trace_driver.specs.TraceReader.{IsNamedAnswer, IsIndexed, IsFull, StandsAt, Takes, played_by}
use Rattle.trace_driver.specs.Script.Reads.{nothing, line}
use Rattle.trace_driver.specs.Endings.EndsAt.{here, later}

-- ---- one line

drops_few : (fed : List (List ℕ)) (pid count : ℕ) → Drops fed pid count → count ≤ 1
drops_few fed pid count (inl h) = omega (arith, h.3)
drops_few fed pid count (inr h) = omega (arith, h.1)

passes_few : (fed : List (List ℕ)) (text : List ℕ) (count : ℕ) → IsAnswer fed text (Skipped count) → count ≤ 2
passes_few fed text count (inl h) = omega (arith, h.1)
passes_few fed text count (inr (inl h)) = omega (arith, h.1)
passes_few fed text count (inr (inr (inl h))) = omega (arith, h.1)
passes_few fed text count (inr (inr (inr (inl h)))) = omega (arith, h.4)
passes_few fed text count (inr (inr (inr (inr h)))) = omega (arith, h.4)

-- beside a call that is played one line is passed over at most
beside_few : (fed : List (List ℕ)) (text : List ℕ) (pid : ℕ) (call : Call) (recorded : Option Recorded) (count : ℕ)
    → IsAnswer fed text (Played pid call recorded count) → count ≤ 1
beside_few fed text pid call recorded count (inl h) = drops_few fed pid count h.1
beside_few fed text pid call recorded count (inr h) = omega (arith, h.3)

kept_few : (fed : List (List ℕ)) (pid count : ℕ) → Drops fed pid count → count ≤ 2
kept_few fed pid count h = let few = drops_few fed pid count h in omega (arith, few)

-- an answer passes over two lines at most
pub answers_few : (fed : List (List ℕ)) (text : List ℕ) (answer : Fed) → IsAnswer fed text answer → skipped_by answer ≤ 2
answers_few fed text (Played pid call recorded count) h = let few = beside_few fed text pid call recorded count h in omega (arith, few)
answers_few fed text (Kept count) h = kept_few fed h.0 count h.5
answers_few fed text (Skipped count) h = passes_few fed text count h
answers_few fed text Blank h = omega arith

one_more : (call : Option Call) (pid : ℕ) (recorded : Option Recorded) (count : ℕ) → count ≤ 1 → skipped_by (answered call pid recorded count) ≤ 2
one_more (Some call) pid recorded count few = omega (arith, few)
one_more None pid recorded count few = omega (arith, few)

-- so does what becomes of a line
pub skips_few : (base : ℕ) (fed : List (List ℕ)) (text : List ℕ) (answer : Fed) → IsAnswer fed text answer → skipped_by (on_base base answer) ≤ 2
skips_few base fed text (Played pid call recorded count) h = one_more (with_base base call) pid recorded count (beside_few fed text pid call recorded count h)
skips_few base fed text (Kept count) h = kept_few fed h.0 count h.5
skips_few base fed text (Skipped count) h = passes_few fed text count h
skips_few base fed text Blank h = omega arith

heap_named : (base pid own addr : ℕ) (recorded : Option Recorded) (count : ℕ) (has none : Bool)
    → IsNamedAnswer (answered (if has then Some (Brk own addr) else if none then None else Some (Brk base addr)) pid recorded count)
heap_named base pid own addr recorded count true none = tt
heap_named base pid own addr recorded count false true = tt
heap_named base pid own addr recorded count false false = tt

-- a call with a base has no bit but the named ones, where it had none without
based_named : (base pid : ℕ) (call : Call) (recorded : Option Recorded) (count : ℕ) → IsNamedCall call
    → IsNamedAnswer (answered (with_base base call) pid recorded count)
based_named base pid (Brk own addr) recorded count h = heap_named base pid own addr recorded count (not (own == 0)) (base == 0)
based_named base pid other recorded count h = h

-- what becomes of a line has no bit but the named ones
pub is_named : (base : ℕ) (fed : List (List ℕ)) (text : List ℕ) (answer : Fed) → IsAnswer fed text answer → IsNamedAnswer (on_base base answer)
is_named base fed text (Played pid call recorded count) h = based_named base pid call recorded count (named_answer fed text pid call recorded count h)
is_named base fed text other h = tt

-- as many lines are played as an answer counts
played_are : (stand : TracePosition) (answer : Fed) → length (lines_by stand answer) ≡ played_by answer
played_are stand Blank = refl
played_are stand other = refl

-- the reader that was fed the text, and added its answer, took it
pub takes_by : (stand : TracePosition) (text : List ℕ) (old new : TraceReader) (answer : Fed) → IsShort text → StandsAt old stand
    → IsAnswer stand.fed text answer → IsFed new.joiner (text ∷ stand.fed)
    → new.base ≡ base_behind stand.base answer → new.lines.items ≡ old.lines.items ++ lines_by stand (taken stand answer)
    → IsIndexed new.processes (seen_by stand.seen (taken stand answer)) → length new.lines.items ≡ length old.lines.items + played_by (taken stand answer)
    → length new.lines.items ≤ 1048576 → new.skipped ≡ old.skipped + skipped_by (taken stand answer) → Takes stand text old new
takes_by stand text old new answer short at is fed base lines indexed len few skipped =
    let played = at.played in
    let count = played_are stand (taken stand answer) in record {
      answer = answer;
      asks = (short, is, omega (arith, played, len, few, count));
      stands = record { fed = fed; indexed = indexed; played = omega (arith, played, len, count); base = sym base };
      lines = lines;
      skipped = skipped;
    }

-- so it did where adding the answer succeeded
pub takes_on : {X : Type 0} (r : Result X EarlyEnd) (text : List ℕ) (number : ℕ) (old new : TraceReader) (joiner : Joiner) (answer : Fed) (base : ℕ)
    (told : Fed) → IsShort text → base ≡ base_behind old.base answer → told ≡ on_base base answer
    → ((fed : List (List ℕ)) → IsFed old.joiner fed → IsAnswer fed text answer)
    → ((fed : List (List ℕ)) → IsFed old.joiner fed → IsFed joiner (text ∷ fed)) → OnOk r (new.joiner ≡ joiner) → OnOk r (new.base ≡ base)
    → OnOk r ((stand : TracePosition) → stand.number ≡ number → IsIndexed old.processes stand.seen → new.lines.items ≡ old.lines.items ++ lines_by stand told)
    → OnOk r ((seen : List ℕ) → IsIndexed old.processes seen → IsIndexed new.processes (seen_by seen told))
    → OnOk r (length new.lines.items ≡ length old.lines.items + played_by told)
    → OnOk r (length new.lines.items ≤ 1048576) → OnOk r (new.skipped ≡ old.skipped + skipped_by told)
    → OnOk r ((stand : TracePosition) → StandsAt old stand → stand.number ≡ number → Takes stand text old new)
takes_on (Ok x) text number old new joiner answer base told short is_base is_told answers next same kept lines seen len few skipped = λ stand at is.
    let behind : base ≡ base_behind stand.base answer = is_base ∙ ap (λ (b : ℕ). base_behind b answer) (sym at.base) in
    let one : told ≡ taken stand answer = is_told ∙ ap (λ (b : ℕ). on_base b answer) behind in
    takes_by stand text old new answer short at (answers stand.fed at.fed)
    (subst (λ (j : Joiner). IsFed j (text ∷ stand.fed)) (sym same) (next stand.fed at.fed)) (kept ∙ behind)
    (lines stand is at.indexed ∙ ap (λ (f : Fed). old.lines.items ++ lines_by stand f) one)
    (subst (λ (f : Fed). IsIndexed new.processes (seen_by stand.seen f)) one (seen stand.seen at.indexed))
    (len ∙ ap (λ (f : Fed). length old.lines.items + played_by f) one) few (skipped ∙ ap (λ (f : Fed). old.skipped + skipped_by f) one)
takes_on (Err e) text number old new joiner answer base told short is_base is_told answers next same kept lines seen len few skipped = tt

-- a text of which what became is not taken ends the run
pub full_ends : (stand : TracePosition) (text : List ℕ) (reader : TraceReader) (answer : Fed) (base : ℕ) (told : Fed) (end : EarlyEnd) → IsShort text
    → base ≡ base_behind reader.base answer → told ≡ on_base base answer → StandsAt reader stand → IsAnswer stand.fed text answer
    → IsFull (length reader.lines.items) told end → OrMemory (Ends stand text) end
full_ends stand text reader answer base told end short is_base is_told at is (inl h) = inl h
full_ends stand text reader answer base told end short is_base is_told at is (inr h) =
    let played = at.played in
    let behind : base ≡ base_behind stand.base answer = is_base ∙ ap (λ (b : ℕ). base_behind b answer) (sym at.base) in
    let one : told ≡ taken stand answer = is_told ∙ ap (λ (b : ℕ). on_base b answer) behind in
    let more = ap played_by one in let count = played_are stand (taken stand answer) in
    inr (subst (Ends stand text) (sym h.0) (short, refl, (answer, is, omega (arith, played, h.1, more, count))))

-- so it does where adding it didn't succeed
pub stops_on : {X : Type 0} (r : Result X EarlyEnd) (text : List ℕ) (number : ℕ) (reader : TraceReader) (answer : Fed) (base : ℕ) (told : Fed)
    → IsShort text → base ≡ base_behind reader.base answer → told ≡ on_base base answer
    → ((fed : List (List ℕ)) → IsFed reader.joiner fed → IsAnswer fed text answer) → IfErr r (IsFull (length reader.lines.items) told)
    → IfErr r (λ end. (stand : TracePosition) → StandsAt reader stand → stand.number ≡ number → OrMemory (Ends stand text) end)
stops_on (Ok x) text number reader answer base told short is_base is_told answers full = tt
stops_on (Err e) text number reader answer base told short is_base is_told answers full = λ stand at is.
    full_ends stand text reader answer base told e short is_base is_told at (answers stand.fed at.fed) full

-- ---- all lines

-- before line `number` the reader stands somewhere, and these texts are left
pub record SoFar (first : ℕ) (all : List (List ℕ)) (number : ℕ) (left : List (List ℕ)) (reader : TraceReader) : Type 0 where
  pub stand : TracePosition
  pub stands : StandsAt reader stand
  pub numbered : stand.number ≡ number
  pub counted : length stand.fed + first ≡ number
  pub reads : (more : List Line) (s : ℕ) → Reads stand left more s → Reads (start_at first) all (reader.lines.items ++ more) (reader.skipped + s)
  pub ends : (end : EarlyEnd) → EndsAt stand left end → EndsAt (start_at first) all end

-- before the first line all texts are left
pub so_far_start : (first : ℕ) (all : List (List ℕ)) (reader : TraceReader) → StandsAt reader (start_at first)
    → reader.lines.items ≡ [] → reader.skipped ≡ 0 → SoFar first all first all reader
so_far_start first all reader at none zero = record {
  stand = start_at first;
  stands = at;
  numbered = refl;
  counted = omega arith;
  reads = λ more s h. subst (λ (x : List Line). Reads (start_at first) all (x ++ more) (reader.skipped + s)) (sym none)
      (subst (λ (n : ℕ). Reads (start_at first) all more n) (omega (arith, zero)) h);
  ends = λ end h. h;
}

-- behind a line that was taken the texts behind it are left
pub so_far_step : (first : ℕ) (all : List (List ℕ)) (number : ℕ) (text : List ℕ) (texts : List (List ℕ)) (old new : TraceReader)
    (so_far : SoFar first all number (text ∷ texts) old) → Takes so_far.stand text old new → SoFar first all (number + 1) texts new
so_far_step first all number text texts old new so_far takes =
    let stand = so_far.stand in let told = taken stand takes.answer in let counted = so_far.counted in
    let is_lines = takes.lines in let is_skipped = takes.skipped in
    record {
      stand = after stand text takes.answer;
      stands = takes.stands;
      numbered = ap (λ (n : ℕ). n + 1) so_far.numbered;
      counted = omega (arith, counted);
      reads = λ more s h.
          let g = so_far.reads (lines_by stand told ++ more) (skipped_by told + s) (line takes.answer takes.asks h) in
          let lines : old.lines.items ++ (lines_by stand told ++ more) ≡ new.lines.items ++ more = sym (append_assoc old.lines.items (lines_by stand told) more)
          ∙ ap (λ (x : List Line). x ++ more) (sym is_lines) in
          let skipped : old.skipped + (skipped_by told + s) ≡ new.skipped + s = omega (arith, is_skipped) in
          subst (λ (n : ℕ). Reads (start_at first) all (new.lines.items ++ more) n) skipped
          (subst (λ (x : List Line). Reads (start_at first) all x (old.skipped + (skipped_by told + s))) lines g);
      ends = λ end h. so_far.ends end (later takes.answer takes.asks h);
    }

-- where no text is left the lines and the count of those passed over are those of the whole trace
pub so_far_all : (first : ℕ) (all : List (List ℕ)) (number left : ℕ) (reader : TraceReader)
    (so_far : SoFar first all number [] reader) → CountsKept so_far.stand.fed left → Reads (start_at first) all reader.lines.items (reader.skipped + left)
so_far_all first all number left reader so_far kept =
    subst (λ (x : List Line). Reads (start_at first) all x (reader.skipped + left)) (append-nil reader.lines.items) (so_far.reads [] left (nothing kept))

-- a text that ends the run ends it for the whole trace
pub so_far_ends : (first : ℕ) (all : List (List ℕ)) (number : ℕ) (text : List ℕ) (texts : List (List ℕ)) (reader : TraceReader)
    (end : EarlyEnd) (so_far : SoFar first all number (text ∷ texts) reader)
    → OrMemory (Ends so_far.stand text) end → OrMemory (EndsAt (start_at first) all) end
so_far_ends first all number text texts reader end so_far (inl h) = inl h
so_far_ends first all number text texts reader end so_far (inr h) = inr (so_far.ends end (here h))

-- no more halves are left than lines were read
pub left_few : (first : ℕ) (all : List (List ℕ)) (number : ℕ) (left : List (List ℕ)) (reader : TraceReader) (count : ℕ)
    (so_far : SoFar first all number left reader) → CountsKept so_far.stand.fed count → count + first ≤ number
left_few first all number left reader count so_far kept = let counted = so_far.counted in omega (arith, counted, few_kept so_far.stand.fed count kept)
