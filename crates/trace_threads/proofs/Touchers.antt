-- Lines played and pages touched, one after another; workers with their seats; and the pages of all entries from those
-- of each worker's.
use Rattle.std.proofs.Common.{◌≡◌, ℕ, zero, suc, ◌+◌, ◌<◌, ◌≤◌, Bool, eqb, List, [], ◌∷◌, ◌++◌, length, map, drop, get_or, sum, sum_by, cond, refl, sym, ap}
use Rattle.std.proofs.Common.{◌∙◌, subst, arith, ⊎_elim, append-nil, append_assoc, eq-eqb}
use Rattle.std.proofs.lemmas.Bool.{cases_lt}
use Rattle.std.proofs.lemmas.List.{drop_more, get_or-drop, length-append, length-drop, length-map}
use Rattle.std.proofs.lemmas.List.Elements.{Contains-append_left, Contains-append_right, Contains-append_cases}
use Rattle.std.proofs.lemmas.List.Sums.{sum_by-cons}
use Rattle.std.specs.Prelude.{true, false, ◌↔◌, All, Contains, Vec, remove, flat_map, vec_items, vec_len}
use Rattle.std.proofs.Common.{Global}
use mathlib.Core.Option.{some, some-injective, some-ne-none}
use lib.ListN.{get_elem?}
use Rattle.atomic_table.specs.Seated.{TableId}
use Rattle.lock_core.proofs.ByPlace.{below, there, at_or, same_lists}
use Rattle.range_rw.proofs.Lists.{from_map}
use Rattle.atomic_table.proofs.Lists.{at_map}
use Rattle.page_types.specs.declared.calls.Call.{Call}
use Rattle.page_types.specs.declared.calls.Call.TheVariants.{Fault}
use Rattle.page_types.specs.declared.calls.Reply.{Reply}
use Rattle.page_types.specs.declared.calls.Reply.TheVariants.{At, Zero, Granted, Refused}
use Rattle.page_touch.specs.Touches.{TouchView, IsRising, new_seat, seat_quota, seat_touched}
use Rattle.page_touch.proofs.Seats.{sums_same}
use Rattle.space_model.specs.declared.areas.Area.{Area}
use Rattle.space_model.specs.declared.entries.Entry.{Entry}
use Rattle.area_rows.specs.History.{entries_of}
use Rattle.area_rows.specs.Callers.{CallerView, AreIdle, IsWhole}
use Rattle.trace_threads.specs.declared.worker.Line.{Line}
use Rattle.trace_threads.specs.Workers.{WorkerView, AreEntriesOf, IsPlayedAs, HasDone, HavePlayed}
use Rattle.trace_threads.specs.Collected.{IsPlayed, caller_of}
use Rattle.trace_threads.specs.Hiring.{AreNewWorkers}
use Rattle.trace_threads.specs.Touching.{ToucherView, AreTouchersOf, HasTouched, HaveTouched, AreTouchedPages, granted_page, granted_pages, page_by, fault_in}
use Rattle.trace_threads.specs.Touching.{fault_count, line_faults}
use Rattle.trace_threads.specs.Stages.{HasTouchedPage, HasTouchedLines, MaySit, seated, toucher_worker, toucher_seat, toucher_caller, worker_faults}
use Rattle.trace_threads.proofs.Plays.{played_none_by, played_more_by, by_place}
use Rattle.trace_threads.proofs.Hirings.{of_table, new_at, played_idle, all_played}

-- ---- one line after another

-- a call has a page at most where it is a fault
few_pages : (c : Call) (r : Reply) → length (page_by c r) ≤ fault_in c
few_pages (Fault addr access) (At at) = omega arith
few_pages (Fault addr access) Zero = omega arith
few_pages (Fault addr access) (Granted kind) = omega arith
few_pages (Fault addr access) (Refused why) = omega arith
few_pages c r = omega arith

-- the entry of a line has a page at most where the line is a fault
pub entry_few : (e : Entry) (l : Line) → e.call ≡ l.call → length (granted_page e) ≤ line_faults l
entry_few e l is = subst (λ c. length (granted_page e) ≤ fault_in c) is (few_pages e.call e.reply)

-- no line is played and no page touched by doing nothing
pub touched_none : (c : CallerView) (s : TouchView) → HasTouchedLines [] c c s s
touched_none c s =
    let p = played_none_by c in
    record { played = p.0; table = refl; quota = refl; touched = sym (append-nil s.touched) ∙ ap (λ es. s.touched ++ granted_pages es) (sym p.1) }

-- a line is played and its page touched, and then the rest
pub touched_more : {l : Line} {ls : List Line} {a b c : CallerView} {e : Entry} {s t u : TouchView} → IsPlayedAs a l e b → HasTouchedPage e s t
    → HasTouchedLines ls b c t u → HasTouchedLines (l ∷ ls) a c s u
touched_more {l} {ls} {c} {e} {s} played one rest =
    let p = played_more_by ls c played rest.played in let pages = granted_pages rest.played.entries in
    record {
      played = p.0;
      table = rest.table ∙ one.table;
      quota = rest.quota ∙ one.quota;
      touched = rest.touched ∙ (ap (λ l. l ++ pages) one.touched ∙ (append_assoc s.touched (granted_page e) pages
          ∙ ap (λ es. s.touched ++ granted_pages es) (sym p.1)));
    }

module _ (lines : List Line) (i : ℕ) (lt : i < length lines) where
  -- when a number is used for a line, there are enough for those behind it
  pub left_on : {left : ℕ} (rest : ℕ) → length (drop i lines) ≤ left → rest + 1 ≡ left → length (drop (i + 1) lines) ≤ rest
  left_on rest enough used = let a = length-drop i lines in let b = length-drop (i + 1) lines in omega arith

  -- what holds of the lines from one on holds of those behind it
  pub all_on : (P : Line → Type 0) → All P (drop i lines) → All P (drop (i + 1) lines)
  all_on P all k d low =
      let a = length-drop i lines in let b = length-drop (i + 1) lines in
      let same : i + (k + 1) ≡ i + 1 + k = omega arith in
      subst P (get_or-drop i lines (k + 1) d ∙ (ap (λ n. get_or lines n d) same ∙ sym (get_or-drop (i + 1) lines k d))) (all (k + 1) d (omega arith))

  -- when the page of a line's entry was touched, the seat may touch those of the lines behind it
  pub may_on : (d : Line) {e : Entry} {s t : TouchView} → e.call ≡ (get_or lines i d).call → HasTouchedPage e s t
      → fault_count (drop i lines) + length s.touched ≤ s.quota → fault_count (drop (i + 1) lines) + length t.touched ≤ t.quota
  may_on d {e} {s} {t} is one may =
      let next = ap fault_count (drop_more lines i d lt) in
      let c = sum_by-cons line_faults (get_or lines i d) (drop (i + 1) lines) in
      let few = entry_few e (get_or lines i d) is in
      let long : length t.touched ≡ length s.touched + length (granted_page e) = ap length one.touched ∙ length-append s.touched (granted_page e) in
      let quota = one.quota in omega arith

-- the entries of lines have no more pages than the lines have faults
pages_within : (worker : ℕ) (ls : List Line) (es : List Entry) → AreEntriesOf worker ls es → length (granted_pages es) ≤ fault_count ls
pages_within worker [] [] are = omega arith
pages_within worker [] (e ∷ es) are = absurd are
pages_within worker (l ∷ ls) [] are = absurd are
pages_within worker (l ∷ ls) (e ∷ es) are =
    let one = entry_few e l are.0.call_is in let rest = pages_within worker ls es are.1 in
    let long = length-append (granted_page e) (granted_pages es) in let c = sum_by-cons line_faults l ls in omega arith

-- when the lines are played, the seat is within its quota with no line left
pub stays_within : {ls now left : List Line} {caller after : CallerView} {seat next : TouchView} {w : WorkerView} → record { caller = caller; lines = ls } ≡ w
    → fault_count w.lines + length seat.touched ≤ seat.quota → HasTouchedLines now caller after seat next → now ≡ ls → left ≡ []
    → fault_count left + length next.touched ≤ next.quota
stays_within {now} {left} {caller} {seat} {next} {w} is_w may h same none =
    let few = pages_within caller.seat.number now h.played.entries h.played.theirs in
    let lines : fault_count now ≡ fault_count w.lines = ap fault_count same ∙ ap (λ (v : WorkerView). fault_count v.lines) is_w in
    let zero_left : fault_count left ≡ 0 = ap fault_count none in
    let long : length next.touched ≡ length seat.touched + length (granted_pages h.played.entries) = ap length h.touched
    ∙ length-append seat.touched (granted_pages h.played.entries) in let quota = h.quota in omega arith

-- a worker whose lines were played, and whose seat touched their pages
pub touch_done : {ls now left : List Line} {caller after : CallerView} {seat next : TouchView} {w : WorkerView} {before : ToucherView}
    → record { caller = caller; lines = ls } ≡ w → record { worker = w; seat = seat } ≡ before → HasTouchedLines now caller after seat next → now ≡ ls
    → left ≡ [] → HasTouched before (record { worker = record { caller = after; lines = left }; seat = next })
touch_done {left} {caller} {after} {seat} {next} is_w is_before h same none =
    let t = subst (λ l. HasTouchedLines l caller after seat next) same h in
    let end : ToucherView = record { worker = record { caller = after; lines = left }; seat = next } in
    subst (λ b. HasTouched b end) is_before (subst (λ v. HasTouched (record { worker = v; seat = seat }) end) is_w (record {
      done = record { none_left = none; played = t.played };
      table = t.table;
      quota = t.quota;
      touched = t.touched;
    }))

-- the workers by place, as their calls left them
pub have_touched : (old new : List ToucherView) → length new ≡ length old
    → ((k : ℕ) (d : ToucherView) → k < length old → (a : ToucherView) × (b : ToucherView) × (a ≡ get_or old k d) × HasTouched a b × (b ≡ get_or new k d))
    → HaveTouched old new
have_touched old new same each = record { count = same; each = by_place HasTouched old new each }

-- ---- workers and seats

-- there is a seat for each worker
pub as_many_seats : (ws : List WorkerView) (ss : List TouchView) → MaySit ws ss → length ss ≡ length ws
as_many_seats [] [] may = refl
as_many_seats [] (s ∷ ss) may = absurd may
as_many_seats (w ∷ ws) [] may = absurd may
as_many_seats (w ∷ ws) (s ∷ ss) may = ap suc (as_many_seats ws ss may.1)

-- new seats with the numbers of faults as quotas are for their workers
pub new_sit : (table : TableId) (ws : List WorkerView) → MaySit ws (map (new_seat table) (map worker_faults ws))
new_sit table [] = tt
new_sit table (w ∷ ws) = (omega arith, new_sit table ws)

-- as many workers sit as there are
pub length_seated : (ws : List WorkerView) (ss : List TouchView) → length ss ≡ length ws → length (seated ws ss) ≡ length ws
length_seated [] ss same = refl
length_seated (w ∷ ws) [] same = absurd (omega arith)
length_seated (w ∷ ws) (s ∷ ss) same = ap suc (length_seated ws ss (omega arith))

-- a worker of that place, with its seat
pub seated_at : (ws : List WorkerView) (ss : List TouchView) (k : ℕ) (t : ToucherView) → get_elem? (seated ws ss) k ≡ some t
    → (get_elem? ws k ≡ some t.worker) × (get_elem? ss k ≡ some t.seat)
seated_at [] ss k t at = absurd (some-ne-none t (sym at))
seated_at (w ∷ ws) [] k t at = absurd (some-ne-none t (sym at))
seated_at (w ∷ ws) (s ∷ ss) zero t at = let e = some-injective (record { worker = w; seat = s }) t at in
    (ap (λ (x : ToucherView). some x.worker) e, ap (λ (x : ToucherView). some x.seat) e)
seated_at (w ∷ ws) (s ∷ ss) (suc k) t at = seated_at ws ss k t at

-- the workers of those that sit are the workers
pub seated_workers : (ws : List WorkerView) (ss : List TouchView) → length ss ≡ length ws → map toucher_worker (seated ws ss) ≡ ws
seated_workers [] ss same = refl
seated_workers (w ∷ ws) [] same = absurd (omega arith)
seated_workers (w ∷ ws) (s ∷ ss) same = ap (λ l. w ∷ l) (seated_workers ws ss (omega arith))

-- the callers of workers that touch are those of their workers
pub toucher_callers : (ts : List ToucherView) → map toucher_caller ts ≡ map caller_of (map toucher_worker ts)
toucher_callers [] = refl
toucher_callers (t ∷ ts) = ap (λ l. t.worker.caller ∷ l) (toucher_callers ts)

-- workers that have touched have played
pub touchers_played : {before after : List ToucherView} → HaveTouched before after → HavePlayed (map toucher_worker before) (map toucher_worker after)
touchers_played {before} {after} touched = record {
  count = length-map after toucher_worker ∙ (touched.count ∙ sym (length-map before toucher_worker));
  each = λ k a b at_a at_b.
      let x = from_map toucher_worker before k a at_a in let y = from_map toucher_worker after k b at_b in
      subst (λ (z : WorkerView × WorkerView). HasDone z.0 z.1) (λ i. (x.2 i, y.2 i)) (touched.each k x.0 y.0 x.1 y.1).done;
}

-- ---- the numbers of faults

-- no more lines are faults than there are
pub faults_few : (ls : List Line) → fault_count ls ≤ length ls
faults_few [] = omega arith
faults_few (l ∷ ls) = let one : line_faults l ≤ 1 = by l.call in let rest = faults_few ls in let c = sum_by-cons line_faults l ls in omega arith
  where
    by : (c : Call) → fault_in c ≤ 1
    by (Fault addr access) = omega arith
    by c = omega arith

-- the workers of a new space have the faults of their lists
pub new_faults : {table : TableId} {start : List Area} {lists : List (List Line)} {workers : List WorkerView} → AreNewWorkers table start lists workers
    → map fault_count lists ≡ map worker_faults workers
new_faults {lists} {workers} new = same_lists (map fault_count lists) (map worker_faults workers)
    (length-map lists fault_count ∙ (sym new.count ∙ sym (length-map workers worker_faults))) (λ k n at.
    let w = from_map worker_faults workers k n at in let lt = below workers k w.0 w.1 in let count = new.count in
    let ls = there lists k (omega arith) in at_map fault_count lists k ls.0 ls.1 ∙ ap some (ap fault_count (sym (new.each k ls.0 w.0 ls.1 w.1).lines) ∙ w.2))

-- the faults of all lists are at most as many as their lines
pub all_faults : (xs : List (Vec Line Global)) → sum (map fault_count (map vec_items xs)) ≤ sum_by vec_len xs
all_faults [] = omega arith
all_faults (x ∷ xs) =
    let rest = all_faults xs in let one = faults_few x.items in let long = x.ok.0 in let c = sum_by-cons vec_len x xs in
    let d = sum_by-cons (λ (n : ℕ). n) (fault_count x.items) (map fault_count (map vec_items xs)) in omega arith

-- ---- the pages of all entries

-- a page of all entries is one of some worker's
to_own : (entries : List Entry) (page : ℕ) → Contains (granted_pages entries) page → (k : ℕ) × Contains (granted_pages (entries_of k entries)) page
to_own [] page has = absurd (let lt = has.1 in omega arith)
to_own (e ∷ es) page has = ⊎_elim (λ here. (
  e.worker,
  subst (λ b. Contains (granted_pages (cond b (e ∷ entries_of e.worker es) (entries_of e.worker es))) page) (sym (eq-eqb e.worker e.worker refl))
      (Contains-append_left (granted_page e) (granted_pages (entries_of e.worker es)) page here),
)) (λ there. let r = to_own es page there in (r.0, more r.0 (eqb e.worker r.0) r.1)) (Contains-append_cases (granted_page e) (granted_pages es) page has)
  where
    more : (k : ℕ) (b : Bool) → Contains (granted_pages (entries_of k es)) page → Contains (granted_pages (cond b (e ∷ entries_of k es) (entries_of k es))) page
    more k true r = Contains-append_right (granted_page e) (granted_pages (entries_of k es)) page r
    more k false r = r

-- a page of one worker's entries is one of all
from_own : (entries : List Entry) (k page : ℕ) → Contains (granted_pages (entries_of k entries)) page → Contains (granted_pages entries) page
from_own [] k page has = has
from_own (e ∷ es) k page has = by (eqb e.worker k) (λ h. from_own es k page h) has
  where
    by : (b : Bool) → (Contains (granted_pages (entries_of k es)) page → Contains (granted_pages es) page)
        → Contains (granted_pages (cond b (e ∷ entries_of k es) (entries_of k es))) page → Contains (granted_page e ++ granted_pages es) page
    by true rest h = ⊎_elim (λ here. Contains-append_left (granted_page e) (granted_pages es) page here)
        (λ more. Contains-append_right (granted_page e) (granted_pages es) page (rest more))
        (Contains-append_cases (granted_page e) (granted_pages (entries_of k es)) page h)
    by false rest h = Contains-append_right (granted_page e) (granted_pages es) page (rest h)

-- a page that some seat touched is one of all seats' together
from_seat : (seats : List TouchView) (k page : ℕ) (s : TouchView) → get_elem? seats k ≡ some s → Contains s.touched page
    → Contains (flat_map seat_touched seats) page
from_seat [] k page s at has = absurd (some-ne-none s (sym at))
from_seat (x ∷ xs) zero page s at has = Contains-append_left x.touched (flat_map seat_touched xs) page
    (subst (λ (y : TouchView). Contains y.touched page) (sym (some-injective x s at)) has)
from_seat (x ∷ xs) (suc k) page s at has = Contains-append_right x.touched (flat_map seat_touched xs) page (from_seat xs k page s at has)

-- a page of all seats together was touched by some seat
to_seat : (seats : List TouchView) (page : ℕ) → Contains (flat_map seat_touched seats) page
    → (k : ℕ) × (s : TouchView) × (get_elem? seats k ≡ some s) × Contains s.touched page
to_seat [] page has = absurd (let lt = has.1 in omega arith)
to_seat (x ∷ xs) page has = ⊎_elim (λ here. (0, x, refl, here)) (λ rest. let r = to_seat xs page rest in (suc r.0, r.1, r.2, r.3))
    (Contains-append_cases x.touched (flat_map seat_touched xs) page has)

module _ {before after : List ToucherView} (entries : List Entry) (areas : List Area) (touched : HaveTouched before after)
    (whole : IsWhole (map toucher_caller after) entries areas)
    (new : (k : ℕ) (t : ToucherView) → get_elem? before k ≡ some t → (t.seat.touched ≡ []) × (t.worker.caller.seat.pass.mine ≡ [])) where
  -- the seat of a place has touched the pages of its worker's entries
  seat_pages : (k : ℕ) (b : ToucherView) → get_elem? after k ≡ some b → b.seat.touched ≡ granted_pages (entries_of k entries)
  seat_pages k b at =
      let lt = below after k b at in let same = touched.count in let a = there before k (omega arith) in
      let n = new k a.0 a.1 in let t = touched.each k a.0 b a.1 at in let played = t.done.played in
      let mine : entries_of k entries ≡ played.entries = whole.mine k b.worker.caller (at_map toucher_caller after k b at)
      ∙ (played.mine ∙ ap (λ l. l ++ played.entries) n.1) in t.touched ∙ (ap (λ l. l ++ granted_pages played.entries) n.0 ∙ ap granted_pages (sym mine))

  -- what the seats touched together are the pages of the granted faults of all entries
  pub pages_of_all : (page : ℕ) → Contains (flat_map seat_touched (map toucher_seat after)) page ↔ Contains (granted_pages entries) page
  pages_of_all page = (
    λ has.
        let r = to_seat (map toucher_seat after) page has in let b = from_map toucher_seat after r.0 r.1 r.2 in
        from_own entries r.0 page (subst (λ l. Contains l page) (ap seat_touched (sym b.2) ∙ seat_pages r.0 b.0 b.1) r.3),
    λ has.
        let r = to_own entries page has in
        ⊎_elim (λ lt.
        let b = there after r.0 (let long = length-map after toucher_caller in omega arith) in
        from_seat (map toucher_seat after) r.0 page b.0.seat (at_map toucher_seat after r.0 b.0 b.1)
        (subst (λ l. Contains l page) (sym (seat_pages r.0 b.0 b.1)) r.1))
        (λ ge. let none = subst (λ es. Contains (granted_pages es) page) (whole.no_other r.0 ge) r.1 in
        absurd (let lt = none.1 in omega arith)) (cases_lt r.0 (length (map toucher_caller after))),
  )

-- ---- a whole trace

-- each of the new workers has a new seat for its faults
pub record Staged (space : TableId) (start : List Area) (lists : List (List Line)) (workers : List WorkerView) (touches : TableId) (quotas : List ℕ)
    (before : List ToucherView) : Type 0 where
  pub new : AreNewWorkers space start lists workers
  pub are : quotas ≡ map worker_faults workers
  pub is : before ≡ seated workers (map (new_seat touches) quotas)

module _ {space : TableId} {start : List Area} {lists : List (List Line)} {workers : List WorkerView} {touches : TableId} {quotas : List ℕ}
    {before : List ToucherView} (staged : Staged space start lists workers touches quotas before) where
  open staged use {new, are, is}

  seats_count : length (map (new_seat touches) quotas) ≡ length workers
  seats_count = length-map quotas (new_seat touches) ∙ (ap length are ∙ length-map workers worker_faults)

  -- as many touch as there are workers
  pub staged_count : length before ≡ length workers
  staged_count = ap length is ∙ length_seated workers (map (new_seat touches) quotas) seats_count

  staged_workers : map toucher_worker before ≡ workers
  staged_workers = ap (map toucher_worker) is ∙ seated_workers workers (map (new_seat touches) quotas) seats_count

  -- who touches at a place is the worker there, with a new seat
  staged_at : (k : ℕ) (t : ToucherView) → get_elem? before k ≡ some t
      → (get_elem? workers k ≡ some t.worker) × ((q : ℕ) × (get_elem? quotas k ≡ some q) × (new_seat touches q ≡ t.seat))
  staged_at k t at =
      let s = seated_at workers (map (new_seat touches) quotas) k t (subst (λ l. get_elem? l k ≡ some t) is at) in
      (s.0, from_map (new_seat touches) quotas k t.seat s.1)

  -- all are of the space and of the set
  pub staged_of : AreTouchersOf space touches before
  staged_of k t at = let s = staged_at k t at in (of_table new k t.worker s.0, ap (λ (x : TouchView). x.table) (sym s.1.2))

  -- none has touched a page or has an entry yet
  staged_new : (k : ℕ) (t : ToucherView) → get_elem? before k ≡ some t → (t.seat.touched ≡ []) × (t.worker.caller.seat.pass.mine ≡ [])
  staged_new k t at = let s = staged_at k t at in (ap seat_touched (sym s.1.2), (new_at new s.0).1.mine)

  module _ (after : List ToucherView) (touched : HaveTouched before after) where
    played : HavePlayed workers (map toucher_worker after)
    played = subst (λ ws. HavePlayed ws (map toucher_worker after)) staged_workers (touchers_played touched)

    -- the callers of those that have touched may be closed
    pub staged_idle : AreIdle space (map toucher_caller after)
    staged_idle = subst (λ cs. AreIdle space cs) (sym (toucher_callers after)) (played_idle new played)

    -- what the closing then gives is the trace of their lines
    pub staged_played : (entries : List Entry) (areas : List Area) → IsWhole (map toucher_caller after) entries areas → IsPlayed start lists entries areas
    staged_played entries areas whole = all_played new played (subst (λ cs. IsWhole cs entries areas) (toucher_callers after) whole)

    -- what stays of the seat of a place: its table, and its quota
    seat_at : (k : ℕ) (s : TouchView) → get_elem? (map toucher_seat after) k ≡ some s → (s.table ≡ touches) × (get_elem? quotas k ≡ some s.quota)
    seat_at k s at =
        let b = from_map toucher_seat after k s at in let lt = below after k b.0 b.1 in let same = touched.count in
        let a = there before k (omega arith) in let q = (staged_at k a.0 a.1).1 in
        let t = touched.each k a.0 b.0 a.1 b.1 in
        subst (λ (x : TouchView). (x.table ≡ touches) × (get_elem? quotas k ≡ some x.quota)) b.2
        (t.table ∙ ap (λ (x : TouchView). x.table) (sym q.2), q.1 ∙ ap some (ap seat_quota q.2 ∙ sym t.quota))

    -- the seats are of the set
    pub staged_tables : All (λ s. s.table ≡ touches) (map toucher_seat after)
    staged_tables i d lt = let s = there (map toucher_seat after) i lt in
        subst (λ (x : TouchView). x.table ≡ touches) (sym (at_or (map toucher_seat after) i s.0 d s.1)) (seat_at i s.0 s.1).0

    -- with all quotas together
    pub staged_quotas : sum_by seat_quota (map toucher_seat after) ≡ sum quotas
    staged_quotas = sums_same seat_quota (λ n. n) (map toucher_seat after) quotas
        (length-map after toucher_seat ∙ (touched.count ∙ (staged_count ∙ (sym (length-map workers worker_faults) ∙ ap length (sym are)))))
        (λ k a b lt. let s = there (map toucher_seat after) k lt in
        ap seat_quota (at_or (map toucher_seat after) k s.0 a s.1) ∙ sym (at_or quotas k s.0.quota b (seat_at k s.0 s.1).1))

    -- and the pages of the closing are those of the granted faults
    pub staged_pages : (entries : List Entry) (areas : List Area) (pages : List ℕ) → IsWhole (map toucher_caller after) entries areas
        → IsRising pages → ((p : ℕ) → Contains pages p ↔ Contains (flat_map seat_touched (map toucher_seat after)) p) → AreTouchedPages entries pages
    staged_pages entries areas pages whole rising same = record {
      rising = rising;
      all = λ p. let all = pages_of_all entries areas touched whole staged_new p in ((λ h. all.0 ((same p).0 h)), (λ h. (same p).1 (all.1 h)));
    }
