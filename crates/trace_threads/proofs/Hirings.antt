-- Workers from the callers of a new space and the lists of lines, and callers from workers that have played.
use Rattle.std.proofs.Common.{◌≡◌, ℕ, zero, suc, ◌<◌, List, [], ◌∷◌, ◌++◌, map, get_or, length, sym, refl, ap, ◌∙◌, subst, arith, ⊎_elim, Global}
use Rattle.std.proofs.lemmas.Bool.{cases_lt}
use Rattle.std.proofs.lemmas.List.{length-map}
use Rattle.std.specs.Prelude.{None, All, Vec, remove, slice_index, vec_items}
use mathlib.Core.Option.{some, some-injective, some-ne-none}
use lib.ListN.{get_elem?}
use Rattle.atomic_table.specs.Seated.{TableId}
use Rattle.atomic_table.proofs.Lists.{at_map}
use Rattle.lock_core.proofs.ByPlace.{below, there, at_or}
use Rattle.range_rw.proofs.Lists.{from_map}
use Rattle.page_types.specs.Named.{IsNamedCall}
use Rattle.space_model.specs.declared.areas.Area.{Area}
use Rattle.space_model.specs.declared.entries.Entry.{Entry}
use Rattle.space_model.specs.History.{Chains}
use Rattle.area_rows.specs.History.{Runs}
use Rattle.area_rows.specs.declared.space.SpaceFault.{SpaceFault}
use Rattle.area_rows.specs.declared.space.SpaceFault.TheVariants.{Callers, Rows, Memory}
use Rattle.area_rows.specs.Callers.{CallerView, IsSpaceFault, AreIdle, AreNewCallersIn, IsWhole}
use Rattle.trace_threads.specs.declared.worker.Line.{Line}
use Rattle.trace_threads.specs.Workers.{WorkerView, AreOfTable, Plays, HavePlayed}
use Rattle.trace_threads.specs.Collected.{IsPlayed, IsTraceFault, HeldAndReplies, IsOnlyWorker, AllHeld, AreFresh, caller_of}
use Rattle.trace_threads.specs.Hiring.{MayPlay, AreReady, hired, IsNewWorker, AreNewWorkers}
use Rattle.trace_threads.proofs.Lone.{held_chain, only_own}
use Rattle.trace_threads.proofs.Collecting.{made, collected}

-- ---- one worker after another

-- there is a list for each caller
pub as_many : (cs : List CallerView) (lists : List (List Line)) → AreReady cs lists → length lists ≡ length cs
as_many [] [] ready = refl
as_many [] (ls ∷ lists) ready = absurd ready
as_many (c ∷ cs) [] ready = absurd ready
as_many (c ∷ cs) (ls ∷ lists) ready = ap suc (as_many cs lists ready.1)

-- ---- callers of a new space

ready_by_place : (cs : List CallerView) (lists : List (List Line)) → length cs ≡ length lists
    → ((k : ℕ) (c : CallerView) (ls : List Line) → get_elem? cs k ≡ some c → get_elem? lists k ≡ some ls → MayPlay c ls) → AreReady cs lists
ready_by_place [] [] same each = tt
ready_by_place [] (ls ∷ lists) same each = absurd (omega arith)
ready_by_place (c ∷ cs) [] same each = absurd (omega arith)
ready_by_place (c ∷ cs) (ls ∷ lists) same each =
    (each 0 c ls refl refl, ready_by_place cs lists (omega arith) (λ k d ms at_d at_ms. each (suc k) d ms at_d at_ms))

all_at : {A : Type 0} (P : A → Type 0) (l : List A) (k : ℕ) (a : A) → All P l → get_elem? l k ≡ some a → P a
all_at P l k a all at = subst P (at_or l k a a at) (all k a (below l k a at))

-- new callers that were opened for as many calls as their lists have lines may be given them, however many lists the
-- lock has
pub new_ready : (several : ℕ) (table : TableId) (start : List Area) {calls : List ℕ} (lists : List (List Line)) (cs : List CallerView)
    → calls ≡ map length lists → length cs ≡ length lists → AreNewCallersIn several table start calls cs → All (λ ls. All (λ l. IsNamedCall l.call) ls) lists
    → AreReady cs lists
new_ready several table start lists cs is same new named = ready_by_place cs lists same (λ k c ls at_c at_ls.
    let e = new k c at_c in
    let left : c.left ≡ length ls = ap (λ (x : CallerView). x.left) e
    ∙ (ap (λ l. slice_index l k) is ∙ at_or (map length lists) k (length ls) 0 (at_map length lists k ls at_ls)) in
    record {
      left = omega arith;
      free = ap (λ (x : CallerView). x.seat.held) e;
      named = all_at (λ ms. All (λ l. IsNamedCall l.call) ms) lists k ls named at_ls;
    })

-- ---- the workers of a new space

hired_at : (cs : List CallerView) (lists : List (List Line)) (k : ℕ) (w : WorkerView) → get_elem? (hired cs lists) k ≡ some w
    → (get_elem? cs k ≡ some w.caller) × (get_elem? lists k ≡ some w.lines)
hired_at [] lists k w at = absurd (some-ne-none w (sym at))
hired_at (c ∷ cs) [] k w at = absurd (some-ne-none w (sym at))
hired_at (c ∷ cs) (ls ∷ lists) zero w at = let e = some-injective (record { caller = c; lines = ls }) w at in
    (ap (λ (x : WorkerView). some x.caller) e, ap (λ (x : WorkerView). some x.lines) e)
hired_at (c ∷ cs) (ls ∷ lists) (suc k) w at = hired_at cs lists k w at

-- as many workers are made as there are lists, where there are as many callers
pub length_hired : (cs : List CallerView) (lists : List (List Line)) → length cs ≡ length lists → length (hired cs lists) ≡ length lists
length_hired [] [] same = refl
length_hired [] (ls ∷ lists) same = absurd (omega arith)
length_hired (c ∷ cs) [] same = absurd (omega arith)
length_hired (c ∷ cs) (ls ∷ lists) same = ap suc (length_hired cs lists (omega arith))

-- workers made of a new space's callers are new workers with these lists of lines
pub new_workers : (several : ℕ) {table : TableId} {start : List Area} (calls : List ℕ) (lists : List (List Line)) (cs : List CallerView)
    (workers : List WorkerView) → workers ≡ hired cs lists → length cs ≡ length lists → 0 < length cs → AreNewCallersIn several table start calls cs
    → AreNewWorkers table start lists workers
new_workers several calls lists cs workers is same some_there new =
    let count : length workers ≡ length lists = ap length is ∙ length_hired cs lists same in
    record {
      count = count;
      any = omega arith;
      each = λ k ls w at_ls at_w.
          let h = hired_at cs lists k w (subst (λ ws. get_elem? ws k ≡ some w) is at_w) in let e = new k w.caller h.0 in
          record {
            lines = some-injective w.lines ls (sym h.1 ∙ at_ls);
            table_is = ap (λ (x : CallerView). x.seat.table) e;
            number = ap (λ (x : CallerView). x.seat.number) e;
            held = ap (λ (x : CallerView). x.seat.held) e;
            mine = ap (λ (x : CallerView). x.seat.pass.mine) e;
            seen = ap (λ (x : CallerView). x.seat.pass.seen) e;
            start_is = ap (λ (x : CallerView). x.seat.pass.start) e;
          };
    }

-- what is so of new workers
module _ {table : TableId} {start : List Area} {lists : List (List Line)} {workers : List WorkerView} (new : AreNewWorkers table start lists workers) where
  -- the new worker of a place
  pub new_at : {k : ℕ} {w : WorkerView} → get_elem? workers k ≡ some w → (ls : List Line) × IsNewWorker table start k ls w
  new_at {k} {w} at = let lt = below workers k w at in let count = new.count in let ls = there lists k (omega arith) in (ls.0, new.each k ls.0 w ls.1 at)

  -- new workers are all of the space's table
  pub of_table : AreOfTable table workers
  of_table k w at = (new_at at).1.table_is

  -- new workers have these lists, are numbered from 0, and have no entry yet
  pub fresh_new : AreFresh lists workers
  fresh_new = record { count = new.count; each = λ k ls w at_ls at_w. let n = new.each k ls w at_ls at_w in (n.lines, n.number, n.mine) }

-- ---- when they have played

-- what is so of new workers that have played
module _ {table : TableId} {start : List Area} {lists : List (List Line)} {before after : List WorkerView} (new : AreNewWorkers table start lists before)
    (played : HavePlayed before after) where
  -- what stays of the caller of a new worker's place
  pub before_at : (k : ℕ) (c : CallerView) → get_elem? (map caller_of after) k ≡ some c
      → (c.seat.table ≡ table) × (c.seat.number ≡ k) × (c.seat.held ≡ None) × (c.seat.pass.start ≡ start)
  before_at k c at =
      let b = from_map caller_of after k c at in let lt = below after k b.0 b.1 in let same = played.count in
      let a = there before k (omega arith) in let n = (new_at new a.1).1 in
      let p = (played.each k a.0 b.0 a.1 b.1).played in
      subst (λ (x : CallerView). (x.seat.table ≡ table) × (x.seat.number ≡ k) × (x.seat.held ≡ None) × (x.seat.pass.start ≡ start))
      b.2 (p.table ∙ n.table_is, p.number ∙ n.number, p.held ∙ n.held, p.start ∙ n.start_is)

  -- the callers of new workers that have played may be closed
  pub played_idle : AreIdle table (map caller_of after)
  played_idle k c at = let b = before_at k c at in (b.0, b.1, b.2)

  -- where one worker alone has entries, each of its calls held what it had to hold
  all_held : (entries : List Entry) (areas : List Area) → IsWhole (map caller_of after) entries areas → (worker : ℕ) → IsOnlyWorker worker entries
      → AllHeld start entries
  all_held entries areas whole worker alone =
      let own = only_own worker entries alone in
      ⊎_elim (λ lt.
      let c = there (map caller_of after) worker lt in let b = from_map caller_of after worker c.0 c.1 in
      let short = below after worker b.0 b.1 in let same = played.count in let a = there before worker (omega arith) in
      let n = (new_at new a.1).1 in let d = (played.each worker a.0 b.0 a.1 b.1).played in
      let mine : d.entries ≡ entries = ap (λ l. l ++ d.entries) (sym n.mine)
      ∙ (sym d.mine ∙ (ap (λ (x : CallerView). x.seat.pass.mine) b.2 ∙ (sym (whole.mine worker c.0 c.1) ∙ own))) in
      let began = (before_at worker c.0 c.1).3 in
      let runs = subst (λ s. Runs 0 s entries areas) began (whole.runs worker c.0 c.1) in (
        areas,
        held_chain a.0.lines a.0.caller entries b.0.caller start areas (subst (λ es. Plays a.0.lines a.0.caller es b.0.caller) mine d.plays) n.seen n.start_is
            (tt, refl) runs.0 runs.1,
      )) (λ ge.
      let none : entries ≡ [] = sym own ∙ whole.no_other worker ge in
      (start, subst (λ es. Chains HeldAndReplies start es start) (sym none) refl)) (cases_lt worker (length (map caller_of after)))

  -- what the closing gives after new workers have played is the trace of their lines
  pub all_played : {entries : List Entry} {areas : List Area} → IsWhole (map caller_of after) entries areas → IsPlayed start lists entries areas
  all_played {entries} {areas} whole =
      let callers = map caller_of after in
      let long : length callers ≡ length before = length-map after caller_of ∙ played.count in let more = new.any in
      let c = there callers 0 (omega arith) in let began = (before_at 0 c.0 c.1).3 in
      record {
        collected = collected lists callers entries areas (made lists before after (fresh_new new) played) whole;
        runs = subst (λ a. Runs 0 a entries areas) began (whole.runs 0 c.0 c.1);
        calls = whole.calls;
        replies = whole.replies;
        in_order = whole.in_order;
        named = whole.named;
        alone = all_held entries areas whole;
      }

-- ---- refusals
