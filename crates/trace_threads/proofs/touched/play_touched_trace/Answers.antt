use Rattle.std.proofs.Common.{rules, ◌≡◌, List, map, drop, length, sum, sum_by, sym, ap, ◌∙◌, subst, arith}
use Rattle.std.proofs.lemmas.List.{length-map, take_at}
use Rattle.std.specs.Prelude.{ℕ, ◌↔◌, All, Contains, flat_map, vec_items}
use Rattle.area_rows.specs.Callers.{CallerView, AreIdle, IsWhole}
use Rattle.page_touch.specs.Touches.{TouchView, seat_quota, seat_touched}
use Rattle.trace_threads.specs.Touching.{ToucherView, AreTouchersOf, HaveTouched, fault_count}
use Rattle.trace_threads.specs.Stages.{toucher_caller, toucher_seat, worker_faults}
use Rattle.trace_threads.proofs.Touchers.{Staged, all_faults, new_faults, staged_count, staged_idle, staged_of, staged_pages, staged_played, staged_quotas}
use Rattle.trace_threads.proofs.Touchers.{staged_tables}
use Rattle.trace_threads.proofs.touched.play_touched_trace.Given.{Over}
use Rattle.trace_threads.proofs.touched.play_touched_trace.Goals.{In-Some, After-dismiss_touchers-callers}
use Rattle.trace_threads.proofs.touched.play_touched_trace.Goals as goal

-- the touchers are the new workers, each with a new seat for its faults
staged : (g : Over) (c : In-Some g) → Staged c.in-Ok-open_workers.space.table c.args.start.now (map vec_items c.args.lines.items)
    c.in-Ok-open_workers.workers.items c.in-Some.touches.table c.as_slice-in-Ok-open_workers.result.now c.in-Some.touchers.items
staged g c =
    let counts : c.as_slice-in-Ok-open_workers.result.now ≡ map fault_count (map vec_items c.args.lines.items) = search rules in
    record { new = c.in-Ok-open_workers.ensures.workers; are = counts ∙ new_faults c.in-Ok-open_workers.ensures.workers; is = c.in-Some.ensures.touchers }

-- what they leave, and whose callers and seats come back
dismissed : (g : Over) (c : After-dismiss_touchers-callers g) → let after = c.play_touching.new.workers in
    HaveTouched c.in-Some.touchers.items after × (c.dismiss_touchers-callers.result.0.items ≡ map toucher_caller after)
    × (c.dismiss_touchers-callers.result.1.items ≡ map toucher_seat after)
dismissed g c =
    let before = c.in-Some.touchers.items in let after = c.play_touching.new.workers in
    let touched : HaveTouched before after = search rules in
    let back = take_at after (drop (length after) before) c.in-Some.touchers.len (let n = touched.count in omega (arith, n, c.in-Some.touchers.ok.0)) in
    (touched, c.dismiss_touchers-callers.ensures.callers ∙ ap (map toucher_caller) back, c.dismiss_touchers-callers.ensures.seats ∙ ap (map toucher_seat) back)

-- the faults of all lists are few enough
pub open_touchers-requires-clause-few : goal.open_touchers-requires-clause-few
open_touchers-requires-clause-few g c =
    let counts : c.as_slice-in-Ok-open_workers.result.now ≡ map fault_count (map vec_items c.args.lines.items) = search rules in
    let same = ap sum counts in let few = all_faults c.args.lines.items in let total = c.requires.total in omega arith

-- the quotas are the numbers of the new workers' faults
pub open_touchers-requires-clause-quotas : goal.open_touchers-requires-clause-quotas
open_touchers-requires-clause-quotas g c =
    let workers = c.in-Ok-open_workers.workers.items in let quotas = c.as_slice-in-Ok-open_workers.result.now in
    let counts : quotas ≡ map fault_count (map vec_items c.args.lines.items) = search rules in
    let are : quotas ≡ map worker_faults workers = counts ∙ new_faults c.in-Ok-open_workers.ensures.workers in are

-- the workers are of the new space, and their seats of the new set
pub play_touching-requires-clause-workers : goal.play_touching-requires-clause-workers
play_touching-requires-clause-workers g c κs within =
    let same : c.as_mut_slice.result.now ≡ c.in-Some.touchers.items = search rules in
    subst (λ (ts : List ToucherView). AreTouchersOf c.in-Ok-open_workers.space.table c.in-Some.touches.table ts) (sym same)
    (staged_of (staged g (goal.at.play_touching-requires-clause-workers g c).In-Some))

-- there is room for the callers and the seats of all workers
pub dismiss_touchers-callers-requires-clause-room : goal.dismiss_touchers-callers-requires-clause-room
dismiss_touchers-callers-requires-clause-room g c =
    let count = staged_count (staged g (goal.at.dismiss_touchers-callers-requires-clause-room g c).In-Some) in
    let callers = c.in-Ok-open_workers.ensures.room.1 in let seats = c.in-Some.ensures.room.1 in
    let long = c.in-Some.touchers.ok.0 in (omega arith, omega arith)

-- as many callers come back as the space has seats
pub close_both-requires-clause-count : goal.close_both-requires-clause-count
close_both-requires-clause-count g c =
    let h = goal.at.close_both-requires-clause-count g c in let back = dismissed g h.After-dismiss_touchers-callers in
    let count = staged_count (staged g h.In-Some) in
    let long = ap length back.1 ∙ length-map c.play_touching.new.workers toucher_caller in let same = back.0.count in
    let all = c.in-Ok-open_workers.ensures.count in omega arith

-- the callers may be closed
pub close_both-requires-clause-idle : goal.close_both-requires-clause-idle
close_both-requires-clause-idle g c =
    let h = goal.at.close_both-requires-clause-idle g c in let back = dismissed g h.After-dismiss_touchers-callers in
    subst (λ (cs : List CallerView). AreIdle c.in-Ok-open_workers.space.table cs) (sym back.1) (staged_idle (staged g h.In-Some) _ back.0)

-- there is a seat
pub close_both-requires-clause-some : goal.close_both-requires-clause-some
close_both-requires-clause-some g c =
    let h = goal.at.close_both-requires-clause-some g c in let back = dismissed g h.After-dismiss_touchers-callers in
    let count = staged_count (staged g h.In-Some) in
    let long = ap length back.2 ∙ length-map c.play_touching.new.workers toucher_seat in let same = back.0.count in
    let any = c.in-Ok-open_workers.ensures.workers.any in omega arith

-- the seats are of the set
pub close_both-requires-clause-tables : goal.close_both-requires-clause-tables
close_both-requires-clause-tables g c =
    let h = goal.at.close_both-requires-clause-tables g c in let back = dismissed g h.After-dismiss_touchers-callers in
    subst (λ (ss : List TouchView). All (λ s. s.table ≡ c.in-Some.touches.table) ss) (sym back.2) (staged_tables (staged g h.In-Some) _ back.0)

-- they are all of it
pub close_both-requires-clause-all : goal.close_both-requires-clause-all
close_both-requires-clause-all g c =
    let h = goal.at.close_both-requires-clause-all g c in let back = dismissed g h.After-dismiss_touchers-callers in
    ap (sum_by seat_quota) back.2 ∙ (staged_quotas (staged g h.In-Some) _ back.0 ∙ sym c.in-Some.ensures.shape.0)

-- what the closing gives is the trace of the lines
pub returns-in-Some-close_both-clause-played : goal.returns-in-Some-close_both-clause-played
returns-in-Some-close_both-clause-played g c =
    let h = goal.at.returns-in-Some-close_both-clause-played g c in
    let back = dismissed g h.After-dismiss_touchers-callers in let closed = c.in-Some-close_both.closed in
    staged_played (staged g h.In-Some) _ back.0 closed.0.entries closed.0.areas
    (subst (λ (cs : List CallerView). IsWhole cs closed.0.entries closed.0.areas) back.1 c.in-Some-close_both.ensures.whole)

-- the pages are those of the granted faults
pub returns-in-Some-close_both-clause-touched : goal.returns-in-Some-close_both-clause-touched
returns-in-Some-close_both-clause-touched g c =
    let h = goal.at.returns-in-Some-close_both-clause-touched g c in
    let back = dismissed g h.After-dismiss_touchers-callers in let closed = c.in-Some-close_both.closed in
    let whole = subst (λ (cs : List CallerView). IsWhole cs closed.0.entries closed.0.areas) back.1 c.in-Some-close_both.ensures.whole in
    let pages = subst (λ (ss : List TouchView). (p : ℕ) → Contains closed.1.items p ↔ Contains (flat_map seat_touched ss) p) back.2
    c.in-Some-close_both.ensures.pages in
    staged_pages (staged g h.In-Some) _ back.0 closed.0.entries closed.0.areas closed.1.items whole c.in-Some-close_both.ensures.rising pages
