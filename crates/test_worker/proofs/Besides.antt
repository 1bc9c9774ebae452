-- Two workers that played beside a third caller, and what the closing of their space collects.
use Rattle.std.proofs.Common.{◌≡◌, ℕ, List, [], ◌∷◌, ◌++◌, map, length, sym, refl, ap, ◌∙◌, subst, arith, ⊎_elim, length-append}
use Rattle.std.proofs.lemmas.List.{length-map}
use Rattle.std.specs.Prelude.{None}
use Rattle.atomic_table.specs.Seated.{TableId}
use Rattle.atomic_table.proofs.Lists.{at_longer}
use Rattle.lock_core.proofs.ByPlace.{below, there, snoc_at}
use Rattle.space_model.specs.declared.areas.Area.{Area}
use Rattle.space_model.specs.declared.entries.Entry.{Entry}
use Rattle.area_rows.specs.History.{Runs}
use Rattle.area_rows.specs.Callers.{CallerView, AreIdle, AreNewCallers, IsWhole}
use Rattle.trace_threads.specs.declared.worker.Line.{Line}
use Rattle.trace_threads.specs.Workers.{WorkerView, AreEntriesOf, HavePlayed}
use Rattle.trace_threads.specs.Collected.{AreMade, IsCollected, caller_of}
use Rattle.trace_threads.specs.Hiring.{AreNewWorkers}
use Rattle.test_worker.specs.Trials.{IsThird}
use Rattle.trace_threads.proofs.Collecting.{made, collected}
use Rattle.trace_threads.proofs.Hirings.{new_workers, before_at, played_idle, fresh_new}

-- the first two callers of a new space of three, with their lines
pub two_workers : (table : TableId) (start : List Area) (calls : List ℕ) (a b h : CallerView) (f s : List Line)
    → AreNewCallers table start calls (a ∷ b ∷ h ∷ [])
    → AreNewWorkers table start (f ∷ s ∷ []) (record { caller = a; lines = f } ∷ record { caller = b; lines = s } ∷ [])
two_workers table start calls a b h f s new =
    new_workers 1 calls (f ∷ s ∷ []) (a ∷ b ∷ []) (record { caller = a; lines = f } ∷ record { caller = b; lines = s } ∷ [])
    refl refl (omega arith) (λ k c at. new k c (at_longer (a ∷ b ∷ []) (h ∷ []) k c at))

-- the third caller
pub third_new : (table : TableId) (start : List Area) (calls : List ℕ) (a b h : CallerView) → AreNewCallers table start calls (a ∷ b ∷ h ∷ []) → IsThird table h
third_new table start calls a b h new =
    let e = new 2 h refl in
    record {
      table_is = ap (λ (x : CallerView). x.seat.table) e;
      number = ap (λ (x : CallerView). x.seat.number) e;
      held = ap (λ (x : CallerView). x.seat.held) e;
      mine = ap (λ (x : CallerView). x.seat.pass.mine) e;
    }

-- callers that played, and one more behind them, are idle
pub idle_with : (table : TableId) (start : List Area) (lists : List (List Line)) (before after : List WorkerView) (h : CallerView)
    → AreNewWorkers table start lists before → HavePlayed before after → h.seat.table ≡ table → h.seat.number ≡ length after → h.seat.held ≡ None
    → AreIdle table (map caller_of after ++ h ∷ [])
idle_with table start lists before after h new played of_table number free k c at = ⊎_elim (λ t. played_idle new played k c t)
    (λ t. let here : k ≡ length after = t.0 ∙ length-map after caller_of in
    subst (λ (x : CallerView). (x.seat.table ≡ table) × (x.seat.number ≡ k) × (x.seat.held ≡ None)) t.1 (of_table, number ∙ sym here, free))
    (snoc_at (map caller_of after) h c k at)

-- a caller with no entry made those of no line
made_with : (lists : List (List Line)) (callers : List CallerView) (h : CallerView) → AreMade lists callers
    → h.seat.pass.mine ≡ [] → AreMade (lists ++ [] ∷ []) (callers ++ h ∷ [])
made_with lists callers h m none = record {
  count = (let n = m.count in let long = length-append callers (h ∷ []) in let wide = length-append lists ([] ∷ []) in omega arith);
  each = λ k ls c at_ls at_c.
      let count = m.count in
      ⊎_elim (λ l. ⊎_elim (λ t. m.each k ls c l t) (λ t. let lt = below lists k ls l in let end = t.0 in absurd (omega arith)) (snoc_at callers h c k at_c))
      (λ l. ⊎_elim (λ t. let lt = below callers k c t in let end = l.0 in absurd (omega arith))
      (λ t. subst (λ (z : List Line × CallerView). AreEntriesOf k z.0 z.1.seat.pass.mine) (λ i. (l.1 i, t.1 i))
      (subst (λ es. AreEntriesOf k [] es) (sym none) tt)) (snoc_at callers h c k at_c)) (snoc_at lists [] ls k at_ls);
}

-- and what the closing of them all collects is the workers' lines
pub played_with : (table : TableId) (start : List Area) (lists : List (List Line)) (before after : List WorkerView)
    (h : CallerView) (entries : List Entry) (areas : List Area) → AreNewWorkers table start lists before → HavePlayed before after → h.seat.pass.mine ≡ []
    → IsWhole (map caller_of after ++ h ∷ []) entries areas → IsCollected (lists ++ [] ∷ []) entries × Runs 0 start entries areas
played_with table start lists before after h entries areas new played none whole =
    let callers = map caller_of after in
    let long : length callers ≡ length before = length-map after caller_of ∙ played.count in let more = new.any in
    let c = there callers 0 (omega arith) in
    let began = (before_at new played 0 c.0 c.1).3 in (
      collected (lists ++ [] ∷ []) (callers ++ h ∷ []) entries areas (made_with lists callers h (made lists before after (fresh_new new) played) none) whole,
      subst (λ a. Runs 0 a entries areas) began (whole.runs 0 c.0 (at_longer callers (h ∷ []) 0 c.0 c.1)),
    )

-- what the first two callers may do
pub two_new : (table : TableId) (start : List Area) (p q r : ℕ) (a b h : CallerView) → AreNewCallers table start (p ∷ q ∷ r ∷ []) (a ∷ b ∷ h ∷ [])
    → (a.left ≡ p) × (b.left ≡ q) × (a.seat.held ≡ None) × (b.seat.held ≡ None)
two_new table start p q r a b h new =
    let e = new 0 a refl in let f = new 1 b refl in
    (ap (λ (x : CallerView). x.left) e, ap (λ (x : CallerView). x.left) f, ap (λ (x : CallerView). x.seat.held) e, ap (λ (x : CallerView). x.seat.held) f)
