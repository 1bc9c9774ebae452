-- One worker's entries are those of its lines in their order, so two histories of them have the same calls, and then
-- the same replies and the same last areas.
use Rattle.std.proofs.Common.{◌≡◌, ℕ, ◌<◌, List, [], ◌∷◌, map, sym, refl, subst, ◌∙◌, arith}
use Rattle.std.specs.Prelude.{All}
use Rattle.space_model.specs.declared.areas.Area.{Area}
use Rattle.space_model.specs.declared.entries.Entry.{Entry}
use Rattle.space_model.specs.Answers.{Answers}
use Rattle.space_model.specs.History.{StateAfter}
use Rattle.space_model.proofs.Histories.{agree}
use Rattle.space_model.proofs.OneAnswer.{one_answer}
use Rattle.area_rows.proofs.Storing.{all_legal}
use Rattle.trace_threads.specs.declared.worker.Line.{Line as Turn}
use Rattle.trace_threads.specs.Workers.{AreEntriesOf}
use Rattle.trace_driver.specs.declared.trace.Line.{Line}
use Rattle.trace_driver.specs.Dealt.{worker_lines}
use Rattle.trace_driver.specs.Laws.{OneWorkerPlaysOneHistory}
use Rattle.trace_driver.proofs.Parts.{part_whole}
use Rattle.trace_driver.proofs.PlayLemmas.{AreOwn, none_from, of_worker}

-- one worker's entries are those of all its lines
pub of_lines : (lines : List Line) (entries : List Entry) → AreOwn 1 lines entries → All (λ (e : Entry). e.worker < 1) entries
    → AreEntriesOf 0 (worker_lines 1 lines 0) entries
of_lines lines entries own below = subst (AreEntriesOf 0 (worker_lines 1 lines 0)) (part_whole (λ (e : Entry). e.worker) entries (none_from 1 entries below))
    (of_worker 1 lines entries 0 own (omega arith))

-- what the entries of lines have of their lines
record Agrees (worker : ℕ) (turns : List Turn) (entries : List Entry) : Type 0 where
  pub workers : map (λ (e : Entry). e.worker) entries ≡ map (λ (t : Turn). worker) turns
  pub lines : map (λ (e : Entry). e.line) entries ≡ map (λ (t : Turn). t.line) turns
  pub calls : map (λ (e : Entry). e.call) entries ≡ map (λ (t : Turn). t.call) turns

agrees : (worker : ℕ) (turns : List Turn) (entries : List Entry) → AreEntriesOf worker turns entries → Agrees worker turns entries
agrees worker [] [] h = record { workers = refl; lines = refl; calls = refl }
agrees worker (t ∷ ts) (e ∷ es) h =
    let rest = agrees worker ts es h.1 in
    record { workers = λ i. h.0.worker_is i ∷ rest.workers i; lines = λ i. h.0.line_is i ∷ rest.lines i; calls = λ i. h.0.call_is i ∷ rest.calls i }
agrees worker turns entries h = absurd h

-- the same calls leave the same areas
one_end : (A : List Area) (xs ys : List Entry) (B C : List Area) → map (λ (e : Entry). e.call) xs ≡ map (λ (e : Entry). e.call) ys
    → StateAfter A xs B → StateAfter A ys C → B ≡ C
one_end A [] [] B C same s t = s ∙ sym t
one_end A (x ∷ xs) (y ∷ ys) B C same (D, (q, g), s) (E, (r, h), t) =
    let calls : x.call ≡ y.call = cc in
    let rest : map (λ (e : Entry). e.call) xs ≡ map (λ (e : Entry). e.call) ys = cc in
    let one = (one_answer A x.call q r D E g (subst (λ c. Answers A c r E) (sym calls) h)).1 in
    one_end E xs ys B C rest (subst (λ X. StateAfter X xs B) one s) t
one_end A xs ys B C same s t = absurd cc

-- two plays of one worker's lines from one opening agree, and leave the same areas
pub one_history : OneWorkerPlaysOneHistory
one_history opening lines entries others last end a b =
    let x = agrees 0 (worker_lines 1 lines 0) entries (of_lines lines entries a.own a.no_other) in
    let y = agrees 0 (worker_lines 1 lines 0) others (of_lines lines others b.own b.no_other) in
    let calls = x.calls ∙ sym y.calls in let one = all_legal opening last entries a.runs in
    let other = all_legal opening end others b.runs in
    let replies = agree opening entries others one.0 other.0 calls in (
      record { numbers = replies.0; workers = x.workers ∙ sym y.workers; lines = x.lines ∙ sym y.lines; calls = calls; replies = replies.1 },
      one_end opening entries others last end calls one.1 other.1,
    )
