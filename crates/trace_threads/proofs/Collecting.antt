-- From what each worker's caller has, and the history that the closing gives, to the entries being collected.
use Rattle.std.proofs.Common.{◌≡◌, ℕ, eqb, ◌≤◌, ◌+◌, List, [], ◌∷◌, ◌++◌, length, sym, refl, ap, ◌∙◌, subst, arith}
use Rattle.std.proofs.lemmas.List.{length-map}
use Rattle.std.specs.Prelude.{true, false, cond}
use Rattle.lock_core.proofs.ByPlace.{below, there}
use Rattle.range_rw.proofs.Lists.{from_map}
use Rattle.space_model.specs.declared.areas.Area.{Area}
use Rattle.space_model.specs.declared.entries.Entry.{Entry}
use Rattle.space_model.specs.History.{IsNumberedFrom}
use Rattle.area_rows.specs.History.{entries_of}
use Rattle.area_rows.specs.Callers.{CallerView, IsWhole}
use Rattle.trace_threads.specs.declared.worker.Line.{Line}
use Rattle.trace_threads.specs.Workers.{AreEntriesOf, Rise}
use Rattle.trace_threads.specs.Collected.{OwnEntriesAreCollected, PlaysAreMade, caller_of}
use Rattle.trace_threads.proofs.Lone.{own_some}

-- numbers that rise from a number on rise from a lower one on
rise_from : (lo low : ℕ) (es : List Entry) (hi : ℕ) → low ≤ lo → Rise lo es hi → Rise low es hi
rise_from lo low [] hi le r = omega arith
rise_from lo low (e ∷ es) hi le r = ((let first = r.0 in omega arith), r.1)

-- of entries that are numbered one after another those of one worker rise
own_rise : (worker n : ℕ) (es : List Entry) → IsNumberedFrom n es → Rise n (entries_of worker es) (n + length es)
own_rise worker n [] is = omega arith
own_rise worker n (e ∷ es) is =
    let hi : n + 1 + length es ≡ n + length (e ∷ es) = omega arith in
    let rest = subst (λ h. Rise (n + 1) (entries_of worker es) h) hi (own_rise worker (n + 1) es is.1) in
    let next : e.number + 1 ≡ n + 1 = ap (λ k. k + 1) is.0 in
    let first : n ≤ e.number = (let same = is.0 in omega arith) in
    elim (eqb e.worker worker) as (λ b. Rise n (cond b (e ∷ entries_of worker es) (entries_of worker es)) (n + length (e ∷ es))) [
      | true ↦ (first, subst (λ k. Rise k (entries_of worker es) (n + length (e ∷ es))) (sym next) rest)
      | false ↦ rise_from (n + 1) n (entries_of worker es) (n + length (e ∷ es)) (omega arith) rest
    ]

-- where no worker has an entry there is none
no_entry : (es : List Entry) → ((k : ℕ) → entries_of k es ≡ []) → es ≡ []
no_entry [] none = refl
no_entry (e ∷ es) none = absurd (own_some e es (none e.worker))

-- the history of a closing is numbered from 0
numbered : (callers : List CallerView) (entries : List Entry) (areas : List Area) → IsWhole callers entries areas → IsNumberedFrom 0 entries
numbered [] entries areas whole = subst (λ es. IsNumberedFrom 0 es) (sym (no_entry entries (λ k. whole.no_other k (omega arith)))) tt
numbered (c ∷ cs) entries areas whole = (whole.runs 0 c refl).0

-- callers that have just the entries of their lines have what the closing collects
pub collected : OwnEntriesAreCollected
collected workers callers entries areas made whole =
    let count = made.count in let all = numbered callers entries areas whole in
    record {
      lines = λ k ls at.
          let lt = below workers k ls at in let c = there callers k (omega arith) in
          subst (λ es. AreEntriesOf k ls es) (sym (whole.mine k c.0 c.1)) (made.each k ls c.0 at c.1);
      no_other = λ k le. whole.no_other k (omega arith);
      numbered = all;
      in_order = λ k. let end : 0 + length entries ≡ length entries = omega arith in
          subst (λ n. Rise 0 (entries_of k entries) n) end (own_rise k 0 entries all);
    }

-- workers that had no entry before have, when they have played, just the entries of their lines
pub made : PlaysAreMade
made lines before after fresh played =
    let count = fresh.count in let same = played.count in
    record {
      count = length-map after caller_of ∙ (same ∙ count);
      each = λ k ls c at_ls at_c.
          let b = from_map caller_of after k c at_c in let lt = below lines k ls at_ls in
          let a = there before k (omega arith) in let f = fresh.each k ls a.0 at_ls a.1 in
          let d = (played.each k a.0 b.0 a.1 b.1).played in
          let mine : c.seat.pass.mine ≡ d.entries = ap (λ (x : CallerView). x.seat.pass.mine) (sym b.2) ∙ (d.mine ∙ ap (λ l. l ++ d.entries) f.2) in
          subst (λ es. AreEntriesOf k ls es) (sym mine) (subst (λ (z : ℕ × List Line). AreEntriesOf z.0 z.1 d.entries) (λ i. (f.1 i, f.0 i)) d.theirs);
    }
