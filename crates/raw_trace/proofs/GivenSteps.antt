-- The texts of a log one by one: each does its step, and what the steps write is behind what was written.
use Rattle.std.proofs.Common.{◌≡◌, ℕ, ◌+◌, ◌-◌, ◌<◌, ◌≤◌, drop, Bool, List, [], ◌∷◌, ◌++◌, length, refl, sym, ap, subst, ◌∙◌, append_assoc, inl, inr, arith}
use Rattle.std.proofs.lemmas.List.{append-nil, drop-drop, length-append}
use Rattle.raw_logs.specs.declared.counts.Counts.{Counts}
use Rattle.raw_logs.specs.Log.{Numbered, Each}
use Rattle.raw_trace.specs.declared.fault.Fault.{Fault}
use Rattle.raw_trace.specs.declared.halves.Role.{Role}
use Rattle.raw_trace.specs.declared.order.Ordering.{Ordering}
use Rattle.raw_trace.specs.Faults.{IsFirstFault}
use Rattle.raw_trace.specs.Order.{Entry, Step, frees_for, does, order}
use Rattle.raw_trace.specs.Places.{ReadText, IsReadText, IsStep, AreSteps}
use Rattle.raw_trace.specs.declared.tally.Tally.{Tally}
use Rattle.raw_trace.specs.Rewriting.{text_of, lines_as, counted_all, no_calls, calls_after, shown_all}
use Rattle.raw_trace.specs.Stages.{fed_by, EachEntry, MayBeWritten, WroteDue, EndsDue, WroteAll, EndsAll, DidSome, StandsAt, AreRoles}
use Rattle.raw_trace.proofs.EachEntries.{each_both}
use Rattle.raw_trace.proofs.OneFault.{first_more, first_behind}
use Rattle.raw_trace.proofs.Turns.{text_behind, counted_both, calls_both}
use Rattle.raw_trace.proofs.TextPlaces.{RoleAt, reads_count}

-- ---- a step more

steps_more : (fed xs : List ReadText) (x : ReadText) (later : List ReadText) (steps : List Step) (step : Step) → AreSteps fed xs (x ∷ later) steps
    → IsStep (fed_by fed xs) x later step → AreSteps fed (xs ++ (x ∷ [])) later (steps ++ (step ∷ []))
steps_more fed [] x later [] step are is = (is, tt)
steps_more fed (y ∷ xs) x later (s ∷ steps) step are is =
    (subst (λ (z : List ReadText). IsStep fed y z s) (sym (append_assoc xs (x ∷ []) later)) are.0, steps_more (y ∷ fed) xs x later steps step are.1 is)
steps_more fed xs x later steps step are is = absurd are

-- ---- the loop

-- nothing was done yet
pub did_none : (strict : Bool) (lines : List Numbered) (roles : List Role) (counts : Counts) (now : Ordering) → AreRoles lines roles → now.waiting ≡ []
    → now.written.out.items ≡ [] → now.written.counts ≡ counts → now.written.calls ≡ no_calls → DidSome strict lines 0 counts now
did_none strict lines roles counts now r w o c n =
    record {
      fed = [];
      later = r.texts;
      reads = r.reads;
      count = refl;
      steps = [];
      are = tt;
      written = [];
      follows = λ more. ap (λ (z : List Entry). order frees_for z more) (sym w);
      out = o;
      sum = c;
      calls = n;
      may = tt;
    }

-- texts more are let go at a place
pub stands_at : (strict : Bool) (lines : List Numbered) (roles : List Role) (old left : List Numbered) (gone more place : ℕ) (counts : Counts) (now : Ordering)
    → AreRoles lines roles → place < length lines → DidSome strict lines place counts now × (old ≡ drop gone lines) × (gone ≤ place)
    → more ≤ place - gone → left ≡ drop more old → StandsAt strict lines roles left (gone + more) place counts now
stands_at strict lines roles old left gone more place counts now r w (d, is, b) m e =
    record {
      roles_are = r;
      within = w;
      before = omega arith;
      left_are = e ∙ ap (drop more) is ∙ drop-drop more gone lines;
      did = d;
    }

-- what a text more gives
pub did_more : (strict : Bool) (lines : List Numbered) (place : ℕ) (counts : Counts) (old new : Ordering) (d : DidSome strict lines place counts old)
    (role : Role) (x : RoleAt lines place d.fed d.later role) (step : Step) → IsStep (fed_by [] d.fed) x.text x.rest step
    → WroteDue strict old (does frees_for step old.waiting) new → DidSome strict lines (place + 1) counts new
did_more strict lines place counts old new d role x step is did =
    let found = does frees_for step old.waiting in
    record {
      fed = d.fed ++ (x.text ∷ []);
      later = x.rest;
      reads = subst (λ (z : List ReadText). Each IsReadText lines z) (sym (append_assoc d.fed (x.text ∷ []) x.rest)) x.reads;
      count = length-append d.fed (x.text ∷ []) ∙ ap (λ (k : ℕ). k + 1) d.count;
      steps = d.steps ++ (step ∷ []);
      are = steps_more [] d.fed x.text x.rest d.steps step (subst (λ (z : List ReadText). AreSteps [] d.fed z d.steps) x.is d.are) is;
      written = d.written ++ found.lines;
      follows = λ more.
          ap (λ (z : List Step). order frees_for [] z) (append_assoc d.steps (step ∷ []) more) ∙ d.follows (step ∷ more)
          ∙ ap (λ (z : List Entry). d.written ++ (found.lines ++ order frees_for z more)) (sym did.waits)
          ∙ sym (append_assoc d.written found.lines (order frees_for new.waiting more));
      out = text_behind no_calls old.written.calls d.written found.lines [] old.written.out.items new.written.out.items d.out d.calls did.wrote.out;
      sum = did.wrote.counts ∙ ap (λ (z : Counts). counted_all z found.lines) d.sum ∙ sym (counted_both counts d.written found.lines);
      calls = did.wrote.calls ∙ ap (λ (z : Tally). calls_after z found.lines) d.calls ∙ sym (calls_both no_calls d.written found.lines);
      may = each_both (MayBeWritten strict) d.written found.lines d.may did.wrote.may;
    }

-- the writing ends at a text
pub did_end : (strict : Bool) (lines : List Numbered) (place : ℕ) (counts : Counts) (old : Ordering) (d : DidSome strict lines place counts old)
    (role : Role) (x : RoleAt lines place d.fed d.later role) (step : Step) (fault : Fault) → IsStep (fed_by [] d.fed) x.text x.rest step
    → EndsDue strict (does frees_for step old.waiting).lines fault → EndsAll strict lines fault
did_end strict lines place counts old d role x step fault is (inl h) = inl h
did_end strict lines place counts old d role x step fault is (inr h) =
    let found = does frees_for step old.waiting in
    inr (record {
      fed = d.fed ++ (x.text ∷ []);
      later = x.rest;
      reads = subst (λ (z : List ReadText). Each IsReadText lines z) (sym (append_assoc d.fed (x.text ∷ []) x.rest)) x.reads;
      steps = d.steps ++ (step ∷ []);
      are = steps_more [] d.fed x.text x.rest d.steps step (subst (λ (z : List ReadText). AreSteps [] d.fed z d.steps) x.is d.are) is;
      first = subst (λ (z : List Entry). IsFirstFault strict z fault) (sym (d.follows (step ∷ [])))
          (first_behind strict d.written (found.lines ++ []) fault d.may (first_more strict found.lines [] fault h));
    })

-- all was done
pub did_all : (strict : Bool) (lines : List Numbered) (place : ℕ) (counts : Counts) (now : Ordering) → DidSome strict lines place counts now
    → length lines ≤ place → WroteAll strict lines counts now.written
did_all strict lines place counts now w l = by w.later refl
  where
    by : (later : List ReadText) → w.later ≡ later → WroteAll strict lines counts now.written
    by (x ∷ rest) e =
        let k = reads_count lines (w.fed ++ w.later) w.reads in
        let m = length-append w.fed w.later in
        let n = ap length e in
        let c = w.count in
        absurd (omega (arith, l))
    by [] e =
        let o : order frees_for [] w.steps ≡ w.written =
        ap (λ (x : List Step). order frees_for [] x) (sym (append-nil w.steps)) ∙ w.follows [] ∙ append-nil w.written in
        let texts = ap (λ (x : List ReadText). w.fed ++ x) e ∙ append-nil w.fed in
        record {
          texts = w.fed;
          reads = subst (λ (x : List ReadText). Each IsReadText lines x) texts w.reads;
          steps = w.steps;
          are = subst (λ (x : List ReadText). AreSteps [] w.fed x w.steps) e w.are;
          out = w.out ∙ ap (λ (x : List Entry). text_of (lines_as (shown_all no_calls x))) (sym o);
          sum = w.sum ∙ ap (λ (x : List Entry). counted_all counts x) (sym o);
          calls = w.calls ∙ ap (λ (x : List Entry). calls_after no_calls x) (sym o);
          may = subst (EachEntry (MayBeWritten strict)) (sym o) w.may;
        }
