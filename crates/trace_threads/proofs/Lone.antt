-- Where one worker alone has entries, no number is drawn between its calls. So each call's entry finds the state that
-- the entries before it leave, and holds its area alone exactly where it may.
use Rattle.std.proofs.Common.{◌≡◌, ℕ, eqb, ◌+◌, List, [], ◌∷◌, ◌++◌, length, sym, refl, ap, ◌∙◌, subst, arith, eq-eqb}
use Rattle.std.proofs.lemmas.Bool.{eqb-true, ne_eqb}
use Rattle.std.proofs.lemmas.List.{append-nil, length-append, nil_from_length}
use Rattle.std.specs.Prelude.{Bool, true, false, cond}
use Rattle.area_rows.proofs.Wholes.{kept_entry}
use Rattle.space_model.specs.declared.areas.Area.{Area}
use Rattle.space_model.specs.declared.entries.Entry.{Entry}
use Rattle.space_model.specs.History.{Chains, StateAfter, IsNumberedFrom}
use Rattle.space_model.proofs.Histories.{one_state, runs_more}
use Rattle.area_rows.specs.History.{Runs, FitsAndReplies, StartsWith, entries_of}
use Rattle.area_rows.specs.Callers.{CallerView}
use Rattle.area_rows.proofs.Storing.{all_legal}
use Rattle.trace_threads.specs.declared.worker.Line.{Line}
use Rattle.trace_threads.specs.Workers.{IsHeld, Plays}
use Rattle.trace_threads.specs.Collected.{HeldAndReplies, IsOnlyWorker}

-- a list that begins with another one of its length is that one
same_history : (a b : List Entry) → StartsWith b a → length b ≡ length a → b ≡ a
same_history a b p same =
    let long : length b ≡ length a + length p.0 = ap length p.1 ∙ length-append a p.0 in
    let none : length p.0 ≡ 0 = omega arith in p.1 ∙ (ap (λ r. a ++ r) (nil_from_length p.0 none) ∙ append-nil a)

-- calls that were made with no other one between hold what they have to hold
pub held_chain : (ls : List Line) (c : CallerView) (es : List Entry) (after : CallerView) {start : List Area} {front : List Entry} (A B : List Area)
    → Plays ls c es after → c.seat.pass.seen ≡ front → c.seat.pass.start ≡ start → Runs 0 start front A → IsNumberedFrom (length front) es
    → Chains FitsAndReplies A es B → Chains HeldAndReplies A es B
held_chain [] c [] after A B plays seen began runs numbered chain = chain
held_chain [] c (e ∷ es) after A B plays seen began runs numbered chain = absurd plays
held_chain (l ∷ ls) c [] after A B plays seen began runs numbered chain = absurd plays
held_chain (l ∷ ls) c (e ∷ es) after {start} {front} A B plays seen began runs numbered chain =
    let p = plays.1 in let num = p.called.numbered in
    let history : num.history ≡ front = same_history c.seat.pass.seen num.history num.more (let count = num.counted p.keeps in
    let first = numbered.0 in let long = ap length seen in omega arith) ∙ seen in
    let mine : StateAfter start front num.state = subst (λ (z : List Area × List Entry). StateAfter z.0 z.1 num.state) (λ i. (began i, history i))
    (all_legal c.seat.pass.start num.state num.history num.runs).1 in
    let state : num.state ≡ A = one_state start front num.state A mine (all_legal start A front runs).1 in
    let held : IsHeld A e = subst (λ X. IsHeld X e) state (p.alone (numbered.0 ∙ sym (ap length seen))) in
    let step = chain.1 in let zero_on : length front ≡ 0 + length front = omega arith in
    let longer : length front + 1 ≡ length (front ++ e ∷ []) = sym (length-append front (e ∷ [])) in (
      chain.0,
      (held, step.1),
      held_chain ls plays.0 es after chain.0 B plays.2 (num.seen ∙ (λ i. history i ++ kept_entry num p.keeps i ∷ [])) (num.start ∙ began)
          (runs_more front 0 start A chain.0 e runs (numbered.0 ∙ zero_on) step.0 step.1) (subst (λ n. IsNumberedFrom n es) longer numbered.1) chain.2,
    )

-- the worker of an entry has one
pub own_some : (e : Entry) (es : List Entry) → entries_of e.worker (e ∷ es) ≡ [] → ⊥
own_some e es none =
    let here : e ∷ entries_of e.worker es ≡ [] = subst (λ b. cond b (e ∷ entries_of e.worker es) (entries_of e.worker es) ≡ [])
    (eq-eqb e.worker e.worker refl) none in let n = ap length here in omega arith

alone_behind : {worker : ℕ} (e : Entry) (es : List Entry) → IsOnlyWorker worker (e ∷ es) → e.worker ≡ worker → IsOnlyWorker worker es
alone_behind e es none is k differ = subst (λ b. cond b (e ∷ entries_of k es) (entries_of k es) ≡ [])
    (ne_eqb e.worker k (λ same. differ (sym same ∙ is))) (none k differ)

own_head : (worker : ℕ) (e : Entry) (es mine : List Entry) (b : Bool) → eqb e.worker worker ≡ b → IsOnlyWorker worker (e ∷ es)
    → (IsOnlyWorker worker es → mine ≡ es) → cond b (e ∷ mine) mine ≡ e ∷ es
own_head worker e es mine true is none rest = ap (λ l. e ∷ l) (rest (alone_behind e es none (eqb-true e.worker worker is)))
own_head worker e es mine false is none rest =
    absurd (own_some e es (none e.worker (λ same. let both : true ≡ false = sym (eq-eqb e.worker worker same) ∙ is in cc)))

-- the entries of the one worker that has any are all of them
pub only_own : (worker : ℕ) (es : List Entry) → IsOnlyWorker worker es → entries_of worker es ≡ es
only_own worker [] none = refl
only_own worker (e ∷ es) none = own_head worker e es (entries_of worker es) (eqb e.worker worker) refl none (only_own worker es)
