-- The steps of a log fit each process: a call that has begun ends before anything else of its process comes.
use Rattle.std.proofs.Common.{◌≡◌, ◌⊎◌, ℕ, true, false, List, [], ◌∷◌, ◌++◌, Option, Some, None, refl, sym, ap, subst, ◌∙◌, inl, inr}
use Rattle.std.specs.Prelude.{option_to_list, ◌==◌, Result, Ok, Err}
use Rattle.std.proofs.lemmas.Bool.{eqb-true, eq-eqb}
use Rattle.std.proofs.lemmas.Bool.Decides.{eqb_tells}
use Rattle.line_parts.proofs.Leaves.{bool_cases}
use Rattle.page_types.specs.declared.calls.Call.{Call}
use Rattle.strace_reader.specs.declared.item.Item.{Item}
use Rattle.strace_reader.specs.declared.item.Item.TheVariants.{Played, Unfinished, Other}
use Rattle.strace_reader.specs.declared.item.Recorded.{Recorded}
use Rattle.strace_reader.specs.Grammar.{IsCut, Spells}
use Rattle.strace_reader.proofs.OneOutcome.{one_outcome}
use Rattle.strace_reader.proofs.FormFacts.{cut_same}
use Rattle.raw_lines.specs.Marks.{unread_text}
use Rattle.raw_logs.specs.Log.{Numbered, Each}
use Rattle.raw_trace.specs.declared.calls.ReadCall.{ReadCall}
use Rattle.raw_trace.specs.declared.settling.Ending.{Ending}
use Rattle.raw_trace.specs.Order.{Entry, Step, Begins, Ends, Comes}
use Rattle.raw_trace.specs.Places.{HasReading, ReadText, IsReadText, is_of, cut_call, Part, Whole, Front, Back, part, Becomes, becomes_itself, becomes_mended, becomes_unreturned, becomes_undone, becomes_unread}
use Rattle.raw_trace.specs.Places.{IsReadAs, IsEntry, IsDone, AreSteps}
use Rattle.raw_trace.specs.Laws.{KeepsOrders}
use Rattle.raw_trace.proofs.JoinedLines.{joined_cut}
use Rattle.raw_trace.proofs.LineCalls.{half_first, unread_passes}
use Rattle.raw_trace.proofs.OwnCalls.{own, own_apart}
use Rattle.raw_trace.proofs.ReadTexts.{reading_one, reading_of, self_is, IsNoSecond, none_closed, none_last, cut_past, of_one}
use Rattle.raw_trace.proofs.ReadTexts.{FrontParts, BackParts, WholeParts, HasPart, parts_of}
use Rattle.raw_trace.proofs.StepOrders.{Fits, fits_end, fits_comes, fits_between, fits_begins, fits_other_begins, fits_ends, fits_other_ends}
use Rattle.raw_trace.proofs.StepOrders.{holds_none, order_fits}

true_false : true ≡ false → ⊥
true_false e = cc

none_some : (o : Option (List ℕ)) (line : List ℕ) → o ≡ None → o ≡ Some line → ⊥
none_some o line e f = cc

-- the process of a call is that of its line
played_cut : (text : List ℕ) (pid : ℕ) (done : Call) (recorded : Option Recorded) → Spells text (Played pid done recorded)
    → (body : List ℕ) × IsCut text pid body
unfolding Spells
played_cut text pid done recorded h = (h.0, h.1)

-- an entry of a text of another process has no call of this one
quiet_own : (p number : ℕ) (t : List ℕ) (r : Result Item ℕ) (e : Entry) → HasReading t r → is_of p r ≡ false → IsEntry number false t e → own p e ≡ []
quiet_own p number t r e h f is = elim (eqb_tells e.process p) [
  | inl k ↦ rw k.0 (none k.1 e.call is.read)
  | inr k ↦ own_apart p e k.0
]
  where
    quiet : (other : Result Item ℕ) → HasReading t other → is_of p other ≡ true → ⊥
    quiet other g u = true_false (sym u ∙ ap (is_of p) (reading_one t other r g h) ∙ f)

    read : e.process ≡ p → (line : List ℕ) (ending : Ending) → Becomes t line ending → (c : ReadCall)
        → Spells line (Played c.pid c.call c.recorded) → ⊥
    read same line ending (becomes_itself g) c s =
        let cut = played_cut t c.pid c.call c.recorded s in
        quiet (Ok (Played c.pid c.call c.recorded)) s (eq-eqb c.pid p ((cut_same t c.pid e.process cut.0 is.body cut.1 is.process_is).0 ∙ same))
    read same line ending (becomes_mended bad r short m g) c s = quiet (Err e.process) (bad, is.body, r, is.process_is) (eq-eqb e.process p same)
    read same line ending (becomes_unreturned k) c s =
        let f = half_first t k.0 k.1 k.2 k.3 k.4 in
        quiet (Ok (Unfinished k.0 k.1 k.2 k.3)) k.4 (eq-eqb k.0 p ((cut_same t k.0 e.process f.0 is.body f.2 is.process_is).0 ∙ same))
    read same line ending (becomes_undone l) c s =
        let k = (one_outcome (unread_text t)).item (Played c.pid c.call c.recorded) Other s (unread_passes t) in absurd cc
    read same line ending (becomes_unread never half left not) c s =
        let k = (one_outcome (unread_text t)).item (Played c.pid c.call c.recorded) Other s (unread_passes t) in absurd cc

    none : e.process ≡ p → (call : Option ReadCall) → IsReadAs e.line call → option_to_list call ≡ []
    none same None r = refl
    none same (Some c) r = absurd (read same e.line e.ending is.becomes c r)

-- ---- the steps fit

-- no call of the process is cut in two here, or this one is
data State (p : ℕ) (fed later : List ReadText) : Option Entry → Type 0 where
  closed : cut_call p fed later ≡ None → State p fed later None
  opened : (one : Entry) → (one.process == p) ≡ true → (line : List ℕ) → cut_call p fed later ≡ Some line → State p fed later (Some one)

-- the calls of the process in the steps
abbrev HasCalls : ℕ → Option Entry → List Step → Type 0
HasCalls p one steps = (calls : List ReadCall) × Fits p one steps calls

-- what is behind a text fits, whatever state it is in
abbrev FitsBehind : ℕ → List ReadText → List ReadText → List Step → Type 0
FitsBehind p fed later steps = (one : Option Entry) → State p fed later one → HasCalls p one steps

-- a text of another process changes nothing
past : (p : ℕ) (fed : List ReadText) (x : ReadText) (later : List ReadText) (one : Option Entry) → is_of p x.reading ≡ false → State p fed (x ∷ later) one
    → State p (x ∷ fed) later one
past p fed x later one f (closed n) = closed (cut_past p fed x later f ∙ n)
past p fed x later one f (opened e t line c) = opened e t line (cut_past p fed x later f ∙ c)

-- a whole line comes
comes_fit : (p : ℕ) (fed : List ReadText) (x : ReadText) (later : List ReadText) (e : Entry) (steps : List Step) (one : Option Entry)
    → HasReading x.line.text x.reading → WholeParts fed x later → IsEntry x.line.number false x.line.text e → FitsBehind p (x ∷ fed) later steps
    → State p fed (x ∷ later) one → ((is_of p x.reading) ≡ true) ⊎ ((is_of p x.reading) ≡ false) → HasCalls p one (Comes e ∷ steps)
comes_fit p fed x later e steps one h parts is behind (closed n) (inl t) =
    let r = behind None (closed (parts p t).1) in (own p e ++ r.0, fits_comes r.1)
comes_fit p fed x later e steps one h parts is behind (closed n) (inr f) =
    let r = behind None (past p fed x later None f (closed n)) in (own p e ++ r.0, fits_comes r.1)
comes_fit p fed x later e steps one h parts is behind (opened y u line c) (inl t) =
    absurd (none_some (cut_call p fed (x ∷ later)) line (parts p t).0 c)
comes_fit p fed x later e steps one h parts is behind (opened y u line c) (inr f) =
    let r = behind (Some y) (past p fed x later (Some y) f (opened y u line c)) in
    (r.0, fits_between (quiet_own p x.line.number x.line.text x.reading e h f is) r.1)

-- the process of a first half is that of its entry
begun_process : (fed : List ReadText) (x : ReadText) (later : List ReadText) (number : ℕ) (line : List ℕ) (e : Entry) → HasReading x.line.text x.reading
    → (parts : FrontParts fed x later line) → IsEntry number true line e → e.process ≡ parts.process
begun_process fed x later number line e h parts is =
    let s = subst (HasReading x.line.text) parts.is h in
    let j = joined_cut parts.process parts.name x.line.text parts.second.line.text line parts.from parts.to parts.behind s parts.joins in
    (cut_same line e.process parts.process is.body j.0 is.process_is j.1).0

-- a call begins
begins_fit : (p : ℕ) (fed : List ReadText) (x : ReadText) (later : List ReadText) (line : List ℕ) (e : Entry) (steps : List Step) (one : Option Entry)
    → (parts : FrontParts fed x later line) → e.process ≡ parts.process → FitsBehind p (x ∷ fed) later steps → State p fed (x ∷ later) one
    → ((is_of p x.reading) ≡ true) ⊎ ((is_of p x.reading) ≡ false) → HasCalls p one (Begins e ∷ steps)
begins_fit p fed x later line e steps one parts own behind state (inr f) =
    let r = behind one (past p fed x later one f state) in
    let n : (e.process == p) ≡ false = elim (bool_cases (e.process == p)) [
      | inl t ↦
          let of : is_of e.process x.reading ≡ true = ap (is_of e.process) parts.is ∙ eq-eqb parts.process e.process (sym own) in
          absurd (true_false (sym of ∙ ap (λ (q : ℕ). is_of q x.reading) (eqb-true e.process p t) ∙ f))
      | inr n ↦ n
    ] in
    (r.0, fits_other_begins n r.1)
begins_fit p fed x later line e steps one parts own behind (closed n) (inl t) =
    let same : parts.process ≡ p =
    of_one parts.process p x.reading (ap (is_of parts.process) parts.is ∙ self_is parts.process) t in
    let mine : (e.process == p) ≡ true = eq-eqb e.process p (own ∙ same) in
    let r = behind (Some e) (opened e mine line (subst (λ (q : ℕ). cut_call q (x ∷ fed) later ≡ Some line) same parts.cut)) in
    (r.0, fits_begins mine r.1)
begins_fit p fed x later line e steps one parts own behind (opened y u other c) (inl t) =
    absurd (none_some (cut_call p fed (x ∷ later)) other (none_closed p fed x later t (subst IsNoSecond (sym parts.is) tt)) c)

-- a call ends
ends_fit : (p : ℕ) (fed : List ReadText) (x : ReadText) (later : List ReadText) (q r : ℕ) (steps : List Step) (one : Option Entry)
    → BackParts fed x later q → r ≡ q → FitsBehind p (x ∷ fed) later steps → State p fed (x ∷ later) one
    → ((is_of p x.reading) ≡ true) ⊎ ((is_of p x.reading) ≡ false) → HasCalls p one (Ends r ∷ steps)
ends_fit p fed x later q r steps one parts e behind state (inr f) =
    let k = behind one (past p fed x later one f state) in
    let n : (r == p) ≡ false = elim (bool_cases (r == p)) [
      | inl t ↦ absurd (true_false (sym parts.of ∙ ap (λ (z : ℕ). is_of z x.reading) (sym e ∙ eqb-true r p t) ∙ f))
      | inr n ↦ n
    ] in
    (k.0, fits_other_ends n k.1)
ends_fit p fed x later q r steps one parts e behind (closed n) (inl t) =
    let same : q ≡ p = of_one q p x.reading parts.of t in
    absurd (none_some (cut_call p fed (x ∷ later)) parts.line n (subst (λ (z : ℕ). cut_call z fed (x ∷ later) ≡ Some parts.line) same parts.cut))
ends_fit p fed x later q r steps one parts e behind (opened y u line c) (inl t) =
    let same : q ≡ p = of_one q p x.reading parts.of t in
    let k = behind None (closed (subst (λ (z : ℕ). cut_call z (x ∷ fed) later ≡ None) same parts.none)) in
    (own p y ++ k.0, subst (λ (z : ℕ). Fits p (Some y) (Ends z ∷ steps) (own p y ++ k.0)) (sym (e ∙ same)) (fits_ends k.1))

-- each step does
step_fit : (p : ℕ) (fed : List ReadText) (x : ReadText) (later : List ReadText) (o : Part) (step : Step) (steps : List Step)
    → HasReading x.line.text x.reading → HasPart fed x later o → IsDone x.line o step → FitsBehind p (x ∷ fed) later steps
    → FitsBehind p fed (x ∷ later) (step ∷ steps)
step_fit p fed x later Whole (Comes e) steps h parts is behind one state =
    comes_fit p fed x later e steps one h parts is behind state (bool_cases (is_of p x.reading))
step_fit p fed x later (Front line) (Begins e) steps h parts is behind one state =
    begins_fit p fed x later line e steps one parts (begun_process fed x later x.line.number line e h parts is) behind state (bool_cases (is_of p x.reading))
step_fit p fed x later (Back q) (Ends r) steps h parts is behind one state =
    ends_fit p fed x later q r steps one parts is behind state (bool_cases (is_of p x.reading))
step_fit p fed x later o step steps h parts is behind one state = absurd is

steps_fit : (p : ℕ) (fed : List ReadText) (lines : List Numbered) (texts : List ReadText) (steps : List Step) → Each IsReadText lines texts
    → AreSteps fed texts [] steps → FitsBehind p fed (texts ++ []) steps
steps_fit p fed [] [] [] reads are one (closed n) = ([], fits_end)
steps_fit p fed [] [] [] reads are one (opened x t line c) = absurd (none_some (cut_call p fed []) line (none_last p fed) c)
steps_fit p fed (line ∷ lines) (text ∷ texts) (step ∷ steps) reads are one state =
    let later = texts ++ [] in
    step_fit p fed text later (part fed text later text.reading) step steps (reading_of line text reads.0) (parts_of fed text later) are.0
    (steps_fit p (text ∷ fed) lines texts steps reads.1 are.1) one state
steps_fit p fed [] [] steps reads are one state = absurd are
steps_fit p fed (line ∷ lines) (text ∷ texts) steps reads are one state = absurd are
steps_fit p fed lines texts steps reads are one state = absurd reads

-- each process keeps its order
pub orders_kept : KeepsOrders
orders_kept lines texts steps reads are frees other p =
    let r = steps_fit p [] lines texts steps reads are None (closed refl) in
    order_fits p frees None [] steps [] r.0 r.1 (holds_none tt) ∙ sym (order_fits p other None [] steps [] r.0 r.1 (holds_none tt))
