-- A log has one fault at most: the first line in the order that may not be written is one, for one cause.
use Rattle.std.proofs.Common.{◌≡◌, ℕ, List, [], ◌∷◌, ◌++◌, Bool, Option, Some, None, refl, sym, ap, subst, ◌∙◌, append_assoc, inl, inr, arith}
use Rattle.std.proofs.lemmas.List.{append-nil}
use Rattle.raw_logs.specs.Log.{Numbered, Each}
use Rattle.raw_logs.proofs.OneLog.{texts_one, unknown_one, log_fault_one, texts_no_fault}
use Rattle.raw_trace.specs.declared.fault.Cause.{Cause}
use Rattle.raw_trace.specs.declared.fault.Trouble.{Trouble}
use Rattle.raw_trace.specs.declared.fault.Fault.{Fault}
use Rattle.raw_trace.specs.declared.fault.Fault.TheVariants.{Unreadable, LongLine, NoProcess, Memory}
use Rattle.raw_trace.specs.Order.{Entry, Step, frees_for, does, order}
use Rattle.raw_trace.specs.Places.{ReadText, IsReadText, IsStep, AreSteps}
use Rattle.raw_trace.specs.Faults.{of_log, IsEntryFault, IsFirstFault, Stops, unknown_at, earlier_of, asked_unknown, IsTextsFault}
use Rattle.raw_trace.specs.Laws.{HasOneFault}
use Rattle.raw_trace.specs.Stages.{MayBeWritten, EachEntry}
use Rattle.raw_trace.proofs.OneWay.{steps_one}
use Rattle.raw_trace.proofs.ReadTexts.{reads_one}

-- ---- the fault of a line

abbrev trouble_column : Option Trouble → ℕ
trouble_column None = 0
trouble_column (Some t) = t.column

abbrev trouble_cause : Cause → Option Trouble → Cause
trouble_cause w None = w
trouble_cause w (Some t) = t.cause

-- a line has one fault
entry_fault_one : (strict : Bool) (e : Entry) (a b : Fault) → IsEntryFault strict e a → IsEntryFault strict e b → a ≡ b
entry_fault_one strict e (LongLine n) (LongLine m) h g = ap (λ (x : ℕ). LongLine x) (h.1 ∙ sym g.1)
entry_fault_one strict e (LongLine n) (Unreadable m d v) h g = absurd (omega (arith, h.0, g.1))
entry_fault_one strict e (Unreadable n c w) (LongLine m) h g = absurd (omega (arith, h.1, g.0))
entry_fault_one strict e (Unreadable n c w) (Unreadable m d v) h g =
    let k : ◌≡◌ {A = Option Trouble} (Some (record { column = c; cause = w })) (Some (record { column = d; cause = v })) = sym h.3 ∙ g.3 in
    let l : n ≡ m = h.2 ∙ sym g.2 in
    let p : c ≡ d = ap trouble_column k in
    let q : w ≡ v = ap (trouble_cause w) k in
    λ i. Unreadable (l i) (p i) (q i)
entry_fault_one strict e NoProcess b h g = absurd h
entry_fault_one strict e Memory b h g = absurd h
entry_fault_one strict e a b h g = absurd g

-- ---- the first fault of lines

first_one : (strict : Bool) (entries : List Entry) (a b : Fault) → IsFirstFault strict entries a → IsFirstFault strict entries b → a ≡ b
first_one strict [] a b h g = absurd h
first_one strict (e ∷ entries) a b (inl h) (inl g) = entry_fault_one strict e a b h g
first_one strict (e ∷ entries) a b (inl h) (inr g) = absurd (g.0 a h)
first_one strict (e ∷ entries) a b (inr h) (inl g) = absurd (h.0 b g)
first_one strict (e ∷ entries) a b (inr h) (inr g) = first_one strict entries a b h.1 g.1

pub first_more : (strict : Bool) (a b : List Entry) (fault : Fault) → IsFirstFault strict a fault → IsFirstFault strict (a ++ b) fault
first_more strict [] b fault h = absurd h
first_more strict (e ∷ a) b fault (inl h) = inl h
first_more strict (e ∷ a) b fault (inr h) = inr (h.0, first_more strict a b fault h.1)

-- behind lines that may be written
pub first_behind : (strict : Bool) (a b : List Entry) (fault : Fault) → EachEntry (MayBeWritten strict) a → IsFirstFault strict b fault
    → IsFirstFault strict (a ++ b) fault
first_behind strict [] b fault may h = h
first_behind strict (e ∷ a) b fault may h = inr (may.0, first_behind strict a b fault may.1 h)

none_first : (strict : Bool) (entries : List Entry) (fault : Fault) → EachEntry (MayBeWritten strict) entries → IsFirstFault strict entries fault → ⊥
none_first strict [] fault may h = h
none_first strict (e ∷ entries) fault may (inl h) = may.0 fault h
none_first strict (e ∷ entries) fault may (inr h) = none_first strict entries fault may.1 h.1

-- ---- the first of the texts

-- the steps of texts begin with those of the first
record Begun (fed a later : List ReadText) (steps : List Step) : Type 0 where
  -- those of the first
  pub front : List Step
  -- the others
  pub back : List Step
  -- these are all
  pub parts : steps ≡ front ++ back
  -- they are
  pub are : AreSteps fed a later front

steps_front : (fed a b later : List ReadText) (steps : List Step) → AreSteps fed (a ++ b) later steps → Begun fed a (b ++ later) steps
steps_front fed [] b later steps h = record { front = []; back = steps; parts = refl; are = tt }
steps_front fed (x ∷ a) b later [] h = absurd h
steps_front fed (x ∷ a) b later (s ∷ steps) h =
    let r = steps_front (x ∷ fed) a b later steps h.1 in
    record {
      front = s ∷ r.front;
      back = r.back;
      parts = ap (λ (z : List Step). s ∷ z) r.parts;
      are = (subst (λ (z : List ReadText). IsStep fed x z s) (append_assoc a b later) h.0, r.are);
    }

-- the order of the first steps begins that of all
order_front : (f : Entry → Entry → Bool) (ws : List Entry) (a b : List Step) → (more : List Entry) × (order f ws (a ++ b) ≡ order f ws a ++ more)
order_front f ws [] b = (order f ws b, refl)
order_front f ws (s ∷ a) b =
    let found = does f s ws in
    let r = order_front f found.waiting a b in
    (r.0, ap (λ (z : List Entry). found.lines ++ z) r.1 ∙ sym (append_assoc found.lines (order f found.waiting a) r.0))

-- of two beginnings of one list one is longer
data Beginnings (a b c d : List ReadText) : Type 0 where
  second_longer : (m : List ReadText) → c ≡ a ++ m → b ≡ m ++ d → Beginnings a b c d
  first_longer : (m : List ReadText) → a ≡ c ++ m → d ≡ m ++ b → Beginnings a b c d

beginnings : (a b c d : List ReadText) → a ++ b ≡ c ++ d → Beginnings a b c d
beginnings [] b c d e = second_longer c refl e
beginnings (x ∷ a) b [] d e = first_longer (x ∷ a) refl (sym e)
beginnings (x ∷ a) b (y ∷ c) d e =
    let k : x ≡ y = cc in
    let l : a ++ b ≡ c ++ d = cc in
    more k (beginnings a b c d l)
  where
    more : x ≡ y → Beginnings a b c d → Beginnings (x ∷ a) b (y ∷ c) d
    more k (second_longer m p q) = second_longer m (λ i. sym k i ∷ p i) q
    more k (first_longer m p q) = first_longer m (λ i. k i ∷ p i) q

-- what stops the writing of the first texts stops that of more
stops_longer : (strict : Bool) (a m later : List ReadText) (front steps : List Step) (fault : Fault) → AreSteps [] a (m ++ later) front
    → AreSteps [] (a ++ m) later steps → IsFirstFault strict (order frees_for [] front) fault → IsFirstFault strict (order frees_for [] steps) fault
stops_longer strict a m later front steps fault hf hs first =
    let r = steps_front [] a m later steps hs in
    let same = steps_one [] a (m ++ later) front r.front hf r.are in
    let o = order_front frees_for [] r.front r.back in
    subst (λ (x : List Entry). IsFirstFault strict x fault) (sym (ap (λ (x : List Step). order frees_for [] x) r.parts ∙ o.1))
    (first_more strict (order frees_for [] r.front) o.0 fault
    (subst (λ (x : List Step). IsFirstFault strict (order frees_for [] x) fault) same first))

stops_one : (strict : Bool) (lines : List Numbered) (a b : Fault) → Stops strict lines a → Stops strict lines b → a ≡ b
stops_one strict lines a b h g = by (beginnings h.fed h.later g.fed g.later (reads_one lines (h.fed ++ h.later) (g.fed ++ g.later) h.reads g.reads))
  where
    by : Beginnings h.fed h.later g.fed g.later → a ≡ b
    by (second_longer m p q) =
        let hf : AreSteps [] h.fed (m ++ g.later) h.steps = subst (λ (x : List ReadText). AreSteps [] h.fed x h.steps) q h.are in
        let gs : AreSteps [] (h.fed ++ m) g.later g.steps = subst (λ (x : List ReadText). AreSteps [] x g.later g.steps) p g.are in
        first_one strict (order frees_for [] g.steps) a b (stops_longer strict h.fed m g.later h.steps g.steps a hf gs h.first) g.first
    by (first_longer m p q) =
        let gf : AreSteps [] g.fed (m ++ h.later) g.steps = subst (λ (x : List ReadText). AreSteps [] g.fed x g.steps) q g.are in
        let hs : AreSteps [] (g.fed ++ m) h.later h.steps = subst (λ (x : List ReadText). AreSteps [] x h.later h.steps) p h.are in
        first_one strict (order frees_for [] h.steps) a b h.first (stops_longer strict g.fed m h.later g.steps h.steps b gf hs g.first)

-- where each line of a log may be written, the writing stops nowhere
pub never_stops : (strict : Bool) (lines : List Numbered) (texts : List ReadText) (steps : List Step) → Each IsReadText lines texts → AreSteps [] texts [] steps
    → EachEntry (MayBeWritten strict) (order frees_for [] steps) → (fault : Fault) → Stops strict lines fault → ⊥
never_stops strict lines texts steps reads are may fault h =
    let whole : AreSteps [] (h.fed ++ h.later) [] steps =
    subst (λ (x : List ReadText). AreSteps [] x [] steps) (reads_one lines texts (h.fed ++ h.later) reads h.reads) are in
    let front : AreSteps [] h.fed (h.later ++ []) h.steps =
    subst (λ (x : List ReadText). AreSteps [] h.fed x h.steps) (sym (append-nil h.later)) h.are in
    none_first strict (order frees_for [] steps) fault may (stops_longer strict h.fed h.later [] h.steps steps fault front whole h.first)

-- ---- the whole

-- texts that aren't written have one fault
texts_fault_one : (strict : Bool) (texts : List Numbered) (unknown : Option ℕ) (a b : Fault) → IsTextsFault strict texts unknown a
    → IsTextsFault strict texts unknown b → a ≡ b
texts_fault_one strict texts unknown a b (inl h) (inl g) = h.2 ∙ ap (earlier_of unknown) (stops_one strict texts h.0 g.0 h.1 g.1) ∙ sym g.2
texts_fault_one strict texts unknown a b (inl h) (inr g) = absurd (g.0 h.0 h.1)
texts_fault_one strict texts unknown a b (inr h) (inl g) = absurd (h.0 g.0 g.1)
texts_fault_one strict texts unknown a b (inr h) (inr g) =
    let k : ◌≡◌ {A = Option ℕ} (Some h.1) (Some g.1) = sym h.2 ∙ g.2 in
    let n : h.1 ≡ g.1 = cc in
    h.3 ∙ ap unknown_at n ∙ sym g.3

-- a log has one fault
pub fault_one : HasOneFault
fault_one process strict bytes a b (inl h) (inl g) = h.2 ∙ ap of_log (log_fault_one process bytes h.0 g.0 h.1 g.1) ∙ sym g.2
fault_one process strict bytes a b (inl h) (inr g) = absurd (texts_no_fault process bytes g.0 g.1 h.0 g.3 h.1)
fault_one process strict bytes a b (inr h) (inl g) = absurd (texts_no_fault process bytes h.0 h.1 g.0 h.3 g.1)
fault_one process strict bytes a b (inr h) (inr g) =
    let s = (texts_one process bytes h.0 g.0 h.1 g.1 h.3 g.3).0 in
    let u = unknown_one process bytes h.2 g.2 h.4 g.4 in
    let there : IsTextsFault strict g.0 (asked_unknown strict g.2) a =
    subst (λ (x : List Numbered). IsTextsFault strict x (asked_unknown strict g.2) a) s
    (subst (λ (x : Option ℕ). IsTextsFault strict h.0 (asked_unknown strict x) a) u h.5) in
    texts_fault_one strict g.0 (asked_unknown strict g.2) a b there g.5
