-- A log is rewritten in one way: each text does one step, and becomes one line.
use Rattle.std.proofs.Common.{◌≡◌, ℕ, List, [], ◌∷◌, ◌++◌, Bool, true, false, Option, Some, None, refl, sym, ap, subst, ◌∙◌, inl, inr, arith}
use Rattle.strace_reader.specs.declared.item.Item.TheVariants.{Played, Resumed}
use Rattle.strace_reader.proofs.OneOutcome.{one_outcome}
use Rattle.strace_reader.proofs.FormFacts.{cut_same}
use Rattle.raw_lines.proofs.MendFacts.{all_mends_same}
use Rattle.raw_logs.specs.declared.counts.Counts.{Counts}
use Rattle.raw_logs.specs.Log.{Numbered, Each}
use Rattle.raw_logs.proofs.OneLog.{texts_one}
use Rattle.raw_trace.specs.declared.calls.ReadCall.{ReadCall}
use Rattle.line_parts.specs.declared.refusal.What.{What}
use Rattle.strace_reader.specs.declared.item.BadCall.{BadCall}
use Rattle.strace_reader.specs.Grammar.{Refuses}
use Rattle.raw_trace.specs.declared.fault.Cause.{Cause}
use Rattle.raw_trace.specs.declared.fault.Cause.TheVariants.{Form, Alone, Unclear, OtherForm, Unknown}
use Rattle.raw_trace.specs.declared.fault.Trouble.{Trouble}
use Rattle.raw_trace.specs.declared.settling.Ending.{Ending}
use Rattle.raw_trace.specs.Order.{Entry, Step, Begins, Ends, Comes, frees_for, order}
use Rattle.raw_trace.specs.Places.{Becomes, IsUndone, becomes_itself, becomes_mended, becomes_unreturned, becomes_undone, becomes_unread}
use Rattle.raw_trace.specs.Places.{ReadText, IsReadText, Part, Whole, Front, Back, part, IsReadAs, IsCauseAt, IsTrouble, IsEntry, IsDone, AreSteps}
use Rattle.raw_trace.specs.Rewriting.{text_of, lines_as, counted_all, no_calls, calls_after, shown_all}
use Rattle.raw_trace.specs.Laws.{HasOneRewriting}
use Rattle.raw_trace.proofs.ReadTexts.{reads_one}
use Rattle.raw_trace.proofs.GoodLines.{half_not_good, refused_not_good, refused_no_half, good_stays, refused_stays, half_stays, shown_one, undone_one}

-- ---- what a line becomes

-- a line and an ending are the same
abbrev pub SameEnd : List ℕ → List ℕ → Ending → Ending → Type 0
SameEnd a b e f = (a ≡ b) × (e ≡ f)

-- a line becomes one line
pub becomes_one : (line a b : List ℕ) (e f : Ending) → Becomes line a e → Becomes line b f → SameEnd a b e f
becomes_one line a b e f (becomes_itself h) (becomes_itself g) = (refl, refl)
becomes_one line a b e f (becomes_itself h) (becomes_mended bad r short m g) = absurd (refused_not_good line bad r h)
becomes_one line a b e f (becomes_itself h) (becomes_unreturned g) = absurd (half_not_good line g h)
becomes_one line a b e f (becomes_itself h) (becomes_undone l) = absurd (good_stays line h f l)
becomes_one line a b e f (becomes_itself h) (becomes_unread never half left none) = absurd (never h)
becomes_one line a b e f (becomes_mended bad r short m g) (becomes_itself h) = absurd (refused_not_good line bad r h)
becomes_one line a b e f (becomes_mended bad r short m g) (becomes_mended worse q small n h) = (all_mends_same 3 line a b m.0 n.0, refl)
becomes_one line a b e f (becomes_mended bad r short m g) (becomes_unreturned h) = absurd (refused_no_half line bad r h)
becomes_one line a b e f (becomes_mended bad r short m g) (becomes_undone l) =
    absurd (refused_stays line bad r (λ other n why u. g.1.1 why (subst (λ (x : List ℕ). IsUndone x why) (all_mends_same 3 line other a n.0 m.0) u)) f l)
becomes_one line a b e f (becomes_mended bad r short m g) (becomes_unread never half left none) = absurd (none bad a r short m g)
becomes_one line a b e f (becomes_unreturned h) (becomes_itself g) = absurd (half_not_good line h g)
becomes_one line a b e f (becomes_unreturned h) (becomes_mended bad r short m g) = absurd (refused_no_half line bad r h)
becomes_one line a b e f (becomes_unreturned h) (becomes_unreturned g) = (refl, refl)
becomes_one line a b e f (becomes_unreturned h) (becomes_undone l) = absurd (half_stays line h f l)
becomes_one line a b e f (becomes_unreturned h) (becomes_unread never half left none) = absurd (half h)
becomes_one line a b e f (becomes_undone l) (becomes_itself h) = absurd (good_stays line h e l)
becomes_one line a b e f (becomes_undone l) (becomes_mended bad r short m g) =
    absurd (refused_stays line bad r (λ other n why u. g.1.1 why (subst (λ (x : List ℕ). IsUndone x why) (all_mends_same 3 line other b n.0 m.0) u)) e l)
becomes_one line a b e f (becomes_undone l) (becomes_unreturned h) = absurd (half_stays line h e l)
becomes_one line a b e f (becomes_undone l) (becomes_undone k) =
    (refl, undone_one k.0 e f (subst (λ (x : List ℕ). IsUndone x e) (shown_one line l.0 k.0 e f l.1 l.2 k.1 k.2) l.2) k.2)
becomes_one line a b e f (becomes_undone l) (becomes_unread never half left none) = absurd (left e l)
becomes_one line a b e f (becomes_unread never half left none) (becomes_itself g) = absurd (never g)
becomes_one line a b e f (becomes_unread never half left none) (becomes_mended bad r short m g) = absurd (none bad b r short m g)
becomes_one line a b e f (becomes_unread never half left none) (becomes_unreturned g) = absurd (half g)
becomes_one line a b e f (becomes_unread never half left none) (becomes_undone l) = absurd (left f l)
becomes_one line a b e f (becomes_unread never half left none) (becomes_unread not alone out nothing) = (refl, refl)

-- a line is read as one call at most
pub read_one : (line : List ℕ) (a b : Option ReadCall) → IsReadAs line a → IsReadAs line b → a ≡ b
read_one line None None h g = refl
read_one line None (Some c) h g = absurd (h c.pid c.call c.recorded g)
read_one line (Some c) None h g = absurd (g c.pid c.call c.recorded h)
read_one line (Some c) (Some d) h g =
    let e = (one_outcome line).item (Played c.pid c.call c.recorded) (Played d.pid d.call d.recorded) h g in
    let p : c.pid ≡ d.pid = cc in
    let q : c.call ≡ d.call = cc in
    let r : c.recorded ≡ d.recorded = cc in
    λ i. Some (record { pid = p i; call = q i; recorded = r i })

-- a column and a cause are the same
abbrev SameCause : ℕ → ℕ → Cause → Cause → Type 0
SameCause c d w v = (c ≡ d) × (w ≡ v)

form_same : (line : List ℕ) (c d : ℕ) (w v : What) → Refuses line (record { column = c; what = w }) → Refuses line (record { column = d; what = v })
    → SameCause c d (Form w) (Form v)
form_same line c d w v h g =
    let e = (one_outcome line).refusal (record { column = c; what = w }) (record { column = d; what = v }) h g in
    (ap (λ (b : BadCall). b.column) e, ap (λ (b : BadCall). Form b.what) e)

-- a line can't be read for one cause
pub cause_one : (line : List ℕ) (c d : ℕ) (w v : Cause) → IsCauseAt line c w → IsCauseAt line d v → SameCause c d w v
cause_one line c d (Form w) (Form v) h g = form_same line c d w v h g
cause_one line c d (Form w) Alone h g = absurd ((one_outcome line).never_both (Resumed g.1 g.2 g.3) (record { column = c; what = w }) g.4 h)
cause_one line c d (Form w) Unclear h g = absurd (g.1 (record { column = c; what = w }) h)
cause_one line c d Alone (Form v) h g = absurd ((one_outcome line).never_both (Resumed h.1 h.2 h.3) (record { column = d; what = v }) h.4 g)
cause_one line c d Alone Alone h g = (h.0 ∙ sym g.0, refl)
cause_one line c d Alone Unclear h g = absurd (g.2 h.1 h.2 h.3 h.4)
cause_one line c d Unclear (Form v) h g = absurd (h.1 (record { column = d; what = v }) g)
cause_one line c d Unclear Alone h g = absurd (h.2 g.1 g.2 g.3 g.4)
cause_one line c d Unclear Unclear h g = (h.0 ∙ sym g.0, refl)
cause_one line c d OtherForm v h g = absurd h
cause_one line c d Unknown v h g = absurd h
cause_one line c d w v h g = absurd g

-- a line has one trouble
trouble_one : (line written : List ℕ) (ending : Ending) (a b : Option Trouble) → IsTrouble line written ending a → IsTrouble line written ending b → a ≡ b
trouble_one line written ending None None h g = refl
trouble_one line written ending None (Some t) h (inl g) = absurd (omega (arith, h.0 g.0, g.1))
trouble_one line written ending None (Some t) h (inr g) = absurd (h.1 g.0 g.1)
trouble_one line written ending (Some t) None (inl h) g = absurd (omega (arith, g.0 h.0, h.1))
trouble_one line written ending (Some t) None (inr h) g = absurd (g.1 h.0 h.1)
trouble_one line written ending (Some t) (Some u) (inl h) (inl g) =
    let s = cause_one line t.column u.column t.cause u.cause h.2 g.2 in
    λ i. Some (record { column = s.0 i; cause = s.1 i })
trouble_one line written ending (Some t) (Some u) (inl h) (inr g) = absurd (g.0 h.0)
trouble_one line written ending (Some t) (Some u) (inr h) (inl g) = absurd (h.0 g.0)
trouble_one line written ending (Some t) (Some u) (inr h) (inr g) = ap (λ (x : Trouble). Some x) (h.2 ∙ sym g.2)

-- a line has one entry
pub entry_one : (number : ℕ) (joined : Bool) (line : List ℕ) (a b : Entry) → IsEntry number joined line a → IsEntry number joined line b → a ≡ b
entry_one number joined line a b h g =
    let n : a.number ≡ b.number = h.number_is ∙ sym g.number_is in
    let j : a.joined ≡ b.joined = h.joined_is ∙ sym g.joined_is in
    let p : a.process ≡ b.process = (cut_same line a.process b.process h.body g.body h.process_is g.process_is).0 in
    let s = becomes_one line a.line b.line a.ending b.ending h.becomes g.becomes in
    let l : a.line ≡ b.line = s.0 in
    let e : a.ending ≡ b.ending = s.1 in
    let f : a.trouble ≡ b.trouble = trouble_one line b.line b.ending a.trouble b.trouble
    (subst (λ (x : List ℕ). IsTrouble line x b.ending a.trouble) l (subst (λ (x : Ending). IsTrouble line a.line x a.trouble) e h.troubled)) g.troubled in
    let c : a.call ≡ b.call = read_one b.line a.call b.call (subst (λ (x : List ℕ). IsReadAs x a.call) l h.read) g.read in
    λ i. record { number = n i; process = p i; line = l i; ending = e i; joined = j i; trouble = f i; call = c i }

-- ---- what texts do

-- a part does one step
done_one : (line : Numbered) (one : Part) (a b : Step) → IsDone line one a → IsDone line one b → a ≡ b
done_one line Whole (Comes a) (Comes b) h g = ap (λ (x : Entry). Comes x) (entry_one line.number false line.text a b h g)
done_one line Whole (Comes a) b h g = absurd g
done_one line (Front joined) (Begins a) (Begins b) h g = ap (λ (x : Entry). Begins x) (entry_one line.number true joined a b h g)
done_one line (Front joined) (Begins a) b h g = absurd g
done_one line (Back p) (Ends a) (Ends b) h g = ap (λ (x : ℕ). Ends x) (h ∙ sym g)
done_one line (Back p) (Ends a) b h g = absurd g
done_one line one a b h g = absurd h

-- and so do texts
pub steps_one : (fed texts later : List ReadText) (a b : List Step) → AreSteps fed texts later a → AreSteps fed texts later b → a ≡ b
steps_one fed [] later [] [] h g = refl
steps_one fed (text ∷ texts) later (x ∷ a) (y ∷ b) h g =
    let s = done_one text.line (part fed text (texts ++ later) text.reading) x y h.0 g.0 in
    let r = steps_one (text ∷ fed) texts later a b h.1 g.1 in
    λ i. s i ∷ r i
steps_one fed [] later [] b h g = absurd g
steps_one fed (text ∷ texts) later (x ∷ a) b h g = absurd g
steps_one fed texts later a b h g = absurd h

-- ---- the whole

-- a log has one rewriting
pub rewriting_one : HasOneRewriting
rewriting_one process bytes out other m n c d h g =
    let s = texts_one process bytes h.chosen g.chosen h.before g.before h.texts g.texts in
    let t = reads_one g.chosen h.read g.read (subst (λ (x : List Numbered). Each IsReadText x h.read) s.0 h.reads) g.reads in
    let r = steps_one [] g.read [] h.steps g.steps (subst (λ (x : List ReadText). AreSteps [] x [] h.steps) t h.are) g.are in
    let o = ap (λ (x : List Step). order frees_for [] x) r in (
      h.bytes_of ∙ ap (λ (x : List Entry). text_of (lines_as (shown_all no_calls x))) o ∙ sym g.bytes_of,
      h.sum ∙ ap (λ (x : Counts). counted_all x (order frees_for [] h.steps)) s.1 ∙ ap (λ (x : List Entry). counted_all g.before x) o ∙ sym g.sum,
      h.number ∙ ap (λ (x : List Entry). calls_after no_calls x) o ∙ sym g.number,
    )
