-- Each process keeps the order of its calls: between the halves of one nothing of it is written, so it doesn't matter
-- where between them the call stands.
use Rattle.std.proofs.Common.{◌≡◌, ℕ, Bool, true, false, List, [], ◌∷◌, ◌++◌, Option, Some, None, refl, sym, ap, subst, ◌∙◌, append_assoc, inl, inr, arith}
use Rattle.std.specs.Prelude.{◌==◌}
use Rattle.std.proofs.lemmas.List.{append-nil}
use Rattle.std.proofs.lemmas.Bool.Decides.{eqb_tells}
use Rattle.raw_trace.specs.declared.calls.ReadCall.{ReadCall}
use Rattle.std.specs.Prelude.{if◌then◌else◌}
use Rattle.std.specs.declared.cmp.Ordering.{Ordering}
use Rattle.std.specs.Ordering.{match_ordering}
use Rattle.std.specs.declared.cmp.Ordering.TheVariants.{Less, Equal, Greater}
use Rattle.raw_trace.specs.Order.{Entry, Step, Begins, Ends, Comes, pick, stand, pair_cmp, put, of_others, turns, write_entry, order}
use Rattle.raw_trace.proofs.Waits.{pair_exact}
use Rattle.raw_trace.specs.Laws.{of_process}
use Rattle.raw_trace.proofs.OwnCalls.{own, none_picked, one_picked, Apart, OneOf, of_both, own_apart, apart_both, Picks, picks_one, picks_none, picks}
use Rattle.raw_trace.proofs.OwnCalls.{IsPickedOf, is_it, is_other, picked_of, due_apart, WroteOne, waits_still, was_written, due_one}

-- ---- steps that fit

-- Of a process one call at most has begun and hasn't ended, and nothing of it comes meanwhile. The list has its calls,
-- each at its end.
pub data Fits (p : ℕ) : Option Entry → List Step → List ReadCall → Type 0 where
  fits_end : Fits p None [] []
  fits_comes : {entry : Entry} {steps : List Step} {calls : List ReadCall} → Fits p None steps calls
      → Fits p None (Comes entry ∷ steps) (own p entry ++ calls)
  fits_between : {one entry : Entry} {steps : List Step} {calls : List ReadCall} → own p entry ≡ [] → Fits p (Some one) steps calls
      → Fits p (Some one) (Comes entry ∷ steps) calls
  fits_begins : {entry : Entry} {steps : List Step} {calls : List ReadCall} → (entry.process == p) ≡ true → Fits p (Some entry) steps calls
      → Fits p None (Begins entry ∷ steps) calls
  fits_other_begins : {one : Option Entry} {entry : Entry} {steps : List Step} {calls : List ReadCall} → (entry.process == p) ≡ false
      → Fits p one steps calls → Fits p one (Begins entry ∷ steps) calls
  fits_ends : {entry : Entry} {steps : List Step} {calls : List ReadCall} → Fits p None steps calls
      → Fits p (Some entry) (Ends p ∷ steps) (own p entry ++ calls)
  fits_other_ends : {one : Option Entry} {q : ℕ} {steps : List Step} {calls : List ReadCall} → (q == p) ≡ false → Fits p one steps calls
      → Fits p one (Ends q ∷ steps) calls

-- where the call of the process is that has begun: it waits, or it was written
pub data Holds (p : ℕ) : Option Entry → List Entry → List ReadCall → Type 0 where
  holds_none : {ws : List Entry} → Apart p ws → Holds p None ws []
  holds_waiting : {ws : List Entry} {one : Entry} → (one.process == p) ≡ true → OneOf p one ws → Holds p (Some one) ws []
  holds_gone : {ws : List Entry} {one : Entry} → Apart p ws → Holds p (Some one) ws (own p one)

-- ---- the calls of the process in the order

-- a line that has no call of the process
wrote_beside : (p : ℕ) (f : Entry → Entry → Bool) (one : Option Entry) (entry : Entry) (ws : List Entry) (ahead : List ReadCall) → own p entry ≡ []
    → Holds p one ws ahead → (more : List ReadCall) × (ahead ++ of_process p (write_entry f entry ws).lines ≡ more)
    × Holds p one (write_entry f entry ws).waiting more
wrote_beside p f one entry ws ahead n (holds_none h) =
    let r = due_apart p (turns (entry ∷ []) ws) f (entry ∷ []) ws (omega arith) h in
    ([], r.calls ∙ append-nil (own p entry) ∙ n, holds_none r.waits)
wrote_beside p f one entry ws ahead n (holds_gone {one = x} h) =
    let r = due_apart p (turns (entry ∷ []) ws) f (entry ∷ []) ws (omega arith) h in
    (own p x, ap (λ (z : List ReadCall). own p x ++ z) (r.calls ∙ append-nil (own p entry) ∙ n) ∙ append-nil (own p x), holds_gone r.waits)
wrote_beside p f one entry ws ahead n (holds_waiting {one = x} t h) =
    by (due_one p (turns (entry ∷ []) ws) f x (entry ∷ []) ws (omega arith) (n, tt) h)
  where
    by : WroteOne p x (write_entry f entry ws) → (more : List ReadCall) × (of_process p (write_entry f entry ws).lines ≡ more)
        × Holds p (Some x) (write_entry f entry ws).waiting more
    by (waits_still c w) = ([], c, holds_waiting t w)
    by (was_written c w) = (own p x, c, holds_gone w)

-- two lists behind others
shifted : (p : ℕ) (ahead more : List ReadCall) (lines rest : List Entry) → ahead ++ of_process p lines ≡ more
    → ahead ++ of_process p (lines ++ rest) ≡ more ++ of_process p rest
shifted p ahead more lines rest e =
    ap (λ (z : List ReadCall). ahead ++ z) (of_both p lines rest) ∙ sym (append_assoc ahead (of_process p lines) (of_process p rest))
    ∙ ap (λ (z : List ReadCall). z ++ of_process p rest) e

-- those of others are no more of a process
others_apart_too : (p q : ℕ) (ws : List Entry) → Apart p ws → Apart p (of_others q ws)
others_apart_too p q [] h = tt
others_apart_too p q (x ∷ ws) h = by (others_apart_too p q ws h.1) (x.process == q)
  where
    by : Apart p (of_others q ws) → (t : Bool) → Apart p (if t then of_others q ws else x ∷ of_others q ws)
    by rest true = rest
    by rest false = (h.0, rest)

-- the one of a process is among those of others than another
others_one : (p q : ℕ) (one : Entry) (a b : List Entry) → (one.process == p) ≡ true → (q == p) ≡ false → Apart p a → Apart p b
    → OneOf p one (of_others q (a ++ (one ∷ b)))
others_one p q one [] b t n ha hb = rw differ (record {
  before = [];
  after = of_others q b;
  parts = refl;
  none_before = tt;
  none_after =
      others_apart_too p q b hb;
})
  where
    differ : (one.process == q) ≡ false
    differ = elim (eqb_tells one.process q) [
      | inl h ↦ (let k : (one.process == p) ≡ false = subst (λ (z : ℕ). (z == p) ≡ false) (sym h.1) n in absurd cc)
      | inr h ↦ h.0
    ]
others_one p q one (x ∷ a) b t n ha hb = by (others_one p q one a b t n ha.1 hb) (x.process == q)
  where
    by : OneOf p one (of_others q (a ++ (one ∷ b))) → (k : Bool)
        → OneOf p one (if k then of_others q (a ++ (one ∷ b)) else x ∷ of_others q (a ++ (one ∷ b)))
    by rest true = rest
    by rest false = record {
      before = x ∷ rest.before;
      after = rest.after;
      parts = ap (λ (z : List Entry). x ∷ z) rest.parts;
      none_before = (ha.0, rest.none_before);
      none_after = rest.none_after;
    }

-- one of another process is put in
put_apart : (p : ℕ) (e : Entry) (ws : List Entry) → (e.process == p) ≡ false → Apart p ws → Apart p (put e ws)
put_apart p e [] n h = (n, tt)
put_apart p e (x ∷ ws) n h = by (put_apart p e ws n h.1) (pair_cmp (stand e) (stand x))
  where
    by : Apart p (put e ws) → (o : Ordering) → Apart p (match_ordering o (e ∷ (x ∷ ws)) (e ∷ ws) (x ∷ put e ws))
    by rest Less = (n, h)
    by rest Equal = (n, h.1)
    by rest Greater = (h.0, rest)

-- one of the process is put in among others
put_one : (p : ℕ) (e : Entry) (ws : List Entry) → Apart p ws → OneOf p e (put e ws)
put_one p e [] h = record { before = []; after = []; parts = refl; none_before = tt; none_after = tt }
put_one p e (x ∷ ws) h = by (put_one p e ws h.1) (pair_cmp (stand e) (stand x))
  where
    by : OneOf p e (put e ws) → (o : Ordering) → OneOf p e (match_ordering o (e ∷ (x ∷ ws)) (e ∷ ws) (x ∷ put e ws))
    by rest Less = record { before = []; after = x ∷ ws; parts = refl; none_before = tt; none_after = h }
    by rest Equal = record { before = []; after = ws; parts = refl; none_before = tt; none_after = h.1 }
    by rest Greater = record {
      before = x ∷ rest.before;
      after = rest.after;
      parts = ap (λ (z : List Entry). x ∷ z) rest.parts;
      none_before = (h.0, rest.none_before);
      none_after = rest.none_after;
    }

-- two lines that stand at one place are of one process
same_place : (e x : Entry) → pair_cmp (stand e) (stand x) ≡ Equal → e.process ≡ x.process
same_place e x o = ap (λ (q : ℕ × ℕ). q.1) (pair_exact (stand e) (stand x) o)

-- one of another process is put in beside it
put_beside : (p : ℕ) (e one : Entry) (a b : List Entry) → (e.process == p) ≡ false → (one.process == p) ≡ true → Apart p a → Apart p b
    → OneOf p one (put e (a ++ (one ∷ b)))
put_beside p e one [] b n t ha hb = by (pair_cmp (stand e) (stand one)) refl
  where
    by : (o : Ordering) → pair_cmp (stand e) (stand one) ≡ o → OneOf p one (match_ordering o (e ∷ (one ∷ b)) (e ∷ b) (one ∷ put e b))
    by Less o = record { before = e ∷ []; after = b; parts = refl; none_before = (n, tt); none_after = hb }
    by Equal o = let k = ap (λ (z : ℕ). z == p) (same_place e one o) in absurd cc
    by Greater o = record { before = []; after = put e b; parts = refl; none_before = tt; none_after = put_apart p e b n hb }
put_beside p e one (x ∷ a) b n t ha hb = by (put_beside p e one a b n t ha.1 hb) (pair_cmp (stand e) (stand x))
  where
    by : OneOf p one (put e (a ++ (one ∷ b))) → (o : Ordering) → OneOf p one
        (match_ordering o (e ∷ (x ∷ (a ++ (one ∷ b)))) (e ∷ (a ++ (one ∷ b))) (x ∷ put e (a ++ (one ∷ b))))
    by rest Less = record { before = e ∷ (x ∷ a); after = b; parts = refl; none_before = (n, ha); none_after = hb }
    by rest Equal = record { before = e ∷ a; after = b; parts = refl; none_before = (n, ha.1); none_after = hb }
    by rest Greater = record {
      before = x ∷ rest.before;
      after = rest.after;
      parts = ap (λ (z : List Entry). x ∷ z) rest.parts;
      none_before = (ha.0, rest.none_before);
      none_after = rest.none_after;
    }

begun_holds : (p : ℕ) (one : Option Entry) (ws : List Entry) (ahead : List ReadCall) (entry : Entry) → (entry.process == p) ≡ false
    → Holds p one ws ahead → Holds p one (put entry (of_others entry.process ws)) ahead
begun_holds p one ws ahead entry n (holds_none h) = holds_none (put_apart p entry (of_others entry.process ws) n (others_apart_too p entry.process ws h))
begun_holds p one ws ahead entry n (holds_gone h) = holds_gone (put_apart p entry (of_others entry.process ws) n (others_apart_too p entry.process ws h))
begun_holds p one ws ahead entry n (holds_waiting {one = x} t h) =
    let left = subst (λ (z : List Entry). OneOf p x (of_others entry.process z)) (sym h.parts)
    (others_one p entry.process x h.before h.after t n h.none_before h.none_after) in
    holds_waiting t (subst (λ (z : List Entry). OneOf p x (put entry z)) (sym left.parts)
    (put_beside p entry x left.before left.after n t left.none_before left.none_after))

-- lines of other processes without one of them
without : (p : ℕ) (a b : List Entry) (x : Entry) → Apart p (a ++ (x ∷ b)) → Apart p (a ++ b)
without p [] b x h = h.1
without p (y ∷ a) b x h = (h.0, without p a b x h.1)

-- a call of another process that is picked
other_holds : (p : ℕ) (one : Option Entry) (ws a b : List Entry) (x : Entry) (ahead : List ReadCall) → ws ≡ a ++ (x ∷ b) → (x.process == p) ≡ false
    → Holds p one ws ahead → Holds p one (a ++ b) ahead
other_holds p one ws a b x ahead e n (holds_none h) = holds_none (without p a b x (subst (Apart p) e h))
other_holds p one ws a b x ahead e n (holds_gone h) = holds_gone (without p a b x (subst (Apart p) e h))
other_holds p one ws a b x ahead e n (holds_waiting {one = w} t h) =
    by (picked_of p w x h.before h.after a b (sym h.parts ∙ e) h.none_before h.none_after)
  where
    by : IsPickedOf p w x (a ++ b) → Holds p (Some w) (a ++ b) []
    by (is_it same apart) = let k = ap (λ (z : Entry). z.process == p) same in absurd cc
    by (is_other other left) = holds_waiting t left

-- the process of a line that is picked by another process
not_both : (p q : ℕ) (x : Entry) → (q == p) ≡ false → (x.process == q) ≡ true → (x.process == p) ≡ false
not_both p q x n t = elim (eqb_tells x.process q) [
  | inl h ↦ subst (λ (z : ℕ). (z == p) ≡ false) (sym h.1) n
  | inr h ↦ absurd cc
]

-- the call of another process ends
other_ends : (p q : ℕ) (f : Entry → Entry → Bool) (x : Option Entry) (ws : List Entry) (ss : List Step) (ahead calls : List ReadCall) → (q == p) ≡ false
    → Holds p x ws ahead
    → ((w : List Entry) (c : List ReadCall) → Holds p x w c → c ++ of_process p (order f w ss) ≡ calls)
    → Picks (λ e. e.process == q) ws → ahead ++ of_process p (order f ws (Ends q ∷ ss)) ≡ calls
other_ends p q f x ws ss ahead calls n h rest (picks_none is) = rw is (rest ws ahead h)
other_ends p q f x ws ss ahead calls n h rest (picks_one a e b parts t is) =
    let other = not_both p q e n t in
    let r = wrote_beside p f x e (a ++ b) ahead (own_apart p e other) (other_holds p x ws a b e ahead parts other h) in
    let w = write_entry f e (a ++ b) in
    rw is (shifted p ahead r.0 w.lines (order f w.waiting ss) r.1 ∙ rest w.waiting r.0 r.2)

pub order_fits : (p : ℕ) (f : Entry → Entry → Bool) (one : Option Entry) (ws : List Entry) (steps : List Step) (ahead calls : List ReadCall)
    → Fits p one steps calls → Holds p one ws ahead → ahead ++ of_process p (order f ws steps) ≡ calls
order_fits p f one ws steps ahead calls fits_end (holds_none h) = refl
order_fits p f one ws steps ahead calls (fits_comes {entry = e} {steps = ss} {calls = k} more) (holds_none h) =
    let r = due_apart p (turns (e ∷ []) ws) f (e ∷ []) ws (omega arith) h in
    let w = write_entry f e ws in
    of_both p w.lines (order f w.waiting ss) ∙ ap (λ (z : List ReadCall). z ++ of_process p (order f w.waiting ss)) (r.calls ∙ append-nil (own p e))
    ∙ ap (λ (z : List ReadCall). own p e ++ z) (order_fits p f None w.waiting ss [] k more (holds_none r.waits))
order_fits p f one ws steps ahead calls (fits_between {one = x} {entry = e} {steps = ss} n more) h =
    let r = wrote_beside p f (Some x) e ws ahead n h in
    let w = write_entry f e ws in
    shifted p ahead r.0 w.lines (order f w.waiting ss) r.1 ∙ order_fits p f (Some x) w.waiting ss r.0 calls more r.2
order_fits p f one ws steps ahead calls (fits_begins {entry = e} {steps = ss} t more) (holds_none h) =
    order_fits p f (Some e) (put e (of_others e.process ws)) ss [] calls more
    (holds_waiting t (put_one p e (of_others e.process ws) (others_apart_too p e.process ws h)))
order_fits p f one ws steps ahead calls (fits_other_begins {one = x} {entry = e} {steps = ss} n more) h =
    order_fits p f x (put e (of_others e.process ws)) ss ahead calls more (begun_holds p x ws ahead e n h)
order_fits p f one ws steps ahead calls (fits_ends {entry = e} {steps = ss} {calls = k} more) (holds_gone h) =
    rw (none_picked (λ x. x.process == p) ws h) (ap (λ (z : List ReadCall). own p e ++ z) (order_fits p f None ws ss [] k more (holds_none h)))
order_fits p f one ws steps ahead calls (fits_ends {entry = e} {steps = ss} {calls = k} more) (holds_waiting t h) =
    let others = h.before ++ h.after in
    let apart = apart_both p h.before h.after h.none_before h.none_after in
    let r = due_apart p (turns (e ∷ []) others) f (e ∷ []) others (omega arith) apart in
    let w = write_entry f e others in
    let is : pick (λ x. x.process == p) ws ≡ Some (record { first = e; others = others }) =
    ap (pick (λ x. x.process == p)) h.parts ∙ one_picked (λ x. x.process == p) h.before e h.after h.none_before t in
    rw is (of_both p w.lines (order f w.waiting ss) ∙ ap (λ (z : List ReadCall). z ++ of_process p (order f w.waiting ss)) (r.calls ∙ append-nil (own p e))
    ∙ ap (λ (z : List ReadCall). own p e ++ z) (order_fits p f None w.waiting ss [] k more (holds_none r.waits)))
order_fits p f one ws steps ahead calls (fits_other_ends {one = x} {q = q} {steps = ss} n more) h =
    other_ends p q f x ws ss ahead calls n h (λ w c a. order_fits p f x w ss c calls more a) (picks (λ e. e.process == q) ws)
