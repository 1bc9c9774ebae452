-- Calls of a scan, one after another, are one; a range that was shown stays when a later place is written; and what the
-- calls of a scan came to so far.
use Rattle.std.proofs.Common.{◌≡◌, ℕ, zero, suc, ◌+◌, ◌<◌, ◌≤◌, ◌∙◌, List, Option, Some, None, length, set, length-set, refl, sym, subst, arith}
use Rattle.std.specs.Prelude.{IsSome}
use Rattle.std.proofs.Math.Numerals.{add-one}
use lib.ListN.{get_elem?}
use Rattle.atomic_table.proofs.Lists.{set_here, set_else}
use Rattle.list_cuts.specs.Cut.{Regions}
use Rattle.range_rw.specs.declared.scan.Scanned.{Scanned}
use Rattle.range_rw.specs.Scan.{IsScanCall}
use Rattle.range_c.specs.declared.answers.GzBusy.{GzBusy}
use Rattle.range_c.specs.Behind.{RecordingSeat}
use Rattle.range_c.specs.Codes.{shown_by}
use Rattle.range_c.specs.Shown.{IsLook, AreShown, IsStopped, IsWritten}

pub scans_after : {a b c : RecordingSeat} → IsScanCall a b → IsScanCall b c → IsScanCall a c
scans_after f g = record {
  table = g.table ∙ f.table;
  number = g.number ∙ f.number;
  held = g.held;
  ready = g.ready ∙ f.ready;
  further = g.further ∙ f.further;
  pass = g.pass ∙ f.pass;
  client = g.client ∙ f.client;
  asked = g.asked ∙ f.asked;
  taken = let x = f.taken in let y = g.taken in omega arith;
}

-- no call leaves the seat as it is
no_call : (a : RecordingSeat) → a.held ≡ None → IsScanCall a a
no_call a free = record {
  table = refl;
  number = refl;
  held = free;
  ready = refl;
  further = refl;
  pass = refl;
  client = refl;
  asked = refl;
  taken = omega arith;
}

-- what is there, has a value
pub value_in : {A : Type 0} (o : Option A) → IsSome o → (a : A) × (o ≡ Some a)
value_in None h = absurd cc
value_in (Some a) h = (a, refl)

pub is_there : {A : Type 0} {o : Option A} {a : A} → o ≡ Some a → IsSome o
is_there {A} {o} {a} e = subst IsSome (sym e) refl

still_shown : (cut : Regions) (ranges : List GzBusy) (n m : ℕ) (r : GzBusy) (a b : RecordingSeat) → n ≤ m → AreShown cut ranges n a b
    → AreShown cut (set ranges m r) n a b
still_shown cut ranges zero m r a b h s = s
still_shown cut ranges (suc n) m r a b h s =
    (s.0, s.1, s.2, still_shown cut ranges n m r a s.0 (omega arith) s.3, s.4, s.5, set_else ranges m n r (λ e. omega arith) ∙ s.6)

-- one more call went past a node, which is shown
shown_more : (cut : Regions) (ranges : List GzBusy) (n : ℕ) (answer : Scanned) (r : GzBusy) (a b c : RecordingSeat) → n < length ranges
    → AreShown cut ranges n a b → IsLook cut b c answer → shown_by answer ≡ Some r → AreShown cut (set ranges n r) (n + 1) a c
shown_more cut ranges n answer r a b c h s look is = subst (λ k. AreShown cut (set ranges n r) k a c) (sym (add-one n))
    (b, answer, r, still_shown cut ranges n n r a b (omega arith) s, look, is, set_here ranges n r h)

written_more : (n : ℕ) (old now : List GzBusy) (r : GzBusy) → n < length now → IsWritten n old now → IsWritten (n + 1) old (set now n r)
written_more n old now r h w = record {
  long = length-set now n r ∙ w.long;
  few = let l = w.long in omega arith;
  kept = λ k far. set_else now n k r (λ e. omega arith) ∙ w.kept k (omega arith);
}

-- a scan that was open at first has shown so many ranges, and is open
pub record IsShowing (cut : Regions) (old ranges : List GzBusy) (found : ℕ) (first now : RecordingSeat) : Type 0 where
  pub call : IsScanCall first now
  pub inside : IsSome now.scan
  pub shown : AreShown cut ranges found first now
  pub written : IsWritten found old ranges

pub none_yet : (cut : Regions) (ranges : List GzBusy) (a : RecordingSeat) → a.held ≡ None → IsSome a.scan → IsShowing cut ranges ranges 0 a a
none_yet cut ranges a free inside = record {
  call = no_call a free;
  inside = inside;
  shown = refl;
  written = record { long = refl; few = omega arith; kept = λ k far. refl };
}

pub one_more_shown : {cut : Regions} {old ranges : List GzBusy} {found : ℕ} {a b c : RecordingSeat} (answer : Scanned) (r : GzBusy) → found < length ranges
    → IsShowing cut old ranges found a b → IsLook cut b c answer → IsSome c.scan → shown_by answer ≡ Some r
    → IsShowing cut old (set ranges found r) (found + 1) a c
one_more_shown {cut} {old} {ranges} {found} {a} {b} {c} answer r more s look inside is = record {
  call = scans_after s.call look.call;
  inside = inside;
  shown = shown_more cut ranges found answer r a b c more s.shown look is;
  written = written_more found old ranges r more s.written;
}

-- it stopped at that answer
pub stops_at : {cut : Regions} {old ranges : List GzBusy} {found : ℕ} {a b c : RecordingSeat} (answer : Scanned) → IsShowing cut old ranges found a b
    → IsLook cut b c answer → ((r : GzBusy) → shown_by answer ≡ Some r → found ≡ length ranges) → IsStopped cut ranges found answer a c
stops_at {b = b} answer s look full = record { entry = b; shown = s.shown; stops = look; full = full }

-- an answer without a node
pub no_node : (answer : Scanned) {n m : ℕ} → shown_by answer ≡ None → (r : GzBusy) → shown_by answer ≡ Some r → n ≡ m
no_node answer none r is = let never : Some r ≡ None = sym is ∙ none in absurd cc

-- each place is filled
pub all_filled : {n : ℕ} {old ranges : List GzBusy} → length ranges ≤ n → IsWritten n old ranges → n ≡ length ranges
all_filled {n} {old} {ranges} least w = let f = w.few in let l = w.long in omega arith
