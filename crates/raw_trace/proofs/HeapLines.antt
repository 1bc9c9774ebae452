-- What a brk is written as where the heap is mapped over: a line that is read as just that call, and is short.
use Rattle.std.proofs.Common.{◌≡◌, ℕ, ◌-◌, ◌*◌, ◌^◌, ◌<◌, ◌≤◌, true, false, List, [], ◌∷◌, ◌++◌, length, decimal, Option, Some, None, refl, sym, ap, subst, inl, inr, arith}
use Rattle.std.proofs.Common.{drop}
use Rattle.std.specs.Prelude.{not, ◌==◌, nat_lt, max, if◌then◌else◌, option_map}
use Rattle.std.proofs.lemmas.Bool.Decides.{nat_tests}
use Rattle.std.proofs.lemmas.Fmt.{length-decimal-le}
use Rattle.std.proofs.lemmas.List.{length-append}
use Rattle.line_parts.specs.Parts.{starts}
use Rattle.line_parts.specs.Leaves.{is}
use Rattle.line_parts.proofs.Leaves.{bool_cases}
use Rattle.page_types.specs.declared.calls.Call.{Call}
use Rattle.page_types.specs.declared.calls.Call.TheVariants.{Map, Unmap, Brk}
use Rattle.page_types.specs.Pages.{page_count}
use Rattle.page_types.specs.Named.{IsNamedCall}
use Rattle.strace_reader.specs.declared.item.Item.TheVariants.{Played}
use Rattle.strace_reader.specs.declared.item.Name.{Name}
use Rattle.strace_reader.specs.declared.item.Name.TheVariants.{Mmap, Munmap, Brk as BrkName}
use Rattle.strace_reader.specs.declared.item.Recorded.{Recorded}
use Rattle.strace_reader.specs.declared.item.Recorded.TheVariants.{Value}
use Rattle.strace_reader.specs.Words.{call_head}
use Rattle.strace_reader.specs.Grammar.{BeginsWith, Spells}
use Rattle.strace_reader.proofs.BodyAnswers.{call_cut}
use Rattle.strace_reader.proofs.FormFacts.{cut_same}
use Rattle.maps_printer.specs.Calls.{call_text}
use Rattle.round_trip.specs.Logs.{FitsCall}
use Rattle.round_trip.proofs.CallsRead.{call_text_spells, call_text_length}
use Rattle.round_trip.proofs.LogsRead.{lacks, first_of, second_of, not_true, lacks_both, decimal_lacks, line_ends, line_apart, call_lacks}
use Rattle.round_trip.proofs.NumbersRead.{decimal_digits}
use Rattle.raw_lines.proofs.Searches.{isnt}
use Rattle.raw_logs.specs.Numbering.{with_number}
use Rattle.raw_logs.proofs.CleanLogs.{IsClean}
use Rattle.raw_trace.specs.declared.calls.ReadCall.{ReadCall}
use Rattle.raw_trace.specs.declared.tally.Tally.{Tally}
use Rattle.raw_trace.specs.Heaps.{moving, done_by, instead, call_line, shown}
use Rattle.raw_trace.specs.Order.{Entry}

-- ---- the call

-- which of the three it is
data Moves (a b : ℕ) : Type 0 where
  maps : moving a b ≡ Map (a * 4096) ((b - a) * 4096) (record { 0 = 3 }) (record { 0 = 6 }) → Moves a b
  unmaps : moving a b ≡ Unmap (b * 4096) ((a - b) * 4096) → Moves a b
  asks : moving a b ≡ Brk (b * 4096) 0 → Moves a b

moves : (a b : ℕ) → Moves a b
moves a b = elim (bool_cases (nat_lt a b)) [
  | inl is ↦ maps (rw is refl)
  | inr never ↦ elim (bool_cases (nat_lt b a)) [
    | inl is ↦ unmaps (rw (never, is) refl)
    | inr not ↦ asks (rw (never, not) refl)
  ]
]

-- its numbers fit, its sets have named bits alone, and its text begins with its name
pub record IsPlain (c : Call) : Type 0 where
  pub named : IsNamedCall c
  pub fits : FitsCall c
  pub name : Name
  pub begins : BeginsWith (call_head name) (call_text c)

moving_plain : (a b : ℕ) → a < 2 ^ 52 → b < 2 ^ 52 → IsPlain (moving a b)
moving_plain a b small_a small_b = by (moves a b)
  where
    by : Moves a b → IsPlain (moving a b)
    by (maps e) =
        let c = Map (a * 4096) ((b - a) * 4096) (record { 0 = 3 }) (record { 0 = 6 }) in subst IsPlain (sym e) (record {
          named = (omega arith, omega arith);
          fits = (omega (arith, small_a), omega (arith, small_b));
          name = Mmap;
          begins = (drop 5 (call_text c), refl);
        })
    by (unmaps e) = let c = Unmap (b * 4096) ((a - b) * 4096) in subst IsPlain (sym e) (record {
      named = tt;
      fits = (omega (arith, small_b), omega (arith, small_a));
      name = Munmap;
      begins = (drop 7 (call_text c), refl);
    })
    by (asks e) = let c = Brk (b * 4096) 0 in subst IsPlain (sym e) (record {
      named = tt;
      fits = (omega (arith, small_b), omega arith);
      name = BrkName;
      begins = (drop 4 (call_text c), refl);
    })

-- what a brk did is such a call
done_plain : (c d : Call) (recorded : Option Recorded) (heap : Option ℕ) → done_by c recorded heap ≡ Some d → IsPlain d
done_plain (Brk base addr) d (Some (Value end)) (Some old) e = elim (bool_cases (nat_lt (max old end) (2 ^ 63))) [
  | inl is ↦ let k = rw is at e in
      let same : moving (page_count (if addr == 0 then end else old)) (page_count end) ≡ d = cc in
      subst IsPlain same (moving_plain (page_count (if addr == 0 then end else old)) (page_count end) (few addr old end is) (few 0 old end is))
  | inr never ↦ let k = rw never at e in cc
]
  where
    few : (addr old end : ℕ) → nat_lt (max old end) (2 ^ 63) ≡ true → page_count (if addr == 0 then end else old) < 2 ^ 52
    few addr old end is = elim (bool_cases (addr == 0)) [
      | inl none ↦ rw none (grind (arith, nat_tests, is))
      | inr some ↦ rw some (grind (arith, nat_tests, is))
    ]
done_plain c d recorded heap e = cc

-- the call that is written instead of another
pub record IsInstead (other : Option ReadCall) (read : ReadCall) : Type 0 where
  pub old : ReadCall
  pub is : other ≡ Some old
  pub pid : read.pid ≡ old.pid
  pub recorded : read.recorded ≡ None
  pub plain : IsPlain read.call

pub instead_is : (t : Tally) (other : Option ReadCall) (read : ReadCall) → instead t other ≡ Some read → IsInstead other read
instead_is t None read e = cc
instead_is t (Some old) read e = elim (bool_cases t.over) [
  | inl is ↦ by (done_by old.call old.recorded t.heap) refl (rw is at e)
  | inr never ↦ let k = rw never at e in cc
]
  where
    by : (o : Option Call) → done_by old.call old.recorded t.heap ≡ o
        → option_map (λ call. record { pid = old.pid; call = call; recorded = None }) o ≡ Some read → IsInstead (Some old) read
    by None d k = cc
    by (Some c) d k =
        let same : record { pid = old.pid; call = c; recorded = None } ≡ read = cc in subst (IsInstead (Some old)) same (record {
          old = old;
          is = refl;
          pid = refl;
          recorded = refl;
          plain = done_plain old.call c old.recorded t.heap d;
        })

-- ---- its line

head_no_space : (name : Name) (rest : List ℕ) → starts (is 32) (call_head name ++ rest) ≡ false
head_no_space Mmap rest = refl
head_no_space name rest = refl

-- behind a number
numbered_spells : (pid : ℕ) (c : Call) → pid < 2 ^ 32 → IsPlain c → Spells (with_number pid (call_text c)) (Played pid c None)
unfolding Spells
numbered_spells pid c small plain =
    let h = call_text_spells c plain.named plain.fits in
    let text = call_text c in
    let body = (cut_same text 0 0 h.0 text h.1 (call_cut plain.name text plain.begins)).1 in
    let first = subst (λ (x : List ℕ). starts (is 32) x ≡ false) (sym plain.begins.1) (head_no_space plain.name plain.begins.0) in
    let parts = ap (λ (x : List ℕ). with_number pid x) (sym body) in (
      h.0,
      inl (
        h.0,
        inl (decimal pid, (decimal_digits pid (omega (arith, small)), small), parts),
        ([], tt, refl, subst (λ (x : List ℕ). starts (is 32) x ≡ false) (sym body) first),
      ),
      h.2,
    )

pub line_spells : (read : ReadCall) → read.pid < 2 ^ 32 → IsPlain read.call → read.recorded ≡ None
    → Spells (call_line read) (Played read.pid read.call read.recorded)
line_spells read small plain none = elim (bool_cases (read.pid == 0)) [
  | inl is ↦ let z : read.pid ≡ 0 = grind (arith, nat_tests, is) in
      rw is (subst (λ (x : Option Recorded). Spells (call_text read.call) (Played read.pid read.call x)) (sym none)
      (subst (λ (p : ℕ). Spells (call_text read.call) (Played p read.call None)) (sym z) (call_text_spells read.call plain.named plain.fits)))
  | inr never ↦ rw never (subst (λ (x : Option Recorded). Spells (with_number read.pid (call_text read.call)) (Played read.pid read.call x)) (sym none)
      (numbered_spells read.pid read.call small plain))
]

lacks_clean : (text : List ℕ) → lacks 10 text ≡ true → IsClean text
lacks_clean [] h = tt
lacks_clean (b ∷ text) h =
    let n = not_true (b == 10) (first_of (not (b == 10)) (lacks 10 text) h) in
    let first : isnt 10 b ≡ true = rw n refl in
    (first, lacks_clean text (second_of (not (b == 10)) (lacks 10 text) h))

pub line_clean : (read : ReadCall) → read.pid < 2 ^ 32 → IsPlain read.call → IsClean (call_line read)
line_clean read small plain =
    let text = call_text read.call in
    let h = call_lacks 10 line_apart refl read.call plain.fits in
    elim (bool_cases (read.pid == 0)) [
      | inl is ↦ rw is (lacks_clean text h)
      | inr never ↦ rw never (lacks_clean (with_number read.pid text)
          (lacks_both 10 (decimal read.pid) (32 ∷ text) (decimal_lacks 10 read.pid (omega (arith, small)) (omega (arith, line_ends))) h))
    ]

pub line_short : (read : ReadCall) → read.pid < 2 ^ 32 → IsPlain read.call → length (call_line read) ≤ 65535
line_short read small plain =
    let text = call_text read.call in
    let h = call_text_length read.call plain.named plain.fits in
    elim (bool_cases (read.pid == 0)) [
      | inl is ↦ rw is (omega (arith, h))
      | inr never ↦ rw never (let d = length-decimal-le 20 read.pid (omega arith) (omega arith) (omega (arith, small)) in
          let l = length-append (decimal read.pid) (32 ∷ text) in omega (arith, h, d))
    ]

-- ---- what is shown

-- nothing is written instead
pub shown_same : (t : Tally) (e : Entry) → instead t e.call ≡ None → shown t e ≡ e
shown_same t e none = rw none refl

-- a line with another call
abbrev pub with_call : Entry → ReadCall → Entry
with_call e read = record {
  number = e.number;
  process = e.process;
  line = call_line read;
  ending = e.ending;
  joined = e.joined;
  trouble = e.trouble;
  call = Some read;
}

pub shown_other : (t : Tally) (e : Entry) (read : ReadCall) → instead t e.call ≡ Some read → shown t e ≡ with_call e read
shown_other t e read some = rw some refl

-- either
pub data IsShown (t : Tally) (e : Entry) : Type 0 where
  stays : shown t e ≡ e → IsShown t e
  turns_into : (read : ReadCall) → IsInstead e.call read → shown t e ≡ with_call e read → IsShown t e

pub shows : (t : Tally) (e : Entry) → IsShown t e
shows t e = by (instead t e.call) refl
  where
    by : (o : Option ReadCall) → instead t e.call ≡ o → IsShown t e
    by None k = stays (shown_same t e k)
    by (Some read) k = turns_into read (instead_is t e.call read k) (shown_other t e read k)
