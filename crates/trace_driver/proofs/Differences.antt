-- Replies are compared one by one, each with what its line recorded. The lines' numbers rise, so a number is that of
-- one line at most, which is found by halving.
use Rattle.std.proofs.Common.{◌≡◌, ◌↔◌, Bool, true, false, ℕ, zero, suc, ◌+◌, ◌<◌, ◌≤◌, inl, inr, List, [], ◌∷◌, ◌++◌, length, get_or, drop, drop-cons, Result}
use Rattle.std.proofs.Common.{Ok, Err, IfOk, IfErr, Option, None, Some, refl, sym, ap, subst, ◌∙◌, arith, add-one, add-zero, append_assoc, append-nil}
use Rattle.std.specs.Prelude.{All, IfSome, IsNone, is_some}
use Rattle.std.proofs.Math.ListN.{drop_of_length-le}
use Rattle.std.specs.Bool.{IsTrue}
use Rattle.std.specs.List.Sorted.{IsSearchInRange, IsBinarySearchResult, IsNonDecreasingBy}
use Rattle.std.specs.Ordering.{nat_cmp, ordering_index}
use Rattle.std.proofs.lemmas.Bool.{cases_lt}
use Rattle.std.proofs.lemmas.Bool.Decides.{nat_tests}
use Rattle.std.proofs.lemmas.Cmp.{ranked}
use Rattle.std.proofs.lemmas.List.{get_or_default}
use Rattle.std.proofs.lemmas.List.Kept.{AllPairs-cons}
use Rattle.space_model.specs.declared.entries.Entry.{Entry}
use Rattle.maps_printer.specs.declared.differing.DifferingReply.{DifferingReply}
use Rattle.page_types.specs.declared.calls.Reply.{Reply}
use Rattle.strace_reader.specs.declared.item.Recorded.{Recorded}
use Rattle.strace_reader.specs.declared.joiner.Fed.{Fed}
use Rattle.strace_reader.specs.declared.joiner.Fed.TheVariants.{Played}
use Rattle.strace_reader.specs.Playing.{Agrees, Differs}
use Rattle.trace_driver.specs.declared.trace.Line.{Line}
use Rattle.std.specs.List.{Contains}
use Rattle.trace_driver.specs.Report.{AreDiffering, with_other, Differing, DiffersFrom, DiffersFromLine, LinesRise, IsPlaceOf, HasNoLine}
use Rattle.trace_driver.specs.Script.{TracePosition, Reads, lines_by, taken}
use Rattle.trace_driver.specs.TraceReader.{index_among}
use Rattle.trace_driver.specs.Script.Reads.{nothing, line}

-- ---- the count

-- with those that are left from a place on, the count is that of all
abbrev pub Completes : List Line → List Entry → ℕ → ℕ → Type 0
Completes lines entries i count = (more : ℕ) → Differing lines (drop i entries) more → Differing lines entries (count + more)

opened : (lines : List Line) (entries : List Entry) (i more : ℕ) (e : Entry) → i < length entries
    → Differing lines (get_or entries i e ∷ drop (i + 1) entries) more → Differing lines (drop i entries) more
opened lines entries i more e among h = let b : drop i entries ≡ get_or entries i e ∷ drop (i + 1) entries = rw (drop-cons entries i e, add-one) refl in rw b h

-- an entry that differs from its line is counted, and the count completes as before
pub completes_yes : (lines : List Line) (entries : List Entry) (i count : ℕ) (e : Entry) → i < length entries
    → Completes lines entries i count → DiffersFromLine lines (get_or entries i e) → Completes lines entries (i + 1) (count + 1)
completes_yes lines entries i count e among so_far differs more h =
    let all : Differing lines entries (count + (1 + more)) = so_far (1 + more) (opened lines entries i (1 + more) e among (inl (differs, (more, h, refl)))) in
    let same : count + (1 + more) ≡ count + 1 + more = omega arith in subst (λ n. Differing lines entries n) same all

-- an entry that doesn't is passed over, and the count completes as before
pub completes_no : (lines : List Line) (entries : List Entry) (i count : ℕ) (e : Entry) → i < length entries
    → Completes lines entries i count → ¬ DiffersFromLine lines (get_or entries i e) → Completes lines entries (i + 1) count
completes_no lines entries i count e among so_far agrees more h = so_far more (opened lines entries i more e among (inr (agrees, h)))

-- when none is left the count is that of all
pub completed : (lines : List Line) (entries : List Entry) (i count : ℕ) → length entries ≤ i → Completes lines entries i count → Differing lines entries count
completed lines entries i count above so_far =
    let b : drop i entries ≡ [] = drop_of_length-le entries above in
    let none : Differing lines (drop i entries) 0 = rw b refl in rw (add-zero) at (so_far 0 none)

-- where a test of a claim says no, the claim doesn't hold
pub agrees : (is : Bool) (claim : Type 0) → is ≡ false → (claim → IsTrue is) → ¬ claim
agrees true claim h tells holds = cc
agrees false claim h tells holds = absurd (let e : false ≡ true = tells holds in cc)

-- ---- the list

-- with those that are left from a place on, the list is that of all
abbrev pub ListsSoFar : List Line → List Entry → ℕ → List DifferingReply → Type 0
ListsSoFar lines entries i list = (more : List DifferingReply) → AreDiffering lines (drop i entries) more → AreDiffering lines entries (list ++ more)

opened_list : (lines : List Line) (entries : List Entry) (more : List DifferingReply) (i : ℕ) (e : Entry) → i < length entries
    → AreDiffering lines (get_or entries i e ∷ drop (i + 1) entries) more → AreDiffering lines (drop i entries) more
opened_list lines entries more i e among h =
    let b : drop i entries ≡ get_or entries i e ∷ drop (i + 1) entries = rw (drop-cons entries i e, add-one) refl in rw b h

-- so with one entry more: where there is a result that it differs from, it is listed with that
pub lists_next : (other : Option Recorded) (lines : List Line) (entries : List Entry) (list new : List DifferingReply) (i : ℕ) (e : Entry)
    → i < length entries → e ≡ get_or entries i e → IfSome other (DiffersFrom lines e) → (IsNone other → ¬ DiffersFromLine lines e)
    → new ≡ with_other other list e → ListsSoFar lines entries i list → ListsSoFar lines entries (i + 1) new
lists_next (Some r) lines entries list new i e among is some none made so_far more h =
    let first : DifferingReply = record { entry = get_or entries i e; recorded = r } in
    let differs = subst (λ (x : Entry). DiffersFrom lines x r) is some in
    let all = so_far (first ∷ more) (opened_list lines entries (first ∷ more) i e among (inl (r, differs, (more, h, refl)))) in
    let listed : AreDiffering lines entries ((list ++ first ∷ []) ++ more) =
    subst (AreDiffering lines entries) (sym (append_assoc list (first ∷ []) more)) all in
    let new_is : new ≡ list ++ first ∷ [] = made ∙ ap (λ (x : Entry). list ++ (record { entry = x; recorded = r }) ∷ []) is in
    subst (λ l. AreDiffering lines entries (l ++ more)) (sym new_is) listed
lists_next None lines entries list new i e among is some none made so_far more h =
    let same = subst (λ (x : Entry). ¬ DiffersFromLine lines x) is (none refl) in
    subst (λ l. AreDiffering lines entries (l ++ more)) (sym made) (so_far more (opened_list lines entries more i e among (inr (same, h))))

-- when none is left the list is that of all
pub listed : (lines : List Line) (entries : List Entry) (list : List DifferingReply) (i : ℕ) → length entries ≤ i → ListsSoFar lines entries i list
    → AreDiffering lines entries list
listed lines entries list i above so_far =
    let b : drop i entries ≡ [] = drop_of_length-le entries above in
    let none : AreDiffering lines (drop i entries) [] = rw b refl in subst (AreDiffering lines entries) (append-nil list) (so_far [] none)

-- ---- the line of an entry

-- two lines of one number are one
one_place : (lines : List Line) (i j : ℕ) (d : Line) → LinesRise lines → i < length lines → j < length lines
    → (get_or lines i d).number ≡ (get_or lines j d).number → i ≡ j
one_place lines i j d rise low high same = elim (cases_lt i j) [
  | inl below ↦ absurd (omega (arith, rise i j d below high, same))
  | inr above ↦ elim (cases_lt j i) [ inl below ↦ absurd (omega (arith, rise j i d below low, same)) | inr up ↦ omega arith ]
]

-- the line at the entry's place is the only one of its number
line_at : (lines : List Line) (entry : Entry) (place : ℕ) (d : Line) → LinesRise lines → place < length lines → (get_or lines place d).number ≡ entry.line
    → (other : Line) → Contains lines other → other.number ≡ entry.line → get_or lines place d ≡ other
line_at lines entry place d rise low number other there other_number =
    let k = there.0 in
    let other_is : get_or lines k d ≡ other = get_or_default lines k d other there.1 ∙ there.2 in
    let same : place ≡ k = one_place lines place k d rise low there.1 (number ∙ sym other_number ∙ ap (λ (l : Line). l.number) (sym other_is)) in
    ap (λ i. get_or lines i d) same ∙ other_is

-- so one result at most was recorded that an entry differs from
pub one_other : (lines : List Line) (entry : Entry) (r s : Recorded) → LinesRise lines → DiffersFrom lines entry r → DiffersFrom lines entry s → r ≡ s
one_other lines entry r s rise one other =
    let at = one.1 in let here : get_or lines at.0 one.0 ≡ one.0 = at.2 in
    let line_is = line_at lines entry at.0 one.0 rise at.1 (ap (λ (l : Line). l.number) here ∙ one.2) other.0 other.1 other.2 in
    let told : Some r ≡ Some s = sym one.3 ∙ ap (λ (l : Line). l.recorded) (sym here ∙ line_is) ∙ other.3 in cc

-- what the line at the entry's place tells is what the entry differs from
pub tells_other : (other : Option Recorded) (lines : List Line) (entry : Entry) (place : ℕ) (d : Line) → LinesRise lines → place < length lines
    → (get_or lines place d).number ≡ entry.line → IfSome other (λ r. ((get_or lines place d).recorded ≡ Some r) × (¬ Agrees entry.reply r))
    → IfSome other (DiffersFrom lines entry)
tells_other (Some r) lines entry place d rise low number tells =
    (get_or lines place d, (place, low, get_or_default lines place (get_or lines place d) d low), number, tells.0, tells.1)
tells_other None lines entry place d rise low number tells = tt

-- and if it tells nothing the entry doesn't differ
pub tells_none : (lines : List Line) (entry : Entry) (place : ℕ) (d : Line) → LinesRise lines → place < length lines
    → (get_or lines place d).number ≡ entry.line → ¬ Differs entry.reply (get_or lines place d).recorded → ¬ DiffersFromLine lines entry
tells_none lines entry place d rise low number same differs =
    let from = differs.1 in
    let line_is = line_at lines entry place d rise low number from.0 from.1 from.2 in
    let told : (get_or lines place d).recorded ≡ Some differs.0 = ap (λ (l : Line). l.recorded) line_is ∙ from.3 in
    same (subst (Differs entry.reply) (sym told) from.4)

-- an entry without a line doesn't
pub tells_nowhere : (lines : List Line) (entry : Entry) → HasNoLine lines entry.line → ¬ DiffersFromLine lines entry
tells_nowhere lines entry none differs = let from = differs.1 in none from.0 from.1 from.2

-- so what it differs from tells whether it does
pub tells_some : (other : Option Recorded) (lines : List Line) (entry : Entry) → IfSome other (DiffersFrom lines entry)
    → (IsNone other → ¬ DiffersFromLine lines entry) → IsTrue (is_some other) ↔ DiffersFromLine lines entry
tells_some (Some r) lines entry some none = ((λ yes. (r, some)), (λ differs. refl))
tells_some None lines entry some none = ((λ yes. absurd cc), (λ differs. absurd (none refl differs)))

-- a reply differs from what was recorded exactly if it doesn't agree with that
pub apart : (reply : Reply) (recorded : Option Recorded) → Differs reply recorded → IfSome recorded (λ r. (recorded ≡ Some r) × (¬ Agrees reply r))
apart reply (Some r) differs = (refl, differs)
apart reply None differs = absurd differs

-- where nothing was recorded it doesn't differ
pub none_apart : (reply : Reply) (recorded : Option Recorded) → IsNone recorded → ¬ Differs reply recorded
none_apart reply (Some r) none differs = absurd (let e : true ≡ false = none in cc)
none_apart reply None none differs = differs

-- ---- the search

-- the comparisons with a number rise along the lines
comparisons_rise : (lines : List Line) (number : ℕ) → LinesRise lines → IsNonDecreasingBy (λ (l : Line). ordering_index (nat_cmp l.number number)) lines
comparisons_rise lines number rise i j d le low = elim (cases_lt i j) [
  | inl below ↦ let up : (get_or lines i d).number < (get_or lines j d).number = rise i j d below low in grind (arith, nat_tests)
  | inr above ↦ let same : i ≡ j = omega arith in omega (arith, ap (λ k. ordering_index (nat_cmp (get_or lines k d).number number)) same)
]

-- a search by number ends at its line, or no line has the number
pub searched : (lines : List Line) (number : ℕ) → LinesRise lines → (r : Result ℕ ℕ) → IsSearchInRange r (length lines)
    → IsBinarySearchResult (λ (l : Line). nat_cmp l.number number) lines r → IfOk r (IsPlaceOf lines number) × IfErr r (λ gap. HasNoLine lines number)
searched lines number rise (Ok place) low equal = ((low, λ d. ranked _ number _ (sym (equal d))), tt)
searched lines number rise (Err gap) low parted = (
  tt,
  λ other there is. let k = there.0 in let below = there.1 in let halves = parted (comparisons_rise lines number rise) in elim (cases_lt k gap) [
    | inl before ↦ let less = ranked _ number _ (sym (halves.0 k other (omega arith) before)) in omega (arith, ap (λ (l : Line). l.number) there.2)
    | inr behind ↦ let more = ranked _ number _ (sym (halves.1 k other behind below)) in omega (arith, ap (λ (l : Line). l.number) there.2)
  ],
)

-- ---- the lines of a trace

-- the numbers of lines that are played are those from where the reading stands on
abbrev AreFrom : ℕ → List Line → Type 0
AreFrom number lines = All (λ (l : Line). number ≤ l.number) lines

from_next : (number : ℕ) (lines : List Line) → AreFrom (number + 1) lines → AreFrom number lines
from_next number lines all k d low = let up : number + 1 ≤ (get_or lines k d).number = all k d low in omega arith

from_first : (number : ℕ) (first : Line) (lines : List Line) → first.number ≡ number → AreFrom (number + 1) lines → AreFrom number (first ∷ lines)
from_first number first lines is all zero d low = omega arith
from_first number first lines is all (suc k) d low = from_next number lines all k d (omega arith)

rise_on : (stand : TracePosition) (answer : Fed) (lines : List Line) → LinesRise lines → AreFrom (stand.number + 1) lines
    → LinesRise (lines_by stand answer ++ lines) × AreFrom stand.number (lines_by stand answer ++ lines)
rise_on stand (Played pid call recorded skipped) lines rise from =
    let first : Line = record { number = stand.number; process = index_among stand.seen pid; call = call; recorded = recorded } in (
      AllPairs-cons (λ (one other : Line). one.number < other.number) first lines
          (λ k d low. let up : stand.number + 1 ≤ (get_or lines k d).number = from k d low in omega arith) rise,
      from_first stand.number first lines refl from,
    )
rise_on stand other lines rise from = (rise, from_next stand.number lines from)

-- they rise
pub reads_rise : {stand : TracePosition} {texts : List (List ℕ)} {lines : List Line} {skipped : ℕ} → Reads stand texts lines skipped
    → LinesRise lines × AreFrom stand.number lines
reads_rise (nothing left) = ((λ i j d below low. absurd (omega arith)), (λ k d low. absurd (omega arith)))
reads_rise (line {stand = s} {lines = ls} answer asks reads) = let rest = reads_rise reads in rise_on s (taken s answer) ls rest.0 rest.1
