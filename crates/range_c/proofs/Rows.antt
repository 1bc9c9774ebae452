-- What is so of each element of a list, by its place, is so of its last and of the others. A seat that is taken from
-- the end of the row of those that are left to share is new, and the others stay so; put back, the row is as it was.
use Rattle.std.proofs.Common.{arith, ◌≡◌, ℕ, ◌+◌, ◌≤◌, ◌^◌, ◌∙◌, List, [], ◌∷◌, ◌++◌, ◌↔◌, Result, Ok, Err, inl, inr, length, sym, refl, ap, subst, true, false}
use Rattle.std.specs.Prelude.{IfOk, IfErr, IsOk}
use Rattle.std.proofs.lemmas.List.{length-append}
use mathlib.Core.Option.{some}
use lib.ListN.{get_elem?}
use Rattle.atomic_table.specs.Seated.{TableId}
use Rattle.atomic_table.proofs.Lists.{at_last, at_longer}
use Rattle.list_cuts.specs.Cut.{Regions, IsCut, list_count}
use Rattle.range_rw.specs.Contract.{IsSeatCount, AreNewSeatsIn, new_seat_in}
use Rattle.range_c.specs.declared.answers.Answer.{Answer}
use Rattle.range_c.specs.declared.answers.Answer.TheVariants.{BadCut}
use Rattle.range_c.specs.Recording.{begun}
use Rattle.c_handles.specs.Asked.{cut_into}
use Rattle.range_c.specs.Behind.{Behind, RecordingSeat, IsNewBehindIn, IsNotOpened, IsNotCut, IsShared, IsSpareShared, IsFreeShared}

-- this is so of each element of the list, by its place
abbrev pub AllAt : {A : Type 0} → (ℕ → A → Type 0) → List A → Type 0
AllAt {A} P l = (k : ℕ) (a : A) → get_elem? l k ≡ some a → P k a

-- what is so of each element by its place is so of the last one, and of those before it
pub popped : {A : Type 0} (P : ℕ → A → Type 0) {old : List A} (new : List A) (a : A) → old ≡ new ++ a ∷ [] → AllAt P old → P (length new) a × AllAt P new
popped P new a e all = (
  all (length new) a (subst (λ l. get_elem? l (length new) ≡ some a) (sym e) (at_last new a (length new) refl)),
  λ k b at. all k b (subst (λ l. get_elem? l k ≡ some b) (sym e) (at_longer new (a ∷ []) k b at)),
)

-- a list is one longer than without its last element
pub longer : {A : Type 0} {old : List A} (new : List A) (a : A) → old ≡ new ++ a ∷ [] → length new + 1 ≡ length old
longer new a e = sym (ap length e ∙ length-append new (a ∷ []))

-- what is at least a list's length is at least that of one that is one shorter
pub fewer : {m n k : ℕ} → m + 1 ≡ n → n ≤ k → m ≤ k
fewer {m} {n} {k} e h = omega arith

-- the seats that are left to share
abbrev pub Row : Type 0
Row = List RecordingSeat

-- what is behind a handle with this seat
abbrev pub behind : RecordingSeat → ℕ → ℕ → ℕ → Regions → Behind
behind seat spare words seats cut = record { seat = seat; spare = spare; words = words; seats = seats; cut = cut }

-- the seat that is taken from the end
pub taken : (lists : ℕ) (t : TableId) (w : List ℕ) {old : Row} (new : Row) (s : RecordingSeat) → old ≡ new ++ s ∷ [] → AreNewSeatsIn lists t (begun w) old
    → (s ≡ new_seat_in lists t (begun w) (length new)) × AreNewSeatsIn lists t (begun w) new
taken lists t w new s e all = popped (λ k (x : RecordingSeat). x ≡ new_seat_in lists t (begun w) k) new s e all

-- a seat put back at the end
pub put_back : {old : Row} (new : Row) {again : Row} {s x : RecordingSeat} → old ≡ new ++ s ∷ [] → x ≡ s → again ≡ new ++ x ∷ [] → again ≡ old
put_back new e is f = f ∙ (ap (λ y. new ++ y ∷ []) is ∙ sym e)

own_table : (lists : ℕ) (t : TableId) (w : List ℕ) (k : ℕ) {s : RecordingSeat} → s ≡ new_seat_in lists t (begun w) k → s ≡ new_seat_in lists s.table (begun w) k
own_table lists t w k {s} e = subst (λ x. s ≡ new_seat_in lists x (begun w) k) (sym (ap (λ (x : RecordingSeat). x.table) e)) e

-- what is behind the first handle of a new table over a cut
pub opens : (t : TableId) {cut c : Regions} {seats n : ℕ} {client : List ℕ} {old : Row} (new : Row) (s : RecordingSeat) {b : Behind} → IsSeatCount seats
    → length client ≤ 2 ^ 20 → length old ≡ seats → old ≡ new ++ s ∷ [] → AreNewSeatsIn (list_count cut) t (begun client) old → n ≡ seats → c ≡ cut
    → b ≡ behind s (length new) (length client) n c → IsNewBehindIn cut seats client b
opens t {cut} {seats} {client} new s counted most len e all same kept is = subst (λ x. IsNewBehindIn cut seats client x) (sym is) (record {
  seat_count = counted;
  word_count = most;
  spare = longer new s e ∙ len;
  seat = own_table (list_count cut) t client (length new) (taken (list_count cut) t client new s e all).0;
  words = refl;
  table_seats = same;
  table_cut = kept;
})

-- what is behind a handle that shares the last of its seats, and behind the new one
pub shares : {t : TableId} {old : Row} (new : Row) (mine s : RecordingSeat) (words seats : ℕ) (cut : Regions) {before b : Behind}
    → behind mine (length old) words seats cut ≡ before → mine.table ≡ t → old ≡ new ++ s ∷ [] → AreNewSeatsIn (list_count cut) t (begun mine.pass.opened) old
    → b ≡ behind s 0 words seats cut → IsSpareShared before (behind mine (length new) words seats cut) b
shares {t} {old} new mine s words seats cut {b} was table e all is =
    let now = behind mine (length new) words seats cut in let w = mine.pass.opened in
    subst (λ x. IsSpareShared x now b) was (subst (λ x. IsSpareShared (behind mine (length old) words seats cut) now x) (sym is) (record {
      kept = refl;
      spare = longer new s e;
      seat = subst (λ x. s ≡ new_seat_in (list_count cut) x (begun w) (length new)) (sym table) (taken (list_count cut) t w new s e all).0;
      rest = refl;
    }))

-- what a table over a cut begins with, by the two numbers of the cut
pub opens_cut : {A E : Type 0} (r : Result A E) (of : A → Behind) {regions bits : ℕ} (seats : ℕ) (client : List ℕ) (cut : Regions) → cut.count ≡ regions
    → cut.bits ≡ bits → IsCut regions bits → IfOk r (λ b. IsNewBehindIn cut seats client (of b))
    → IfOk r (λ b. IsCut regions bits × IsNewBehindIn (cut_into regions bits) seats client (of b))
opens_cut (Ok b) of {bits} seats client cut count size is new =
    (is, subst (λ (k : Regions). IsNewBehindIn k seats client (of b)) (λ i. record { count = count i; bits = size i }) new)
opens_cut (Err e) of seats client cut count size is new = tt

-- where the numbers make a cut, why no table was opened is as without one
pub opens_no_cut : {A : Type 0} (r : Result A Answer) (regions bits seats count : ℕ) → IsCut regions bits
    → IfErr r (IsNotOpened seats count) → IfErr r (IsNotCut regions bits seats count)
opens_no_cut (Ok b) regions bits seats count is why = tt
opens_no_cut (Err e) regions bits seats count is why = inr (is, why)

-- where they make none, that is the cause
pub no_cut : {A E : Type 0} (r : Result A E) (e : E) (regions bits seats count : ℕ) → r ≡ Err e → (IsOk r ↔ IsCut regions bits)
    → IsNotCut regions bits seats count BadCut
no_cut (Ok a) e regions bits seats count is exactly = absurd cc
no_cut (Err x) e regions bits seats count is exactly = inl (refl, λ cut. absurd (let never : false ≡ true = exactly.1 cut in cc))
