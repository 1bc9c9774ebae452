-- Runs are noted one behind the other, and compared in the same order; the entries of a history follow one another with
-- their changes.
use Rattle.std.proofs.Common.{◌≡◌, ℕ, ◌+◌, ◌<◌, ◌≤◌, inl, inr, true, false, List, [], ◌∷◌, ◌++◌, length, get_or, drop, drop-cons, map, Option, Some, None}
use Rattle.std.proofs.Common.{sym, ◌∙◌, ap, refl, subst, arith, append_assoc, add-one}
use Rattle.std.proofs.Math.ListN.{drop_of_length-le}
use Rattle.std.proofs.lemmas.Bool.{cases_lt}
use Rattle.std.proofs.lemmas.List.{append-nil}
use Rattle.page_types.specs.declared.calls.Kind.{Kind}
use Rattle.space_model.specs.declared.areas.Area.{Area}
use Rattle.space_model.specs.declared.entries.Entry.{Entry}
use Rattle.space_model.specs.declared.sorts.Sort.{Sort}
use Rattle.space_model.specs.declared.sorts.Sort.TheVariants.{Mapped, Unlike}
use Rattle.space_model.specs.Areas.{kind_at}
use Rattle.space_model.specs.Answers.{Answers}
use Rattle.space_model.specs.History.{Chains, HasRightReply}
use Rattle.space_model.specs.Sorts.{IsEnd, is_sort}
use Rattle.space_model.proofs.Counting.{same_option-same}
use Rattle.space_model.proofs.OneAnswer.{one_answer}
use Rattle.space_model.proofs.Remapping.{like_same}
use Rattle.area_changes.specs.declared.changes.AreaChange.{AreaChange}
use Rattle.area_changes.specs.declared.changes.EntryChange.{EntryChange}
use Rattle.area_changes.specs.declared.runs.Run.{Run}
use Rattle.area_changes.specs.declared.stretches.Touched.{Touched}
use Rattle.area_changes.specs.Changes.{AreChanges, Make, of_entry}
use Rattle.area_changes.specs.Touching.{IsUntouched, HasKind, AreRuns, Completes, AreBelow}
use Rattle.area_changes.proofs.Adding.{below_same, all_changes, none_below}

-- ---- a run

-- the sort of pages that end a run of this kind
abbrev pub ending_sort : Option Kind → Sort
ending_sort None = Mapped
ending_sort (Some kind) = Unlike (Some kind)

unmapped : (o : Option Kind) → is_sort Mapped o ≡ false → o ≡ None
unmapped None e = refl
unmapped (Some k) e = cc

-- a page that doesn't end a run is of its kind
kind_of_run : (kind o : Option Kind) → is_sort (ending_sort kind) o ≡ false → o ≡ kind
kind_of_run None o e = unmapped o e
kind_of_run (Some k) o e = like_same (Some k) o e

-- the pages up to the one that ends a run are of its kind
pub run_has_kind : (kinds : ℕ → Option Kind) (kind : Option Kind) (sort : Sort) (lo hi end : ℕ) → sort ≡ ending_sort kind →
    IsEnd kinds sort lo hi end → HasKind kinds lo end kind
run_has_kind kinds kind sort lo hi end is h page l r =
    kind_of_run kind (kinds page) (subst (λ s. is_sort s (kinds page) ≡ false) is (h.none_below page l r))

own_kind : (kind : Option Kind) → is_sort (ending_sort kind) kind ≡ true → ⊥
own_kind None e = cc
own_kind (Some k) e = cc (e, same_option-same (Some k))

-- a run has a page
pub run_has_page : (kinds : ℕ → Option Kind) (kind : Option Kind) (sort : Sort) (lo hi end : ℕ) → sort ≡ ending_sort kind →
    kind ≡ kinds lo → lo < hi → IsEnd kinds sort lo hi end → lo < end
run_has_page kinds kind sort lo hi end is first some h = elim (cases_lt lo end) [
  | inl less ↦ less
  | inr more ↦
      let same : end ≡ lo = omega (arith, h.from) in
      let such : is_sort sort (kinds end) ≡ true = h.such (omega arith) in
      absurd (own_kind kind (subst (λ s. is_sort s kind ≡ true) is (subst (λ o. is_sort sort o ≡ true) (ap kinds same ∙ sym first) such)))
]

-- ---- runs

-- with one run more the runs complete the whole as before
pub completes_next : (kinds : ℕ → Option Kind) (lo hi : ℕ) (so_far : List Run) (at : ℕ) (r : Run) → r.pages.lo ≡ at →
    HasKind kinds at r.pages.hi r.kind → Completes kinds lo hi so_far at → Completes kinds lo hi (so_far ++ r ∷ []) r.pages.hi
completes_next kinds lo hi so_far at r is kind all rest h =
    subst (λ l. AreRuns kinds lo l hi) (sym (append_assoc so_far (r ∷ []) rest)) (all (r ∷ rest) (is, kind, h))

-- where no page is left the runs are all
pub completes_end : (kinds : ℕ → Option Kind) (lo hi : ℕ) (so_far : List Run) (at : ℕ) → at ≡ hi →
    Completes kinds lo hi so_far at → AreRuns kinds lo so_far hi
completes_end kinds lo hi so_far at is all = subst (λ l. AreRuns kinds lo l hi) (append-nil so_far) (all [] is)

-- the first of the runs that are left, and those behind it
pub runs_next : (kinds : ℕ → Option Kind) (runs : List Run) (i at hi : ℕ) (d : Run) → i < length runs → AreRuns kinds at (drop i runs) hi →
    ((get_or runs i d).pages.lo ≡ at) × HasKind kinds at (get_or runs i d).pages.hi (get_or runs i d).kind ×
    AreRuns kinds (get_or runs i d).pages.hi (drop (i + 1) runs) hi
runs_next kinds runs i at hi d low h = let b : drop i runs ≡ get_or runs i d ∷ drop (i + 1) runs = rw (drop-cons runs i d, add-one) refl in
    subst (λ l. AreRuns kinds at l hi) b h

-- the same of a run that was read there
pub runs_at : (kinds : ℕ → Option Kind) (runs : List Run) (i at hi : ℕ) (r : Run) → i < length runs → r ≡ get_or runs i r →
    AreRuns kinds at (drop i runs) hi → (r.pages.lo ≡ at) × HasKind kinds at r.pages.hi r.kind × AreRuns kinds r.pages.hi (drop (i + 1) runs) hi
runs_at kinds runs i at hi r low is h =
    subst (λ (x : Run). (x.pages.lo ≡ at) × HasKind kinds at x.pages.hi x.kind × AreRuns kinds x.pages.hi (drop (i + 1) runs) hi) (sym is)
    (runs_next kinds runs i at hi r low h)

-- where none is left the pages end
pub runs_end : (kinds : ℕ → Option Kind) (runs : List Run) (i at hi : ℕ) → length runs ≤ i → AreRuns kinds at (drop i runs) hi → at ≡ hi
runs_end kinds runs i at hi above h = let b : drop i runs ≡ [] = drop_of_length-le runs above in subst (λ l. AreRuns kinds at l hi) b h

-- ---- a call

-- the changes of a call are those in the pages that it may have changed
pub changes_in : (A B : List Area) (t : Touched) (first second : List Run) (one two : List AreaChange) →
    t.lo ≤ t.hi → t.hi ≤ t.next → t.next ≤ t.end → ((page : ℕ) → IsUntouched t page → kind_at A page ≡ kind_at B page) →
    AreRuns (kind_at A) t.lo first t.hi → AreRuns (kind_at A) t.next second t.end →
    ((before : ℕ → Option Kind) (lo hi : ℕ) → AreRuns before lo first hi → AreBelow before (kind_at B) lo [] → AreBelow before (kind_at B) hi one) →
    ((before : ℕ → Option Kind) (lo hi : ℕ) → AreRuns before lo second hi → AreBelow before (kind_at B) lo one → AreBelow before (kind_at B) hi two) →
    AreChanges (kind_at A) (kind_at B) two
changes_in A B t first second one two a b c kept runs more by_first by_second =
    let begun = none_below (kind_at A) (kind_at B) t.lo (λ page low. kept page (inl low)) in
    let half = by_first (kind_at A) t.lo t.hi runs begun in
    let on = below_same (kind_at A) (kind_at B) t.hi t.next one half b (λ page l r. kept page (inr (inl (l, r)))) in
    let all = by_second (kind_at A) t.next t.end more on in
    all_changes (kind_at A) (kind_at B) t.end two all (λ page l. kept page (inr (inr l)))

-- ---- a history

-- Where a history has come to: the entries that are left have the right replies from area list A on, and the changes
-- that they make complete the list.
pub record GoesOnWith (start : List Area) (entries : List Entry) (A : List Area) (left : List Entry) (list : List EntryChange) : Type 0 where
  pub right : (B : List Area) × Chains HasRightReply A left B
  pub completes : (more : List EntryChange) → Make A left more → Make start entries (list ++ more)

-- the entry that is next
pub next_entry : (entries : List Entry) (i : ℕ) (d : Entry) → i < length entries → drop i entries ≡ get_or entries i d ∷ drop (i + 1) entries
next_entry entries i d low = rw (drop-cons entries i d, add-one) refl

-- it has the right reply
pub next_right : (start : List Area) (entries : List Entry) (A : List Area) (i : ℕ) (d : Entry) (list : List EntryChange) → i < length entries →
    GoesOnWith start entries A (drop i entries) list →
    (B : List Area) × Answers A (get_or entries i d).call (get_or entries i d).reply B
next_right start entries A i d list low h =
    let first = subst (λ l. (B : List Area) × Chains HasRightReply A l B) (next_entry entries i d low) h.right in (first.1.0, first.1.1)

-- behind it the history goes on with what its call leaves, and with its changes
pub goes_on_next : (start : List Area) (entries : List Entry) (A B : List Area) (i : ℕ) (d : Entry) (list : List EntryChange)
    (changes : List AreaChange) → i < length entries → GoesOnWith start entries A (drop i entries) list →
    Answers A (get_or entries i d).call (get_or entries i d).reply B → AreChanges (kind_at A) (kind_at B) changes →
    GoesOnWith start entries B (drop (i + 1) entries) (list ++ map (of_entry (get_or entries i d).number) changes)
goes_on_next start entries A B i d list changes low h answer is =
    let e = get_or entries i d in
    let cut = next_entry entries i d low in
    let first = subst (λ l. (B : List Area) × Chains HasRightReply A l B) cut h.right in
    let same : first.1.0 ≡ B = (one_answer A e.call e.reply e.reply first.1.0 B first.1.1 answer).1 in
    record {
      right = (first.0, subst (λ X. Chains HasRightReply X (drop (i + 1) entries) first.0) same first.1.2);
      completes = λ more made.
          subst (Make start entries) (sym (append_assoc list (map (of_entry e.number) changes) more))
          (h.completes (map (of_entry e.number) changes ++ more)
          (subst (λ l. Make A l (map (of_entry e.number) changes ++ more)) (sym cut) (B, changes, more, answer, is, made, refl)));
    }

-- the same of an entry that was read there
pub goes_on_at : (start : List Area) (entries : List Entry) (A B : List Area) (i : ℕ) (e : Entry) (list : List EntryChange)
    (changes : List AreaChange) → i < length entries → e ≡ get_or entries i e → GoesOnWith start entries A (drop i entries) list →
    Answers A e.call e.reply B → AreChanges (kind_at A) (kind_at B) changes →
    GoesOnWith start entries B (drop (i + 1) entries) (list ++ map (of_entry e.number) changes)
goes_on_at start entries A B i e list changes low is h answer made =
    subst (λ (x : Entry). GoesOnWith start entries B (drop (i + 1) entries) (list ++ map (of_entry x.number) changes)) (sym is)
    (goes_on_next start entries A B i e list changes low h (subst (λ (x : Entry). Answers A x.call x.reply B) is answer) made)

-- at the end the list is that of all entries
pub goes_on_end : (start : List Area) (entries : List Entry) (A : List Area) (i : ℕ) (list : List EntryChange) → length entries ≤ i →
    GoesOnWith start entries A (drop i entries) list → Make start entries list
goes_on_end start entries A i list above h =
    let none : drop i entries ≡ [] = drop_of_length-le entries above in
    subst (Make start entries) (append-nil list) (h.completes [] (subst (λ l. Make A l []) (sym none) refl))
