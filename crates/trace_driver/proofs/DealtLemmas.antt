-- A line that is dealt out goes to the list of its worker, and each other list stays.
use Rattle.std.proofs.Common.{◌≡◌, ◌≢◌, ℕ, zero, suc, ◌+◌, ◌<◌, Bool, true, false, cond, List, [], ◌∷◌, ◌++◌, length, get_or}
use Rattle.std.proofs.Common.{map, take, All, refl, sym, ap, subst, ◌∙◌, arith, inl, inr, Global}
use Rattle.std.specs.Prelude.{◌==◌, Vec, vec_items, set, slice_set, slice_index_or}
use Rattle.std.specs.List.{filter, range_with_len}
use Rattle.std.proofs.lemmas.Bool.{cases_eq}
use Rattle.std.proofs.lemmas.Bool.Decides.{eqb_tells}
use Rattle.std.proofs.lemmas.List.{take_more, length-map, length-set, get_or-set_other, get_or-set_same, map-append, map-set, append-nil}
use Rattle.std.proofs.lemmas.List.Elements.{filter-append, All-push, All-set}
use Rattle.std.proofs.lemmas.List.FromFn.{fill_by_all, get_or-map-range_with_len, length-map-range_with_len, map-range_with_len_more}
use Rattle.page_types.specs.Named.{IsNamedCall}
use Rattle.trace_threads.specs.declared.worker.Line.{Line as Turn}
use Rattle.trace_driver.specs.declared.trace.Line.{Line}
use Rattle.trace_driver.specs.Dealt.{worker_of, played_line, worker_lines, dealt}

-- a list by number that is set at one number is the list by the function that differs there alone
set_at_number : {X : Type 0} (f g : ℕ → X) (at n : ℕ) (y : X) → ((k : ℕ) → k ≢ at → f k ≡ g k) → y ≡ g at → at < n
    → set (map f (range_with_len 0 n)) at y ≡ map g (range_with_len 0 n)
set_at_number {X = X} f g at n y others here low =
    let old : List X = map f (range_with_len 0 n) in let long : length old ≡ n = length-map-range_with_len f 0 n in
    fill_by_all g (set old at y) n y (length-set old at y ∙ long) (λ k below. elim (cases_eq k at) [
      | inl is ↦ ap (λ i. get_or (set old at y) i y) is ∙ get_or-set_same old at y y (omega (arith, low, long)) ∙ here ∙ ap g (sym is)
      | inr apart ↦ get_or-set_other old at k y y apart ∙ get_or-map-range_with_len f 0 n k k y below (omega arith) ∙ others k apart
    ])

-- the line as it is played, where it is one of this worker
abbrev own_line : ℕ → ℕ → Line → List Turn
own_line threads worker line = cond (worker_of threads line == worker) (played_line line ∷ []) []

one_or_none : (is : Bool) (line : Line) → map played_line (cond is (line ∷ []) []) ≡ cond is (played_line line ∷ []) []
one_or_none true line = refl
one_or_none false line = refl

-- with one line more a worker has its own of it more
own_more : (threads : ℕ) (lines : List Line) (line : Line) (k : ℕ)
    → worker_lines threads (lines ++ line ∷ []) k ≡ worker_lines threads lines k ++ own_line threads k line
own_more threads lines line k =
    let mine : Line → Bool = λ l. worker_of threads l == k in
    ap (map played_line) (filter-append mine lines (line ∷ [])) ∙ map-append played_line (filter mine lines) (filter mine (line ∷ []))
    ∙ ap (λ (l : List Turn). worker_lines threads lines k ++ l) (one_or_none (mine line) line)

-- which is the line for its worker, and nothing for another
owned : (threads : ℕ) (line : Line) (k : ℕ) → k ≡ worker_of threads line → own_line threads k line ≡ played_line line ∷ []
owned threads line k is = elim (eqb_tells (worker_of threads line) k) [
  | inl h ↦ ap (λ (b : Bool). cond b (played_line line ∷ []) []) h.0
  | inr h ↦ absurd (h.1 (sym is))
]

other : (threads : ℕ) (line : Line) (k : ℕ) → k ≢ worker_of threads line → own_line threads k line ≡ []
other threads line k apart = elim (eqb_tells (worker_of threads line) k) [
  | inl h ↦ absurd (apart (sym h.1))
  | inr h ↦ ap (λ (b : Bool). cond b (played_line line ∷ []) []) h.0
]

-- the lines of a place among the lists
item_there : (l : List (Vec Turn Global)) (i : ℕ) (d : Vec Turn Global) → vec_items (get_or l i d) ≡ get_or (map vec_items l) i (vec_items d)
item_there [] i d = refl
item_there (x ∷ l) zero d = refl
item_there (x ∷ l) (suc i) d = item_there l i d

-- the calls of a worker's lines have named bits alone
abbrev pub HasNamedTurns : List Turn → Type 0
HasNamedTurns own = All (λ line. IsNamedCall line.call) own

-- a line that is put behind its worker's list is dealt out
pub one_dealt : (threads at : ℕ) (lines : List Line) (line : Line) (all : List (Vec Turn Global)) (own new : Vec Turn Global)
    (turn : Turn) → at ≡ worker_of threads line → at < threads → turn ≡ played_line line → own ≡ slice_index_or all at own → new.items ≡ own.items ++ turn ∷ []
    → map vec_items all ≡ dealt threads lines → map vec_items (slice_set all at new) ≡ dealt threads (lines ++ line ∷ [])
one_dealt threads at lines line all own new turn is low turn_is own_is more so_far =
    let had : own.items ≡ worker_lines threads lines at =
    ap vec_items own_is ∙ item_there all at own ∙ ap (λ (l : List (List Turn)). get_or l at own.items) so_far
    ∙ get_or-map-range_with_len (worker_lines threads lines) 0 threads at at own.items low (omega arith) in
    let now : new.items ≡ worker_lines threads (lines ++ line ∷ []) at =
    more ∙ ap (λ (l : List Turn). l ++ turn ∷ []) had ∙ ap (λ (t : Turn). worker_lines threads lines at ++ t ∷ []) turn_is
    ∙ sym (own_more threads lines line at ∙ ap (λ (l : List Turn). worker_lines threads lines at ++ l) (owned threads line at is)) in
    map-set vec_items all at new ∙ ap (λ (l : List (List Turn)). set l at new.items) so_far
    ∙ set_at_number (worker_lines threads lines) (worker_lines threads (lines ++ line ∷ [])) at threads new.items (λ k apart. sym (own_more threads lines line k
    ∙ ap (λ (l : List Turn). worker_lines threads lines k ++ l) (other threads line k (λ e. apart (e ∙ sym is)))
    ∙ append-nil (worker_lines threads lines k))) now low

-- a line with a named call that is put behind one list leaves all lists with named calls
pub named_dealt : (at : ℕ) (all : List (Vec Turn Global)) (own new : Vec Turn Global) (turn : Turn) → at < length all
    → own ≡ slice_index_or all at own → new.items ≡ own.items ++ turn ∷ [] → IsNamedCall turn.call
    → All HasNamedTurns (map vec_items all) → All HasNamedTurns (map vec_items (slice_set all at new))
named_dealt at all own new turn low own_is more named so_far =
    let had : HasNamedTurns own.items = subst HasNamedTurns (sym (ap vec_items own_is ∙ item_there all at own))
    (so_far at own.items (omega (arith, low, length-map all vec_items))) in
    let now : HasNamedTurns new.items = subst HasNamedTurns (sym more) (All-push (λ (t : Turn). IsNamedCall t.call) own.items turn had named) in
    subst (All HasNamedTurns) (sym (map-set vec_items all at new)) (All-set HasNamedTurns (map vec_items all) at new.items now so_far)

-- one worker more has no line
pub none_more : (threads : ℕ) (lists new : List (List Turn)) → lists ≡ dealt threads [] → new ≡ lists ++ [] ∷ [] → new ≡ dealt (threads + 1) []
none_more threads lists new so_far more = more ∙ ap (λ (l : List (List Turn)). l ++ [] ∷ []) so_far
    ∙ sym (map-range_with_len_more (λ (k : ℕ). worker_lines threads [] k) 0 threads threads (omega arith))

-- what is so of each list so far and of one more is so of all
pub all_more : {X : Type 0} (P : X → Type 0) (xs new : List X) (x : X) → new ≡ xs ++ x ∷ [] → All P xs → P x → All P new
all_more P xs new x more all h = subst (All P) (sym more) (All-push P xs x all h)

-- with the next line dealt out the lines up to it are
pub next_dealt : (threads i : ℕ) (lines : List Line) (d : Line) (all : List (List Turn)) → i < length lines
    → all ≡ dealt threads (take i lines ++ get_or lines i d ∷ []) → all ≡ dealt threads (take (i + 1) lines)
next_dealt threads i lines d all low is = subst (λ (l : List Line). all ≡ dealt threads l) (sym (take_more lines i d low)) is
