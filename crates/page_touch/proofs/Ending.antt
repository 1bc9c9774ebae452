-- What the words have when all seats are in one view: the pages of its calls, each once.
use Rattle.std.proofs.Common.{◌≡◌, ◌≢◌, ◌↔◌, ℕ, zero, suc, ◌+◌, ◌-◌, ◌<◌, ◌≤◌, List, [], ◌∷◌, ◌++◌, length, get_or, take, cond, sum_by, Contains, AllPairs}
use Rattle.std.proofs.Common.{IsPermutation, refl, sym, ap, ◌∙◌, ⊎_elim, arith}
use Rattle.std.proofs.lemmas.Bool.Decides.{eqb_tells}
use Rattle.std.proofs.lemmas.List.{take_more, append-nil, get_or_default}
use Rattle.std.proofs.lemmas.List.Concat.{flat_map-append}
use Rattle.std.proofs.lemmas.List.Sums.{sum_by-cons, sum_by-append}
use Rattle.std.proofs.lemmas.List.Sorted.{sum_by-IsPermutation}
use Rattle.std.specs.List.Sorted.{IsNonDecreasingBy}
use mathlib.Core.Logic.{dite}
use native.Mathlib.Decide.{ℕ_discrete}
use mathlib.Core.Option.{some, some-injective, some-ne-none}
use lib.ListN.{get_elem?}
use Rattle.page_touch.specs.declared.records.SeatRecord.{SeatRecord}
use Rattle.page_touch.specs.Touched.{Ruled, quota_of, first_times, one_if, times}
use Rattle.page_touch.specs.Gathering.{page_in, pages_in}
use Rattle.page_touch.proofs.Counting.{one_same, one_other, at_most_one, never_there}

page_none : {w : ℕ} → w ≡ 0 → page_in w ≡ []
page_none {w} e = ⊎_elim (λ t. ap (λ b. cond b [] ((w - 1) ∷ [])) t.0) (λ t. absurd (t.1 e)) (eqb_tells w 0)

page_some : (w : ℕ) → w ≢ 0 → page_in w ≡ (w - 1) ∷ []
page_some w n = ⊎_elim (λ t. absurd (n t.1)) (λ t. ap (λ b. cond b [] ((w - 1) ∷ [])) t.0) (eqb_tells w 0)

-- one word more
pub one_word_more : (words : List ℕ) (i : ℕ) {w : ℕ} → i < length words → get_or words i 0 ≡ w
    → pages_in (take (i + 1) words) ≡ pages_in (take i words) ++ page_in w
one_word_more words i lt is = ap pages_in (take_more words i 0 lt) ∙ (flat_map-append page_in (take i words) (get_or words i 0 ∷ [])
    ∙ (ap (λ l. pages_in (take i words) ++ l) (append-nil (page_in (get_or words i 0))) ∙ ap (λ n. pages_in (take i words) ++ page_in n) is))

-- a free word adds no page
pub same_pages : (words : List ℕ) (i : ℕ) {w : ℕ} {out : List ℕ} → i < length words → get_or words i 0 ≡ w → w ≡ 0 → out ≡ pages_in (take i words)
    → out ≡ pages_in (take (i + 1) words)
same_pages words i lt is free e = e ∙ (sym (append-nil (pages_in (take i words)))
    ∙ (ap (λ l. pages_in (take i words) ++ l) (sym (page_none free)) ∙ sym (one_word_more words i lt is)))

-- another word adds its page
pub more_pages : (words : List ℕ) (i : ℕ) {w : ℕ} {out : List ℕ} → i < length words → get_or words i 0 ≡ w → w ≢ 0 → out ≡ pages_in (take i words)
    → out ++ (w - 1) ∷ [] ≡ pages_in (take (i + 1) words)
more_pages words i {w} lt is other e = ap (λ l. l ++ (w - 1) ∷ []) e
    ∙ (ap (λ l. pages_in (take i words) ++ l) (sym (page_some w other)) ∙ sym (one_word_more words i lt is))

-- a page is as often among the pages as it stands in words
pub pages_times : (p : ℕ) (words : List ℕ) → times p (pages_in words) ≡ times (p + 1) words
pages_times p [] = refl
pages_times p (w ∷ ws) =
    let rest = pages_times p ws in let c = sum_by-cons (one_if (p + 1)) w ws in
    let a : times p (page_in w ++ pages_in ws) ≡ times p (page_in w) + times p (pages_in ws) = sum_by-append (one_if p) (page_in w) (pages_in ws) in ⊎_elim
    (λ t. let e : times p (page_in w) ≡ 0 = ap (times p) (page_none t.1) in
    let o = one_other (p + 1) w (λ z. let y = t.1 in omega arith) in a ∙ omega arith)
    (λ t. let e : times p (page_in w) ≡ one_if p (w - 1) = ap (times p) (page_some w t.1) ∙ omega arith in
    let o : one_if (p + 1) w ≡ one_if p (w - 1) = ⊎_elim (λ u. one_same {x = p + 1} {y = w} (let x = u.1 in let y = t.1 in omega arith) ∙ sym (one_same u.1))
    (λ u. one_other (p + 1) w (λ z. u.1 (omega arith)) ∙ sym (one_other p (w - 1) u.1)) (eqb_tells (w - 1) p) in a ∙ omega arith) (eqb_tells w 0)

-- a sum that is one element's own, where others have nothing
no_sum : {A : Type 0} (f g : A → ℕ) (l : List A) → sum_by g l ≡ 0 → ((k : ℕ) (a : A) → get_elem? l k ≡ some a → g a ≡ 0 → f a ≡ 0) → sum_by f l ≡ 0
no_sum f g [] e h = refl
no_sum f g (x ∷ xs) e h =
    let p = sum_by-cons f x xs in let q = sum_by-cons g x xs in let one = h 0 x refl (omega arith) in
    let rest = no_sum f g xs (omega arith) (λ k a at z. h (suc k) a at z) in omega arith

-- where one entry has the whole of one sum, and another sum has nothing where that has none, it has the whole of both
pub own_sum : {A : Type 0} (f g : A → ℕ) (l : List A) (id : ℕ) (me : A) → get_elem? l id ≡ some me → sum_by g l ≡ g me
    → ((k : ℕ) (a : A) → get_elem? l k ≡ some a → g a ≡ 0 → f a ≡ 0) → sum_by f l ≡ f me
own_sum f g [] id me at e h = absurd (some-ne-none me (sym at))
own_sum f g (x ∷ xs) zero me at e h =
    let same : x ≡ me = some-injective x me at in let fx = ap f same in let gx = ap g same in
    let p = sum_by-cons f x xs in let q = sum_by-cons g x xs in let rest = no_sum f g xs (omega arith) (λ k a t z. h (suc k) a t z) in omega arith
own_sum {A} f g (x ∷ xs) (suc id) me at e h =
    let p = sum_by-cons f x xs in let q = sum_by-cons g x xs in let least = least_sum g xs id me at in
    let one = h 0 x refl (omega arith) in let rest = own_sum f g xs id me at (omega arith) (λ k a t z. h (suc k) a t z) in omega arith
  where
    least_sum : (g : A → ℕ) (l : List A) (id : ℕ) (me : A) → get_elem? l id ≡ some me → g me ≤ sum_by g l
    least_sum g [] id me at = absurd (some-ne-none me (sym at))
    least_sum g (x ∷ xs) zero me at = let s = ap g (some-injective x me at) in let q = sum_by-cons g x xs in omega arith
    least_sum g (x ∷ xs) (suc id) me at = let r = least_sum g xs id me at in let q = sum_by-cons g x xs in omega arith

-- ---- how often a number is in a list, and whether it is there

-- a number that stands at a place is there at least once
pub times_there : {x : ℕ} (l : List ℕ) (i : ℕ) → i < length l → get_or l i 0 ≡ x → 1 ≤ times x l
times_there [] i lt e = absurd (omega arith)
times_there {x} (y ∷ ys) zero lt e = let c = sum_by-cons (one_if x) y ys in let o = one_same e in omega arith
times_there {x} (y ∷ ys) (suc i) lt e = let c = sum_by-cons (one_if x) y ys in let r = times_there ys i (omega arith) e in omega arith

-- a number that is there at least once stands at some place
pub there_times : (x : ℕ) (l : List ℕ) → 1 ≤ times x l → Contains l x
there_times x [] some_time = absurd (omega arith)
there_times x (y ∷ ys) some_time = ⊎_elim (λ t. (0, omega arith, t.1)) (λ t. let c = sum_by-cons (one_if x) y ys in let o = one_other x y t.1 in
    let r = there_times x ys (omega arith) in let lt = r.1 in (suc r.0, omega arith, r.2)) (eqb_tells y x)

-- a number that stands at two places is there at least twice
pub two_times : {x : ℕ} (l : List ℕ) (i j : ℕ) → i < j → j < length l → get_or l i 0 ≡ x → get_or l j 0 ≡ x → 2 ≤ times x l
two_times [] i j a b e f = absurd (omega arith)
two_times (y ∷ ys) i zero a b e f = absurd (omega arith)
two_times {x} (y ∷ ys) zero (suc j) a b e f = let c = sum_by-cons (one_if x) y ys in let o = one_same e in
    let r = times_there ys j (omega arith) f in omega arith
two_times {x} (y ∷ ys) (suc i) (suc j) a b e f = let c = sum_by-cons (one_if x) y ys in let r = two_times ys i j (omega arith) (omega arith) e f in omega arith

contains_times : (x : ℕ) (l : List ℕ) → Contains l x → 1 ≤ times x l
contains_times x l h = times_there l h.0 h.1 (sym (get_or_default l h.0 x 0 h.1) ∙ h.2)

-- numbers that don't fall, each once, rise
pub rising : (l : List ℕ) → IsNonDecreasingBy (λ (n : ℕ). n) l → ((p : ℕ) → times p l ≤ 1) → AllPairs (λ p q. p < q) l
rising l up once i j d a b =
    let le = up i j d (omega arith) b in let x : ℕ = get_or l i d in
    let is_i : get_or l i 0 ≡ x = get_or_default l i 0 d (omega arith) in
    let is_j : get_or l j 0 ≡ get_or l j d = get_or_default l j 0 d b in
    dite (ℕ_discrete (get_or l j d) x) (λ e. let two = two_times l i j a b is_i (is_j ∙ e) in let one = once x in absurd (omega arith)) (λ differ. omega arith)

-- ---- the one view has all

module _ {room total : ℕ} {words : List ℕ} {views : List SeatRecord} (id : ℕ) (all : SeatRecord) (r : Ruled room total words views)
    (at : get_elem? views id ≡ some all) (quota : all.quota ≡ total) (pages : List ℕ) (moved : IsPermutation (pages_in words) pages) where
  own_firsts : (p : ℕ) → times p all.firsts ≡ times (p + 1) words
  own_firsts p = sym (own_sum (first_times p) quota_of views id all at (r.shares ∙ sym quota)
      (λ k u a none. let w = r.within k u a in let w1 = w.quota in let w2 = w.firsts in never_there p u.firsts (λ i lt. absurd (omega arith)))) ∙ r.told p

  in_words : (p : ℕ) → times p pages ≡ times (p + 1) words
  in_words p = sum_by-IsPermutation (one_if p) (pages_in words) pages moved ∙ pages_times p words

  -- each page was answered First as often as it is among the pages
  pub end_firsts : (p : ℕ) → times p all.firsts ≡ times p pages
  end_firsts p = own_firsts p ∙ sym (in_words p)

  -- each page is among the pages at most once
  pub end_once : (p : ℕ) → times p pages ≤ 1
  end_once p = let wide = r.wide in let e = in_words p in
      let one = at_most_one (p + 1) words (λ i j a b x y. r.alone i j (omega arith) (omega arith) (x ∙ sym y) (λ z. let w = x in omega arith)) in omega arith

  -- the pages are those that were touched
  pub end_pages : (p : ℕ) → Contains pages p ↔ Contains all.touched p
  end_pages p = (
    (λ h. let w = r.within id all at in let n = contains_times p pages h in let e = end_firsts p in w.member p (there_times p all.firsts (omega arith))),
    (λ h. let k = r.kept id p all at h in let wide = r.wide in let lt = k.1 in
        let n = times_there words k.0 (omega arith) k.2 in let e = in_words p in there_times p pages (omega arith)),
  )
