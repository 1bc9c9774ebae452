-- Areas and gaps counted by the pages at which they start.
use Rattle.std.proofs.Common.{◌≡◌, ◌≢◌, ℕ, zero, suc, ◌+◌, ◌-◌, ◌<◌, ◌≤◌, inl, inr, Bool, true, false, not, ◌&&◌, min, nat_lt, if◌then◌else◌, List, [], ◌∷◌}
use Rattle.std.proofs.Common.{length, Option, Some, None, is_none, sym, ◌∙◌, ap, subst, refl, zero-add, arith}
use Rattle.std.proofs.lemmas.Bool.{cases_lt, cases_eq, cases_Bool, lt-ltb, le-ltb, not-false}
use Rattle.std.proofs.lemmas.Bool.Decides.{nat_tests}
use Rattle.page_types.specs.declared.TheConstants.{LIMIT}
use Rattle.page_types.specs.declared.calls.Kind.{Kind}
use Rattle.space_model.specs.declared.areas.Area.{Area}
use Rattle.space_model.specs.Areas.{is_within, IsAreaList, HasKinds, kind_at, gap_between, gaps_from, row_count}
use Rattle.space_model.specs.declared.paint.Patch.{Patch}
use Rattle.space_model.specs.Effect.{painted, with_patch}
use Rattle.space_model.specs.Starts.{same_option, count_if, starts_row, start_count}
use Rattle.space_model.proofs.AreaKinds.{kind_at-here, kind_at-after, kind_at-below, kind_at-end, IsAbove, above_zero, LeadsTo-above}
use Rattle.space_model.proofs.Joining.{same_kind-true, same_kind-same}

-- kinds, or none, that the test calls equal are equal
pub same_option-true : (o q : Option Kind) → same_option o q ≡ true → o ≡ q
same_option-true None None e = refl
same_option-true None (Some m) e = cc
same_option-true (Some k) None e = cc
same_option-true (Some k) (Some m) e = ap (λ x. Some x) (same_kind-true k m e)

-- the test calls a kind, or none, equal to itself
pub same_option-same : (o : Option Kind) → same_option o o ≡ true
same_option-same None = refl
same_option-same (Some k) = same_kind-same k

-- the test tells different kinds apart
pub same_option-false : (o q : Option Kind) → o ≢ q → same_option o q ≡ false
same_option-false o q ne =
    elim (cases_Bool (same_option o q)) [ inl t ↦ absurd (ne (same_option-true o q t)) | inr f ↦ f ]

before_suc : (p : ℕ) → suc p - 1 ≡ p
before_suc p = omega arith

-- no row starts at a page of the same kind as the page before it
pub starts_row-not : (f : ℕ → Option Kind) (p : ℕ) → 0 < p → f (p - 1) ≡ f p → starts_row f p ≡ false
starts_row-not f zero l e = absurd (omega arith)
starts_row-not f (suc p) l e =
    let a : f p ≡ f (suc p) = ap f (sym (before_suc p)) ∙ e in
    ap not (ap (same_option (f p)) (sym a) ∙ same_option-same (f p))

-- a row starts at page 0, and at a page of another kind than the one before it
pub starts_row-if : (f : ℕ → Option Kind) (p : ℕ) → (0 < p → f (p - 1) ≢ f p) → starts_row f p ≡ true
starts_row-if f zero h = refl
starts_row-if f (suc p) h =
    let a : f p ≢ f (suc p) = λ e. h (omega arith) (ap f (before_suc p) ∙ e) in
    ap not (same_option-false (f p) (f (suc p)) a)

never : (b : Bool) → count_if (b && false) ≡ 0
never true = refl
never false = refl

and_true : (b : Bool) → count_if (b && true) ≡ count_if b
and_true true = refl
and_true false = refl

-- a row of some sort starts at a page
abbrev pub row_at : (Option Kind → Bool) → (ℕ → Option Kind) → ℕ → ℕ
row_at sort f p = count_if (sort (f p) && starts_row f p)

-- the rows of some sort that start below a page
unfoldable pub rows_to : (Option Kind → Bool) → (ℕ → Option Kind) → ℕ → ℕ
rows_to sort f zero = 0
rows_to sort f (suc p) = rows_to sort f p + row_at sort f p

-- none starts below page 0
pub rows_none : (sort : Option Kind → Bool) (f : ℕ → Option Kind) → rows_to sort f 0 ≡ 0
unfolding rows_to
rows_none sort f = refl

-- one page more
pub rows_step : (sort : Option Kind → Bool) (f : ℕ → Option Kind) (p : ℕ) → rows_to sort f (suc p) ≡ rows_to sort f p + row_at sort f p
unfolding rows_to
rows_step sort f p = refl

-- where from a page on rows start alike, as many start from there on
pub rows_same : (sort : Option Kind → Bool) (f g : ℕ → Option Kind) (lo n : ℕ) → lo ≤ n →
    ((p : ℕ) → lo ≤ p → p < n → row_at sort g p ≡ row_at sort f p) → rows_to sort g n + rows_to sort f lo ≡ rows_to sort f n + rows_to sort g lo
unfolding rows_to
rows_same sort f g lo zero l same = let e : lo ≡ 0 = omega arith in omega (arith, ap (rows_to sort f) e, ap (rows_to sort g) e)
rows_same sort f g lo (suc n) l same =
    elim (cases_lt n lo) [
      | inl top ↦ let e : lo ≡ suc n = omega arith in omega (arith, ap (rows_to sort f) e, ap (rows_to sort g) e)
      | inr on ↦ omega (arith, same n on (omega arith), rows_same sort f g lo n on (λ p low h. same p low (omega arith)))
    ]

-- of pages of one kind a row starts at the first alone
pub rows_first : (sort : Option Kind → Bool) (f : ℕ → Option Kind) (lo hi : ℕ) (v : Option Kind) → lo < hi →
    ((p : ℕ) → lo ≤ p → p < hi → f p ≡ v) → rows_to sort f hi ≡ rows_to sort f lo + row_at sort f lo
unfolding rows_to
rows_first sort f lo zero v l same = absurd (omega arith)
rows_first sort f lo (suc hi) v l same =
    elim (cases_lt lo hi) [
      | inl lt ↦
          let none : row_at sort f hi ≡ 0 =
          ap (λ b. count_if (sort (f hi) && b))
          (starts_row-not f hi (omega arith) (same (hi - 1) (omega arith) (omega arith) ∙ sym (same hi (omega arith) (omega arith)))) ∙
          never (sort (f hi)) in
          omega (arith, none, rows_first sort f lo hi v lt (λ p g t. same p g (omega arith)))
      | inr ge ↦ let e : hi ≡ lo = omega arith in ap (λ n. rows_to sort f n + row_at sort f n) e
    ]

row_of : (sort : Option Kind → Bool) (f : ℕ → Option Kind) (p : ℕ) (v : Option Kind) → starts_row f p ≡ true → f p ≡ v →
    row_at sort f p ≡ count_if (sort v)
row_of sort f p v start is = (λ i. count_if (sort (is i) && start i)) ∙ and_true (sort v)

-- the gap before a page, if there is one, counted where its sort counts
abbrev pub gap_by : (Option Kind → Bool) → ℕ → ℕ → ℕ
gap_by sort lo hi = if nat_lt lo hi then count_if (sort None) else 0

-- the rows of some sort from a page on
abbrev pub rows_by : (Option Kind → Bool) → ℕ → List Area → ℕ
rows_by sort e [] = gap_by sort e LIMIT
rows_by sort e (a ∷ rest) = gap_by sort e a.lo + (count_if (sort (Some a.kind)) + rows_by sort a.hi rest)

gap_row : (sort : Option Kind → Bool) (f : ℕ → Option Kind) (lo hi : ℕ) → lo ≤ hi → (lo < hi → starts_row f lo ≡ true) →
    ((p : ℕ) → lo ≤ p → p < hi → f p ≡ None) → rows_to sort f hi ≡ rows_to sort f lo + gap_by sort lo hi
gap_row sort f lo hi l start none =
    elim (cases_lt lo hi) [
      | inl lt ↦
          let gap = ap (λ b. if b then count_if (sort None) else 0) (lt-ltb lo hi lt) in
          omega (arith, gap, row_of sort f lo None (start lt) (none lo (omega arith) lt), rows_first sort f lo hi None lt none)
      | inr ge ↦
          let gap = ap (λ b. if b then count_if (sort None) else 0) (le-ltb lo hi ge) in
          let e : hi ≡ lo = omega arith in omega (arith, gap, ap (rows_to sort f) e)
    ]

differ : (o q : Option Kind) (k : Kind) → o ≡ None → o ≡ q → q ≡ Some k → ⊥
differ o q k a b c = cc

-- the rows of some sort that start from a page on are the list's rows of that sort
rows_from : (sort : Option Kind → Bool) (f : ℕ → Option Kind) (A : List Area) (e : ℕ) → IsAreaList A → IsAbove e A → e ≤ LIMIT →
    (e < LIMIT → starts_row f e ≡ true) → ((p : ℕ) → e ≤ p → f p ≡ kind_at A p) →
    rows_to sort f LIMIT ≡ rows_to sort f e + rows_by sort e A
rows_from sort f [] e w above l start same = gap_row sort f e LIMIT l start (λ p g t. same p g)
rows_from sort f (a ∷ rest) e w above l start same =
    let n : a.lo < a.hi = w.0.has_page in
    let none : (p : ℕ) → e ≤ p → p < a.lo → f p ≡ None =
    λ p g t. same p g ∙ kind_at-below (a ∷ rest) a.lo p w (omega arith) t in
    let some : (p : ℕ) → a.lo ≤ p → p < a.hi → f p ≡ Some a.kind =
    λ p g t. same p (omega arith) ∙ kind_at-here a rest p g t in
    let later : (p : ℕ) → a.hi ≤ p → f p ≡ kind_at rest p =
    λ p g. same p (omega arith) ∙ kind_at-after a rest p g in
    let area_start : starts_row f a.lo ≡ true =
    elim (cases_lt e a.lo) [
      | inl lt ↦ starts_row-if f a.lo (λ g same'. differ (f (a.lo - 1)) (f a.lo) a.kind
          (none (a.lo - 1) (omega arith) (omega arith)) same' (some a.lo (omega arith) n))
      | inr ge ↦ let e_is : e ≡ a.lo = omega (arith, above) in subst (λ x. starts_row f x ≡ true) e_is (start (omega arith))
    ] in
    let next_start : starts_row f a.hi ≡ true =
    starts_row-if f a.hi (λ g same'.
    kind_at-end a rest w.1 w.2
    (sym (later a.hi (omega arith)) ∙ sym same' ∙ some (a.hi - 1) (omega arith) (omega arith))) in
    omega (
      arith,
      gap_row sort f e a.lo above (λ lt. start (omega (arith, w.0.below_limit))) none,
      row_of sort f a.lo (Some a.kind) area_start (some a.lo (omega arith) n),
      rows_first sort f a.lo a.hi (Some a.kind) n some,
      rows_from sort f rest a.hi w.2 (LeadsTo-above a rest w.1) w.0.below_limit (λ _. next_start) later,
    )

-- all rows, of areas and of gaps
abbrev pub every : Option Kind → Bool
every o = true

-- the rows of each sort of an area list
rows_by-gaps : (e : ℕ) (A : List Area) → rows_by is_none e A ≡ gaps_from e A
rows_by-gaps e [] = refl
rows_by-gaps e (a ∷ rest) = omega (arith, rows_by-gaps a.hi rest)

rows_by-every : (e : ℕ) (A : List Area) → rows_by every e A ≡ length A + gaps_from e A
rows_by-every e [] = sym (zero-add (gap_between e LIMIT))
rows_by-every e (a ∷ rest) = omega (arith, rows_by-every a.hi rest)

all_rows : (sort : Option Kind → Bool) (A : List Area) → IsAreaList A → rows_to sort (kind_at A) LIMIT ≡ rows_by sort 0 A
all_rows sort A w =
    omega (arith, rows_none sort (kind_at A), rows_from sort (kind_at A) A 0 w (above_zero A) (omega arith) (λ _. refl) (λ p _. refl))

-- the gaps of an area list are as many as the pages without a kind at which a row starts
pub gaps-rows : (A : List Area) → IsAreaList A → rows_to is_none (kind_at A) LIMIT ≡ gaps_from 0 A
gaps-rows A w = all_rows is_none A w ∙ rows_by-gaps 0 A

-- the rows of an area list are as many as the pages at which a row starts
pub every-rows : (A : List Area) → IsAreaList A → rows_to every (kind_at A) LIMIT ≡ row_count A
every-rows A w = all_rows every A w ∙ rows_by-every 0 A

-- a page at which no row starts isn't page 0, and has the kind of the page before it
pub starts_row-false : (f : ℕ → Option Kind) (p : ℕ) → starts_row f p ≡ false → (0 < p) × (f (p - 1) ≡ f p)
starts_row-false f zero e = cc
starts_row-false f (suc p) e =
    (omega arith, ap f (before_suc p) ∙ same_option-true (f p) (f (suc p)) (not-false _ e))

-- where a change doesn't begin or end, two neighbours that were of one kind still are
effect-same : (A : List Area) (change : Patch) (p : ℕ) → p ≢ change.lo → p ≢ change.hi → 0 < p → kind_at A (p - 1) ≡ kind_at A p →
    with_patch change (kind_at A) (p - 1) ≡ with_patch change (kind_at A) p
effect-same A change p n m l e =
    let b : is_within change.lo change.hi (p - 1) ≡ is_within change.lo change.hi p = grind (arith, nat_tests) in
    λ i. if b i then painted change.paint (e i) else e i

-- a test counts 1 at most
pub one-le : (b : Bool) → count_if b ≤ 1
one-le true = omega arith
one-le false = omega arith

-- so there no row starts where none did
no_more : (A B : List Area) (change : Patch) (p : ℕ) → HasKinds (with_patch change (kind_at A)) B → p ≢ change.lo → p ≢ change.hi →
    count_if (starts_row (kind_at B) p) ≤ count_if (starts_row (kind_at A) p)
no_more A B change p k n m =
    elim (cases_Bool (starts_row (kind_at A) p)) [
      | inl t ↦ omega (arith, one-le (starts_row (kind_at B) p), ap count_if t)
      | inr f ↦
          let was = starts_row-false (kind_at A) p f in
          let same = k.kinds_are (p - 1) ∙ effect-same A change p n m was.0 was.1 ∙ sym (k.kinds_are p) in
          omega (arith, ap count_if (starts_row-not (kind_at B) p was.0 same))
    ]

-- and a row more starts at most where the change begins and where it ends
rows_more : (A B : List Area) (change : Patch) (n : ℕ) → HasKinds (with_patch change (kind_at A)) B →
    rows_to every (kind_at B) n ≤ rows_to every (kind_at A) n + (min 1 (n - change.lo) + min 1 (n - change.hi))
unfolding rows_to
rows_more A B change zero k = omega arith
rows_more A B change (suc n) k =
    let most = one-le (starts_row (kind_at B) n) in
    let before = rows_more A B change n k in
    elim (cases_eq n change.lo) [
      | inl e ↦ omega arith
      | inr d ↦ elim (cases_eq n change.hi) [ inl e ↦ omega arith | inr m ↦ omega (arith, no_more A B change n k d m) ]
    ]

-- a change makes at most two rows more
pub row_count-after : (A B : List Area) (change : Patch) → IsAreaList A →
    HasKinds (with_patch change (kind_at A)) B → row_count B ≤ row_count A + 2
row_count-after A B change w k = omega (arith, every-rows A w, every-rows B k.areas, rows_more A B change LIMIT k)

start_count-rows : (f : ℕ → Option Kind) (n : ℕ) → rows_to every f n ≡ start_count f n
unfolding start_count rows_to
start_count-rows f zero = refl
start_count-rows f (suc n) = ap (λ x. x + count_if (starts_row f n)) (start_count-rows f n)

-- the number of rows is the number of pages at which one starts
pub rows_start : (A : List Area) → IsAreaList A → row_count A ≡ start_count (kind_at A) LIMIT
rows_start A w = sym (every-rows A w) ∙ start_count-rows (kind_at A) LIMIT
