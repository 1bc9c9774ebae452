-- Calls that wait in a map: how one is found by its process or by pages that it frees, and how one more is put in.
use Rattle.std.proofs.Common.{◌≡◌, ◌≢◌, ◌⊎◌, ℕ, zero, suc, ◌+◌, ◌-◌, ◌<◌, ◌≤◌, Bool, true, false, cond, List, [], ◌∷◌, Option, Some, None, refl, sym, ap, subst, ◌∙◌, inl, inr, arith}
use Rattle.std.specs.Prelude.{◌==◌, if◌then◌else◌, option_map, unwrap_or, nat_lt, min, max, IfSome, IsNone, OnOk, OnErr, Result, Ok, Err}
use Rattle.std.specs.BTreeMap.{BTreeMap, get, is_at, insert_entry, IsOrdered}
use Rattle.std.specs.BTreeMap.Range.{range_contains, IsInRange}
use Rattle.std.specs.Cmp.{IsTotalOrder, nat_cmp_total, nat_cmp_is, then_total, on_total}
use Rattle.std.specs.List.{AllByRecursion, filter}
use Rattle.std.specs.List.Sorted.{IsStrictlySortedBy}
use Rattle.std.specs.Map.{keys_of, lookup, remove_entry}
use Rattle.std.specs.declared.cmp.Ordering.{Ordering}
use Rattle.std.specs.Ordering.{is_eq, is_gt, is_le, nat_cmp, ordering_then, ordering_reverse, match_ordering}
use Rattle.std.specs.declared.cmp.Ordering.TheVariants.{Less, Equal, Greater}
use Rattle.std.specs.declared.ops.Bound.TheVariants.{Included, Excluded}
use Rattle.std.proofs.Math.Nat.{eq-or-lt_of_le}
use Rattle.std.proofs.lemmas.Bool.Decides.{eqb_tells, nat_tests}
use Rattle.std.proofs.lemmas.Cmp.{tied_itself}
use Rattle.std.proofs.lemmas.Map.Keys.{sorted_head}
use Rattle.std.proofs.lemmas.Map.Lookups.{CmpEqualImpliesEq, exact_unsigned, exact_pairs}
use Rattle.std.proofs.lemmas.Map.Views.{range_contains-from_IsInRange}
use Rattle.line_parts.proofs.Leaves.{bool_cases}
use Rattle.raw_trace.specs.declared.calls.Pages.{Pages}
use Rattle.raw_trace.specs.declared.piece.Piece.{Piece}
use Rattle.raw_trace.specs.Order.{Entry, Picked, freed, meet, pick, stand, pair_cmp, put, of_others}
use Rattle.raw_trace.specs.Waiting.{entry, entries_in, first_key, at_place, without_place, AreBound, AreKnown, AreKept}
use Rattle.raw_trace.proofs.OwnCalls.{NoneIn, none_picked}

-- ---- places

pair_total : IsTotalOrder pair_cmp
pair_total = then_total (on_total (λ (t : ℕ × ℕ). t.0) nat_cmp_total) (on_total (λ (t : ℕ × ℕ). t.1) nat_cmp_total)

pub pair_exact : CmpEqualImpliesEq pair_cmp
pair_exact = exact_pairs nat_cmp nat_cmp exact_unsigned exact_unsigned

equal_is : (o : Ordering) → is_eq o ≡ true → o ≡ Equal
equal_is Equal e = refl
equal_is Less e = absurd cc
equal_is Greater e = absurd cc

-- a place is found at itself
at_itself : (k : ℕ × ℕ) → is_at (pair_cmp k) k ≡ true
at_itself k = ap is_eq (tied_itself pair_total k)

-- and at no other
at_same : (k q : ℕ × ℕ) → is_at (pair_cmp k) q ≡ true → k ≡ q
at_same k q e = pair_exact k q (equal_is (pair_cmp k q) e)

-- at none below it
at_below : (k q : ℕ × ℕ) → pair_cmp q k ≡ Less → is_at (pair_cmp k) q ≡ false
at_below k q e = ap is_eq (pair_total.antisymm k q ∙ ap ordering_reverse e)

-- ---- the call of a process

-- a call stands at the place of the process exactly if it is of it
of_place : (pages : BTreeMap ℕ ℕ) (longest p page : ℕ) (x : (ℕ × ℕ) × Piece) → page ≡ unwrap_or (get nat_cmp pages p) 0 → x.0 ≡ stand (entry x.1)
    → get nat_cmp pages x.0.1 ≡ Some x.0.0 → (x.1.process == p) ≡ is_at (pair_cmp (page, p)) x.0
of_place pages longest p page x g s k = elim (eqb_tells x.1.process p) [
  | inl same ↦ same.0 ∙ sym (at (ap (λ (q : ℕ × ℕ). q.1) s ∙ same.1))
  | inr other ↦ other.0 ∙ sym (never other.1 (bool_cases (is_at (pair_cmp (page, p)) x.0)))
]
  where
    at : x.0.1 ≡ p → is_at (pair_cmp (page, p)) x.0 ≡ true
    at e =
        let first : page ≡ x.0.0 =
        g ∙ ap (λ (q : ℕ). unwrap_or (get nat_cmp pages q) 0) (sym e) ∙ ap (λ (o : Option ℕ). unwrap_or o 0) k in
        subst (λ (q : ℕ × ℕ). is_at (pair_cmp (page, p)) q ≡ true) (λ i. (first i, sym e i)) (at_itself (page, p))

    never : x.1.process ≢ p → (is_at (pair_cmp (page, p)) x.0 ≡ true) ⊎ (is_at (pair_cmp (page, p)) x.0 ≡ false)
        → is_at (pair_cmp (page, p)) x.0 ≡ false
    never n (inr e) = e
    never n (inl e) = absurd (n (sym (ap (λ (q : ℕ × ℕ). q.1) (at_same (page, p) x.0 e ∙ s))))

-- the call of a process is at its place
pub by_process : (pages : BTreeMap ℕ ℕ) (longest p page : ℕ) (es : List ((ℕ × ℕ) × Piece)) → page ≡ unwrap_or (get nat_cmp pages p) 0 → AreBound longest es
    → AreKnown pages es → pick (λ e. e.process == p) (entries_in es)
    ≡ option_map {U = Picked} (λ (piece : Piece). record { first = entry piece; others = entries_in (remove_entry (is_at (pair_cmp (page, p))) es) })
    (lookup (is_at (pair_cmp (page, p))) es)
by_process pages longest p page [] g b k = refl
by_process pages longest p page (x ∷ xs) g b k = by (by_process pages longest p page xs g b.2 k.1) (is_at (pair_cmp (page, p)) x.0) refl
  where
    test : ℕ × ℕ → Bool
    test = is_at (pair_cmp (page, p))

    more : Option Picked → Option Picked
    more = option_map {U = Picked} (λ (q : Picked). record { first = q.first; others = entry x.1 ∷ q.others })

    behind : (o : Option Piece) (es : List Entry) → more (option_map {U = Picked} (λ (piece : Piece). record { first = entry piece; others = es }) o)
        ≡ option_map {U = Picked} (λ (piece : Piece). record { first = entry piece; others = entry x.1 ∷ es }) o
    behind None es = refl
    behind (Some piece) es = refl

    by : pick (λ e. e.process == p) (entries_in xs)
        ≡ option_map {U = Picked} (λ (piece : Piece). record { first = entry piece; others = entries_in (remove_entry test xs) }) (lookup test xs)
        → (t : Bool) → test x.0 ≡ t → pick (λ e. e.process == p) (entries_in (x ∷ xs))
        ≡ option_map {U = Picked} (λ (piece : Piece). record { first = entry piece; others = entries_in (remove_entry test (x ∷ xs)) }) (lookup test (x ∷ xs))
    by rest true e = let same = of_place pages longest p page x g b.0 k.0 ∙ e in rw (same, e) refl
    by rest false e =
        let same = of_place pages longest p page x g b.0 k.0 ∙ e in
        rw (same, e) (ap more rest ∙ behind (lookup test xs) (entries_in (remove_entry test xs)))

-- where none is of a process, all are of others
pub all_others : (p : ℕ) (ws : List Entry) → NoneIn (λ e. e.process == p) ws → of_others p ws ≡ ws
all_others p [] h = refl
all_others p (x ∷ ws) h = rw h.0 (ap (λ (z : List Entry). x ∷ z) (all_others p ws h.1))

-- those of others are of others
pub others_apart : (p : ℕ) (ws : List Entry) → NoneIn (λ e. e.process == p) (of_others p ws)
others_apart p [] = tt
others_apart p (x ∷ ws) = by (others_apart p ws) (x.process == p) refl
  where
    by : NoneIn (λ e. e.process == p) (of_others p ws) → (t : Bool) → (x.process == p) ≡ t
        → NoneIn (λ e. e.process == p) (if t then of_others p ws else x ∷ of_others p ws)
    by rest true e = rest
    by rest false e = (e, rest)

-- where none is picked, the test holds for none
pub none_of_picked : (test : Entry → Bool) (ws : List Entry) → pick test ws ≡ None → NoneIn test ws
none_of_picked test [] e = tt
none_of_picked test (x ∷ ws) e = by (none_of_picked test ws) (test x) refl e
  where
    some_none : (q : Picked) → Some q ≡ None → ⊥
    some_none q e = absurd cc

    rest_none : (o : Option Picked) → option_map {U = Picked} (λ (q : Picked). record { first = q.first; others = x ∷ q.others }) o ≡ None → o ≡ None
    rest_none None e = refl
    rest_none (Some q) e = absurd (some_none _ e)

    by : (pick test ws ≡ None → NoneIn test ws) → (t : Bool) → test x ≡ t
        → (if t then Some (record { first = x; others = ws })
        else option_map {U = Picked} (λ (q : Picked). record { first = q.first; others = x ∷ q.others }) (pick test ws)) ≡ None → NoneIn test (x ∷ ws)
    by rest true t f = absurd (some_none (record { first = x; others = ws }) f)
    by rest false t f = (t, rest (rest_none (pick test ws) f))

-- those behind the place of a process are of others
behind_apart : (pages : BTreeMap ℕ ℕ) (longest p page : ℕ) (es : List ((ℕ × ℕ) × Piece)) → page ≡ unwrap_or (get nat_cmp pages p) 0 → AreBound longest es
    → AreKnown pages es → AllByRecursion (λ q. pair_cmp (page, p) q ≡ Less) (keys_of es) → NoneIn (λ e. e.process == p) (entries_in es)
behind_apart pages longest p page [] g b k l = tt
behind_apart pages longest p page (x ∷ xs) g b k l =
    (of_place pages longest p page x g b.0 k.0 ∙ ap is_eq l.0, behind_apart pages longest p page xs g b.2 k.1 l.1)

-- without the call at the place of a process all are of others
pub taken_others : (pages : BTreeMap ℕ ℕ) (longest p page : ℕ) (es : List ((ℕ × ℕ) × Piece)) → page ≡ unwrap_or (get nat_cmp pages p) 0 → AreBound longest es
    → AreKnown pages es → IsStrictlySortedBy pair_cmp (keys_of es)
    → entries_in (remove_entry (is_at (pair_cmp (page, p))) es) ≡ of_others p (entries_in es)
unfolding IsStrictlySortedBy
taken_others pages longest p page [] g b k s = refl
taken_others pages longest p page (x ∷ xs) g b k s =
    by (taken_others pages longest p page xs g b.2 k.1 s.1) (is_at (pair_cmp (page, p)) x.0) refl
  where
    test : ℕ × ℕ → Bool
    test = is_at (pair_cmp (page, p))

    by : entries_in (remove_entry test xs) ≡ of_others p (entries_in xs) → (t : Bool) → test x.0 ≡ t
        → entries_in (remove_entry test (x ∷ xs)) ≡ of_others p (entries_in (x ∷ xs))
    by rest true e =
        let same = of_place pages longest p page x g b.0 k.0 ∙ e in
        let here = at_same (page, p) x.0 e in
        let apart = behind_apart pages longest p page xs g b.2 k.1
        (subst (λ (q : ℕ × ℕ). AllByRecursion (λ r. pair_cmp q r ≡ Less) (keys_of xs)) (sym here) s.0) in
        rw (same, e) (sym (all_others p (entries_in xs) apart))
    by rest false e =
        let same = of_place pages longest p page x g b.0 k.0 ∙ e in
        rw (same, e) (ap (λ (z : List Entry). entry x.1 ∷ z) rest)

-- ---- the first that frees pages

-- the call at the place of the first for which a test holds
pub record HasFound (test : Entry → Bool) (es : List ((ℕ × ℕ) × Piece)) (k : ℕ × ℕ) : Type 0 where
  -- it
  pub piece : Piece
  -- it is there
  pub there : lookup (is_at (pair_cmp k)) es ≡ Some piece
  -- it is the first
  pub first : pick test (entries_in es) ≡ Some (record { first = entry piece; others = entries_in (remove_entry (is_at (pair_cmp k)) es) })

some_key : (a b : ℕ × ℕ) → Some a ≡ Some b → a ≡ b
some_key a b e = cc

no_key : (k : ℕ × ℕ) → None ≡ Some k → ⊥
no_key k e = absurd cc

-- what holds of each place holds of the first
key_among : (P : ℕ × ℕ → Type 0) (test : Entry → Bool) (es : List ((ℕ × ℕ) × Piece)) (k : ℕ × ℕ) → AllByRecursion P (keys_of es) → first_key test es ≡ Some k
    → P k
key_among P test [] k h e = absurd (no_key k e)
key_among P test (x ∷ xs) k h e = by (key_among P test xs k h.1) (test (entry x.1)) e
  where
    by : (first_key test xs ≡ Some k → P k) → (t : Bool) → (if t then Some x.0 else first_key test xs) ≡ Some k → P k
    by rest true f = subst P (some_key x.0 k f) h.0
    by rest false f = rest f

-- the first that passes a test is found at its place
pub has_found : (test : Entry → Bool) (es : List ((ℕ × ℕ) × Piece)) (k : ℕ × ℕ) → IsStrictlySortedBy pair_cmp (keys_of es)
    → first_key test es ≡ Some k → HasFound test es k
unfolding IsStrictlySortedBy
has_found test [] k s e = absurd (no_key k e)
has_found test (x ∷ xs) k s e = by (has_found test xs k s.1) (test (entry x.1)) refl e
  where
    by : (first_key test xs ≡ Some k → HasFound test xs k) → (t : Bool) → test (entry x.1) ≡ t
        → (if t then Some x.0 else first_key test xs) ≡ Some k → HasFound test (x ∷ xs) k
    by more true t f =
        let here : x.0 ≡ k = some_key x.0 k f in
        let at : is_at (pair_cmp k) x.0 ≡ true = subst (λ (q : ℕ × ℕ). is_at (pair_cmp q) x.0 ≡ true) here (at_itself x.0) in
        record { piece = x.1; there = rw at refl; first = rw (t, at) refl }
    by more false t rest =
        let h = more rest in
        let at = at_below k x.0 (key_among (λ (q : ℕ × ℕ). pair_cmp x.0 q ≡ Less) test xs k s.0 rest) in
        record {
          piece = h.piece;
          there = rw at h.there;
          first = rw (t, at) (ap (option_map {U = Picked} (λ (q : Picked). record { first = q.first; others = entry x.1 ∷ q.others })) h.first);
        }

-- where none passes it, none is picked
pub none_found : (test : Entry → Bool) (es : List ((ℕ × ℕ) × Piece)) → first_key test es ≡ None → pick test (entries_in es) ≡ None
none_found test [] e = refl
none_found test (x ∷ xs) e = by (none_found test xs) (test (entry x.1)) refl e
  where
    by : (first_key test xs ≡ None → pick test (entries_in xs) ≡ None) → (t : Bool) → test (entry x.1) ≡ t
        → (if t then Some x.0 else first_key test xs) ≡ None → pick test (entries_in (x ∷ xs)) ≡ None
    by more true t f = absurd (no_key x.0 (sym f))
    by more false t f = rw t (ap (option_map {U = Picked} (λ (q : Picked). record { first = q.first; others = entry x.1 ∷ q.others })) (more f))

-- a call that frees some of these pages stands in the range
stands_in : (longest : ℕ) (pages : Pages) (f : Pages) (k : ℕ × ℕ) → k.0 ≡ f.from → f.to ≤ k.0 + longest → meet f pages ≡ true
    → range_contains pair_cmp (Included (pages.from - longest, 0)) (Excluded (pages.to, 0)) k ≡ true
stands_in longest pages f k e b m =
    range_contains-from_IsInRange pair_total (Included (pages.from - longest, 0)) (Excluded (pages.to, 0)) k (from_low (eq-or-lt_of_le low), below)
  where
    overlap : nat_lt (max f.from pages.from) (min f.to pages.to) ≡ true → (f.from < pages.to) × (pages.from < f.to)
    overlap h = (grind (arith, nat_tests), grind (arith, nat_tests))

    low : pages.from - longest ≤ k.0
    low = let o = (overlap m).1 in omega (arith, b, o)

    below : pair_cmp k (pages.to, 0) ≡ Less
    below =
        let o = (overlap m).0 in
        let l : nat_cmp k.0 pages.to ≡ Less = sym (nat_cmp_is k.0 pages.to Less (omega (arith, e, o))) in
        ap (λ (z : Ordering). ordering_then z (nat_cmp k.1 0)) l

    not_above : (n : ℕ) → (0 ≡ n) ⊎ (0 < n) → is_gt (nat_cmp 0 n) ≡ false
    not_above n (inl e) = ap is_gt (sym (nat_cmp_is 0 n Equal e))
    not_above n (inr l) = ap is_gt (sym (nat_cmp_is 0 n Less l))

    from_low : (pages.from - longest ≡ k.0) ⊎ (pages.from - longest < k.0) → is_gt (pair_cmp (pages.from - longest, 0) k) ≡ false
    from_low (inr l) = ap (λ (z : Ordering). is_gt (ordering_then z (nat_cmp 0 k.1))) (sym (nat_cmp_is (pages.from - longest) k.0 Less l))
    from_low (inl s) =
        ap (λ (z : Ordering). is_gt (ordering_then z (nat_cmp 0 k.1))) (sym (nat_cmp_is (pages.from - longest) k.0 Equal s))
        ∙ not_above k.1 (eq-or-lt_of_le (omega arith))

-- so the first in the range is the first of all
pub first_in_range : (longest : ℕ) (pages : Pages) (es : List ((ℕ × ℕ) × Piece)) → AreBound longest es
    → first_key (λ o. meet (freed o.call) pages)
    (filter (λ e. range_contains pair_cmp (Included (pages.from - longest, 0)) (Excluded (pages.to, 0)) e.0) es)
    ≡ first_key (λ o. meet (freed o.call) pages) es
first_in_range longest pages [] b = refl
first_in_range longest pages (x ∷ xs) b = by (first_in_range longest pages xs b.2) (range x.0) refl
  where
    range : ℕ × ℕ → Bool
    range = range_contains pair_cmp (Included (pages.from - longest, 0)) (Excluded (pages.to, 0))

    test : Entry → Bool
    test = λ o. meet (freed o.call) pages

    never : range x.0 ≡ false → (test (entry x.1) ≡ true) ⊎ (test (entry x.1) ≡ false) → test (entry x.1) ≡ false
    never r (inr f) = f
    never r (inl t) =
        let is = stands_in longest pages (freed x.1.call) x.0 (ap (λ (q : ℕ × ℕ). q.0) b.0) b.1 t in
        absurd cc

    by : first_key test (filter (λ e. range e.0) xs) ≡ first_key test xs → (t : Bool) → range x.0 ≡ t
        → first_key test (cond t (x ∷ filter (λ e. range e.0) xs) (filter (λ e. range e.0) xs)) ≡ first_key test (x ∷ xs)
    by rest true r = ap (λ (z : Option (ℕ × ℕ)). if test (entry x.1) then Some x.0 else z) rest
    by rest false r = rw (never r (bool_cases (test (entry x.1)))) rest

-- the same, from a number on
pub first_from : (low longest : ℕ) (pages : Pages) (es : List ((ℕ × ℕ) × Piece)) → low ≡ pages.from - longest → AreBound longest es
    → first_key (λ o. meet (freed o.call) pages)
    (filter (λ e. range_contains pair_cmp (Included (low, 0)) (Excluded (pages.to, 0)) e.0) es)
    ≡ first_key (λ o. meet (freed o.call) pages) es
first_from low longest pages es e b =
    ap (λ (l : ℕ). first_key (λ o. meet (freed o.call) pages)
    (filter (λ e. range_contains pair_cmp (Included (l, 0)) (Excluded (pages.to, 0)) e.0) es)) e
    ∙ first_in_range longest pages es b

-- no pages meet where there are none
pub none_meet : (pages : Pages) (es : List ((ℕ × ℕ) × Piece)) → pages.to ≤ pages.from → first_key (λ o. meet (freed o.call) pages) es ≡ None
none_meet pages [] l = refl
none_meet pages (x ∷ xs) l = rw (apart (freed x.1.call)) (none_meet pages xs l)
  where
    apart : (f : Pages) → meet f pages ≡ false
    apart f = grind (arith, nat_tests)

-- ---- one more

-- what a map has is what waits
pub put_entries : (es : List ((ℕ × ℕ) × Piece)) (longest : ℕ) (k : ℕ × ℕ) (piece : Piece) → AreBound longest es → k ≡ stand (entry piece)
    → entries_in (insert_entry pair_cmp es k piece) ≡ put (entry piece) (entries_in es)
put_entries [] longest k piece b e = refl
put_entries (x ∷ xs) longest k piece b e =
    by (put_entries xs longest k piece b.2 e) (pair_cmp k x.0)
    ∙ (λ i. match_ordering (pair_cmp (e i) (b.0 i)) (entry piece ∷ (entry x.1 ∷ entries_in xs)) (entry piece ∷ entries_in xs)
    (entry x.1 ∷ put (entry piece) (entries_in xs)))
  where
    by : entries_in (insert_entry pair_cmp xs k piece) ≡ put (entry piece) (entries_in xs) → (o : Ordering)
        → entries_in (match_ordering o ((k, piece) ∷ (x ∷ xs)) ((x.0, piece) ∷ xs) (x ∷ insert_entry pair_cmp xs k piece))
        ≡ match_ordering o (entry piece ∷ (entry x.1 ∷ entries_in xs)) (entry piece ∷ entries_in xs) (entry x.1 ∷ put (entry piece) (entries_in xs))
    by rest Less = refl
    by rest Equal = refl
    by rest Greater = ap (λ (z : List Entry). entry x.1 ∷ z) rest

-- none frees more than a larger number
pub bound_more : (longest more : ℕ) (es : List ((ℕ × ℕ) × Piece)) → longest ≤ more → AreBound longest es → AreBound more es
bound_more longest more [] l b = tt
bound_more longest more (x ∷ xs) l b = (b.0, omega (arith, l, b.1), bound_more longest more xs l b.2)

pub bound_put : (longest : ℕ) (es : List ((ℕ × ℕ) × Piece)) (k : ℕ × ℕ) (piece : Piece) → AreBound longest es → k ≡ stand (entry piece)
    → (freed piece.call).to ≤ k.0 + longest → AreBound longest (insert_entry pair_cmp es k piece)
bound_put longest [] k piece b e l = (e, l, tt)
bound_put longest (x ∷ xs) k piece b e l = by (bound_put longest xs k piece b.2 e l) (pair_cmp k x.0) refl
  where
    by : AreBound longest (insert_entry pair_cmp xs k piece) → (o : Ordering) → pair_cmp k x.0 ≡ o
        → AreBound longest (match_ordering o ((k, piece) ∷ (x ∷ xs)) ((x.0, piece) ∷ xs) (x ∷ insert_entry pair_cmp xs k piece))
    by rest Less o = (e, l, b)
    by rest Equal o =
        let same = pair_exact k x.0 o in
        (sym same ∙ e, subst (λ (q : ℕ × ℕ). (freed piece.call).to ≤ q.0 + longest) same l, b.2)
    by rest Greater o = (b.0, b.1, rest)

-- the places of other processes are known still
pub known_same : (old new : BTreeMap ℕ ℕ) (p longest : ℕ) (es : List ((ℕ × ℕ) × Piece))
    → ((q : ℕ) → q ≢ p → get nat_cmp new q ≡ get nat_cmp old q) → NoneIn (λ e. e.process == p) (entries_in es) → AreBound longest es
    → AreKnown old es → AreKnown new es
known_same old new p longest [] same n b k = tt
known_same old new p longest (x ∷ xs) same n b k =
    (same x.0.1 (λ is. other (sym (ap (λ (q : ℕ × ℕ). q.1) b.0) ∙ is)) ∙ k.0, known_same old new p longest xs same n.1 b.2 k.1)
  where
    other : x.1.process ≢ p
    other is = elim (eqb_tells x.1.process p) [
      | inl same ↦ (let never = n.0 in let is = same.0 in absurd cc)
      | inr differ ↦ differ.1 is
    ]

pub known_put : (pages : BTreeMap ℕ ℕ) (es : List ((ℕ × ℕ) × Piece)) (k : ℕ × ℕ) (piece : Piece) → get nat_cmp pages k.1 ≡ Some k.0
    → AreKnown pages es → AreKnown pages (insert_entry pair_cmp es k piece)
known_put pages [] k piece g h = (g, tt)
known_put pages (x ∷ xs) k piece g h = by (known_put pages xs k piece g h.1) (pair_cmp k x.0)
  where
    by : AreKnown pages (insert_entry pair_cmp xs k piece) → (o : Ordering) → AreKnown pages
        (match_ordering o ((k, piece) ∷ (x ∷ xs)) ((x.0, piece) ∷ xs) (x ∷ insert_entry pair_cmp xs k piece))
    by rest Less = (g, h)
    by rest Equal = h
    by rest Greater = (h.0, rest)

-- ---- one fewer

pub bound_less : (longest : ℕ) (test : ℕ × ℕ → Bool) (es : List ((ℕ × ℕ) × Piece)) → AreBound longest es → AreBound longest (remove_entry test es)
bound_less longest test [] b = tt
bound_less longest test (x ∷ xs) b = by (bound_less longest test xs b.2) (test x.0)
  where
    by : AreBound longest (remove_entry test xs) → (t : Bool) → AreBound longest (cond t xs (x ∷ remove_entry test xs))
    by rest true = b.2
    by rest false = (b.0, b.1, rest)

pub known_less : (pages : BTreeMap ℕ ℕ) (test : ℕ × ℕ → Bool) (es : List ((ℕ × ℕ) × Piece)) → AreKnown pages es → AreKnown pages (remove_entry test es)
known_less pages test [] k = tt
known_less pages test (x ∷ xs) k = by (known_less pages test xs k.1) (test x.0)
  where
    by : AreKnown pages (remove_entry test xs) → (t : Bool) → AreKnown pages (cond t xs (x ∷ remove_entry test xs))
    by rest true = k.1
    by rest false = (k.0, rest)

-- ---- what is taken out

-- what was taken out is picked, and nothing where none is
pub record Took (test : Entry → Bool) (before : List Entry) (found : Option Piece) (after : List Entry) : Type 0 where
  -- the one
  pub some : IfSome found (λ piece. pick test before ≡ Some (record { first = entry piece; others = after }))
  -- or none
  pub none : IsNone found → (pick test before ≡ None) × (after ≡ before)

took_picked : (test : Entry → Bool) (before : List Entry) (found : Option Piece) (after : List Entry)
    → pick test before ≡ option_map {U = Picked} (λ (piece : Piece). record { first = entry piece; others = after }) found
    → (IsNone found → after ≡ before) → Took test before found after
took_picked test before None after e same = record { some = tt; none = λ n. (e, same n) }
took_picked test before (Some piece) after e same = record { some = e; none = λ n. absurd cc }

-- where a place is free nothing is taken out
none_at : (test : ℕ × ℕ → Bool) (es : List ((ℕ × ℕ) × Piece)) → IsNone (lookup test es) → remove_entry test es ≡ es
none_at test [] n = refl
none_at test (x ∷ xs) n = by (none_at test xs) (test x.0) n
  where
    by : (IsNone (lookup test xs) → remove_entry test xs ≡ xs) → (t : Bool) → IsNone (cond t (Some x.1) (lookup test xs))
        → cond t xs (x ∷ remove_entry test xs) ≡ x ∷ xs
    by rest true k = absurd cc
    by rest false k = ap (λ (z : List ((ℕ × ℕ) × Piece)). x ∷ z) (rest k)

-- the call of a process
pub took_of : (pages : BTreeMap ℕ ℕ) (longest p page : ℕ) (old new : List ((ℕ × ℕ) × Piece)) (found : Option Piece) (before : List Entry)
    → entries_in old ≡ before → page ≡ unwrap_or (get nat_cmp pages p) 0 → AreBound longest old → AreKnown pages old
    → found ≡ at_place (Some (page, p)) old → new ≡ without_place (Some (page, p)) old → Took (λ e. e.process == p) before found (entries_in new)
took_of pages longest p page old new found before v g b k f n =
    let test = is_at (pair_cmp (page, p)) in
    took_picked (λ e. e.process == p) before found (entries_in new)
    (ap (pick (λ e. e.process == p)) (sym v) ∙ by_process pages longest p page old g b k
    ∙ (λ i. option_map {U = Picked} (λ (piece : Piece). record { first = entry piece; others = entries_in (sym n i) }) (sym f i)))
    (λ none. ap entries_in (n ∙ none_at test old (subst IsNone f none)) ∙ v)

-- the first that frees pages
pub took_first : (test : Entry → Bool) (old new : List ((ℕ × ℕ) × Piece)) (place : Option (ℕ × ℕ)) (found : Option Piece) (before : List Entry)
    → entries_in old ≡ before → IsStrictlySortedBy pair_cmp (keys_of old) → place ≡ first_key test old → found ≡ at_place place old
    → new ≡ without_place place old → Took test before found (entries_in new)
took_first test old new None found before v s p f n =
    took_picked test before found (entries_in new)
    (ap (pick test) (sym v) ∙ none_found test old (sym p) ∙ ap (option_map {U = Picked}
    (λ (piece : Piece). record { first = entry piece; others = entries_in new })) (sym f))
    (λ none. ap entries_in n ∙ v)
took_first test old new (Some k) found before v s p f n =
    let h = has_found test old k s (sym p) in
    took_picked test before found (entries_in new)
    (ap (pick test) (sym v) ∙ h.first ∙ (λ i. Some (record { first = entry h.piece; others = entries_in (sym n i) }))
    ∙ ap (option_map {U = Picked} (λ (piece : Piece). record { first = entry piece; others = entries_in new })) (sym h.there ∙ sym f))
    (λ none. ap entries_in (n ∙ none_at (is_at (pair_cmp k)) old (subst IsNone f none)) ∙ v)

-- those that are left are kept as they were
pub kept_left : (pages : BTreeMap ℕ ℕ) (longest : ℕ) (old new : BTreeMap (ℕ × ℕ) Piece) (place : Option (ℕ × ℕ)) → AreKept old pages longest
    → (IsOrdered pair_cmp old → IsOrdered pair_cmp new) → new.entries ≡ without_place place old.entries → AreKept new pages longest
kept_left pages longest old new None k o n =
    record { ordered = o k.ordered; bound = subst (AreBound longest) (sym n) k.bound; known = subst (AreKnown pages) (sym n) k.known }
kept_left pages longest old new (Some place) k o n =
    let test = is_at (pair_cmp place) in
    record {
      ordered = o k.ordered;
      bound = subst (AreBound longest) (sym n) (bound_less longest test old.entries k.bound);
      known = subst (AreKnown pages) (sym n) (known_less pages test old.entries k.known);
    }

-- one more is kept too
pub kept_put : {A B : Type 0} (r : Result A B) (pages : BTreeMap ℕ ℕ) (longest more : ℕ) (old new : BTreeMap (ℕ × ℕ) Piece) (k : ℕ × ℕ) (piece : Piece)
    → OnOk r (new.entries ≡ insert_entry pair_cmp old.entries k piece) → OnErr r (new.entries ≡ old.entries) → IsOrdered pair_cmp new
    → longest ≤ more → AreBound longest old.entries → AreKnown pages old.entries → k ≡ stand (entry piece)
    → (freed piece.call).to ≤ k.0 + more → get nat_cmp pages k.1 ≡ Some k.0 → AreKept new pages more
kept_put (Ok x) pages longest more old new k piece e s o l b h is fits g =
    record {
      ordered = o;
      bound = subst (AreBound more) (sym e) (bound_put more old.entries k piece (bound_more longest more old.entries l b) is fits);
      known = subst (AreKnown pages) (sym e) (known_put pages old.entries k piece g h);
    }
kept_put (Err x) pages longest more old new k piece e s o l b h is fits g =
    record {
      ordered = o;
      bound = subst (AreBound more) (sym s) (bound_more longest more old.entries l b);
      known = subst (AreKnown pages) (sym s) h;
    }

-- a range from below the pages on runs forward
pub runs_forward : (low to : ℕ) → low ≤ to → is_gt (pair_cmp (low, 0) (to, 0)) ≡ false
runs_forward low to l = by (eq-or-lt_of_le l)
  where
    by : (low ≡ to) ⊎ (low < to) → is_gt (pair_cmp (low, 0) (to, 0)) ≡ false
    by (inl e) = ap (λ (z : Ordering). is_gt (ordering_then z Equal)) (sym (nat_cmp_is low to Equal e))
    by (inr l) = ap (λ (z : Ordering). is_gt (ordering_then z Equal)) (sym (nat_cmp_is low to Less l))
