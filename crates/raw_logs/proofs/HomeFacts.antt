-- The homes of numbers: the last of one up to a place, and a link more.
use Rattle.std.proofs.Common.{◌≡◌, ◌≢◌, ◌⊎◌, ℕ, zero, suc, ◌+◌, ◌<◌, ◌≤◌, List, [], ◌∷◌, ◌++◌, Bool, true, false, Option, Some, None, refl, sym, ap, subst, ◌∙◌}
use Rattle.std.proofs.Common.{inl, inr, cond, eqb, arith}
use Rattle.std.specs.Prelude.{◌==◌, nat_lt, not, if◌then◌else◌, is_some, IsSome, Result, Ok, Err, OnOk}
use Rattle.std.specs.declared.alloc.AllocError.{AllocError}
use Rattle.std.specs.BTreeMap.{BTreeMap, get}
use Rattle.std.specs.BTreeMap.Range.{IsInRange, IsRangeOf}
use Rattle.std.specs.Cmp.{nat_cmp_is}
use Rattle.std.specs.declared.cmp.Ordering.{Ordering}
use Rattle.std.specs.declared.cmp.Ordering.TheVariants.{Less, Equal, Greater}
use Rattle.std.specs.declared.ops.Bound.TheVariants.{Included}
use Rattle.std.specs.Ordering.{nat_cmp, is_eq, is_gt, is_lt, ordering_then}
use Rattle.std.proofs.Math.Nat.{eq-or-lt_of_le}
use Rattle.std.proofs.lemmas.Bool.{eqb-true, eq-eqb}
use Rattle.std.proofs.lemmas.Bool.Decides.{nat_tests}
use Rattle.std.proofs.lemmas.List.{append-nil}
use Rattle.std.proofs.lemmas.Map.Keys.{le_from_not_gt, ge_from_not_lt}
use Rattle.std.proofs.lemmas.Map.Lookups.{exact_unsigned, exact_pairs}
use Rattle.raw_logs.specs.declared.spaces.Home.{Home}
use Rattle.raw_logs.specs.declared.spaces.Made.{Made}
use Rattle.raw_logs.specs.declared.told.Told.{Told}
use Rattle.raw_lines.specs.declared.makers.MadeAs.{MadeAs}
use Rattle.raw_lines.specs.declared.makers.MadeAs.TheVariants.{Thread}
use Rattle.raw_lines.specs.declared.makers.Making.{Making}
use Rattle.raw_lines.specs.declared.makers.Making.TheVariants.{Makes, Begins, Ends, Execs, Nothing}
use Rattle.raw_logs.specs.Spaces.{links, link_of, made_from, exec_place, ended_by, has_left, led, space_at, decides_at, is_made}
use Rattle.raw_logs.specs.Stages.{AreBefore, AreLatestFirst, pair_cmp, home_at, home_or, last_at, space_or, space_in, AreSpaces, HasSpaces}

-- ---- the last home up to a place

not_gt_first : (o p : Ordering) → is_gt (ordering_then o p) ≡ false → is_gt o ≡ false
not_gt_first Less p e = refl
not_gt_first Equal p e = refl
not_gt_first Greater p e = e

-- what the range of a number up to a place has
in_range : (pid place : ℕ) (q : ℕ × ℕ) → IsInRange pair_cmp (Included (pid, 0)) (Included (pid, place)) q → (q.0 ≡ pid) × (q.1 ≤ place)
in_range pid place q h =
    let low : pid ≤ q.0 = le_from_not_gt pid q.0 (not_gt_first (nat_cmp pid q.0) (nat_cmp 0 q.1) h.0) in
    let high : q.0 ≤ pid = le_from_not_gt q.0 pid (not_gt_first (nat_cmp q.0 pid) (nat_cmp q.1 place) h.1) in
    let same : q.0 ≡ pid = omega (arith, low, high) in
    (same, le_from_not_gt q.1 place (ap (λ (o : Ordering). is_gt (ordering_then o (nat_cmp q.1 place))) (nat_cmp_is q.0 pid Equal same) ∙ h.1))

not_gt : (a b : ℕ) → a ≤ b → is_gt (nat_cmp a b) ≡ false
not_gt a b l = by (eq-or-lt_of_le l)
  where
    by : (a ≡ b) ⊎ (a < b) → is_gt (nat_cmp a b) ≡ false
    by (inl e) = ap is_gt (sym (nat_cmp_is a b Equal e))
    by (inr k) = ap is_gt (sym (nat_cmp_is a b Less k))

-- a place of a number isn't above a later one
pub pair_le : (pid a b : ℕ) → a ≤ b → is_gt (pair_cmp (pid, a) (pid, b)) ≡ false
pair_le pid a b l = ap (λ (o : Ordering). is_gt (ordering_then o (nat_cmp a b))) (sym (nat_cmp_is pid pid Equal refl)) ∙ not_gt a b l

not_lt : (pid a b : ℕ) → is_lt (pair_cmp (pid, a) (pid, b)) ≡ false → b ≤ a
not_lt pid a b e = ge_from_not_lt a b (ap (λ (o : Ordering). is_lt (ordering_then o (nat_cmp a b))) (nat_cmp_is pid pid Equal refl) ∙ e)

none_or_some : (o : Option Home) → (o ≡ None) ⊎ IsSome o
none_or_some None = inl refl
none_or_some (Some x) = inr refl

-- where none is up to a place, none is the last
pub last_none : (at : ℕ → Option Home) (place : ℕ) → ((k : ℕ) → k ≤ place → at k ≡ None) → last_at at place ≡ None
last_none at zero h = h 0 (omega arith)
last_none at (suc place) h =
    ap (λ (o : Option Home). home_or o (last_at at place)) (h (suc place) (omega arith)) ∙ last_none at place (λ k l. h k (omega (arith, l)))

-- one behind which there is none up to the place is the last
pub last_some : (at : ℕ → Option Home) (place k : ℕ) (home : Home) → k ≤ place → at k ≡ Some home → ((j : ℕ) → k < j → j ≤ place → at j ≡ None)
    → last_at at place ≡ Some home
last_some at zero k home l is none =
    let e : k ≡ 0 = omega (arith, l) in
    ap at (sym e) ∙ is
last_some at (suc place) k home l is none =
    by (eq-or-lt_of_le l) (λ m. last_some at place k home m is (λ j a c. none j a (omega (arith, c))))
  where
    by : (k ≡ suc place) ⊎ (k < suc place) → (k ≤ place → last_at at place ≡ Some home) → last_at at (suc place) ≡ Some home
    by (inl e) rest = ap (λ (o : Option Home). home_or o (last_at at place)) (ap at (sym e) ∙ is)
    by (inr b) rest = ap (λ (o : Option Home). home_or o (last_at at place)) (none (suc place) b (omega arith)) ∙ rest (omega (arith, b))

-- homes that are the same have the same last one
pub last_same : (at bt : ℕ → Option Home) (place : ℕ) → ((k : ℕ) → k ≤ place → at k ≡ bt k) → last_at at place ≡ last_at bt place
last_same at bt zero h = h 0 (omega arith)
last_same at bt (suc place) h =
    ap (λ (o : Option Home). home_or o (last_at at place)) (h (suc place) (omega arith))
    ∙ ap (home_or (bt (suc place))) (last_same at bt place (λ k l. h k (omega (arith, l))))

-- the range that was asked for is that of a number up to a place
pub range_is : (homes : BTreeMap (ℕ × ℕ) Home) (pid place : ℕ) (a b : ℕ × ℕ) (r : List ((ℕ × ℕ) × Home)) → a ≡ (pid, 0) → b ≡ (pid, place)
    → IsRangeOf pair_cmp (Included a) (Included b) homes r → IsRangeOf pair_cmp (Included (pid, 0)) (Included (pid, place)) homes r
range_is homes pid place a b r e f h =
    subst (λ (q : ℕ × ℕ). IsRangeOf pair_cmp (Included q) (Included (pid, place)) homes r) e
    (subst (λ (q : ℕ × ℕ). IsRangeOf pair_cmp (Included a) (Included q) homes r) f h)

-- the last of the range of a number is its last home
pub range_last : (homes : BTreeMap (ℕ × ℕ) Home) (pid place : ℕ) (r t : List ((ℕ × ℕ) × Home)) (e : (ℕ × ℕ) × Home)
    → IsRangeOf pair_cmp (Included (pid, 0)) (Included (pid, place)) homes r → r ≡ t ++ e ∷ [] → Some e.1 ≡ last_at (home_at homes pid) place
range_last homes pid place r t e h s =
    let entry = h.3 e t s in
    let here = in_range pid place e.0 entry.0 in
    let is : home_at homes pid e.0.1 ≡ Some e.1 = ap (λ (n : ℕ). get pair_cmp homes (n, e.0.1)) (sym here.0) ∙ entry.1 in
    sym (last_some (home_at homes pid) place e.0.1 e.1 here.1 is (λ j a c. later j a c (none_or_some (home_at homes pid j))))
  where
    later : (j : ℕ) → e.0.1 < j → j ≤ place → (home_at homes pid j ≡ None) ⊎ IsSome (home_at homes pid j) → home_at homes pid j ≡ None
    later j a c (inl none) = none
    later j a c (inr some) =
        let entry = h.3 e t s in
        let here = in_range pid place e.0 entry.0 in
        let low = h.4 e t s (pid, j) (pair_le pid 0 j (omega arith), pair_le pid j place c) some in
        let not_more : j ≤ e.0.1 =
        not_lt pid e.0.1 j (ap (λ (n : ℕ). is_lt (pair_cmp (n, e.0.1) (pid, j))) (sym here.0) ∙ low) in
        absurd (omega (arith, a, not_more))

-- where it is empty, there is none
pub range_none : (homes : BTreeMap (ℕ × ℕ) Home) (pid place : ℕ) (r : List ((ℕ × ℕ) × Home))
    → IsRangeOf pair_cmp (Included (pid, 0)) (Included (pid, place)) homes r → r ≡ [] → None ≡ last_at (home_at homes pid) place
range_none homes pid place r h s =
    sym (last_none (home_at homes pid) place (λ k l. h.5 s (pid, k) (pair_le pid 0 k (omega arith), pair_le pid k place l)))

-- ---- links in their order

-- each of these links stands at a place or behind it
abbrev AreFrom : ℕ → List Made → Type 0
AreFrom place [] = Unit {0}
AreFrom place (link ∷ earlier) = (place ≤ link.place) × AreFrom place earlier

from_lower : (a b : ℕ) (made : List Made) → a ≤ b → AreFrom b made → AreFrom a made
from_lower a b [] l h = tt
from_lower a b (link ∷ made) l h = (omega (arith, l, h.0), from_lower a b made l h.1)

from_more : (place : ℕ) (made : List Made) (link : Made) → AreFrom place made → place ≤ link.place → AreFrom place (made ++ link ∷ [])
from_more place [] link h l = (l, tt)
from_more place (x ∷ made) link h l = (h.0, from_more place made link h.1 l)

before_more : (place : ℕ) (made : List Made) (link : Made) → AreBefore place made → link.place < place → AreBefore place (made ++ link ∷ [])
before_more place [] link h l = (l, tt)
before_more place (x ∷ made) link h l = (h.0, before_more place made link h.1 l)

latest_more : (made : List Made) (link : Made) → AreLatestFirst made → AreFrom (link.place + 1) made → AreLatestFirst (made ++ link ∷ [])
latest_more [] link h f = (tt, tt)
latest_more (x ∷ made) link h f = (before_more x.place made link h.0 (omega (arith, f.0)), latest_more made link h.1 f.1)

-- a line more
links_one : (place pid : ℕ) (kind : MadeAs) (exec : ℕ → Option ℕ) (child : Option ℕ) (made : List Made) → AreLatestFirst made → AreFrom (place + 1) made
    → AreLatestFirst (made ++ links place pid kind exec child) × AreFrom place (made ++ links place pid kind exec child)
links_one place pid kind exec None made h f =
    (subst AreLatestFirst (sym (append-nil made)) h, subst (AreFrom place) (sym (append-nil made)) (from_lower place (place + 1) made (omega arith) f))
links_one place pid kind exec (Some child) made h f =
    (latest_more made _ h f, from_more place made _ (from_lower place (place + 1) made (omega arith) f) (omega arith))

link_one : (place pid : ℕ) (making : Making) (exec : ℕ → Option ℕ) (later : Option ℕ) (made : List Made) → AreLatestFirst made → AreFrom (place + 1) made
    → AreLatestFirst (made ++ link_of place pid making exec later) × AreFrom place (made ++ link_of place pid making exec later)
link_one place pid (Makes kind child) exec later made h f = links_one place pid kind exec child made h f
link_one place pid (Begins kind) exec later made h f = links_one place pid kind exec later made h f
link_one place pid (Ends child) exec later made h f = links_one place pid Thread exec None made h f
link_one place pid Execs exec later made h f = links_one place pid Thread exec None made h f
link_one place pid Nothing exec later made h f = links_one place pid Thread exec None made h f

made_in_order : (place : ℕ) (tolds : List Told) → AreLatestFirst (made_from place tolds) × AreFrom place (made_from place tolds)
made_in_order place [] = (tt, tt)
made_in_order place (told ∷ tolds) =
    let rest = made_in_order (place + 1) tolds in
    link_one place told.pid told.making (λ child. exec_place child (place + 1) tolds) (ended_by told.pid tolds) (made_from (place + 1) tolds) rest.0 rest.1

-- links of lines have the latest first
pub latest_first : (place : ℕ) (tolds : List Told) → AreLatestFirst (made_from place tolds)
latest_first place tolds = (made_in_order place tolds).0

-- ---- a link more

not_same : (p q : ℕ) → eqb p q ≡ false → q ≢ p
not_same p q e same = let k = eq-eqb p q (sym same) in cc

-- another key isn't found at this one
pub other_key : (key q : ℕ × ℕ) → q ≢ key → is_eq (pair_cmp key q) ≡ false
other_key key q n = by (pair_cmp key q) refl
  where
    by : (o : Ordering) → pair_cmp key q ≡ o → is_eq o ≡ false
    by Less e = refl
    by Equal e = absurd (n (sym (exact_pairs nat_cmp nat_cmp exact_unsigned exact_unsigned key q e)))
    by Greater e = refl

-- no link, no home
pub no_homes : (homes : BTreeMap (ℕ × ℕ) Home) → ((q : ℕ × ℕ) → get pair_cmp homes q ≡ None) → HasSpaces homes []
no_homes homes h latest = record {
  spaces = λ pid place. ap (space_or pid place) (last_none (home_at homes pid) place (λ k l. h (pid, k)));
  first = λ pid. ap is_some (h (pid, 0));
  none = λ pid e place. h (pid, place);
  behind = λ pid place b. h (pid, place);
}

-- a home more, from a place on
pub record PutHome (old new : BTreeMap (ℕ × ℕ) Home) (link : Made) (home : Home) (from : ℕ) : Type 0 where
  pub home_is : home ≡ record { maker = space_in old link.parent link.place; place = link.place; kind = link.kind; exec = link.exec }
  pub from_is : from ≡ (if is_some (home_at old link.child 0) then link.place else 0)
  pub is : get pair_cmp new (link.child, from) ≡ Some home
  pub others : (q : ℕ × ℕ) → q ≢ (link.child, from) → get pair_cmp new q ≡ get pair_cmp old q

-- the homes of other numbers stay
other_number : (old new : BTreeMap (ℕ × ℕ) Home) (link : Made) (home : Home) (from pid k : ℕ) → PutHome old new link home from → pid ≢ link.child
    → home_at new pid k ≡ home_at old pid k
other_number old new link home from pid k p n = p.others (pid, k) (λ e. n (ap (λ (q : ℕ × ℕ). q.0) e))

-- and those at other places
other_place : (old new : BTreeMap (ℕ × ℕ) Home) (link : Made) (home : Home) (from pid k : ℕ) → PutHome old new link home from → k ≢ from
    → home_at new pid k ≡ home_at old pid k
other_place old new link home from pid k p n = p.others (pid, k) (λ e. n (ap (λ (q : ℕ × ℕ). q.1) e))

-- the space by a home that a link gave
space_by : (old : BTreeMap (ℕ × ℕ) Home) (made : List Made) (link : Made) (home : Home) (pid place : ℕ) → AreSpaces old made
    → home ≡ record { maker = space_in old link.parent link.place; place = link.place; kind = link.kind; exec = link.exec }
    → space_or pid place (Some home) ≡ led (has_left link.kind link.exec place) link.place (space_at made link.place link.parent)
space_by old made link home pid place h e =
    ap (λ (x : Home). led (has_left x.kind x.exec place) x.place x.maker) e
    ∙ ap (led (has_left link.kind link.exec place) link.place) (h.spaces link.parent link.place)

-- the first link of a number is that of all its lines
decides_own : (link : Made) (made : List Made) (place : ℕ) → is_made link.child made ≡ false → decides_at link made place link.child ≡ true
decides_own link made place f = rw (eq-eqb link.child link.child refl, f) (both (nat_lt place link.place))
  where
    both : (b : Bool) → (if b then true else true) ≡ true
    both true = refl
    both false = refl

-- the spaces of the number that was made: for the first time, or again
own_first : (old new : BTreeMap (ℕ × ℕ) Home) (made : List Made) (link : Made) (home : Home) (from place : ℕ) → AreSpaces old made
    → PutHome old new link home from → is_made link.child made ≡ false → space_in new link.child place ≡ space_at (link ∷ made) place link.child
own_first old new made link home from place h p f =
    let zero_from : from ≡ 0 = p.from_is ∙ ap (λ (b : Bool). if b then link.place else 0) (h.first link.child ∙ f) in
    let is : home_at new link.child 0 ≡ Some home = subst (λ (n : ℕ). get pair_cmp new (link.child, n) ≡ Some home) zero_from p.is in
    let later : (j : ℕ) → 0 < j → j ≤ place → home_at new link.child j ≡ None =
    (λ j a c. other_place old new link home from link.child j p (λ e. absurd (omega (arith, a, e, zero_from))) ∙ h.none link.child f j) in
    ap (space_or link.child place) (last_some (home_at new link.child) place 0 home (omega arith) is later)
    ∙ space_by old made link home link.child place h p.home_is
    ∙ sym (ap (λ (b : Bool). if b then led (has_left link.kind link.exec place) link.place (space_at made link.place link.parent)
    else space_at made place link.child) (decides_own link made place f))

own_again : (old new : BTreeMap (ℕ × ℕ) Home) (made : List Made) (link : Made) (home : Home) (from place : ℕ) → AreBefore link.place made
    → AreSpaces old made → PutHome old new link home from → is_made link.child made ≡ true
    → space_in new link.child place ≡ space_at (link ∷ made) place link.child
own_again old new made link home from place b h p f = by (nat_lt place link.place) refl
  where
    same : eqb link.child link.child ≡ true
    same = eq-eqb link.child link.child refl

    from_link : from ≡ link.place
    from_link = p.from_is ∙ ap (λ (x : Bool). if x then link.place else 0) (h.first link.child ∙ f)

    before_up : (a c : ℕ) (xs : List Made) → a ≤ c → AreBefore a xs → AreBefore c xs
    before_up a c [] l k = tt
    before_up a c (x ∷ xs) l k = (omega (arith, l, k.0), before_up a c xs l k.1)

    by : (t : Bool) → nat_lt place link.place ≡ t → space_in new link.child place ≡ space_at (link ∷ made) place link.child
    by true t =
        let low : place < link.place = grind (arith, nat_tests) in
        let kept : (k : ℕ) → k ≤ place → home_at new link.child k ≡ home_at old link.child k =
        (λ k l. other_place old new link home from link.child k p (λ e. absurd (omega (arith, l, low, e, from_link)))) in
        rw (same, f, t) (ap (space_or link.child place) (last_same (home_at new link.child) (home_at old link.child) place kept) ∙ h.spaces link.child place)
    by false t =
        let low : link.place ≤ place = grind (arith, nat_tests) in
        let is : home_at new link.child link.place ≡ Some home =
        subst (λ (n : ℕ). get pair_cmp new (link.child, n) ≡ Some home) from_link p.is in
        let later : (j : ℕ) → link.place < j → j ≤ place → home_at new link.child j ≡ None =
        (λ j a c. other_place old new link home from link.child j p (λ e. absurd (omega (arith, a, e, from_link)))
        ∙ h.behind link.child j (before_up link.place j made (omega (arith, a)) b)) in
        rw (same, f, t) (ap (space_or link.child place) (last_some (home_at new link.child) place link.place home low is later)
        ∙ space_by old made link home link.child place h p.home_is)

-- all of it
homes_step : (old new : BTreeMap (ℕ × ℕ) Home) (made : List Made) (link : Made) (home : Home) (from : ℕ) → AreBefore link.place made
    → AreSpaces old made → PutHome old new link home from → AreSpaces new (link ∷ made)
homes_step old new made link home from b h p = record { spaces = spaces; first = first; none = none; behind = behind }
  where
    own : (place : ℕ) (t : Bool) → is_made link.child made ≡ t → space_in new link.child place ≡ space_at (link ∷ made) place link.child
    own place false f = own_first old new made link home from place h p f
    own place true f = own_again old new made link home from place b h p f

    spaces : (pid place : ℕ) → space_in new pid place ≡ space_at (link ∷ made) place pid
    spaces pid place = by (eqb link.child pid) refl
      where
        by : (t : Bool) → eqb link.child pid ≡ t → space_in new pid place ≡ space_at (link ∷ made) place pid
        by true e =
            subst (λ (x : ℕ). space_in new x place ≡ space_at (link ∷ made) place x) (eqb-true link.child pid e)
            (own place (is_made link.child made) refl)
        by false e =
            rw e (ap (space_or pid place) (last_same (home_at new pid) (home_at old pid) place
            (λ k l. other_number old new link home from pid k p (not_same link.child pid e))) ∙ h.spaces pid place)

    own_home : (t : Bool) → is_made link.child made ≡ t → (u : Bool) → eqb 0 from ≡ u → is_some (home_at new link.child 0) ≡ true
    own_home t f true e =
        ap is_some (subst (λ (n : ℕ). get pair_cmp new (link.child, n) ≡ Some home) (sym (eqb-true 0 from e)) p.is)
    own_home true f false e =
        ap is_some (other_place old new link home from link.child 0 p (λ s. not_same 0 from e (sym s))) ∙ h.first link.child ∙ f
    own_home false f false e =
        let zero_from : from ≡ 0 = p.from_is ∙ ap (λ (x : Bool). if x then link.place else 0) (h.first link.child ∙ f) in
        absurd (not_same 0 from e zero_from)

    first : (pid : ℕ) → is_some (home_at new pid 0) ≡ is_made pid (link ∷ made)
    first pid = by (eqb link.child pid) refl
      where
        by : (t : Bool) → eqb link.child pid ≡ t → is_some (home_at new pid 0) ≡ is_made pid (link ∷ made)
        by true e =
            rw e (subst (λ (x : ℕ). is_some (home_at new x 0) ≡ true) (eqb-true link.child pid e)
            (own_home (is_made link.child made) refl (eqb 0 from) refl))
        by false e = rw e (ap is_some (other_number old new link home from pid 0 p (not_same link.child pid e)) ∙ h.first pid)

    none : (pid : ℕ) → is_made pid (link ∷ made) ≡ false → (place : ℕ) → home_at new pid place ≡ None
    none pid f place = by (eqb link.child pid) refl f
      where
        by : (t : Bool) → eqb link.child pid ≡ t → (if t then true else is_made pid made) ≡ false → home_at new pid place ≡ None
        by true e g = absurd cc
        by false e g = other_number old new link home from pid place p (not_same link.child pid e) ∙ h.none pid g place

    behind : (pid place : ℕ) → AreBefore place (link ∷ made) → home_at new pid place ≡ None
    behind pid place k = other_place old new link home from pid place p (λ e. apart (is_some (home_at old link.child 0)) refl e) ∙ h.behind pid place k.1
      where
        apart : (t : Bool) → is_some (home_at old link.child 0) ≡ t → place ≡ from → ⊥
        apart true t e =
            let is : from ≡ link.place = p.from_is ∙ ap (λ (x : Bool). if x then link.place else 0) t in
            absurd (omega (arith, k.0, e, is))
        apart false t e =
            let is : from ≡ 0 = p.from_is ∙ ap (λ (x : Bool). if x then link.place else 0) t in
            absurd (omega (arith, k.0, e, is))

pub spaces_step : (old new : BTreeMap (ℕ × ℕ) Home) (link : Made) (home : Home) (from : ℕ) (made : List Made) → HasSpaces old made
    → home ≡ record { maker = space_in old link.parent link.place; place = link.place; kind = link.kind; exec = link.exec }
    → from ≡ (if is_some (home_at old link.child 0) then link.place else 0) → get pair_cmp new (link.child, from) ≡ Some home
    → ((q : ℕ × ℕ) → q ≢ (link.child, from) → get pair_cmp new q ≡ get pair_cmp old q) → HasSpaces new (link ∷ made)
spaces_step old new link home from made h e f is others latest =
    homes_step old new made link home from latest.0 (h latest.1) (record { home_is = e; from_is = f; is = is; others = others })

-- so where there was room
pub spaces_put : (r : Result (Unit {0}) AllocError) (old new : BTreeMap (ℕ × ℕ) Home) (link : Made) (home : Home) (from : ℕ)
    → home ≡ record { maker = space_in old link.parent link.place; place = link.place; kind = link.kind; exec = link.exec }
    → from ≡ (if is_some (home_at old link.child 0) then link.place else 0) → OnOk r (get pair_cmp new (link.child, from) ≡ Some home)
    → OnOk r ((q : ℕ × ℕ) → q ≢ (link.child, from) → get pair_cmp new q ≡ get pair_cmp old q)
    → OnOk r ((made : List Made) → HasSpaces old made → HasSpaces new (link ∷ made))
spaces_put (Ok x) old new link home from e f is others = λ made h. spaces_step old new link home from made h e f is others
spaces_put (Err x) old new link home from e f is others = tt
