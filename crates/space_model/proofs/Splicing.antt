-- Areas that a change doesn't touch stay: the list with only the middle built anew has the kinds of the change, and its
-- rows are those before, counted anew between the two cuts.
use Rattle.std.proofs.Common.{◌≡◌, ◌≢◌, ℕ, zero, suc, ◌+◌, ◌-◌, ◌<◌, ◌≤◌, inl, inr, List, [], ◌∷◌, ◌++◌, length, length-append, append_assoc, take, drop}
use Rattle.std.proofs.Common.{get_or, slice_get, Option, Some, None, MatchOption, All, sym, ◌∙◌, ap, subst, refl, arith, if◌then◌else◌}
use Rattle.std.proofs.lemmas.Bool.{cases_lt}
use Rattle.std.proofs.lemmas.List.{append-nil, take_at, drop_at}
use Rattle.std.proofs.lemmas.List.Elements.{All-head, All-tail}
use Rattle.std.proofs.lemmas.Option.{slice_get-get_or}
use Rattle.std.specs.List.{splice}
use Rattle.page_types.specs.declared.TheConstants.{LIMIT}
use Rattle.space_model.specs.Areas.{is_within, MayFollow, IsAreaList, HasKinds, kind_at, gap_between, gaps_from, row_count}
use Rattle.space_model.specs.declared.paint.Patch.{Patch}
use Rattle.space_model.specs.declared.areas.Area.{Area}
use Rattle.space_model.specs.Effect.{patched, AreRising}
use Rattle.space_model.specs.Building.{no_area, changed_list}
use Rattle.space_model.specs.Cutting.{IsCutBy, IsPlan, end_of, start_of, gaps_between, rows_between, last_end}
use Rattle.space_model.proofs.AreaKinds.{kind_at-here, kind_at-after, kind_at-below, kind_at-end, IsAbove, LeadsTo, LeadsTo-above}
use Rattle.space_model.proofs.Joining.{first_of, first_of-none, kind_at-append, IsFreeFrom, ends_below}
use Rattle.space_model.proofs.Changing.{patched-same, patched-before, patched-behind, changed_list-kinds}
use Rattle.space_model.proofs.FourWays.{starts_after, before_member}
use Rattle.space_model.proofs.Highest.{member_between}

-- the last part of an area list is an area list
pub areas_right : (A B : List Area) → IsAreaList (A ++ B) → IsAreaList B
areas_right [] B w = w
areas_right (a ∷ A) B w = areas_right A B w.2

-- so is the first part
pub areas_left : (A B : List Area) → IsAreaList (A ++ B) → IsAreaList A
areas_left [] B w = tt
areas_left (a ∷ []) B w = (w.0, tt, tt)
areas_left (a ∷ b ∷ A) B w = (w.0, w.1, areas_left (b ∷ A) B w.2)

-- the areas before one are free from its first page on
free_from_next : (A : List Area) (b : Area) (B : List Area) → IsAreaList (A ++ b ∷ B) → IsFreeFrom A b.lo
free_from_next [] b B w p l = refl
free_from_next (a ∷ A) b B w p l =
    kind_at-after a A p (omega (arith, starts_after a (A ++ b ∷ B) b w (member_between A b B))) ∙ free_from_next A b B w.2 p l

-- two area lists are one where the first ends in time, and the kinds differ where they touch
append_areas : (A : List Area) (b : Area) (B : List Area) → IsAreaList A → IsAreaList (b ∷ B) → IsFreeFrom A b.lo →
    ((p : ℕ) → suc p ≡ b.lo → kind_at A p ≢ Some b.kind) → IsAreaList (A ++ b ∷ B)
append_areas [] b B v w free differs = w
append_areas (a ∷ []) b B v w free differs =
    let n : a.lo < a.hi = v.0.has_page in
    let follows : MayFollow a b =
    record {
      after = ends_below a [] b.lo v.0 free;
      differs = λ touch same.
          differs (a.hi - 1) (omega arith)
          (kind_at-here a [] (a.hi - 1) (omega arith) (omega arith) ∙ ap (λ k. Some k) same);
    } in
    (v.0, follows, w)
append_areas (a ∷ c ∷ A) b B v w free differs =
    let end : a.hi ≤ b.lo = ends_below a (c ∷ A) b.lo v.0 free in
    let more : (p : ℕ) → suc p ≡ b.lo → kind_at (c ∷ A) p ≢ Some b.kind =
    λ p e s. elim (cases_lt p a.hi) [
      | inl lt ↦ let none = kind_at-below (c ∷ A) a.hi p v.2 (LeadsTo-above a (c ∷ A) v.1) lt in cc
      | inr ge ↦ differs p e (kind_at-after a (c ∷ A) p ge ∙ s)
    ] in
    (v.0, v.1, append_areas (c ∷ A) b B v.2 w (λ p l. sym (kind_at-after a (c ∷ A) p (omega arith)) ∙ free p l) more)

-- areas that give a page no kind may be left out
pub kind_at-without : (A B : List Area) (p : ℕ) → kind_at B p ≡ None → kind_at (A ++ B) p ≡ kind_at A p
kind_at-without A B p none =
    kind_at-append A B p ∙ ap (first_of (kind_at A p)) none ∙ first_of-none (kind_at A p)

all_above : (B : List Area) (page : ℕ) → All (λ b. page < b.lo) B → IsAbove page B
all_above [] page all = tt
all_above (b ∷ B) page all = omega (arith, All-head (λ x. page < x.lo) b B all)

module _ (A N : List Area) (from : ℕ) (patches : List Patch) (r : AreRising from patches) (k : HasKinds (patched patches (kind_at A)) N) where
  outside : (p : ℕ) → last_end from patches ≤ p → kind_at N p ≡ kind_at A p
  outside p h = k.kinds_are p ∙ patched-behind from patches (kind_at A) p r h

  -- areas above the place stay behind what the place became
  back_areas : (B : List Area) → IsAreaList (A ++ B) → All (λ b. last_end from patches < b.lo) B → IsAreaList (N ++ B)
  back_areas [] w all = subst IsAreaList (sym (append-nil N)) k.areas
  back_areas (b ∷ B) w all =
      let h : last_end from patches < b.lo = All-head (λ x. last_end from patches < x.lo) b B all in
      append_areas N b B k.areas (areas_right A (b ∷ B) w)
      (λ p g. outside p (omega arith) ∙ free_from_next A b B w p g)
      (λ p e s.
      before_member (A ++ b ∷ B) b p w (member_between A b B) e
      (kind_at-append A (b ∷ B) p ∙
      ap (λ o. first_of o (kind_at (b ∷ B) p)) (sym (outside p (omega arith)) ∙ s)))

  back_kind : (B : List Area) (p : ℕ) → IsAreaList (A ++ B) → All (λ b. last_end from patches < b.lo) B →
      kind_at (N ++ B) p ≡ patched patches (kind_at (A ++ B)) p
  back_kind B p w all =
      let end : ℕ = last_end from patches in
      elim (cases_lt p end) [
        | inl lt ↦
            let none : kind_at B p ≡ None = kind_at-below B end p (areas_right A B w) (all_above B end all) lt in
            kind_at-without N B p none ∙ k.kinds_are p ∙
            patched-same patches (kind_at A) (kind_at (A ++ B)) p (sym (kind_at-without A B p none))
        | inr ge ↦
            kind_at-append N B p ∙
            ap (λ o. first_of o (kind_at B p)) (outside p ge) ∙
            sym (kind_at-append A B p) ∙
            sym (patched-behind from patches (kind_at (A ++ B)) p r ge)
      ]

  -- so do the kinds
  pub back_kinds : (B : List Area) → IsAreaList (A ++ B) → All (λ b. last_end from patches < b.lo) B → HasKinds (patched patches (kind_at (A ++ B))) (N ++ B)
  back_kinds B w all = record { areas = back_areas B w all; kinds_are = λ p. back_kind B p w all }

-- what follows an area may follow it still, where the pages up to a later one have the same kinds
leads_still : (a : Area) (A N : List Area) (lo : ℕ) → IsAreaList (a ∷ A) → a.hi < lo → IsAreaList N →
    ((p : ℕ) → p < lo → kind_at N p ≡ kind_at A p) → LeadsTo a N
leads_still a A [] lo w l v same = tt
leads_still a A (n ∷ N) lo w l v same =
    let s : n.lo < n.hi = v.0.has_page in
    record {
      after =
          elim (cases_lt n.lo a.hi) [
            | inl lt ↦
                let some : kind_at (n ∷ N) n.lo ≡ Some n.kind = kind_at-here n N n.lo (omega arith) s in
                let is = same n.lo (omega arith) in
                let none = kind_at-below A a.hi n.lo w.2 (LeadsTo-above a A w.1) lt in cc
            | inr ge ↦ ge
          ];
      differs = λ touch kinds.
          kind_at-end a A w.1 w.2
          (sym (same a.hi l) ∙ kind_at-here n N a.hi (omega arith) (omega arith) ∙ ap (λ k. Some k) (sym kinds));
    }

-- an area below the place stays before what the place became
front_area : (a : Area) (A N : List Area) (from : ℕ) (patches : List Patch) → AreRising from patches → IsAreaList (a ∷ A) → a.hi < from →
    HasKinds (patched patches (kind_at A)) N → HasKinds (patched patches (kind_at (a ∷ A))) (a ∷ N)
front_area a A N from patches r w l k =
    let below : (p : ℕ) → p < from → kind_at N p ≡ kind_at A p =
    λ p h. k.kinds_are p ∙ patched-before from patches (kind_at A) p r h in
    record {
      areas = (w.0, leads_still a A N from w l k.areas below, k.areas);
      kinds_are = λ p.
          elim (cases_lt p from) [
            | inl lt ↦
                ap (λ o. if is_within a.lo a.hi p then Some a.kind else o) (below p lt) ∙
                sym (patched-before from patches (kind_at (a ∷ A)) p r lt)
            | inr ge ↦
                kind_at-after a N p (omega arith) ∙ k.kinds_are p ∙
                patched-same patches (kind_at A) (kind_at (a ∷ A)) p (sym (kind_at-after a A p (omega arith)))
          ];
    }

-- areas below the place stay before it
pub front_kinds : (front A N : List Area) (from : ℕ) (patches : List Patch) → AreRising from patches → IsAreaList (front ++ A) →
    All (λ a. a.hi ≤ from - 1) front → HasKinds (patched patches (kind_at A)) N → HasKinds (patched patches (kind_at (front ++ A))) (front ++ N)
front_kinds [] A N from patches r w all k = k
front_kinds (a ∷ front) A N from patches r w all k =
    front_area a (front ++ A) (front ++ N) from patches r w
    (omega (arith, w.0.has_page, All-head (λ b. b.hi ≤ from - 1) a front all))
    (front_kinds front A N from patches r w.2 (All-tail (λ b. b.hi ≤ from - 1) a front all) k)

-- patches that rise rise from the first page of the first one on
pub rising_own : (q : Patch) (rest : List Patch) → AreRising 0 (q ∷ rest) → AreRising q.lo (q ∷ rest)
rising_own q rest r = (omega arith, r.1, r.2)

-- the list with the middle built anew
pub spliced : (A front rest middle back N : List Area) (q : Patch) (more : List Patch) (page end : ℕ) → page ≡ q.lo - 1 →
    end ≡ last_end 0 (q ∷ more) → IsAreaList A → AreRising 0 (q ∷ more) → IsCutBy (λ a. a.hi) A page front rest →
    IsCutBy (λ a. a.lo) rest end middle back → N ≡ changed_list middle (q ∷ more) →
    HasKinds (patched (q ∷ more) (kind_at A)) (front ++ (N ++ back))
spliced A front rest middle back N q more page end e f w r low high is =
    let patches : List Patch = q ∷ more in
    let whole : IsAreaList (front ++ rest) = subst IsAreaList low.whole w in
    let parts : IsAreaList (middle ++ back) = subst IsAreaList high.whole (areas_right front rest whole) in
    let new : HasKinds (patched patches (kind_at middle)) N =
    subst (HasKinds (patched patches (kind_at middle))) (sym is)
    (changed_list-kinds middle patches (areas_left middle back parts) r) in
    let upper : HasKinds (patched patches (kind_at rest)) (N ++ back) =
    rw high.whole
    (back_kinds middle N 0 patches r new back parts (subst (λ n. All (λ a. n < a.lo) back) f high.above)) in
    rw low.whole
    (front_kinds front rest (N ++ back) q.lo patches (rising_own q more r) whole (subst (λ p. All (λ a. a.hi ≤ p) front) e low.upto) upper)

-- the gaps before, in and behind the middle
front_gaps : ℕ → List Area → ℕ
front_gaps page [] = 0
front_gaps page (a ∷ rest) = gap_between page a.lo + front_gaps a.hi rest

back_gaps : List Area → ℕ
back_gaps [] = 0
back_gaps (a ∷ rest) = gaps_from a.hi rest

gaps_front : (page : ℕ) (front A : List Area) → gaps_from page (front ++ A) ≡ front_gaps page front + gaps_from (end_of page front) A
unfolding front_gaps
gaps_front page [] A = omega arith
gaps_front page (a ∷ front) A = omega (arith, gaps_front a.hi front A)

gaps_back : (page : ℕ) (A back : List Area) → gaps_from page (A ++ back) ≡ gaps_between page A (start_of back) + back_gaps back
unfolding back_gaps
gaps_back page [] [] = omega arith
gaps_back page [] (b ∷ back) = refl
gaps_back page (a ∷ A) back = omega (arith, gaps_back a.hi A back)

rows_outside : List Area → List Area → ℕ
rows_outside front back = (length front + length back) + (front_gaps 0 front + back_gaps back)

-- the rows of a list are those between the cuts and those outside, which don't depend on the middle
rows_parted : (front A back : List Area) →
    row_count (front ++ (A ++ back)) ≡ rows_outside front back + rows_between (end_of 0 front) A (start_of back)
unfolding rows_outside
rows_parted front A back =
    omega (arith, length-append {A = Area}, gaps_front 0 front (A ++ back), gaps_back (end_of 0 front) A back)

-- the rows between the two cuts are at most all rows of the list
pub rows_fewer : (front A back : List Area) (from to : ℕ) → from ≡ end_of 0 front → to ≡ start_of back →
    rows_between from A to ≤ row_count (front ++ (A ++ back))
rows_fewer front A back from to f t = rw (f, t) (omega (arith, rows_parted front A back))

-- with other areas between the cuts, the rows of the list change by as many as those between the cuts
pub rows_changed : (front A B back : List Area) (from to : ℕ) → from ≡ end_of 0 front → to ≡ start_of back →
    row_count (front ++ (A ++ back)) + rows_between from B to ≡ row_count (front ++ (B ++ back)) + rows_between from A to
rows_changed front A B back from to f t = rw (f, t) (omega (arith, rows_parted front A back, rows_parted front B back))

-- the rows of a whole list
pub rows_all : (page : ℕ) (A : List Area) → gaps_between page A LIMIT ≡ gaps_from page A
rows_all page [] = refl
rows_all page (a ∷ rest) = omega (arith, rows_all a.hi rest)

end_of-at : (page : ℕ) (A : List Area) (i : ℕ) → i + 1 ≡ length A → end_of page A ≡ (get_or A i no_area).hi
end_of-at page [] i l = absurd (omega arith)
end_of-at page (a ∷ []) zero l = refl
end_of-at page (a ∷ []) (suc i) l = absurd (omega arith)
end_of-at page (a ∷ b ∷ rest) zero l = absurd (omega arith)
end_of-at page (a ∷ b ∷ rest) (suc i) l = end_of-at a.hi (b ∷ rest) i (omega arith)

-- where a list ends is where its last area ends
pub end_of-last : (A : List Area) (o : Option Area) → o ≡ slice_get A (length A - 1) →
    MatchOption o (end_of 0 A ≡ 0) (λ a. end_of 0 A ≡ a.hi)
end_of-last [] o e = rw e refl
end_of-last (a ∷ rest) o e =
    let i : ℕ = length (a ∷ rest) - 1 in
    let at : slice_get (a ∷ rest) i ≡ Some (get_or (a ∷ rest) i no_area) = slice_get-get_or (a ∷ rest) i no_area (omega arith) in
    rw (e ∙ at) (end_of-at 0 (a ∷ rest) i (omega arith))

-- the list with the middle built anew is a splice of the old one
splice_is : (A front touched back N : List Area) (first end : ℕ) → A ≡ front ++ (touched ++ back) → first ≡ length front →
    end ≡ length front + length touched → splice A first end N ≡ front ++ (N ++ back)
splice_is A front touched back N first end whole f e =
    let behind : drop end A ≡ back =
    ap (drop end) (whole ∙ sym (append_assoc front touched back)) ∙
    drop_at (front ++ touched) back end (length-append front touched ∙ sym e) in
    ap (λ x. take first x ++ (N ++ drop end A)) whole ∙
    ap (λ x. x ++ (N ++ drop end A)) (take_at front (touched ++ back) first (sym f)) ∙
    ap (λ x. front ++ (N ++ x)) behind

-- the list with the touched areas built anew, and its rows counted, is a plan of the patches
pub plan_of : (A front rest touched back N : List Area) (q : Patch) (more : List Patch) (page to first end rows : ℕ) → page ≡ q.lo - 1 →
    to ≡ last_end 0 (q ∷ more) → IsAreaList A → AreRising 0 (q ∷ more) → IsCutBy (λ a. a.hi) A page front rest →
    IsCutBy (λ a. a.lo) rest to touched back → N ≡ changed_list touched (q ∷ more) →
    first ≡ length front → end ≡ length front + length touched → rows ≡ row_count (front ++ (N ++ back)) →
    IsPlan A (q ∷ more) first end rows N
plan_of A front rest touched back N q more page to first end rows p t w r low high is f e c =
    let whole : A ≡ front ++ (touched ++ back) = low.whole ∙ ap (λ x. front ++ x) high.whole in
    let same : splice A first end N ≡ front ++ (N ++ back) = splice_is A front touched back N first end whole f e in
    record {
      ordered = omega arith;
      within = omega (arith, ap length whole, length-append front (touched ++ back), length-append touched back);
      list = subst (HasKinds (patched (q ∷ more) (kind_at A))) (sym same) (spliced A front rest touched back N q more page to p t w r low high is);
      counted = c ∙ ap row_count (sym same);
    }

-- and it is that of the same list
pub plan_for : (A B : List Area) (patches : List Patch) (first end rows : ℕ) (middle : List Area) → A ≡ B →
    IsPlan A patches first end rows middle → IsPlan B patches first end rows middle
plan_for A B patches first end rows middle same plan = subst (λ X. IsPlan X patches first end rows middle) same plan
