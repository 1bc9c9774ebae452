-- The list that the body builds has the kinds after the patches.
use Rattle.std.proofs.Common.{◌≡◌, ℕ, ◌<◌, ◌≤◌, ◌⊎◌, inl, inr, if◌then◌else◌, List, [], ◌∷◌, Option, Some, None, max, min, sym, ◌∙◌, ap, subst, refl, arith}
use Rattle.std.proofs.lemmas.Bool.{cases_lt, lt-ltb, le-ltb}
use Rattle.std.proofs.lemmas.Bool.Decides.{nat_tests}
use Rattle.std.specs.Option.{option_map}
use Rattle.page_types.specs.declared.TheConstants.{LIMIT}
use Rattle.page_types.specs.declared.calls.Kind.{Kind}
use Rattle.page_types.specs.declared.sets.Prot.{Prot}
use Rattle.space_model.specs.declared.areas.Area.{Area}
use Rattle.space_model.specs.declared.paint.Paint.{Paint}
use Rattle.space_model.specs.Areas.{is_within, IsInRange, IsAreaList, IsInOrder, HasKinds, kind_at}
use Rattle.space_model.specs.declared.paint.Paint.TheVariants.{Gives, Protects, Seals}
use Rattle.space_model.specs.declared.paint.Patch.{Patch}
use Rattle.space_model.specs.Effect.{painted, with_patch, patched, AreRising}
use Rattle.space_model.specs.Building.{repainted, part_of, parts, join_all, pieces_at, with_next, changed_from, changed_list}
use Rattle.space_model.specs.Cutting.{last_end}
use Rattle.space_model.proofs.AreaKinds.{kind_at-after, IsAbove, above_zero, LeadsTo-above}
use Rattle.space_model.proofs.Joining.{first_of, first_of-none, IsFreeFrom, join_all-kinds}

parts-some : (from to : ℕ) (paint : Option Paint) (a : Area) (rest : List Area) → max a.lo from < min a.hi to →
    parts from to paint (a ∷ rest) ≡ part_of from to paint a ∷ parts from to paint rest
parts-some from to paint a rest l =
    ap (λ t. if t then part_of from to paint a ∷ parts from to paint rest else parts from to paint rest) (lt-ltb _ _ l)

parts-none : (from to : ℕ) (paint : Option Paint) (a : Area) (rest : List Area) → min a.hi to ≤ max a.lo from →
    parts from to paint (a ∷ rest) ≡ parts from to paint rest
parts-none from to paint a rest l =
    ap (λ t. if t then part_of from to paint a ∷ parts from to paint rest else parts from to paint rest) (le-ltb _ _ l)

-- the parts of an area list are pieces in order
pub parts-pieces : (from to : ℕ) (paint : Option Paint) (A : List Area) (e low : ℕ) →
    IsAreaList A → IsAbove e A → low ≤ max e from → IsInOrder low (parts from to paint A)
parts-pieces from to paint [] e low w above l = tt
parts-pieces from to paint (a ∷ rest) e low w above l =
    let n : a.lo < a.hi = w.0.has_page in
    elim (cases_lt (max a.lo from) (min a.hi to)) [
      | inl lt ↦
          let range : IsInRange (part_of from to paint a) =
          record { has_page = lt; below_limit = omega (arith, w.0.below_limit) } in
          let more = parts-pieces from to paint rest a.hi (min a.hi to) w.2 (LeadsTo-above a rest w.1) (omega arith) in
          subst (IsInOrder low) (sym (parts-some from to paint a rest lt)) (omega (arith, above), range, more)
      | inr ge ↦
          subst (IsInOrder low) (sym (parts-none from to paint a rest ge))
          (parts-pieces from to paint rest a.hi low w.2 (LeadsTo-above a rest w.1) (omega (arith, above)))
    ]

-- a choice by whether a page lies within a span
pub within-inside : {A : Type 0} (lo hi p : ℕ) (x y : A) → lo ≤ p → p < hi → (if is_within lo hi p then x else y) ≡ x
within-inside lo hi p x y l h = grind (arith, nat_tests)

-- a page before the span isn't within it
pub within-before : {A : Type 0} (lo hi p : ℕ) (x y : A) → p < lo → (if is_within lo hi p then x else y) ≡ y
within-before lo hi p x y l = grind (arith, nat_tests)

-- nor is one at or behind its end
pub within-after : {A : Type 0} (lo hi p : ℕ) (x y : A) → hi ≤ p → (if is_within lo hi p then x else y) ≡ y
within-after lo hi p x y l = grind (arith, nat_tests)

-- a page outside of a patch keeps its kind
pub patch-outside : (p : Patch) (kinds : ℕ → Option Kind) (page : ℕ) → (page < p.lo) ⊎ (p.hi ≤ page) → with_patch p kinds page ≡ kinds page
patch-outside p kinds page (inl l) = within-before p.lo p.hi page _ _ l
patch-outside p kinds page (inr h) = within-after p.lo p.hi page _ _ h

-- one of the patch gets its paint
pub patch-inside : (p : Patch) (kinds : ℕ → Option Kind) (page : ℕ) → p.lo ≤ page → page < p.hi →
    with_patch p kinds page ≡ painted p.paint (kinds page)
patch-inside p kinds page l h = within-inside p.lo p.hi page _ _ l h

-- the kinds of the parts are those of the pages, repainted
pub parts-inside : (from to : ℕ) (paint : Option Paint) (A : List Area) (p : ℕ) → from ≤ p → p < to →
    kind_at (parts from to paint A) p ≡ option_map (repainted paint) (kind_at A p)
parts-inside from to paint [] p l h = refl
parts-inside from to paint (a ∷ rest) p l h = grind (arith, nat_tests, parts-inside from to paint rest p l h)

-- outside of the pages from which the parts were taken, no page has a kind
pub parts-outside : (from to : ℕ) (paint : Option Paint) (A : List Area) (p : ℕ) → (p < from) ⊎ (to ≤ p) →
    kind_at (parts from to paint A) p ≡ None
parts-outside from to paint [] p out = refl
parts-outside from to paint (a ∷ rest) p out = grind (arith, nat_tests, parts-outside from to paint rest p out)

-- with no paint nothing changes
option_map-repainted : (o : Option Kind) → option_map (repainted None) o ≡ o
option_map-repainted None = refl
option_map-repainted (Some k) = refl

-- no page at or above LIMIT has a kind
pub kind_at-limit : (A : List Area) → IsAreaList A → IsFreeFrom A LIMIT
kind_at-limit [] w p l = refl
kind_at-limit (a ∷ rest) w p l =
    kind_at-after a rest p (omega (arith, w.0.below_limit)) ∙ kind_at-limit rest w.2 p l

-- what the pieces at a place have to give
record PiecesAt (A : List Area) (lo hi : ℕ) (paint : Paint) : Type 0 where
  pieces : IsInOrder lo (pieces_at A lo hi paint)
  inside_are : (p : ℕ) → lo ≤ p → p < hi → kind_at (pieces_at A lo hi paint) p ≡ painted paint (kind_at A p)
  outside_are : (p : ℕ) → (p < lo) ⊎ (hi ≤ p) → kind_at (pieces_at A lo hi paint) p ≡ None

protected_painted : (prot : Prot) (o : Option Kind) → option_map (repainted (Some (Protects prot))) o ≡ painted (Protects prot) o
protected_painted prot None = refl
protected_painted prot (Some k) = refl

sealed_painted : (o : Option Kind) → option_map (repainted (Some Seals)) o ≡ painted Seals o
sealed_painted None = refl
sealed_painted (Some k) = refl

piece_inside : (A : List Area) (lo hi : ℕ) (kind : Kind) (p : ℕ) → lo ≤ p → p < hi → kind_at (pieces_at A lo hi (Gives (Some kind))) p ≡ Some kind
piece_inside A lo hi kind p low high = grind (arith, nat_tests)

piece_outside : (A : List Area) (lo hi : ℕ) (kind : Kind) (p : ℕ) → (p < lo) ⊎ (hi ≤ p) → kind_at (pieces_at A lo hi (Gives (Some kind))) p ≡ None
piece_outside A lo hi kind p out = grind (arith, nat_tests)

piece_order : (A : List Area) (lo hi : ℕ) (kind : Kind) → hi ≤ LIMIT → IsInOrder lo (pieces_at A lo hi (Gives (Some kind)))
piece_order A lo hi kind h =
    elim (cases_lt lo hi) [
      | inl lt ↦ rw (lt-ltb lo hi lt) (omega arith, record { has_page = lt; below_limit = h }, tt)
      | inr ge ↦ rw (le-ltb lo hi ge) tt
    ]

pieces_at-kinds : (A : List Area) (lo hi : ℕ) (paint : Paint) → IsAreaList A → lo ≤ hi → hi ≤ LIMIT → PiecesAt A lo hi paint
pieces_at-kinds A lo hi (Gives None) w l h =
    record { pieces = tt; inside_are = λ p low high. refl; outside_are = λ p out. refl }
pieces_at-kinds A lo hi (Gives (Some kind)) w l h =
    record { pieces = piece_order A lo hi kind h; inside_are = piece_inside A lo hi kind; outside_are = piece_outside A lo hi kind }
pieces_at-kinds A lo hi (Protects prot) w l h =
    record {
      pieces = parts-pieces lo hi (Some (Protects prot)) A 0 lo w (above_zero A) (omega arith);
      inside_are = λ p low high. parts-inside lo hi (Some (Protects prot)) A p low high ∙ protected_painted prot (kind_at A p);
      outside_are = λ p out. parts-outside lo hi (Some (Protects prot)) A p out;
    }
pieces_at-kinds A lo hi Seals w l h =
    record {
      pieces = parts-pieces lo hi (Some Seals) A 0 lo w (above_zero A) (omega arith);
      inside_are = λ p low high. parts-inside lo hi (Some Seals) A p low high ∙ sealed_painted (kind_at A p);
      outside_are = λ p out. parts-outside lo hi (Some Seals) A p out;
    }

-- what patches make of a page's kind hangs on that kind alone
pub patched-same : (patches : List Patch) (f g : ℕ → Option Kind) (page : ℕ) → f page ≡ g page → patched patches f page ≡ patched patches g page
patched-same [] f g page e = e
patched-same (p ∷ rest) f g page e =
    patched-same rest (with_patch p f) (with_patch p g) page (ap (λ o. if is_within p.lo p.hi page then painted p.paint o else o) e)

-- patches that rise from a page on end at or below LIMIT, and not below that page
pub rising_end : (from : ℕ) (patches : List Patch) → AreRising from patches → (from ≤ last_end from patches) × (last_end from patches ≤ LIMIT)
rising_end from [] r = (omega arith, r)
rising_end from (p ∷ rest) r = let e = rising_end p.hi rest r.2 in (omega (arith, r.0, r.1, e.0), e.1)

-- a page below them keeps its kind
pub patched-before : (from : ℕ) (patches : List Patch) (f : ℕ → Option Kind) (page : ℕ) → AreRising from patches → page < from →
    patched patches f page ≡ f page
patched-before from [] f page r l = refl
patched-before from (p ∷ rest) f page r l =
    patched-before p.hi rest (with_patch p f) page r.2 (omega (arith, r.0, r.1)) ∙ patch-outside p f page (inl (omega (arith, r.0)))

-- so does one behind them
pub patched-behind : (from : ℕ) (patches : List Patch) (f : ℕ → Option Kind) (page : ℕ) → AreRising from patches →
    last_end from patches ≤ page → patched patches f page ≡ f page
patched-behind from [] f page r l = refl
patched-behind from (p ∷ rest) f page r l =
    patched-behind p.hi rest (with_patch p f) page r.2 l ∙ patch-outside p f page (inr (omega (arith, (rising_end p.hi rest r.2).0)))

-- a page of the first patch gets its paint
pub patched-inside : (p : Patch) (rest : List Patch) (f : ℕ → Option Kind) (page : ℕ) → AreRising p.hi rest → p.lo ≤ page → page < p.hi →
    patched (p ∷ rest) f page ≡ painted p.paint (f page)
patched-inside p rest f page r low high =
    patched-before p.hi rest (with_patch p f) page r high ∙ patch-inside p f page low high

-- behind the first patch the others decide
pub patched-next : (p : Patch) (rest : List Patch) (f : ℕ → Option Kind) (page : ℕ) → p.hi ≤ page →
    patched (p ∷ rest) f page ≡ patched rest f page
patched-next p rest f page l =
    patched-same rest (with_patch p f) f page (patch-outside p f page (inr l))

-- the list has these kinds below a page, and none from there on
record GoesTo (kinds : ℕ → Option Kind) (at : ℕ) (list : List Area) : Type 0 where
  areas : IsAreaList list
  below : (p : ℕ) → p < at → kind_at list p ≡ kinds p
  free : IsFreeFrom list at

goes_on_to : (kinds : ℕ → Option Kind) (at to : ℕ) (list pieces : List Area) → GoesTo kinds at list → at ≤ to → IsInOrder at pieces →
    ((p : ℕ) → at ≤ p → p < to → kind_at pieces p ≡ kinds p) →
    ((p : ℕ) → (p < at) ⊎ (to ≤ p) → kind_at pieces p ≡ None) → GoesTo kinds to (join_all list pieces)
goes_on_to kinds at to list pieces g l order within none =
    let all = join_all-kinds list pieces at g.areas g.free order in
    record {
      areas = all.areas;
      below = λ p high.
          all.kinds_are p ∙
          elim (cases_lt p at) [
            | inl lt ↦ ap (first_of (kind_at list p)) (none p (inl lt)) ∙ first_of-none (kind_at list p) ∙ g.below p lt
            | inr ge ↦ ap (λ k. first_of k (kind_at pieces p)) (g.free p ge) ∙ within p ge high
          ];
      free = λ p ge. all.kinds_are p ∙ ap (λ k. first_of k (kind_at pieces p)) (g.free p (omega arith)) ∙ none p (inr ge);
    }

-- the areas up to a page are taken as they are
parts_next : (A : List Area) (kinds : ℕ → Option Kind) (at to : ℕ) (list : List Area) → IsAreaList A → GoesTo kinds at list → at ≤ to →
    ((p : ℕ) → at ≤ p → p < to → kinds p ≡ kind_at A p) → GoesTo kinds to (join_all list (parts at to None A))
parts_next A kinds at to list w g l same =
    goes_on_to kinds at to list (parts at to None A) g l (parts-pieces at to None A 0 at w (above_zero A) (omega arith))
    (λ p low high. parts-inside at to None A p low high ∙ option_map-repainted (kind_at A p) ∙ sym (same p low high))
    (λ p out. parts-outside at to None A p out)

-- the pages of a patch get its paint
pieces_next : (A : List Area) (kinds : ℕ → Option Kind) (p : Patch) (list : List Area) → IsAreaList A → GoesTo kinds p.lo list → p.lo ≤ p.hi →
    p.hi ≤ LIMIT → ((page : ℕ) → p.lo ≤ page → page < p.hi → kinds page ≡ painted p.paint (kind_at A page)) →
    GoesTo kinds p.hi (join_all list (pieces_at A p.lo p.hi p.paint))
pieces_next A kinds p list w g l h same =
    let at = pieces_at-kinds A p.lo p.hi p.paint w l h in
    goes_on_to kinds p.lo p.hi list (pieces_at A p.lo p.hi p.paint) g l at.pieces
    (λ page low high. at.inside_are page low high ∙ sym (same page low high)) at.outside_are

changed_from-kinds : (A : List Area) (kinds : ℕ → Option Kind) (list : List Area) (from : ℕ) (patches : List Patch) → IsAreaList A →
    GoesTo kinds from list → AreRising from patches → ((p : ℕ) → from ≤ p → kinds p ≡ patched patches (kind_at A) p) →
    GoesTo kinds LIMIT (changed_from list from patches A)
changed_from-kinds A kinds list from [] w g r same = parts_next A kinds from LIMIT list w g r (λ p low high. same p low)
changed_from-kinds A kinds list from (q ∷ rest) w g r same =
    let low : from ≤ q.lo = r.0 in
    let own : q.lo ≤ q.hi = r.1 in
    let end = rising_end q.hi rest r.2 in
    let below = parts_next A kinds from q.lo list w g low
    (λ p g h. same p g ∙ patched-before q.lo (q ∷ rest) (kind_at A) p (omega arith, own, r.2) h) in
    let made : GoesTo kinds q.hi (with_next list from q A) =
    pieces_next A kinds q (join_all list (parts from q.lo None A)) w below own (omega (arith, end.0, end.1))
    (λ p g h. same p (omega arith) ∙ patched-inside q rest (kind_at A) p r.2 g h) in
    changed_from-kinds A kinds (with_next list from q A) q.hi rest w made r.2
    (λ p g. same p (omega arith) ∙ patched-next q rest (kind_at A) p g)

-- the list that the body builds is the area list with the kinds after the patches
pub changed_list-kinds : (A : List Area) (patches : List Patch) → IsAreaList A → AreRising 0 patches →
    HasKinds (patched patches (kind_at A)) (changed_list A patches)
changed_list-kinds A patches w r =
    let kinds : ℕ → Option Kind = patched patches (kind_at A) in
    let none : GoesTo kinds 0 [] = record { areas = tt; below = λ p l. absurd (omega arith); free = λ p l. refl } in
    let all = changed_from-kinds A kinds [] 0 patches w none r (λ p l. refl) in
    let end = rising_end 0 patches r in
    record {
      areas = all.areas;
      kinds_are = λ p.
          elim (cases_lt p LIMIT) [
            | inl lt ↦ all.below p lt
            | inr ge ↦
                all.free p ge ∙ sym (patched-behind 0 patches (kind_at A) p r (omega (arith, end.1)) ∙ kind_at-limit A w p ge)
          ];
    }
