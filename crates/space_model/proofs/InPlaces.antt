-- The highest place of so many free pages in a list that stands in blocks, looked for from the last block down.
use Rattle.std.proofs.Common.{◌≡◌, ℕ, ◌+◌, ◌-◌, ◌<◌, ◌≤◌, List, [], ◌∷◌, ◌++◌, length, length-append, append_assoc, get_or, max, min, suc, zero}
use Rattle.std.proofs.Common.{slice_get, Some, None, IfSome, MatchOption, All, sym, ◌∙◌, ap, subst, refl, arith, drop}
use Rattle.std.proofs.Math.Seq.{get_or-append_seam}
use Rattle.std.proofs.lemmas.List.{append-nil, drop_at, get_or_append_left, get_or-append-add}
use Rattle.page_types.specs.declared.TheConstants.{LIMIT, LOWEST}
use Rattle.space_model.specs.declared.areas.Area.{Area}
use Rattle.space_model.specs.declared.blocks.Block.{Block}
use Rattle.space_model.specs.declared.fits.Fit.{Fit}
use Rattle.space_model.specs.declared.fits.Fit.TheVariants.{Fits, Below}
use Rattle.space_model.specs.Areas.{IsAreaList, kind_at}
use Rattle.space_model.specs.Places.{FitsAt, IsHighestFit}
use Rattle.space_model.specs.Building.{no_area}
use Rattle.space_model.specs.Cutting.{start_of, end_of, NoneAbove}
use Rattle.space_model.specs.Blocks.{areas_of, GapsWithin, IsBlock, FindsFit, TellsFit}
use Rattle.space_model.proofs.Highest.{none_above_next, none_above_all}
use Rattle.space_model.proofs.InBlocks.{areas_of-more}
use Rattle.space_model.proofs.Splicing.{areas_right}

-- the first area behind a list
pub here_is : (front X : List Area) (a : Area) → get_or (front ++ a ∷ X) (length front) no_area ≡ a
here_is front X a = get_or-append_seam front a X no_area

-- the area at an index of a list between two others
pub at_between : (front B back : List Area) (i : ℕ) → i < length B → get_or (front ++ (B ++ back)) (length front + i) no_area ≡ get_or B i no_area
at_between front B back i l =
    get_or-append-add front (B ++ back) i no_area ∙ get_or_append_left B back no_area i l

-- it is one of them
pub within_between : (front B back : List Area) (i : ℕ) → i < length B → length front + i < length (front ++ (B ++ back))
within_between front B back i l = omega (arith, length-append front (B ++ back), length-append B back)

-- from so many areas on the list starts where its next part does
pub start_between : (front X : List Area) → start_of (drop (length front) (front ++ X)) ≡ start_of X
start_between front X = ap start_of (drop_at front X (length front) refl)

-- where the next area starts at or above the page, each place ends at or below it
pub none_above_here : (front B back : List Area) (window pages to : ℕ) → NoneAbove (front ++ (B ++ back)) window pages (length front + length B) to →
    to ≤ start_of (B ++ back) → NoneAbove (front ++ (B ++ back)) window pages (length front) to
none_above_here front B back window pages to above l =
    record { at = omega (arith, start_between front (B ++ back), l); high = above.high; ends = above.ends }

-- areas between which no gap is long enough are passed as a whole
pub passed_by : (front : List Area) (a : Area) (B back : List Area) (window pages gap to : ℕ) → IsAreaList (front ++ (a ∷ (B ++ back))) →
    0 < pages → gap < pages → GapsWithin gap (a ∷ B) → to < max (end_of a.hi B) LOWEST + pages →
    NoneAbove (front ++ (a ∷ (B ++ back))) window pages (length front + length (a ∷ B)) to →
    NoneAbove (front ++ (a ∷ (B ++ back))) window pages (length front) (min to a.lo)
passed_by front a [] back window pages gap to w some short gaps end above =
    none_above_next (front ++ (a ∷ back)) window pages (length front + length (a ∷ [])) (length front) to a (omega arith) w
    (omega (arith, length-append front (a ∷ back))) some above (sym (here_is front back a)) end
passed_by front a (b ∷ B) back window pages gap to w some short gaps end above =
    let A : List Area = front ++ (a ∷ (b ∷ B ++ back)) in
    let own : List Area = front ++ a ∷ [] in
    let whole : A ≡ own ++ (b ∷ (B ++ back)) = sym (append_assoc front (a ∷ []) (b ∷ B ++ back)) in
    let long : length own ≡ length front + 1 = length-append front (a ∷ []) in
    let tail : IsAreaList (a ∷ (b ∷ B ++ back)) = areas_right front (a ∷ (b ∷ B ++ back)) w in
    let from : NoneAbove (own ++ (b ∷ (B ++ back))) window pages (length own + length (b ∷ B)) to =
    subst (λ n. NoneAbove (own ++ (b ∷ (B ++ back))) window pages n to) (omega (arith, long))
    (subst (λ X. NoneAbove X window pages (length front + length (a ∷ b ∷ B)) to) whole above) in
    let upper = passed_by own b B back window pages gap to (subst IsAreaList whole w) some short gaps.1 end from in
    let next : NoneAbove A window pages (length own) (min to b.lo) =
    subst (λ X. NoneAbove X window pages (length own) (min to b.lo)) (sym whole) upper in
    let near : b.lo ≤ a.hi + gap = gaps.0 in
    let one = none_above_next A window pages (length own) (length front) (min to b.lo) a long w
    (omega (arith, length-append front (a ∷ (b ∷ B ++ back)))) some next (sym (here_is front (b ∷ B ++ back) a)) (omega (arith, near, short)) in
    subst (NoneAbove A window pages (length front)) (omega (arith, tail.0.has_page, tail.1.after)) one

-- each place ends at or below a page that no area of the blocks behind those that are left starts before
pub record Searched (blocks left : List Block) (window pages to : ℕ) : Type 0 where
  pub back : List Area
  pub whole : areas_of blocks ≡ areas_of left ++ back
  pub above : NoneAbove (areas_of blocks) window pages (length (areas_of left)) to

-- at first all blocks are left
pub searched_none : (blocks : List Block) (window pages : ℕ) → window ≤ LIMIT → Searched blocks blocks window pages window
searched_none blocks window pages low =
    record { back = []; whole = sym (append-nil (areas_of blocks)); above = none_above_all (areas_of blocks) window pages low }

module _ (blocks left others : List Block) (b : Block) (window pages to : ℕ) (w : IsAreaList (areas_of blocks))
    (s : Searched blocks left window pages to) (is : left ≡ others ++ b ∷ []) where
  left_are : areas_of left ≡ areas_of others ++ b.areas.items
  left_are = ap areas_of is ∙ areas_of-more others b

  split : areas_of blocks ≡ areas_of others ++ (b.areas.items ++ s.back)
  split = s.whole ∙ ap (λ X. X ++ s.back) left_are ∙ append_assoc (areas_of others) b.areas.items s.back

  -- what a search in the next block comes to
  told : (fit : Fit) → FindsFit b.areas.items pages to fit → TellsFit (areas_of others) b.areas.items s.back window pages to fit
  told fit finds =
      finds (areas_of others) s.back window (subst IsAreaList split w)
      (subst (λ X. NoneAbove X window pages (length (areas_of others) + length b.areas.items) to) split
      (subst (λ n. NoneAbove (areas_of blocks) window pages n to)
      (ap length left_are ∙ length-append (areas_of others) b.areas.items) s.above))

  -- a place that is found there is the highest of all
  pub found_there : (start : ℕ) → FindsFit b.areas.items pages to (Fits start) → IsHighestFit (kind_at (areas_of blocks)) window pages start
  found_there start finds = subst (λ X. IsHighestFit (kind_at X) window pages start) (sym split) (told (Fits start) finds)

  -- where none is, each ends at or below the page to which the search has come
  pub searched_next : (at : ℕ) → FindsFit b.areas.items pages to (Below at) → Searched blocks others window pages at
  searched_next at finds =
      record {
        back = b.areas.items ++ s.back;
        whole = split;
        above = subst (λ X. NoneAbove X window pages (length (areas_of others)) at) (sym split) (told (Below at) finds);
      }

-- where no block is left, no area is
pub searched_all : (blocks left : List Block) (window pages to : ℕ) → length left ≡ 0 → Searched blocks left window pages to →
    NoneAbove (areas_of blocks) window pages 0 to
searched_all blocks [] window pages to e s = s.above
searched_all blocks (b ∷ left) window pages to e s = absurd (omega arith)

-- no area, nothing to search
pub finds_none : (B : List Area) (pages to : ℕ) → length B ≡ 0 → FindsFit B pages to (Below to)
finds_none [] pages to e = λ front back window w above. subst (λ n. NoneAbove (front ++ back) window pages n to) (omega arith) above
finds_none (a ∷ B) pages to e = absurd (omega arith)

-- nor is there where the first area starts at or above the page
pub finds_high : (B rest : List Area) (a : Area) (pages to : ℕ) → B ≡ a ∷ rest → to ≤ a.lo → FindsFit B pages to (Below to)
finds_high B rest a pages to is l =
    subst (λ X. FindsFit X pages to (Below to)) (sym is)
    (λ front back window w above. none_above_here front (a ∷ rest) back window pages to above l)

-- where each gap is too short, each place ends at or below the first area
pub finds_short : (B rest : List Area) (a : Area) (gap pages to : ℕ) → B ≡ a ∷ rest → 0 < pages → gap < pages → GapsWithin gap B →
    a.lo < to → to < max (end_of 0 B) LOWEST + pages → FindsFit B pages to (Below a.lo)
finds_short B rest a gap pages to is some short gaps l end =
    let own : GapsWithin gap (a ∷ rest) = subst (GapsWithin gap) is gaps in
    let last : to < max (end_of a.hi rest) LOWEST + pages = subst (λ X. to < max (end_of 0 X) LOWEST + pages) is end in
    subst (λ X. FindsFit X pages to (Below a.lo)) (sym is)
    (λ front back window w above.
    subst (NoneAbove (front ++ (a ∷ (rest ++ back))) window pages (length front)) (omega arith)
    (passed_by front a rest back window pages gap to w some short own last above))
