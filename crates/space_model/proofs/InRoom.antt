-- A change of the areas of some blocks, with the others left alone, is one of the whole list.
use Rattle.std.proofs.Common.{◌≡◌, ℕ, ◌+◌, ◌-◌, ◌*◌, ◌^◌, ◌<◌, ◌≤◌, List, [], ◌∷◌, ◌++◌, length, length-append, take, drop}
use Rattle.std.proofs.Common.{All, sym, ◌∙◌, ap, subst, refl, arith}
use Rattle.std.proofs.lemmas.List.{take-append-drop, drop-drop, take_at, drop_at, drop_all}
use Rattle.std.proofs.lemmas.List.Elements.{All-nil}
use Rattle.std.specs.List.{splice}
use Rattle.page_types.specs.declared.TheConstants.{LIMIT, ROWS}
use Rattle.space_model.specs.declared.areas.Area.{Area}
use Rattle.space_model.specs.declared.blocks.Block.{Block}
use Rattle.space_model.specs.declared.judged.Change.{Change}
use Rattle.space_model.specs.declared.stored.Place.{Place}
use Rattle.space_model.specs.Areas.{IsAreaList, HasKinds, kind_at, row_count}
use Rattle.space_model.specs.Effect.{patched, AreRising}
use Rattle.space_model.specs.Judges.{patches_of, second_of}
use Rattle.space_model.specs.Cutting.{end_of, start_of, last_end, rows_between, IsPlan}
use Rattle.space_model.specs.Blocks.{areas_of, blocks_at, IsPlace, IsFrontCut, IsBackCut, IsBlock}
use Rattle.space_model.proofs.InBlocks.{areas_of-append}
use Rattle.space_model.proofs.Splicing.{areas_left, areas_right, back_kinds, front_kinds, rising_own, rows_fewer, rows_changed}
use Rattle.space_model.proofs.Stepping.{row_count-le, rows-fit, patches_few}
use Rattle.space_model.proofs.TwiceOnce.{row_count-patched}

-- the blocks in three runs
pub parted : (blocks : List Block) (first count : ℕ) →
    areas_of blocks ≡ areas_of (take first blocks) ++ (areas_of (blocks_at blocks first count) ++ areas_of (drop (first + count) blocks))
parted blocks first count =
    ap areas_of (sym (take-append-drop first blocks)) ∙ areas_of-append (take first blocks) (drop first blocks) ∙
    ap (λ X. areas_of (take first blocks) ++ X)
    (ap areas_of (sym (take-append-drop count (drop first blocks))) ∙
    areas_of-append (take count (drop first blocks)) (drop count (drop first blocks)) ∙
    ap (λ X. areas_of (take count (drop first blocks)) ++ areas_of X) (drop-drop count first blocks))

-- the place that the two cuts tell
pub place_by : (blocks rest : List Block) (change : Change) (page end first count from to : ℕ) → page ≡ change.first.lo - 1 →
    end ≡ last_end 0 (patches_of change) → IsFrontCut blocks page first from → rest ≡ drop first blocks → IsBackCut rest end count to →
    IsPlace blocks change (record { first = first; count = count; from = from; to = to })
place_by blocks rest change page end first count from to p e f is b =
    let front : take first blocks ≡ f.front = ap (take first) f.whole ∙ take_at f.front f.rest first f.counted in
    let back : drop (first + count) blocks ≡ b.back =
    sym (drop-drop count first blocks) ∙ ap (drop count) (sym is ∙ b.whole) ∙ drop_at b.window b.back count b.counted in
    let long : length blocks ≡ first + (count + length b.back) =
    omega (
      arith,
      ap length f.whole,
      length-append f.front f.rest,
      f.counted,
      ap length (sym is ∙ b.whole),
      length-append b.window b.back,
      b.counted,
      ap length (ap (drop first) f.whole ∙ drop_at f.front f.rest first f.counted),
    ) in
    record {
      within = omega (arith, long);
      upto = subst (λ X. All (λ a. a.hi ≤ change.first.lo - 1) (areas_of X)) (sym front) (subst (λ n. All (λ a. a.hi ≤ n) (areas_of f.front)) p f.upto);
      from_is = f.end_is ∙ ap (λ X. end_of 0 (areas_of X)) (sym front);
      above =
          subst (λ X. All (λ a. last_end 0 (patches_of change) < a.lo) (areas_of X)) (sym back)
          (subst (λ n. All (λ a. n < a.lo) (areas_of b.back)) e b.above);
      to_is = b.start_is ∙ ap (λ X. start_of (areas_of X)) (sym back);
    }

-- a list of three parts with the middle changed has the kinds of the change
pub changed_between : (F W B N : List Area) (change : Change) → IsAreaList (F ++ (W ++ B)) → AreRising 0 (patches_of change) →
    All (λ a. a.hi ≤ change.first.lo - 1) F → All (λ a. last_end 0 (patches_of change) < a.lo) B →
    HasKinds (patched (patches_of change) (kind_at W)) N → HasKinds (patched (patches_of change) (kind_at (F ++ (W ++ B)))) (F ++ (N ++ B))
changed_between F W B N change w r upto above k =
    front_kinds F (W ++ B) (N ++ B) change.first.lo (patches_of change) (rising_own change.first (second_of change.second) r) w upto
    (back_kinds W N 0 (patches_of change) r k B (areas_right F (W ++ B) w) above)

-- the middle of an area list is an area list
pub middle_areas : (F W B : List Area) → IsAreaList (F ++ (W ++ B)) → IsAreaList W
middle_areas F W B w = areas_left W B (areas_right F (W ++ B) w)

-- a list has at least as many rows as areas
pub length-rows : (A : List Area) → length A ≤ row_count A
length-rows A = omega arith

-- the middle has at most as many areas as the whole
pub middle_fewer : (F W B : List Area) → length W ≤ length (F ++ (W ++ B))
middle_fewer F W B = omega (arith, length-append F (W ++ B), length-append W B)

-- a change makes few areas more
pub few_more : (W N : List Area) (change : Change) → IsAreaList W → AreRising 0 (patches_of change) →
    HasKinds (patched (patches_of change) (kind_at W)) N → length N ≤ 2 * length W + 5
few_more W N change w r k =
    omega (arith, length-rows N, row_count-le W, row_count-patched W N 0 (patches_of change) w r k, patches_few change)

-- the blocks behind an index have an area list too
pub drop_areas : (blocks : List Block) (first : ℕ) → IsAreaList (areas_of blocks) → IsAreaList (areas_of (drop first blocks))
drop_areas blocks first w =
    areas_right (areas_of (take first blocks)) (areas_of (drop first blocks))
    (subst IsAreaList (ap areas_of (sym (take-append-drop first blocks)) ∙ areas_of-append (take first blocks) (drop first blocks)) w)

-- the areas of blocks some of which were poured anew
pub poured : (blocks F R P D : List Block) (X : List Area) (first count : ℕ) → F ≡ take first blocks → R ≡ drop first blocks → D ≡ drop count R →
    areas_of P ≡ X → areas_of (F ++ (P ++ D)) ≡ areas_of (take first blocks) ++ (X ++ areas_of (drop (first + count) blocks))
poured blocks F R P D X first count f r d x =
    areas_of-append F (P ++ D) ∙ ap (λ Y. areas_of F ++ Y) (areas_of-append P D) ∙ ap (λ Y. areas_of Y ++ (areas_of P ++ areas_of D)) f ∙
    ap (λ Y. areas_of (take first blocks) ++ (Y ++ areas_of D)) x ∙
    ap (λ Y. areas_of (take first blocks) ++ (X ++ areas_of Y)) (d ∙ ap (drop count) r ∙ drop-drop count first blocks)

-- a list of blocks that was written whole is what was written
pub written : (new old : List Block) (n : ℕ) → length new ≡ length old → n ≡ length old → take n (new ++ drop (length new) old) ≡ new
written new old n e f =
    ap (λ X. take n (new ++ X)) (drop_all (length new) old (omega arith)) ∙ take_at new [] n (omega arith)

-- what is left of a planned change
pub planned_kinds : (W G M N : List Area) (change : Change) (first end rows : ℕ) → IsPlan W (patches_of change) first end rows M → W ≡ G →
    N ≡ splice G first end M → HasKinds (patched (patches_of change) (kind_at W)) N
planned_kinds W G M N change first end rows plan w n =
    subst (HasKinds (patched (patches_of change) (kind_at W))) (ap (λ X. splice X first end M) w ∙ sym n) plan.list

-- all blocks are a place of each change
pub whole_place : (blocks : List Block) (change : Change) (count : ℕ) → count ≡ length blocks →
    IsPlace blocks change (record { first = 0; count = count; from = 0; to = LIMIT })
whole_place blocks change count e =
    let none : drop (0 + count) blocks ≡ [] = drop_all (0 + count) blocks (omega arith) in
    record {
      within = omega arith;
      upto = All-nil (λ a. a.hi ≤ change.first.lo - 1);
      from_is = refl;
      above = subst (λ X. All (λ a. last_end 0 (patches_of change) < a.lo) (areas_of X)) (sym none) (All-nil (λ a. last_end 0 (patches_of change) < a.lo));
      to_is = ap (λ X. start_of (areas_of X)) (sym none);
    }

module _ (blocks : List Block) (change : Change) (place : Place) (p : IsPlace blocks change place) (w : IsAreaList (areas_of blocks)) (W : List Area)
    (is : W ≡ areas_of (blocks_at blocks place.first place.count)) where
  before : List Area
  before = areas_of (take place.first blocks)

  behind : List Area
  behind = areas_of (drop (place.first + place.count) blocks)

  whole : areas_of blocks ≡ before ++ (W ++ behind)
  unfolding before behind
  whole = parted blocks place.first place.count ∙ ap (λ X. before ++ (X ++ behind)) (sym is)

  -- the areas of the place are an area list
  pub window_areas : IsAreaList W
  window_areas = middle_areas before W behind (subst IsAreaList whole w)

  -- they are not more than all
  pub window_few : length W ≤ length (areas_of blocks)
  window_few = omega (arith, middle_fewer before W behind, ap length whole)

  -- nor are their rows
  pub window_rows : rows_between place.from W place.to ≤ row_count (areas_of blocks)
  unfolding before behind
  window_rows =
      subst (λ X. rows_between place.from W place.to ≤ row_count X) (sym whole) (rows_fewer before W behind place.from place.to p.from_is p.to_is)

  module _ (r : AreRising 0 (patches_of change)) (N : List Area) (k : HasKinds (patched (patches_of change) (kind_at W)) N) where
    -- what the list is with other areas there
    abbrev pub after : List Area
    after = areas_of (take place.first blocks) ++ (N ++ areas_of (drop (place.first + place.count) blocks))

    -- it has the kinds of the change
    pub after_kinds : HasKinds (patched (patches_of change) (kind_at (areas_of blocks))) after
    unfolding before behind
    after_kinds =
        subst (λ X. HasKinds (patched (patches_of change) (kind_at X)) after) (sym whole)
        (changed_between before W behind N change (subst IsAreaList whole w) r p.upto p.above k)

    -- its rows are as many more as those there
    pub after_rows : row_count (areas_of blocks) + rows_between place.from N place.to ≡ row_count after + rows_between place.from W place.to
    unfolding before behind
    after_rows =
        ap (λ X. row_count X + rows_between place.from N place.to) whole ∙ rows_changed before W N behind place.from place.to p.from_is p.to_is

    -- those there are not more than all
    pub after_within : rows_between place.from N place.to ≤ row_count after
    unfolding before behind
    after_within = rows_fewer before N behind place.from place.to p.from_is p.to_is

    -- all are few enough to count
    pub after_fits : length (areas_of blocks) < 2 ^ 30 → row_count after < 2 ^ 32
    after_fits few = rows-fit (areas_of blocks) after change w few r after_kinds
