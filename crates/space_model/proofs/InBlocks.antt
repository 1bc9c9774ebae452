-- Areas that stand in blocks: what is found in a block that a search comes to is found in the whole list.
use Rattle.std.proofs.Common.{◌≡◌, ℕ, ◌+◌, ◌-◌, ◌*◌, ◌<◌, ◌≤◌, ◌⊎◌, inl, inr, List, [], ◌∷◌, ◌++◌, length, length-append, append_assoc, true, false}
use Rattle.std.proofs.Common.{slice_get, Option, Some, None, IfSome, MatchOption, All, sym, ◌∙◌, ap, subst, refl, arith, min}
use Rattle.std.proofs.lemmas.Bool.{cases_lt}
use Rattle.std.proofs.lemmas.List.{append-nil}
use Rattle.std.proofs.lemmas.List.Elements.{All-nil, All-cons, All-append, All-head, All-tail}
use Rattle.page_types.specs.declared.TheConstants.{LIMIT}
use Rattle.space_model.specs.declared.areas.Area.{Area}
use Rattle.space_model.specs.declared.blocks.Block.{Block}
use Rattle.space_model.specs.declared.sorts.Sort.{Sort}
use Rattle.space_model.specs.Areas.{IsAreaList, kind_at}
use Rattle.space_model.specs.Sorts.{is_sort, NoneOf, IsEnd}
use Rattle.space_model.specs.Cutting.{end_of, start_of, IsFirstAbove}
use Rattle.space_model.specs.Blocks.{areas_of, GapsWithin, IsBlock, IsFrontCut, IsBackCut}
use Rattle.space_model.proofs.AreaKinds.{kind_at-below, LeadsTo-above}
use Rattle.space_model.proofs.Joining.{first_of, kind_at-append}
use Rattle.space_model.proofs.Halving.{free_past}
use Rattle.space_model.proofs.Splicing.{areas_left, areas_right, kind_at-without}

-- the areas of two runs of blocks
pub areas_of-append : (X Y : List Block) → areas_of (X ++ Y) ≡ areas_of X ++ areas_of Y
areas_of-append [] Y = refl
areas_of-append (b ∷ X) Y =
    ap (λ l. b.areas.items ++ l) (areas_of-append X Y) ∙ sym (append_assoc b.areas.items (areas_of X) (areas_of Y))

-- with one block more
pub areas_of-more : (X : List Block) (b : Block) → areas_of (X ++ b ∷ []) ≡ areas_of X ++ b.areas.items
areas_of-more X b = areas_of-append X (b ∷ []) ∙ ap (λ l. areas_of X ++ l) (append-nil b.areas.items)

-- where a list ends hangs on the page before it only where it has no area
pub end_page : (B : List Area) (e : ℕ) → 0 < length B → end_of e B ≡ end_of 0 B
end_page [] e l = absurd (omega arith)
end_page (a ∷ B) e l = refl

-- where two lists end
pub end_of-append : (e : ℕ) (X Y : List Area) → end_of e (X ++ Y) ≡ end_of (end_of e X) Y
end_of-append e [] Y = refl
end_of-append e (a ∷ X) Y = end_of-append a.hi X Y

-- no area ends above the end of the list
pub upto_end : (B : List Area) (e page : ℕ) → IsAreaList B → end_of e B ≤ page → All (λ a. a.hi ≤ page) B
upto_end [] e page w l = All-nil (λ a. a.hi ≤ page)
upto_end (a ∷ []) e page w l = All-cons (λ x. x.hi ≤ page) a [] l (All-nil (λ x. x.hi ≤ page))
upto_end (a ∷ b ∷ rest) e page w l =
    let more = upto_end (b ∷ rest) a.hi page w.2 l in
    All-cons (λ x. x.hi ≤ page) a (b ∷ rest)
    (omega (arith, w.1.after, w.2.0.has_page, All-head (λ x. x.hi ≤ page) b rest more)) more

-- a higher page is above them too
pub upto_more : (B : List Area) (page to : ℕ) → page ≤ to → All (λ a. a.hi ≤ page) B → All (λ a. a.hi ≤ to) B
upto_more [] page to l all = All-nil (λ a. a.hi ≤ to)
upto_more (a ∷ B) page to l all =
    All-cons (λ x. x.hi ≤ to) a B (omega (arith, All-head (λ x. x.hi ≤ page) a B all))
    (upto_more B page to l (All-tail (λ x. x.hi ≤ page) a B all))

-- areas behind one that ends above a page end above it too
above_rest : (a : Area) (X : List Area) (page : ℕ) → IsAreaList (a ∷ X) → page < a.hi → All (λ b. page < b.hi) (a ∷ X)
above_rest a [] page w l = All-cons (λ b. page < b.hi) a [] l (All-nil (λ b. page < b.hi))
above_rest a (b ∷ X) page w l =
    All-cons (λ x. page < x.hi) a (b ∷ X) l (above_rest b X page w.2 (omega (arith, w.1.after, w.2.0.has_page)))

-- and they start above it where it does
pub starts_above : (a : Area) (X : List Area) (page : ℕ) → IsAreaList (a ∷ X) → page < a.lo → All (λ b. page < b.lo) (a ∷ X)
starts_above a [] page w l = All-cons (λ b. page < b.lo) a [] l (All-nil (λ b. page < b.lo))
starts_above a (b ∷ X) page w l =
    All-cons (λ x. page < x.lo) a (b ∷ X) l (starts_above b X page w.2 (omega (arith, w.0.has_page, w.1.after)))

-- the areas behind a list give no page a kind that lies before its end
pub free_behind : (B R : List Area) (q : ℕ) → IsAreaList (B ++ R) → q < end_of 0 B → kind_at R q ≡ None
free_behind [] R q w l = absurd (omega arith)
free_behind (a ∷ []) R q w l = kind_at-below R a.hi q w.2 (LeadsTo-above a R w.1) l
free_behind (a ∷ b ∷ B) R q w l = free_behind (b ∷ B) R q w.2 l

-- so a page behind the areas before a list and before its end has its kind there
pub kind_in : (F B R : List Area) (q : ℕ) → IsAreaList (F ++ (B ++ R)) → All (λ a. a.hi ≤ q) F → q < end_of 0 B →
    kind_at (F ++ (B ++ R)) q ≡ kind_at B q
kind_in F B R q w upto l =
    kind_at-append F (B ++ R) q ∙
    ap (λ k. first_of k (kind_at (B ++ R) q)) (free_past F q q upto (omega arith)) ∙
    kind_at-without B R q (free_behind B R q (areas_right F (B ++ R) w) l)

-- and the first area that ends above it there is the first of all
pub first_in : (F B R : List Area) (page : ℕ) (a : Area) → IsAreaList (F ++ (B ++ R)) → All (λ b. b.hi ≤ page) F →
    IsFirstAbove B page a → IsFirstAbove (F ++ (B ++ R)) page a
first_in F B R page a w upto first =
    let whole : F ++ (B ++ R) ≡ (F ++ first.front) ++ (a ∷ (first.rest ++ R)) =
    ap (λ X. F ++ (X ++ R)) first.cut.whole ∙
    ap (λ X. F ++ X) (append_assoc first.front (a ∷ first.rest) R) ∙
    sym (append_assoc F first.front (a ∷ (first.rest ++ R))) in
    let behind : IsAreaList (a ∷ (first.rest ++ R)) =
    areas_right (F ++ first.front) (a ∷ (first.rest ++ R)) (subst IsAreaList whole w) in
    record {
      front = F ++ first.front;
      rest = first.rest ++ R;
      cut =
          record {
            whole = whole;
            upto = All-append (λ b. b.hi ≤ page) F first.front upto first.cut.upto;
            above = above_rest a (first.rest ++ R) page behind (All-head (λ b. page < b.hi) a first.rest first.cut.above);
          };
    }

-- the blocks but those that are left have no area that ends above a page
pub record Passed (blocks left : List Block) (page : ℕ) : Type 0 where
  pub front : List Area
  pub whole : areas_of blocks ≡ front ++ areas_of left
  pub upto : All (λ a. a.hi ≤ page) front

-- at first all are left
pub passed_none : (blocks : List Block) (page : ℕ) → Passed blocks blocks page
passed_none blocks page = record { front = []; whole = refl; upto = All-nil (λ a. a.hi ≤ page) }

-- and at a higher page these are
pub passed_up : (blocks left : List Block) (page to : ℕ) → page ≤ to → Passed blocks left page → Passed blocks left to
passed_up blocks left page to l p = record { front = p.front; whole = p.whole; upto = upto_more p.front page to l p.upto }

-- where none is left, no area ends above it
pub passed_all : (blocks left : List Block) (page : ℕ) → length left ≡ 0 → Passed blocks left page → All (λ a. a.hi ≤ page) (areas_of blocks)
passed_all blocks [] page e p =
    subst (All (λ a. a.hi ≤ page)) (sym (p.whole ∙ append-nil p.front)) p.upto
passed_all blocks (b ∷ left) page e p = absurd (omega arith)

module _ (blocks left others : List Block) (b : Block) (page : ℕ) (w : IsAreaList (areas_of blocks)) (p : Passed blocks left page)
    (is : left ≡ b ∷ others) where
  -- the next block stands behind those that were passed
  pub block_whole : areas_of blocks ≡ p.front ++ (b.areas.items ++ areas_of others)
  block_whole = p.whole ∙ ap (λ l. p.front ++ areas_of l) is

  in_order : IsAreaList (p.front ++ (b.areas.items ++ areas_of others))
  in_order = subst IsAreaList block_whole w

  -- its areas are an area list
  pub block_areas : IsAreaList b.areas.items
  block_areas = areas_left b.areas.items (areas_of others) (areas_right p.front (b.areas.items ++ areas_of others) in_order)

  -- it is passed where none of them ends above the page
  pub passed_next : All (λ a. a.hi ≤ page) b.areas.items → Passed blocks others page
  passed_next all =
      record {
        front = p.front ++ b.areas.items;
        whole = block_whole ∙ sym (append_assoc p.front b.areas.items (areas_of others));
        upto = All-append (λ a. a.hi ≤ page) p.front b.areas.items p.upto all;
      }

  -- and where its end isn't
  pub passed_end : end_of 0 b.areas.items ≤ page → Passed blocks others page
  passed_end l = passed_next (upto_end b.areas.items 0 page block_areas l)

  -- the first of its areas that ends above the page is the first of all
  pub first_there : (a : Area) → IsFirstAbove b.areas.items page a → IsFirstAbove (areas_of blocks) page a
  first_there a first =
      subst (λ X. IsFirstAbove X page a) (sym block_whole) (first_in p.front b.areas.items (areas_of others) page a in_order p.upto first)

  -- pages from this one on up to its end have their kinds there
  pub kind_there : (q : ℕ) → page ≤ q → q < end_of 0 b.areas.items → kind_at (areas_of blocks) q ≡ kind_at b.areas.items q
  kind_there q l h =
      ap (λ X. kind_at X q) block_whole ∙
      kind_in p.front b.areas.items (areas_of others) q in_order (upto_more p.front page q l p.upto) h

  -- no page before a border is of a sort where none was, and none is in the block up to it
  pub none_there : (sort : Sort) (lo border : ℕ) → border ≤ end_of 0 b.areas.items → NoneOf (kind_at (areas_of blocks)) sort lo page →
      NoneOf (kind_at b.areas.items) sort page border → NoneOf (kind_at (areas_of blocks)) sort lo border
  none_there sort lo border l before here q low high =
      elim (cases_lt q page) [
        | inl lt ↦ before q low lt
        | inr ge ↦ subst (λ k. is_sort sort k ≡ false) (sym (kind_there q ge (omega arith))) (here q ge high)
      ]

  -- the search ends at a page of the block that is of the sort, or at its own end
  pub ends_there : (sort : Sort) (lo hi border end : ℕ) → lo ≤ page → border ≤ end_of 0 b.areas.items → border ≤ hi →
      NoneOf (kind_at (areas_of blocks)) sort lo page → IsEnd (kind_at b.areas.items) sort page border end →
      (end < border) ⊎ (border ≡ hi) → IsEnd (kind_at (areas_of blocks)) sort lo hi end
  ends_there sort lo hi border end low h within before e why =
      record {
        from = omega (arith, e.from);
        within = omega (arith, e.within);
        such = λ l.
            let inside : end < border = elim why [ inl lt ↦ lt | inr is ↦ omega arith ] in
            subst (λ k. is_sort sort k ≡ true) (sym (kind_there end e.from (omega arith))) (e.such inside);
        none_below = none_there sort lo end (omega (arith, e.within)) before e.none_below;
      }

-- pages behind all areas are free: the first of them is of the sort of free pages
pub end_free : (A : List Area) (sort : Sort) (lo hi at : ℕ) → lo ≤ at → at ≤ hi → All (λ a. a.hi ≤ at) A → NoneOf (kind_at A) sort lo at →
    is_sort sort None ≡ true → IsEnd (kind_at A) sort lo hi at
end_free A sort lo hi at low high upto none free =
    record {
      from = low;
      within = high;
      such = λ l. subst (λ k. is_sort sort k ≡ true) (sym (free_past A at at upto (omega arith))) free;
      none_below = none;
    }

-- and none is of another sort
pub end_all : (A : List Area) (sort : Sort) (lo hi at : ℕ) → lo ≤ at → at ≤ hi → All (λ a. a.hi ≤ at) A → NoneOf (kind_at A) sort lo at →
    is_sort sort None ≡ false → IsEnd (kind_at A) sort lo hi hi
end_all A sort lo hi at low high upto none free =
    record {
      from = omega arith;
      within = omega arith;
      such = λ l. absurd (omega arith);
      none_below = λ q l h.
          elim (cases_lt q at) [
            | inl lt ↦ none q l lt
            | inr ge ↦ subst (λ k. is_sort sort k ≡ false) (sym (free_past A at q upto ge)) free
          ];
    }

-- so many blocks but those that are left have no area that ends above a page
pub record FrontSoFar (blocks left : List Block) (page count end : ℕ) : Type 0 where
  pub front : List Block
  pub whole : blocks ≡ front ++ left
  pub counted : length front ≡ count
  pub upto : All (λ a. a.hi ≤ page) (areas_of front)
  pub end_is : end ≡ end_of 0 (areas_of front)

-- at first all are left
pub front_none : (blocks : List Block) (page : ℕ) → FrontSoFar blocks blocks page 0 0
front_none blocks page = record { front = []; whole = refl; counted = refl; upto = All-nil (λ a. a.hi ≤ page); end_is = refl }

-- a block may be passed that ends at or before the page
pub front_next : (blocks left others : List Block) (b : Block) (page count end next : ℕ) → IsAreaList (areas_of blocks) →
    FrontSoFar blocks left page count end → left ≡ b ∷ others → next ≡ end_of end b.areas.items → next ≤ page →
    FrontSoFar blocks others page (count + 1) next
front_next blocks left others b page count end next w f is e l =
    let whole : blocks ≡ (f.front ++ b ∷ []) ++ others =
    f.whole ∙ ap (λ x. f.front ++ x) is ∙ sym (append_assoc f.front (b ∷ []) others) in
    let areas : areas_of blocks ≡ areas_of f.front ++ (b.areas.items ++ areas_of others) =
    ap areas_of (f.whole ∙ ap (λ x. f.front ++ x) is) ∙ areas_of-append f.front (b ∷ others) in
    let own : IsAreaList b.areas.items =
    areas_left b.areas.items (areas_of others) (areas_right (areas_of f.front) (b.areas.items ++ areas_of others) (subst IsAreaList areas w)) in
    record {
      front = f.front ++ b ∷ [];
      whole = whole;
      counted = omega (arith, length-append f.front (b ∷ []), f.counted);
      upto =
          subst (All (λ a. a.hi ≤ page)) (sym (areas_of-more f.front b))
          (All-append (λ a. a.hi ≤ page) (areas_of f.front) b.areas.items f.upto
          (upto_end b.areas.items end page own (subst (λ n. n ≤ page) e l)));
      end_is =
          e ∙ ap (λ n. end_of n b.areas.items) f.end_is ∙ sym (end_of-append 0 (areas_of f.front) b.areas.items) ∙
          ap (end_of 0) (sym (areas_of-more f.front b));
    }

-- the next block is one of those behind the cut
pub front_cut : (blocks left others : List Block) (b : Block) (page count end : ℕ) → FrontSoFar blocks left page count end →
    left ≡ b ∷ others → IsFrontCut blocks page count end
front_cut blocks left others b page count end f is =
    record {
      front = f.front;
      rest = left;
      whole = f.whole;
      counted = f.counted;
      some = omega (arith, ap length is);
      upto = f.upto;
      end_is = f.end_is;
    }

-- so many blocks but those that are left, one at least
pub record WindowSoFar (blocks left : List Block) (count : ℕ) : Type 0 where
  pub window : List Block
  pub whole : blocks ≡ window ++ left
  pub counted : length window ≡ count
  pub some : 0 < count

-- with one block more
pub window_next : (blocks left others : List Block) (b : Block) (count : ℕ) → WindowSoFar blocks left count → left ≡ b ∷ others →
    WindowSoFar blocks others (count + 1)
window_next blocks left others b count s is =
    record {
      window = s.window ++ b ∷ [];
      whole = s.whole ∙ ap (λ x. s.window ++ x) is ∙ sym (append_assoc s.window (b ∷ []) others);
      counted = omega (arith, length-append s.window (b ∷ []), s.counted);
      some = omega arith;
    }

starts_with : (X Y : List Area) (a : Area) (page : ℕ) → IsAreaList (X ++ Y) → slice_get X 0 ≡ Some a → page < a.lo →
    All (λ b. page < b.lo) (X ++ Y) × (a.lo ≡ start_of (X ++ Y))
starts_with [] Y a page w e l = absurd cc
starts_with (x ∷ X) Y a page w e l =
    let same : x ≡ a = cc in
    let start : x.lo ≡ a.lo = ap (λ y. y.lo) same in
    (starts_above x (X ++ Y) page w (omega arith), sym start)

-- the blocks behind begin with an area above the page
pub back_cut : (blocks left others : List Block) (b : Block) (a : Area) (page count : ℕ) → IsAreaList (areas_of blocks) →
    WindowSoFar blocks left count → left ≡ b ∷ others → slice_get b.areas.items 0 ≡ Some a → page < a.lo → IsBackCut blocks page count a.lo
back_cut blocks left others b a page count w s is first l =
    let areas : areas_of blocks ≡ areas_of s.window ++ (b.areas.items ++ areas_of others) =
    ap areas_of (s.whole ∙ ap (λ x. s.window ++ x) is) ∙ areas_of-append s.window (b ∷ others) in
    let behind : IsAreaList (b.areas.items ++ areas_of others) =
    areas_right (areas_of s.window) (b.areas.items ++ areas_of others) (subst IsAreaList areas w) in
    let start = starts_with b.areas.items (areas_of others) a page behind first l in
    record {
      window = s.window;
      back = b ∷ others;
      whole = s.whole ∙ ap (λ x. s.window ++ x) is;
      counted = s.counted;
      some = s.some;
      above = start.0;
      start_is = start.1;
    }

-- or no block is behind
pub back_none : (blocks left : List Block) (page count : ℕ) → WindowSoFar blocks left count → length left ≡ 0 → IsBackCut blocks page count LIMIT
back_none blocks [] page count s e =
    record { window = s.window; back = []; whole = s.whole; counted = s.counted; some = s.some; above = All-nil (λ a. page < a.lo); start_is = refl }
back_none blocks (b ∷ left) page count s e = absurd (omega arith)

-- gaps that aren't longer than one number aren't longer than a higher one, with the gap behind one area more
pub gaps_next : (left others A : List Area) (a : Area) (gap next : ℕ) → left ≡ a ∷ others → gap ≤ next →
    IfSome (slice_get others 0) (λ b. b.lo ≤ a.hi + next) → ((g : ℕ) → gap ≤ g → GapsWithin g left → GapsWithin g A) →
    (g : ℕ) → next ≤ g → GapsWithin g others → GapsWithin g A
gaps_next left [] A a gap next is l near whole g h more =
    whole g (omega arith) (subst (GapsWithin g) (sym is) (tt, more))
gaps_next left (b ∷ others) A a gap next is l near whole g h more =
    whole g (omega arith) (subst (GapsWithin g) (sym is) (omega arith, more))

-- where one block takes its share, or all, what is left has its share in the others
pub share_left : (share n len rest mid : ℕ) → len ≤ share * (n + 1) → mid ≡ min share len → rest + mid ≡ len → rest ≤ share * n
share_left share n len rest mid l low sum = omega (arith, l, low, sum)

-- the first blocks of a run, and its last one
pub blocks_front : (X : List Block) (b : Block) → All IsBlock (X ++ b ∷ []) → All IsBlock X × IsBlock b
blocks_front [] b all = (All-nil IsBlock, All-head IsBlock b [] all)
blocks_front (x ∷ X) b all =
    let more = blocks_front X b (All-tail IsBlock x (X ++ b ∷ []) all) in
    (All-cons IsBlock x X (All-head IsBlock x (X ++ b ∷ []) all) more.0, more.1)

-- and those of three runs
pub blocks_parts : (X Y Z : List Block) → All IsBlock (X ++ (Y ++ Z)) → All IsBlock X × All IsBlock Y × All IsBlock Z
blocks_parts [] [] Z all = (All-nil IsBlock, All-nil IsBlock, all)
blocks_parts [] (y ∷ Y) Z all =
    let more = blocks_parts [] Y Z (All-tail IsBlock y (Y ++ Z) all) in
    (All-nil IsBlock, All-cons IsBlock y Y (All-head IsBlock y (Y ++ Z) all) more.1, more.2)
blocks_parts (x ∷ X) Y Z all =
    let more = blocks_parts X Y Z (All-tail IsBlock x (X ++ (Y ++ Z)) all) in
    (All-cons IsBlock x X (All-head IsBlock x (X ++ (Y ++ Z)) all) more.0, more.1, more.2)
