-- What was read of rows stands still where other words change, where its caller stores a row of its own plan, and where
-- a caller's pass is replaced by one with as much to write. These are parts of the proofs in `Keeping`; a reader who
-- trusts the check may pass them over.
use Rattle.std.specs.Prelude.{All, Option, Some, slice_index}
use Rattle.std.proofs.Common.{◌≡◌, ◌≢◌, ℕ, zero, suc, ◌+◌, ◌-◌, ◌*◌, ◌<◌, ◌≤◌, Bool, true, false, not, cond, eqb, List, [], ◌∷◌}
use Rattle.std.proofs.Common.{length, take, drop, set, sym, refl, ap, ◌∙◌, subst, arith, length-set, ◌⊎◌, ⊎_elim, inl, inr}
use Rattle.std.proofs.lemmas.Bool.{eqb-false}
use Rattle.std.proofs.lemmas.List.{get_or-set_same, get_or-set_other, get_or-drop, length-drop, drop-set-lt, drop-set-add, take-set-le}
use Rattle.std.proofs.Math.Seq.{take-set-lt}
use Rattle.std.proofs.lemmas.List.Elements.{All-nil, All-cons, All-head, All-tail, All-weaker}
use mathlib.Core.Option.{some, some-injective}
use mathlib.Core.Logic.{dite}
use native.Mathlib.Decide.{ℕ_discrete}
use lib.ListN.{get_elem?}
use Rattle.atomic_table.proofs.Lists.{at_set, set_here, set_else}
use Rattle.lock_core.proofs.ByPlace.{below}
use Rattle.page_types.specs.declared.calls.Kind.{Kind}
use Rattle.space_model.specs.declared.areas.Area.{Area}
use Rattle.lock_core.specs.declared.range.Held.{Held}
use Rattle.area_guard.specs.declared.guard.ReadRow.{ReadRow}
use Rattle.area_guard.specs.declared.guard.Pass.{Pass}
use Rattle.area_guard.specs.declared.guard.Pending.{Pending}
use Rattle.row_plans.specs.RowWords.{row_start, row_kind}
use Rattle.row_plans.specs.RowLists.{ShowFrom, IsBareGap}
use Rattle.row_blocks.specs.Blocks.{run, blocks_of, rows_of, IsLaidOut, rows_in as rows_by}
use Rattle.area_guard.specs.Rows.{nb_in, keeps_in, number_place, layout_in, rows_in, slots_of, slots_in, slots_to, AreNeighbours, IsOneOf, IsSlot}
use Rattle.area_guard.specs.Rows.{IsRowOf, RowsShow}
use Rattle.row_blocks.specs.Gaps.{GapsTold}
use Rattle.area_guard.specs.Alike.{also_laid, also_rows, also_free, also_short, also_told}
use Rattle.area_guard.specs.Reads.{everything, noted_at, StillStands}
use Rattle.area_guard.specs.History.{HasBlocks, LagsAt, ShowsBefore, IsShown, without}

-- a store before the last seventeen words leaves how many blocks there is room for
pub nb_stays : (words : List ℕ) (place value : ℕ) → place + 17 < length words → nb_in (set words place value) ≡ nb_in words
nb_stays words place value low =
    ap (λ (n : ℕ). slice_index (set words place value) (n - 17)) (length-set words place value)
    ∙ get_or-set_other words place (length words - 17) value 0 (λ e. omega arith)

-- and one before the last eighteen whether the space keeps its history
pub keeps_stays : (words : List ℕ) (place value : ℕ) → place + 18 < length words → keeps_in (set words place value) ≡ keeps_in words
keeps_stays words place value low =
    ap (λ (n : ℕ). eqb (slice_index (set words place value) (n - 18)) 1) (length-set words place value)
    ∙ ap (λ (n : ℕ). eqb n 1) (get_or-set_other words place (length words - 18) value 0 (λ e. omega arith))

-- so does one among the words of the blocks, before them, and of the number word
pub room_stays : (words : List ℕ) (nb : ℕ) {keeps : Bool} (place value : ℕ) → place < 12 + 129 * nb_in words → HasBlocks words nb keeps
    → HasBlocks (set words place value) nb keeps
room_stays words nb place value low has =
    let long = length-set words place value in
    let wide = has.1 in
    let same = nb_stays words place value (omega arith) in
    (has.0 ∙ sym same, omega arith, has.2 ∙ sym (keeps_stays words place value (omega arith)))

-- a store before the layout, but for the row count, leaves the layout
pub layout_stays : (words : List ℕ) (place value : ℕ) → place ≢ 2 → place < 3 + 128 * nb_in words → place + 17 < length words
    → layout_in (set words place value) ≡ layout_in words
layout_stays words place value differ below low =
    let two : List ℕ = set words place value in
    let count : slice_index two 2 ≡ slice_index words 2 = get_or-set_other words place 2 value 0 (λ e. differ (sym e)) in
    let told : drop (3 + 128 * nb_in words) two ≡ drop (3 + 128 * nb_in words) words = drop-set-lt (3 + 128 * nb_in words) words place value below in
    ap (λ (n : ℕ). n ∷ take (nb_in two + 1) (drop (3 + 128 * nb_in two) two)) count
    ∙ (ap (λ (n : ℕ). slice_index words 2 ∷ take (n + 1) (drop (3 + 128 * n) two)) (nb_stays words place value low)
    ∙ ap (λ (l : List ℕ). slice_index words 2 ∷ take (nb_in words + 1) l) told)

-- a place of no word of the blocks, and not that of the row count
abbrev pub IsBeside : ℕ → ℕ → Type 0
IsBeside nb place = (place < 2) ⊎ (4 + 129 * nb ≤ place)

-- so does a store there
pub layout_beside : (words : List ℕ) (place value : ℕ) → IsBeside (nb_in words) place → place + 17 < length words
    → layout_in (set words place value) ≡ layout_in words
layout_beside words place value (inl before) low = layout_stays words place value (λ e. omega arith) (omega arith) low
layout_beside words place value (inr behind) low =
    let at : ℕ = 3 + 128 * nb_in words in
    let index : ℕ = place - at in
    let is : place ≡ at + index = omega arith in
    let two : List ℕ = set words place value in
    let count : slice_index two 2 ≡ slice_index words 2 = get_or-set_other words place 2 value 0 (λ e. omega arith) in
    ap (λ (n : ℕ). n ∷ take (nb_in two + 1) (drop (3 + 128 * nb_in two) two)) count
    ∙ (ap (λ (n : ℕ). slice_index words 2 ∷ take (n + 1) (drop (3 + 128 * n) two)) (nb_stays words place value low)
    ∙ ap (λ (l : List ℕ). slice_index words 2 ∷ l)
    (ap (λ (n : ℕ). take (nb_in words + 1) (drop at (set words n value))) is ∙ (ap (take (nb_in words + 1)) (drop-set-add at words index value)
    ∙ take-set-le (nb_in words + 1) (drop at words) index value (omega arith))))

-- a store at another place leaves the number word: where the space keeps its history it counts as many entries
pub number_stays : (words : List ℕ) (place value : ℕ) {n : ℕ} → place + 18 < length words → place ≢ number_place (nb_in words)
    → (keeps_in words ≡ true → slice_index words (number_place (nb_in words)) ≡ n) → keeps_in (set words place value) ≡ true
    → slice_index (set words place value) (number_place (nb_in (set words place value))) ≡ n
number_stays words place value low differ counts keeps =
    ap (λ (n : ℕ). slice_index (set words place value) (number_place n)) (nb_stays words place value (omega arith))
    ∙ (get_or-set_other words place (number_place (nb_in words)) value 0 (λ e. differ (sym e))
    ∙ counts (sym (keeps_stays words place value low) ∙ keeps))

-- a store of the row count changes the first word of the layout
pub layout_counted : (words : List ℕ) (value : ℕ) → 19 < length words → layout_in (set words 2 value) ≡ set (layout_in words) 0 value
layout_counted words value wide =
    let two : List ℕ = set words 2 value in
    let told : drop (3 + 128 * nb_in words) two ≡ drop (3 + 128 * nb_in words) words = drop-set-lt (3 + 128 * nb_in words) words 2 value (omega arith) in
    ap (λ (n : ℕ). n ∷ take (nb_in two + 1) (drop (3 + 128 * nb_in two) two)) (get_or-set_same words 2 value 0 (omega arith))
    ∙ (ap (λ (n : ℕ). value ∷ take (n + 1) (drop (3 + 128 * n) two)) (nb_stays words 2 value (omega arith))
    ∙ ap (λ (l : List ℕ). value ∷ take (nb_in words + 1) l) told)

-- and one of another of its words changes that one
pub layout_told : (words : List ℕ) (index value : ℕ) → index ≤ nb_in words → 36 + 129 * nb_in words ≤ length words
    → layout_in (set words (3 + 128 * nb_in words + index) value) ≡ set (layout_in words) (suc index) value
layout_told words index value few wide =
    let at : ℕ = 3 + 128 * nb_in words in
    let two : List ℕ = set words (at + index) value in
    let count : slice_index two 2 ≡ slice_index words 2 = get_or-set_other words (at + index) 2 value 0 (λ e. omega arith) in
    ap (λ (n : ℕ). n ∷ take (nb_in two + 1) (drop (3 + 128 * nb_in two) two)) count
    ∙ (ap (λ (n : ℕ). slice_index words 2 ∷ take (n + 1) (drop (3 + 128 * n) two)) (nb_stays words (at + index) value (omega arith))
    ∙ ap (λ (l : List ℕ). slice_index words 2 ∷ l)
    (ap (take (nb_in words + 1)) (drop-set-add at words index value) ∙ take-set-lt (nb_in words + 1) (drop at words) index value (omega arith)))

-- the words of the slots and the layout are the same. While the layout is being written it may name slots that there
-- aren't: their words too
pub record HasSameWords (words others : List ℕ) : Type 0 where
  pub blocks : nb_in others ≡ nb_in words
  pub layout : layout_in others ≡ layout_in words
  pub rows : (slot : ℕ) → slot < 128 * nb_in words → slice_index others (3 + slot) ≡ slice_index words (3 + slot)
  pub used : (slot : ℕ) → IsSlot words slot → slice_index others (3 + slot) ≡ slice_index words (3 + slot)

-- a row whose word is the same stands still
pub exact_stands : (held : Option Held) (words : List ℕ) (r : ReadRow) → r.index < 128 * nb_in words → slice_index words (3 + r.index) ≡ r.word
    → StillStands held words r
exact_stands held words r slot e = record {
  slot = slot;
  side = λ page h. (λ le. subst (λ (w : ℕ). row_start w ≤ page) (sym e) le, λ le. subst (λ (w : ℕ). row_start w ≤ page) e le);
  start = λ page h at. ap row_start e;
  kind = λ page h row. ap row_kind e;
  word = λ all. e;
}

-- so do those of numbers from one on as they are noted
noted_run : (held : Option Held) (words : List ℕ) (from n : ℕ) → from + n ≤ 128 * nb_in words → All (StillStands held words) (noted_at words (run from n))
noted_run held words from zero few = All-nil (StillStands held words)
noted_run held words from (suc n) few =
    let r : ReadRow = record { index = from; word = slice_index words (3 + from) } in
    All-cons (StillStands held words) r (noted_at words (run (suc from) n)) (exact_stands held words r (omega arith) refl)
    (noted_run held words (suc from) n (omega arith))

-- and those of all slots
pub noted_stand : (held : Option Held) (words : List ℕ) → All (StillStands held words) (noted_at words (slots_to (nb_in words)))
noted_stand held words = noted_run held words 0 (128 * nb_in words) (omega arith)

module _ (held : Option Held) (words others : List ℕ) (same : HasSameWords words others) where
  slots : slots_in others ≡ slots_in words
  slots = ap slots_of same.layout

  row_back : (page i : ℕ) → IsRowOf others page i → IsRowOf words page i
  row_back page i row =
      let here : IsSlot words i = subst (λ (l : List ℕ). IsOneOf l i) slots row.there in
      record {
        there = here;
        from = subst (λ (w : ℕ). row_start w ≤ page) (same.used i here) row.from;
        last = λ next after. subst (λ (w : ℕ). page < row_start w) (same.used next (after.0 + 1, after.2))
            (row.last next (subst (λ (l : List ℕ). AreNeighbours l i next) (sym slots) after));
      }

  -- a row stands still where other words change
  stands_same : (r : ReadRow) → StillStands held words r → StillStands held others r
  stands_same r s =
      let e : slice_index others (3 + r.index) ≡ slice_index words (3 + r.index) = same.rows r.index s.slot in
      record {
        slot = subst (λ (n : ℕ). r.index < 128 * n) (sym same.blocks) s.slot;
        side = λ page h. (
          λ le. subst (λ (w : ℕ). row_start w ≤ page) (sym e) ((s.side page h).0 le),
          λ le. (s.side page h).1 (subst (λ (w : ℕ). row_start w ≤ page) e le),
        );
        start = λ page h at. ap row_start e ∙ s.start page h at;
        kind = λ page h row. ap row_kind e ∙ s.kind page h (row_back page r.index row);
        word = λ all. e ∙ s.word all;
      }

  pub all_stand : (rows : List ReadRow) → All (StillStands held words) rows → All (StillStands held others) rows
  all_stand rows all = All-weaker (StillStands held words) (StillStands held others) stands_same rows all

-- the first two words are no row words, and none of the layout
pub same_low : (words : List ℕ) (place value : ℕ) → place < 2 → 19 < length words → HasSameWords words (set words place value)
same_low words place value low wide = record {
  blocks = nb_stays words place value (omega arith);
  layout = layout_stays words place value (λ e. omega arith) (omega arith) (omega arith);
  rows = λ slot there. get_or-set_other words place (3 + slot) value 0 (λ e. omega arith);
  used = λ slot is. get_or-set_other words place (3 + slot) value 0 (λ e. omega arith);
}

-- a store beside the words of the blocks leaves what the rows show
pub rows_beside : (words : List ℕ) (place value : ℕ) (kinds : ℕ → Option Kind) → IsBeside (nb_in words) place → place + 17 < length words
    → RowsShow words kinds → RowsShow (set words place value) kinds
rows_beside words place value kinds beside low s =
    let two : List ℕ = set words place value in
    let long = length-set words place value in
    let nb : nb_in two ≡ nb_in words = nb_stays words place value low in
    let layout : layout_in two ≡ layout_in words = layout_beside words place value beside low in
    let count : slice_index two 2 ≡ slice_index words 2 = ap (λ (l : List ℕ). slice_index l 0) layout in
    let fits : 129 * nb_in words + 1 ≤ length (drop 3 two) = let d = length-drop 3 two in omega arith in
    let same : (t : ℕ) → t < 129 * nb_in words + 1 → slice_index (drop 3 two) t ≡ slice_index (drop 3 words) t = λ t lt. get_or-drop 3 two t 0
    ∙ (get_or-set_other words place (3 + t) value 0 (λ e. ⊎_elim (λ before. omega arith) (λ behind. omega arith) beside) ∙ sym (get_or-drop 3 words t 0)) in
    let rows : rows_in two ≡ rows_in words = ap (λ (n : ℕ). rows_by n (drop 3 two)) nb ∙ also_rows (drop 3 two) s.laid fits same in
    record {
      room = omega arith;
      some = omega arith;
      few = omega arith;
      show = subst (λ (l : List ℕ). ShowFrom 0 l kinds) (sym rows) s.show;
      gaps = subst (All IsBareGap) (sym rows) s.gaps;
      laid = subst (λ (n : ℕ). IsLaidOut n (drop 3 two)) (sym nb) (also_laid (drop 3 two) s.laid fits same);
      counted = count ∙ (s.counted ∙ ap (λ (l : List ℕ). length (slots_of l)) (sym layout));
      free = subst (λ (n : ℕ). blocks_of n (drop 3 two) < n) (sym nb) (also_free (drop 3 two) s.laid fits same s.free);
      short = subst (λ (n : ℕ). rows_of n (drop 3 two) 0 < 64) (sym nb) (also_short (drop 3 two) s.laid fits same s.free s.short);
      told = subst (λ (n : ℕ). GapsTold n (drop 3 two)) (sym nb) (also_told (drop 3 two) s.laid fits same s.told);
    }

-- a store by the caller who holds everything: of a row
module _ (words : List ℕ) (index value : ℕ) (slot : index < 128 * nb_in words) (wide : 36 + 129 * nb_in words ≤ length words) where
  blocks : nb_in (set words (3 + index) value) ≡ nb_in words
  blocks = nb_stays words (3 + index) value (omega arith)

  stored_one : (r : ReadRow) (kept : List ReadRow) (b : Bool) → eqb r.index index ≡ b → StillStands (Some everything) words r
      → All (StillStands (Some everything) (set words (3 + index) value)) kept
      → All (StillStands (Some everything) (set words (3 + index) value)) (cond (not b) (r ∷ kept) kept)
  stored_one r kept true is s all = all
  stored_one r kept false is s all = All-cons (StillStands (Some everything) (set words (3 + index) value)) r kept
      (exact_stands (Some everything) (set words (3 + index) value) r (subst (λ (n : ℕ). r.index < 128 * n) (sym blocks) s.slot)
      (get_or-set_other words (3 + index) (3 + r.index) value 0 (λ same. eqb-false r.index index is (omega arith)) ∙ s.word refl)) all

  stored_rest : (rows : List ReadRow) → All (StillStands (Some everything) words) rows
      → All (StillStands (Some everything) (set words (3 + index) value)) (without index rows)
  stored_rest [] all = All-nil (StillStands (Some everything) (set words (3 + index) value))
  stored_rest (r ∷ rest) all = stored_one r (without index rest) (eqb r.index index) refl
      (All-head (StillStands (Some everything) words) r rest all) (stored_rest rest (All-tail (StillStands (Some everything) words) r rest all))

  pub stored_all : (rows : List ReadRow) → All (StillStands (Some everything) words) rows → All (StillStands (Some everything) (set words (3 + index) value))
      (record { index = index; word = value } ∷ without index rows)
  stored_all rows all = All-cons (StillStands (Some everything) (set words (3 + index) value)) (record { index = index; word = value }) (without index rows)
      (exact_stands (Some everything) (set words (3 + index) value) (record { index = index; word = value })
      (subst (λ (n : ℕ). index < 128 * n) (sym blocks) slot) (get_or-set_same words (3 + index) value 0 (omega arith))) (stored_rest rows all)

-- and of a word of the layout, which is in no slot
pub laid_all : (words : List ℕ) (place value : ℕ) (rows : List ReadRow) → (place ≡ 2) ⊎ (3 + 128 * nb_in words ≤ place) → place + 17 < length words
    → All (StillStands (Some everything) words) rows → All (StillStands (Some everything) (set words place value)) rows
laid_all words place value rows outside low all = All-weaker (StillStands (Some everything) words) (StillStands (Some everything) (set words place value))
    (λ r s. exact_stands (Some everything) (set words place value) r (subst (λ (n : ℕ). r.index < 128 * n) (sym (nb_stays words place value low)) s.slot)
    (get_or-set_other words place (3 + r.index) value 0 (λ e. ⊎_elim (λ two. omega arith) (λ far. omega arith) outside) ∙ s.word refl)) rows all

-- the kinds that the rows show, after a caller's pass has changed to one with as much to write
pub shown_set : (state : List Area) (passes : List Pass) (worker : ℕ) (p q : Pass) (kinds : ℕ → Option Kind)
    → get_elem? passes worker ≡ some p → q.pending ≡ p.pending → IsShown state passes kinds → IsShown state (set passes worker q) kinds
shown_set state passes worker p q kinds at same s = record {
  lagging = λ other x there. ⊎_elim
      (λ t. subst (λ (y : Pass). ShowsBefore y.pending kinds) t.1 (subst (λ (z : Pending). ShowsBefore z kinds) (sym same) (s.lagging worker p at)))
      (λ t. s.lagging other x t.1) (at_set passes worker other q x there);
  elsewhere = λ page free. s.elsewhere page (λ other x there lags. dite (ℕ_discrete other worker) (λ is.
      let mine : x ≡ p = some-injective x p (sym there ∙ (ap (get_elem? passes) is ∙ at)) in
      free worker q (set_here passes worker q (below passes worker p at))
      (subst (λ (z : Pending). LagsAt z page) (ap (λ (y : Pass). y.pending) mine ∙ sym same) lags))
      (λ differ. free other x (set_else passes worker other q differ ∙ there) lags));
}
