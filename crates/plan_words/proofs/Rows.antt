-- The rows that a caller knows are those that stand among the client words; so where the rows of its splice are written
-- the guard allows it to raise the sequence word.
use Rattle.std.proofs.Common.{◌≡◌, ℕ, ◌+◌, ◌-◌, ◌*◌, ◌<◌, ◌≤◌, List, [], ◌++◌, drop, take, length, inl, inr}
use Rattle.std.proofs.Common.{sym, refl, ap, ◌∙◌, subst, arith}
use Rattle.std.proofs.lemmas.List.{get_or-drop, length-drop, length-take-le, drop_at, take_at, nil_from_length}
use Rattle.std.proofs.lemmas.List.Elements.{All-from_get_or, All-weaker, All-drop, All-take}
use Rattle.std.specs.Prelude.{All, Option, Some, slice_index}
use mathlib.Core.Option.{some}
use lib.ListN.{get_elem?}
use Rattle.lock_core.proofs.ByPlace.{there, at_or}
use Rattle.lock_core.specs.declared.range.Held.{Held}
use Rattle.lock_core.specs.Grants.{Grants}
use Rattle.lock_core.specs.Client.{adds, IsAllowed}
use Rattle.space_model.specs.Areas.{kind_at}
use Rattle.row_plans.specs.RowLists.{ShowFrom, IsBareGap}
use Rattle.row_blocks.specs.Gaps.{GapsTold}
use Rattle.area_guard.specs.declared.guard.Pass.{Pass}
use Rattle.area_guard.specs.declared.guard.Pending.TheVariants.{Planned}
use Rattle.area_guard.specs.declared.guard.Splice.{Splice}
use Rattle.area_guard.specs.Rows.{nb_in, rows_in, room_of, slots_in, IsOneOf, RowsShow}
use Rattle.area_guard.specs.Reads.{everything}
use Rattle.area_guard.specs.History.{HasHistory, Allowed, IsPlanRow, rows_after, after_raise}
use Rattle.area_guard.specs.History.MayAdd.{raise}
use Rattle.area_guard.specs.Keeping.{no_note}
use Rattle.area_guard.specs.Alike.{also_laid, also_rows, also_free, also_short, also_told}
use Rattle.area_guard.specs.Slots.{slots_as}
use Rattle.row_blocks.specs.Blocks.{blocks_of, rows_of, IsLaidOut, rows_in as rows_by}
use Rattle.std.specs.List.{splice}
use Rattle.row_blocks.proofs.RowSplices.{length-splice, splice_none}
use Rattle.row_blocks.proofs.Slots.{length-slots_in, length-rows_in}
use Rattle.area_guard.specs.Reads.{known_count, known_rows, known_words, KnowsWords, KnowsBlocks}
use Rattle.plan_words.proofs.Moments.{here_at, part_at, backs_at}
use Rattle.plan_words.proofs.Storing.{word_now, count_now}

-- a seat that has a splice to write
module _ (seat : ℕ) {held : Option Held} {pass : Pass} (plan : Splice) (all : held ≡ Some everything) (planned : pass.pending ≡ Planned plan)
    (k : KnowsWords pass) where
  -- the rows that are written show the last state
  written_shows : (grants : Grants) (words : List ℕ) (passes : List Pass) (kept : HasHistory grants words passes)
      → get_elem? grants seat ≡ some held → get_elem? passes seat ≡ some pass → KnowsBlocks pass
      → known_rows pass ≡ rows_after plan → known_count pass ≡ length (rows_after plan) → RowsShow words (kind_at kept.2)
  written_shows grants words passes kept grant own b has counted =
      let part = part_at grants words passes seat pass kept own in
      let shows = (backs_at grants words passes seat pass kept own plan planned).1 in
      let nb = part.room.0 in
      let blocks : List ℕ = drop 3 words in
      let long = length-drop 3 words in
      let fits : 129 * pass.blocks + 1 ≤ length blocks = omega arith in
      let same : (t : ℕ) → t < 129 * pass.blocks + 1 → slice_index blocks t ≡ slice_index (known_words pass) t =
      λ (t : ℕ) lt. get_or-drop 3 words t 0 ∙ sym (word_now seat all k grants words passes kept grant own t lt) in
      let laid = also_laid blocks b.laid fits same in
      let laid_now : IsLaidOut (nb_in words) blocks = subst (λ (n : ℕ). IsLaidOut n blocks) nb laid in
      let rows : rows_in words ≡ rows_after plan = ap (λ (n : ℕ). rows_by n blocks) (sym nb) ∙ (also_rows blocks b.laid fits same ∙ has) in
      let stands : slice_index words 2 ≡ length (rows_after plan) = sym (count_now seat all k grants words passes kept grant own) ∙ counted in
      let slots : length (slots_in words) ≡ length (rows_in words) = ap length (slots_as words part.room.1 laid_now)
      ∙ (length-slots_in (nb_in words) blocks ∙ sym (length-rows_in (nb_in words) blocks laid_now)) in
      record {
        room = part.room.1;
        some = omega arith;
        few = omega arith;
        show = subst (λ (l : List ℕ). ShowFrom 0 l (kind_at kept.2)) (sym rows) shows.show;
        gaps = subst (All IsBareGap) (sym rows) shows.gaps;
        laid = laid_now;
        counted = stands ∙ (sym (ap length rows) ∙ sym slots);
        free = subst (λ (n : ℕ). blocks_of n blocks < n) nb (also_free blocks b.laid fits same b.free);
        short = subst (λ (n : ℕ). rows_of n blocks 0 < 64) nb (also_short blocks b.laid fits same b.free b.short);
        told = subst (λ (n : ℕ). GapsTold n blocks) nb (also_told blocks b.laid fits same b.told);
      }

  -- so the sequence word may be raised
  pub may_raise : KnowsBlocks pass → known_rows pass ≡ rows_after plan → known_count pass ≡ length (rows_after plan)
      → IsAllowed HasHistory Allowed no_note seat held pass (adds 1 1)
  may_raise b has counted grants words passes m there small =
      let here = here_at m in (
        after_raise pass,
        (
          refl,
          here,
          raise plan refl planned (written_shows grants words passes m.met m.grant m.own b has counted) refl,
        ),
      )

-- each row of a list is one of them
all_one_of : (rows : List ℕ) → All (IsOneOf rows) rows
all_one_of rows = All-from_get_or (IsOneOf rows) rows 0 (λ j lt.
    let at = there rows j lt in (j, at.1 ∙ ap some (sym (at_or rows j at.0 0 at.1))))

-- the rows that stood are rows of the splice
pub old_rows : (plan : Splice) {rows : List ℕ} → rows ≡ plan.old → All (IsPlanRow plan) rows
old_rows plan is = subst (All (IsPlanRow plan)) (sym is) (All-weaker (IsOneOf plan.old) (IsPlanRow plan) (λ w one. inl one) plan.old (all_one_of plan.old))

-- and so are those that come
pub more_rows : (plan : Splice) {rows : List ℕ} → rows ≡ plan.more → plan.first ≤ length plan.old → All (IsPlanRow plan) rows
more_rows plan is inside =
    let front : List ℕ = take plan.first plan.old in
    let back : List ℕ = drop plan.end plan.old in
    let long : length front ≡ plan.first = length-take-le plan.first plan.old inside in
    let behind : drop plan.first (rows_after plan) ≡ plan.more ++ back = drop_at front (plan.more ++ back) plan.first long in
    let here : take (length plan.more) (drop plan.first (rows_after plan)) ≡ plan.more =
    ap (take (length plan.more)) behind ∙ take_at plan.more back (length plan.more) refl in
    let all : All (IsOneOf (rows_after plan)) (take (length plan.more) (drop plan.first (rows_after plan))) =
    All-take (IsOneOf (rows_after plan)) (length plan.more) (drop plan.first (rows_after plan))
    (All-drop (IsOneOf (rows_after plan)) plan.first (rows_after plan) (all_one_of (rows_after plan))) in
    subst (All (IsPlanRow plan)) (sym is) (All-weaker (IsOneOf (rows_after plan)) (IsPlanRow plan) (λ w one. inr one) plan.more
    (subst (All (IsOneOf (rows_after plan))) here all))

-- what is so of all rows after a splice is so of those that came
pub more_all : (P : ℕ → Type 0) (plan : Splice) {more : List ℕ} → more ≡ plan.more → plan.first ≤ length plan.old → All P (rows_after plan) → All P more
more_all P plan is inside all =
    let front : List ℕ = take plan.first plan.old in
    let back : List ℕ = drop plan.end plan.old in
    let long : length front ≡ plan.first = length-take-le plan.first plan.old inside in
    let behind : drop plan.first (rows_after plan) ≡ plan.more ++ back = drop_at front (plan.more ++ back) plan.first long in
    let here : take (length plan.more) (drop plan.first (rows_after plan)) ≡ plan.more =
    ap (take (length plan.more)) behind ∙ take_at plan.more back (length plan.more) refl in
    subst (All P) (here ∙ sym is)
    (All-take P (length plan.more) (drop plan.first (rows_after plan)) (All-drop P plan.first (rows_after plan) all))

-- where no row goes and none comes the rows after a splice are those before it
pub none_written : (plan : Splice) {gone : ℕ} {more : List ℕ} → plan.end ≡ plan.first + gone → gone ≡ 0 → more ≡ plan.more → length more ≡ 0
    → rows_after plan ≡ plan.old
none_written plan end none is no_more =
    let nothing : plan.more ≡ [] = nil_from_length plan.more (ap length (sym is) ∙ no_more) in
    let same : plan.end ≡ plan.first = omega arith in
    (λ i. splice plan.old plan.first (same i) (nothing i)) ∙ splice_none plan.old plan.first

-- there is room for the rows of a splice, as `row_blocks` asks for it
pub write_room : (plan : Splice) {rows more : List ℕ} (nb gone : ℕ) → rows ≡ plan.old → more ≡ plan.more → plan.end ≡ plan.first + gone
    → plan.end ≤ length plan.old → length (rows_after plan) ≤ room_of nb → 0 < length (rows_after plan)
    → 2 * (length rows + length more) < 129 * (nb - 2) + 2 * gone
write_room plan nb gone stood comes end inside fits some_row =
    let a = ap length stood in
    let b = ap length comes in
    let c = length-splice plan.old plan.more plan.first plan.end (omega arith) inside in
    omega arith
