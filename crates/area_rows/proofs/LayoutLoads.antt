-- The guard allows loads of the words of the layout, and what they tell.
use Rattle.std.proofs.Common.{Bool, ◌≡◌, ℕ, zero, suc, ⊎_elim, inl, inr, ◌+◌, ◌*◌, ◌≤◌, List, [], ◌∷◌, ◌++◌, length, sym, refl, ap, ◌∙◌, subst, arith}
use Rattle.std.proofs.lemmas.List.{get_or-drop}
use Rattle.std.specs.Prelude.{All, Option, Some, IsSome, slice_index}
use mathlib.Core.Option.{some, some-injective}
use lib.ListN.{get_elem?}
use Rattle.atomic_table.specs.Seated.{TableId}
use Rattle.page_types.specs.declared.calls.Kind.{Kind}
use Rattle.lock_core.specs.declared.range.Held.{Held}
use Rattle.lock_core.specs.Client.{loads, IsAllowed, IsMade}
use Rattle.range_rw.specs.Contract.{SeatState, TableShape, IsClientCall}
use Rattle.space_model.specs.declared.entries.Entry.{Entry}
use Rattle.space_model.specs.Areas.{row_count}
use Rattle.area_guard.specs.declared.guard.Note.{Note}
use Rattle.area_guard.specs.declared.guard.Pass.{Pass}
use Rattle.area_guard.specs.declared.guard.ReadRow.{ReadRow}
use Rattle.area_guard.specs.Draws.{only_load}
use Rattle.area_guard.specs.History.MayLoad.{number, glance, sequence, layout, row}
use Rattle.area_guard.specs.Keeping.{no_note}
use Rattle.area_guard.specs.Rows.{nb_in, layout_in, slots_to, rows_in, blocks_by, room_of, IsLayoutPlace, IsInReach, RowsShow}
use Rattle.area_guard.specs.Parts.{rows_fit}
use Rattle.area_guard.specs.Reads.{everything, HasRead, StillStands, layout_by, noted_at, known_rows, KnowsRows}
use Rattle.area_guard.specs.History.{HasBlocks, HasHistory, Allowed, IsPart, MayLoad, RowsStandFor, IsAtRest, after_seen}
use Rattle.area_guard.specs.Slots.{layout_long, layout_word, layout_blocks, layout_told, rows_many, slots_many, slot_reach}
use Rattle.plan_words.proofs.Knowing.{known_at}
use Rattle.plan_words.proofs.Seeing.{seen_words, known_blocks}
use Rattle.area_rows.specs.Callers.{IsHeldPages, IsReading}
use Rattle.area_rows.specs.Layouts.{IsLayout, IsSeen, layout_place}
use Rattle.area_rows.proofs.Reading.{read_behind, step_reads}
use Rattle.area_rows.proofs.Moments.{held_pages, here_at, stands, rows_are}
use Rattle.area_rows.proofs.Stepping.{rows_here, whole_list, step_of}
use Rattle.row_plans.proofs.PlanLeft.{counted_rows}

-- the layout of words that show kinds
pub layout_is : {words : List ℕ} {kinds : ℕ → Option Kind} → RowsShow words kinds → IsLayout (nb_in words) (layout_in words)
layout_is {words} s =
    let used = layout_blocks words s.room in let some_block = s.laid.some in let free = s.free in let first = layout_told words s.room 0 (omega arith) in
    let short = s.short in
    record {
      long = layout_long words s.room;
      some = omega arith;
      free = omega arith;
      bodies = λ i lt. let e = layout_told words s.room i lt in let b = s.laid.bodies i lt in omega arith;
      short = omega arith;
    }

-- a word of it among the client words
pub layout_at : (words : List ℕ) → 36 + 129 * nb_in words ≤ length words → (index : ℕ) → index ≤ nb_in words + 1
    → slice_index words (layout_place (nb_in words) index) ≡ slice_index (layout_in words) index
layout_at words room zero le = refl
layout_at words room (suc k) le =
    let at : 3 + (128 * nb_in words + k) ≡ 3 + 128 * nb_in words + k = omega arith in
    sym (layout_word words room k (omega arith) ∙ (get_or-drop 3 words (128 * nb_in words + k) 0 ∙ ap (slice_index words) at))

-- each is a place of the layout
pub is_layout_place : (nb index : ℕ) → index ≤ nb + 1 → IsLayoutPlace nb (layout_place nb index)
is_layout_place nb zero le = inl refl
is_layout_place nb (suc k) le = inr (omega arith, omega arith)

module _ {own : Option Held → Type 0} {free held : Type 0} {words : List ℕ} {history : List Entry} {p after : Pass} where
  -- what a load of it tells of the pass
  layout_tells : {place : ℕ} → IsLayoutPlace p.blocks place → MayLoad own free held words history place p after → after ≡ after_seen words p
  layout_tells at (number h o keeps e is) = absurd (⊎_elim (λ two. omega arith) (λ t. let a = t.1 in omega arith) at)
  layout_tells at (glance f e is) = absurd (⊎_elim (λ two. omega arith) (λ t. let a = t.0 in omega arith) at)
  layout_tells at (sequence h e is) = absurd (⊎_elim (λ two. omega arith) (λ t. let a = t.0 in omega arith) at)
  layout_tells at (layout h e is) = is
  layout_tells at (row i h few e is) = absurd (⊎_elim (λ two. omega arith) (λ t. let a = t.0 in omega arith) at)

module _ (note : Note) (seat : ℕ) (held : Option Held) (pass : Pass) where
  -- a load of a word of the layout, while pages are held
  pub may_layout : (place : ℕ) → IsLayoutPlace pass.blocks place → IsSome held → IsHeldPages held
      → IsAllowed HasHistory Allowed note seat held pass (loads place)
  may_layout place at some_held pages grants words passes m lt small = (
    after_seen words pass,
    (here_at m, inl (layout (held_pages grants seat held m.grant some_held pages) at refl)),
  )

-- each word that was noted, and each that was read before and stands, stands
has_noted : (words slots : List ℕ) (rows : List ReadRow) → ((slot word : ℕ) → HasRead rows slot word → slice_index words (3 + slot) ≡ word)
    → (slot word : ℕ) → HasRead (noted_at words slots ++ rows) slot word → slice_index words (3 + slot) ≡ word
has_noted words [] rows all slot word h = all slot word h
has_noted words (s ∷ rest) rows all slot word h = ⊎_elim (λ t. ap (λ (n : ℕ). slice_index words (3 + n)) (sym t.0) ∙ t.1)
    (λ t. has_noted words rest rows all slot word t) h

-- with a word of the layout a caller that holds everything knows all rows
pub seen_all : {words : List ℕ} {kinds : ℕ → Option Kind} (p : Pass) {keeps : Bool} → HasBlocks words p.blocks keeps → RowsShow words kinds
    → ((slot word : ℕ) → HasRead p.rows slot word → slice_index words (3 + slot) ≡ word)
    → KnowsRows (after_seen words p) × (known_rows (after_seen words p) ≡ rows_in words)
seen_all {words} {kinds} p room s stand =
    let k = seen_words words p room in
    let at = known_at words (after_seen words p) room k (has_noted words (slots_to (nb_in words)) p.rows stand) (λ old e. ap layout_by e) in
    let b = known_blocks words kinds (after_seen words p) room s k at in (
      record {
        words = k;
        blocks = b.0;
        counted = sym (rows_many words kinds s) ∙ sym (ap length b.1);
      },
      b.1,
    )

-- a load of a word of the layout is kept in the pass, with the layout and the words of all slots of the moment
pub seen_is : {s u : SeatState Pass} (index : ℕ) {place : ℕ} (found : ℕ) → s.pass.blocks ≡ blocks_by s.table → index ≤ blocks_by s.table + 1
    → place ≡ layout_place (blocks_by s.table) index → IsSome s.held → IsHeldPages s.held → IsAtRest s.pass → IsClientCall s place u
    → IsMade HasHistory Allowed no_note s.number s.held s.pass (loads place) found u.pass → IsSeen s index found u
seen_is {s} {u} index {place} found same_blocks le at some_held pages rest call made =
    let words = made.1 in let m = made.3 in let here = made.5.0 in
    let same : here.pass ≡ s.pass = some-injective here.pass s.pass (sym here.own ∙ m.own) in
    let rows : RowsStandFor here.state made.2 words =
    rows_here no_note s.number s.held s.pass here some_held pages m.grant (ap (λ (x : Pass). x.pending) same ∙ rest) in
    let part : IsPart here.start here.history words s.number s.pass =
    subst (λ (x : Pass). IsPart here.start here.history words s.number x) same (here.running.parts s.number here.pass here.own) in
    let blocks : blocks_by s.table ≡ nb_in words = sym same_blocks ∙ part.room.0 in
    let told : here.pass.blocks ≡ blocks_by s.table = ap (λ (x : Pass). x.blocks) same ∙ same_blocks in
    let is_place : IsLayoutPlace here.pass.blocks place =
    subst (λ (z : ℕ × ℕ). IsLayoutPlace z.0 z.1) (λ i. (sym told i, sym at i)) (is_layout_place (blocks_by s.table) index le) in
    let stands_at : place ≡ layout_place (nb_in words) index = at ∙ ap (λ (n : ℕ). layout_place n index) blocks in
    let seen : u.pass ≡ after_seen words s.pass = layout_tells is_place
    (only_load (λ e. ⊎_elim (λ two. omega arith) (λ t. let a = t.1 in omega arith) is_place) made.5.1) ∙ (λ i. after_seen words (same i)) in
    let many = rows_many words rows.0 rows.2 in
    record {
      words = words;
      layout = subst (λ (n : ℕ). IsLayout n (layout_in words)) (sym blocks) (layout_is rows.2);
      word = sym (layout_at words rows.2.room index (omega arith)) ∙ (ap (slice_index words) (sym stands_at) ∙ made.4);
      some = rows.2.some;
      few = rows.2.few;
      rows = many;
      slots = slots_many words rows.0 rows.2 ∙ many;
      reach = λ slot is. subst (λ (n : ℕ). IsInReach n slot) same_blocks (slot_reach words rows.0 rows.2 here.start here.history s.number s.pass part slot is);
      blocks = same_blocks;
      step = step_of (subst (λ (n : ℕ). IsClientCall s n u) at call) seen;
      again = λ old laid. part.laid old laid;
      all = λ everywhere.
          let granted : get_elem? made.0 s.number ≡ some (Some everything) = m.grant ∙ ap some everywhere in
          let stood : All (StillStands (Some everything) words) s.pass.rows =
          subst (λ (x : Pass). All (StillStands (Some everything) words) x.rows) same
          ((here.backed s.number here.pass here.own).rows (Some everything) granted) in
          let rested : IsAtRest here.pass = ap (λ (x : Pass). x.pending) same ∙ rest in
          let list = whole_list no_note s.number s.held s.pass here rested granted in
          let are = rows_are here granted rested refl in
          let known = seen_all s.pass part.room rows.2
          (λ slot word has. (stands (Some everything) words s.pass.rows slot word stood has).word refl) in
          let long = counted_rows (rows_in words) list in let state = ap row_count are.1 in
          let fits = rows_fit here.start here.history here.state words made.2 here.running in (
            subst KnowsRows (sym seen) known.0,
            ap known_rows seen ∙ known.1,
            list,
            subst (λ (n : ℕ). length (rows_in words) ≤ room_of n) (sym blocks) (omega arith),
          );
    }

-- it is a reading
pub seen_reads : {a b : SeatState Pass} {index found : ℕ} → IsSeen a index found b → IsReading a b
seen_reads {a} s = step_reads s.step refl refl refl refl refl (record {
  laid = λ old e. ap (λ (l : List ℕ). Some l) (s.again old e);
  rows = λ slot word h. read_behind (noted_at s.words (slots_to (nb_in s.words))) a.pass.rows slot word h;
  sequence = λ m e. e;
  pending = refl;
  blocks = refl;
})

-- and it leaves the layout that was noted before, or notes it
pub seen_laid : {a b : SeatState Pass} {index found : ℕ} (s : IsSeen a index found b) → b.pass.laid ≡ Some (layout_in s.words)
seen_laid s = ap (λ (p : Pass). p.laid) s.step.pass

-- two loads of words of the layout, one behind the other, tell of the same layout
module _ {a b c d : SeatState Pass} {i j found other : ℕ} (one : IsSeen a i found b) (two : IsSeen c j other d) (same : c.pass.laid ≡ b.pass.laid) where
  layout_again : layout_in two.words ≡ layout_in one.words
  layout_again = two.again (layout_in one.words) (same ∙ seen_laid one)

  -- the second word stands in the first layout
  pub word_again : slice_index (layout_in one.words) j ≡ other
  word_again = ap (λ (l : List ℕ). slice_index l j) (sym layout_again) ∙ two.word

  -- and this is noted
  pub laid_again : d.pass.laid ≡ Some (layout_in one.words)
  laid_again = seen_laid two ∙ ap (λ (l : List ℕ). Some l) layout_again

-- no table has room for more blocks
pub blocks_few : (table : TableId) → blocks_by table ≤ 2048
unfolding blocks_by
blocks_few table = omega arith

-- a caller's table has as many blocks as its space says
pub own_blocks : {table : TableId} {view shape : TableShape} {blocks : ℕ} → table ≡ shape.table → view ≡ shape → blocks ≡ blocks_by view.table
    → blocks_by table ≡ blocks
own_blocks is same counted = ap blocks_by (is ∙ sym (ap (λ (t : TableShape). t.table) same)) ∙ sym counted
