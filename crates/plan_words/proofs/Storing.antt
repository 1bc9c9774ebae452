-- The guard allows the steps by which a splice is written, and what each leaves of what its caller knows.
use Rattle.std.proofs.Common.{◌≡◌, ◌≢◌, ℕ, suc, ◌+◌, ◌-◌, ◌*◌, ◌<◌, ◌≤◌, Bool, true, false, not, cond, eqb, List, [], ◌∷◌, ◌++◌, length, set, length-set}
use Rattle.std.proofs.Common.{sym, refl, ap, ◌∙◌, subst, arith, ◌⊎◌, inl, inr, ⊎_elim}
use Rattle.std.proofs.lemmas.Bool.{cases_lt, eqb-true}
use Rattle.std.proofs.lemmas.List.{get_or-set_same, get_or-set_other}
use Rattle.std.specs.Prelude.{Option, Some, slice_index}
use mathlib.Core.Option.{some, some-injective}
use mathlib.Core.Logic.{dite}
use native.Mathlib.Decide.{ℕ_discrete}
use lib.ListN.{get_elem?}
use Rattle.atomic_table.proofs.Lists.{set_here}
use Rattle.lock_core.proofs.ByPlace.{below}
use Rattle.lock_core.specs.declared.range.Held.{Held}
use Rattle.lock_core.specs.Grants.{Grants}
use Rattle.lock_core.specs.Client.{loads, stores, adds, IsAllowed, IsMade}
use Rattle.range_rw.specs.Contract.{SeatState, TableShape, IsClientCall, Record}
use Rattle.area_guard.specs.declared.guard.ReadRow.{ReadRow}
use Rattle.area_guard.specs.declared.guard.Pass.{Pass}
use Rattle.area_guard.specs.declared.guard.Pending.{Pending}
use Rattle.area_guard.specs.declared.guard.Pending.TheVariants.{Planned}
use Rattle.area_guard.specs.declared.guard.Splice.{Splice}
use Rattle.space_model.specs.declared.entries.Entry.{Entry}
use Rattle.area_guard.specs.Rows.{nb_in, layout_in, slots_to}
use Rattle.area_guard.specs.Reads.{everything, HasRead, noted_at}
use Rattle.area_guard.specs.Writes.{everything_pages}
use Rattle.area_guard.specs.History.{StillLaid, HasBlocks, HasHistory, HoldsJust, HoldsNothing, HoldsPages, Allowed, Here}
use Rattle.area_guard.specs.History.{IsNew, IsPlanRow, MayLoad, MayStore, MayWrite, MayAdd}
use Rattle.area_guard.specs.History.{laid_with, without, rows_after, after_seen, after_layout, after_row, after_store, after_raise}
use Rattle.area_guard.specs.History.MayLoad.{number, glance, sequence, layout, row}
use Rattle.area_guard.specs.History.MayStore.{store_row, store_count, store_layout}
use Rattle.area_guard.specs.History.MayAdd.{draw, raise}
use Rattle.area_guard.specs.Draws.{only_load}
use Rattle.area_guard.specs.Keeping.{no_note, steps_keep}
use Rattle.area_guard.specs.Slots.{layout_long}
use Rattle.area_guard.specs.Reads.{known_count, known_words, KnowsWords}
use Rattle.plan_words.specs.Writing.{HoldsWords, KeepsRead, WritesPlan, IsWriting, IsWritten, IsCountedOn, plan_at, splice_in}
use Rattle.plan_words.proofs.Knowing.{known_at, count_at, same_known, set_known}
use Rattle.plan_words.proofs.Moments.{here_at, part_at, rows_at}

-- a pass that knows another layout and other rows, one step later
abbrev knows : Option (List ℕ) → List ReadRow → Pass → Pass
knows laid rows p = record p { laid = laid; rows = rows; since = p.since + 1 }

-- a caller knows others words than before, and all of them
record Learns (p after : Pass) : Type 0 where
  laid : Option (List ℕ)
  rows : List ReadRow
  is : after ≡ knows laid rows p
  all : KnowsWords (knows laid rows p)

-- rows that are read, after one was stored
has_one : (index i w : ℕ) (r : ReadRow) (kept : List ReadRow) (b : Bool) → eqb r.index index ≡ b → (i ≡ index → ⊥)
    → ((r.index ≡ i) × (r.word ≡ w)) ⊎ HasRead kept i w → HasRead (cond (not b) (r ∷ kept) kept) i w
has_one index i w r kept true is differ h = ⊎_elim (λ t. absurd (differ (sym t.0 ∙ eqb-true r.index index is))) (λ t. t) h
has_one index i w r kept false is differ h = h

has_others : (index i w : ℕ) (rows : List ReadRow) → (i ≡ index → ⊥) → HasRead rows i w → HasRead (without index rows) i w
has_others index i w [] differ h = absurd h
has_others index i w (r ∷ rest) differ h = has_one index i w r (without index rest) (eqb r.index index) refl differ
    (⊎_elim (λ t. inl t) (λ t. inr (has_others index i w rest differ t)) h)

-- and before others that are noted
has_later : (words slots : List ℕ) (rows : List ReadRow) (i w : ℕ) → HasRead rows i w → HasRead (noted_at words slots ++ rows) i w
has_later words [] rows i w h = h
has_later words (s ∷ rest) rows i w h = inr (has_later words rest rows i w h)

-- what a load of a word of the blocks leaves
load_learns : {own : Option Held → Type 0} {free held : Type 0} {words : List ℕ} {history : List Entry} (place : ℕ) {p after : Pass}
    → place < 129 * p.blocks + 1 → HasBlocks words p.blocks p.keeps → KnowsWords p → MayLoad own free held words history (3 + place) p after → Learns p after
load_learns place lt room k (number h o keeps e is) = absurd (omega arith)
load_learns place lt room k (glance f e is) = absurd (omega arith)
load_learns place lt room k (sequence h e is) = absurd (omega arith)
load_learns {words} place {p} lt room k (layout h at is) = record {
  laid = Some (layout_in words);
  rows = noted_at words (slots_to (nb_in words)) ++ p.rows;
  is = is;
  all = record {
    layout = layout_in words;
    laid = refl;
    long = let l = layout_long words room.1 in omega arith;
    slots = λ slot few. let r = k.slots slot few in (r.0, has_later words (slots_to (nb_in words)) p.rows slot r.0 r.1);
  };
}
load_learns {words} place {p} lt room k (row i h slot e is) = record {
  laid = p.laid;
  rows = record { index = i; word = slice_index words (3 + i) } ∷ p.rows;
  is = is;
  all = record {
    layout = k.layout;
    laid = k.laid;
    long = k.long;
    slots = λ s few. let r = k.slots s few in (r.0, inr r.1);
  };
}

-- and keeps
load_keeps : {own : Option Held → Type 0} {free held : Type 0} {words : List ℕ} {history : List Entry} (place : ℕ) {p after : Pass}
    → place < 129 * p.blocks + 1 → StillLaid words p.laid → MayLoad own free held words history (3 + place) p after
    → KeepsRead p after
load_keeps place lt still (number h o keeps e is) = absurd (omega arith)
load_keeps place lt still (glance f e is) = absurd (omega arith)
load_keeps place lt still (sequence h e is) = absurd (omega arith)
load_keeps {words} place {p} lt still (layout h at is) = subst (KeepsRead p) (sym is) (record {
  laid = λ layout e. ap Some (still layout e);
  rows = λ i w h. has_later words (slots_to (nb_in words)) p.rows i w h;
  sequence = λ n e. e;
  pending = refl;
  blocks = refl;
})
load_keeps place {p} lt still (row i h slot e is) = subst (KeepsRead p) (sym is) (record {
  laid = λ layout e. e;
  rows = λ j w h. inr h;
  sequence = λ n e. e;
  pending = refl;
  blocks = refl;
})

-- what a pass knows after a word of its layout was stored
laid_learns : (index value : ℕ) {p : Pass} → KnowsWords p → KnowsWords (knows (laid_with index value p.laid) p.rows p)
laid_learns index value k = record {
  layout = set k.layout index value;
  laid = ap (laid_with index value) k.laid;
  long = length-set k.layout index value ∙ k.long;
  slots = k.slots;
}

-- and what a store of a splice leaves
store_learns : {plan : Splice} {place value : ℕ} {p after : Pass} → KnowsWords p → MayStore plan place value p after → Learns p after
store_learns {value} {p} k (store_row i slot e v is) = record {
  laid = p.laid;
  rows = record { index = i; word = value } ∷ without i p.rows;
  is = is;
  all = record {
    layout = k.layout;
    laid = k.laid;
    long = k.long;
    slots = λ s lt. dite (ℕ_discrete s i) (λ same. (value, inl (sym same, refl)))
        (λ differ. let r = k.slots s lt in (r.0, inr (has_others i s r.0 p.rows differ r.1)));
  };
}
store_learns {value} {p} k (store_count e v is) = record { laid = laid_with 0 value p.laid; rows = p.rows; is = is; all = laid_learns 0 value k }
store_learns {value} {p} k (store_layout i few e is) = record {
  laid = laid_with (suc i) value p.laid;
  rows = p.rows;
  is = is;
  all = laid_learns (suc i) value k;
}

-- a caller with a splice makes the stores of that splice
of_plan : (words : List ℕ) {pending : Pending} (plan : Splice) (place value : ℕ) (p after : Pass) → pending ≡ Planned plan
    → MayWrite words pending place value p after → MayStore plan place value p after
of_plan words plan place value p after is may = (subst (λ (q : Pending). MayWrite words q place value p after) is may).0

-- steps of a seat that holds everything
module _ (seat : ℕ) {held : Option Held} {pass : Pass} (all : held ≡ Some everything) (k : KnowsWords pass) where
  -- at a moment of the seat each word that it knows stands there
  pub word_now : (grants : Grants) (words : List ℕ) (passes : List Pass) → HasHistory grants words passes → get_elem? grants seat ≡ some held
      → get_elem? passes seat ≡ some pass → (t : ℕ) → t < 129 * pass.blocks + 1 → slice_index (known_words pass) t ≡ slice_index words (3 + t)
  word_now grants words passes kept grant own =
      let part = part_at grants words passes seat pass kept own in
      known_at words pass part.room k (rows_at grants words passes seat pass kept own (grant ∙ ap some all)) part.laid

  pub count_now : (grants : Grants) (words : List ℕ) (passes : List Pass) → HasHistory grants words passes → get_elem? grants seat ≡ some held
      → get_elem? passes seat ≡ some pass → known_count pass ≡ slice_index words 2
  count_now grants words passes kept grant own =
      let part = part_at grants words passes seat pass kept own in
      count_at words pass part.room k (rows_at grants words passes seat pass kept own (grant ∙ ap some all)) part.laid

  -- the guard allows a load of a word of the blocks
  pub may_load_word : (place : ℕ) → place < 129 * pass.blocks + 1 → IsAllowed HasHistory Allowed no_note seat held pass (loads (3 + place))
  may_load_word place lt grants words passes m there small =
      let here = here_at m in
      let pages : HoldsPages grants seat = (everything, m.grant ∙ ap some all, everything_pages) in
      elim (cases_lt place (128 * pass.blocks)) [
        | inl slot ↦ (after_row place (slice_index words (3 + place)) pass, (here, inl (row place pages slot refl refl)))
        | inr ge ↦ (after_seen words pass, (here, inl (layout pages (inr (omega arith, omega arith)) refl)))
      ]

  -- of one that has a splice to write
  module _ (plan : Splice) (planned : pass.pending ≡ Planned plan) where
    may_write : (words : List ℕ) (place value : ℕ) (after : Pass) → MayStore plan place value pass after → IsNew words place value
        → MayWrite words pass.pending place value pass after
    may_write words place value after may new = subst (λ (q : Pending). MayWrite words q place value pass after) (sym planned) (may, new)

    -- the store of a row of the splice in a slot where another word stands
    pub may_store_row : (slot value : ℕ) → slot < 128 * pass.blocks → IsPlanRow plan value → slice_index (known_words pass) slot ≢ value
        → IsAllowed HasHistory Allowed no_note seat held pass (stores (3 + slot) value)
    may_store_row slot value lt is differs grants words passes m there small =
        let here = here_at m in (
          after_store slot value pass,
          (
            here,
            may_write words (3 + slot) value (after_store slot value pass) (store_row slot lt refl is refl)
                (λ same. differs (word_now grants words passes m.met m.grant m.own slot (omega arith) ∙ same)),
          ),
        )

    -- the store of a word of the layout
    pub may_store_layout : (place value : ℕ) → 128 * pass.blocks ≤ place → place < 129 * pass.blocks + 1 → slice_index (known_words pass) place ≢ value
        → IsAllowed HasHistory Allowed no_note seat held pass (stores (3 + place) value)
    may_store_layout place value ge lt differs grants words passes m there small =
        let here = here_at m in
        let index : ℕ = place - 128 * pass.blocks in (
          after_layout (suc index) value pass,
          (
            here,
            may_write words (3 + place) value (after_layout (suc index) value pass) (store_layout index (omega arith) (omega arith) refl)
                (λ same. differs (word_now grants words passes m.met m.grant m.own place lt ∙ same)),
          ),
        )

    -- and the store of how many rows the splice leaves, where there are more or fewer
    pub may_store_count : (value : ℕ) → value ≡ length (rows_after plan) → known_count pass ≢ value
        → IsAllowed HasHistory Allowed no_note seat held pass (stores 2 value)
    may_store_count value is differs grants words passes m there small =
        let here = here_at m in (
          after_layout 0 value pass,
          (
            here,
            may_write words 2 value (after_layout 0 value pass) (store_count refl is refl)
                (λ same. differs (count_now grants words passes m.met m.grant m.own ∙ same)),
          ),
        )

-- a step on a client word is one more of both counts
one_more : {a b : SeatState Pass} {place : ℕ} → IsClientCall a place b → b.pass.since ≡ a.pass.since + 1 → IsCountedOn a b
one_more {a} {b} call since = let t : b.trace.taken ≡ a.trace.taken + 1 = ap (λ (r : Record). r.taken) call.trace in omega arith

-- a step on a word of the blocks, or on the row count, is a writing
step_writes : {a b : SeatState Pass} {place : ℕ} → IsClientCall a place b → Learns a.pass b.pass → IsWriting a b
step_writes call l = let taken = ap (λ (r : Record). r.taken) call.trace in let asked = ap (λ (r : Record). r.asked) call.trace in grind (arith, l.is)

-- the seat holds and knows the words still, and has its splice to write
pub holds_on : {table : TableShape} {a b : SeatState Pass} → HoldsWords table a → IsWriting a b → KnowsWords b.pass → HoldsWords table b
holds_on p w k = record { wide = omega arith; few = omega arith; table_is = w.table ∙ p.table_is; held = w.held ∙ p.held; knows = k }

pub writes_on : {table : TableShape} {a b : SeatState Pass} → WritesPlan table a → IsWriting a b → HoldsWords table b → WritesPlan table b
writes_on p w h = record { holds = h; pending = w.pending ∙ (p.pending ∙ ap Planned (ap splice_in (sym w.pending))) }

-- what a step of a seat that holds everything leaves
pub record IsStep (table : TableShape) (a b : SeatState Pass) : Type 0 where
  pub writing : IsWriting a b
  pub holds : HoldsWords table b
  pub taken : b.trace.taken ≡ a.trace.taken + 1

step_of : {table : TableShape} {a b : SeatState Pass} {place : ℕ} → HoldsWords table a → IsClientCall a place b → Learns a.pass b.pass → IsStep table a b
step_of w call l =
    let writing = step_writes call l in
    record { writing = writing; holds = holds_on w writing (subst KnowsWords (sym l.is) l.all); taken = ap (λ (r : Record). r.taken) call.trace }

-- a load of a word of the blocks
pub record IsLoad (table : TableShape) (a b : SeatState Pass) (place found : ℕ) : Type 0 where
  pub step : IsStep table a b
  pub word : found ≡ slice_index (known_words a.pass) place
  pub words : known_words b.pass ≡ known_words a.pass
  pub count : known_count b.pass ≡ known_count a.pass
  pub read : KeepsRead a.pass b.pass

module _ {table : TableShape} {a : SeatState Pass} (b : SeatState Pass) (w : HoldsWords table a) where
  -- where a step keeps the rule, each word that the seat knows stands there behind it
  after_now : (grants : Grants) (words : List ℕ) (passes : List Pass) → HasHistory grants words (set passes a.number b.pass)
      → get_elem? grants a.number ≡ some a.held → get_elem? passes a.number ≡ some a.pass → (s : IsStep table a b)
      → ((t : ℕ) → t < 129 * a.pass.blocks + 1 → slice_index (known_words b.pass) t ≡ slice_index words (3 + t)) × (known_count b.pass ≡ slice_index words 2)
  after_now grants words passes kept grant own s =
      let here = set_here passes a.number b.pass (below passes a.number a.pass own) in (
        λ t lt. word_now a.number w.held s.holds.knows grants words (set passes a.number b.pass) kept grant here t (omega arith),
        count_now a.number w.held s.holds.knows grants words (set passes a.number b.pass) kept grant here,
      )

  pub word_loaded : (place found : ℕ) → place < 129 * a.pass.blocks + 1 → IsClientCall a (3 + place) b
      → IsMade HasHistory Allowed no_note a.number a.held a.pass (loads (3 + place)) found b.pass → IsLoad table a b place found
  word_loaded place found lt call made =
      let grants = made.0 in let words = made.1 in let passes = made.2 in let m = made.3 in let here = made.5.0 in
      let same : here.pass ≡ a.pass = some-injective here.pass a.pass (sym here.own ∙ m.own) in
      let part = part_at grants words passes a.number a.pass m.met m.own in
      let may : MayLoad (HoldsJust grants a.number) (HoldsNothing grants a.number) (HoldsPages grants a.number) words here.history (3 + place) a.pass b.pass =
      subst (λ (x : Pass). MayLoad (HoldsJust grants a.number) (HoldsNothing grants a.number) (HoldsPages grants a.number) words here.history
      (3 + place) x b.pass) same (only_load (λ e. let b = ap (λ (x : Pass). x.blocks) same in omega arith) made.5.1) in
      let learns = load_learns place lt part.room w.knows may in
      let step = step_of w call learns in
      let before = word_now a.number w.held w.knows grants words passes m.met m.grant m.own in
      let counted = count_now a.number w.held w.knows grants words passes m.met m.grant m.own in
      let kept = steps_keep grants words passes a.number (loads (3 + place)) no_note b.pass m.met made.5 in
      let after = after_now grants words passes kept m.grant m.own step in
      record {
        step = step;
        word = sym made.4 ∙ sym (before place lt);
        words = same_known w.knows step.holds.knows step.writing.blocks (λ t few. after.0 t few ∙ sym (before t few));
        count = after.1 ∙ sym counted;
        read = load_keeps place lt part.laid may;
      }

-- a store among the words of the blocks, or of the row count
pub record IsStore (table : TableShape) (a b : SeatState Pass) (words : List ℕ) (count : ℕ) : Type 0 where
  pub step : IsStep table a b
  pub words_are : known_words b.pass ≡ words
  pub count_is : known_count b.pass ≡ count

-- where it was made each word that the seat knew stood, and each word that it knows stands behind it
record WasStored (table : TableShape) (a b : SeatState Pass) (at value : ℕ) (words : List ℕ) : Type 0 where
  step : IsStep table a b
  room : HasBlocks words a.pass.blocks a.pass.keeps
  before : (t : ℕ) → t < 129 * a.pass.blocks + 1 → slice_index (known_words a.pass) t ≡ slice_index words (3 + t)
  counted : known_count a.pass ≡ slice_index words 2
  after : (t : ℕ) → t < 129 * a.pass.blocks + 1 → slice_index (known_words b.pass) t ≡ slice_index (set words at value) (3 + t)
  counts : known_count b.pass ≡ slice_index (set words at value) 2
  may : MayStore (plan_at a) at value a.pass b.pass

module _ {table : TableShape} {a b : SeatState Pass} (w : WritesPlan table a) (value found : ℕ) where
  stored : {at : ℕ} → IsClientCall a at b → (made : IsMade HasHistory Allowed no_note a.number a.held a.pass (stores at value) found b.pass)
      → WasStored table a b at value made.1
  stored {at} call made =
      let grants = made.0 in let words = made.1 in let passes = made.2 in let m = made.3 in let here = made.5.0 in
      let h = w.holds in
      let same : here.pass ≡ a.pass = some-injective here.pass a.pass (sym here.own ∙ m.own) in
      let may : MayStore (plan_at a) at value a.pass b.pass = subst (λ (x : Pass). MayStore (plan_at a) at value x b.pass) same
      (of_plan words (plan_at a) at value here.pass b.pass (ap (λ (x : Pass). x.pending) same ∙ w.pending) made.5.1) in
      let learns = store_learns h.knows may in
      let step = step_of h call learns in
      let kept = steps_keep grants words passes a.number (stores at value) no_note b.pass m.met made.5 in
      let after = after_now b h grants (set words at value) passes kept m.grant m.own step in
      record {
        step = step;
        room = (part_at grants words passes a.number a.pass m.met m.own).room;
        before = word_now a.number h.held h.knows grants words passes m.met m.grant m.own;
        counted = count_now a.number h.held h.knows grants words passes m.met m.grant m.own;
        after = after.0;
        counts = after.1;
        may = may;
      }

  -- a word of the blocks
  pub word_stored : (place : ℕ) → place < 129 * a.pass.blocks + 1 → IsClientCall a (3 + place) b
      → IsMade HasHistory Allowed no_note a.number a.held a.pass (stores (3 + place) value) found b.pass
      → IsStore table a b (set (known_words a.pass) place value) (known_count a.pass)
  word_stored place lt call made =
      let s = stored call made in
      let words = made.1 in
      record {
        step = s.step;
        words_are = set_known place w.holds.knows s.step.holds.knows s.step.writing.blocks lt
            (s.after place lt ∙ get_or-set_same words (3 + place) value 0 (omega arith))
            (λ t few differ. s.after t few ∙ (get_or-set_other words (3 + place) (3 + t) value 0 (λ e. differ (omega arith)) ∙ sym (s.before t few)));
        count_is = s.counts ∙ (get_or-set_other words (3 + place) 2 value 0 (λ e. omega arith) ∙ sym s.counted);
      }

  -- the row count
  pub count_stored : IsClientCall a 2 b → IsMade HasHistory Allowed no_note a.number a.held a.pass (stores 2 value) found b.pass
      → IsStore table a b (known_words a.pass) value
  count_stored call made =
      let s = stored call made in
      record {
        step = s.step;
        words_are = same_known w.holds.knows s.step.holds.knows s.step.writing.blocks
            (λ t few. s.after t few ∙ (get_or-set_other made.1 2 (3 + t) value 0 (λ e. omega arith) ∙ sym (s.before t few)));
        count_is = s.counts ∙ get_or-set_same made.1 2 value 0 (omega arith);
      }

raise_after : {grants : Grants} {words : List ℕ} {passes : List Pass} {worker : ℕ} {here : Here grants words passes worker} {after : Pass}
    → MayAdd grants words passes worker no_note here 1 after → after ≡ after_raise here.pass
raise_after (draw e keeps drew) = absurd (omega arith)
raise_after (raise plan e pends written is) = is

-- the raising of the sequence word, after which all is written
pub all_written : {a b : SeatState Pass} (found : ℕ) → IsClientCall a 1 b → IsMade HasHistory Allowed no_note a.number a.held a.pass (adds 1 1) found b.pass
    → IsWritten a b
all_written {a} {b} found call made =
    let m = made.3 in let here = made.5.1 in
    let same : here.pass ≡ a.pass = some-injective here.pass a.pass (sym here.own ∙ m.own) in
    let is : b.pass ≡ after_raise a.pass = raise_after made.5.2 ∙ ap after_raise same in
    record {
      rest = ap (λ (x : Pass). x.pending) is;
      step = a.trace.taken;
      client = ap (λ (r : Record). r.client) call.trace;
      since = omega arith;
      until = let l : b.trace.taken ≡ a.trace.taken + 1 = ap (λ (r : Record). r.taken) call.trace in omega arith;
      last = ap (λ (r : Record). r.taken) call.trace;
      counted = one_more call (ap (λ (x : Pass). x.since) is);
      asked = ap (λ (r : Record). r.asked) call.trace;
      start = ap (λ (x : Pass). x.start) is;
      blocks = ap (λ (x : Pass). x.blocks) is;
      keeps = ap (λ (x : Pass). x.keeps) is;
      most = ap (λ (x : Pass). x.most) is;
      seen = ap (λ (x : Pass). x.seen) is;
      mine = ap (λ (x : Pass). x.mine) is;
      drew = ap (λ (x : Pass). x.drew) is;
      looks = ap (λ (x : Pass). x.looks) is;
      took = ap (λ (x : Pass). x.took) is;
      table = call.table;
      number = call.number;
      held = call.held;
      pools = call.pools;
      further = call.further;
    }

-- steps of writing before it are of the same writing
pub written_on : {a b c : SeatState Pass} → IsWriting a b → IsWritten b c → IsWritten a c
written_on f g = record {
  rest = g.rest;
  step = g.step;
  client = g.client;
  since = omega arith;
  until = g.until;
  last = g.last;
  counted = omega arith;
  asked = g.asked ∙ f.asked;
  start = g.start ∙ f.start;
  blocks = g.blocks ∙ f.blocks;
  keeps = g.keeps ∙ f.keeps;
  most = g.most ∙ f.most;
  seen = g.seen ∙ f.seen;
  mine = g.mine ∙ f.mine;
  drew = g.drew ∙ f.drew;
  looks = g.looks ∙ f.looks;
  took = g.took ∙ f.took;
  table = g.table ∙ f.table;
  number = g.number ∙ f.number;
  held = g.held ∙ f.held;
  pools = g.pools ∙ f.pools;
  further = g.further ∙ f.further;
}
