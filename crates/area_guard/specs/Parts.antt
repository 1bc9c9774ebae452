-- How many entries and how many unwritten calls the callers have together, and one caller's part of the rule, after its
-- pass has changed. These are parts of the proofs in `Keeping`; a reader who trusts the check may pass them over.
use Rattle.std.specs.Prelude.{Option, Some, None, slice_index, sum_by}
use Rattle.std.proofs.Common.{◌≡◌, ◌≢◌, ℕ, suc, ◌+◌, ◌*◌, ◌^◌, ◌<◌, ◌≤◌, inl, inr, Bool, true, false, cond, eqb, List, [], ◌∷◌}
use Rattle.std.proofs.Common.{◌++◌, length, set, sym, refl, ap, ◌∙◌, subst, arith, length-set, eq-eqb, ne_eqb, ⊎_elim}
use Rattle.std.proofs.lemmas.List.{append-nil, get_or-set_other}
use Rattle.std.proofs.lemmas.List.Sums.{sum_by-cons, sum_by-set}
use mathlib.Core.Option.{some}
use lib.ListN.{get_elem?}
use Rattle.atomic_table.proofs.Lists.{at_set}
use Rattle.lock_core.proofs.ByPlace.{below, at_or}
use Rattle.page_types.specs.declared.TheConstants.{ROWS, SPARE}
use Rattle.page_types.specs.declared.calls.Call.TheVariants.{Fault}
use Rattle.page_types.specs.declared.calls.Reply.TheVariants.{Zero}
use Rattle.page_types.specs.declared.sets.Access.TheVariants.{Read}
use Rattle.space_model.specs.Areas.{row_count}
use Rattle.space_model.specs.declared.areas.Area.{Area as Areas}
use Rattle.space_model.specs.declared.entries.Entry.{Entry}
use Rattle.space_model.specs.declared.entries.Under.{Under}
use Rattle.space_model.specs.declared.entries.Under.TheVariants.{Nothing, Reader, Area, Whole}
use Rattle.lock_core.specs.declared.range.Held.{Held}
use Rattle.area_guard.specs.declared.guard.Pass.{Pass}
use Rattle.area_guard.specs.declared.guard.Pending.{Pending}
use Rattle.area_guard.specs.declared.guard.Splice.{Splice}
use Rattle.area_guard.specs.Rows.{nb_in, room_of, layout_in}
use Rattle.area_guard.specs.declared.guard.Pending.TheVariants.{AtRest, Planned}
use Rattle.area_guard.specs.History.{entries_of, with_whole, whole_count, own_count, entry_count, own_most, most_count, HasRoom, HasBlocks, IsPart}
use Rattle.area_guard.specs.History.{planned_calls}
use Rattle.area_guard.specs.History.{own_planned, planned_count, RowsStandFor, IsRunningSpace, HasReadNothing, rest_of}
use Rattle.area_guard.specs.History.{StillLaid, laid_with, after_look, after_step, after_seen, after_layout, after_sequence, after_row, after_store}
use Rattle.area_guard.specs.History.{after_raise}
use Rattle.area_guard.specs.History.{after_change}
use Rattle.area_guard.specs.Stands.{room_stays, layout_stays, layout_counted, layout_told, shown_set}

keep_end : {A : Type 0} (b : Bool) (x : A) (xs ys zs : List A) → ys ≡ xs ++ zs → cond b (x ∷ ys) ys ≡ cond b (x ∷ xs) xs ++ zs
keep_end true x xs ys zs e = ap (λ l. x ∷ l) e
keep_end false x xs ys zs e = e

pub own_more : (worker : ℕ) (history : List Entry) (e : Entry) → e.worker ≡ worker → entries_of worker (history ++ e ∷ []) ≡ entries_of worker history ++ e ∷ []
own_more worker [] e is = ap (λ b. cond b (e ∷ []) []) (eq-eqb e.worker worker is)
own_more worker (x ∷ xs) e is = keep_end (eqb x.worker worker) x (entries_of worker xs) (entries_of worker (xs ++ e ∷ [])) (e ∷ []) (own_more worker xs e is)

pub own_same : (worker : ℕ) (history : List Entry) (e : Entry) → e.worker ≢ worker → entries_of worker (history ++ e ∷ []) ≡ entries_of worker history
own_same worker [] e not = ap (λ b. cond b (e ∷ []) []) (ne_eqb e.worker worker not)
own_same worker (x ∷ xs) e not = keep_end (eqb x.worker worker) x (entries_of worker xs) (entries_of worker (xs ++ e ∷ [])) []
    (own_same worker xs e not ∙ sym (append-nil (entries_of worker xs)))
    ∙ append-nil (cond (eqb x.worker worker) (x ∷ entries_of worker xs) (entries_of worker xs))

-- some entry
no_entry : Entry
no_entry = record { number = 0; worker = 0; line = 0; call = Fault 0 Read; reply = Zero; under = Nothing }

-- a sum over the callers, after one caller's pass has changed
sum_set : (f : Pass → ℕ) (passes : List Pass) (worker : ℕ) (p q : Pass) → get_elem? passes worker ≡ some p
    → sum_by f (set passes worker q) + f p ≡ sum_by f passes + f q
sum_set f passes worker p q at =
    let s = sum_by-set f passes worker q p (below passes worker p at) in
    let same = ap f (at_or passes worker p p at) in
    omega arith

-- the callers' entries together, after one caller's list has grown
pub count_set : (passes : List Pass) (worker : ℕ) (p q : Pass) (k : ℕ) → get_elem? passes worker ≡ some p
    → length q.mine ≡ length p.mine + k → entry_count (set passes worker q) ≡ entry_count passes + k
count_set passes worker p q k at e = let s = sum_set own_count passes worker p q at in omega arith

-- how many entries the callers may have together, after one caller's pass has changed to one that may have as many
pub most_set : (passes : List Pass) (worker : ℕ) (p q : Pass) → get_elem? passes worker ≡ some p → q.most ≡ p.most
    → most_count (set passes worker q) ≡ most_count passes
most_set passes worker p q at same = let s = sum_set own_most passes worker p q at in omega arith

-- so there is room as before, where there are as many blocks
pub room_kept : (words others : List ℕ) (rows : ℕ) (passes : List Pass) (worker : ℕ) (p q : Pass) → get_elem? passes worker ≡ some p
    → q.most ≡ p.most → nb_in others ≡ nb_in words → HasRoom (nb_in words) rows (most_count passes)
    → HasRoom (nb_in others) rows (most_count (set passes worker q))
room_kept words others rows passes worker p q at same blocks room =
    let m = most_set passes worker p q at same in
    subst (λ (z : ℕ × ℕ). HasRoom z.0 rows z.1) (λ i. (sym blocks i, sym m i)) room

-- the callers' entries together are no more than they may have
count_most : (passes : List Pass) → ((worker : ℕ) (p : Pass) → get_elem? passes worker ≡ some p → length p.mine ≤ p.most)
    → entry_count passes ≤ most_count passes
count_most [] all = omega arith
count_most (x ∷ xs) all =
    let h = all 0 x refl in let r = count_most xs (λ i p at. all (suc i) p at) in
    let s = sum_by-cons own_count x xs in let t = sum_by-cons own_most x xs in omega arith

-- there is room for the rows of the state
pub rows_fit : (start : List Areas) (history : List Entry) (state : List Areas) (words : List ℕ) (passes : List Pass)
    → IsRunningSpace start history state words passes → row_count state ≤ room_of (nb_in words)
rows_fit start history state words passes r =
    let b = count_most passes (λ i p at. (r.parts i p at).few) in let t = r.total in let g = r.grown in let l = r.limit in
    ⊎_elim (λ all. omega arith) (λ some_rows. omega arith) r.room

-- and for SPARE more, or as many as there may be, where a caller may have one entry more
pub rows_fit_more : (start : List Areas) (history : List Entry) (state : List Areas) (words : List ℕ) (passes : List Pass)
    (worker rows : ℕ) (p : Pass) → IsRunningSpace start history state words passes → get_elem? passes worker ≡ some p
    → length p.mine + 1 ≤ p.most → rows ≤ row_count state + SPARE → rows ≤ ROWS → rows ≤ room_of (nb_in words)
rows_fit_more start history state words passes worker rows p r at more few limit =
    let own : Pass = record p { mine = no_entry ∷ p.mine } in
    let all : (i : ℕ) (q : Pass) → get_elem? (set passes worker own) i ≡ some q → length q.mine ≤ q.most =
    λ i q there. ⊎_elim (λ t. subst (λ (x : Pass). length x.mine ≤ x.most) t.1 (omega arith)) (λ t. (r.parts i q t.1).few)
    (at_set passes worker i own q there) in
    let b = count_most (set passes worker own) all in
    let c = count_set passes worker p own 1 at (omega arith) in
    let m = most_set passes worker p own at refl in
    let t = r.total in let g = r.grown in
    ⊎_elim (λ all_rows. omega arith) (λ some_rows. omega arith) r.room

-- the number word doesn't wrap: the callers may have fewer than 2^62 entries together
pub no_wrap : (start : List Areas) (history : List Entry) (state : List Areas) (words : List ℕ) (passes : List Pass)
    → IsRunningSpace start history state words passes → length history + 1 < 2 ^ 64
no_wrap start history state words passes r =
    let b = count_most passes (λ i p at. (r.parts i p at).few) in let t = r.total in let m = r.small in omega arith

-- one entry more under everything, or not
with_more : (u : Under) (n k : ℕ) → with_whole u (n + k) ≡ with_whole u n + k
with_more Nothing n k = refl
with_more (Reader s) n k = refl
with_more (Area s) n k = refl
with_more Whole n k = omega arith

pub whole_more : (history : List Entry) (e : Entry) → whole_count (history ++ e ∷ []) ≡ whole_count history + with_whole e.under 0
whole_more [] e = omega arith
whole_more (x ∷ xs) e = ap (with_whole x.under) (whole_more xs e) ∙ with_more x.under (whole_count xs) (with_whole e.under 0)

with_one : (u : Under) (n : ℕ) → with_whole u n ≤ n + 1
with_one Nothing n = omega arith
with_one (Reader s) n = omega arith
with_one (Area s) n = omega arith
with_one Whole n = omega arith

pub whole_few : (history : List Entry) → whole_count history ≤ length history
whole_few [] = omega arith
whole_few (x ∷ xs) = let r = whole_few xs in let w = with_one x.under (whole_count xs) in omega arith

-- where no caller has an unwritten call under everything, there is none
pub none_planned : (passes : List Pass) → ((worker : ℕ) (p : Pass) → get_elem? passes worker ≡ some p → planned_calls p.pending ≡ 0)
    → planned_count passes ≡ 0
none_planned [] all = refl
none_planned (x ∷ xs) all =
    let h = all 0 x refl in let r = none_planned xs (λ i p at. all (suc i) p at) in let s = sum_by-cons own_planned x xs in omega arith

-- how many calls are unwritten, after one caller's pass has changed
pub planned_set : (passes : List Pass) (worker : ℕ) (p q : Pass) → get_elem? passes worker ≡ some p
    → planned_count (set passes worker q) + planned_calls p.pending ≡ planned_count passes + planned_calls q.pending
planned_set passes worker p q at = sum_set own_planned passes worker p q at

pub planned_le : (passes : List Pass) (worker : ℕ) (p : Pass) → get_elem? passes worker ≡ some p → planned_calls p.pending ≤ planned_count passes
planned_le passes worker p at =
    let rests : Pass = record p { pending = AtRest } in
    let s : planned_count (set passes worker rests) + planned_calls p.pending ≡ planned_count passes + 0 = planned_set passes worker p rests at in
    omega arith

pub planned_of : (pending : Pending) (plan : Splice) → pending ≡ Planned plan → planned_calls pending ≡ 1
planned_of pending plan e = ap planned_calls e

pub resting_of : (pending : Pending) → pending ≡ AtRest → planned_calls pending ≡ 0
resting_of pending e = ap planned_calls e

pub some_is : {A : Type 0} (a b : A) → Some a ≡ Some b → a ≡ b
some_is a b e = cc

pub none_is : {A : Type 0} (a : A) → None ≡ Some a → ⊥
none_is a e = cc

-- the part of a caller that has read nothing of what changes
pub blank_part : (start : List Areas) (history : List Entry) (words others : List ℕ) (worker : ℕ) (x : Pass) → HasReadNothing x
    → HasBlocks others x.blocks x.keeps → IsPart start history words worker x → IsPart start history others worker x
blank_part start history words others worker x n room own = record {
  began = own.began;
  seen = own.seen;
  mine = own.mine;
  few = own.few;
  room = room;
  owed = own.owed;
  laid = λ l e. absurd (none_is l (sym n.0 ∙ e));
  sequence = λ m e. absurd (none_is m (sym n.2 ∙ e));
}

-- the layout that was read, after it and the words have changed alike
laid_still : (words others : List ℕ) (index word : ℕ) (laid : Option (List ℕ)) → StillLaid words laid
    → layout_in others ≡ set (layout_in words) index word → StillLaid others (laid_with index word laid)
laid_still words others index word None still now layout e = absurd (none_is layout e)
laid_still words others index word (Some stood) still now layout e =
    now ∙ (ap (λ (l : List ℕ). set l index word) (still stood refl) ∙ some_is (set stood index word) layout e)

-- the part of a caller that makes no step while another stores a row
pub beside_part : (start : List Areas) (history : List Entry) (words : List ℕ) (worker index value : ℕ) (x : Pass) → index < 128 * nb_in words
    → IsPart start history words worker x → IsPart start history (set words (3 + index) value) worker x
beside_part start history words worker index value x slot own = record {
  began = own.began;
  seen = own.seen;
  mine = own.mine;
  few = own.few;
  room = room_stays words x.blocks (3 + index) value (omega arith) own.room;
  owed = own.owed;
  laid = λ l e. layout_stays words (3 + index) value (λ same. omega arith) (omega arith) (let w = own.room.1 in omega arith) ∙ own.laid l e;
  sequence = λ n e. get_or-set_other words (3 + index) 1 value 0 (λ same. omega arith) ∙ own.sequence n e;
}

module _ (start : List Areas) (history : List Entry) (state : List Areas) (words : List ℕ) (worker : ℕ) (p : Pass)
    (own : IsPart start history words worker p) where
  pub looked : (held : Option Held) → IsPart start history words worker (after_look history held p)
  looked held = record {
    began = own.began;
    seen = ([], sym (append-nil history));
    mine = own.mine;
    few = own.few;
    room = own.room;
    owed = own.owed;
    laid = own.laid;
    sequence = own.sequence;
  }

  pub stepped : IsPart start history words worker (after_step p)
  stepped = record {
    began = own.began;
    seen = own.seen;
    mine = own.mine;
    few = own.few;
    room = own.room;
    owed = own.owed;
    laid = own.laid;
    sequence = own.sequence;
  }

  pub counted : IsPart start history words worker (after_seen words p)
  counted = record {
    began = own.began;
    seen = own.seen;
    mine = own.mine;
    few = own.few;
    room = own.room;
    owed = own.owed;
    laid = λ l e. some_is (layout_in words) l e;
    sequence = own.sequence;
  }

  pub raised : IsPart start history words worker (after_sequence (slice_index words 1) p)
  raised = record {
    began = own.began;
    seen = own.seen;
    mine = own.mine;
    few = own.few;
    room = own.room;
    owed = own.owed;
    laid = own.laid;
    sequence = λ n e. some_is (slice_index words 1) n e;
  }

  pub read : (index word : ℕ) → IsPart start history words worker (after_row index word p)
  read index word = record {
    began = own.began;
    seen = own.seen;
    mine = own.mine;
    few = own.few;
    room = own.room;
    owed = own.owed;
    laid = own.laid;
    sequence = own.sequence;
  }

  pub rested : IsPart start history words worker (rest_of p)
  rested = record {
    began = own.began;
    seen = own.seen;
    mine = own.mine;
    few = own.few;
    room = own.room;
    owed = own.owed;
    laid = λ l e. absurd (none_is l e);
    sequence = λ n e. absurd (none_is n e);
  }

  pub stored : (index value : ℕ) → index < 128 * p.blocks → IsPart start history (set words (3 + index) value) worker (after_store index value p)
  stored index value slot = let is = own.room.0 in let wide = own.room.1 in record {
    began = own.began;
    seen = own.seen;
    mine = own.mine;
    few = own.few;
    room = room_stays words p.blocks (3 + index) value (omega arith) own.room;
    owed = own.owed;
    laid = λ l e. layout_stays words (3 + index) value (λ same. omega arith) (omega arith) (omega arith) ∙ own.laid l e;
    sequence = λ n e. get_or-set_other words (3 + index) 1 value 0 (λ same. omega arith) ∙ own.sequence n e;
  }

  pub stored_count : (value : ℕ) → IsPart start history (set words 2 value) worker (after_layout 0 value p)
  stored_count value = let wide = own.room.1 in record {
    began = own.began;
    seen = own.seen;
    mine = own.mine;
    few = own.few;
    room = room_stays words p.blocks 2 value (omega arith) own.room;
    owed = own.owed;
    laid = laid_still words (set words 2 value) 0 value p.laid own.laid (layout_counted words value (omega arith));
    sequence = λ n e. get_or-set_other words 2 1 value 0 (λ same. omega arith) ∙ own.sequence n e;
  }

  pub stored_layout : (index value : ℕ) → index ≤ p.blocks
      → IsPart start history (set words (3 + 128 * p.blocks + index) value) worker (after_layout (suc index) value p)
  stored_layout index value below =
      let is = own.room.0 in
      let wide = own.room.1 in
      let at : 3 + 128 * nb_in words + index ≡ 3 + 128 * p.blocks + index = omega arith in
      record {
        began = own.began;
        seen = own.seen;
        mine = own.mine;
        few = own.few;
        room = room_stays words p.blocks (3 + 128 * p.blocks + index) value (omega arith) own.room;
        owed = own.owed;
        laid = laid_still words (set words (3 + 128 * p.blocks + index) value) (suc index) value p.laid own.laid
            (subst (λ (n : ℕ). layout_in (set words n value) ≡ set (layout_in words) (suc index) value) at
            (layout_told words index value (omega arith) wide));
        sequence = λ n e. get_or-set_other words (3 + 128 * p.blocks + index) 1 value 0 (λ same. omega arith) ∙ own.sequence n e;
      }

  pub raised_after : (value : ℕ) → IsPart start history (set words 1 value) worker (after_raise p)
  raised_after value = let wide = own.room.1 in record {
    began = own.began;
    seen = own.seen;
    mine = own.mine;
    few = own.few;
    room = room_stays words p.blocks 1 value (omega arith) own.room;
    owed = tt;
    laid = λ l e. layout_stays words 1 value (λ same. omega arith) (omega arith) (omega arith) ∙ own.laid l e;
    sequence = λ n e. absurd (none_is n e);
  }

  pub changed : (others : List ℕ) → HasBlocks others p.blocks p.keeps → IsPart start history others worker (after_change p)
  changed others room = record {
    began = own.began;
    seen = own.seen;
    mine = own.mine;
    few = own.few;
    room = room;
    owed = tt;
    laid = λ l e. absurd (none_is l e);
    sequence = λ n e. absurd (none_is n e);
  }

  -- another pass of this caller with as many entries, as many that it may have, and as much to write
  pub replaced : (passes : List Pass) (q : Pass) → IsRunningSpace start history state words passes
      → get_elem? passes worker ≡ some p → IsPart start history words worker q → length q.mine ≡ length p.mine
      → q.most ≡ p.most → q.pending ≡ p.pending → IsRunningSpace start history state words (set passes worker q)
  replaced passes q r at part same may pends =
      let wide : length (set passes worker q) ≡ length passes = length-set passes worker q in
      let pending : planned_count (set passes worker q) ≡ planned_count passes = let s = planned_set passes worker p q at in
      let t = ap planned_calls pends in omega arith in
      record {
        callers = let c = r.callers in omega arith;
        runs = r.runs;
        calls = r.calls;
        replies = r.replies;
        in_order = r.in_order;
        named = r.named;
        limit = r.limit;
        grown = r.grown;
        number = r.number;
        sequence = ap (λ n. slice_index words 1 + n) pending ∙ r.sequence;
        small = let m = most_set passes worker p q at may in let f = r.small in omega arith;
        room = room_kept words words (row_count start) passes worker p q at may refl r.room;
        rows = λ none. let s : RowsStandFor state passes words = r.rows (sym pending ∙ none) in (s.0, shown_set state passes worker p q s.0 at pends s.1, s.2);
        parts = λ other x there. ⊎_elim
            (λ t. subst (λ (z : ℕ × Pass). IsPart start history words z.0 z.1) (λ i. (sym t.0 i, t.1 i)) part)
            (λ t. r.parts other x t.1)
            (at_set passes worker other q x there);
        no_other = λ other le. r.no_other other (omega arith);
        total = r.total ∙ (let s = count_set passes worker p q 0 at (omega arith) in omega arith);
      }
