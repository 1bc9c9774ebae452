-- That a draw of a number keeps the rule: the history grows by the entry, and what its call leaves is to be written.
-- These are parts of the proofs in `Keeping`; a reader who trusts the check may pass them over.
use Rattle.std.specs.Prelude.{All, Option, slice_index}
use Rattle.std.proofs.Common.{Bool, true, false, true≢false, ◌⊎◌, ◌≡◌, ◌≢◌, ℕ, ◌+◌, ◌*◌, ◌<◌, ◌≤◌, inl, inr, List, [], ◌∷◌, ◌++◌, length, set, sym, refl}
use Rattle.std.proofs.Common.{ap, ◌∙◌, subst, arith, length-set, length-append, append_assoc, ⊎_elim}
use Rattle.std.proofs.lemmas.List.{append-nil, get_or-set_same, get_or-set_other}
use Rattle.std.proofs.lemmas.List.Elements.{All-nil, All-weaker}
use mathlib.Core.Option.{some, some-injective}
use mathlib.Core.Logic.{dite}
use native.Mathlib.Decide.{ℕ_discrete}
use lib.ListN.{get_elem?}
use Rattle.atomic_table.proofs.Lists.{at_set}
use Rattle.lock_core.proofs.ByPlace.{below}
use Rattle.page_types.specs.Named.{IsNamedCall, IsNamedReply}
use Rattle.page_types.specs.declared.pages.Span.{Span}
use Rattle.page_types.specs.declared.calls.Call.{Call}
use Rattle.page_types.specs.declared.calls.Reply.{Reply}
use Rattle.space_model.specs.declared.areas.Area.{Area as Areas}
use Rattle.space_model.specs.declared.entries.Entry.{Entry}
use Rattle.space_model.specs.declared.entries.Under.{Under}
use Rattle.space_model.specs.declared.entries.Under.TheVariants.{Nothing, Reader, Area, Whole}
use Rattle.space_model.specs.Areas.{kind_at, row_count}
use Rattle.space_model.specs.Answers.{Answers}
use Rattle.space_model.specs.Held.{FitsUnder}
use Rattle.space_model.proofs.Histories.{runs_more}
use Rattle.space_model.proofs.SomeAnswer.{leaves_areas}
use Rattle.space_model.proofs.TwiceOnce.{spare_rows}
use Rattle.lock_core.specs.Grants.{Grants, Holds, IsExclusive}
use Rattle.lock_core.specs.declared.range.Held.{Held}
use Rattle.area_guard.specs.declared.guard.Change.{Change}
use Rattle.area_guard.specs.declared.guard.Note.{Note}
use Rattle.area_guard.specs.declared.guard.Pass.{Pass}
use Rattle.area_guard.specs.declared.guard.Pending.{Pending}
use Rattle.area_guard.specs.declared.guard.Splice.{Splice}
use Rattle.area_guard.specs.declared.guard.Pending.TheVariants.{AtRest, Planned, OneRow}
use Rattle.row_plans.specs.Plans.{PlanShows}
use Rattle.area_guard.specs.Rows.{nb_in, keeps_in, number_place, room_of}
use Rattle.area_guard.specs.Reads.{everything, StillStands}
use Rattle.area_guard.specs.Changes.{alone, IsChange}
use Rattle.area_guard.specs.History.{with_whole, IsPart, planned_calls, own_planned, planned_count, HoldsPages, IsShown}
use Rattle.area_guard.specs.History.{RowsStandFor, IsRunningSpace, Backs, IsBacked, AreBacked, HoldsFor, Leaves, after_draw}
use Rattle.area_guard.specs.History.MayLoad.{number, glance, sequence, layout, row}
use Rattle.area_guard.specs.History.{Here, MayLoad, IsQuietDraw, Runs, IsRight, FitsIn, IsOfLastEntry, IsOwed, rows_after}
use Rattle.area_guard.specs.Replies.{all_more, reply_named, left_named, left_few}
use Rattle.area_guard.specs.Stands.{nb_stays, keeps_stays, room_stays, layout_beside, HasSameWords, exact_stands, all_stand, rows_beside, shown_set}
use Rattle.area_guard.specs.Slots.{slot_in}
use Rattle.area_guard.specs.Parts.{own_more, own_same, count_set, most_set, room_kept, rows_fit_more}
use Rattle.area_guard.specs.Parts.{whole_more, none_planned, planned_set, resting_of, none_is}
use Rattle.area_guard.specs.Writes.{everything_pages, span_pages, clash, held_is, plan_length}
use Rattle.area_guard.specs.RowStores.{shown_after_draw, others_back}

-- the words with another number word
abbrev pub numbered : List ℕ → ℕ → List ℕ
numbered words value = set words (number_place (nb_in words)) value

-- what is to be written goes with what is held
leaves_counts : (state left : List Areas) (under : Under) (pending : Pending) → Leaves state under pending left → with_whole under 0 ≡ planned_calls pending
leaves_counts state left Nothing AtRest l = refl
leaves_counts state left (Reader span) AtRest l = refl
leaves_counts state left (Area span) AtRest l = refl
leaves_counts state left Whole AtRest l = absurd l
leaves_counts state left Nothing (Planned plan) l = absurd l
leaves_counts state left (Reader span) (Planned plan) l = absurd l
leaves_counts state left (Area span) (Planned plan) l = absurd l
leaves_counts state left Whole (Planned plan) l = refl
leaves_counts state left Nothing (OneRow c) l = absurd l
leaves_counts state left (Reader span) (OneRow c) l = absurd l
leaves_counts state left (Area span) (OneRow c) l = refl
leaves_counts state left Whole (OneRow c) l = absurd l

-- where nothing is to be written nothing has changed
leaves_same : (state left : List Areas) (under : Under) → Leaves state under AtRest left → left ≡ state
leaves_same state left Nothing l = l
leaves_same state left (Reader span) l = l
leaves_same state left (Area span) l = l
leaves_same state left Whole l = absurd l

-- a plan is of a call under everything
pub leaves_plan : (state left : List Areas) (under : Under) (plan : Splice) → Leaves state under (Planned plan) left
    → (under ≡ Whole) × PlanShows (rows_after plan) (kind_at left)
leaves_plan state left Nothing plan l = absurd l
leaves_plan state left (Reader span) plan l = absurd l
leaves_plan state left (Area span) plan l = absurd l
leaves_plan state left Whole plan l = (refl, l)

-- the change of one row is of a call over its area
leaves_change : (state left : List Areas) (under : Under) (c : Change) → Leaves state under (OneRow c) left
    → (span : Span) × (under ≡ Area span) × IsChange state span c left
leaves_change state left Nothing c l = absurd l
leaves_change state left (Reader span) c l = absurd l
leaves_change state left (Area span) c l = (span, refl, l)
leaves_change state left Whole c l = absurd l

-- whose caller holds its span
held_alone : (grants : Grants) (worker : ℕ) (keeps : Bool) (h : Option Held) (under : Under) (span : Span) → under ≡ Area span
    → get_elem? grants worker ≡ some h → HoldsFor keeps h under → Holds grants worker (alone span)
held_alone grants worker keeps h under span is at holds = let e : HoldsFor keeps h (Area span) = subst (HoldsFor keeps h) is holds in at ∙ ap some e

module _ (history : List Entry) (e : Entry) (held : Option Held) (p : Pass) where
  pub draw_pending : (pending : Pending) → (after_draw history e pending held p).pending ≡ pending
  draw_pending AtRest = refl
  draw_pending (Planned plan) = refl
  draw_pending (OneRow c) = refl

  pub draw_mine : (pending : Pending) → (after_draw history e pending held p).mine ≡ p.mine ++ e ∷ []
  draw_mine AtRest = refl
  draw_mine (Planned plan) = refl
  draw_mine (OneRow c) = refl

  pub draw_seen : (pending : Pending) → (after_draw history e pending held p).seen ≡ history ++ e ∷ []
  draw_seen AtRest = refl
  draw_seen (Planned plan) = refl
  draw_seen (OneRow c) = refl

  pub draw_start : (pending : Pending) → (after_draw history e pending held p).start ≡ p.start
  draw_start AtRest = refl
  draw_start (Planned plan) = refl
  draw_start (OneRow c) = refl

  pub draw_blocks : (pending : Pending) → (after_draw history e pending held p).blocks ≡ p.blocks
  draw_blocks AtRest = refl
  draw_blocks (Planned plan) = refl
  draw_blocks (OneRow c) = refl

  pub draw_keeps : (pending : Pending) → (after_draw history e pending held p).keeps ≡ p.keeps
  draw_keeps AtRest = refl
  draw_keeps (Planned plan) = refl
  draw_keeps (OneRow c) = refl

  pub draw_most : (pending : Pending) → (after_draw history e pending held p).most ≡ p.most
  draw_most AtRest = refl
  draw_most (Planned plan) = refl
  draw_most (OneRow c) = refl

  pub draw_drew : (pending : Pending) → (after_draw history e pending held p).drew ≡ held
  draw_drew AtRest = refl
  draw_drew (Planned plan) = refl
  draw_drew (OneRow c) = refl

  pub draw_looks : (pending : Pending) → (after_draw history e pending held p).looks ≡ p.looks
  draw_looks AtRest = refl
  draw_looks (Planned plan) = refl
  draw_looks (OneRow c) = refl

  pub draw_since : (pending : Pending) → (after_draw history e pending held p).since ≡ 0
  draw_since AtRest = refl
  draw_since (Planned plan) = refl
  draw_since (OneRow c) = refl

  pub draw_took : (pending : Pending) → (after_draw history e pending held p).took ≡ p.since
  draw_took AtRest = refl
  draw_took (Planned plan) = refl
  draw_took (OneRow c) = refl

-- what another caller has to write is of its last entry, as before
last_on : (start : List Areas) (history mine : List Entry) (pending : Pending) (e : Entry) → IsOfLastEntry start history mine pending
    → IsOfLastEntry start (history ++ e ∷ []) mine pending
last_on start history mine pending e o = record {
  others = o.others;
  entry = o.entry;
  own = o.own;
  before = o.before;
  later = o.later ++ e ∷ [];
  stands = ap (λ l. l ++ e ∷ []) o.stands ∙ append_assoc o.before (o.entry ∷ o.later) (e ∷ []);
  found = o.found;
  runs = o.runs;
  left = o.left;
  right = o.right;
  leaves = o.leaves;
}

owed_on : (start : List Areas) (history mine : List Entry) (pending : Pending) (e : Entry) → IsOwed start history mine pending
    → IsOwed start (history ++ e ∷ []) mine pending
owed_on start history mine AtRest e o = tt
owed_on start history mine (Planned plan) e o = last_on start history mine (Planned plan) e o
owed_on start history mine (OneRow c) e o = last_on start history mine (OneRow c) e o

-- what a draw leaves to be written is of the entry that it made
last_drawn : (start : List Areas) (history mine : List Entry) (state left : List Areas) (pending : Pending) (e : Entry)
    → Runs 0 start history state → IsRight state e.call e.reply e.under left → Leaves state e.under pending left
    → IsOfLastEntry start (history ++ e ∷ []) (mine ++ e ∷ []) pending
last_drawn start history mine state left pending e runs right leaves = record {
  others = mine;
  entry = e;
  own = refl;
  before = history;
  later = [];
  stands = refl;
  found = state;
  runs = runs;
  left = left;
  right = right;
  leaves = leaves;
}

-- another caller's part, or the caller's own
others_part : (start : List Areas) (history : List Entry) (words : List ℕ) (value worker : ℕ) (p : Pass) (e : Entry)
    → e.worker ≢ worker → IsPart start history words worker p → IsPart start (history ++ e ∷ []) (numbered words value) worker p
others_part start history words value worker p e differ own = record {
  began = own.began;
  seen = (own.seen.0 ++ e ∷ [], ap (λ l. l ++ e ∷ []) own.seen.1 ∙ append_assoc p.seen own.seen.0 (e ∷ []));
  mine = own_same worker history e differ ∙ own.mine;
  few = own.few;
  room = room_stays words p.blocks (number_place (nb_in words)) value (omega arith) own.room;
  owed = owed_on start history p.mine p.pending e own.owed;
  laid = λ l k. layout_beside words (number_place (nb_in words)) value (inr (omega arith)) (omega arith) ∙ own.laid l k;
  sequence = λ n c. get_or-set_other words (number_place (nb_in words)) 1 value 0 (λ same. omega arith) ∙ own.sequence n c;
}

own_part : (start : List Areas) (history : List Entry) (state left : List Areas) (words : List ℕ) (value worker : ℕ)
    (p : Pass) (e : Entry) (pending : Pending) (held : Option Held) → e.worker ≡ worker → length p.mine + 1 ≤ p.most
    → Runs 0 start history state → IsRight state e.call e.reply e.under left → Leaves state e.under pending left → IsPart start history words worker p
    → IsPart start (history ++ e ∷ []) (numbered words value) worker (after_draw history e pending held p)
own_part start history state left words value worker p e AtRest held is few runs right leaves own = record {
  began = own.began;
  seen = ([], sym (append-nil (history ++ e ∷ [])));
  mine = own_more worker history e is ∙ ap (λ l. l ++ e ∷ []) own.mine;
  few = let l = length-append p.mine (e ∷ []) in omega arith;
  room = room_stays words p.blocks (number_place (nb_in words)) value (omega arith) own.room;
  owed = tt;
  laid = λ l none. absurd (none_is l none);
  sequence = λ n none. absurd (none_is n none);
}
own_part start history state left words value worker p e (Planned plan) held is few runs right leaves own = record {
  began = own.began;
  seen = ([], sym (append-nil (history ++ e ∷ [])));
  mine = own_more worker history e is ∙ ap (λ l. l ++ e ∷ []) own.mine;
  few = let l = length-append p.mine (e ∷ []) in omega arith;
  room = room_stays words p.blocks (number_place (nb_in words)) value (omega arith) own.room;
  owed = last_drawn start history p.mine state left (Planned plan) e runs right leaves;
  laid = λ l k. layout_beside words (number_place (nb_in words)) value (inr (omega arith)) (omega arith) ∙ own.laid l k;
  sequence = λ n c. get_or-set_other words (number_place (nb_in words)) 1 value 0 (λ same. omega arith) ∙ own.sequence n c;
}
own_part start history state left words value worker p e (OneRow c) held is few runs right leaves own = record {
  began = own.began;
  seen = ([], sym (append-nil (history ++ e ∷ [])));
  mine = own_more worker history e is ∙ ap (λ l. l ++ e ∷ []) own.mine;
  few = let l = length-append p.mine (e ∷ []) in omega arith;
  room = room_stays words p.blocks (number_place (nb_in words)) value (omega arith) own.room;
  owed = last_drawn start history p.mine state left (OneRow c) e runs right leaves;
  laid = λ l k. layout_beside words (number_place (nb_in words)) value (inr (omega arith)) (omega arith) ∙ own.laid l k;
  sequence = λ n k. get_or-set_other words (number_place (nb_in words)) 1 value 0 (λ same. omega arith) ∙ own.sequence n k;
}

-- what the rows show after a draw, where no plan is to be written
shown_drawn : (grants : Grants) (history : List Entry) (state left : List Areas) (words : List ℕ) (passes : List Pass)
    (worker value : ℕ) (p : Pass) (e : Entry) (pending : Pending) (held : Option Held)
    → AreBacked grants words state passes → IsExclusive grants → get_elem? grants worker ≡ some held → HoldsFor p.keeps held e.under
    → get_elem? passes worker ≡ some p → p.pending ≡ AtRest → Leaves state e.under pending left → planned_calls pending ≡ 0 → RowsStandFor state passes words
    → RowsStandFor left (set passes worker (after_draw history e pending held p)) (numbered words value)
shown_drawn grants history state left words passes worker value p e AtRest held backed exclusive has holds at rest leaves none s =
    let q : Pass = after_draw history e AtRest held p in (
      s.0,
      subst (λ (A : List Areas). IsShown A (set passes worker q) s.0) (sym (leaves_same state left e.under leaves))
          (shown_set state passes worker p q s.0 at (sym rest) s.1),
      rows_beside words (number_place (nb_in words)) value s.0 (inr (omega arith)) (omega arith) s.2,
    )
shown_drawn grants history state left words passes worker value p e (Planned plan) held backed exclusive has holds at rest leaves none s = absurd (omega arith)
shown_drawn grants history state left words passes worker value p e (OneRow c) held backed exclusive has holds at rest leaves none s =
    let q : Pass = after_draw history e (OneRow c) held p in
    let l = leaves_change state left e.under c leaves in (
      s.0,
      shown_after_draw grants state left passes worker p q l.0 c words backed exclusive at
          (held_alone grants worker p.keeps held e.under l.0 l.1 has holds) l.2 s.0 rest refl s.1,
      rows_beside words (number_place (nb_in words)) value s.0 (inr (omega arith)) (omega arith) s.2,
    )

-- a draw of a number: where the space keeps its history the number word counts one entry more, and otherwise it may be
-- what it was
module _ (grants : Grants) (start : List Areas) (history : List Entry) (state left : List Areas) (words : List ℕ)
    (passes : List Pass) (worker : ℕ) (p : Pass) (e : Entry) (pending : Pending) (held : Option Held)
    (r : IsRunningSpace start history state words passes) (backed : AreBacked grants words state passes)
    (exclusive : IsExclusive grants) (has : get_elem? grants worker ≡ some held) (holds : HoldsFor p.keeps held e.under)
    (at : get_elem? passes worker ≡ some p) (num : e.number ≡ length history) (is : e.worker ≡ worker)
    (leaves : Leaves state e.under pending left) (rest : p.pending ≡ AtRest) where
  pub drawn : (value : ℕ) → (keeps_in words ≡ true → value ≡ length history + 1) → IsNamedCall e.call → FitsUnder state e.call e.under
      → Answers state e.call e.reply left → length p.mine + 1 ≤ p.most
      → IsRunningSpace start (history ++ e ∷ []) left (numbered words value) (set passes worker (after_draw history e pending held p))
  drawn value counts call fits answers few =
      let q : Pass = after_draw history e pending held p in
      let place : ℕ = number_place (nb_in words) in
      let wide : length (set passes worker q) ≡ length passes = length-set passes worker q in
      let more : length (history ++ e ∷ []) ≡ length history + 1 = length-append history (e ∷ []) in
      let pends : planned_count (set passes worker q) ≡ planned_count passes + planned_calls pending =
      let s = planned_set passes worker p q at in let z = resting_of p.pending rest in
      let c = ap planned_calls (draw_pending history e held p pending) in omega arith in
      let grown : length q.mine ≡ length p.mine + 1 = ap length (draw_mine history e held p pending) ∙ length-append p.mine (e ∷ []) in
      let wide_words = (r.parts worker p at).room.1 in
      let there : place < length words = omega arith in
      let same : nb_in (numbered words value) ≡ nb_in words = nb_stays words place value (omega arith) in
      let rows_more = spare_rows state e.call e.reply left r.in_order answers in
      record {
        callers = let c = r.callers in omega arith;
        runs = runs_more history 0 start state left e r.runs (let z : length history ≡ 0 + length history = omega arith in num ∙ z) fits answers;
        calls = all_more (λ (x : Entry). IsNamedCall x.call) history e r.calls call;
        replies = all_more (λ (x : Entry). IsNamedReply x.reply) history e r.replies (reply_named state left e.call e.reply r.named answers);
        in_order = leaves_areas state e.call e.reply left r.in_order answers;
        named = left_named state left e.call e.reply r.named call answers;
        limit = left_few state left e.call e.reply r.limit answers;
        grown = let g = r.grown in omega arith;
        number = λ keeps. ap (λ (n : ℕ). slice_index (numbered words value) (number_place n)) same
            ∙ (get_or-set_same words place value 0 there
            ∙ (counts (sym (keeps_stays words place value (omega arith)) ∙ keeps) ∙ sym more));
        sequence = let g : slice_index (numbered words value) 1 ≡ slice_index words 1 =
            get_or-set_other words place 1 value 0 (λ e. omega arith) in let s = r.sequence in let m = whole_more history e in
            let c = leaves_counts state left e.under pending leaves in omega arith;
        small = let m = most_set passes worker p q at (draw_most history e held p pending) in omega arith;
        room = room_kept words (numbered words value) (row_count start) passes worker p q at (draw_most history e held p pending) same r.room;
        rows = λ none. shown_drawn grants history state left words passes worker value p e pending held backed exclusive has holds
            at rest leaves (omega arith) (r.rows (omega arith));
        parts = λ other x there. ⊎_elim
            (λ t. subst (λ (z : ℕ × Pass). IsPart start (history ++ e ∷ []) (numbered words value) z.0 z.1) (λ i. (sym t.0 i, t.1 i))
            (own_part start history state left words value worker p e pending held is few r.runs
            (record { fits = fits; answers = answers }) leaves (r.parts worker p at)))
            (λ t. others_part start history words value other x e (λ w. t.0 (sym w ∙ is)) (r.parts other x t.1)) (at_set passes worker other q x there);
        no_other = λ other le. let b = below passes worker p at in own_same other history e (λ w. omega arith) ∙ r.no_other other (omega arith);
        total = let s = count_set passes worker p q 1 at grown in omega arith;
      }

-- a load of another word than the number word draws nothing
pub only_load : {grants : Grants} {words : List ℕ} {passes : List Pass} {worker : ℕ} {note : Note} {here : Here grants words passes worker} {place : ℕ}
    {after : Pass} {A : Type 0} → (place ≡ number_place here.pass.blocks → ⊥) → A ⊎ IsQuietDraw grants words passes worker note here place after → A
only_load differ (inl load) = load
only_load differ (inr q) = absurd (differ q.number)

-- nor does one where the space keeps its history
pub kept_load : {grants : Grants} {words : List ℕ} {passes : List Pass} {worker : ℕ} {note : Note} {here : Here grants words passes worker} {place : ℕ}
    {after : Pass} {A : Type 0} → here.pass.keeps ≡ true → A ⊎ IsQuietDraw grants words passes worker note here place after → A
kept_load keeps (inl load) = load
kept_load keeps (inr q) = absurd (true≢false (sym keeps ∙ q.unkept))

-- where the space keeps no history no other load than a draw is one of the number word
pub none_else : {own : Option Held → Type 0} {free held : Type 0} {words : List ℕ} {history : List Entry} {place : ℕ} {p after : Pass}
    → p.keeps ≡ false → place ≡ number_place p.blocks → MayLoad own free held words history place p after → ⊥
none_else unkept at (number h o keeps e is) = true≢false (sym keeps ∙ unkept)
none_else unkept at (glance f e is) = omega arith
none_else unkept at (sequence h e is) = omega arith
none_else unkept at (layout h among is) = ⊎_elim (λ two. omega arith) (λ t. let a = t.1 in omega arith) among
none_else unkept at (row i h few e is) = omega arith

-- there is room for what a draw leaves to be written
pub plan_fits : (start : List Areas) (history : List Entry) (state left : List Areas) (words : List ℕ) (passes : List Pass)
    (worker : ℕ) (p : Pass) (call : Call) (reply : Reply) (under : Under) (pending : Pending)
    → IsRunningSpace start history state words passes → get_elem? passes worker ≡ some p → length p.mine + 1 ≤ p.most
    → Answers state call reply left → Leaves state under pending left → FitsIn pending p.blocks
plan_fits start history state left words passes worker p call reply under AtRest r at few answers leaves = tt
plan_fits start history state left words passes worker p call reply under (Planned plan) r at few answers leaves =
    let shown = leaves_plan state left under plan leaves in
    let long = plan_length (rows_after plan) left (leaves_areas state call reply left r.in_order answers) shown.1 in
    let more = spare_rows state call reply left r.in_order answers in
    let limit = left_few state left call reply r.limit answers in
    subst (λ (n : ℕ). length (rows_after plan) ≤ room_of n) (sym (r.parts worker p at).room.0)
    (subst (λ (n : ℕ). n ≤ room_of (nb_in words)) (sym long) (rows_fit_more start history state words passes worker (row_count left) p r at few more limit))
plan_fits start history state left words passes worker p call reply under (OneRow c) r at few answers leaves = tt

-- the rule's part on grants, after a draw
module _ (grants : Grants) (start : List Areas) (history : List Entry) (state left : List Areas) (words : List ℕ) (passes : List Pass) (value : ℕ)
    (r : IsRunningSpace start history state words passes) (all : AreBacked grants words state passes) (exclusive : IsExclusive grants) where
  -- nobody else has an unwritten call under everything where a caller holds pages
  unplanned : (worker other : ℕ) (pending : Pending) → (worker ≡ other → ⊥) → HoldsPages grants other → Backs grants state worker pending
      → planned_calls pending ≡ 0
  unplanned worker other AtRest differ h b = refl
  unplanned worker other (Planned plan) differ h b = absurd (clash grants worker other exclusive (λ e. differ (sym e)) b.0 h)
  unplanned worker other (OneRow c) differ h b = refl

  -- so where it has none itself the rows show the state, and their slots are in reach
  settled : (other : ℕ) (x : Pass) → get_elem? passes other ≡ some x → HoldsPages grants other → planned_calls x.pending ≡ 0
      → HasSameWords words (numbered words value)
  settled other x there h none =
      let show : RowsStandFor state passes words = r.rows (none_planned passes (λ worker p at. dite (ℕ_discrete worker other)
      (λ same. ap own_planned (some-injective p x (sym at ∙ (ap (get_elem? passes) same ∙ there))) ∙ none)
      (λ differ. unplanned worker other p.pending differ h (all worker p at).pending))) in
      let place : ℕ = number_place (nb_in words) in
      let stays : (slot : ℕ) → slot < 128 * nb_in words → slice_index (numbered words value) (3 + slot) ≡ slice_index words (3 + slot) =
      λ slot few. get_or-set_other words place (3 + slot) value 0 (λ e. omega arith) in
      record {
        blocks = nb_stays words place value (omega arith);
        layout = layout_beside words place value (inr (omega arith)) (omega arith);
        rows = stays;
        used = λ slot is. stays slot (slot_in words show.0 show.2 slot is);
      }

  -- what a caller that holds pages has read stands still
  stands_by : (other : ℕ) (x : Pass) (held : Option Held) (pending : Pending) → get_elem? passes other ≡ some x → HoldsPages grants other
      → get_elem? grants other ≡ some held → x.pending ≡ pending → All (StillStands held (numbered words value)) x.rows
  stands_by other x held AtRest there h has is =
      all_stand held words (numbered words value) (settled other x there h (ap planned_calls is)) x.rows ((all other x there).rows held has)
  stands_by other x held (Planned plan) there h has is =
      let own = (subst (Backs grants state other) is (all other x there).pending).0 in
      let wide = (r.parts other x there).room.1 in
      let place : ℕ = number_place (nb_in words) in
      All-weaker (StillStands held words) (StillStands held (numbered words value)) (λ q s.
      exact_stands held (numbered words value) q (subst (λ (n : ℕ). q.index < 128 * n) (sym (nb_stays words place value (omega arith))) s.slot)
      (get_or-set_other words place (3 + q.index) value 0 (λ e. omega arith) ∙ s.word (held_is grants other everything held own has)))
      x.rows ((all other x there).rows held has)
  stands_by other x held (OneRow c) there h has is =
      all_stand held words (numbered words value) (settled other x there h (ap planned_calls is)) x.rows ((all other x there).rows held has)

  -- and so does what any caller has read
  reads_stand : (other : ℕ) (x : Pass) (held : Option Held) → get_elem? passes other ≡ some x → get_elem? grants other ≡ some held
      → All (StillStands held (numbered words value)) x.rows
  reads_stand other x held there has = ⊎_elim
      (λ n. subst (All (StillStands held (numbered words value))) (sym n.1) (All-nil (StillStands held (numbered words value))))
      (λ h. stands_by other x held x.pending there h has refl) (all other x there).reads

  -- a caller that makes no step
  other_backed : (other : ℕ) (x : Pass) → get_elem? passes other ≡ some x → Backs grants left other x.pending
      → IsBacked grants (numbered words value) left other x
  other_backed other x there backs = record { reads = (all other x there).reads; rows = λ held has. reads_stand other x held there has; pending = backs }

  -- nobody else has a plan where one caller holds everything
  others_rest : (worker other : ℕ) (pending : Pending) → other ≢ worker → Holds grants worker everything
      → Backs grants state other pending → Backs grants left other pending
  others_rest worker other AtRest differ held b = tt
  others_rest worker other (Planned plan) differ held b = absurd (clash grants worker other exclusive differ held (everything, b.0, everything_pages))
  others_rest worker other (OneRow c) differ held b = absurd (clash grants worker other exclusive differ held (alone c.span, b.0, span_pages c.span))

  held_whole : (worker : ℕ) (keeps : Bool) (h : Option Held) (under : Under) → under ≡ Whole → get_elem? grants worker ≡ some h
      → HoldsFor keeps h under → Holds grants worker everything
  held_whole worker keeps h under whole at holds = let is : HoldsFor keeps h Whole = subst (HoldsFor keeps h) whole holds in at ∙ ap some is

  pub drawn_backed : (worker : ℕ) (p : Pass) (e : Entry) (under : Under) (pending : Pending) (h : Option Held)
      → get_elem? passes worker ≡ some p → get_elem? grants worker ≡ some h → HoldsFor p.keeps h under → Leaves state under pending left
      → AreBacked grants (numbered words value) left (set passes worker (after_draw history e pending h p))
  drawn_backed worker p e under AtRest h at has holds leaves other x there =
      ⊎_elim (λ t. subst (λ (z : ℕ × Pass). IsBacked grants (numbered words value) left z.0 z.1) (λ i. (sym t.0 i, t.1 i))
      (record { reads = inl (refl, refl, refl); rows = λ held own. All-nil (StillStands held (numbered words value)); pending = tt }))
      (λ t. other_backed other x t.1 (subst (λ (A : List Areas). Backs grants A other x.pending)
      (sym (leaves_same state left under leaves)) (all other x t.1).pending)) (at_set passes worker other (after_draw history e AtRest h p) x there)
  drawn_backed worker p e under (Planned plan) h at has holds leaves other x there =
      let shown = leaves_plan state left under plan leaves in
      let own = held_whole worker p.keeps h under shown.0 has holds in
      ⊎_elim
      (λ t. subst (λ (z : ℕ × Pass). IsBacked grants (numbered words value) left z.0 z.1) (λ i. (sym t.0 i, t.1 i)) (record {
        reads = inr (everything, own, everything_pages);
        rows = λ held mine. reads_stand worker p held at mine;
        pending = (own, shown.1);
      })) (λ t. other_backed other x t.1 (others_rest worker other x.pending t.0 own (all other x t.1).pending))
      (at_set passes worker other (after_draw history e (Planned plan) h p) x there)
  drawn_backed worker p e under (OneRow c) h at has holds leaves other x there =
      let l = leaves_change state left under c leaves in
      let own = held_alone grants worker p.keeps h under l.0 l.1 has holds in
      let mine : Holds grants worker (alone c.span) = subst (λ (s : Span). Holds grants worker (alone s)) (sym l.2.held) own in
      ⊎_elim
      (λ t. subst (λ (z : ℕ × Pass). IsBacked grants (numbered words value) left z.0 z.1) (λ i. (sym t.0 i, t.1 i)) (record {
        reads = inr (alone c.span, mine, span_pages c.span);
        rows = λ held own_held. reads_stand worker p held at own_held;
        pending = (mine, l.2.inside, l.2.after);
      })) (λ t. other_backed other x t.1 (others_back grants state left passes worker p p l.0 c words all exclusive at own l.2 other
      x.pending t.0 (all other x t.1).pending)) (at_set passes worker other (after_draw history e (OneRow c) h p) x there)
