-- A run is legal, and the history of the rule is stored once.
use Rattle.std.proofs.Common.{◌≡◌, ℕ, zero, suc, ◌+◌, ◌*◌, ◌%◌, ◌^◌, ◌<◌, ◌≤◌, set, true≢false, Bool, true, false, cond, eqb, List, [], ◌∷◌, ◌++◌, length}
use Rattle.std.proofs.Common.{sym, refl, ap, ◌∙◌, subst, arith, inl, inr, ⊎_elim}
use Rattle.std.proofs.lemmas.Bool.{cases_lt}
use Rattle.std.proofs.lemmas.List.{get_or-set_other}
use mathlib.Core.Option.{some, some-injective, some-ne-none}
use lib.ListN.{get_elem?}
use Rattle.space_model.specs.declared.areas.Area.{Area}
use Rattle.space_model.specs.declared.entries.Entry.{Entry}
use Rattle.space_model.specs.History.{HasRightReply, IsNumberedFrom}
use Rattle.space_model.proofs.Histories.{chains_weaker, numbered_at, replied_state}
use Rattle.area_guard.specs.declared.guard.Pass.{Pass}
use Rattle.area_guard.specs.declared.guard.Note.{Note}
use Rattle.area_guard.specs.declared.guard.Pending.{Pending}
use Rattle.area_guard.specs.declared.guard.Pending.TheVariants.{AtRest, Planned, OneRow}
use Rattle.area_guard.specs.History.{FitsAndReplies, entries_of, entry_of, rows_after, HoldsFor, IsOwed, IsRunningSpace, Backs, AreBacked, Here}
use Rattle.area_guard.specs.History.{Allowed, HasBlocks, HasDrawn, IsNew, MayLoad, MayStore, MayWrite, MayAdd}
use Rattle.area_guard.specs.History.MayLoad.{number, glance, sequence, layout, row}
use Rattle.area_guard.specs.History.MayStore.{store_row, store_count, store_layout}
use Rattle.area_guard.specs.History.MayAdd.{draw, raise}
use Rattle.area_guard.specs.declared.guard.Splice.{Splice}
use Rattle.area_guard.specs.Rows.{nb_in, number_place, IsLayoutPlace}
use Rattle.area_guard.specs.Draws.{none_else, draw_seen, draw_drew, draw_since, draw_took, leaves_plan}
use Rattle.lock_core.specs.Grants.{Grants}
use Rattle.lock_core.specs.Client.{ClientStep, loads, stores, adds, exchanges}
use Rattle.lock_core.specs.declared.range.Held.{Held}
use Rattle.std.specs.Prelude.{Option, slice_index}
use Rattle.area_guard.specs.Stored.{Stores, IsStoredOnce, IsStored, HistoryIsStored, IsOfWhole, CountIsOfWhole, LayoutIsOfWhole}
use Rattle.area_guard.specs.Stored.{StoresAreNew, RunsAreLegal, DrawsHold, KeepsDraw, IsDraw, LastDrawIsKept, StepsAreCounted, WordStands, KeptWordStands}
use Rattle.area_guard.specs.Stands.{keeps_stays}
use Rattle.lock_core.proofs.ByPlace.{there}
use Rattle.area_guard.proofs.Entries.{runs_number, own_at, at_own}

-- each run is legal in the one-thread model
pub all_legal : RunsAreLegal
all_legal A B entries r =
    let replied = chains_weaker FitsAndReplies HasRightReply (λ C e D h. h.1) A entries B r.1 in
    ((r.0, (B, replied)), replied_state A entries B replied)

-- an entry is not the one before all of these
not_later : (worker : ℕ) (x e : Entry) (xs : List Entry) (n j : ℕ) → IsNumberedFrom (n + 1) xs → x.number ≡ n → x ≡ e
    → get_elem? (entries_of worker xs) j ≡ some e → ⊥
not_later worker x e xs n j r num same at =
    let f = own_at worker xs j e at in
    let later : e.number ≡ n + 1 + f.0 = numbered_at (n + 1) xs f.0 e r f.1 in
    let now : e.number ≡ n = ap (λ (y : Entry). y.number) (sym same) ∙ num in
    omega arith

one_here : (worker : ℕ) (x e : Entry) (xs : List Entry) (n : ℕ) (b : Bool) → IsNumberedFrom (n + 1) xs → x.number ≡ n
    → ((i j : ℕ) → get_elem? (entries_of worker xs) i ≡ some e → get_elem? (entries_of worker xs) j ≡ some e → i ≡ j)
    → (i j : ℕ) → get_elem? (cond b (x ∷ entries_of worker xs) (entries_of worker xs)) i ≡ some e
    → get_elem? (cond b (x ∷ entries_of worker xs) (entries_of worker xs)) j ≡ some e → i ≡ j
one_here worker x e xs n true r num rest zero zero p q = refl
one_here worker x e xs n true r num rest zero (suc j) p q = absurd (not_later worker x e xs n j r num (some-injective x e p) q)
one_here worker x e xs n true r num rest (suc i) zero p q = absurd (not_later worker x e xs n i r num (some-injective x e q) p)
one_here worker x e xs n true r num rest (suc i) (suc j) p q = ap suc (rest i j p q)
one_here worker x e xs n false r num rest i j p q = rest i j p q

-- an entry stands at one place among those of its caller
one_place : (worker : ℕ) (e : Entry) (history : List Entry) (n : ℕ) → IsNumberedFrom n history → (i j : ℕ)
    → get_elem? (entries_of worker history) i ≡ some e → get_elem? (entries_of worker history) j ≡ some e → i ≡ j
one_place worker e [] n r i j p q = absurd (some-ne-none e (sym p))
one_place worker e (x ∷ xs) n r i j p q = one_here worker x e xs n (eqb x.worker worker) r.1 r.0 (one_place worker e xs (n + 1) r.1) i j p q

module _ (grants : Grants) (start : List Area) (history : List Entry) (state : List Area) (words : List ℕ) (passes : List Pass)
    (r : IsRunningSpace start history state words passes) (backed : AreBacked grants words state passes) where
  number_at : (n : ℕ) (e : Entry) → get_elem? history n ≡ some e → e.number ≡ n
  number_at n e at = runs_number history 0 start state n e r.runs at ∙ omega arith

  -- what a caller stores stands in the history, and is the caller's
  stands_in : (worker place : ℕ) (e : Entry) → Stores passes worker place e → (get_elem? history e.number ≡ some e) × (e.worker ≡ worker)
  stands_in worker place e s =
      let f = own_at worker history place e (ap (λ l. get_elem? l place) (r.parts worker s.0 s.1).mine ∙ s.2) in
      (ap (get_elem? history) (number_at f.0 e f.1) ∙ f.1, f.2)

  stored : (n : ℕ) (e : Entry) → get_elem? history n ≡ some e → IsStoredOnce passes e
  stored n e at =
      let few : e.worker < length passes = elim (cases_lt e.worker (length passes)) [
        | inl lt ↦ lt
        | inr ge ↦ let o = at_own e.worker history n e at refl in absurd (some-ne-none e (sym (ap (λ l. get_elem? l o.0) (sym (r.no_other e.worker ge)) ∙ o.1)))
      ] in
      let p = there passes e.worker few in
      let o = at_own e.worker history n e at refl in
      record {
        place = o.0;
        there = (p.0, p.1, ap (λ l. get_elem? l o.0) (sym (r.parts e.worker p.0 p.1).mine) ∙ o.1);
        once = λ worker other f s same.
            let in_it = stands_in worker other f s in
            let is : f ≡ e = some-injective f e (sym in_it.0 ∙ (ap (get_elem? history) (same ∙ number_at n e at) ∙ at)) in
            let who : worker ≡ e.worker = sym in_it.1 ∙ ap (λ (y : Entry). y.worker) is in
            let mine : get_elem? (entries_of e.worker history) other ≡ some e =
            ap (λ w. get_elem? (entries_of w history) other) (sym who) ∙ (ap (λ l. get_elem? l other) (r.parts worker s.0 s.1).mine ∙ (s.2 ∙ ap some is)) in
            (who, one_place e.worker e history 0 r.runs.0 other o.0 mine o.1, is);
      }

  is_stored : IsStored grants words passes history start state
  is_stored = record {
    runs = r.runs;
    began = λ worker pass at. (r.parts worker pass at).began;
    rows = r.rows;
    pending = λ worker pass at. (backed worker pass at).pending;
    owed = λ worker pass at. (r.parts worker pass at).owed;
    sequence = r.sequence;
    count = λ keeps. sym (r.number keeps);
    numbered = number_at;
    once = stored;
    no_other = λ worker place e s. (stands_in worker place e s).0;
    seen = λ worker pass at. (r.parts worker pass at).seen;
  }

-- the history of the rule is stored in the callers' lists
pub all_stored : HistoryIsStored
all_stored grants words passes h = (h.1, h.0, h.2, is_stored grants h.0 h.1 h.2 words passes h.3 h.4)

-- what a caller that has a plan to write holds, and its last entry
module _ (grants : Grants) (words : List ℕ) (passes : List Pass) (worker : ℕ) (here : Here grants words passes worker) (plan : Splice)
    (is : here.pass.pending ≡ Planned plan) where
  owed_here : IsOwed here.start here.history here.pass.mine (Planned plan)
  owed_here = subst (IsOwed here.start here.history here.pass.mine) is (here.running.parts worker here.pass here.own).owed

  of_whole : IsOfWhole grants passes worker plan
  of_whole = record {
    pass = here.pass;
    there = here.own;
    planned = is;
    holds = (subst (Backs grants here.state worker) is (here.backed worker here.pass here.own).pending).0;
    others = owed_here.others;
    entry = owed_here.entry;
    last = owed_here.own;
    under = (leaves_plan owed_here.found owed_here.left owed_here.entry.under plan owed_here.leaves).0;
  }

-- what a caller that stores the row count has to write
count_of : (grants : Grants) (words : List ℕ) (passes : List Pass) (worker value : ℕ) (here : Here grants words passes worker)
    (pending : Pending) (after : Pass) → here.pass.pending ≡ pending → MayWrite words pending 2 value here.pass after
    → (plan : Splice) × IsOfWhole grants passes worker plan × (value ≡ length (rows_after plan))
count_of grants words passes worker value here AtRest after is may = absurd may
count_of grants words passes worker value here (Planned plan) after is (store_row index slot e v same, new) = absurd (omega arith)
count_of grants words passes worker value here (Planned plan) after is (store_count e v same, new) = (plan, of_whole grants words passes worker here plan is, v)
count_of grants words passes worker value here (Planned plan) after is (store_layout index few e same, new) = absurd (omega arith)
count_of grants words passes worker value here (OneRow c) after is may = let e : 2 ≡ 3 + c.index = may.0 in absurd (omega arith)

-- and one that stores another word of the layout
layout_of : (grants : Grants) (words : List ℕ) (passes : List Pass) (worker place value : ℕ) (here : Here grants words passes worker)
    (pending : Pending) (after : Pass) → IsLayoutPlace (nb_in words) place → here.pass.pending ≡ pending
    → MayWrite words pending place value here.pass after → (plan : Splice) × IsOfWhole grants passes worker plan
layout_of grants words passes worker place value here AtRest after at is may = absurd may
layout_of grants words passes worker place value here (Planned plan) after at is may = (plan, of_whole grants words passes worker here plan is)
layout_of grants words passes worker place value here (OneRow c) after at is may =
    let e : place ≡ 3 + c.index = may.0 in
    absurd (⊎_elim (λ two. omega arith) (λ far. omega arith) at)

-- what a caller stores that has a plan to write
pub all_new : StoresAreNew
all_new grants words passes worker place value note pass after plan own is may =
    let same : may.0.pass ≡ pass = some-injective may.0.pass pass (sym may.0.own ∙ own) in
    subst (λ (x : Pass). MayStore plan place value x after × IsNew words place value) same
    (subst (λ (q : Pending). MayWrite words q place value may.0.pass after) (ap (λ (x : Pass). x.pending) same ∙ is) may.1)

-- the row count is stored by calls under everything alone
pub count_stores : CountIsOfWhole
count_stores grants words passes worker value note after may = count_of grants words passes worker value may.0 may.0.pass.pending after refl may.1

-- so is each other word of the layout
pub layout_stores : LayoutIsOfWhole
layout_stores grants words passes worker place value note after at may =
    layout_of grants words passes worker place value may.0 may.0.pass.pending after at refl may.1

-- a step that draws a number is an addition that draws one, or a load that does
add_draws : {grants : Grants} {words : List ℕ} {passes : List Pass} {worker : ℕ} {note : Note} {here : Here grants words passes worker} {after : Pass}
    {place : ℕ} → place ≡ number_place (nb_in words) → MayAdd grants words passes worker note here place after
    → HasDrawn grants words passes worker note here after
add_draws at (raise plan e pends written is) = absurd (omega arith)
add_draws at (draw e keeps drew) = drew

-- so a caller that makes such a step has drawn a number
step_draws : (grants : Grants) (words : List ℕ) (passes : List Pass) (worker : ℕ) (step : ClientStep) (note : Note) (after : Pass)
    → IsDraw words step → Allowed grants words passes worker step note after
    → (here : Here grants words passes worker) × HasDrawn grants words passes worker note here after
step_draws grants words passes worker (loads i) note after is may =
    let has = (may.0.running.parts worker may.0.pass may.0.own).room in
    (may.0, ⊎_elim (λ load. absurd (none_else (has.2 ∙ is.1) (is.0 ∙ ap number_place (sym has.0)) load)) (λ q. q.drawn) may.1)
step_draws grants words passes worker (stores i value) note after is may = absurd is
step_draws grants words passes worker (adds i by) note after is may = (may.1, add_draws is may.2)
step_draws grants words passes worker (exchanges i expected new) note after is may = absurd is

-- each draw is made by a caller that holds what its entry names
pub all_hold : DrawsHold
all_hold grants words passes worker step note after is may =
    let drew = step_draws grants words passes worker step note after is may in
    let here = drew.0 in
    let d = drew.1.0 in
    let f = entry_of (length here.history) worker note in (
      d.held.0,
      d.held.1,
      subst (λ (keeps : Bool). HoldsFor keeps d.held.0 note.under) (here.running.parts worker here.pass here.own).room.2 d.held.2,
      ap (λ (p : Pass). p.drew) drew.1.1 ∙ draw_drew here.history f d.held.0 here.pass note.pending,
      here.history,
      ap (λ (p : Pass). p.seen) drew.1.1 ∙ draw_seen here.history f d.held.0 here.pass note.pending,
    )

-- one step more since the last draw, with the same entries
abbrev Counts : Pass → Pass → Type 0
Counts p after = KeepsDraw p after × (after.since ≡ p.since + 1) × (after.took ≡ p.took)

-- a pass that has become another one, which is so
same_draw : (p q after : Pass) → after ≡ q → q.mine ≡ p.mine → q.drew ≡ p.drew → q.since ≡ p.since + 1 → q.took ≡ p.took → Counts p after
same_draw p q after is m d s t = (
  record { mine = ap (λ (x : Pass). x.mine) is ∙ m; drew = ap (λ (x : Pass). x.drew) is ∙ d },
  ap (λ (x : Pass). x.since) is ∙ s,
  ap (λ (x : Pass). x.took) is ∙ t,
)

load_keeps : (own : Option Held → Type 0) (free held : Type 0) (words : List ℕ) (history : List Entry) (place : ℕ) (p after : Pass)
    → MayLoad own free held words history place p after → Counts p after
load_keeps own free held words history place p after (number h o k e is) = same_draw p _ after is refl refl refl refl
load_keeps own free held words history place p after (glance f e is) = same_draw p _ after is refl refl refl refl
load_keeps own free held words history place p after (sequence h e is) = same_draw p _ after is refl refl refl refl
load_keeps own free held words history place p after (layout h e is) = same_draw p _ after is refl refl refl refl
load_keeps own free held words history place p after (row i h slot e is) = same_draw p _ after is refl refl refl refl

store_keeps : (plan : Splice) (place value : ℕ) (p after : Pass) → MayStore plan place value p after → Counts p after
store_keeps plan place value p after (store_row i slot e v is) = same_draw p _ after is refl refl refl refl
store_keeps plan place value p after (store_count e v is) = same_draw p _ after is refl refl refl refl
store_keeps plan place value p after (store_layout i few e is) = same_draw p _ after is refl refl refl refl

write_keeps : (words : List ℕ) (pending : Pending) (place value : ℕ) (p after : Pass) → MayWrite words pending place value p after → Counts p after
write_keeps words AtRest place value p after may = absurd may
write_keeps words (Planned plan) place value p after may = store_keeps plan place value p after may.0
write_keeps words (OneRow c) place value p after may = same_draw p _ after may.3 refl refl refl refl

raise_keeps : (grants : Grants) (words : List ℕ) (passes : List Pass) (worker place : ℕ) (note : Note)
    (here : Here grants words passes worker) (after : Pass) → (place ≡ number_place (nb_in words) → ⊥)
    → MayAdd grants words passes worker note here place after → Counts here.pass after
raise_keeps grants words passes worker place note here after differ (draw e keeps drew) =
    absurd (differ (e ∙ ap number_place (here.running.parts worker here.pass here.own).room.0))
raise_keeps grants words passes worker place note here after differ (raise plan e pends written is) = same_draw here.pass _ after is refl refl refl refl

-- a step of a caller at a moment, from the pass that it has there
step_keeps : (grants : Grants) (words : List ℕ) (passes : List Pass) (worker : ℕ) (step : ClientStep) (note : Note) (after : Pass)
    → ¬ IsDraw words step → Allowed grants words passes worker step note after → (here : Here grants words passes worker) × Counts here.pass after
step_keeps grants words passes worker (loads i) note after other may =
    let blocks = (may.0.running.parts worker may.0.pass may.0.own).room in (
      may.0,
      ⊎_elim (λ load. load_keeps _ _ _ words may.0.history i may.0.pass after load)
          (λ q. absurd (other (q.number ∙ ap number_place blocks.0, sym blocks.2 ∙ q.unkept))) may.1,
    )
step_keeps grants words passes worker (stores i value) note after other may = (may.0, write_keeps words may.0.pass.pending i value may.0.pass after may.1)
step_keeps grants words passes worker (adds i by) note after other may = (may.1, raise_keeps grants words passes worker i note may.1 after other may.2)
step_keeps grants words passes worker (exchanges i expected new) note after other may = absurd may

-- the same from the pass that the caller is known to have
counts_of : (grants : Grants) (words : List ℕ) (passes : List Pass) (worker : ℕ) (step : ClientStep) (note : Note) (pass after : Pass)
    → get_elem? passes worker ≡ some pass → ¬ IsDraw words step → Allowed grants words passes worker step note after → Counts pass after
counts_of grants words passes worker step note pass after own other may =
    let k = step_keeps grants words passes worker step note after other may in
    subst (λ (x : Pass). Counts x after) (some-injective k.0.pass pass (sym k.0.own ∙ own)) k.1

-- a step that draws no number keeps each caller's entries and what was held at its last draw
pub draw_kept : LastDrawIsKept
draw_kept grants words passes worker step note pass after own other may =
    ((counts_of grants words passes worker step note pass after own other may).0, record { mine = refl; drew = refl })

-- a draw begins the count of steps anew, and every other step is counted
pub all_counted : StepsAreCounted
all_counted grants words passes worker step note pass after own may = (
  λ other. let counted = counts_of grants words passes worker step note pass after own other may in (counted.1, counted.2),
  λ is.
      let d = step_draws grants words passes worker step note after is may in
      let e : Entry = entry_of (length d.0.history) worker note in (
        ap (λ (p : Pass). p.since) d.1.1 ∙ draw_since d.0.history e d.1.0.held.0 d.0.pass note.pending,
        ap (λ (p : Pass). p.took) d.1.1 ∙ (draw_took d.0.history e d.1.0.held.0 d.0.pass note.pending
            ∙ ap (λ (p : Pass). p.since) (some-injective d.0.pass pass (sym d.0.own ∙ own))),
      ),
  refl,
  refl,
)

-- what is written goes before the number word
writes_low : (words : List ℕ) (pending : Pending) (place value : ℕ) (p after : Pass) → p.blocks ≡ nb_in words → MayWrite words pending place value p after
    → place < 4 + 129 * nb_in words
writes_low words AtRest place value p after nb may = absurd may
writes_low words (Planned plan) place value p after nb (store_row index slot e v is, new) = omega arith
writes_low words (Planned plan) place value p after nb (store_count e v is, new) = omega arith
writes_low words (Planned plan) place value p after nb (store_layout index few e is, new) = omega arith
writes_low words (OneRow c) place value p after nb may = let e = may.0 in let few = may.2.there in omega arith

-- a store before the number word leaves it, and the word that tells whether the history is kept
low_stands : (words : List ℕ) (place value : ℕ) → 36 + 129 * nb_in words ≤ length words → place < 4 + 129 * nb_in words
    → WordStands words (set words place value)
low_stands words place value wide low =
    (keeps_stays words place value (omega arith), λ unkept. get_or-set_other words place (number_place (nb_in words)) value 0 (λ e. omega arith))

-- so does each addition
adds_stand : {grants : Grants} {words : List ℕ} {passes : List Pass} {worker : ℕ} {note : Note} {here : Here grants words passes worker} {after : Pass}
    {place : ℕ} (value : ℕ) → HasBlocks words here.pass.blocks here.pass.keeps → MayAdd grants words passes worker note here place after
    → WordStands words (set words place value)
adds_stand {words} value has (raise plan e pends written is) =
    subst (λ (n : ℕ). WordStands words (set words n value)) (sym e) (low_stands words 1 value has.1 (omega arith))
adds_stand {words} {place} value has (draw e keeps drew) = let blocks = has.0 in let wide = has.1 in
    (keeps_stays words place value (omega arith), λ unkept. absurd (true≢false (sym keeps ∙ (has.2 ∙ unkept))))

-- no allowed step stores them
pub all_stand_still : KeptWordStands
all_stand_still grants words passes worker (loads i) note after may = (refl, λ unkept. refl)
all_stand_still grants words passes worker (stores i value) note after may =
    let here = may.0 in let has = (here.running.parts worker here.pass here.own).room in
    low_stands words i value has.1 (writes_low words here.pass.pending i value here.pass after has.0 may.1)
all_stand_still grants words passes worker (adds i by) note after may =
    let here = may.1 in
    adds_stand ((slice_index words i + by) % 2 ^ 64) (here.running.parts worker here.pass here.own).room may.2
all_stand_still grants words passes worker (exchanges i expected new) note after may = absurd may
