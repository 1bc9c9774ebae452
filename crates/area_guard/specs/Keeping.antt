-- That the guard keeps its rule: over the steps that it allows, and over ranges that are taken and given back. These
-- are the proofs that `Guard` of `lock_core` asks for. They stand here, and not among the proofs, since the guard cites
-- them; a reader who trusts the check may pass them over.
use Rattle.std.specs.Prelude.{All, Option, Some, None, slice_index}
use Rattle.std.proofs.Common.{arith, true≢false, ◌≡◌, ℕ, ◌+◌, ◌*◌, ◌%◌, ◌^◌, ◌<◌, inl, inr, List, [], ◌∷◌, ◌++◌, length, set, sym, refl, ap, ◌∙◌, subst, ⊎_elim}
use Rattle.std.proofs.lemmas.List.{set-get_or}
use Rattle.std.proofs.lemmas.List.Elements.{All-nil, All-cons, All-append}
use mathlib.Core.Option.{some, some-injective}
use mathlib.Core.Logic.{dite}
use native.Mathlib.Decide.{ℕ_discrete}
use lib.ListN.{get_elem?}
use Rattle.atomic_table.proofs.Lists.{at_set, set_else}
use Rattle.page_types.specs.declared.calls.Call.TheVariants.{Fault}
use Rattle.page_types.specs.declared.calls.Reply.TheVariants.{Zero}
use Rattle.page_types.specs.declared.sets.Access.TheVariants.{Read}
use Rattle.space_model.specs.declared.areas.Area.{Area as Areas}
use Rattle.space_model.specs.declared.entries.Entry.{Entry}
use Rattle.space_model.specs.declared.entries.Under.TheVariants.{Nothing}
use Rattle.lock_core.specs.Grants.{Grants, Holds, IsFree}
use Rattle.lock_core.specs.Client.{ClientStep, loads, stores, adds, exchanges, words_after}
use Rattle.lock_core.specs.declared.range.Held.{Held}
use Rattle.area_guard.specs.declared.guard.Note.{Note}
use Rattle.area_guard.specs.declared.guard.ReadRow.{ReadRow}
use Rattle.area_guard.specs.declared.guard.Pass.{Pass}
use Rattle.area_guard.specs.declared.guard.Pending.{Pending}
use Rattle.area_guard.specs.Rows.{nb_in, number_place, slots_to}
use Rattle.area_guard.specs.declared.guard.Pending.TheVariants.{AtRest, Planned, OneRow}
use Rattle.area_guard.specs.Reads.{everything, noted_at, StillStands}
use Rattle.area_guard.specs.Changes.{alone}
use Rattle.area_guard.specs.History.{IsRunningSpace, HoldsPages, HoldsJust, HoldsNothing, Backs, IsBacked, AreBacked, HasHistory}
use Rattle.area_guard.specs.History.{rest_of, IsAtRest, entry_of, after_look, after_step, after_seen, after_sequence, after_row}
use Rattle.area_guard.specs.History.{Here, MayLoad, IsQuietDraw, MayWrite, MayAdd, Allowed}
use Rattle.area_guard.specs.History.MayLoad.{number, glance, sequence, layout, row}
use Rattle.area_guard.specs.History.MayAdd.{draw, raise}
use Rattle.area_guard.specs.Stands.{exact_stands, noted_stand}
use Rattle.area_guard.specs.Parts.{none_is, no_wrap, looked, stepped, counted, raised, read, rested, replaced}
use Rattle.area_guard.specs.Writes.{stores_keep, raise_keeps, raise_backed}
use Rattle.area_guard.specs.RowStores.{change_keeps, change_backed}
use Rattle.area_guard.specs.Draws.{numbered, drawn, drawn_backed}

-- a note of no call
abbrev pub no_note : Note
no_note = record { line = 0; call = Fault 0 Read; reply = Zero; under = Nothing; pending = AtRest }

-- all are backed after one caller's pass has changed
backed_set : (grants : Grants) (words : List ℕ) (state : List Areas) (passes : List Pass) (worker : ℕ) (q : Pass)
    → AreBacked grants words state passes → IsBacked grants words state worker q → AreBacked grants words state (set passes worker q)
backed_set grants words state passes worker q all own other x there = ⊎_elim
    (λ t. subst (λ (z : ℕ × Pass). IsBacked grants words state z.0 z.1) (λ i. (sym t.0 i, t.1 i)) own) (λ t. all other x t.1)
    (at_set passes worker other q x there)

module _ (grants : Grants) (words : List ℕ) (history : List Entry) (state : List Areas) (worker place : ℕ) (p after : Pass)
    (b : IsBacked grants words state worker p) (blocks : p.blocks ≡ nb_in words) where
  load_backed : MayLoad (HoldsJust grants worker) (HoldsNothing grants worker) (HoldsPages grants worker) words history place p after
      → IsBacked grants words state worker after
  load_backed (number h o k e is) = subst (IsBacked grants words state worker) (sym is) (record { reads = b.reads; rows = b.rows; pending = b.pending })
  load_backed (glance free e is) = subst (IsBacked grants words state worker) (sym is) (record { reads = b.reads; rows = b.rows; pending = b.pending })
  load_backed (sequence h e is) = subst (IsBacked grants words state worker) (sym is) (record { reads = inr h; rows = b.rows; pending = b.pending })
  load_backed (layout h e is) = subst (IsBacked grants words state worker) (sym is) (record {
    reads = inr h;
    rows = λ held has. All-append (StillStands held words) (noted_at words (slots_to (nb_in words))) p.rows (noted_stand held words) (b.rows held has);
    pending = b.pending;
  })
  load_backed (row index h slot e is) = subst (IsBacked grants words state worker) (sym is) (record {
    reads = inr h;
    rows = λ held has.
        let r : ReadRow = record { index = index; word = slice_index words (3 + index) } in
        All-cons (StillStands held words) r p.rows (exact_stands held words r (subst (λ (n : ℕ). index < 128 * n) blocks slot) refl) (b.rows held has);
    pending = b.pending;
  })

module _ (mine : Option Held → Type 0) (free held : Type 0) (start : List Areas) (history : List Entry) (state : List Areas) (words : List ℕ)
    (passes : List Pass) (worker place : ℕ) (p after : Pass) (r : IsRunningSpace start history state words passes) (at : get_elem? passes worker ≡ some p) where
  loads_keep : MayLoad mine free held words history place p after → IsRunningSpace start history state words (set passes worker after)
  loads_keep (number h o k e is) =
      subst (λ (q : Pass). IsRunningSpace start history state words (set passes worker q)) (sym is)
      (replaced start history state words worker p (r.parts worker p at) passes (after_look history h p) r at
      (looked start history state words worker p (r.parts worker p at) h) refl refl refl)
  loads_keep (glance f e is) =
      subst (λ (q : Pass). IsRunningSpace start history state words (set passes worker q)) (sym is)
      (replaced start history state words worker p (r.parts worker p at) passes (after_step p) r at
      (stepped start history state words worker p (r.parts worker p at)) refl refl refl)
  loads_keep (sequence h e is) =
      subst (λ (q : Pass). IsRunningSpace start history state words (set passes worker q)) (sym is)
      (replaced start history state words worker p (r.parts worker p at) passes (after_sequence (slice_index words 1) p) r at
      (raised start history state words worker p (r.parts worker p at)) refl refl refl)
  loads_keep (layout h e is) =
      subst (λ (q : Pass). IsRunningSpace start history state words (set passes worker q)) (sym is)
      (replaced start history state words worker p (r.parts worker p at) passes (after_seen words p) r at
      (counted start history state words worker p (r.parts worker p at)) refl refl refl)
  loads_keep (row index h slot e is) =
      subst (λ (q : Pass). IsRunningSpace start history state words (set passes worker q)) (sym is)
      (replaced start history state words worker p (r.parts worker p at) passes (after_row index (slice_index words (3 + index)) p) r at
      (read start history state words worker p (r.parts worker p at) index (slice_index words (3 + index))) refl refl refl)

adds_keep : (grants : Grants) (words : List ℕ) (passes : List Pass) (worker : ℕ) (note : Note)
    (here : Here grants words passes worker) (place : ℕ) (after : Pass) → MayAdd grants words passes worker note here place after
    → HasHistory grants (words_after words (adds place 1)) (set passes worker after)
adds_keep grants words passes worker note here place after (draw place_is keeps drew) =
    let d = drew.0 in
    let e = entry_of (length here.history) worker note in
    let value : ℕ = (slice_index words (number_place (nb_in words)) + 1) % 2 ^ 64 in
    let at : place ≡ number_place (nb_in words) = place_is ∙ ap number_place (here.running.parts worker here.pass here.own).room.0 in
    subst (λ (z : ℕ × Pass). HasHistory grants (words_after words (adds z.0 1)) (set passes worker z.1)) (λ i. (sym at i, sym drew.1 i)) (
      here.start,
      here.history ++ e ∷ [],
      d.left,
      drawn grants here.start here.history here.state d.left words passes worker here.pass e note.pending d.held.0 here.running
          here.backed here.exclusive d.held.1 d.held.2 here.own refl refl d.leaves d.rest value
          (λ k. let n = here.running.number k in let w = no_wrap here.start here.history here.state words passes here.running in omega arith)
          d.named d.right.fits d.right.answers d.few,
      drawn_backed grants here.start here.history here.state d.left words passes value here.running here.backed here.exclusive worker here.pass
          e note.under note.pending d.held.0 here.own d.held.1 d.held.2 d.leaves,
    )
adds_keep grants words passes worker note here place after (raise plan one_is pends written is) =
    subst (λ (z : ℕ × Pass). HasHistory grants (words_after words (adds z.0 1)) (set passes worker z.1)) (λ i. (sym one_is i, sym is i)) (
      here.start,
      here.history,
      here.state,
      raise_keeps grants here.start here.history here.state words passes worker here.pass plan here.running here.backed here.exclusive here.own pends
          written,
      raise_backed grants here.start here.history here.state words passes worker here.pass plan here.running here.backed here.exclusive here.own pends,
    )

-- a draw that changes no word
quiet_keeps : (grants : Grants) (words : List ℕ) (passes : List Pass) (worker : ℕ) (note : Note)
    (here : Here grants words passes worker) (place : ℕ) (after : Pass) → IsQuietDraw grants words passes worker note here place after
    → HasHistory grants words (set passes worker after)
quiet_keeps grants words passes worker note here place after q =
    let d = q.drawn.0 in
    let e = entry_of (length here.history) worker note in
    let value : ℕ = slice_index words (number_place (nb_in words)) in
    let same : numbered words value ≡ words = set-get_or words (number_place (nb_in words)) 0 in
    let told = (here.running.parts worker here.pass here.own).room.2 in
    subst (λ (z : List ℕ × Pass). HasHistory grants z.0 (set passes worker z.1)) (λ i. (same i, sym q.drawn.1 i)) (
      here.start,
      here.history ++ e ∷ [],
      d.left,
      drawn grants here.start here.history here.state d.left words passes worker here.pass e note.pending d.held.0 here.running
          here.backed here.exclusive d.held.1 d.held.2 here.own refl refl d.leaves d.rest value
          (λ k. absurd (true≢false (sym k ∙ (sym told ∙ q.unkept)))) d.named d.right.fits d.right.answers d.few,
      drawn_backed grants here.start here.history here.state d.left words passes value here.running here.backed here.exclusive worker here.pass
          e note.under note.pending d.held.0 here.own d.held.1 d.held.2 d.leaves,
    )

-- a store by a caller that has this to write
writes_keep : (grants : Grants) (words : List ℕ) (passes : List Pass) (worker : ℕ) (here : Here grants words passes worker)
    (pending : Pending) (place value : ℕ) (after : Pass) → here.pass.pending ≡ pending → MayWrite words pending place value here.pass after
    → HasHistory grants (words_after words (stores place value)) (set passes worker after)
writes_keep grants words passes worker here AtRest place value after pends may = absurd may
writes_keep grants words passes worker here (Planned plan) place value after pends may =
    let k = stores_keep grants here.start here.history here.state words passes worker here.pass plan here.running here.backed
    here.exclusive here.own pends place value after may.0 in
    (here.start, here.history, here.state, k.0, k.1)
writes_keep grants words passes worker here (OneRow c) place value after pends may =
    subst (λ (z : ℕ × ℕ × Pass). HasHistory grants (words_after words (stores z.0 z.1)) (set passes worker z.2))
    (λ i. (sym may.0 i, sym may.1 i, sym may.3 i)) (
      here.start,
      here.history,
      here.state,
      change_keeps grants here.start here.history here.state words passes worker here.pass c here.running here.backed here.exclusive here.own pends may.2,
      change_backed grants here.start here.history here.state words passes worker here.pass c here.running here.backed here.exclusive here.own pends may.2,
    )

-- the law of steps
pub steps_keep : (grants : Grants) (words : List ℕ) (passes : List Pass) (worker : ℕ) (step : ClientStep) (note : Note) (after : Pass)
    → HasHistory grants words passes → Allowed grants words passes worker step note after → HasHistory grants (words_after words step) (set passes worker after)
steps_keep grants words passes worker (loads i) note after kept may =
    let h = may.0 in ⊎_elim (λ load. (
      h.start,
      h.history,
      h.state,
      loads_keep (HoldsJust grants worker) (HoldsNothing grants worker) (HoldsPages grants worker)
          h.start h.history h.state words passes worker i h.pass after h.running h.own load,
      backed_set grants words h.state passes worker after h.backed
          (load_backed grants words h.history h.state worker i h.pass after (h.backed worker h.pass h.own) (h.running.parts worker h.pass h.own).room.0 load),
    )) (λ draws. quiet_keeps grants words passes worker note h i after draws) may.1
steps_keep grants words passes worker (stores i value) note after kept may =
    writes_keep grants words passes worker may.0 may.0.pass.pending i value after refl may.1
steps_keep grants words passes worker (exchanges i expected new) note after kept may = absurd may
steps_keep grants words passes worker (adds i by) note after kept may =
    subst (λ (n : ℕ). HasHistory grants (words_after words (adds i n)) (set passes worker after)) (sym may.0)
    (adds_keep grants words passes worker note may.1 i after may.2)

-- what is held goes on being held where another seat gets a range, or gives one back
module _ (grants : Grants) (words : List ℕ) (seat : ℕ) (new : Option Held) where
  holds_on : (other : ℕ) (g : Held) → (other ≡ seat → ⊥) → Holds grants other g → Holds (set grants seat new) other g
  holds_on other g differ holds = set_else grants seat other new differ ∙ holds

  backs_on : (state : List Areas) (other : ℕ) (pending : Pending) → (other ≡ seat → ⊥) → Backs grants state other pending
      → Backs (set grants seat new) state other pending
  backs_on state other AtRest differ b = tt
  backs_on state other (Planned plan) differ b = (holds_on other everything differ b.0, b.1)
  backs_on state other (OneRow c) differ b = (holds_on other (alone c.span) differ b.0, b.1, b.2)

  backed_on : (state : List Areas) (other : ℕ) (x : Pass) → (other ≡ seat → ⊥) → IsBacked grants words state other x
      → IsBacked (set grants seat new) words state other x
  backed_on state other x differ b = record {
    reads = ⊎_elim (λ n. inl n) (λ h. inr (h.0, holds_on other h.0 differ h.1, h.2)) b.reads;
    rows = λ held has. b.rows held (sym (set_else grants seat other new differ) ∙ has);
    pending = backs_on state other x.pending differ b.pending;
  }

-- who holds nothing has read nothing, and has no plan
holds_none : (grants : Grants) (seat : ℕ) (g : Held) → get_elem? grants seat ≡ some None → Holds grants seat g → ⊥
holds_none grants seat g none holds = none_is g (some-injective None (Some g) (sym none ∙ holds))

idle_backs : (grants others : Grants) (state : List Areas) (seat : ℕ) (pending : Pending) → get_elem? grants seat ≡ some None
    → Backs grants state seat pending → Backs others state seat pending
idle_backs grants others state seat AtRest none b = tt
idle_backs grants others state seat (Planned plan) none b = absurd (holds_none grants seat everything none b.0)
idle_backs grants others state seat (OneRow c) none b = absurd (holds_none grants seat (alone c.span) none b.0)

idle_backed : (grants others : Grants) (words : List ℕ) (state : List Areas) (seat : ℕ) (x : Pass)
    → get_elem? grants seat ≡ some None → IsBacked grants words state seat x → IsBacked others words state seat x
idle_backed grants others words state seat x none b = record {
  reads = ⊎_elim (λ n. inl n) (λ g. absurd (holds_none grants seat g.0 none g.1)) b.reads;
  rows = λ held has. ⊎_elim (λ n. subst (All (StillStands held words)) (sym n.1) (All-nil (StillStands held words)))
      (λ g. absurd (holds_none grants seat g.0 none g.1)) b.reads;
  pending = idle_backs grants others state seat x.pending none b.pending;
}

-- the law of gain: who gets a range held nothing, and so has read nothing yet
pub gains_keep : (grants : Grants) (words : List ℕ) (passes : List Pass) (seat : ℕ) (h : Held)
    → HasHistory grants words passes → get_elem? grants seat ≡ some None → IsFree grants seat h → HasHistory (set grants seat (Some h)) words passes
gains_keep grants words passes seat h kept none free = (
  kept.0,
  kept.1,
  kept.2,
  kept.3,
  λ other x there. dite (ℕ_discrete other seat) (λ same. subst (λ n. IsBacked (set grants seat (Some h)) words kept.2 n x) (sym same)
      (idle_backed grants (set grants seat (Some h)) words kept.2 seat x none (subst (λ n. IsBacked grants words kept.2 n x) same (kept.4 other x there))))
      (λ differ. backed_on grants words seat (Some h) kept.2 other x differ (kept.4 other x there)),
)

rest_backs : (grants : Grants) (state : List Areas) (seat : ℕ) (pending : Pending) → pending ≡ AtRest → Backs grants state seat pending
rest_backs grants state seat pending rest = subst (Backs grants state seat) (sym rest) tt

-- the law of loss
pub losses_keep : (grants : Grants) (words : List ℕ) (passes : List Pass) (seat : ℕ) (p : Pass)
    → HasHistory grants words passes → get_elem? passes seat ≡ some p → IsAtRest p → HasHistory (set grants seat None) words (set passes seat (rest_of p))
losses_keep grants words passes seat p kept at rest =
    let r = kept.3 in (
      kept.0,
      kept.1,
      kept.2,
      replaced kept.0 kept.1 kept.2 words seat p (r.parts seat p at) passes (rest_of p) r at
          (rested kept.0 kept.1 kept.2 words seat p (r.parts seat p at)) refl refl refl,
      λ other x there. ⊎_elim (λ t. subst (λ (z : ℕ × Pass). IsBacked (set grants seat None) words kept.2 z.0 z.1) (λ i. (sym t.0 i, t.1 i))
          (record {
            reads = inl (refl, refl, refl);
            rows = λ held has. All-nil (StillStands held words);
            pending = rest_backs (set grants seat None) kept.2 seat p.pending rest;
          })) (λ t. backed_on grants words seat None kept.2 other x t.0 (kept.4 other x t.1)) (at_set passes seat other (rest_of p) x there),
    )

-- a pass at rest that gives its range back is at rest
pub stays_resting : (p : Pass) → IsAtRest p → IsAtRest (rest_of p)
stays_resting p rest = rest
