use Rattle.std.specs.Prelude.{Option}
use Rattle.std.proofs.Common.{Bool, ◌≡◌, ◌+◌, ◌*◌, sym, refl, ap, ◌∙◌, subst, arith}
use Rattle.range_rw.specs.Contract.{TableShape}
use Rattle.lock_core.specs.declared.range.Held.{Held}
use Rattle.space_model.specs.declared.entries.Under.{Under}
use Rattle.lock_core.specs.Client.{IsAllowed, IsMade, adds, loads}
use Rattle.area_guard.specs.declared.guard.Note.{Note}
use Rattle.area_guard.specs.Rows.{blocks_by, number_place}
use Rattle.area_guard.specs.History.{HasHistory, HoldsFor, Allowed, pending_of, entry_note, entry_of}
use Rattle.area_rows.specs.Callers.{IsDrawn, splice_of}
use Rattle.area_rows.proofs.Stepping.{may_draw, may_draw_quietly, draws, draws_quietly}
use Rattle.area_rows.proofs.space.Space.draw_as.Goals as goal

-- what is held for the entry where the table tells whether the history is kept, and where the pass does
held_then : {told keeps : Bool} (held : Option Held) (under : Under) → told ≡ keeps → HoldsFor keeps held under → HoldsFor told held under
held_then held under same = subst (λ (k : Bool). HoldsFor k held under) (sym same)

-- the guard allows the draw
pub add_as_uncounted-requires-clause-allowed : goal.add_as_uncounted-requires-clause-allowed
add_as_uncounted-requires-clause-allowed g c =
    let s = c.args.seat.now in
    let note = entry_note c.args.draft.now (pending_of c.args.draft.now.under (splice_of s c.args.cut c.args.more.now) c.args.change) in
    let r = c.requires in let place = 11 + 129 * c.self.inside.blocks in
    let table : blocks_by s.table ≡ c.self.inside.blocks =
    ap blocks_by (r.table ∙ sym (ap (λ (t : TableShape). t.table) c.self.view_is)) ∙ sym c.self.invariant.1 in
    subst (λ (n : Note). IsAllowed HasHistory Allowed n s.number s.held s.pass (adds place 1)) (sym r.note)
    (may_draw note s.number s.held s.pass place (ap number_place (sym (r.blocks ∙ table))) s refl refl refl r.few r.named r.rest
    (held_then s.held note.under r.told r.held) r.right (r.told ∙ (sym r.keeps ∙ c.if-keeps.true)))

-- and where the space keeps no history the load
pub load_as_uncounted-requires-clause-allowed : goal.load_as_uncounted-requires-clause-allowed
load_as_uncounted-requires-clause-allowed g c =
    let s = c.args.seat.now in
    let note = entry_note c.args.draft.now (pending_of c.args.draft.now.under (splice_of s c.args.cut c.args.more.now) c.args.change) in
    let r = c.requires in let place = 11 + 129 * c.self.inside.blocks in
    let table : blocks_by s.table ≡ c.self.inside.blocks =
    ap blocks_by (r.table ∙ sym (ap (λ (t : TableShape). t.table) c.self.view_is)) ∙ sym c.self.invariant.1 in
    subst (λ (n : Note). IsAllowed HasHistory Allowed n s.number s.held s.pass (loads place)) (sym r.note)
    (may_draw_quietly note s.number s.held s.pass place (ap number_place (sym (r.blocks ∙ table))) s refl refl refl r.few r.named r.rest
    (held_then s.held note.under r.told r.held) r.right (r.told ∙ (sym r.keeps ∙ c.if-keeps.false)))

-- there is a client word for it
pub add_as_uncounted-requires-clause-place : goal.add_as_uncounted-requires-clause-place
add_as_uncounted-requires-clause-place g c = let wide = c.self.invariant.0 in omega arith

pub load_as_uncounted-requires-clause-place : goal.load_as_uncounted-requires-clause-place
load_as_uncounted-requires-clause-place g c = let wide = c.self.invariant.0 in omega arith

-- the draw gave the entry of the draft the number that was found
pub returns-then-keeps-clause-drawn : goal.returns-then-keeps-clause-drawn
returns-then-keeps-clause-drawn g c =
    let s = c.args.seat.now in let u = c.add_as_uncounted.new.seat in
    let pending = pending_of c.args.draft.now.under (splice_of s c.args.cut c.args.more.now) c.args.change in
    let note = entry_note c.args.draft.now pending in let place = 11 + 129 * c.self.inside.blocks in
    let table : blocks_by s.table ≡ c.self.inside.blocks =
    ap blocks_by (c.requires.table ∙ sym (ap (λ (t : TableShape). t.table) c.self.view_is)) ∙ sym c.self.invariant.1 in
    let made = subst (λ (n : Note). IsMade HasHistory Allowed n s.number s.held s.pass (adds place 1) c.add_as_uncounted.result u.pass) c.requires.note
    c.add_as_uncounted.ensures.made in
    subst (λ w. IsDrawn s (entry_of c.add_as_uncounted.result w note) pending u) c.requires.worker
    (draws note s.number s.held s.pass c.add_as_uncounted.result u.pass place s u c.requires.blocks c.requires.told (sym c.requires.keeps ∙ c.if-keeps.true)
    (ap number_place (sym table)) refl refl refl refl c.add_as_uncounted.ensures.call made)

-- and where the space keeps no history the number 0
pub returns-else-keeps-clause-drawn : goal.returns-else-keeps-clause-drawn
returns-else-keeps-clause-drawn g c =
    let s = c.args.seat.now in let u = c.load_as_uncounted.new.seat in let r = c.requires in
    let pending = pending_of c.args.draft.now.under (splice_of s c.args.cut c.args.more.now) c.args.change in
    let note = entry_note c.args.draft.now pending in let place = 11 + 129 * c.self.inside.blocks in
    let table : blocks_by s.table ≡ c.self.inside.blocks =
    ap blocks_by (r.table ∙ sym (ap (λ (t : TableShape). t.table) c.self.view_is)) ∙ sym c.self.invariant.1 in
    let made = subst (λ (n : Note). IsMade HasHistory Allowed n s.number s.held s.pass (loads place) c.load_as_uncounted.result u.pass) r.note
    c.load_as_uncounted.ensures.made in
    subst (λ w. IsDrawn s (entry_of 0 w note) pending u) r.worker
    (draws_quietly note s.number s.held s.pass c.load_as_uncounted.result u.pass place s u r.blocks r.told (sym r.keeps ∙ c.if-keeps.false)
    (ap number_place (sym table)) refl refl refl refl c.load_as_uncounted.ensures.call made)
