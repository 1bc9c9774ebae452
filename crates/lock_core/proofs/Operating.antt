-- The operation of a step, made on a word, is the line of the step on that word.
use Rattle.std.proofs.Common.{◌≡◌, ℕ, suc, ◌%◌, ◌^◌, ◌<◌, List, Some, None, refl, sym, ap, ◌∙◌, subst}
use Rattle.std.specs.Prelude.{Option, slice_index, slice_set, unwrap_or}
use Rattle.lock_core.specs.declared.views.View.{View}
use Rattle.lock_core.specs.declared.views.Own.{Own}
use Rattle.lock_core.specs.declared.views.Own.TheVariants.{Nothing, Filling, Linked}
use Rattle.lock_core.specs.declared.steps.Step.{Step}
use Rattle.lock_core.specs.declared.steps.Step.TheVariants.{Mark}
use Rattle.lock_core.specs.declared.ops.Op.{Op}
use Rattle.lock_core.specs.declared.ops.Act.{Act}
use Rattle.lock_core.specs.declared.ops.Act.TheVariants.{Load, Store, Add, Exchange}
use Rattle.lock_core.specs.Words.{heap_of, cell_place}
use Rattle.lock_core.specs.Nodes.{listed_of}
use Rattle.lock_core.specs.Views.{marked}
use Rattle.lock_core.specs.StepTable.{Plan, adds_one, loads}
use Rattle.lock_core.specs.Machine.{plan, given, made}
use Rattle.lock_core.specs.Sizes.{IsOwnEven}
use Rattle.lock_core.specs.Operations.{planned, written, Writes, IsOp, IsOpOf}

-- an operation that there is is that of the line
op_is : (step : Step) (o : Option Plan) (op : Op) (p : Plan) → IsOpOf step o (Some op) → IsOp step (unwrap_or o p) op
op_is step None op p h = absurd h
op_is step (Some q) op p h = h

-- an operation of the plan, where there is a plan, is an operation of the planned line
pub op_planned : (seats s : ℕ) (v : View) (step : Step) (op : Op) → IsOpOf step (plan seats s v step) (Some op) → IsOp step (planned seats s v step) op
op_planned seats s v step op h = op_is step (plan seats s v step) op (loads 0 (λ _. v)) h

-- what it makes of a word is what the line makes of it
pub writes_as : (step : Step) (p : Plan) (act : Act) (w : ℕ) → Writes step p act → w < 2 ^ 64 → (step ≡ Mark → w % 2 ≡ 0) → written act w ≡ p.write w
writes_as step p Load w h fits even = sym (h w)
writes_as step p (Store value) w h fits even = sym (h.0 w)
writes_as step p Add w h fits even = sym (h w fits even)
writes_as step p (Exchange old new) w h fits even = sym (h w)

-- a Mark finds an even word
even_at : (seats s : ℕ) (v : View) (step : Step) (op : Op) (words : List ℕ) → IsOpOf step (plan seats s v step) (Some op)
    → IsOwnEven (heap_of seats words) v.own → step ≡ Mark → slice_index words op.place % 2 ≡ 0
even_at seats s v step op words h even e = by_own v.own (subst (λ (st : Step). IsOpOf st (plan seats s v st) (Some op)) e h) even
  where
    by_own : (own : Own)
        → IsOpOf Mark (given (listed_of own) (λ k. Some (adds_one (cell_place seats (suc k.node)) (marked v k.node)))) (Some op)
        → IsOwnEven (heap_of seats words) own → slice_index words op.place % 2 ≡ 0
    by_own Nothing h even = absurd h
    by_own (Filling node lo hi mode aimed) h even = absurd h
    by_own (Linked node range mode todo) h even = ap (λ n. slice_index words n % 2) h.0 ∙ even node refl

carried : (step : Step) (o : Option Plan) (d : Plan) (op : Op) (words new : List ℕ) (now : View) (found : ℕ)
    → IsOpOf step o (Some op) → (step ≡ Mark → found % 2 ≡ 0) → found ≡ slice_index words op.place → found < 2 ^ 64
    → new ≡ slice_set words op.place (written op.act found) → now ≡ (unwrap_or o d).view found → made words o ≡ Some (new, now)
carried step None d op words new now found h even is fits wrote n = absurd h
carried step (Some p) d op words new now found h even is fits wrote n =
    let at : found ≡ slice_index words p.place = is ∙ ap (slice_index words) h.0 in
    let w : slice_set words op.place (written op.act found) ≡ slice_set words p.place (p.write (slice_index words p.place)) =
    (λ i. slice_set words (h.0 i) (writes_as step p op.act found h.1 fits even i)) ∙ ap (λ a. slice_set words p.place (p.write a)) at in
    λ i. Some (sym (wrote ∙ w) i, sym (n ∙ ap p.view at) i)

-- an operation that was made, with the view that follows, carries the plan out
pub made_by : (seats s : ℕ) (v now : View) (step : Step) (op : Op) (words new : List ℕ) (found : ℕ)
    → IsOpOf step (plan seats s v step) (Some op) → IsOwnEven (heap_of seats words) v.own → found ≡ slice_index words op.place
    → found < 2 ^ 64
    → new ≡ slice_set words op.place (written op.act found) → now ≡ (planned seats s v step).view found → made words (plan seats s v step) ≡ Some (new, now)
made_by seats s v now step op words new found h even is fits wrote n =
    carried step (plan seats s v step) (loads 0 (λ _. v)) op words new now found h
    (λ e. ap (λ w. w % 2) is ∙ even_at seats s v step op words h even e) is fits wrote n
