use Rattle.std.proofs.Common.{◌≡◌, ℕ, List, ◌++◌, ◌∷◌, [], map, ap, ◌∙◌, sym, arith, rules, subst}
use Rattle.std.specs.Prelude.{replicate}
use Rattle.lock_core.specs.declared.views.View.{View}
use Rattle.lock_core.specs.Words.{word_count}
use Rattle.lock_core.specs.Machine.{numbers_from, start_view}
use Rattle.lock_core.specs.Sizes.{IsSized}
use Rattle.lock_core.proofs.Opening.{map_more, start_sized}
use Rattle.lock_core.proofs.state.fresh.Goals as goal

-- one view more is the one of the next seat
pub loop-seat-preserved : goal.loop-seat-preserved
loop-seat-preserved c =
    (c.in_ok-push.ensures {u = tt}).items ∙ (λ i. c.loop-seat.invariant i ++ c.in_ok-first_view.ensures {u = tt} i ∷ [])
    ∙ map_more (start_view c.args.seats) c.loop-seat.seat

-- the state that is made has its sizes
pub invariant_of-result : goal.invariant_of-result
invariant_of-result c =
    let all : c.loop-seat.seat ≡ c.args.seats = omega arith in
    let views = c.loop-seat.invariant ∙ ap (λ n. map (start_view c.args.seats) (numbers_from 0 n)) all in
    let words : c.in_ok-words.words.items ≡ replicate (word_count c.args.seats) 0 = search rules in
    subst (λ (t : List ℕ × List View). IsSized (record { seats = c.args.seats; words = t.0; views = t.1 }))
    (λ i. (sym words i, sym views i)) (start_sized c.args.seats c.requires.some c.requires.few)
