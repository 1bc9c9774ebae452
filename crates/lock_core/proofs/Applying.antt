-- From the words and the view that a step leaves to the whole state.
use Rattle.std.proofs.Common.{◌≡◌, ℕ, ◌<◌, List, ◌++◌, length, take, drop, get_or, Some, None, refl, ap, ◌∙◌, arith}
use Rattle.std.specs.Prelude.{Option, slice_get, slice_set, slice_index}
use Rattle.std.proofs.lemmas.Option.{slice_get-get_or}
use Rattle.std.proofs.lemmas.Grind.{common_steps}
use Rattle.lock_core.specs.declared.views.View.{View}
use Rattle.lock_core.specs.declared.steps.Step.{Step}
use Rattle.lock_core.specs.StepTable.{Plan}
use Rattle.lock_core.specs.Machine.{Machine, plan, made, after, carried_out, given}
use Rattle.lock_core.specs.Sizes.{IsSized}
use Rattle.lock_core.proofs.ByView.{set_there}
use Rattle.lock_core.proofs.Table.{given-is}

-- the words after a call that wrote them all
pub rewritten : (old new : List ℕ) (len : ℕ) → len ≡ length old → length new ≡ length old → take len (new ++ drop (length new) old) ≡ new
rewritten old new len e e' = grind (arith, common_steps)

-- a seat that is there has a view, which a reading with any default gives
pub at_seat : (m : Machine) (s : ℕ) (d : View) → IsSized m → s < m.seats → slice_get m.views s ≡ Some (get_or m.views s d)
at_seat m s d z l = slice_get-get_or m.views s d (let e = z.views in omega arith)

made_some : (m : Machine) (s : ℕ) (o : Option Plan) (words : List ℕ) (new : View) → made m.words o ≡ Some (words, new)
    → (p : Plan) × (o ≡ Some p) × (carried_out m s p ≡ record { seats = m.seats; words = words; views = slice_set m.views s new })
made_some m s None words new e = absurd (cc)
made_some m s (Some p) words new e =
    let same : (slice_set m.words p.place (p.write (slice_index m.words p.place)), p.view (slice_index m.words p.place)) ≡ (words, new) = cc in
    (p, refl, ap (λ (t : List ℕ × View). record { seats = m.seats; words = t.0; views = slice_set m.views s t.1 }) same)

-- where the plan makes these words and this view of them, the state after the step has both
pub after_made : (m : Machine) (s : ℕ) (step : Step) (old new : View) (words : List ℕ) → slice_get m.views s ≡ Some old
    → made m.words (plan m.seats s old step) ≡ Some (words, new)
    → after m s step ≡ Some (record { seats = m.seats; words = words; views = slice_set m.views s new })
after_made m s step old new words at e =
    let t = made_some m s (plan m.seats s old step) words new e in
    given-is _ _ old _ at (given-is _ _ t.0 _ t.1 (ap (λ (n : Machine). Some n) t.2))

-- where the view has no plan for a step there is no state after it
pub after_none : (m : Machine) (s : ℕ) (step : Step) (old : View) → slice_get m.views s ≡ Some old → plan m.seats s old step ≡ None → after m s step ≡ None
after_none m s step old at e =
    ap (λ (o : Option View). given o (λ v. given (plan m.seats s v step) (λ p. Some (carried_out m s p)))) at
    ∙ ap (λ (o : Option Plan). given o (λ p. Some (carried_out m s p))) e

-- a state that gets the words and the view that it has is as it was
pub unchanged : (m : Machine) (words : List ℕ) (s : ℕ) (old new : View) → slice_get m.views s ≡ Some old → words ≡ m.words
    → new ≡ old → record { seats = m.seats; words = words; views = slice_set m.views s new } ≡ m
unchanged m words s old new at w v = λ i. record { seats = m.seats; words = w i; views = (ap (slice_set m.views s) v ∙ set_there m.views s old at) i }
