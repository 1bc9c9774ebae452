-- What a seat may do by its range, and what it knows after, at every moment at which it holds that range.
use Rattle.std.proofs.Common.{◌≡◌, ℕ, ◌≤◌, [], ◌∷◌, slice_index, sym, refl, ap, ◌∙◌, arith}
use Rattle.std.specs.Prelude.{Option, true, false}
use Rattle.std.proofs.lemmas.Bool.{false≢true}
use mathlib.Core.Option.{some}
use lib.ListN.{get_elem?}
use Rattle.lock_core.specs.Grants.{Grants}
use Rattle.lock_core.specs.Client.{loads, stores, IsAllowed, IsMade}
use Rattle.lock_core.specs.declared.range.Held.{Held}
use Rattle.range_rw.specs.Contract.{first_passes}
use Rattle.range_rw.proofs.SeatLists.{at_firsts}
use Rattle.example_ranges.specs.declared.high_water.Reading.{Reading}
use Rattle.example_ranges.specs.HighWater.{MayRead, MayRaise, IsHighWater, IsMarkStep}

module _ (seat : ℕ) (held : Option Held) (pass : Reading) where
  -- a seat that holds a range with 0 in it may read the mark
  pub may_read : MayRead held → IsAllowed IsHighWater IsMarkStep tt seat held pass (loads 0)
  may_read h grants words passes m there small = (record { seen = slice_index words 0; sure = true }, (refl, (h.0, m.grant ∙ ap some h.1, h.2), refl))

  -- a seat that holds one as a writer, and is sure of the mark, may raise it to what it has read or more
  pub may_raise : (to : ℕ) → MayRaise held → pass.sure ≡ true → pass.seen ≤ to → IsAllowed IsHighWater IsMarkStep tt seat held pass (stores 0 to)
  may_raise to h sure more grants words passes m there small = (
    record { seen = to; sure = true },
    (refl, m.exclusive, (h.0, m.grant ∙ ap some h.1, h.2, h.3), (pass, m.own, sure, more), refl),
  )

  -- what was read is no less than what the seat had read before, and it is sure of it
  pub was_read : (found : ℕ) (after : Reading) → IsMade IsHighWater IsMarkStep tt seat held pass (loads 0) found after
      → (pass.seen ≤ found) × (after ≡ record { seen = found; sure = true })
  was_read found after made = let m = made.3 in let old = m.met.seen seat pass m.own in let here = made.4 in
      (omega arith, made.5.2 ∙ (λ i. record { seen = here i; sure = true }))

  -- after a rise the seat knows the mark that it stored
  pub was_raised : (to found : ℕ) (after : Reading) → IsMade IsHighWater IsMarkStep tt seat held pass (stores 0 to) found after
      → after ≡ record { seen = to; sure = true }
  was_raised to found after made = made.5.4

-- the rule holds where no seat has read anything
pub nothing_read : (first : ℕ → Reading) (grants : Grants) (seats : ℕ) → ((k : ℕ) → (first k).seen ≡ 0)
    → ((k : ℕ) → (first k).sure ≡ false) → IsHighWater grants (0 ∷ []) (first_passes first 0 seats)
nothing_read first grants seats none unsure = record {
  there = omega arith;
  seen = λ n p at. let m = at_firsts first 0 seats n p at in let z : p.seen ≡ 0 = ap (λ (q : Reading). q.seen) m.1 ∙ none m.0 in omega arith;
  sure = λ n p at yes. let m = at_firsts first 0 seats n p at in absurd (false≢true (sym (ap (λ (q : Reading). q.sure) m.1 ∙ unsure m.0) ∙ yes));
}
