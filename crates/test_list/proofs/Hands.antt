-- Hands in order, after a trial with one of them.
use Rattle.std.proofs.Common.{◌≡◌, ◌≢◌, Bool, true, false, ℕ, ◌+◌, ◌<◌, List, set, get_or, length, ⊎_elim, sym, ap, ◌∙◌, subst, arith}
use mathlib.Core.Option.{some}
use lib.ListN.{get_elem?}
use Rattle.atomic_table.specs.Seated.{TableId}
use Rattle.atomic_table.proofs.Lists.{at_set, at_index}
use Rattle.lock_core.proofs.ByPlace.{below, at_or, same_or}
use Rattle.std.proofs.lemmas.Bool.{cases_eq}
use Rattle.epoch_pools.specs.Hands.{HandState, IsIdle, AreIdleHands}
use Rattle.epoch_pools.specs.declared.views.SeatPart.{SeatPart}
use Rattle.epoch_pools.specs.Quick.{GivesQuickly}
use Rattle.lock_core.specs.Nodes.{Listed, listed}
use Rattle.test_list.specs.Trials.{IsSameHand, AreInOrder, AreAllIdle}

module _ {P : Type 0} (table : TableId) (hands : List (HandState P)) (i : ℕ) (d : HandState P) (order : AreInOrder table hands) (less : i < length hands) where
  at_place : ((get_or hands i d).table ≡ table) × ((get_or hands i d).part.number ≡ i)
  at_place = order i (get_or hands i d) (at_index hands i (get_or hands i d) less (same_or hands i d (get_or hands i d) less))

  -- the hand at a place is of the list
  pub table_at : (get_or hands i d).table ≡ table
  table_at = at_place.0

  -- the hand at a place changed, and is of the same list and number
  pub order_set : (h : HandState P) → IsSameHand (get_or hands i d) h → AreInOrder table (set hands i h)
  order_set h same k b at = ⊎_elim (λ (t : (k ≡ i) × (h ≡ b)). (
    sym (ap (λ (x : HandState P). x.table) t.1) ∙ (same.table ∙ at_place.0),
    sym (ap (λ (x : HandState P). x.part.number) t.1) ∙ (same.number ∙ (at_place.1 ∙ sym t.0)),
  )) (λ (t : (k ≢ i) × (get_elem? hands k ≡ some b)). order k b t.1) (at_set hands i k h b at)

-- hands in order that are all idle
pub idle_in_order : {P : Type 0} (table : TableId) (hands : List (HandState P)) → AreInOrder table hands → AreAllIdle hands → AreIdleHands table hands
idle_in_order table hands order idle k h at = let o = order k h at in (o.0, o.1, idle k h at)

-- one idle hand more
pub idle_more : {P : Type 0} (hands : List (HandState P)) (i : ℕ) (a : HandState P)
    → ((k : ℕ) (h : HandState P) → k < i → get_elem? hands k ≡ some h → IsIdle h.part.core) → i < length hands → a ≡ get_or hands i a → IsIdle a.part.core
    → (k : ℕ) (h : HandState P) → k < i + 1 → get_elem? hands k ≡ some h → IsIdle h.part.core
idle_more {P} hands i a before less is here k h low at = ⊎_elim
    (λ (e : k ≡ i). subst (λ (x : HandState P). IsIdle x.part.core) (is ∙ (ap (λ n. get_or hands n a) (sym e) ∙ at_or hands k h a at)) here)
    (λ (d : k ≢ i). before k h (omega arith) at) (cases_eq k i)

-- hands in order of which each is of the same list and number, and idle
pub hands_back : {P : Type 0} (table : TableId) (old new : List (HandState P)) → length new ≡ length old → AreInOrder table old
    → ((k : ℕ) (d : HandState P) → k < length old → (a : HandState P) × (b : HandState P) × (a ≡ get_or old k d) × IsSameHand a b
    × IsIdle b.part.core × (b ≡ get_or new k d)) → AreIdleHands table new
hands_back {P} table old new same order each k h at =
    let less = below new k h at in let e = each k h (omega arith) in
    let was : get_elem? old k ≡ some e.0 = at_index old k e.0 (omega arith) (e.2 ∙ same_or old k h e.0 (omega arith)) in
    let o = order k e.0 was in
    let now : e.1 ≡ h = e.5 ∙ at_or new k h h at in (
      sym (ap (λ (x : HandState P). x.table) now) ∙ (e.3.table ∙ o.0),
      sym (ap (λ (x : HandState P). x.part.number) now) ∙ (e.3.number ∙ o.1),
      subst (λ (x : HandState P). IsIdle x.part.core) now e.4,
    )

-- what is given back at once, or not, leaves the seat of its number
pub gives_number : {P : Type 0} (rested : P → P) (p q : SeatPart P) (given : Bool) (k : Listed) → p.core.own ≡ listed k → GivesQuickly rested p q given
    → q.number ≡ p.number
gives_number {P} rested p q true k own gives = ap (λ (x : SeatPart P). x.number) (gives k own)
gives_number {P} rested p q false k own gives = ap (λ (x : SeatPart P). x.number) (gives k own).2
