-- The further looks of a reader in conflict: each is a validation that goes on where the last one stopped, so the node
-- may be looked at once more after each.
use Rattle.std.proofs.Common.{◌≡◌, Bool, true, false, inr, refl, ◌∙◌, subst}
use Rattle.lock_core.specs.declared.views.Own.{Own}
use Rattle.lock_core.specs.declared.views.Todo.{Todo}
use Rattle.lock_core.specs.declared.views.Todo.TheVariants.{Forward, FromHead, Done}
use Rattle.epoch_pools.specs.declared.views.SeatPart.{SeatPart}
use Rattle.marked_list.specs.Order.{IsInside, HasToValidate, StandsInConflict, MayValidate}
use Rattle.range_rw.specs.Trying.{IsLaterInEpoch}
use Rattle.range_rw.specs.Patience.{is_forward, reads_on}
use Rattle.range_rw.proofs.Later.{inside_still}

forward_is : (t : Todo) → is_forward t ≡ true → t ≡ Forward
forward_is Forward e = refl
forward_is FromHead e = absurd (let z : ◌≡◌ {A = Bool} false true = e in cc)
forward_is Done e = absurd (let z : ◌≡◌ {A = Bool} false true = e in cc)

-- a reader in conflict may look at the same node again
pub may_look : {P : Type 0} (p q : SeatPart P) → IsInside p.core → HasToValidate p.core.own → reads_on p.core.own ≡ true → IsLaterInEpoch p q
    → q.core.own ≡ p.core.own → StandsInConflict q.seats q.core → MayValidate q.seats q.core
may_look p q in_epoch own reader still same conflict = record {
  inside = inside_still p q in_epoch still;
  own = record { node = own.node; is = same ∙ own.is; todo = own.todo };
  begins = inr (forward_is own.node.todo (subst (λ (o : Own). reads_on o ≡ true) own.is reader), conflict);
}
