-- One seat moves and the rule of the queue stays: what has to be shown of the moving seat alone. These are parts of the
-- proofs in `Keeping`; a reader who trusts the check may pass them over.
use Rattle.std.specs.Prelude.{sum_by, slice_index, if◌then◌else◌}
use Rattle.std.proofs.Common.{◌≡◌, ◌≢◌, ℕ, ◌+◌, ◌^◌, ◌<◌, ◌≤◌, Bool, true, false, List, [], ◌∷◌, length, set, sym, refl, ap, ◌∙◌, subst, arith}
use Rattle.std.proofs.Common.{⊎_elim, length-set}
use Rattle.std.proofs.lemmas.List.{get_or-set_other}
use Rattle.std.proofs.lemmas.List.Sums.{sum_by-set, sum_by-cons, get_or-le-sum_by}
use mathlib.Core.Option.{some}
use lib.ListN.{get_elem?}
use Rattle.atomic_table.proofs.Lists.{at_set}
use Rattle.lock_core.proofs.ByPlace.{below, at_or}
use Rattle.queue_laws.specs.Machine.{is_silent}
use Rattle.queue_guard.specs.declared.passes.Ends.{Ends}
use Rattle.queue_guard.specs.declared.passes.QueuePass.{QueuePass}
use Rattle.queue_guard.specs.Places.{count_place, next_place, ticket_place, lo_place, hi_place}
use Rattle.queue_guard.specs.Rule.{IsQueue, IsPart, IsRead, Fits, counts}

-- a sum after one element has become another
pub sum_after : {A : Type 0} (f : A → ℕ) (l : List A) (i : ℕ) (a b : A) → get_elem? l i ≡ some a → sum_by f (set l i b) + f a ≡ sum_by f l + f b
sum_after f l i a b at = ap (λ x. sum_by f (set l i b) + f x) (sym (at_or l i a a at)) ∙ sum_by-set f l i b a (below l i a at)

-- an element is at most the sum
pub part_of_sum : {A : Type 0} (f : A → ℕ) (l : List A) (i : ℕ) (a : A) → get_elem? l i ≡ some a → f a ≤ sum_by f l
part_of_sum f l i a at = let le = get_or-le-sum_by f l i a (below l i a at) in let e = ap f (at_or l i a a at) in omega arith

-- a sum of bits is at most the length
pub sum_few : {A : Type 0} (f : A → ℕ) → ((a : A) → f a ≤ 1) → (l : List A) → sum_by f l ≤ length l
sum_few f bit [] = omega arith
sum_few f bit (x ∷ xs) = let r = sum_few f bit xs in let b = bit x in let c = sum_by-cons f x xs in omega arith

-- of the words that a seat but s has, none is changed
pub record IsElsewhere (words words' : List ℕ) (s : ℕ) : Type 0 where
  pub ticket : (k : ℕ) → k < 16 → k ≢ s → slice_index words' (ticket_place k) ≡ slice_index words (ticket_place k)
  pub lo : (k : ℕ) → k < 16 → k ≢ s → slice_index words' (lo_place k) ≡ slice_index words (lo_place k)
  pub hi : (k : ℕ) → k < 16 → k ≢ s → slice_index words' (hi_place k) ≡ slice_index words (hi_place k)

-- so it is where no word is changed
pub nothing_changed : (words : List ℕ) (s : ℕ) → IsElsewhere words words s
nothing_changed words s = record { ticket = λ k lt n. refl; lo = λ k lt n. refl; hi = λ k lt n. refl }

-- a word that is none of theirs was changed
pub one_changed : (words : List ℕ) (s i v : ℕ) → ((k : ℕ) → k < 16 → k ≢ s → (ticket_place k ≢ i) × (lo_place k ≢ i) × (hi_place k ≢ i))
    → IsElsewhere words (set words i v) s
one_changed words s i v far = record {
  ticket = λ k lt n. get_or-set_other words i (ticket_place k) v 0 (far k lt n).0;
  lo = λ k lt n. get_or-set_other words i (lo_place k) v 0 (far k lt n).1;
  hi = λ k lt n. get_or-set_other words i (hi_place k) v 0 (far k lt n).2;
}

module _ {P : Type 0} where
  -- a seat is counted once at most
  pub bit_counts : (p : QueuePass P) → counts p ≤ 1
  bit_counts p = by (is_silent p.telling)
    where
      by : (b : Bool) → (if b then 0 else 1) ≤ 1
      by true = omega arith
      by false = omega arith

  module _ (words words' : List ℕ) (passes : List (QueuePass P)) (s : ℕ) (p q : QueuePass P) (r : IsQueue words passes)
      (own : get_elem? passes s ≡ some p) where
    -- the moving seat's own part, and what it has read, as they are after the step
    pub record IsMoved : Type 0 where
      pub seats : q.seats ≡ p.seats
      pub wide : length words' ≡ length words
      pub else_where : IsElsewhere words words' s
      pub rises : slice_index words next_place ≤ slice_index words' next_place
      pub last : slice_index words' next_place ≤ 2 ^ 62
      pub count : slice_index words' count_place + counts p ≡ slice_index words count_place + counts q
      pub part : IsPart words' s q
      pub read : IsRead words passes q
      pub others : (ticket : ℕ) (read : Ends) → ticket < slice_index words next_place → Fits ticket read p.telling p.own → Fits ticket read q.telling q.own

    fits_on : IsMoved → (ticket : ℕ) (read : Ends) (j : ℕ) → ticket < slice_index words next_place
        → ((x : QueuePass P) → get_elem? passes j ≡ some x → Fits ticket read x.telling x.own)
        → (x : QueuePass P) → get_elem? (set passes s q) j ≡ some x → Fits ticket read x.telling x.own
    fits_on m ticket read j low fits x at = ⊎_elim
        (λ here. subst (λ (y : QueuePass P). Fits ticket read y.telling y.own) here.1
        (m.others ticket read low (fits p (ap (get_elem? passes) here.0 ∙ own))))
        (λ away. fits x away.1)
        (at_set passes s j q x at)

    read_on : IsMoved → (x : QueuePass P) → IsRead words passes x → IsRead words' (set passes s q) x
    read_on m x read asked j ticket look = let old = read asked j ticket look in let up = m.rises in let lt = old.1 in
        (old.0, omega arith, fits_on m ticket x.read j old.1 old.2)

    few_seats : (k : ℕ) (x : QueuePass P) → get_elem? passes k ≡ some x → k < 16
    few_seats k x at = let lt = below passes k x at in let few = r.few in omega arith

    -- the rule after the move
    pub moved : IsMoved → IsQueue words' (set passes s q)
    moved m = record {
      wide = let a = r.wide in let b = m.wide in omega arith;
      few = let a = r.few in let b = length-set passes s q in omega arith;
      seats = λ k x at. ⊎_elim
          (λ here. ap (λ (y : QueuePass P). y.seats) (sym here.1) ∙ (m.seats ∙ (r.seats s p own ∙ sym (length-set passes s q))))
          (λ away. r.seats k x away.1 ∙ sym (length-set passes s q))
          (at_set passes s k q x at);
      count = let a = sum_after counts passes s p q own in let b = r.count in let d = m.count in omega arith;
      first = let a = r.first in let b = m.rises in omega arith;
      last = m.last;
      parts = λ k x at. ⊎_elim
          (λ here. subst (λ (n : ℕ). IsPart words' n x) (sym here.0) (subst (IsPart words' s) here.1 m.part))
          (λ away. let part = r.parts k x away.1 in let lt = few_seats k x away.1 in record {
            ticket = m.else_where.ticket k lt away.0 ∙ part.ticket;
            drawn = λ n h. let d = part.drawn n h in let up = m.rises in (d.0, let lo = d.1 in omega arith);
            lo = λ v e. m.else_where.lo k lt away.0 ∙ part.lo v e;
            hi = λ v e. m.else_where.hi k lt away.0 ∙ part.hi v e;
            told = part.told;
          })
          (at_set passes s k q x at);
      reads = λ k x at asked j ticket look. ⊎_elim
          (λ here. read_on m x (subst (IsRead words passes) here.1 m.read) asked j ticket look)
          (λ away. read_on m x (r.reads k x away.1) asked j ticket look)
          (at_set passes s k q x at);
    }
