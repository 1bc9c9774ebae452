-- The acts by which a seat writes its range, counts itself, draws a ticket, shows its announcement and takes it back
-- keep the rule of the queue. These are parts of the proofs in `Keeping`.
use Rattle.std.specs.Prelude.{Some, slice_index, sum_by, if◌then◌else◌}
use Rattle.std.proofs.Common.{◌≡◌, ℕ, ◌+◌, ◌-◌, ◌/◌, ◌%◌, ◌^◌, ◌<◌, ◌≤◌, false, List, length, set, sym, refl, ap, ◌∙◌, subst, arith, length-set}
use Rattle.std.proofs.Common.{get_or-set_same}
use Rattle.std.proofs.lemmas.List.{get_or-set_other}
use Rattle.std.proofs.lemmas.Bool.{true≢false}
use mathlib.Core.Option.{some}
use lib.ListN.{get_elem?}
use Rattle.lock_core.proofs.ByPlace.{below}
use Rattle.lock_core.specs.Range.{IsRange}
use Rattle.queue_laws.specs.declared.places.Announcement.{Announcement}
use Rattle.queue_laws.specs.declared.places.Telling.{Telling}
use Rattle.queue_laws.specs.declared.places.Telling.TheVariants.{Silent, Counted, Drawn, Shown}
use Rattle.queue_laws.specs.Machine.{is_silent}
use Rattle.queue_guard.specs.declared.passes.Ends.{Ends}
use Rattle.queue_guard.specs.declared.passes.QueuePass.{QueuePass}
use Rattle.queue_guard.specs.Places.{count_place, next_place, ticket_place, lo_place, hi_place, held_from}
use Rattle.queue_guard.specs.Acts.{both_ends, is_shown, with_own, with_telling}
use Rattle.queue_guard.specs.Rule.{IsQueue, IsPart, Fits, HasTicket, IsTold, ticket_word, counts}
use Rattle.queue_guard.specs.Parts.{IsElsewhere, moved, one_changed, part_of_sum, sum_few, bit_counts}

-- who hasn't shown an announcement may write its words
told_none : (t : Telling) (ends : Ends) → is_shown t ≡ false → IsTold t ends
told_none Silent ends e = tt
told_none Counted ends e = tt
told_none (Drawn d) ends e = tt
told_none (Shown a) ends e = absurd (true≢false e)

fits_other : (ticket : ℕ) (read : Ends) (t : Telling) (ends now : Ends) → is_shown t ≡ false → Fits ticket read t ends → Fits ticket read t now
fits_other ticket read Silent ends now e fits = tt
fits_other ticket read Counted ends now e fits = tt
fits_other ticket read (Drawn d) ends now e fits = fits
fits_other ticket read (Shown a) ends now e fits = absurd (true≢false e)

abbrev bit_told : Telling → ℕ
bit_told t = if is_silent t then 0 else 1

module _ {P : Type 0} where
  module _ (words : List ℕ) (passes : List (QueuePass P)) (s : ℕ) (p : QueuePass P) (r : IsQueue words passes) (own : get_elem? passes s ≡ some p) where
    in_table : s < 16
    in_table = let lt = below passes s p own in let few = r.few in omega arith

    part_of : IsPart words s p
    part_of = r.parts s p own

    inside : (i : ℕ) → i < 152 → i < length words
    inside i lt = let w = r.wide in omega arith

    -- a store in the seat's own words
    pub writes_lo_keeps : (value : ℕ) → is_shown p.telling ≡ false
        → IsQueue (set words (lo_place s) value) (set passes s (with_own p (record { lo = Some value; hi = p.own.hi })))
    writes_lo_keeps value hidden =
        let q : QueuePass P = with_own p (record { lo = Some value; hi = p.own.hi }) in
        let next : slice_index (set words (lo_place s) value) next_place ≡ slice_index words next_place =
        get_or-set_other words (lo_place s) next_place value 0 (λ e. omega arith) in
        let count : slice_index (set words (lo_place s) value) count_place ≡ slice_index words count_place =
        get_or-set_other words (lo_place s) count_place value 0 (λ e. omega arith) in
        moved words (set words (lo_place s) value) passes s p q r own (record {
          seats = refl;
          wide = length-set words (lo_place s) value;
          else_where = one_changed words s (lo_place s) value (λ k lt n. ((λ e. omega arith), (λ e. n (omega arith)), (λ e. omega arith)));
          rises = omega arith;
          last = let l = r.last in omega arith;
          count = omega arith;
          part = record {
            ticket = get_or-set_other words (lo_place s) (ticket_place s) value 0 (λ e. omega arith) ∙ part_of.ticket;
            drawn = λ n h. let d = part_of.drawn n h in let lt = d.1 in (d.0, omega arith);
            lo = λ v e. let same : value ≡ v = cc in get_or-set_same words (lo_place s) value 0 (inside (lo_place s) (let t = in_table in omega arith)) ∙ same;
            hi = λ v e. get_or-set_other words (lo_place s) (hi_place s) value 0 (λ z. omega arith) ∙ part_of.hi v e;
            told = told_none p.telling q.own hidden;
          };
          read = r.reads s p own;
          others = λ ticket read low fits. fits_other ticket read p.telling p.own q.own hidden fits;
        })

    -- the same of its higher end
    pub writes_hi_keeps : (value : ℕ) → is_shown p.telling ≡ false
        → IsQueue (set words (hi_place s) value) (set passes s (with_own p (record { lo = p.own.lo; hi = Some value })))
    writes_hi_keeps value hidden =
        let q : QueuePass P = with_own p (record { lo = p.own.lo; hi = Some value }) in
        let next : slice_index (set words (hi_place s) value) next_place ≡ slice_index words next_place =
        get_or-set_other words (hi_place s) next_place value 0 (λ e. omega arith) in
        let count : slice_index (set words (hi_place s) value) count_place ≡ slice_index words count_place =
        get_or-set_other words (hi_place s) count_place value 0 (λ e. omega arith) in
        moved words (set words (hi_place s) value) passes s p q r own (record {
          seats = refl;
          wide = length-set words (hi_place s) value;
          else_where = one_changed words s (hi_place s) value (λ k lt n. ((λ e. omega arith), (λ e. omega arith), (λ e. n (omega arith))));
          rises = omega arith;
          last = let l = r.last in omega arith;
          count = omega arith;
          part = record {
            ticket = get_or-set_other words (hi_place s) (ticket_place s) value 0 (λ e. omega arith) ∙ part_of.ticket;
            drawn = λ n h. let d = part_of.drawn n h in let lt = d.1 in (d.0, omega arith);
            lo = λ v e. get_or-set_other words (hi_place s) (lo_place s) value 0 (λ z. omega arith) ∙ part_of.lo v e;
            hi = λ v e. let same : value ≡ v = cc in get_or-set_same words (hi_place s) value 0 (inside (hi_place s) (let t = in_table in omega arith)) ∙ same;
            told = told_none p.telling q.own hidden;
          };
          read = r.reads s p own;
          others = λ ticket read low fits. fits_other ticket read p.telling p.own q.own hidden fits;
        })

    -- the same own words, with another telling: what has to be shown of the words alone
    record IsTelling (words' : List ℕ) (telling : Telling) : Type 0 where
      wide : length words' ≡ length words
      else_where : IsElsewhere words words' s
      rises : slice_index words next_place ≤ slice_index words' next_place
      last : slice_index words' next_place ≤ 2 ^ 62
      count : slice_index words' count_place + bit_told p.telling ≡ slice_index words count_place + bit_told telling
      ticket : slice_index words' (ticket_place s) ≡ ticket_word telling
      drawn : (n : ℕ) → HasTicket telling n → (1 ≤ n) × (n < slice_index words' next_place)
      lo : slice_index words' (lo_place s) ≡ slice_index words (lo_place s)
      hi : slice_index words' (hi_place s) ≡ slice_index words (hi_place s)
      told : IsTold telling p.own
      others : (ticket : ℕ) (read : Ends) → ticket < slice_index words next_place → Fits ticket read p.telling p.own → Fits ticket read telling p.own

    tells : (words' : List ℕ) (telling : Telling) → IsTelling words' telling → IsQueue words' (set passes s (with_telling p telling))
    tells words' telling t = moved words words' passes s p (with_telling p telling) r own (record {
      seats = refl;
      wide = t.wide;
      else_where = t.else_where;
      rises = t.rises;
      last = t.last;
      count = t.count;
      part = record {
        ticket = t.ticket;
        drawn = t.drawn;
        lo = λ v e. t.lo ∙ part_of.lo v e;
        hi = λ v e. t.hi ∙ part_of.hi v e;
        told = t.told;
      };
      read = r.reads s p own;
      others = t.others;
    })

    most_counted : slice_index words count_place ≤ 16
    most_counted = let c = r.count in let f = sum_few counts bit_counts passes in let few = r.few in omega arith

    -- a seat that counts itself
    pub counts_keeps : p.telling ≡ Silent → IsQueue (set words count_place ((slice_index words count_place + 1) % 2 ^ 64)) (set passes s
        (with_telling p Counted))
    counts_keeps silent =
        let v : ℕ = (slice_index words count_place + 1) % 2 ^ 64 in
        let most = most_counted in
        let is : v ≡ slice_index words count_place + 1 = omega arith in
        let none : bit_told p.telling ≡ 0 = ap bit_told silent in
        let next : slice_index (set words count_place v) next_place ≡ slice_index words next_place = get_or-set_other words count_place
        next_place v 0 (λ e. omega arith) in
        let here : slice_index (set words count_place v) count_place ≡ v = get_or-set_same words count_place v 0 (inside count_place (omega arith)) in
        tells (set words count_place v) Counted (record {
          wide = length-set words count_place v;
          else_where = one_changed words s count_place v (λ k lt n. ((λ e. omega arith), (λ e. omega arith), (λ e. omega arith)));
          rises = omega arith;
          last = let l = r.last in omega arith;
          count = omega arith;
          ticket = get_or-set_other words count_place (ticket_place s) v 0 (λ e. omega arith) ∙ (part_of.ticket ∙ ap ticket_word silent);
          drawn = λ n h. absurd h;
          lo = get_or-set_other words count_place (lo_place s) v 0 (λ e. omega arith);
          hi = get_or-set_other words count_place (hi_place s) v 0 (λ e. omega arith);
          told = tt;
          others = λ ticket read low fits. tt;
        })

    pub uncounts_keeps : p.telling ≡ Counted
        → IsQueue (set words count_place ((slice_index words count_place + (2 ^ 64 - 1)) % 2 ^ 64)) (set passes s (with_telling p Silent))
    uncounts_keeps counted =
        let v : ℕ = (slice_index words count_place + (2 ^ 64 - 1)) % 2 ^ 64 in
        let most = most_counted in
        let one : bit_told p.telling ≡ 1 = ap bit_told counted in
        let least : counts p ≤ sum_by counts passes = part_of_sum counts passes s p own in
        let same : counts p ≡ bit_told p.telling = refl in
        let c = r.count in
        let is : v + 1 ≡ slice_index words count_place = omega arith in
        let next : slice_index (set words count_place v) next_place ≡ slice_index words next_place = get_or-set_other words count_place
        next_place v 0 (λ e. omega arith) in
        let here : slice_index (set words count_place v) count_place ≡ v = get_or-set_same words count_place v 0 (inside count_place (omega arith)) in
        tells (set words count_place v) Silent (record {
          wide = length-set words count_place v;
          else_where = one_changed words s count_place v (λ k lt n. ((λ e. omega arith), (λ e. omega arith), (λ e. omega arith)));
          rises = omega arith;
          last = let l = r.last in omega arith;
          count = omega arith;
          ticket = get_or-set_other words count_place (ticket_place s) v 0 (λ e. omega arith) ∙ (part_of.ticket ∙ ap ticket_word counted);
          drawn = λ n h. absurd h;
          lo = get_or-set_other words count_place (lo_place s) v 0 (λ e. omega arith);
          hi = get_or-set_other words count_place (hi_place s) v 0 (λ e. omega arith);
          told = tt;
          others = λ ticket read low fits. tt;
        })

    -- a seat that draws the next ticket
    pub draws_keeps : (expected : ℕ) → p.telling ≡ Counted → expected < 2 ^ 62 → slice_index words next_place ≡ expected
        → IsQueue (set words next_place (expected + 1)) (set passes s (with_telling p (Drawn (slice_index words next_place))))
    draws_keeps expected counted low found =
        let one : bit_told p.telling ≡ 1 = ap bit_told counted in
        let here : slice_index (set words next_place (expected + 1)) next_place ≡ expected + 1 =
        get_or-set_same words next_place (expected + 1) 0 (inside next_place (omega arith)) in
        let count : slice_index (set words next_place (expected + 1)) count_place ≡ slice_index words count_place =
        get_or-set_other words next_place count_place (expected + 1) 0 (λ e. omega arith) in
        tells (set words next_place (expected + 1)) (Drawn (slice_index words next_place)) (record {
          wide = length-set words next_place (expected + 1);
          else_where = one_changed words s next_place (expected + 1) (λ k lt n. ((λ e. omega arith), (λ e. omega arith), (λ e. omega arith)));
          rises = omega arith;
          last = omega arith;
          count = omega arith;
          ticket = get_or-set_other words next_place (ticket_place s) (expected + 1) 0 (λ e. omega arith) ∙ (part_of.ticket ∙ ap ticket_word counted);
          drawn = λ n h. let f = r.first in let e : slice_index words next_place ≡ n = h in (omega arith, omega arith);
          lo = get_or-set_other words next_place (lo_place s) (expected + 1) 0 (λ e. omega arith);
          hi = get_or-set_other words next_place (hi_place s) (expected + 1) 0 (λ e. omega arith);
          told = tt;
          others = λ ticket read lt fits. λ e. let f : slice_index words next_place ≡ ticket = e in omega arith;
        })

    -- a seat that shows its announcement
    pub shows_keeps : (ticket lo hi : ℕ) → p.telling ≡ Drawn ticket → p.own ≡ both_ends lo hi → IsRange lo (hi / 2)
        → IsQueue (set words (ticket_place s) ticket) (set passes s (with_telling p (Shown (record { ticket = ticket; held = held_from lo hi }))))
    shows_keeps ticket lo hi drawn ends range =
        let one : bit_told p.telling ≡ 1 = ap bit_told drawn in
        let next : slice_index (set words (ticket_place s) ticket) next_place ≡ slice_index words next_place =
        get_or-set_other words (ticket_place s) next_place ticket 0 (λ e. omega arith) in
        let count : slice_index (set words (ticket_place s) ticket) count_place ≡ slice_index words count_place =
        get_or-set_other words (ticket_place s) count_place ticket 0 (λ e. omega arith) in
        tells (set words (ticket_place s) ticket) (Shown (record { ticket = ticket; held = held_from lo hi })) (record {
          wide = length-set words (ticket_place s) ticket;
          else_where = one_changed words s (ticket_place s) ticket (λ k lt n. ((λ e. n (omega arith)), (λ e. omega arith), (λ e. omega arith)));
          rises = omega arith;
          last = let l = r.last in omega arith;
          count = omega arith;
          ticket = get_or-set_same words (ticket_place s) ticket 0 (inside (ticket_place s) (let t = in_table in omega arith));
          drawn = λ n h. let d = part_of.drawn n (subst (λ (t : Telling). HasTicket t n) (sym drawn) h) in let lt = d.1 in (d.0, omega arith);
          lo = get_or-set_other words (ticket_place s) (lo_place s) ticket 0 (λ e. omega arith);
          hi = get_or-set_other words (ticket_place s) (hi_place s) ticket 0 (λ e. omega arith);
          told = (lo, hi, ends, refl, range);
          others = λ t read low fits. λ same. absurd (subst (λ (x : Telling). Fits t read x p.own) drawn fits same);
        })

    -- a seat that takes it back
    pub hides_keeps : (a : Announcement) → p.telling ≡ Shown a → IsQueue (set words (ticket_place s) 0) (set passes s (with_telling p Counted))
    hides_keeps a shown =
        let one : bit_told p.telling ≡ 1 = ap bit_told shown in
        let next : slice_index (set words (ticket_place s) 0) next_place ≡ slice_index words next_place =
        get_or-set_other words (ticket_place s) next_place 0 0 (λ e. omega arith) in
        let count : slice_index (set words (ticket_place s) 0) count_place ≡ slice_index words count_place =
        get_or-set_other words (ticket_place s) count_place 0 0 (λ e. omega arith) in
        tells (set words (ticket_place s) 0) Counted (record {
          wide = length-set words (ticket_place s) 0;
          else_where = one_changed words s (ticket_place s) 0 (λ k lt n. ((λ e. n (omega arith)), (λ e. omega arith), (λ e. omega arith)));
          rises = omega arith;
          last = let l = r.last in omega arith;
          count = omega arith;
          ticket = get_or-set_same words (ticket_place s) 0 0 (inside (ticket_place s) (let t = in_table in omega arith));
          drawn = λ n h. absurd h;
          lo = get_or-set_other words (ticket_place s) (lo_place s) 0 0 (λ e. omega arith);
          hi = get_or-set_other words (ticket_place s) (hi_place s) 0 0 (λ e. omega arith);
          told = tt;
          others = λ ticket read low fits. tt;
        })
