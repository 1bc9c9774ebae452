-- How often a seat may still overtake an announcement: once, or not at all. No step of a seat raises that number, and
-- a conflicting grant uses it up.
use Rattle.std.proofs.Common.{◌≡◌, ◌≢◌, ℕ, zero, suc, ◌+◌, ◌<◌, ◌≤◌, Bool, true, false, List, [], ◌∷◌, length, sym, refl, ap, ◌∙◌, arith, ◌⊎◌, inl, inr, ⊎_elim}
use Rattle.std.specs.Prelude.{Option, Some, None, is_none, ◌==◌, ◌&&◌, ◌||◌, not, nat_lt, nat_le, if◌then◌else◌}
use Rattle.std.proofs.lemmas.Bool.{false≢true, true≢false, ltb-true, ltb-false, leb-true, lt-ltb, eqb-true, eq-eqb, ne_eqb, and_parts, and_from, or_cases}
use Rattle.std.proofs.lemmas.Bool.{or_left, or_right, cases_eq, cases_order}
use mathlib.Core.Logic.{dite}
use native.Mathlib.Decide.{ℕ_discrete}
use Rattle.lock_core.specs.declared.range.Held.{Held}
use Rattle.queue_laws.specs.declared.places.Announcement.{Announcement}
use Rattle.queue_laws.specs.declared.places.Telling.{Telling}
use Rattle.queue_laws.specs.declared.places.Telling.TheVariants.{Silent, Counted, Drawn, Shown}
use Rattle.queue_laws.specs.declared.places.Look.{Look}
use Rattle.queue_laws.specs.declared.places.Look.TheVariants.{At, Clear, Way}
use Rattle.queue_laws.specs.declared.steps.QueueStep.{QueueStep}
use Rattle.queue_laws.specs.declared.steps.QueueStep.TheVariants.{Count, Draw, Show, Hide, Uncount, Begin, Note, Judge, Gain, Give}
use Rattle.queue_laws.specs.Machine.{Place, IsLine, conflicts, is_older, is_silent, are_silent, telling_at, past_seat, begun, noted, judged}
use Rattle.queue_laws.specs.Laws.{is_gain_against, has_older, has_other, has_looked, may_overtake}
use Rattle.queue_laws.proofs.Tickets.{HasTicket}

-- 1 where a test is met
abbrev pub bit : Bool → ℕ
bit b = if b then 1 else 0

-- how often a seat at such a place may still overtake
abbrev pub weight : ℕ → Announcement → Place → ℕ
weight seat a p = bit (may_overtake seat a p)

mono : (h x o l : Bool) → (o ≡ true → x ≡ true) → (l ≡ true → x ≡ true) → bit (h && (o || l)) ≤ bit (h && x)
mono false x o l f g = omega arith
mono true true true l f g = omega arith
mono true true false true f g = omega arith
mono true true false false f g = omega arith
mono true false true l f g = absurd (false≢true (f refl))
mono true false false true f g = absurd (false≢true (g refl))
mono true false false false f g = omega arith

-- where seat i has told something, not all are silent, and it is one of them
pub shown_there : (tellings : List Telling) (i : ℕ) (a : Announcement) → telling_at tellings i ≡ Shown a
    → (are_silent tellings ≡ false) × (i < length tellings)
shown_there [] i a e = absurd cc
shown_there (t ∷ ts) zero a e = (ap (λ (x : Telling). is_silent x && are_silent ts) e, omega arith)
shown_there (t ∷ ts) (suc i) a e = let r = shown_there ts i a e in (and_none (is_silent t) (are_silent ts) r.0, let lt = r.1 in omega arith)
  where
    and_none : (x y : Bool) → y ≡ false → (x && y) ≡ false
    and_none true y e = e
    and_none false y e = refl

-- whose ticket isn't younger and isn't the same is older
older_or : (t : ℕ) (mine : Telling) → is_older t mine ≡ false → (HasTicket mine t → ⊥) → has_older t mine ≡ true
older_or t Silent e differ = absurd (true≢false e)
older_or t Counted e differ = absurd (true≢false e)
older_or t (Drawn n) e differ = let le = ltb-false t n e in lt-ltb n t (by (ℕ_discrete n t) le)
  where
    by : Dec (n ≡ t) → n ≤ t → n < t
    by (yes same) le = absurd (differ same)
    by (no other) le = omega arith
older_or t (Shown b) e differ = let le = ltb-false t b.ticket e in lt-ltb b.ticket t (by (ℕ_discrete b.ticket t) le)
  where
    by : Dec (b.ticket ≡ t) → b.ticket ≤ t → b.ticket < t
    by (yes same) le = absurd (differ same)
    by (no other) le = omega arith

module _ (i : ℕ) (a : Announcement) where
  -- a look that is at seat k or has noted another ticket there, for a conflicting range
  at_looked : (asked : Held) (k : ℕ) (seen : Option ℕ) → has_looked i a (At asked k seen) ≡ true
      → ((i < k) ⊎ ((k ≡ i) × (has_other a.ticket seen ≡ true))) × (conflicts asked a.held ≡ true)
  at_looked asked k seen e =
      let both = and_parts (nat_lt i k || ((k == i) && has_other a.ticket seen)) (conflicts asked a.held) e in (
        ⊎_elim (λ lt. inl (ltb-true i k lt))
            (λ here. let parts = and_parts (k == i) (has_other a.ticket seen) here in inr (eqb-true k i parts.0, parts.1))
            (or_cases (nat_lt i k) ((k == i) && has_other a.ticket seen) both.0),
        both.1,
      )

  looked_before : (asked : Held) (k : ℕ) (seen : Option ℕ) → i < k → conflicts asked a.held ≡ true → has_looked i a (At asked k seen) ≡ true
  looked_before asked k seen lt c = and_from (nat_lt i k || ((k == i) && has_other a.ticket seen)) (conflicts asked a.held)
      (or_left (nat_lt i k) ((k == i) && has_other a.ticket seen) (lt-ltb i k lt)) c

  past_by : (seats : ℕ) (asked : Held) (k : ℕ) → i < seats → (b : Bool) → nat_le seats (k + 1) ≡ b
      → has_looked i a (if b then Clear asked else At asked (k + 1) None) ≡ true → (i ≤ k) × (conflicts asked a.held ≡ true)
  past_by seats asked k few true le h = let l = leb-true seats (k + 1) le in (omega arith, h)
  past_by seats asked k few false le h = let at = at_looked asked (k + 1) None h in
      (⊎_elim {C = i ≤ k} (λ lt. omega arith) (λ here. absurd (false≢true here.1)) at.0, at.1)

  -- a look that goes on behind seat k has passed all seats up to it
  past_looked : (seats : ℕ) (asked : Held) (k : ℕ) → i < seats → has_looked i a (past_seat seats asked k) ≡ true
      → (i ≤ k) × (conflicts asked a.held ≡ true)
  past_looked seats asked k few e = past_by seats asked k few (nat_le seats (k + 1)) refl e

  under : (k : ℕ) → i ≤ k → k ≢ i → i < k
  under k le differ = ⊎_elim {C = i < k} (λ same. absurd (differ same)) (λ order. ⊎_elim {C = i < k} (λ lt. absurd (omega arith))
      (λ gt. gt) order) (cases_order k i)

  -- so a look at seat k, which isn't that seat, had looked before
  past_other : (seats : ℕ) (asked : Held) (k : ℕ) (seen : Option ℕ) → i < seats → k ≢ i → has_looked i a (past_seat seats asked k) ≡ true
      → has_looked i a (At asked k seen) ≡ true
  past_other seats asked k seen few differ h = let r = past_looked seats asked k few h in looked_before asked k seen (under k r.0 differ) r.1

  at_other : (asked : Held) (k : ℕ) (seen later : Option ℕ) → k ≢ i → has_looked i a (At asked k later) ≡ true → has_looked i a (At asked k seen) ≡ true
  at_other asked k seen later differ h = let r = at_looked asked k later h in
      looked_before asked k seen (⊎_elim {C = i < k} (λ lt. lt) (λ here. absurd (differ here.0)) r.0) r.1

  noted_by : (seats : ℕ) (asked : Held) (k ticket : ℕ) → i < seats → k ≢ i → (o : Bool)
      → has_looked i a (if o then At asked k (Some ticket) else past_seat seats asked k) ≡ true → has_looked i a (At asked k None) ≡ true
  noted_by seats asked k ticket few differ true h = at_other asked k None (Some ticket) differ h
  noted_by seats asked k ticket few differ false h = past_other seats asked k None few differ h

  -- a look at what another seat has told
  noted_other : (seats : ℕ) (mine : Telling) (asked : Held) (k : ℕ) (told : Telling) → i < seats → k ≢ i
      → has_looked i a (noted seats mine asked k told) ≡ true → has_looked i a (At asked k None) ≡ true
  noted_other seats mine asked k Silent few differ h = past_other seats asked k None few differ h
  noted_other seats mine asked k Counted few differ h = past_other seats asked k None few differ h
  noted_other seats mine asked k (Drawn t) few differ h = past_other seats asked k None few differ h
  noted_other seats mine asked k (Shown b) few differ h = noted_by seats asked k b.ticket few differ (is_older b.ticket mine) h

  judged_by : (seats : ℕ) (asked : Held) (k ticket : ℕ) (b : Announcement) → i < seats → k ≢ i → (o : Bool)
      → has_looked i a (if o then Way asked k b else past_seat seats asked k) ≡ true → has_looked i a (At asked k (Some ticket)) ≡ true
  judged_by seats asked k ticket b few differ true h = absurd (false≢true h)
  judged_by seats asked k ticket b few differ false h = past_other seats asked k (Some ticket) few differ h

  -- a judgement of what another seat has told
  judged_other : (seats : ℕ) (asked : Held) (k ticket : ℕ) (told : Telling) → i < seats → k ≢ i
      → has_looked i a (judged seats asked k ticket told) ≡ true → has_looked i a (At asked k (Some ticket)) ≡ true
  judged_other seats asked k ticket Silent few differ h = past_other seats asked k (Some ticket) few differ h
  judged_other seats asked k ticket Counted few differ h = past_other seats asked k (Some ticket) few differ h
  judged_other seats asked k ticket (Drawn t) few differ h = past_other seats asked k (Some ticket) few differ h
  judged_other seats asked k ticket (Shown b) few differ h =
      judged_by seats asked k ticket b few differ ((b.ticket == ticket) && conflicts asked b.held) h

  not_same : (x y : ℕ) → not (x == y) ≡ true → x ≢ y
  not_same x y e same = false≢true (ap (λ (b : Bool). not b) (sym (eq-eqb x y same)) ∙ e)

  -- the announcement itself is noted by who has no older ticket
  noted_here : (mine : Telling) (asked : Held) (o : Bool) → (o ≡ false → has_older a.ticket mine ≡ true) → (seats k : ℕ) → k ≡ i
      → has_looked i a (if o then At asked k (Some a.ticket) else past_seat seats asked k) ≡ true → has_older a.ticket mine ≡ true
  noted_here mine asked true older seats k same h = let r = at_looked asked k (Some a.ticket) h in
      absurd (⊎_elim {C = ⊥} (λ lt. absurd (omega arith)) (λ here. not_same a.ticket a.ticket here.1 refl) r.0)
  noted_here mine asked false older seats k same h = older refl

  -- and judged by who has noted it
  judged_here : (seats : ℕ) (asked : Held) (k ticket : ℕ) → i < seats → k ≡ i → (o : Bool) → ((a.ticket == ticket) && conflicts asked a.held) ≡ o
      → has_looked i a (if o then Way asked k a else past_seat seats asked k) ≡ true → has_looked i a (At asked k (Some ticket)) ≡ true
  judged_here seats asked k ticket few same true o h = absurd (false≢true h)
  judged_here seats asked k ticket few same false o h = let r = past_looked seats asked k few h in
      let other : (ticket == a.ticket) ≡ false = elim (cases_eq ticket a.ticket) [
        | inl e ↦ absurd (true≢false (sym (and_from (a.ticket == ticket) (conflicts asked a.held) (eq-eqb a.ticket ticket (sym e)) r.1) ∙ o))
        | inr n ↦ ne_eqb ticket a.ticket n
      ] in
      and_from (nat_lt i k || ((k == i) && not (ticket == a.ticket))) (conflicts asked a.held)
      (or_right (nat_lt i k) ((k == i) && not (ticket == a.ticket))
      (and_from (k == i) (not (ticket == a.ticket)) (eq-eqb k i same) (ap (λ (b : Bool). not b) other))) r.1

module _ (i : ℕ) (a : Announcement) (next : ℕ) (tellings : List Telling) (shown : telling_at tellings i ≡ Shown a) (low : a.ticket < next) where
  -- who holds nothing more than before, has no older ticket than before and had looked before
  same_or_less : (p now : Place) (held : Option Held) (telling : Telling) (look : Look)
      → now ≡ record { telling = telling; look = look; held = held } → held ≡ p.held
      → (has_older a.ticket telling ≡ true → (has_older a.ticket p.telling || has_looked i a p.look) ≡ true)
      → (has_looked i a look ≡ true → (has_older a.ticket p.telling || has_looked i a p.look) ≡ true)
      → 0 + weight i a now ≤ weight i a p
  same_or_less p now held telling look is same f g =
      let m = mono (is_none p.held) (has_older a.ticket p.telling || has_looked i a p.look) (has_older a.ticket telling) (has_looked i a look) f g in
      let w : weight i a now ≡ bit (is_none p.held && (has_older a.ticket telling || has_looked i a look)) = ap (weight i a) is
      ∙ ap (λ (h : Option Held). bit (is_none h && (has_older a.ticket telling || has_looked i a look))) same in
      omega arith

  by_older : (p : Place) → has_older a.ticket p.telling ≡ true → (has_older a.ticket p.telling || has_looked i a p.look) ≡ true
  by_older p e = or_left (has_older a.ticket p.telling) (has_looked i a p.look) e

  by_looked : (p : Place) → has_looked i a p.look ≡ true → (has_older a.ticket p.telling || has_looked i a p.look) ≡ true
  by_looked p e = or_right (has_older a.ticket p.telling) (has_looked i a p.look) e

  gained : (o : Bool) (c : Bool) → bit c + 0 ≤ bit (o || c)
  gained true true = omega arith
  gained true false = omega arith
  gained false true = omega arith
  gained false false = omega arith

  -- a step of another seat than the announcer's never raises its weight, and a conflicting grant uses it up
  pub falls : (p : Place) (step : QueueStep) (now : Place) → IsLine next tellings p step now → (HasTicket p.telling a.ticket → ⊥)
      → bit (is_gain_against a.held step) + weight i a now ≤ weight i a p
  falls p Count now line differ = same_or_less p now p.held Counted p.look line.1 refl (λ e. absurd (false≢true e)) (by_looked p)
  falls p Draw now line differ = same_or_less p now p.held (Drawn next) p.look line.1 refl
      (λ e. let lt = ltb-true next a.ticket e in absurd (omega arith)) (by_looked p)
  falls p (Show held) now line differ = same_or_less p now p.held (Shown (record { ticket = line.0; held = held })) p.look line.2 refl
      (λ e. by_older p (ap (has_older a.ticket) line.1 ∙ e)) (by_looked p)
  falls p Hide now line differ = same_or_less p now p.held Counted p.look line.2 refl (λ e. absurd (false≢true e)) (by_looked p)
  falls p Uncount now line differ = same_or_less p now p.held Silent p.look line.1 refl (λ e. absurd (false≢true e)) (by_looked p)
  falls p (Begin asked) now line differ =
      let some_told = shown_there tellings i a shown in
      let at_first : begun tellings asked ≡ At asked 0 None = ap (λ (b : Bool). if b then Clear asked else At asked 0 None) some_told.0 in
      same_or_less p now p.held p.telling (begun tellings asked) line.1 refl (by_older p)
      (λ e. let r = at_looked i a asked 0 None (sym (ap (has_looked i a) at_first) ∙ e) in
      absurd (⊎_elim {C = ⊥} (λ lt. absurd (omega arith)) (λ here. false≢true here.1) r.0))
  falls p Note now line differ =
      let asked : Held = line.0 in let k : ℕ = line.1 in
      let few = (shown_there tellings i a shown).1 in
      same_or_less p now p.held p.telling (noted (length tellings) p.telling asked k (telling_at tellings k)) line.3 refl (by_older p)
      (λ e. dite (ℕ_discrete k i)
      (λ same. by_older p (noted_here i a p.telling asked (is_older a.ticket p.telling) (λ o. older_or a.ticket p.telling o differ) (length tellings) k same
      (sym (ap (λ (t : Telling). has_looked i a (noted (length tellings) p.telling asked k t)) (ap (telling_at tellings) same ∙ shown)) ∙ e)))
      (λ other. by_looked p (ap (has_looked i a) line.2 ∙ noted_other i a (length tellings) p.telling asked k (telling_at tellings k) few other e)))
  falls p Judge now line differ =
      let asked : Held = line.0 in let k : ℕ = line.1 in let ticket : ℕ = line.2 in
      let few = (shown_there tellings i a shown).1 in
      same_or_less p now p.held p.telling (judged (length tellings) asked k ticket (telling_at tellings k)) line.4 refl (by_older p)
      (λ e. by_looked p (ap (has_looked i a) line.3 ∙ dite (ℕ_discrete k i)
      (λ same. judged_here i a (length tellings) asked k ticket few same ((a.ticket == ticket) && conflicts asked a.held) refl
      (sym (ap (λ (t : Telling). has_looked i a (judged (length tellings) asked k ticket t)) (ap (telling_at tellings) same ∙ shown)) ∙ e))
      (λ other. judged_other i a (length tellings) asked k ticket (telling_at tellings k) few other e)))
  falls p (Gain held) now line differ =
      let none : weight i a now ≡ 0 = ap (weight i a) line.2 in
      let was : weight i a p ≡ bit (has_older a.ticket p.telling || conflicts held a.held) =
      ap (λ (h : Option Held). bit (is_none h && (has_older a.ticket p.telling || has_looked i a p.look))) line.0
      ∙ ap (λ (l : Look). bit (has_older a.ticket p.telling || has_looked i a l)) line.1 in
      let g = gained (has_older a.ticket p.telling) (conflicts held a.held) in omega arith
  falls p Give now line differ =
      let none : weight i a now ≡ 0 = ap (weight i a) line.3 ∙ ap (λ (t : Telling). bit (true && (has_older a.ticket t || false))) line.2 in omega arith
