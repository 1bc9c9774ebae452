-- The machine's test for a conflict, and what a seat meets that gives way.
use Rattle.std.proofs.Common.{◌≡◌, ℕ, ◌+◌, Bool, true, false, length, sym, refl, ap, ◌∙◌, inl, inr, ⊎_elim}
use Rattle.std.specs.Prelude.{None, ◌==◌, ◌&&◌, ◌||◌, nat_lt, nat_le, if◌then◌else◌}
use Rattle.std.proofs.lemmas.Bool.{ltb-true, lt-ltb, and_parts, and_from, or_cases, or_left, or_right}
use Rattle.lock_core.specs.Grants.{Conflicts}
use Rattle.lock_core.specs.declared.range.Mode.{Mode}
use Rattle.lock_core.specs.declared.range.Mode.TheVariants.{Reader, Writer}
use Rattle.lock_core.specs.declared.range.Held.{Held}
use Rattle.queue_laws.specs.declared.places.Announcement.{Announcement}
use Rattle.queue_laws.specs.declared.places.Telling.{Telling}
use Rattle.queue_laws.specs.declared.places.Telling.TheVariants.{Silent, Counted, Drawn, Shown}
use Rattle.queue_laws.specs.declared.places.Look.TheVariants.{At, Clear, Way}
use Rattle.queue_laws.specs.Machine.{Place, is_writer, conflicts, telling_at, past_seat, judged}
use Rattle.queue_laws.specs.Laws.{ConflictsAreExact, GivesWayToWhatStands}

writes : (m : Mode) → is_writer m ≡ true → m ≡ Writer
writes Writer e = refl
writes Reader e = absurd cc

-- what passes the test conflicts
pub conflicts_true : (g h : Held) → conflicts g h ≡ true → Conflicts g h
conflicts_true g h e =
    let ends = and_parts (nat_lt g.range.lo h.range.hi && nat_lt h.range.lo g.range.hi) (is_writer g.mode || is_writer h.mode) e in
    let both = and_parts (nat_lt g.range.lo h.range.hi) (nat_lt h.range.lo g.range.hi) ends.0 in (
      (ltb-true g.range.lo h.range.hi both.0, ltb-true h.range.lo g.range.hi both.1),
      ⊎_elim (λ w. inl (writes g.mode w)) (λ w. inr (writes h.mode w)) (or_cases (is_writer g.mode) (is_writer h.mode) ends.1),
    )

-- what conflicts passes the test
pub conflicts_from : (g h : Held) → Conflicts g h → conflicts g h ≡ true
conflicts_from g h c = and_from (nat_lt g.range.lo h.range.hi && nat_lt h.range.lo g.range.hi) (is_writer g.mode || is_writer h.mode)
    (and_from (nat_lt g.range.lo h.range.hi) (nat_lt h.range.lo g.range.hi) (lt-ltb g.range.lo h.range.hi c.0.0) (lt-ltb h.range.lo g.range.hi c.0.1))
    (⊎_elim (λ w. or_left (is_writer g.mode) (is_writer h.mode) (ap is_writer w)) (λ w. or_right (is_writer g.mode) (is_writer h.mode) (ap is_writer w)) c.1)

pub conflicts_are_exact_law : ConflictsAreExact
conflicts_are_exact_law g h = (conflicts_true g h, conflicts_from g h)

-- a look that goes on gives no way
goes_on : (b : Bool) (asked : Held) (k : ℕ) (by : Held) (j : ℕ) (a : Announcement) → (if b then Clear asked else At asked (k + 1) None) ≡ Way by j a → ⊥
goes_on true asked k by j a e = absurd cc
goes_on false asked k by j a e = absurd cc

judged_way : (seats : ℕ) (asked : Held) (k ticket : ℕ) (told : Telling) (by : Held) (j : ℕ) (a : Announcement) → judged seats asked k ticket told ≡ Way by j a
    → (asked ≡ by) × (k ≡ j) × (told ≡ Shown a) × (conflicts asked a.held ≡ true)
judged_way seats asked k ticket Silent by j a e = absurd (goes_on (nat_le seats (k + 1)) asked k by j a e)
judged_way seats asked k ticket Counted by j a e = absurd (goes_on (nat_le seats (k + 1)) asked k by j a e)
judged_way seats asked k ticket (Drawn t) by j a e = absurd (goes_on (nat_le seats (k + 1)) asked k by j a e)
judged_way seats asked k ticket (Shown b) by j a e = cases ((b.ticket == ticket) && conflicts asked b.held) refl e
  where
    cases : (o : Bool) → ((b.ticket == ticket) && conflicts asked b.held) ≡ o → (if o then Way asked k b else past_seat seats asked k) ≡ Way by j a
        → (asked ≡ by) × (k ≡ j) × (Shown b ≡ Shown a) × (conflicts asked a.held ≡ true)
    cases true o w = let same : b ≡ a = cc in (
      cc,
      cc,
      ap (λ (x : Announcement). Shown x) same,
      ap (λ (x : Announcement). conflicts asked x.held) (sym same) ∙ (and_parts (b.ticket == ticket) (conflicts asked b.held) o).1,
    )
    cases false o w = absurd (goes_on (nat_le seats (k + 1)) asked k by j a w)

pub gives_way_law : GivesWayToWhatStands
gives_way_law next tellings p now asked k a line way =
    let e : judged (length tellings) line.0 line.1 line.2 (telling_at tellings line.1) ≡ Way asked k a = sym (ap (λ (x : Place). x.look) line.4) ∙ way in
    let r = judged_way (length tellings) line.0 line.1 line.2 (telling_at tellings line.1) asked k a e in
    (ap (telling_at tellings) (sym r.1) ∙ r.2, conflicts_true asked a.held (ap (λ (h : Held). conflicts h a.held) (sym r.0) ∙ r.3))
