-- What is counted before the writing: none of the stages before it counts a line as unread. So with the sum of all
-- counts no line is unread where the writing left none.
use Rattle.std.proofs.Common.{◌≡◌, ℕ, ◌+◌, List, [], ◌∷◌, ◌++◌, length, Option, Some, None, Bool, true, false, refl, ap, ◌∙◌, arith}
use Rattle.std.specs.Prelude.{if◌then◌else◌}
use Rattle.raw_logs.specs.declared.counts.Counts.{Counts}
use Rattle.raw_logs.specs.declared.counts.Sort.{Sort}
use Rattle.raw_logs.specs.declared.counts.Sort.TheVariants.{Stripped, Numbered as OfNumbered, Elsewhere, Earlier, Untold}
use Rattle.raw_logs.specs.Counting.{no_counts, both, one_more_of}
use Rattle.raw_logs.specs.Log.{Numbered, goes_on, LineKind, LeftIn, Healed, nothing_healed, is_gap, with_kind, healed_from, healed}
use Rattle.raw_logs.specs.Log.{counted_from, count_changes}
use Rattle.raw_logs.specs.declared.told.Form.{Form}
use Rattle.raw_logs.specs.declared.told.Form.TheVariants.{Whole}
use Rattle.raw_logs.specs.declared.told.Told.{Told}
use Rattle.raw_logs.specs.Choosing.{Picked, hides, with_own, is_blank, with_line, picked, picked_of}
use Rattle.raw_logs.specs.Spaces.{made_from, has_line}
use Rattle.raw_logs.specs.Reading.{IsNumberedLog, AreTexts}

kind_unread : (number : ℕ) (line : List ℕ) (kind : LineKind) (h : Healed) → h.counts.unread ≡ 0 → (with_kind number line kind h).counts.unread ≡ 0
kind_unread number line LeftIn h e = by (is_gap h.part line)
  where
    by : (gap : Bool) → (if gap then h else record h { texts = h.texts ++ (goes_on h.part number line ∷ []); part = None }).counts.unread ≡ 0
    by true = e
    by false = e
kind_unread number line kind h e = e

-- the lines of a log are read with none
pub healed_unread : (number : ℕ) (h : Healed) (lines : List (List ℕ)) (kinds : List LineKind) → h.counts.unread ≡ 0
    → (healed_from number h lines kinds).counts.unread ≡ 0
healed_unread number h (line ∷ lines) (kind ∷ kinds) e =
    healed_unread (number + 1) (with_kind number line kind h) lines kinds (kind_unread number line kind h e)
healed_unread number h lines kinds e = e

-- texts change with none
pub changes_unread : (sort : Sort) → ((c : Counts) → (one_more_of sort c).unread ≡ c.unread) → (counts : Counts) (changes : List (Option (List ℕ)))
    → counts.unread ≡ 0 → (counted_from sort counts changes).unread ≡ 0
changes_unread sort other counts [] e = e
changes_unread sort other counts (None ∷ changes) e = changes_unread sort other counts changes e
changes_unread sort other counts (Some text ∷ changes) e = changes_unread sort other (one_more_of sort counts) changes (other counts ∙ e)

-- nor has a sum any unread line where neither of two counts has
pub both_unread : (a b : Counts) → a.unread ≡ 0 → b.unread ≡ 0 → (both a b).unread ≡ 0
both_unread a b e f = omega (arith, e, f)

-- a whole log is read with none
pub log_unread : (bytes : List ℕ) (whole : List Numbered) (c : Counts) → IsNumberedLog bytes whole c → c.unread ≡ 0
log_unread bytes whole c n =
    ap (λ (x : Counts). x.unread) n.sum
    ∙ both_unread (healed n.lines n.kinds).counts (both (count_changes Stripped n.stripped) (count_changes OfNumbered n.renumbered))
    (healed_unread 1 nothing_healed n.lines n.kinds refl)
    (both_unread (count_changes Stripped n.stripped) (count_changes OfNumbered n.renumbered)
    (changes_unread Stripped (λ k. refl) no_counts n.stripped refl) (changes_unread OfNumbered (λ k. refl) no_counts n.renumbered refl))

with_line_unread : (here : Bool) (line : Numbered) (told : Told) (p : Picked) → p.counts.unread ≡ 0 → (with_line here line told p).counts.unread ≡ 0
with_line_unread here line told p h = by (is_blank told.form) here p.ended told.form
  where
    own : (form : Form) → (with_own form line told.making p).counts.unread ≡ 0
    own Whole = whole (hides told.making)
      where
        whole : (b : Bool) → (if b then one_more_of Untold p.counts else p.counts).unread ≡ 0
        whole true = h
        whole false = h
    own form = h

    by : (blank here ended : Bool) (form : Form) → (if blank then p
        else if here then (if ended then record p { counts = one_more_of Earlier p.counts } else with_own form line told.making p)
        else record p { counts = one_more_of Elsewhere p.counts }).counts.unread ≡ 0
    by false true false form = own form
    by blank here ended form = h

picked_unread : (here : ℕ → Told → Bool) (place : ℕ) (lines : List Numbered) (tolds : List Told) → (picked here place lines tolds).counts.unread ≡ 0
picked_unread here place (line ∷ lines) (told ∷ tolds) =
    with_line_unread (here place told) line told (picked here (place + 1) lines tolds) (picked_unread here (place + 1) lines tolds)
picked_unread here place lines tolds = refl

-- the texts that are written are read with none
pub texts_unread : (process : Option ℕ) (bytes : List ℕ) (chosen : List Numbered) (c : Counts) → AreTexts process bytes chosen c → c.unread ≡ 0
texts_unread process bytes chosen c t =
    let r = t.1 in
    ap (λ (x : Counts). x.unread) (t.3 ∙ ap (λ (x : Picked). x.counts) r.is)
    ∙ both_unread r.before (picked_of process r.whole r.tolds).counts (log_unread bytes r.whole r.before r.numbered)
    (picked_unread (has_line process (made_from 0 r.tolds) (length r.tolds)) 0 r.whole r.tolds)
