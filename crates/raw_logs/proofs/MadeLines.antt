-- Lists side by side; and texts that change or stay, one by one: with a text more, what is made has one more, and one
-- more is counted where it changes.
use Rattle.std.proofs.Common.{◌≡◌, ◌≢◌, ℕ, ◌+◌, List, [], ◌∷◌, ◌++◌, length, Bool, true, false, not, eqb, Option, Some, None, refl, sym, ap, subst, ◌∙◌}
use Rattle.std.specs.Prelude.{if◌then◌else◌}
use Rattle.std.proofs.lemmas.Bool.{eqb-true, eq-eqb}
use Rattle.std.proofs.lemmas.List.{length-append}
use Rattle.raw_lines.specs.Plain.{IsPlain}
use Rattle.raw_logs.specs.declared.counts.Counts.{Counts}
use Rattle.raw_logs.specs.declared.counts.Sort.{Sort}
use Rattle.raw_logs.specs.declared.counts.Sort.TheVariants.{Stripped, Numbered as OfNumbered}
use Rattle.raw_logs.specs.declared.healing.Changed.{Changed}
use Rattle.raw_logs.specs.declared.numbering.Numbering.{Numbering}
use Rattle.raw_logs.specs.declared.numbering.Numbering.TheVariants.{AsPrinted}
use Rattle.raw_logs.specs.Counting.{no_counts, one_more_of}
use Rattle.raw_logs.specs.Log.{Numbered, line_of, Each, with_change, changed, with_counted, counted_from, IsStripped}
use Rattle.raw_logs.specs.Numbering.{IsRenumbered}
use Rattle.raw_logs.specs.Stages.{IsMade, AreWritten}
use Rattle.raw_logs.proofs.Following.{not_both}
use Rattle.raw_logs.proofs.PlainTexts.{plain_long}

-- ---- lists side by side

-- a pair more
pub each_more : {A B : Type 0} (R : A → B → Type 0) (xs : List A) (ys : List B) (x : A) (y : B) → Each R xs ys → R x y
    → Each R (xs ++ (x ∷ [])) (ys ++ (y ∷ []))
each_more R [] [] x y h r = (r, tt)
each_more R (w ∷ xs) (z ∷ ys) x y h r = (h.0, each_more R xs ys x y h.1 r)
each_more R xs ys x y h r = absurd h

-- where each has the relation to one thing, the list beside it is one
pub each_one : {A B : Type 0} (R : A → B → Type 0) → ((x : A) (y z : B) → R x y → R x z → y ≡ z) → (xs : List A) (ys zs : List B)
    → Each R xs ys → Each R xs zs → ys ≡ zs
each_one R one [] [] [] h g = refl
each_one R one (x ∷ xs) (y ∷ ys) (z ∷ zs) h g = λ i. one x y z h.0 g.0 i ∷ each_one R one xs ys zs h.1 g.1 i
each_one R one [] [] zs h g = absurd g
each_one R one (x ∷ xs) (y ∷ ys) zs h g = absurd g
each_one R one xs ys zs h g = absurd h

-- ---- texts that change or stay

-- a text for each, so that it changes or stays
abbrev pub Changing : Type 1
Changing = Numbered → Option (List ℕ) → Type 0

changed_more : (R : Changing) (lines : List Numbered) (changes : List (Option (List ℕ))) (line : Numbered) (change : Option (List ℕ)) → Each R lines changes
    → changed (lines ++ (line ∷ [])) (changes ++ (change ∷ [])) ≡ changed lines changes ++ (with_change line change ∷ [])
changed_more R [] [] line change h = refl
changed_more R (l ∷ lines) (c ∷ changes) line change h = ap (λ (x : List Numbered). with_change l c ∷ x) (changed_more R lines changes line change h.1)
changed_more R lines changes line change h = absurd h

counted_more : (sort : Sort) (counts : Counts) (changes : List (Option (List ℕ))) (change : Option (List ℕ))
    → counted_from sort counts (changes ++ (change ∷ [])) ≡ with_counted sort change (counted_from sort counts changes)
counted_more sort counts [] change = refl
counted_more sort counts (c ∷ changes) change = counted_more sort (with_counted sort c counts) changes change

-- of no text none is made
pub made_none : (R : Changing) (sort : Sort) (made : List Numbered) (counts : Counts) → made ≡ [] → counts ≡ no_counts → IsMade R sort [] made counts
made_none R sort made counts e f = record { changes = []; each = tt; is = e; count = f }

-- a text more
pub made_more : (R : Changing) (sort : Sort) (texts made next : List Numbered) (counts more : Counts) (line : Numbered) (change : Option (List ℕ))
    → IsMade R sort texts made counts → R line change → next ≡ made ++ (with_change line change ∷ []) → more ≡ with_counted sort change counts
    → IsMade R sort (texts ++ (line ∷ [])) next more
made_more R sort texts made next counts more line change h r e f =
    record {
      changes = h.changes ++ (change ∷ []);
      each = each_more R texts h.changes line change h.each r;
      is = e ∙ ap (λ (x : List Numbered). x ++ (with_change line change ∷ [])) h.is ∙ sym (changed_more R texts h.changes line change h.each);
      count = f ∙ ap (with_counted sort change) h.count ∙ sym (counted_more sort no_counts h.changes change);
    }

-- a text is made plain
pub plain_added : (number : ℕ) (text front end : List ℕ) (changes : Bool) (texts made next : List Numbered) (counts more : Counts)
    → IsMade IsStripped Stripped texts made counts → IsPlain text (front ++ end)
    → changes ≡ not (eqb (length front + length end) (length text)) → next ≡ made ++ (line_of number (front ++ end) ∷ [])
    → more ≡ (if changes then one_more_of Stripped counts else counts) → IsMade IsStripped Stripped (texts ++ (line_of number text ∷ [])) next more
plain_added number text front end changes texts made next counts more h p c e f = by (eqb (length front + length end) (length text)) refl
  where
    by : (same : Bool) → eqb (length front + length end) (length text) ≡ same → IsMade IsStripped Stripped (texts ++ (line_of number text ∷ [])) next more
    by true same =
        let is : front ++ end ≡ text = plain_long text (front ++ end) p (length-append front end ∙ eqb-true _ _ same) in
        let stays : IsPlain text text = subst (IsPlain text) is p in
        made_more IsStripped Stripped texts made next counts more (line_of number text) None h stays
        (e ∙ ap (λ (x : List ℕ). made ++ (line_of number x ∷ [])) is)
        (f ∙ ap (λ (b : Bool). if b then one_more_of Stripped counts else counts) (c ∙ ap not same))
    by false same =
        let other : front ++ end ≢ text = λ is. not_both _ (eq-eqb _ _ (sym (length-append front end) ∙ ap length is)) same in
        made_more IsStripped Stripped texts made next counts more (line_of number text) (Some (front ++ end)) h (p, other) e
        (f ∙ ap (λ (b : Bool). if b then one_more_of Stripped counts else counts) (c ∙ ap not same))

-- a text that is written is made plain and numbered
pub written_added : (number : ℕ) (text front end : List ℕ) (old middle next : Changed) (texts : List Numbered) → AreWritten old texts
    → IsPlain text (front ++ end)
    → middle.plain ≡ (if not (eqb (length front + length end) (length text)) then one_more_of Stripped old.plain else old.plain)
    → middle.lines ≡ old.lines → middle.numbered ≡ old.numbered → middle.numbering ≡ old.numbering
    → ((plain : List Numbered) → IsMade (IsRenumbered middle.numbering) OfNumbered plain middle.lines middle.numbered
    → IsMade (IsRenumbered middle.numbering) OfNumbered (plain ++ (line_of number (front ++ end) ∷ [])) next.lines next.numbered)
    → next.plain ≡ middle.plain → next.numbering ≡ middle.numbering → AreWritten next (texts ++ (line_of number text ∷ []))
written_added number text front end old middle next texts h p c l m n made q o =
    record {
      plain = h.plain ++ (line_of number (front ++ end) ∷ []);
      made = plain_added number text front end (not (eqb (length front + length end) (length text))) texts h.plain
          (h.plain ++ (line_of number (front ++ end) ∷ [])) old.plain next.plain h.made p refl refl (q ∙ c);
      numbers = subst (λ (x : Numbering). IsMade (IsRenumbered x) OfNumbered (h.plain ++ (line_of number (front ++ end) ∷ [])) next.lines next.numbered) (sym o)
          (made h.plain
          (subst (λ (x : Numbering). IsMade (IsRenumbered x) OfNumbered h.plain middle.lines middle.numbered) (sym n)
          (subst (λ (x : List Numbered). IsMade (IsRenumbered old.numbering) OfNumbered h.plain x middle.numbered) (sym l)
          (subst (λ (x : Counts). IsMade (IsRenumbered old.numbering) OfNumbered h.plain old.lines x) (sym m) h.numbers))));
    }

-- no number changes as it is printed
printed_as : (plain : List Numbered) (changes : List (Option (List ℕ))) → Each (IsRenumbered AsPrinted) plain changes → changed plain changes ≡ plain
printed_as [] [] h = refl
printed_as (line ∷ plain) (None ∷ changes) h = ap (λ (x : List Numbered). line ∷ x) (printed_as plain changes h.1)
printed_as (line ∷ plain) (Some text ∷ changes) h = absurd h.0
printed_as plain changes h = absurd h

-- so the texts are the plain ones
pub printed_plain : (made : Changed) (texts : List Numbered) (w : AreWritten made texts) → made.numbering ≡ AsPrinted → made.lines ≡ w.plain
printed_plain made texts w e =
    let n : IsMade (IsRenumbered AsPrinted) OfNumbered w.plain made.lines made.numbered =
    subst (λ (x : Numbering). IsMade (IsRenumbered x) OfNumbered w.plain made.lines made.numbered) e w.numbers in
    n.is ∙ printed_as w.plain n.changes n.each
