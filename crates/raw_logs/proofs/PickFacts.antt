-- What is picked of lines, one line more at a time, from the last one on; and the lines that are written, from the
-- first one on.
use Rattle.std.proofs.Common.{◌≡◌, ◌≢◌, append_assoc, ℕ, zero, suc, ◌+◌, ◌<◌, ◌≤◌, List, [], ◌∷◌, ◌++◌, length, drop, get_or, Bool, true, false, refl, sym, ap, subst, ◌∙◌, arith}
use Rattle.std.proofs.lemmas.List.{drop_all, append-nil}
use Rattle.std.specs.Prelude.{if◌then◌else◌}
use Rattle.std.proofs.lemmas.List.Elements.{All-append, All-cons, All-nil}
use Rattle.raw_logs.specs.declared.choosing.Picker.{Picker}
use Rattle.raw_logs.specs.declared.told.Form.{Form}
use Rattle.raw_logs.specs.declared.told.Form.TheVariants.{Whole}
use Rattle.raw_logs.specs.declared.told.Told.{Told}
use Rattle.raw_logs.specs.Choosing.{Picked, with_line, picked}
use Rattle.raw_logs.specs.Log.{Numbered}
use Rattle.raw_logs.specs.Stages.{seen, written, keeps, kept, kept_from, HasPicked, AreShort}
use Rattle.raw_logs.specs.Told.{IsForm, Tells, AreTold, all_told, line_told}
use Rattle.raw_logs.proofs.ToldFacts.{tells_one}

-- a text that is taken as it is is short
whole_short : (text : List ℕ) (told : Told) → Tells text told → told.form ≡ Whole → length text ≤ 65535
whole_short text told h e = by told.form h.3 e
  where
    by : (form : Form) → IsForm text h.0 form → form ≡ Whole → length text ≤ 65535
    by Whole f e = f.2
    by form f e = absurd cc

-- so lines with it are short
pub short_behind : (lines next : List Numbered) (line : Numbered) (told : Told) → Tells line.text told → told.form ≡ Whole → AreShort lines
    → next ≡ lines ++ (line ∷ []) → AreShort next
short_behind lines next line told t w h e =
    let P : Numbered → Type 0 = (λ (x : Numbered). length x.text ≤ 65535) in
    subst AreShort (sym e) (All-append P lines (line ∷ []) h (All-cons P line [] (whole_short line.text told t w) (All-nil P)))

-- no line is too long
pub none_short : (lines : List Numbered) → lines ≡ [] → AreShort lines
none_short lines e = subst AreShort (sym e) (All-nil (λ (x : Numbered). length x.text ≤ 65535))

-- what the line at a place tells is told there
pub told_at : (lines : List Numbered) (tolds : List Told) (place : ℕ) (line : Numbered) (told : Told) → AreTold lines tolds → place < length lines
    → line ≡ get_or lines place line → Tells line.text told → drop place tolds ≡ told ∷ drop (place + 1) tolds
told_at lines tolds place line told h l e t = by lines tolds place h l e ∙ ap (λ (n : ℕ). told ∷ drop n tolds) (sym (next place))
  where
    next : (n : ℕ) → n + 1 ≡ suc n
    next n = omega arith

    by : (lines : List Numbered) (tolds : List Told) (place : ℕ) → AreTold lines tolds → place < length lines → line ≡ get_or lines place line
        → drop place tolds ≡ told ∷ drop (suc place) tolds
    by lines tolds place all_told l e = absurd (omega (arith, l))
    by lines tolds zero (line_told {line = x} {told = u} {tolds = us} is more) l e =
        ap (λ (y : Told). y ∷ us) (tells_one x.text u told is (subst (λ (y : Numbered). Tells y.text told) e t))
    by lines tolds (suc place) (line_told {lines = xs} {tolds = us} is more) l e = by xs us place more (omega (arith, l)) e

-- a line more is looked at, before those that were
pub look_step : (here_of : ℕ → Told → Bool) (lines : List Numbered) (tolds : List Told) (place : ℕ) (line : Numbered) (told : Told) (here is : Bool)
    (old new : Picker) → HasPicked here_of lines tolds (place + 1) old → drop place lines ≡ line ∷ drop (place + 1) lines
    → drop place tolds ≡ told ∷ drop (place + 1) tolds → here ≡ here_of place told
    → ((others : List Numbered) → seen (written is line others) new ≡ with_line here line told (seen others old))
    → (old.ended ≡ false → (is ≡ keeps told.form here) × (new.start ≡ place))
    → (old.ended ≡ true → (is ≡ false) × (new.start ≡ old.start) × (new.ended ≡ true)) → HasPicked here_of lines tolds place new
look_step here_of lines tolds place line told here is old new h dl dt e added begins ends = by old.ended refl
  where
    all : Picked
    all = picked here_of place (drop place lines) (drop place tolds)

    unfolds : all ≡ with_line here line told (picked here_of (place + 1) (drop (place + 1) lines) (drop (place + 1) tolds))
    unfolds = ap (λ (x : List Numbered). picked here_of place x (drop place tolds)) dl
        ∙ ap (λ (x : List Told). picked here_of place (line ∷ drop (place + 1) lines) x) dt
        ∙ ap (λ (b : Bool). with_line b line told (picked here_of (place + 1) (drop (place + 1) lines) (drop (place + 1) tolds))) (sym e)

    picks : (others : List Numbered) → others ≡ kept_from here_of old.start lines tolds → seen (written is line others) new ≡ all
    picks others same = added others ∙ ap (λ (x : List Numbered). with_line here line told (seen x old)) same
        ∙ ap (with_line here line told) h.is ∙ sym unfolds

    by : (b : Bool) → old.ended ≡ b → HasPicked here_of lines tolds place new
    by true f =
        let s = ends f in
        record {
          is = ap (λ (x : List Numbered). seen x new) (ap (λ (n : ℕ). kept_from here_of n lines tolds) s.1
              ∙ ap (λ (b : Bool). written b line (kept_from here_of old.start lines tolds)) (sym s.0))
              ∙ picks (kept_from here_of old.start lines tolds) refl;
          at = λ never. absurd cc;
        }
    by false f =
        let s = begins f in
        let from : kept_from here_of place lines tolds ≡ written is line (kept_from here_of (place + 1) lines tolds) =
        ap (λ (x : List Numbered). kept here_of place x (drop place tolds)) dl
        ∙ ap (λ (x : List Told). kept here_of place (line ∷ drop (place + 1) lines) x) dt
        ∙ ap (λ (b : Bool). written (keeps told.form b) line (kept_from here_of (place + 1) lines tolds)) (sym e)
        ∙ ap (λ (b : Bool). written b line (kept_from here_of (place + 1) lines tolds)) (sym s.0) in
        record {
          is = ap (λ (x : List Numbered). seen x new) (ap (λ (n : ℕ). kept_from here_of n lines tolds) s.1 ∙ from)
              ∙ picks (kept_from here_of (place + 1) lines tolds) (ap (λ (n : ℕ). kept_from here_of n lines tolds) (sym (h.at f)));
          at = λ ended. s.1;
        }

-- no line was looked at
pub look_none : (here_of : ℕ → Told → Bool) (lines : List Numbered) (tolds : List Told) (place : ℕ) (picker : Picker) → length lines ≤ place
    → seen [] picker ≡ picked here_of place [] (drop place tolds) → picker.start ≡ place → HasPicked here_of lines tolds place picker
look_none here_of lines tolds place picker l e s =
    let none : drop place lines ≡ [] = drop_all place lines l in
    record {
      is = ap (λ (n : ℕ). seen (kept_from here_of n lines tolds) picker) s
          ∙ ap (λ (x : List Numbered). seen (kept here_of place x (drop place tolds)) picker) none ∙ e
          ∙ ap (λ (x : List Numbered). picked here_of place x (drop place tolds)) (sym none);
      at = λ ended. s;
    }

-- the place from which on lines are written is one of theirs, or behind the last one
pub start_within : (ended : Bool) (old place count new : ℕ) → new ≡ (if ended then old else place) → old ≤ count → place ≤ count → new ≤ count
start_within true old place count new e a b = omega (arith, e, a)
start_within false old place count new e a b = omega (arith, e, b)

-- ---- the lines that are written

-- a line more
pub kept_more : (here_of : ℕ → Told → Bool) (lines done next whole : List Numbered) (tolds : List Told) (place : ℕ)
    (line : Numbered) (told : Told) (here : Bool) → done ++ kept_from here_of place lines tolds ≡ whole → drop place lines ≡ line ∷ drop (place + 1) lines
    → drop place tolds ≡ told ∷ drop (place + 1) tolds → here ≡ here_of place told
    → ((others : List Numbered) → next ++ others ≡ done ++ written (keeps told.form here) line others)
    → next ++ kept_from here_of (place + 1) lines tolds ≡ whole
kept_more here_of lines done next whole tolds place line told here h dl dt e added =
    added (kept_from here_of (place + 1) lines tolds)
    ∙ ap (λ (b : Bool). done ++ written (keeps told.form b) line (kept_from here_of (place + 1) lines tolds)) e
    ∙ ap (λ (x : List Told). done ++ kept here_of place (line ∷ drop (place + 1) lines) x) (sym dt)
    ∙ ap (λ (x : List Numbered). done ++ kept here_of place x (drop place tolds)) (sym dl) ∙ h

-- a line that is taken as it is, of the space, is kept, and another isn't
pub keeps_whole : (form : Form) (here : Bool) → form ≡ Whole → here ≡ true → keeps form here ≡ true
keeps_whole form here e f = ap (λ (x : Form). keeps x here) e ∙ f

pub keeps_none : (form : Form) (here : Bool) → ¬ ((form ≡ Whole) × (here ≡ true)) → keeps form here ≡ false
keeps_none Whole true n = absurd (n (refl, refl))
keeps_none form here n = refl

-- so what is kept has it behind
pub passed_kept : (old new : List Numbered) (line : Numbered) (rest : List Numbered) (is : Bool) → is ≡ true → new ≡ old ++ (line ∷ [])
    → new ++ rest ≡ old ++ written is line rest
passed_kept old new line rest is e f =
    ap (λ (x : List Numbered). x ++ rest) f ∙ append_assoc old (line ∷ []) rest ∙ ap (λ (b : Bool). old ++ written b line rest) (sym e)

pub passed_skipped : (old new : List Numbered) (line : Numbered) (rest : List Numbered) (is : Bool) → is ≡ false → new ≡ old
    → new ++ rest ≡ old ++ written is line rest
passed_skipped old new line rest is e f = ap (λ (x : List Numbered). x ++ rest) f ∙ ap (λ (b : Bool). old ++ written b line rest) (sym e)

-- a list with a line isn't empty
pub some_left : (lines : List Numbered) (line : Numbered) (more : List Numbered) → lines ≡ line ∷ more → lines ≢ []
some_left lines line more e none = absurd cc

-- no line is left
pub kept_all : (here_of : ℕ → Told → Bool) (lines done whole : List Numbered) (tolds : List Told) (place : ℕ) → length lines ≤ place
    → done ++ kept_from here_of place lines tolds ≡ whole → done ≡ whole
kept_all here_of lines done whole tolds place l h =
    sym (append-nil done) ∙ ap (λ (x : List Numbered). done ++ kept here_of place x (drop place tolds)) (sym (drop_all place lines l)) ∙ h
