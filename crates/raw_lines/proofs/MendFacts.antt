-- A refused line is mended in one way: the forms of the mends exclude each other, and each gives one line.
use Rattle.std.proofs.Common.{◌≡◌, ◌≢◌, ◌⊎◌, ℕ, suc, ◌+◌, ◌-◌, ◌<◌, ◌≤◌, List, [], ◌∷◌, ◌++◌, length, take, drop, codes, Bool, true, false, Ok, Err, refl, sym}
use Rattle.std.proofs.Common.{ap, subst, ◌∙◌, append_assoc, inl, inr, arith, length-take-le}
use Rattle.std.proofs.lemmas.Bool.{cases_lt}
use Rattle.std.proofs.lemmas.Bool.Decides.{nat_tests}
use Rattle.std.proofs.lemmas.List.{append_cancel_left, append_cancel_right, length-append}
use Rattle.line_parts.specs.declared.refusal.What.{What}
use Rattle.line_parts.specs.declared.refusal.What.TheVariants.{Number, Comma, Word, Result as AtResult}
use Rattle.line_parts.specs.declared.refusal.Refusal.{Refusal}
use Rattle.line_parts.specs.Reading.{run_at, digits_end}
use Rattle.line_parts.proofs.LineLemmas.{all_behind}
use Rattle.memchr.specs.Find.{OccursAt}
use Rattle.raw_lines.proofs.Searches.{at_word, word_at}
use Rattle.raw_lines.proofs.FieldFacts.{run_each}
use Rattle.raw_lines.proofs.RunFacts.{run_took, run_refused, run_none, digits_took, digits_refused}
use Rattle.line_parts.specs.Parts.{starts}
use Rattle.line_parts.specs.Leaves.{IsRun, is_capital, is_word_byte, is_digit}
use Rattle.line_parts.proofs.Leaves.{same_run, not_both, capital_is_word}
use Rattle.line_parts.proofs.Sequence.{alike_same}
use Rattle.strace_reader.specs.declared.item.BadCall.{BadCall}
use Rattle.strace_reader.specs.declared.item.Item.{Item}
use Rattle.strace_reader.specs.Grammar.{EndsWith, IsCut, Spells, Refuses, RefusesBody}
use Rattle.strace_reader.proofs.OneOutcome.{one_outcome}
use Rattle.strace_reader.proofs.FormFacts.{cut_same, cut_length}
use Rattle.raw_lines.specs.Mends.{Mends, MendsDetached, MendsDeleted, MendsWord, MendsNegative, MendsLong, MendsError, AreMends, is_read, one_mend, AreOfOne}
use Rattle.raw_lines.specs.Mends.{IsWhole, detached, deleted, never_returned}

-- two texts of one whole whose fronts are as long are the same in both parts
pub same_cut : (f g a b : List ℕ) → f ++ a ≡ g ++ b → length f ≡ length g → (f ≡ g) × (a ≡ b)
same_cut [] [] a b e l = (refl, e)
same_cut [] (x ∷ g) a b e l = absurd (omega arith)
same_cut (x ∷ f) [] a b e l = absurd (omega arith)
same_cut (x ∷ f) (y ∷ g) a b e l =
    let t : f ++ a ≡ g ++ b = cc in let h : x ≡ y = cc in let r = same_cut f g a b t (omega arith) in (ap (λ z. x ∷ z) r.0 ∙ ap (λ z. z ∷ g) h, r.1)

-- two runs at one place, each to its end, are one
run_same : (first later : ℕ → Bool) → ((b : ℕ) → first b ≡ true → later b ≡ true) → (p q r s : List ℕ) → IsRun first later p → IsRun first later q
    → starts later r ≡ false → starts later s ≡ false → p ++ r ≡ q ++ s → (p ≡ q) × (r ≡ s)
run_same first later weaker p q r s hp hq nr ns e =
    let k : p ≡ q = same_run later s p q r s (run_each first later weaker p hp) (run_each first later weaker q hq) nr ns e (alike_same s) in
    (k, append_cancel_left p r s (e ∙ ap (λ x. x ++ s) (sym k)))

deleted_length : (front back more : List ℕ) → front ≡ back ++ more → length back ≤ length front
deleted_length front back more e = let k = ap length e ∙ length-append back more in omega arith

deleted_same : (text : List ℕ) (bad : BadCall) (a b : List ℕ) → MendsDeleted text bad a → MendsDeleted text bad b → a ≡ b
deleted_same text bad a b h g =
    let one = h.5 g.0 g.1 g.4 in let two = g.5 h.0 h.1 h.4 in let l = deleted_length g.0 h.0 one.0 one.1 in
    let m = deleted_length h.0 g.0 two.0 two.1 in
    let c = same_cut h.0 g.0 (deleted ++ h.1) (deleted ++ g.1) (sym h.4 ∙ g.4) (omega arith) in
    let k : h.1 ≡ g.1 = append_cancel_left deleted h.1 g.1 c.1 in h.6 ∙ ap (λ x. x ++ (codes ">," ++ h.1)) c.0 ∙ ap (λ x. g.0 ++ (codes ">," ++ x)) k ∙ sym g.6

-- a run behind a sign, where the refusal stands behind that sign, is mended: a word, or digits
abbrev pub MendsAt : (ℕ → Bool) → (ℕ → Bool) → List ℕ → What → List ℕ → BadCall → List ℕ → Type 0
MendsAt first later sign due text bad mended = (front run back : List ℕ) × (bad.what ≡ due) × (bad.column ≡ length front + (length sign + 1))
    × IsRun first later run × (starts later back ≡ false) × (text ≡ front ++ (sign ++ (run ++ back))) × (mended ≡ front ++ (codes "-1" ++ back))

at_same : (first later : ℕ → Bool) → ((b : ℕ) → first b ≡ true → later b ≡ true) → (sign : List ℕ) (due : What) (text : List ℕ) (bad : BadCall) (a b : List ℕ)
    → MendsAt first later sign due text bad a → MendsAt first later sign due text bad b → a ≡ b
at_same first later weaker sign due text bad a b h g =
    let l : length h.0 ≡ length g.0 = let x = h.4 in let y = g.4 in omega arith in
    let c = same_cut h.0 g.0 (sign ++ (h.1 ++ h.2)) (sign ++ (g.1 ++ g.2)) (sym h.7 ∙ g.7) l in
    let k = run_same first later weaker h.1 g.1 h.2 g.2 h.5 g.5 h.6 g.6 (append_cancel_left sign (h.1 ++ h.2) (g.1 ++ g.2) c.1) in
    h.8 ∙ ap (λ x. x ++ (codes "-1" ++ h.2)) c.0 ∙ ap (λ x. g.0 ++ (codes "-1" ++ x)) k.1 ∙ sym g.8

error_same : (text : List ℕ) (bad : BadCall) (a b : List ℕ) → MendsError text bad a → MendsError text bad b → a ≡ b
error_same text bad a b h g =
    let l : length h.0 ≡ length g.0 = let x = h.3 in let y = g.3 in omega arith in
    let c = same_cut h.0 g.0 (codes "-1 (errno " ++ h.1) (codes "-1 (errno " ++ g.1) (sym h.4 ∙ g.4) l in
    let k : h.1 ≡ g.1 = append_cancel_left (codes "-1 (errno ") h.1 g.1 c.1 in
    h.5 ∙ ap (λ x. x ++ (codes "-1 UNKNOWN (errno " ++ h.1)) c.0 ∙ ap (λ x. g.0 ++ (codes "-1 UNKNOWN (errno " ++ x)) k ∙ sym g.5

capital_no_digit : (b : ℕ) → is_capital b ≡ true → is_digit b ≡ false
capital_no_digit b h = grind (arith, nat_tests)

capital_or_digit : (w b d c : List ℕ) → IsRun is_capital is_word_byte w → IsRun is_digit is_digit d → w ++ b ≡ d ++ c → ⊥
capital_or_digit [] b d c hw hd e = absurd hw
capital_or_digit (x ∷ w) b [] c hw hd e = absurd hd
capital_or_digit (x ∷ w) b (y ∷ d) c hw hd e = let k : x ≡ y = cc in not_both (ap is_digit k ∙ hd.0) (capital_no_digit x hw.0)

word_or_negative : (text : List ℕ) (bad : BadCall) (a b : List ℕ) → MendsWord text bad a → MendsNegative text bad b → ⊥
word_or_negative text bad a b h g =
    let x = h.4 in let y = g.4 in let l = length-append g.0 (codes "-") in
    let c = same_cut h.0 (g.0 ++ codes "-") (h.1 ++ h.2) (g.1 ++ g.2) (sym h.7 ∙ g.7 ∙ sym (append_assoc g.0 (codes "-") (g.1 ++ g.2))) (omega arith) in
    capital_or_digit h.1 h.2 g.1 g.2 h.5 g.5 c.1

some_bytes : (first later : ℕ → Bool) (text : List ℕ) → IsRun first later text → 0 < length text
some_bytes first later [] h = absurd h
some_bytes first later (b ∷ text) h = omega arith

deleted_or_long : (text : List ℕ) (bad : BadCall) (a b : List ℕ) → MendsDeleted text bad a → MendsLong text bad b → ⊥
deleted_or_long text bad a b h g = let x = h.3 in let y = g.4 in let l = ap length g.7 ∙ length-append g.0 (codes "-1" ++ (g.1 ++ g.2)) in
    let m = length-append g.1 g.2 in let n = some_bytes is_digit is_digit g.1 g.5 in omega arith

-- the forms of mends but for the first
abbrev AtPlace : List ℕ → BadCall → List ℕ → Type 0
AtPlace text bad mended = MendsDeleted text bad mended ⊎ (MendsWord text bad mended ⊎ (MendsNegative text bad mended
    ⊎ (MendsLong text bad mended ⊎ MendsError text bad mended)))

abbrev what_at : (text : List ℕ) (bad : BadCall) (mended : List ℕ) → AtPlace text bad mended → (w : What) × (bad.what ≡ w)
what_at text bad mended (inl h) = (Comma, h.2)
what_at text bad mended (inr (inl h)) = (Number, h.3)
what_at text bad mended (inr (inr (inl h))) = (Number, h.3)
what_at text bad mended (inr (inr (inr (inl h)))) = (Comma, h.3)
what_at text bad mended (inr (inr (inr (inr h)))) = (AtResult, h.2)

at_place_same : (text : List ℕ) (bad : BadCall) (a b : List ℕ) → AtPlace text bad a → AtPlace text bad b → a ≡ b
at_place_same text bad a b (inl h) (inl g) = deleted_same text bad a b h g
at_place_same text bad a b (inl h) (inr (inr (inr (inl g)))) = absurd (deleted_or_long text bad a b h g)
at_place_same text bad a b (inr (inl h)) (inr (inl g)) = at_same is_capital is_word_byte capital_is_word [] Number text bad a b h g
at_place_same text bad a b (inr (inl h)) (inr (inr (inl g))) = absurd (word_or_negative text bad a b h g)
at_place_same text bad a b (inr (inr (inl h))) (inr (inl g)) = absurd (word_or_negative text bad b a g h)
at_place_same text bad a b (inr (inr (inl h))) (inr (inr (inl g))) = at_same is_digit is_digit (λ b i. i) (codes "-") Number text bad a b h g
at_place_same text bad a b (inr (inr (inr (inl h)))) (inl g) = absurd (deleted_or_long text bad b a g h)
at_place_same text bad a b (inr (inr (inr (inl h)))) (inr (inr (inr (inl g)))) = at_same is_digit is_digit (λ b i. i) (codes "-1") Comma text bad a b h g
at_place_same text bad a b (inr (inr (inr (inr h)))) (inr (inr (inr (inr g)))) = error_same text bad a b h g
at_place_same text bad a b (inr (inl h)) (inr (inr (inr (inl g)))) = let e : Number ≡ Comma = sym h.3 ∙ g.3 in absurd cc
at_place_same text bad a b (inr (inl h)) (inr (inr (inr (inr g)))) = let e : Number ≡ AtResult = sym h.3 ∙ g.2 in absurd cc
at_place_same text bad a b (inr (inr (inl h))) (inr (inr (inr (inl g)))) = let e : Number ≡ Comma = sym h.3 ∙ g.3 in absurd cc
at_place_same text bad a b (inr (inr (inl h))) (inr (inr (inr (inr g)))) = let e : Number ≡ AtResult = sym h.3 ∙ g.2 in absurd cc
at_place_same text bad a b h g = absurd (let e = sym (what_at text bad a h).1 ∙ (what_at text bad b g).1 in cc)

-- a refused line has one mend
pub mends_same : (text : List ℕ) (bad : BadCall) (a b : List ℕ) → Mends text bad a → Mends text bad b → a ≡ b
mends_same text bad a b (inl h) (inl g) =
    let k : h.0 ≡ g.0 = append_cancel_right h.0 g.0 detached (sym h.1 ∙ g.1) in h.2 ∙ ap (λ x. x ++ never_returned) k ∙ sym g.2
mends_same text bad a b (inl h) (inr g) = absurd (g.0 (h.0, h.1))
mends_same text bad a b (inr h) (inl g) = absurd (h.0 (g.0, g.1))
mends_same text bad a b (inr h) (inr g) = at_place_same text bad a b h.1 g.1

at_place_no : (text : List ℕ) (bad : BadCall) → ((m : List ℕ) → MendsDeleted text bad m → ⊥) → ((m : List ℕ) → MendsWord text bad m → ⊥)
    → ((m : List ℕ) → MendsNegative text bad m → ⊥) → ((m : List ℕ) → MendsLong text bad m → ⊥) → ((m : List ℕ) → MendsError text bad m → ⊥)
    → (mended : List ℕ) → AtPlace text bad mended → ⊥
at_place_no text bad b d e f g mended (inl h) = b mended h
at_place_no text bad b d e f g mended (inr (inl h)) = d mended h
at_place_no text bad b d e f g mended (inr (inr (inl h))) = e mended h
at_place_no text bad b d e f g mended (inr (inr (inr (inl h)))) = f mended h
at_place_no text bad b d e f g mended (inr (inr (inr (inr h)))) = g mended h

-- ---- one mend, as it is made

-- where no mend of a call that was let go applies, the line doesn't end as one
pub not_detached : (text : List ℕ) → ((mended : List ℕ) → MendsDetached text mended → ⊥) → EndsWith detached text → ⊥
not_detached text none h = none (h.0 ++ never_returned) (h.0, h.1, refl)

prefix_longer : (f g a b : List ℕ) → f ++ a ≡ g ++ b → length f ≤ length g → (more : List ℕ) × (g ≡ f ++ more)
prefix_longer [] g a b e l = (g, refl)
prefix_longer (x ∷ f) [] a b e l = absurd (omega arith)
prefix_longer (x ∷ f) (y ∷ g) a b e l =
    let t : f ++ a ≡ g ++ b = cc in let h : x ≡ y = cc in let r = prefix_longer f g a b t (omega arith) in (r.0, ap (λ z. z ∷ g) (sym h) ∙ ap (λ z. x ∷ z) r.1)

no_nearer : (text shorter more : List ℕ) (k : ℕ) → ((j : ℕ) → 0 ≤ j → j < k → OccursAt text deleted j → ⊥) → text ≡ shorter ++ (deleted ++ more)
    → k ≤ length shorter
no_nearer text shorter more k none e = elim (cases_lt (length shorter) k) [
  | inl lt ↦ absurd (none (length shorter) (omega arith) lt (word_at text deleted shorter more e))
  | inr le ↦ le
]

-- the word behind the path of a deleted file is mended where it is found first
pub deleted_yes : (text : List ℕ) (bad : BadCall) (k : ℕ) → bad.what ≡ Comma → bad.column ≡ length text + 1 → OccursAt text deleted k
    → ((j : ℕ) → 0 ≤ j → j < k → OccursAt text deleted j → ⊥)
    → MendsDeleted text bad (take k text ++ (codes ">," ++ take (length text - (k + 11)) (drop (k + 11) text)))
deleted_yes text bad k w c at none =
    let back = drop (k + 11) text in let e : text ≡ take k text ++ (deleted ++ back) = at_word text deleted k at in
    let fits : k + 11 ≤ length text = at.fits in
    let l : length (take k text) ≡ k = length-take-le k text (omega arith) in (
      take k text,
      back,
      w,
      c,
      e,
      λ shorter more s. prefix_longer (take k text) shorter (deleted ++ back) (deleted ++ more) (sym e ∙ s)
          (let n = no_nearer text shorter more k none s in omega arith),
      ap (λ x. take k text ++ (codes ">," ++ x)) (all_behind (k + 11) text),
    )

-- where it is found nowhere, nothing is mended so
pub deleted_no : (text : List ℕ) (bad : BadCall) → ((j : ℕ) → 0 ≤ j → j < length text + 1 → OccursAt text deleted j → ⊥)
    → (mended : List ℕ) → MendsDeleted text bad mended → ⊥
deleted_no text bad none mended h =
    let l = ap length h.4 ∙ length-append h.0 (deleted ++ h.1) in none (length h.0) (omega arith) (omega arith) (word_at text deleted h.0 h.1 h.4)

-- a part of a text behind a place, by what stands before it
place_same : (text before rest f word b : List ℕ) → text ≡ before ++ rest → text ≡ f ++ (word ++ b) → length before ≡ length f + length word
    → (before ≡ f ++ word) × (rest ≡ b)
place_same text before rest f word b e h l = same_cut before (f ++ word) rest b (sym e ∙ h ∙ sym (append_assoc f word b)) (l ∙ sym (length-append f word))

-- a word at the place of the refusal is mended
pub word_yes : (text front rest w back : List ℕ) (bad : BadCall) → bad.what ≡ Number → text ≡ front ++ rest → length front ≡ bad.column - 1
    → 1 ≤ bad.column → run_at is_capital is_word_byte Word rest ≡ Ok (w, back) → MendsWord text bad (front ++ (codes "-1" ++ back))
word_yes text front rest w back bad n e l c read =
    let r = run_took is_capital is_word_byte Word 65 refl rest w back read in (front, w, back, n, omega arith, r.0, r.2, e ∙ ap (λ x. front ++ x) r.1, refl)

-- where none stands there, nothing is mended so
pub word_no : (text front rest : List ℕ) (bad : BadCall) (f : Refusal) → text ≡ front ++ rest → length front ≡ bad.column - 1
    → 1 ≤ bad.column → run_at is_capital is_word_byte Word rest ≡ Err f → (mended : List ℕ) → MendsWord text bad mended → ⊥
word_no text front rest bad f e l c read mended h = let p = h.4 in let k = same_cut front h.0 rest (h.1 ++ h.2) (sym e ∙ h.7) (omega arith) in
    run_none is_capital is_word_byte rest h.1 h.2 (run_refused is_capital is_word_byte Word 65 refl rest f read) h.5 k.1

-- digits behind a sign at the place of the refusal are mended
pub digits_yes : (sign : List ℕ) (due : What) (text before front rest back : List ℕ) (bad : BadCall) → bad.what ≡ due → text ≡ before ++ rest
    → length before ≡ bad.column - 1 → 1 ≤ bad.column → before ≡ front ++ sign → digits_end due rest ≡ Ok (tt, back)
    → MendsAt is_digit is_digit sign due text bad (front ++ (codes "-1" ++ back))
digits_yes sign due text before front rest back bad n e l c s read = let d = digits_took due rest back read in let k = ap length s ∙ length-append front sign in
    (front, d.0, back, n, omega arith, d.1, d.3, e ∙ ap (λ x. x ++ rest) s ∙ append_assoc front sign rest ∙ ap (λ x. front ++ (sign ++ x)) d.2, refl)

digits_parts : (sign : List ℕ) (due : What) (text before rest : List ℕ) (bad : BadCall) (mended : List ℕ) → text ≡ before ++ rest
    → length before ≡ bad.column - 1 → (h : MendsAt is_digit is_digit sign due text bad mended) → (before ≡ h.0 ++ sign) × (rest ≡ h.1 ++ h.2)
digits_parts sign due text before rest bad mended e l h = let p = h.4 in place_same text before rest h.0 sign (h.1 ++ h.2) e h.7 (omega arith)

-- where the sign doesn't stand before the place, nothing is mended so
pub digits_no_sign : (sign : List ℕ) (due : What) (text before rest : List ℕ) (bad : BadCall) → text ≡ before ++ rest → length before ≡ bad.column - 1
    → ((front : List ℕ) → before ≢ front ++ sign) → (mended : List ℕ) → MendsAt is_digit is_digit sign due text bad mended → ⊥
digits_no_sign sign due text before rest bad e l none mended h = none h.0 (digits_parts sign due text before rest bad mended e l h).0

-- where no digit stands there, neither
pub digits_no : (sign : List ℕ) (due : What) (text before rest : List ℕ) (bad : BadCall) (f : Refusal) → text ≡ before ++ rest
    → length before ≡ bad.column - 1 → digits_end due rest ≡ Err f → (mended : List ℕ) → MendsAt is_digit is_digit sign due text bad mended → ⊥
digits_no sign due text before rest bad f e l read mended h =
    run_none is_digit is_digit rest h.1 h.2 (digits_refused due rest f read) h.5 (digits_parts sign due text before rest bad mended e l h).1

error_parts : (text before rest : List ℕ) (bad : BadCall) (mended : List ℕ) → text ≡ before ++ rest → length before ≡ bad.column - 1
    → (h : MendsError text bad mended) → (before ≡ h.0 ++ codes "-1 ") × (rest ≡ codes "(errno " ++ h.1)
error_parts text before rest bad mended e l h =
    let p = h.3 in let k : length before ≡ length h.0 + 3 = omega arith in place_same text before rest h.0 (codes "-1 ") (codes "(errno " ++ h.1) e h.4 k

-- where -1 and a space don't stand before the place, nothing is mended so
pub error_no_sign : (text before rest : List ℕ) (bad : BadCall) → text ≡ before ++ rest → length before ≡ bad.column - 1
    → ((front : List ℕ) → before ≢ front ++ codes "-1 ") → (mended : List ℕ) → MendsError text bad mended → ⊥
error_no_sign text before rest bad e l none mended h = none h.0 (error_parts text before rest bad mended e l h).0

-- where no such number stands there, neither
pub error_no : (text before rest : List ℕ) (bad : BadCall) → text ≡ before ++ rest → length before ≡ bad.column - 1
    → ((back : List ℕ) → rest ≢ codes "(errno " ++ back) → (mended : List ℕ) → MendsError text bad mended → ⊥
error_no text before rest bad e l none mended h = none h.1 (error_parts text before rest bad mended e l h).1

-- where no form of the mends applies, none does
pub mends_no : (text : List ℕ) (bad : BadCall) → ((m : List ℕ) → MendsDetached text m → ⊥) → ((m : List ℕ) → MendsDeleted text bad m → ⊥)
    → ((m : List ℕ) → MendsWord text bad m → ⊥) → ((m : List ℕ) → MendsNegative text bad m → ⊥) → ((m : List ℕ) → MendsLong text bad m → ⊥)
    → ((m : List ℕ) → MendsError text bad m → ⊥) → (mended : List ℕ) → Mends text bad mended → ⊥
mends_no text bad a b d e f g mended (inl h) = a mended h
mends_no text bad a b d e f g mended (inr h) = at_place_no text bad b d e f g mended h.1

-- a refusal is at a place of the line or just behind it
pub refused_place : (text : List ℕ) (bad : BadCall) → Refuses text bad → (bad.column ≤ length text + 1) × (1 ≤ bad.column)
unfolding Refuses RefusesBody
refused_place text bad h =
    let at = h.5 in let body = h.4 in let inner = body.4 in let place = body.3.place in let within = cut_length text h.0 h.1 h.3 in (omega arith, omega arith)

-- ---- several mends

-- a line that is read as a whole is mended no more
pub mends_of_whole : (k : ℕ) (text final : List ℕ) (item : Item) → Spells text item → AreMends k text final → final ≡ text
mends_of_whole k text final item s (is_read found t w) = refl
mends_of_whole k text final item s (one_mend bad r m more) = absurd ((one_outcome text).never_both item bad s r)

-- a line that is read as a half isn't mended
pub mends_of_half : (k : ℕ) (text final : List ℕ) (item : Item) → Spells text item → (IsWhole item → ⊥) → AreMends k text final → ⊥
mends_of_half k text final item s half (is_read found t w) = half (subst IsWhole ((one_outcome text).item found item t s) w)
mends_of_half k text final item s half (one_mend bad r m more) = (one_outcome text).never_both item bad s r

-- a refused line isn't read without a mend
pub mends_of_none : (text final : List ℕ) (bad : BadCall) → Refuses text bad → AreMends 0 text final → ⊥
mends_of_none text final bad r (is_read item s w) = (one_outcome text).never_both item bad s r

-- a refused line is mended at the place where it was refused first
pub mends_first : (k : ℕ) (text final : List ℕ) (bad : BadCall) → Refuses text bad → AreMends (suc k) text final
    → (next : List ℕ) × Mends text bad next × AreMends k next final
mends_first k text final bad r (is_read item s w) = absurd ((one_outcome text).never_both item bad s r)
mends_first k text final bad r (one_mend {next = next} other q m more) =
    let e = (one_outcome text).refusal other bad q r in (next, subst (λ x. Mends text x next) e m, more)

-- and then as the line with that mend
pub mends_on : (i : ℕ) (text next final : List ℕ) (bad : BadCall) → i < 3 → Refuses text bad → Mends text bad next
    → AreMends (3 - i) text final → AreMends (3 - (i + 1)) next final
mends_on i text next final bad below r m h =
    let e : 3 - i ≡ suc (3 - (i + 1)) = omega arith in
    let k = mends_first (3 - (i + 1)) text final bad r (subst (λ x. AreMends x text final) e h) in
    subst (λ x. AreMends (3 - (i + 1)) x final) (mends_same text bad k.0 next k.1 m) k.2

-- the same from the line with that mend
pub mends_back : (i : ℕ) (text next final : List ℕ) (bad : BadCall) → i < 3 → Refuses text bad → Mends text bad next
    → AreMends (3 - (i + 1)) next final → AreMends (3 - i) text final
mends_back i text next final bad below r m h = let e : suc (3 - (i + 1)) ≡ 3 - i = omega arith in subst (λ x. AreMends x text final) e (one_mend bad r m h)

-- where no mend is of this refusal, a refused line isn't mended
pub mends_none : (i : ℕ) (text final : List ℕ) (bad : BadCall) → i < 3 → Refuses text bad → ((next : List ℕ) → Mends text bad next → ⊥)
    → AreMends (3 - i) text final → ⊥
mends_none i text final bad below r none h = let e : 3 - i ≡ suc (3 - (i + 1)) = omega arith in
    let k = mends_first (3 - (i + 1)) text final bad r (subst (λ x. AreMends x text final) e h) in none k.0 k.1

-- a line becomes one line by mends
pub all_mends_same : (k : ℕ) (text a b : List ℕ) → AreMends k text a → AreMends k text b → a ≡ b
all_mends_same k text a b (is_read item s w) h = sym (mends_of_whole k text b item s h)
all_mends_same k text a b (one_mend bad r m more) (is_read item s w) = absurd ((one_outcome text).never_both item bad s r)
all_mends_same k text a b (one_mend {k = j} {next = next} bad r m more) (one_mend {next = other} worse q n rest) =
    let e = (one_outcome text).refusal worse bad q r in
    let same : other ≡ next = mends_same text bad other next (subst (λ x. Mends text x other) e n) m in
    all_mends_same j next a b more (subst (λ x. AreMends j x b) same rest)

-- a mend of the line that was read, as it was made
pub turn_mends : (line slice next made : List ℕ) (bad : BadCall) → slice ≡ line → Mends slice bad made → next ≡ made → Mends line bad next
turn_mends line slice next made bad e m n = subst (λ x. Mends x bad next) e (subst (λ x. Mends slice bad x) (sym n) m)

-- ---- the process of a mended line

-- two lines that are of one process have the same number
pub one_process : (text other : List ℕ) (p q : ℕ) (body behind : List ℕ) → IsCut text p body → IsCut other q behind → AreOfOne text other → p ≡ q
one_process text other p q body behind h g is = (cut_same text p is.0 body is.1 h is.3).0 ∙ (cut_same other is.0 q is.2 behind is.4 g).0
