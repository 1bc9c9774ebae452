-- A text has one verdict: the log is cut in one way, its right lines have one list of entries, and a line that fails is
-- none that is right.
use Rattle.std.proofs.Common.{◌≡◌, ℕ, ◌+◌, ◌<◌, List, ◌∷◌, ◌++◌, length, refl, sym, ap, ◌∙◌, subst, inl, inr, arith}
use Rattle.std.proofs.lemmas.Bool.{cases_lt}
use Rattle.std.proofs.lemmas.Option.{slice_get_within}
use Rattle.space_model.specs.declared.areas.Area.{Area}
use Rattle.space_model.specs.declared.entries.Entry.{Entry}
use Rattle.history_check.specs.declared.verdict.WrongLog.{WrongLog}
use Rattle.history_check.specs.declared.verdict.WrongLog.TheVariants.{Form, Number, Order, Held, Reply, Rest}
use Rattle.history_check.specs.declared.verdict.Verdict.{Verdict}
use Rattle.history_check.specs.declared.verdict.Verdict.TheVariants.{Legal, Wrong}
use Rattle.history_check.specs.Logs.{IsLogAndRest, AreRight, AreRestLines, IsGoodLog}
use Rattle.history_check.specs.Verdicts.{FailsAs, FailsInLog, FailsAt, FailsInRest, IsVerdict}
use Rattle.history_check.specs.Checking.{FailsLine}
use Rattle.history_check.proofs.Cutting.{GoesOn, in_log, one_cut, one_entry, one_right, places, right_split}
use Rattle.history_check.proofs.Cutting.Places.{one_place, first_earlier, first_later}

-- ---- a line of the log

-- an entry that goes on rightly fails as nothing
goes_on_well : (A : List Area) (front : List (List ℕ)) (text : List ℕ) (es : List Entry) (e : Entry) (g : GoesOn A front text es e) (why : WrongLog)
    → FailsAs g.state es e why → ⊥
goes_on_well A front text es e g Form f = f
goes_on_well A front text es e g Number f = f g.place.number
goes_on_well A front text es e g Order f = f.1 g.place.order
goes_on_well A front text es e g Held f = f.2 g.step.0
goes_on_well A front text es e g Reply f = f.3 g.next g.step.1
goes_on_well A front text es e g Rest f = f

-- a line that fails behind right ones is no right line there
pub no_right_line : (A : List Area) (front : List (List ℕ)) (text : List ℕ) (more : List (List ℕ)) (es all : List Entry) (state B : List Area) (why : WrongLog)
    → AreRight A front es state → FailsLine state es text why → AreRight A (front ++ text ∷ more) all B → ⊥
no_right_line A front text more es all state B why r fails right =
    let split = right_split A front text more all B right in let g = split.2 in let one = one_right A front es split.0 state g.state r g.right in elim fails [
      | inl none ↦ none.1 split.1 g.line
      | inr some ↦ goes_on_well A front text split.0 split.1 g why (subst (λ e. FailsAs g.state split.0 e why) (one_entry text some.0 split.1 some.1 g.line)
          (subst (λ xs. FailsAs g.state xs some.0 why) one.0 (subst (λ X. FailsAs X es some.0 why) one.1 some.2)))
    ]

-- an entry fails for one cause
one_failure : (B : List Area) (es : List Entry) (e : Entry) (why other : WrongLog) → FailsAs B es e why → FailsAs B es e other → why ≡ other
one_failure B es e Form other f g = absurd f
one_failure B es e Rest other f g = absurd f
one_failure B es e why Form f g = absurd g
one_failure B es e why Rest f g = absurd g
one_failure B es e Number Number f g = refl
one_failure B es e Number other f g = absurd (f g.0)
one_failure B es e why Number f g = absurd (g f.0)
one_failure B es e Order Order f g = refl
one_failure B es e Order other f g = absurd (f.1 g.1)
one_failure B es e why Order f g = absurd (g.1 f.1)
one_failure B es e Held Reply f g = absurd (f.2 g.2)
one_failure B es e Reply Held f g = absurd (g.2 f.2)
one_failure B es e why other f g = refl

-- so does a line
one_cause : (B : List Area) (es : List Entry) (text : List ℕ) (why other : WrongLog) → FailsLine B es text why → FailsLine B es text other → why ≡ other
one_cause B es text why other (inl a) (inl b) = a.0 ∙ sym b.0
one_cause B es text why other (inl a) (inr b) = absurd (a.1 b.0 b.1)
one_cause B es text why other (inr a) (inl b) = absurd (b.1 a.0 a.1)
one_cause B es text why other (inr a) (inr b) =
    let one = one_entry text a.0 b.0 a.1 b.1 in one_failure B es b.0 why other (subst (λ e. FailsAs B es e why) one a.2) b.2

-- a text fails at one line of its log, for one cause
one_wrong_line : (A : List Area) (lines : List (List ℕ)) (line other : ℕ) (why cause : WrongLog) → FailsInLog A lines line why → FailsInLog A lines other cause
    → Wrong line why ≡ Wrong other cause
one_wrong_line A lines line other why cause a b = elim (places a.front a.text a.behind b.front b.text b.behind (sym a.whole ∙ b.whole)) [
  | one_place front text ↦
      let right = subst (λ ls. AreRight A ls a.entries a.state) front a.right in
      let one = one_right A b.front a.entries b.entries a.state b.state right b.right in
      let fails = subst (λ t. FailsLine b.state b.entries t why) text
      (subst (λ xs. FailsLine b.state xs a.text why) one.0 (subst (λ X. FailsLine X a.entries a.text why) one.1 a.fails)) in
      let place : line ≡ other = a.place ∙ ap (λ ls. length ls + 1) front ∙ sym b.place in
      let why_is = one_cause b.state b.entries b.text why cause fails b.fails in λ i. Wrong (place i) (why_is i)
  | first_earlier more is ↦ absurd (no_right_line A a.front a.text more a.entries b.entries a.state b.state why a.right a.fails
      (subst (λ ls. AreRight A ls b.entries b.state) is b.right))
  | first_later more is ↦ absurd (no_right_line A b.front b.text more b.entries a.entries b.state a.state cause b.right b.fails
      (subst (λ ls. AreRight A ls a.entries a.state) is a.right))
]

-- a log whose lines are right fails at none of them
no_wrong_line : (A : List Area) (lines log rest : List (List ℕ)) (es : List Entry) (B : List Area) (line : ℕ) (why : WrongLog) → IsLogAndRest lines log rest
    → AreRight A log es B → FailsInLog A lines line why → ⊥
no_wrong_line A lines log rest es B line why cut right f =
    let within = in_log log rest f.front f.text f.behind (sym cut.whole ∙ f.whole) cut.ended f.log_lines in
    no_right_line A f.front f.text within.0 f.entries es f.state B why f.right f.fails (subst (λ ls. AreRight A ls es B) within.1 right)

-- ---- the rest

-- a rest fails at no place before one where it fails
not_before : (B : List Area) (rest : List (List ℕ)) (c d : ℕ) → FailsAt B rest c → FailsAt B rest d → c < d → ⊥
not_before B rest c d f g below = elim f.fails [
  | inl other ↦ other.2 (g.before c other.0 below other.1)
  | inr ended ↦ elim g.fails [
    | inl at ↦ let within = slice_get_within rest d at.0 at.1 in omega (arith, below, ended.0, within)
    | inr end ↦ omega (arith, below, ended.0, end.0)
  ]
]

one_failing : (B : List Area) (rest : List (List ℕ)) (c d : ℕ) → FailsAt B rest c → FailsAt B rest d → c ≡ d
one_failing B rest c d f g = elim (cases_lt c d) [
  | inl below ↦ absurd (not_before B rest c d f g below)
  | inr from ↦ elim (cases_lt d c) [ inl below ↦ absurd (not_before B rest d c g f below) | inr to ↦ omega (arith, from, to) ]
]

-- a whole rest fails nowhere
whole_fails_not : (B : List Area) (rest : List (List ℕ)) (c : ℕ) → AreRestLines B rest (length rest) × (length B < length rest) → FailsAt B rest c → ⊥
whole_fails_not B rest c w f = elim f.fails [
  | inl other ↦ other.2 (w.0 c other.0 (slice_get_within rest c other.0 other.1) other.1)
  | inr ended ↦ let long = w.1 in omega (arith, ended.0, ended.1, long)
]

-- the rest of a good log doesn't fail
good_rest : (A : List Area) (lines : List (List ℕ)) (es : List Entry) (line : ℕ) → IsGoodLog A lines es → FailsInRest A lines line → ⊥
good_rest A lines es line g f =
    let cuts = one_cut g.log g.rest f.log f.rest (sym g.cut.whole ∙ f.cut.whole) g.cut.log_lines f.cut.log_lines g.cut.ended f.cut.ended in
    let right = subst (λ ls. AreRight A ls es g.last) cuts.0 g.right in let one = one_right A f.log es f.entries g.last f.last right f.right in elim g.whole [
      | inl none ↦ f.some_rest (sym cuts.1 ∙ none)
      | inr whole ↦ whole_fails_not f.last f.rest f.count (subst (λ X. AreRestLines X f.rest (length f.rest) × (length X < length f.rest)) one.1
          (subst (λ ls. AreRestLines g.last ls (length ls) × (length g.last < length ls)) cuts.1 whole)) f.fails
    ]

-- a rest fails at one line
one_rest_line : (A : List Area) (lines : List (List ℕ)) (line other : ℕ) → FailsInRest A lines line → FailsInRest A lines other → line ≡ other
one_rest_line A lines line other f g =
    let cuts = one_cut f.log f.rest g.log g.rest (sym f.cut.whole ∙ g.cut.whole) f.cut.log_lines g.cut.log_lines f.cut.ended g.cut.ended in
    let right = subst (λ ls. AreRight A ls f.entries f.last) cuts.0 f.right in
    let one = one_right A g.log f.entries g.entries f.last g.last right g.right in
    let fails = subst (λ X. FailsAt X g.rest f.count) one.1 (subst (λ ls. FailsAt f.last ls f.count) cuts.1 f.fails) in
    let count = one_failing g.last g.rest f.count g.count fails g.fails in
    let long : length f.log ≡ length g.log = ap length cuts.0 in omega (arith, f.place, g.place, count, long)

-- ---- verdicts

-- a good log has one list of entries
one_good : (A : List Area) (lines : List (List ℕ)) (es fs : List Entry) → IsGoodLog A lines es → IsGoodLog A lines fs → es ≡ fs
one_good A lines es fs g h =
    let cuts = one_cut g.log g.rest h.log h.rest (sym g.cut.whole ∙ h.cut.whole) g.cut.log_lines h.cut.log_lines g.cut.ended h.cut.ended in
    (one_right A h.log es fs g.last h.last (subst (λ ls. AreRight A ls es g.last) cuts.0 g.right) h.right).0

-- the three sorts of verdicts
data Sort (A : List Area) (lines : List (List ℕ)) (v : Verdict) : Type 0 where
  good : (es : List Entry) → v ≡ Legal (length es) → IsGoodLog A lines es → Sort A lines v
  in_line : (line : ℕ) (why : WrongLog) → v ≡ Wrong line why → FailsInLog A lines line why → Sort A lines v
  in_rest : (line : ℕ) → v ≡ Wrong line Rest → FailsInRest A lines line → Sort A lines v

sort_of : (A : List Area) (lines : List (List ℕ)) (v : Verdict) → IsVerdict A lines v → Sort A lines v
sort_of A lines (Legal n) h = good h.0 (ap Legal h.2) h.1
sort_of A lines (Wrong line Rest) h = in_rest line refl h
sort_of A lines (Wrong line why) h = in_line line why refl h

one_of_sorts : (A : List Area) (lines : List (List ℕ)) (v w : Verdict) → Sort A lines v → Sort A lines w → v ≡ w
one_of_sorts A lines v w (good es e g) (good fs f h) = e ∙ ap (λ xs. Legal (length xs)) (one_good A lines es fs g h) ∙ sym f
one_of_sorts A lines v w (good es e g) (in_line line why f h) = absurd (no_wrong_line A lines g.log g.rest es g.last line why g.cut g.right h)
one_of_sorts A lines v w (good es e g) (in_rest line f h) = absurd (good_rest A lines es line g h)
one_of_sorts A lines v w (in_line line why e g) (good fs f h) = absurd (no_wrong_line A lines h.log h.rest fs h.last line why h.cut h.right g)
one_of_sorts A lines v w (in_line line why e g) (in_line other cause f h) = e ∙ one_wrong_line A lines line other why cause g h ∙ sym f
one_of_sorts A lines v w (in_line line why e g) (in_rest other f h) = absurd (no_wrong_line A lines h.log h.rest h.entries h.last line why h.cut h.right g)
one_of_sorts A lines v w (in_rest line e g) (good fs f h) = absurd (good_rest A lines fs line h g)
one_of_sorts A lines v w (in_rest line e g) (in_line other cause f h) = absurd (no_wrong_line A lines g.log g.rest g.entries g.last other cause g.cut g.right h)
one_of_sorts A lines v w (in_rest line e g) (in_rest other f h) = e ∙ ap (λ n. Wrong n Rest) (one_rest_line A lines line other g h) ∙ sym f

-- a text has one verdict
pub one_verdict : (A : List Area) (lines : List (List ℕ)) (v w : Verdict) → IsVerdict A lines v → IsVerdict A lines w → v ≡ w
one_verdict A lines v w a b = one_of_sorts A lines v w (sort_of A lines v a) (sort_of A lines w b)
