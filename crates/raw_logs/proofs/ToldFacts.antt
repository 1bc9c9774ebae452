-- A text tells one thing, and so do lines.
use Rattle.std.proofs.Common.{◌≡◌, ℕ, List, ◌∷◌, length, Bool, true, false, refl, sym, ap, subst, ◌∙◌, arith}
use Rattle.std.specs.Bool.{Decides}
use Rattle.strace_reader.proofs.FormFacts.{cut_same}
use Rattle.raw_lines.specs.declared.makers.Making.{Making}
use Rattle.raw_lines.specs.Makers.{IsMaking}
use Rattle.raw_lines.proofs.MakerFacts.{making_one}
use Rattle.raw_logs.specs.declared.told.Form.{Form}
use Rattle.raw_logs.specs.declared.told.Form.TheVariants.{Blank, Unknown, Long, TooLong, Whole}
use Rattle.raw_logs.specs.declared.told.Told.{Told}
use Rattle.raw_logs.specs.Log.{Numbered}
use Rattle.raw_logs.specs.Told.{IsForm, Tells, AreTold, all_told, line_told}

form_one : (text body : List ℕ) (a b : Form) → IsForm text body a → IsForm text body b → a ≡ b
form_one text body Blank Blank h g = refl
form_one text body Unknown Unknown h g = refl
form_one text body Long Long h g = refl
form_one text body TooLong TooLong h g = refl
form_one text body Whole Whole h g = refl
form_one text body Blank b h g = absurd (g.0 h)
form_one text body a Blank h g = absurd (h.0 g)
form_one text body Unknown b h g = absurd (h.1 g.1)
form_one text body a Unknown h g = absurd (g.1 h.1)
form_one text body Long TooLong h g = absurd (h.3 g.3)
form_one text body TooLong Long h g = absurd (g.3 h.3)
form_one text body a b h g = let x = h.2 in let y = g.2 in absurd (omega arith)

decides_one : (a b : Bool) (P : Type 0) → Decides a P → Decides b P → a ≡ b
decides_one true b P h g = sym (g.1 (h.0 refl))
decides_one false true P h g = h.1 (g.0 refl)
decides_one false false P h g = refl

-- a text tells one thing
pub tells_one : (text : List ℕ) (a b : Told) → Tells text a → Tells text b → a ≡ b
tells_one text a b h g =
    let c = cut_same text a.pid b.pid h.0 g.0 h.1 g.1 in
    let m : a.making ≡ b.making = making_one g.0 a.making b.making (subst (λ (x : List ℕ). IsMaking x a.making) c.1 h.2) g.2 in
    let f : a.form ≡ b.form = form_one text g.0 a.form b.form (subst (λ (x : List ℕ). IsForm text x a.form) c.1 h.3) g.3 in
    let k : a.marked ≡ b.marked = decides_one a.marked b.marked _ h.4 g.4 in
    ap (λ (x : ℕ). record { pid = x; making = a.making; form = a.form; marked = a.marked }) c.0
    ∙ ap (λ (x : Making). record { pid = b.pid; making = x; form = a.form; marked = a.marked }) m
    ∙ ap (λ (x : Form). record { pid = b.pid; making = b.making; form = x; marked = a.marked }) f
    ∙ ap (λ (x : Bool). record { pid = b.pid; making = b.making; form = b.form; marked = x }) k

-- lines tell one thing each
pub told_one : (lines : List Numbered) (a b : List Told) → AreTold lines a → AreTold lines b → a ≡ b
told_one lines a b all_told all_told = refl
told_one lines a b (line_told {line = l} {lines = ls} {told = t} {tolds = ts} h more) (line_told {told = u} {tolds = us} g other) =
    ap (λ (x : Told). x ∷ ts) (tells_one l.text t u h g) ∙ ap (λ (x : List Told). u ∷ x) (told_one ls ts us more other)

-- each line tells one
pub told_length : (lines : List Numbered) (tolds : List Told) → AreTold lines tolds → length tolds ≡ length lines
told_length lines tolds all_told = refl
told_length lines tolds (line_told {lines = ls} {tolds = ts} h more) = let k = told_length ls ts more in omega (arith, k)
