use Rattle.std.proofs.Common.{◌≡◌, ℕ, List, [], ◌∷◌, ◌++◌, Bool, Some, sym, ap, ◌∙◌}
use Rattle.std.specs.Bool.{Decides}
use Rattle.std.proofs.lemmas.Bool.Decides.{Decides-eqb}
use Rattle.std.proofs.lemmas.List.{append_cancel_right}
use Rattle.std.proofs.lemmas.Slice.Eq.{slice_eq-Decides, strip_suffix_is}
use Rattle.maps_printer.proofs.buffer.Buffer.is_line.Goals as goal

-- what waits is a text and a newline, and the text is this one exactly where it equals it
same_line : (text line waits : List ℕ) (test : Bool) → waits ≡ line ++ 10 ∷ [] → Decides test (line ≡ text) → Decides test (text ++ 10 ∷ [] ≡ waits)
same_line text line waits test is same = (
  λ yes. ap (λ (l : List ℕ). l ++ 10 ∷ []) (sym (same.0 yes)) ∙ sym is,
  λ e. same.1 (sym (append_cancel_right text line (10 ∷ []) (e ∙ is))),
)

-- where a newline ends what waits, the text is compared with what stands before it
pub returns-in-Some : goal.returns-in-Some
returns-in-Some c =
    let line = c.in-Some.line.now in
    same_line c.args.text.now line c.args.self.now c.eq.result
    (sym c.self.view_is ∙ strip_suffix_is Decides-eqb _ (10 ∷ []) (Some c.in-Some.line) c.in-Some.ensures.cases)
    (slice_eq-Decides Decides-eqb line c.args.text.now c.eq.result c.eq.ensures)
