use Rattle.std.proofs.Common.{List, ℕ, ◌++◌, ◌∷◌, [], refl, sym, ap, ◌∙◌, append_assoc}
use Rattle.line_parts.specs.Lines.{lines_of}
use Rattle.raw_logs.proofs.AttachedLines.{attached_lines}
use Rattle.raw_logs.proofs.numbering.all_attached.Goals as goal

-- a line more
pub lines-preserved : goal.lines-preserved
lines-preserved c =
    let i = c.lines.invariant in
    let line = c.in-Some.line.now in (
      i.0 ++ (line ∷ []),
      i.1 ∙ ap (λ (x : List (List ℕ)). i.0 ++ x) c.in-Some.ensures.line ∙ sym (append_assoc i.0 (line ∷ []) (lines_of c.in-Some.behind.now)),
      attached_lines _ _ i.0 _ line refl i.2 c.in_ok-add_attached.ensures,
    )
