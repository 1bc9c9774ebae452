use Rattle.std.proofs.Common.{◌++◌, length, true, ap, sym, subst, ◌∙◌, arith, [], ◌∷◌}
use Rattle.std.proofs.lemmas.List.{length-append}
use Rattle.raw_logs.specs.Log.{line_of}
use Rattle.raw_logs.specs.Numbering.{with_number}
use Rattle.raw_logs.specs.Buffer.{cut_at, AreEnds}
use Rattle.raw_logs.proofs.BufferFacts.{cut_more, ends_more}
use Rattle.raw_logs.proofs.lines.Lines.push_numbered.Goals as goal

-- the ends rise up to the buffer's
pub invariant_of-self : goal.invariant_of-self
invariant_of-self c =
    let old = c.self.inside in
    let all = ap length c.in-Ok.ensures.bytes in
    let more = length-append old.bytes.items c.args.body.now in
    subst (AreEnds 0 (length c.add_text.new.bytes.items)) (sym c.in-Ok.ensures.ends)
    (ends_more 0 c.args.number (length c.add_text.new.bytes.items) (length old.bytes.items) true old.ends.items c.self.invariant (omega arith))

-- the text stands behind the others, and its number before it
pub returns : goal.returns
returns c =
    let old = c.self.inside in
    let text = c.args.body.now in
    ap (cut_at old.first 0 c.add_text.new.bytes.items) c.in-Ok.ensures.ends
    ∙ ap (λ x. cut_at old.first 0 x (old.ends.items ++ (record { number = c.args.number; behind = length c.add_text.new.bytes.items; numbered = true } ∷ [])))
    c.in-Ok.ensures.bytes
    ∙ cut_more old.first 0 c.args.number (length c.add_text.new.bytes.items) true old.bytes.items text old.ends.items c.self.invariant
    (ap length c.in-Ok.ensures.bytes)
    ∙ ap (λ x. x ++ (line_of c.args.number (with_number old.first text) ∷ [])) c.self.view_is
    ∙ ap (λ x. c.args.self.now ++ (line_of c.args.number (with_number x text) ∷ [])) (sym c.if-pid-self.false)
