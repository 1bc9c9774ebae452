use Rattle.std.proofs.Common.{◌++◌, length, false, ap, sym, subst, ◌∙◌, arith, [], ◌∷◌}
use Rattle.std.proofs.lemmas.List.{length-append}
use Rattle.raw_logs.specs.Log.{line_of}
use Rattle.raw_logs.specs.Buffer.{cut_at, AreEnds}
use Rattle.raw_logs.proofs.BufferFacts.{cut_more, ends_more}
use Rattle.raw_logs.proofs.lines.Lines.push.Goals as goal

-- the ends rise up to the buffer's
pub invariant_of-self : goal.invariant_of-self
invariant_of-self c =
    let old = c.self.inside in
    let text = c.args.front.now ++ (c.args.middle.now ++ c.args.back.now) in
    let all = ap length c.in-Ok.ensures.bytes in
    let more = length-append old.bytes.items text in
    subst (AreEnds 0 (length c.add_text.new.bytes.items)) (sym c.in-Ok.ensures.ends)
    (ends_more 0 c.args.number (length c.add_text.new.bytes.items) (length old.bytes.items) false old.ends.items c.self.invariant (omega arith))

-- the text stands behind the others
pub returns : goal.returns
returns c =
    let old = c.self.inside in
    let text = c.args.front.now ++ (c.args.middle.now ++ c.args.back.now) in
    ap (cut_at old.first 0 c.add_text.new.bytes.items) c.in-Ok.ensures.ends
    ∙ ap (λ x. cut_at old.first 0 x (old.ends.items ++ (record { number = c.args.number; behind = length c.add_text.new.bytes.items; numbered = false } ∷ [])))
    c.in-Ok.ensures.bytes
    ∙ cut_more old.first 0 c.args.number (length c.add_text.new.bytes.items) false old.bytes.items text old.ends.items c.self.invariant
    (ap length c.in-Ok.ensures.bytes)
    ∙ ap (λ x. x ++ (line_of c.args.number text ∷ [])) c.self.view_is
