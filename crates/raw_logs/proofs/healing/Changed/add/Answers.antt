use Rattle.raw_logs.proofs.MadeLines.{written_added}
use Rattle.raw_logs.proofs.healing.Changed.add.Goals as goal

-- the text is made plain, and then numbered
pub returns-clause-made : goal.returns-clause-made
returns-clause-made c = λ texts h.
    written_added c.args.number c.args.text.now c.plain_parts.result.0.now c.plain_parts.result.1.now c.args.self.now c.count_if.new.self _ texts h
    c.plain_parts.ensures.plain c.count_if.ensures.plain c.count_if.ensures.lines c.count_if.ensures.numbered c.count_if.ensures.numbering
    c.in_ok-add_plain.ensures.made c.in_ok-add_plain.ensures.plain c.in_ok-add_plain.ensures.numbering
