use Rattle.std.proofs.Common.{rules, ◌≡◌, ◌∙◌, arith}
use Rattle.history_check.proofs.Remembering.{in_place, out_of_order}
use Rattle.history_check.proofs.taking.Seen.wrong_place.Goals as goal

-- the number is right, and an entry of the same worker has no lower line
pub returns-then-from-self : goal.returns-then-from-self
returns-then-from-self c before seen A =
    let number : c.args.entry.now.number ≡ c.args.self.now.next = search rules in (
      number ∙ seen.number,
      out_of_order before c.args.self.now c.args.entry.now seen c.requires (omega (arith, c.if-from-self.true, c.from-2.ensures)),
    )

-- number and line are right
pub returns : goal.returns
returns c before seen = let number : c.args.entry.now.number ≡ c.args.self.now.next = search rules in
    in_place before c.args.self.now c.args.entry.now seen number (omega (arith, c.if-from-self.false, c.from-2.ensures))
