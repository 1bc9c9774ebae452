use Rattle.std.proofs.Common.{rules, codes}
use Rattle.line_parts.specs.declared.refusal.What.TheVariants.{Comma}
use Rattle.raw_lines.proofs.MendFacts.{digits_yes, digits_no, digits_no_sign}
use Rattle.raw_lines.proofs.mends.mend_long.Goals as goal

-- where -1 doesn't stand before the place nothing is mended
pub returns-in_err-front : goal.returns-in_err-front
returns-in_err-front c =
    let s = c.split_at.ensures in
    rw c.from_residual.ensures (digits_no_sign (codes "-1") Comma c.args.text.now c.split_at.result.0.now c.split_at.result.1.now c.args.bad
    s.by_index.0 s.front_len c.in_err-front.ensures)

-- the digits behind it are mended
pub returns-in-Ok : goal.returns-in-Ok
returns-in-Ok c =
    let s = c.split_at.ensures in
    digits_yes (codes "-1") Comma c.args.text.now c.split_at.result.0.now c.in_ok-front.front.now c.split_at.result.1.now c.in-Ok.back.now c.args.bad
    (search rules) s.by_index.0 s.front_len c.requires.1 c.in_ok-front.ensures c.in-Ok.ensures

-- where no digit stands there nothing is mended
pub returns-in-Err : goal.returns-in-Err
returns-in-Err c =
    let s = c.split_at.ensures in
    digits_no (codes "-1") Comma c.args.text.now c.split_at.result.0.now c.split_at.result.1.now c.args.bad _ s.by_index.0 s.front_len c.in-Err.ensures
