use Rattle.std.proofs.Common.{rules}
use Rattle.raw_lines.proofs.Searches.{nowhere_byte, behind_byte}
use Rattle.raw_lines.proofs.LineFacts.{time_none, time_at, time_no_clock, time_wrong_end, time_found}
use Rattle.raw_lines.proofs.plain.before_time.Goals as goal

-- a text without the byte before a time has none
pub returns-in_err-at : goal.returns-in_err-at
returns-in_err-at c = rw c.from_residual.ensures (λ front h. time_none c.args.text.now front (nowhere_byte 60 c.args.text.now c.in_err-at.ensures) h)

-- nor has one without a space before that byte
pub returns-in_err-front : goal.returns-in_err-front
returns-in_err-front c = rw c.from_residual-in_err-front.ensures (λ front h.
    let text = c.args.text.now in let at = c.in_ok-at.at in let f = c.in_ok-at.ensures in
    c.in_err-front.ensures front (time_at text front at f.0.high f.1 (behind_byte 60 text at f.0.after) h).0)

-- nor one without a clock behind it
pub returns-in_err-rest : goal.returns-in_err-rest
returns-in_err-rest c = rw c.from_residual-in_err-rest.ensures (
    let text = c.args.text.now in let at = c.in_ok-at.at in let f = c.in_ok-at.ensures in
    time_no_clock text at f.0.high f.1 (behind_byte 60 text at f.0.after) c.in_err-rest.ensures)

-- a space, the byte, a clock and its end are a time
pub returns-then-eq : goal.returns-then-eq
returns-then-eq c = let f = c.in_ok-at.ensures in let k = c.in_ok-rest.ensures in
    time_found c.args.text.now c.in_ok-front.front.now k.0 c.in_ok-rest.rest.now c.in_ok-at.at f.0.high f.1 c.in_ok-front.ensures k.1 k.2 (search rules)

-- where something else stands behind the clock there is none
pub returns-else-eq : goal.returns-else-eq
returns-else-eq c = let text = c.args.text.now in let at = c.in_ok-at.at in let f = c.in_ok-at.ensures in
    let k = c.in_ok-rest.ensures in time_wrong_end text k.0 c.in_ok-rest.rest.now at f.0.high f.1 (behind_byte 60 text at f.0.after) k.1 k.2 k.3 (search rules)
