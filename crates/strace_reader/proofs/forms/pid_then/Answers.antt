use Rattle.std.proofs.Common.{refl, sym, ◌∙◌, arith}
use Rattle.line_parts.specs.Reading.{digits_of}
use Rattle.strace_reader.proofs.FormFacts.{narrow_some, narrow_none, pid_found, pid_read}
use Rattle.strace_reader.proofs.forms.pid_then.Goals as goal

-- a number wider than 64 bits is no process number
pub returns-in_default : goal.returns-in_default
returns-in_default c = λ pid rest h.
    let f = pid_read c.args.word.now c.args.text.now c.digits-value.result.1.now (digits_of 10 0 c.args.text.now).0 pid rest refl
    c.digits-value.ensures.rest c.requires.0 c.requires.1 h in
    let w = narrow_none (digits_of 10 0 c.args.text.now).0 (sym c.digits-value.ensures.value ∙ c.in_default.is) in let p = f.narrow_pid in omega arith

-- a number wider than 32 bits is no process number
pub returns-then-number-ge-PIDS : goal.returns-then-number-ge-PIDS
returns-then-number-ge-PIDS c = λ pid rest h.
    let n = narrow_some (digits_of 10 0 c.args.text.now).0 c.in-Some.number (sym c.digits-value.ensures.value ∙ c.in-Some.is) in
    let f = pid_read c.args.word.now c.args.text.now c.digits-value.result.1.now c.in-Some.number pid rest n
    c.digits-value.ensures.rest c.requires.0 c.requires.1 h in let p = f.narrow_pid in omega arith

-- where no digit stands, no process number does
pub returns-then-behind-text : goal.returns-then-behind-text
returns-then-behind-text c = λ pid rest h.
    let n = narrow_some (digits_of 10 0 c.args.text.now).0 c.in-Some.number (sym c.digits-value.ensures.value ∙ c.in-Some.is) in
    let f = pid_read c.args.word.now c.args.text.now c.digits-value.result.1.now c.in-Some.number pid rest n
    c.digits-value.ensures.rest c.requires.0 c.requires.1 h in let p = f.long in omega arith

-- the number that is given is a process number, and the word stands behind it
pub returns-in-Some-strip_front : goal.returns-in-Some-strip_front
returns-in-Some-strip_front c =
    let n = narrow_some (digits_of 10 0 c.args.text.now).0 c.in-Some.number (sym c.digits-value.ensures.value ∙ c.in-Some.is) in
    pid_found c.args.word.now c.args.text.now c.digits-value.result.1.now c.in-Some-strip_front.rest.now c.in-Some.number n
    c.digits-value.ensures.rest c.if-number-ge-PIDS.false c.if-behind-text.false c.in-Some-strip_front.ensures

-- where the word doesn't stand behind the digits, no process number stands before it
pub returns-in-None : goal.returns-in-None
returns-in-None c = λ pid rest h.
    let n = narrow_some (digits_of 10 0 c.args.text.now).0 c.in-Some.number (sym c.digits-value.ensures.value ∙ c.in-Some.is) in
    c.in-None.ensures rest (pid_read c.args.word.now c.args.text.now c.digits-value.result.1.now c.in-Some.number pid rest n
    c.digits-value.ensures.rest c.requires.0 c.requires.1 h).is
