use Rattle.std.proofs.Common.{None}
use Rattle.strace_reader.specs.declared.item.Item.TheVariants.{Played}
use Rattle.history_check.proofs.LinesBack.{call_lost, call_found, call_short, call_spelled, call_is, item_is, until_short}
use Rattle.history_check.proofs.calls.call.Goals as goal

-- a call's end is found
pub returns-in_default : goal.returns-in_default
returns-in_default c = λ call rest named fits e. call_lost _ call c.args.text.now rest _ fits e c.in_default.ensures

-- no more is left than there was
pub overflow_sub-len : goal.overflow_sub-len
overflow_sub-len c = until_short _ _ _ c.args.text.now c.in-Ok.rest.now c.in-Ok.ensures

-- no call is too long
pub returns-then-len-gt-CALL_BYTES : goal.returns-then-len-gt-CALL_BYTES
returns-then-len-gt-CALL_BYTES c = λ call rest named fits e.
    call_short call c.args.text.now rest c.in-Ok.rest.now named fits e
    (call_found _ call c.args.text.now rest c.in-Ok.rest.now fits e c.in-Ok.ensures) c.if-len-gt-CALL_BYTES.true

-- its text is a line
pub returns-in_default-read_line : goal.returns-in_default-read_line
returns-in_default-read_line c = λ call rest named fits e.
    let found = call_found _ call c.args.text.now rest c.in-Ok.rest.now fits e c.in-Ok.ensures in
    c.in_default-read_line.not-Ok (Played 0 call None)
    (c.read_line.ensures.only (Played 0 call None) (call_spelled call c.args.text.now rest c.in-Ok.rest.now named fits e found))

-- which is read as this call
pub returns-in-Played : goal.returns-in-Played
returns-in-Played c = λ call rest named fits e.
    let found = call_found _ call c.args.text.now rest c.in-Ok.rest.now fits e c.in-Ok.ensures in
    let read = c.in-Ok-read_line.ensures.only (Played 0 call None) (call_spelled call c.args.text.now rest c.in-Ok.rest.now named fits e found) in
    (call_is c.in-Ok-read_line.item c.in-Played.pid c.in-Played.call call c.in-Played.recorded c.in-Played.is read, found)

-- and as nothing else
pub returns-in_default-item : goal.returns-in_default-item
returns-in_default-item c = λ call rest named fits e.
    let found = call_found _ call c.args.text.now rest c.in-Ok.rest.now fits e c.in-Ok.ensures in
    let read = c.in-Ok-read_line.ensures.only (Played 0 call None) (call_spelled call c.args.text.now rest c.in-Ok.rest.now named fits e found) in
    c.in_default-item.not-Played 0 call None (item_is c.in-Ok-read_line.item call read)
