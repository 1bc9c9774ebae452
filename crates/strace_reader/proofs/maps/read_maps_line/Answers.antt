use Rattle.std.proofs.Common.{sym}
use Rattle.strace_reader.proofs.MapsFacts.{form_line, order_line, past_line, area_line}
use Rattle.strace_reader.proofs.maps.read_maps_line.Goals as goal

-- a line of another form is refused for that, and is nothing else
pub returns-in_default : goal.returns-in_default
returns-in_default c = let a = form_line c.args.text.now (sym c.in_default.ensures) in
    record { found = a.found; only = a.only; refused = a.refused; only_there = a.only_there; named = a.named }

-- a line whose start isn't below its end is refused for that, and is nothing else
pub returns-then-start-end : goal.returns-then-start-end
returns-then-start-end c = let a = order_line c.args.text.now c.in-Some.start c.in-Some.end c.in-Some.kind (sym c.in-Some.ensures) c.if-start-end.true in
    record { found = a.found; only = a.only; refused = a.refused; only_there = a.only_there; named = a.named }

-- a line in order that ends above the user addresses is that alone
pub returns-then-end-gt-USER_END : goal.returns-then-end-gt-USER_END
returns-then-end-gt-USER_END c =
    let a = past_line c.args.text.now c.in-Some.start c.in-Some.end c.in-Some.kind (sym c.in-Some.ensures) c.if-start-end.false c.if-end-gt-USER_END.true in
    record { found = a.found; only = a.only; refused = a.refused; only_there = a.only_there; named = a.named }

-- each other line is an area alone, in pages
pub returns : goal.returns
returns c =
    let a = area_line c.args.text.now c.in-Some.start c.in-Some.end c.in-Some.kind (sym c.in-Some.ensures) c.if-start-end.false c.if-end-gt-USER_END.false in
    record { found = a.found; only = a.only; refused = a.refused; only_there = a.only_there; named = a.named }
