use Rattle.std.proofs.Common.{◌≡◌, rules, sym, ap, ◌∙◌, arith}
use Rattle.raw_trace.specs.Order.{freed, meet, Entry}
use Rattle.raw_trace.specs.Waiting.{first_key}
use Rattle.raw_trace.proofs.Waits.{first_from, none_meet}
use Rattle.raw_trace.proofs.waiting.key_that_frees.Goals as goal

-- no pages are freed
pub returns-then-pages : goal.returns-then-pages
returns-then-pages c = sym (none_meet c.args.pages c.args.pieces.now.entries (omega (arith, c.if-pages.true)))

-- those in the range are all that matter
pub pieces-init : goal.pieces-init
pieces-init c =
    let test = λ (other : Entry). meet (freed other.call) c.args.pages in
    let all : c.into_iter-key-iterator.result ≡ c.range-key-items.result = search rules in
    ap (first_key test) (all ∙ c.range-key-items.ensures.between tt)
    ∙ first_from c.saturating_sub-low.result c.args.longest c.args.pages c.args.pieces.now.entries c.saturating_sub-low.ensures c.requires
