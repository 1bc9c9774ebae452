use Rattle.std.proofs.Common.{◌≡◌, ◌≤◌, map, take, All}
use Rattle.std.specs.Prelude.{vec_items, vec_len}
use Rattle.page_types.specs.Named.{IsNamedCall}
use Rattle.trace_driver.specs.Dealt.{dealt}
use Rattle.trace_driver.proofs.dealing.deal_lines.Given as goal

-- the lines so far are dealt out
abbrev pub invariant-lines : goal.invariant-lines
invariant-lines l = (map vec_items l.all.items ≡ dealt l.threads (take l.line-index l.lines)) × (vec_len l.all ≡ l.threads)
    × All (λ own. vec_len own ≤ l.line-index) l.all.items × All (λ own. All (λ line. IsNamedCall line.call) own) (map vec_items l.all.items)
