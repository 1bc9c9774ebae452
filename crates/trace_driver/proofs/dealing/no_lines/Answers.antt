use Rattle.std.proofs.Common.{rules, ap, ◌∙◌, ◌≤◌, [], ◌∷◌, ◌++◌, map, arith, Global, List}
use Rattle.std.specs.Prelude.{Vec, vec_items, vec_len}
use Rattle.std.proofs.lemmas.List.{map-append}
use Rattle.trace_threads.specs.declared.worker.Line.{Line as Turn}
use Rattle.trace_driver.proofs.DealtLemmas.{HasNamedTurns, none_more, all_more}
use Rattle.trace_driver.proofs.dealing.no_lines.Goals as goal

-- one worker more has an empty list
pub workers-preserved : goal.workers-preserved
workers-preserved c =
    let i = c.workers.invariant in let p = c.push_reserved.ensures.items in
    let more = ap (map vec_items) p ∙ map-append vec_items c.workers.all.items (c.new.result ∷ [])
    ∙ ap (λ (l : List Turn). map vec_items c.workers.all.items ++ l ∷ []) c.new.ensures.items in (
      none_more c.workers.counter _ _ i.0 more,
      search rules,
      all_more (λ (v : Vec Turn Global). vec_len v ≤ 0) _ _ c.new.result p i.2 (let n = c.new.ensures.len in omega arith),
      all_more HasNamedTurns _ _ [] more i.3 (λ k d low. absurd (omega arith)),
      search rules,
    )
