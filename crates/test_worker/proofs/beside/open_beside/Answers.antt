use Rattle.std.proofs.Common.{◌≡◌, List, [], ◌∷◌, ◌++◌, sym, ap, ◌∙◌, subst, arith}
use Rattle.area_rows.specs.Callers.{CallerView, AreNewCallers}
use Rattle.trace_threads.specs.Hiring.{AreNewWorkers}
use Rattle.trace_threads.specs.Workers.{WorkerView}
use Rattle.test_worker.proofs.Besides.{two_workers, two_new, third_new}
use Rattle.test_worker.proofs.beside.open_beside.Goals as goal

-- the first caller has a number for each of its lines
pub new-requires-clause-left : goal.new-requires-clause-left
new-requires-clause-left c =
    let t = c.three_callers-one in let calls = c.len.result ∷ c.len-2.result ∷ 0 ∷ [] in
    let new = subst (λ (cs : List CallerView). AreNewCallers c.in-Ok-open.space.table c.args.start.now calls cs) t.ensures.callers
    c.in-Ok-open.ensures.callers in
    let n = (two_new c.in-Ok-open.space.table c.args.start.now c.len.result c.len-2.result 0 t.result.0 t.result.1 t.result.2 new).0 in
    let long = c.len.ensures in omega arith

-- the first caller holds nothing
pub new-requires-clause-free : goal.new-requires-clause-free
new-requires-clause-free c =
    let t = c.three_callers-one in let calls = c.len.result ∷ c.len-2.result ∷ 0 ∷ [] in
    let new = subst (λ (cs : List CallerView). AreNewCallers c.in-Ok-open.space.table c.args.start.now calls cs) t.ensures.callers
    c.in-Ok-open.ensures.callers in (two_new c.in-Ok-open.space.table c.args.start.now c.len.result c.len-2.result 0 t.result.0 t.result.1 t.result.2 new).2

-- the second caller has a number for each of its lines
pub new-requires-in-Ok-open-clause-left : goal.new-requires-in-Ok-open-clause-left
new-requires-in-Ok-open-clause-left c =
    let t = c.three_callers-one in let calls = c.len.result ∷ c.len-2.result ∷ 0 ∷ [] in
    let new = subst (λ (cs : List CallerView). AreNewCallers c.in-Ok-open.space.table c.args.start.now calls cs) t.ensures.callers
    c.in-Ok-open.ensures.callers in
    let n = (two_new c.in-Ok-open.space.table c.args.start.now c.len.result c.len-2.result 0 t.result.0 t.result.1 t.result.2 new).1 in
    let long = c.len-2.ensures in omega arith

-- the second caller holds nothing
pub new-requires-in-Ok-open-clause-free : goal.new-requires-in-Ok-open-clause-free
new-requires-in-Ok-open-clause-free c =
    let t = c.three_callers-one in let calls = c.len.result ∷ c.len-2.result ∷ 0 ∷ [] in
    let new = subst (λ (cs : List CallerView). AreNewCallers c.in-Ok-open.space.table c.args.start.now calls cs) t.ensures.callers
    c.in-Ok-open.ensures.callers in (two_new c.in-Ok-open.space.table c.args.start.now c.len.result c.len-2.result 0 t.result.0 t.result.1 t.result.2 new).3

-- the two workers are new ones of the space, with their lines
pub returns-in-Ok-open-clause-workers : goal.returns-in-Ok-open-clause-workers
returns-in-Ok-open-clause-workers c =
    let t = c.three_callers-one in let calls = c.len.result ∷ c.len-2.result ∷ 0 ∷ [] in
    let new = subst (λ (cs : List CallerView). AreNewCallers c.in-Ok-open.space.table c.args.start.now calls cs) t.ensures.callers
    c.in-Ok-open.ensures.callers in
    let first : WorkerView = record { caller = t.result.0; lines = c.args.first.items } in
    let second : WorkerView = record { caller = t.result.1; lines = c.args.second.items } in
    let is_first : c.new.result ≡ first = λ i. record { caller = c.new.ensures.caller i; lines = c.new.ensures.lines i } in
    let is_second : c.new-in-Ok-open.result ≡ second = λ i. record { caller = c.new-in-Ok-open.ensures.caller i; lines = c.new-in-Ok-open.ensures.lines i } in
    let one : c.push_reserved.new.self.items ≡ first ∷ [] = c.push_reserved.ensures.items
    ∙ (ap (λ l. l ++ c.new.result ∷ []) c.in-Ok.ensures.items ∙ ap (λ w. w ∷ []) is_first) in
    let two : c.push_reserved-in-Ok-open.new.self.items ≡ first ∷ second ∷ [] = c.push_reserved-in-Ok-open.ensures.items
    ∙ (ap (λ l. l ++ c.new-in-Ok-open.result ∷ []) one ∙ ap (λ w. first ∷ w ∷ []) is_second) in
    subst (λ (ws : List WorkerView). AreNewWorkers c.in-Ok-open.space.table c.args.start.now (c.args.first.items ∷ c.args.second.items ∷ []) ws) (sym two)
    (two_workers c.in-Ok-open.space.table c.args.start.now calls t.result.0 t.result.1 t.result.2 c.args.first.items c.args.second.items new)

-- the third caller is a new one of the space
pub returns-in-Ok-open-clause-third : goal.returns-in-Ok-open-clause-third
returns-in-Ok-open-clause-third c =
    let t = c.three_callers-one in let calls = c.len.result ∷ c.len-2.result ∷ 0 ∷ [] in
    let new = subst (λ (cs : List CallerView). AreNewCallers c.in-Ok-open.space.table c.args.start.now calls cs) t.ensures.callers
    c.in-Ok-open.ensures.callers in third_new c.in-Ok-open.space.table c.args.start.now calls t.result.0 t.result.1 t.result.2 new
