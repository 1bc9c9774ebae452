use Rattle.std.proofs.Common.{refl, inl}
use Rattle.std.proofs.lemmas.Result.{IfErr-weaker, IfOk-weaker, on_err_weaker}
use Rattle.strace_reader.specs.declared.item.Item.TheVariants.{Played, Resumed, Other as Passed, Blank as Nothing}
use Rattle.strace_reader.proofs.JoinFacts.{half_places, rest_place, fed_silent, fed_stays, fed_gone, fed_half, drops, join_answer, join_fault, ok_both}
use Rattle.strace_reader.proofs.joiner.Joiner.feed.Goals as goal

-- an empty line changes nothing that the joiner stands for
pub returns-in-Ok-Blank-clause-next : goal.returns-in-Ok-Blank-clause-next
returns-in-Ok-Blank-clause-next c = λ fed f.
    let s = rw c.in-Ok-Blank.field-0-is at c.in-Ok-Blank.ensures.found in fed_silent c.args.text.now Nothing fed c.args.self.now s (λ q g. g) f

-- a line that is passed over changes nothing that the joiner stands for
pub returns-in-Ok-Other-clause-next : goal.returns-in-Ok-Other-clause-next
returns-in-Ok-Other-clause-next c = λ fed f.
    let s = rw c.in-Ok-Other.field-0-is at c.in-Ok-Other.ensures.found in fed_silent c.args.text.now Passed fed c.args.self.now s (λ q g. g) f

-- behind a call, nothing is kept for its process
pub returns-in-Ok-Played-clause-next : goal.returns-in-Ok-Played-clause-next
returns-in-Ok-Played-clause-next c = λ fed f.
    let a = c.in-Ok-Played in let s = rw a.field-0-is at a.ensures.found in
    fed_gone c.args.text.now (Played a.pid a.call a.recorded) a.pid fed c.args.self.now c.drop_half.new.self s refl
    (λ n x y e. cc) c.drop_half.ensures.gone c.drop_half.ensures.others f

-- a call is answered as it is spelled, with the halves that it drops
pub returns-in-Ok-Played-clause-answer : goal.returns-in-Ok-Played-clause-answer
returns-in-Ok-Played-clause-answer c = λ fed f.
    let a = c.in-Ok-Played in let s = rw a.field-0-is at a.ensures.found in
    inl (s, drops c.args.self.now fed a.pid c.drop_half.result f c.drop_half.ensures.count)

-- the places of a first half are in order
pub part-requires-clause-order : goal.part-requires-clause-order
part-requires-clause-order c =
    let a = c.in-Ok-Unfinished in let s = rw a.field-0-is at a.ensures.found in (half_places c.args.text.now a.pid a.name a.from a.to s).0

-- the places of a first half are within its text
pub part-requires-clause-within : goal.part-requires-clause-within
part-requires-clause-within c =
    let a = c.in-Ok-Unfinished in let s = rw a.field-0-is at a.ensures.found in (half_places c.args.text.now a.pid a.name a.from a.to s).1

-- the place from which a second half goes on is within its text
pub behind-requires : goal.behind-requires
behind-requires c = let a = c.in-Ok-Resumed in let s = rw a.field-0-is at a.ensures.found in rest_place c.args.text.now a.pid a.name a.from s

-- a first half that was kept is what is kept for its process
pub returns-in-Ok-clause-next : goal.returns-in-Ok-clause-next
returns-in-Ok-clause-next c = λ fed f.
    let a = c.in-Ok-Unfinished in let s = rw a.field-0-is at a.ensures.found in
    fed_half c.args.text.now a.pid a.name a.from a.to fed c.args.self.now c.keep.new.self c.part.result.now s c.part.ensures.bytes
    c.in-Ok.ensures.kept c.in-Ok.ensures.others f

-- a first half is answered as one that is kept, with the halves that it drops
pub returns-in-Ok-clause-answer : goal.returns-in-Ok-clause-answer
returns-in-Ok-clause-answer c = λ fed f.
    let a = c.in-Ok-Unfinished in let s = rw a.field-0-is at a.ensures.found in
    (a.pid, a.name, a.from, a.to, s, drops c.args.self.now fed a.pid c.in-Ok.skipped f c.in-Ok.ensures.count)

-- behind a second half that was taken, nothing is kept for its process
pub returns-in-Ok-Resumed-clause-next : goal.returns-in-Ok-Resumed-clause-next
returns-in-Ok-Resumed-clause-next c =
    let a = c.in-Ok-Resumed in let s = rw a.field-0-is at a.ensures.found in
    ok_both c.join.result _ _ _ c.join.ensures.gone c.join.ensures.others
    (λ gone others fed f. fed_gone c.args.text.now (Resumed a.pid a.name a.from) a.pid fed c.args.self.now c.join.new.self s refl (λ n x y e. cc) gone others f)

-- a second half answers what the texts fed so far say
pub returns-in-Ok-Resumed-clause-answer : goal.returns-in-Ok-Resumed-clause-answer
returns-in-Ok-Resumed-clause-answer c =
    let a = c.in-Ok-Resumed in let s = rw a.field-0-is at a.ensures.found in
    IfOk-weaker c.join.result _ _ (λ x h fed f. join_answer c.args.self.now fed c.args.text.now a.pid a.name a.from
    c.behind.result.now x s c.behind.ensures.bytes f h) c.join.ensures.answer

-- a second half isn't taken for a reason that the texts fed so far say
pub returns-in-Ok-Resumed-clause-refused : goal.returns-in-Ok-Resumed-clause-refused
returns-in-Ok-Resumed-clause-refused c =
    let a = c.in-Ok-Resumed in let s = rw a.field-0-is at a.ensures.found in
    IfErr-weaker c.join.result _ _ (λ x h fed f. join_fault c.args.self.now fed c.args.text.now a.pid a.name a.from
    c.behind.result.now x s c.behind.ensures.bytes f h) c.join.ensures.fault

-- where memory is out for a first half, the joiner stands for the same texts
pub returns-in-Err-keep-clause-stays : goal.returns-in-Err-keep-clause-stays
returns-in-Err-keep-clause-stays c = λ fed f. fed_stays c.args.self.now c.keep.new.self fed c.in-Err-keep.ensures.err f

-- where a second half isn't taken, the joiner stands for the same texts
pub returns-in-Ok-Resumed-clause-stays : goal.returns-in-Ok-Resumed-clause-stays
returns-in-Ok-Resumed-clause-stays c = on_err_weaker c.join.result (λ same fed f. fed_stays c.args.self.now c.join.new.self fed same f) c.join.ensures.err
