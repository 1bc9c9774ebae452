use Rattle.std.proofs.Common.{arith, ◌≤◌, ◌+◌, ◌∙◌, IfOk, IfErr, ap, subst}
use Rattle.lock_core.specs.declared.range.Held.{Held}
use Rattle.range_rw.specs.Contract.{TableShape}
use Rattle.range_c.specs.declared.state.Lock.{Lock}
use Rattle.range_c.specs.Behind.{Behind, IsOneTry, IsGranted, IsRefused}
use Rattle.range_c.proofs.Tries.{granted_for, refused_for}
use Rattle.range_c.proofs.state.State.try_once.Goals as goal

-- what `range_rw` says of each try, whatever it answers
one_try : (c : goal.After-try_acquire_uncounted) → IsOneTry c.deref.result.now.table.seats c.deref.result.now.table.cut
    (record { range = c.args.range; mode = c.args.mode }) c.self.inside.seat c.try_acquire_uncounted.new.seat
one_try c =
    let e = c.try_acquire_uncounted.ensures in
    record {
      call = e.call;
      free = ap (λ (b : Behind). b.seat.held) c.self.view_is ∙ c.requires.free;
      asks = e.asks;
      only = e.only c.self.invariant.7;
      ready = e.further;
      outside = e.outside;
      bound = e.wide;
      alone = λ h. let b = e.bound h in omega arith;
      each = e.each;
    }

-- a try that holds its range is one try within its bound
pub returns-clause-held : goal.returns-clause-held
returns-clause-held c =
    let ask : Held = record { range = c.args.range; mode = c.args.mode } in
    let here = subst (λ (t : TableShape). IfOk c.try_acquire_uncounted.result
    (λ _. IsGranted t.seats t.cut ask c.self.inside.seat c.try_acquire_uncounted.new.seat)) (ap (λ (l : Lock). l.table) c.deref.ensures)
    (granted_for c.try_acquire_uncounted.result _ _ ask (one_try c) c.try_acquire_uncounted.ensures.held c.try_acquire_uncounted.ensures.stands) in
    subst (λ (b : Behind). IfOk c.try_acquire_uncounted.result (λ _. IsGranted b.seats b.cut ask b.seat c.try_acquire_uncounted.new.seat)) c.self.view_is here

-- one that was refused is one try within its bound, with its cause
pub returns-clause-refused : goal.returns-clause-refused
returns-clause-refused c =
    let ask : Held = record { range = c.args.range; mode = c.args.mode } in
    let here = subst (λ (t : TableShape). IfErr c.try_acquire_uncounted.result
    (IsRefused t.seats t.cut ask c.self.inside.seat c.try_acquire_uncounted.new.seat)) (ap (λ (l : Lock). l.table) c.deref.ensures)
    (refused_for c.try_acquire_uncounted.result _ _ ask (one_try c) c.try_acquire_uncounted.ensures.free c.try_acquire_uncounted.ensures.told
    c.try_acquire_uncounted.ensures.cause c.try_acquire_uncounted.ensures.long) in
    subst (λ (b : Behind). IfErr c.try_acquire_uncounted.result (IsRefused b.seats b.cut ask b.seat c.try_acquire_uncounted.new.seat)) c.self.view_is here
