use Rattle.std.proofs.Common.{IfOk, ap, subst}
use Rattle.std.specs.Prelude.{OnErr}
use Rattle.list_cuts.specs.Cut.{TakesTwo}
use Rattle.word_rows.specs.declared.backoff.TheConstants.{REFUSED_ROUNDS, KEPT_LOOKS}
use Rattle.lock_core.specs.declared.range.Mode.TheVariants.{Reader}
use Rattle.range_rw.specs.Contract.{AsksAmong, IsRefusedAfter, TableShape}
use Rattle.area_rows.specs.Callers.{held_span}
use Rattle.area_looks.specs.Found.{IsFound}
use Rattle.area_looks.specs.Shown.{HasLookedAt, IsReadAround}
use Rattle.space_c.specs.Behind.{Behind}
use Rattle.space_c.proofs.Looking.{refused_in, round_asks}
use Rattle.space_c.proofs.state.State.area_once.Goals as goal

-- what the round saw was seen by the handle's caller
pub returns-clause-found : goal.returns-clause-found
returns-clause-found c = subst (λ (b : Behind). IfOk c.area_round.result (λ found. IsFound b.caller.seat c.args.page c.args.wide found))
    c.self.view_is c.area_round.ensures.found

-- in its space
pub returns-clause-none : goal.returns-clause-none
returns-clause-none c =
    let here = subst (λ (t : TableShape). OnErr c.area_round.result (refused_in t.cut c.args.wide c.args.refused c.self.inside.caller c.area_round.new.caller))
    c.deref.ensures c.area_round.ensures.kept in
    subst (λ (b : Behind). OnErr c.area_round.result (refused_in b.cut c.args.wide c.args.refused b.caller c.area_round.new.caller)) c.self.view_is here

-- all else behind the handle is as it was
pub returns-clause-round : goal.returns-clause-round
returns-clause-round c =
    let e = c.area_round.ensures in let after = c.area_round.new.caller in let page = c.args.page in
    let asks = round_asks page c.args.wide c.self.inside.caller after c.requires.inside.0 c.requires.inside.1 e.asks in
    record {
      page_below = c.requires.page_below;
      free = c.requires.free;
      given = e.free;
      looked = subst (λ (b : Behind). HasLookedAt b.caller after) c.self.view_is e.looked;
      asks = subst (λ (b : Behind). AsksAmong (IsReadAround page) b.caller.seat.trace.asked after.seat.trace.asked) c.self.view_is asks;
      kept = ap (λ (b : Behind). record b { caller = after }) c.self.view_is;
    }
