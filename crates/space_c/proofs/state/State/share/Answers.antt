use Rattle.std.proofs.Common.{◌≡◌, sym, subst, length}
use Rattle.std.specs.Arc.{arc_value}
use Rattle.list_cuts.specs.Cut.{list_count}
use Rattle.space_c.specs.Behind.{AreNewCallers, new_caller}
use Rattle.space_c.proofs.News.{put_back, shares, taken}
use Rattle.space_c.proofs.state.State.share.Goals as goal

-- the callers that are left to share are new ones of the space still
pub invariant_of-self-2 : goal.invariant_of-self-2
invariant_of-self-2 c =
    let space = arc_value c.self.inside.space in
    let all = taken (list_count space.cut) space.table c.pop.new.self.items c.in-Some.caller c.in-Some.ensures.items c.self.invariant.3 in
    (c.self.invariant.0, c.self.invariant.1, c.self.invariant.2, all.1)

-- the caller that was taken out is a new one
pub beside-requires : goal.beside-requires
beside-requires c =
    let space = arc_value c.self.inside.space in
    let all = taken (list_count space.cut) space.table c.pop.new.self.items c.in-Some.caller c.in-Some.ensures.items c.self.invariant.3 in
    record {
      new = (
        length c.pop.new.self.items,
        subst (λ t. c.in-Some.caller ≡ new_caller (list_count space.cut) t (length c.pop.new.self.items)) (sym c.self.invariant.0) all.0,
      );
    }

-- so are they where the caller went behind a handle
pub invariant_of-self-in-Ok : goal.invariant_of-self-in-Ok
invariant_of-self-in-Ok c =
    let space = arc_value c.self.inside.space in
    let all = taken (list_count space.cut) space.table c.pop.new.self.items c.in-Some.caller c.in-Some.ensures.items c.self.invariant.3 in
    (c.self.invariant.0, c.self.invariant.1, c.self.invariant.2, all.1)

-- where there was no memory, the caller is put back and all are left to share as before
pub invariant_of-self-in-Err : goal.invariant_of-self-in-Err
invariant_of-self-in-Err c =
    let space = arc_value c.self.inside.space in
    let back = put_back c.pop.new.self.items c.in-Some.ensures.items c.in-Err.ensures.back c.push_reserved.ensures.items in
    (c.self.invariant.0, c.self.invariant.1, c.self.invariant.2, subst (AreNewCallers (list_count space.cut) space.table) (sym back) c.self.invariant.3)

-- what is in the new box got the last of the callers that were left
pub returns-in-Ok-clause-shared : goal.returns-in-Ok-clause-shared
returns-in-Ok-clause-shared c =
    let space = arc_value c.self.inside.space in
    shares c.pop.new.self.items c.self.inside.caller c.in-Some.caller space.seats space.cut c.self.view_is c.self.invariant.0
    c.in-Some.ensures.items c.self.invariant.3 c.in-Ok.ensures.made
