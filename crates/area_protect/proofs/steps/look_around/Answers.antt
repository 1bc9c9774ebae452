use Rattle.std.proofs.Common.{◌≡◌, ◌<◌, ◌⊎◌, ◌∙◌, refl, arith, inl, inr, ap}
use Rattle.std.specs.Prelude.{None, IsSome}
use Rattle.lock_core.specs.declared.range.Mode.TheVariants.{Reader}
use Rattle.area_rows.specs.Callers.{IsReading, held_span, reading_on}
use Rattle.range_rw.specs.Contract.{AsksFor, Record}
use Rattle.range_rw.proofs.Asking.{for_kept}
use Rattle.area_protect.specs.Protects.{read_pages}
use Rattle.area_protect.specs.Looks.{HasLooked, IsLookedAt, LooksFirst}
use Rattle.area_protect.specs.Attempts.{IsOtherKind}
use Rattle.area_protect.proofs.Looking.{look_counts}
use Rattle.area_protect.proofs.Stages.{other_shown, after_back, whole_back, looked_round, first_round, counts_on}
use Rattle.area_protect.proofs.steps.look_around.Given.{Over}
use Rattle.area_protect.proofs.steps.look_around.Goals.{After-release}
use Rattle.area_protect.proofs.steps.look_around.Goals as goal

-- the sequence word and the row are read behind holding
read : (g : Over) (c : After-release g) → IsReading c.acquire.new.caller.seat c.row_of-row.new.caller.seat
read g c =
    let q = c.sequence-sequence in let r = c.row_of-row in
    reading_on _ q.new.caller.seat _ q.ensures.reading r.ensures.reading

-- holding, reading, looking and giving back are a look
looked : (g : Over) (c : After-release g)
    → HasLooked c.args.caller.now c.release.new.caller × IsLookedAt c.args.caller.now.seat c.look-at.result c.release.new.caller.seat
looked g c =
    let a = c.acquire in let r = c.row_of-row in let l = c.look-at in let d = c.release in
    looked_round _ a.new.caller r.new.caller l.new.caller _ a.ensures.call a.ensures.left a.ensures.rest (read g c)
    (r.ensures.left ∙ c.sequence-sequence.ensures.left) l.ensures.look l.ensures.left d.ensures.release d.ensures.left

-- the look was made under the pages as a reader
first : (g : Over) (c : After-release g) → LooksFirst c.args.caller.now.seat c.args.pages.lo c.args.pages.hi c.release.new.caller.seat
first g c =
    let a = c.acquire in let d = c.release in
    first_round c.args.caller.now a.new.caller c.row_of-row.new.caller c.look-at.new.caller d.new.caller c.args.pages.lo c.args.pages.hi
    a.ensures.call a.ensures.held (read g c) c.look-at.ensures.look d.ensures.release

-- and what is asked for is these
asks : (g : Over) (c : After-release g)
    → AsksFor (read_pages c.args.pages.lo c.args.pages.hi) c.args.caller.now.seat.trace.asked c.release.new.caller.seat.trace.asked
asks g c = for_kept c.acquire.ensures.asks (c.release.ensures.release.asked ∙ (ap (λ (t : Record). t.asked) c.look-at.ensures.look.step.trace
    ∙ (c.row_of-row.ensures.reading.asked ∙ c.sequence-sequence.ensures.reading.asked)))

-- pages whose first one isn't mapped, or that reach behind its row, weren't of one kind
other : (g : Over) (c : After-release g) → (c.row_of-row.result.kind ≡ None) ⊎ (c.row_of-row.result.hi < c.args.pages.hi)
    → IsOtherKind c.args.caller.now.seat c.release.new.caller.seat c.args.pages c.look-at.result
other g c why =
    let q = c.sequence-sequence in let r = c.row_of-row in let l = c.look-at in
    let shown = other_shown r.new.caller.seat (held_span c.args.pages Reader) c.args.pages r.result (q.ensures.reading.held ∙ c.acquire.ensures.held) refl refl
    c.lo.ensures r.ensures.shows r.ensures.from r.ensures.until why in ((looked g c).1, after_back c.release.ensures.release _ l.ensures.look shown)

-- a row with a kind that reaches behind the pages is an area with all of them
pub returns-in-Some : goal.returns-in-Some
returns-in-Some g c =
    let a = c.acquire in let q = c.sequence-sequence in let r = c.row_of-row in let l = c.look-at in let h = (goal.at.returns-in-Some g c).After-release in
    let some : IsSome a.new.caller.seat.held = rw a.ensures.held in
    record {
      looked = (looked g h).0;
      free = c.release.ensures.release.held;
      first = first g h;
      asks = asks g h;
      found = record {
        area = record { has_page = (let f = r.ensures.from in let u = r.ensures.until in omega arith); below_limit = r.ensures.limit };
        from = (let f = r.ensures.from in let p = c.lo.ensures in omega arith);
        until = (let h = c.if-row-hi.true in let p = c.hi.ensures in omega arith);
        looked = (looked g h).1;
        whole = whole_back c.release.ensures.release l.result q.result
            (look_counts q.result l.ensures.look ((read g h).read.pending ∙ a.ensures.rest) (counts_on q.result r.ensures.reading (q.ensures.counts some)));
      };
      other = tt;
    }

-- pages that reach behind the row of the first one are of other kinds
pub returns-in_default : goal.returns-in_default
returns-in_default g c =
    let h = (goal.at.returns-in_default g c).After-release in
    record {
      looked = (looked g h).0;
      free = c.release.ensures.release.held;
      first = first g h;
      asks = asks g h;
      found = tt;
      other = other g h (inr (let h = c.if-row-hi.false in let p = c.hi.ensures in omega arith));
    }

-- so are those whose first one isn't mapped
pub returns-in_default-2 : goal.returns-in_default-2
returns-in_default-2 g c =
    let h = (goal.at.returns-in_default-2 g c).After-release in
    record {
      looked = (looked g h).0;
      free = c.release.ensures.release.held;
      first = first g h;
      asks = asks g h;
      found = tt;
      other = other g h (inl c.in_default.is);
    }
