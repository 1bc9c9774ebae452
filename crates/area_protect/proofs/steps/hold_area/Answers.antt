use Rattle.std.proofs.Common.{ℕ, ◌+◌, ◌-◌, ◌∙◌, ap, subst, sym}
use Rattle.std.specs.Prelude.{Option, IsSome, min}
use Rattle.page_types.specs.declared.TheConstants.{LIMIT}
use Rattle.page_types.specs.declared.calls.Kind.{Kind}
use Rattle.page_types.specs.Named.{IsNamedOption}
use Rattle.lock_core.specs.declared.range.Held.{Held}
use Rattle.area_rows.specs.Callers.{CountsWhole, RowIs, Shows, reading_on}
use Rattle.range_rw.specs.Contract.{Record}
use Rattle.range_rw.proofs.Asking.{asks_kept, for_only}
use Rattle.area_protect.proofs.Looking.{look_counts}
use Rattle.area_protect.proofs.Stages.{whole_back, looked_held, looked_back, looked_round, counts_on}
use Rattle.area_protect.proofs.steps.hold_area.Goals as goal

-- another sequence word than the one that was found says that a call under everything came between; what is asked for
-- is the area with a page on each side
pub returns-then-sequence-found : goal.returns-then-sequence-found
returns-then-sequence-found g c =
    let a = c.acquire in let q = c.sequence-sequence in let l = c.look-second in let d = c.release in
    let some : IsSome a.new.caller.seat.held = rw a.ensures.held in
    let looked = looked_round c.args.caller.now a.new.caller q.new.caller l.new.caller d.new.caller a.ensures.call a.ensures.left a.ensures.rest
    q.ensures.reading q.ensures.left l.ensures.look l.ensures.left d.ensures.release d.ensures.left in
    record {
      looked = looked.0;
      asks = asks_kept (for_only a.ensures.asks) (d.ensures.release.asked ∙ (ap (λ (t : Record). t.asked) l.ensures.look.step.trace ∙ q.ensures.reading.asked));
      held = (
        d.ensures.release.held,
        looked.1,
        whole_back d.ensures.release l.result q.result
            (look_counts q.result l.ensures.look (q.ensures.reading.read.pending ∙ a.ensures.rest) (q.ensures.counts some)),
        c.if-sequence-found.true,
      );
    }

-- a row with the boundaries that were found is that of the area, which the caller holds
pub returns-in-Some-clause-held : goal.returns-in-Some-clause-held
returns-in-Some-clause-held g c =
    let a = c.acquire in let q = c.sequence-sequence in let r = c.row_of-row in
    let some : IsSome a.new.caller.seat.held = rw a.ensures.held in
    let lo = c.if-row-found.true in let hi = c.if-row-found-2.true in
    record {
      holds = record {
        held = r.ensures.reading.held ∙ (q.ensures.reading.held ∙ a.ensures.held);
        round = (c.requires.wide.first ∙ ap (λ (n : ℕ). n - 1) (sym lo), c.requires.wide.end ∙ ap (λ (n : ℕ). min (n + 1) LIMIT) (sym hi));
        kind_is = c.in-Some.is;
        named = subst (λ (k : Option Kind). IsNamedOption k) c.in-Some.is r.ensures.named;
        read = r.ensures.read;
        shows = subst (λ (h : Option Held). Shows r.new.caller.seat (RowIs h c.args.page r.result)) (sym r.ensures.reading.held) r.ensures.shows;
      };
      lo = lo;
      hi = hi;
      whole = subst (λ n. CountsWhole r.new.caller.seat n) c.if-sequence-found.false (counts_on q.result r.ensures.reading (q.ensures.counts some));
    }

-- also where it is held
pub returns-in-Some-clause-asks : goal.returns-in-Some-clause-asks
returns-in-Some-clause-asks g c = asks_kept (for_only c.acquire.ensures.asks) (c.row_of-row.ensures.reading.asked ∙ c.sequence-sequence.ensures.reading.asked)

-- and where its boundaries have moved
pub returns-in_default-clause-asks : goal.returns-in_default-clause-asks
returns-in_default-clause-asks g c = asks_kept (for_only c.acquire.ensures.asks)
    (c.release-in_default.ensures.release.asked ∙ (c.row_of-row.ensures.reading.asked ∙ c.sequence-sequence.ensures.reading.asked))

-- a row that is held was looked at
pub returns-in-Some-clause-looked : goal.returns-in-Some-clause-looked
returns-in-Some-clause-looked g c =
    let a = c.acquire in let q = c.sequence-sequence in let r = c.row_of-row in
    looked_held c.args.caller.now a.new.caller r.new.caller a.ensures.call a.ensures.left a.ensures.rest
    (reading_on a.new.caller.seat q.new.caller.seat r.new.caller.seat q.ensures.reading r.ensures.reading) (r.ensures.left ∙ q.ensures.left)

-- and one with other boundaries, which is given back
pub returns-in_default-clause-looked : goal.returns-in_default-clause-looked
returns-in_default-clause-looked g c =
    let a = c.acquire in let q = c.sequence-sequence in let r = c.row_of-row in let d = c.release-in_default in
    looked_back c.args.caller.now r.new.caller d.new.caller
    (looked_held c.args.caller.now a.new.caller r.new.caller a.ensures.call a.ensures.left a.ensures.rest
    (reading_on a.new.caller.seat q.new.caller.seat r.new.caller.seat q.ensures.reading r.ensures.reading) (r.ensures.left ∙ q.ensures.left))
    d.ensures.release d.ensures.left
