use Rattle.std.proofs.Common.{ℕ, ◌+◌, ◌-◌, ◌∙◌, ap, subst, sym}
use Rattle.std.specs.Prelude.{Option, min}
use Rattle.page_types.specs.declared.TheConstants.{LIMIT}
use Rattle.page_types.specs.declared.calls.Kind.{Kind}
use Rattle.page_types.specs.Named.{IsNamedOption}
use Rattle.lock_core.specs.declared.range.Held.{Held}
use Rattle.area_rows.specs.Callers.{RowIs, Shows}
use Rattle.range_rw.proofs.Asking.{asks_kept, for_only}
use Rattle.area_protect.proofs.Stages.{held_and_back, held_and_read}
use Rattle.area_protect.proofs.beside.hold_found.Goals as goal

-- a row with the boundaries that were found is that of the area, which the caller holds
pub returns-in-Some : goal.returns-in-Some
returns-in-Some g c =
    let a = c.acquire in let r = c.row_of-row in
    let lo = c.if-row-area.true in let hi = c.if-row-area-2.true in
    record {
      looked = held_and_read c.args.caller.now a.new.caller r.new.caller a.ensures.call a.ensures.left a.ensures.rest r.ensures.reading r.ensures.left;
      asks = asks_kept (for_only a.ensures.asks) r.ensures.reading.asked;
      held = (
        record {
          held = r.ensures.reading.held ∙ a.ensures.held;
          round = (c.requires.wide.first ∙ ap (λ (n : ℕ). n - 1) (sym lo), c.requires.wide.end ∙ ap (λ (n : ℕ). min (n + 1) LIMIT) (sym hi));
          kind_is = c.in-Some.is;
          named = subst (λ (k : Option Kind). IsNamedOption k) c.in-Some.is r.ensures.named;
          read = r.ensures.read;
          shows = subst (λ (h : Option Held). Shows r.new.caller.seat (RowIs h c.args.page r.result)) (sym r.ensures.reading.held) r.ensures.shows;
        },
        lo,
        hi,
      );
    }

-- what is asked for is the area, also where its boundaries have moved
pub returns-in_default-clause-asks : goal.returns-in_default-clause-asks
returns-in_default-clause-asks g c = asks_kept (for_only c.acquire.ensures.asks) (c.release.ensures.release.asked ∙ c.row_of-row.ensures.reading.asked)
