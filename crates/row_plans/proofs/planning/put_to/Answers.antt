use Rattle.std.proofs.Common.{rules, ℕ, ◌≡◌, ◌<◌, ◌≤◌, ◌+◌, ◌∙◌, min, drop, length, get_or, refl, sym, ap, subst, arith}
use Rattle.std.specs.Prelude.{Option, slice_index}
use Rattle.page_types.specs.declared.TheConstants.{LIMIT}
use Rattle.page_types.specs.declared.calls.Kind.{Kind}
use Rattle.space_model.specs.Areas.{kind_at}
use Rattle.row_plans.specs.RowWords.{row_start, row_kind}
use Rattle.row_plans.specs.RowLists.{rows_start, ShowFrom, areas_from}
use Rattle.row_plans.specs.Plans.{IsPlaceOf}
use Rattle.row_plans.specs.Planning.{ShowTo, IsCome, come_to, repainted}
use Rattle.row_plans.proofs.RowPages.{RowPages, row_pages, row_there}
use Rattle.row_plans.proofs.Comes.{come_on, come_kind}
use Rattle.row_plans.proofs.Loading.{HasLoaded, loads_first, loads_on, as_before, as_behind}
use Rattle.row_plans.proofs.planning.put_to.Given.{Over}
use Rattle.row_plans.proofs.planning.put_to.Goals.{In-rows}
use Rattle.row_plans.proofs.planning.put_to.Goals as goal

-- the loads before a turn, as one
begun : (g : Over) (c : In-rows g) → HasLoaded g.R.Rows c.args.old.now c.args.hand.now c.rows.hand
begun g c = loads_first g.R.Rows _ _ _ c.requires.may c.rows.invariant.loaded

-- the next row is there while pages are left
there : (g : Over) (c : In-rows g) → come_to (g.R.Rows.number c.args.old.now c.args.hand.now) c.rows.now
    < length (g.R.Rows.words c.args.old.now c.args.hand.now)
there g c =
    let words = g.R.Rows.words c.args.old.now c.args.hand.now in let number = g.R.Rows.number c.args.old.now c.args.hand.now in
    let hi = c.args.pages.to in
    let below : c.rows.at < hi = search rules in
    let starts : c.rows.at ≡ min c.rows.now.end hi = c.rows.invariant.at_is in
    let end = c.rows.invariant.come.end in
    let limit : hi ≤ LIMIT = c.requires.limit in
    row_there words (come_to number c.rows.now) (omega arith)

-- the next row is there while pages are left
pub go_on-now-requires-clause-there : goal.go_on-now-requires-clause-there
go_on-now-requires-clause-there g c =
    let h = goal.at.go_on-now-requires-clause-there g c in
    as_behind (λ l n. come_to n c.rows.now < length l) (begun g h.In-rows) (there g h.In-rows)

-- its place is known
pub go_on-now-requires-clause-next : goal.go_on-now-requires-clause-next
go_on-now-requires-clause-next g c =
    let h = goal.at.go_on-now-requires-clause-next g c in
    as_behind (λ l n. IsPlaceOf l n (come_to n c.rows.now) c.rows.now.next) (begun g h.In-rows) c.rows.invariant.come.next

-- each turn has a row more to put, and an old one to load
pub put_row-requires-clause-room : goal.put_row-requires-clause-room
put_row-requires-clause-room g c =
    let h = goal.at.put_row-requires-clause-room g c in let inv = c.rows.invariant in let lt = there g h.In-rows in
    let first = ap (g.R.Rows.number c.args.old.now c.args.hand.now) inv.first in
    omega (arith, inv.few, inv.room, c.put_part.ensures.few, c.put_part.ensures.room, c.requires.room)

-- with one old row more, its pages of the stretch are put with their new kind
pub rows-preserved : goal.rows-preserved
rows-preserved g c =
    let h = goal.at.rows-preserved g c in let old = c.args.old.now in let hand = c.args.hand.now in let words = g.R.Rows.words old hand in
    let number = g.R.Rows.number old hand in let inv = c.rows.invariant in let now = begun g h.In-rows in let come = c.rows.now in
    let next = c.go_on-now.result in
    let i : ℕ = come_to number come in
    let at = c.rows.at in let hi = c.args.pages.to in
    let below : at < hi = search rules in
    let starts : at ≡ min come.end hi = inv.at_is in
    let lt : i < length words = there g h.In-rows in
    let to = c.min-at.result in
    let ends : to ≡ min next.end hi = c.min-at.ensures in
    let above : c.args.pages.from ≤ at = inv.above in
    let list = g.R.Rows.are_rows old hand c.requires.may in let on = c.go_on-now.ensures in
    let kind : next.kind ≡ row_kind (slice_index words i) = as_before (λ l n. next.kind ≡ row_kind (slice_index l (come_to n come))) now on.kind in
    let place : IsPlaceOf words number (i + 1) next.next = as_before (λ l n. IsPlaceOf l n (come_to n come + 1) next.next) now on.next in
    let end : next.end ≡ rows_start (drop (i + 1) words) = as_before (λ l n. next.end ≡ rows_start (drop (come_to n come + 1) l)) now on.end in
    let pages : (kinds : ℕ → Option Kind) → ShowFrom 0 words kinds →
    RowPages words kinds i (row_start (get_or words i 0)) (rows_start (drop (i + 1) words)) next.kind = λ kinds show.
    row_pages words kinds i show lt refl kind refl in
    let own = pages (kind_at (areas_from words)) list.show in
    let begins = own.begins in let some = own.some in
    let from : come.end ≡ rows_start (drop i words) = inv.come.end in
    record {
      loaded = (loads_on _ now on.loaded).loaded;
      at_is = ends;
      come =
          come_on words number (kind_at (areas_from words)) at to hi come next list.show inv.come starts below ends lt on.at on.gone kind on.named place end;
      first = on.at ∙ inv.first;
      few = omega (arith, inv.few, c.put_row.ensures.few, on.gone);
      loads = omega (arith, inv.loads, on.steps, on.gone);
      above = omega arith;
      room = search rules;
      gaps = search rules;
      shows = λ from kinds others show kept before.
          let r = pages kinds show in
          c.put_row.ensures.shows from to others (omega arith)
          (λ p low high. kept p (omega arith) (omega arith) ∙ ap (repainted c.args.pages.paint) (r.all p (omega arith) (omega arith))
          ∙ sym c.repainted-in-rows.ensures.kind)
          (inv.shows from kinds others show kept before);
    }

-- where the stretch has no page more, the rows were gone through up to its end
pub returns-clause-come : goal.returns-clause-come
returns-clause-come g c =
    let over : c.args.pages.to ≤ c.rows.at = search rules in
    let starts : c.rows.at ≡ min c.rows.now.end c.args.pages.to = c.rows.invariant.at_is in
    let all : c.rows.at ≡ c.args.pages.to = omega arith in
    subst (λ (x : ℕ). IsCome (g.R.Rows.words c.args.old.now c.args.hand.now) (g.R.Rows.number c.args.old.now c.args.hand.now) x c.rows.now) all
    c.rows.invariant.come

-- and the rows show the new kinds up to the end of the pages
pub returns-clause-shows : goal.returns-clause-shows
returns-clause-shows g c = λ from kinds others show kept before.
    let words = g.R.Rows.words c.args.old.now c.args.hand.now in let number = g.R.Rows.number c.args.old.now c.args.hand.now in
    let inv = c.rows.invariant in let at = c.rows.at in let hi = c.args.pages.to in let lo = c.args.pages.from in let come = c.requires.come in
    let ahead = come.before.ahead in let starts_at = come.end in
    let ordered : lo ≤ hi = c.requires.ordered in
    let end : c.min-end.result ≡ min c.args.come.end hi = c.min-end.ensures in
    let over : hi ≤ at = search rules in
    let starts : at ≡ min c.rows.now.end hi = inv.at_is in
    let all : at ≡ hi = omega arith in
    let part =
    c.put_part.ensures.shows from others (omega arith)
    (λ p low high. kept p low (omega arith)
    ∙ ap (repainted c.args.pages.paint) (come_kind words number kinds lo c.args.come show come p low (omega arith))
    ∙ sym c.repainted.ensures.kind) before in
    subst (λ (x : ℕ). ShowTo from c.rows.rows.items x others) all (inv.shows from kinds others show kept part)
