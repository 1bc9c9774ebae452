use Rattle.std.proofs.Common.{rules, ◌≡◌, ◌+◌, ◌∷◌, suc, true, length, drop, map, sym, ap, ◌∙◌, add-one, drop-cons}
use Rattle.std.proofs.lemmas.List.Sums.{sum_by-cons}
use mathlib.Core.Option.{some}
use lib.ListN.{get_elem?}
use Rattle.atomic_table.proofs.Lists.{at_index}
use Rattle.area_guard.specs.Rows.{keeps_by}
use Rattle.area_guard.specs.History.{own_count}
use Rattle.area_rows.specs.Callers.{CallerView}
use Rattle.area_rows.specs.Closing.{callers_count, caller_pass}
use Rattle.area_rows.proofs.close.count_entries.Goals as goal

-- a caller stores all its entries, where its space keeps them
pub callers-preserved : goal.callers-preserved
callers-preserved c =
    let own = c.caller.invariant in
    let at : get_elem? c.args.callers.now c.callers.caller-index ≡ some c.caller-item.result =
    at_index c.args.callers.now c.callers.caller-index c.caller-item.result (search rules) (search rules) in
    let keeps : c.caller.inside.keeps ≡ true = own.9 ∙ (ap (λ (v : CallerView). keeps_by v.seat.table) c.caller.view_is
    ∙ c.requires.keep c.callers.caller-index c.caller-item.result at) in
    let mine : length c.caller.inside.mine.items ≡ length c.caller.inside.seat.pass.mine = ap length (own.1 keeps) in
    let item = c.caller-item.result in
    let l = c.args.callers.now in
    let i = c.callers.caller-index in
    let next : drop i l ≡ item ∷ drop (i + 1) l = rw add-one (drop-cons l i item (search rules)
    ∙ ap (λ (x : CallerView). x ∷ drop (suc i) l) (sym (search rules))) in
    let more : callers_count (drop i l) ≡ length item.seat.pass.mine + callers_count (drop (i + 1) l) =
    ap callers_count next ∙ sum_by-cons own_count (caller_pass item) (map caller_pass (drop (i + 1) l)) in
    let same = ap (λ (v : CallerView). length v.seat.pass.mine) c.caller.view_is in
    search (rules, mine, more, same)
