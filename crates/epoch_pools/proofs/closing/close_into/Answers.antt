use Rattle.std.proofs.Common.{◌∙◌, ◌*◌, ap, drop, sym}
use Rattle.std.specs.Mem.Slots.{slots_items}
use Rattle.list_cuts.specs.Cut.{list_count}
use Rattle.lock_core.specs.Words.{word_count}
use Rattle.epoch_pools.proofs.Joining.{closed}
use Rattle.epoch_pools.proofs.closing.close_into.Goals as goal

-- the words that were copied meet the guard with no grant
pub returns-clause-guard : goal.returns-clause-guard
returns-clause-guard g c = let shape = c.list.view_is in
    closed _ c.args.list.cut c.list.inside.table.shared.key.seats c.args.list.seats _ g.G.Guard.holds c.list.inside.table.shared.table_id
    c.args.list.table c.args.hands.items c.join_all-all.result.id c.join_all-all.result.me.0 _ c.copy_words.new.out.items _
    (c.list.invariant.same_cut ∙ ap (λ s. s.cut) shape) (c.list.invariant.same_seats ∙ ap (λ s. s.seats) shape) c.requires.count
    c.requires.idle c.requires.others
    c.join_all-all.ensures.parts (c.copy_words.ensures ∙ ap (λ n. drop n (slots_items c.close_with-closed.result.words)) (c.list.invariant.begins
    ∙ (λ i. list_count (ap (λ s. s.cut) shape i) * word_count (ap (λ s. s.seats) shape i)))) c.close_with-closed.ensures.values.2

-- the hands are all of the list's table
pub join_all-all-requires-clause-tables : goal.join_all-all-requires-clause-tables
join_all-all-requires-clause-tables g c = λ k s at. (c.requires.idle k s at).0 ∙ sym (ap (λ l. l.table) c.list.view_is)
