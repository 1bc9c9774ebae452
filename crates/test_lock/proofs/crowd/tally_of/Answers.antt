use Rattle.std.proofs.Common.{ℕ, ◌≡◌, ◌+◌, ◌*◌, ◌%◌, ◌^◌, ◌<◌, List, ◌∷◌, [], map, length, rules, arith, sym, ap, ◌∙◌, subst}
use Rattle.std.specs.Prelude.{drop, replicate, None}
use Rattle.std.proofs.lemmas.List.{take_at}
use Rattle.lock_core.proofs.ByPlace.{same_or}
use Rattle.range_rw.specs.Contract.{SeatState, AreNewSeats, pass_in}
use Rattle.test_lock.specs.declared.tally.Brought.{Brought}
use Rattle.test_lock.specs.Tally.{IsTallied, first_share}
use Rattle.test_lock.proofs.Tallying.{tally_left}
use Rattle.test_lock.proofs.crowd.tally_of.Goals as goal

-- the word at the closing is the first one and what all seats have added
pub returns : goal.returns
returns g c =
    let some_word : 0 < length c.in-Ok-close.words.items = search rules in
    let all : length c.as_mut_slice.result.now ≡ c.args.seats = ap length c.as_mut_slice.ensures.value ∙ c.in-Ok.ensures.shape.2 in
    let same : length c.add_all.new.seats ≡ length c.as_mut_slice.result.now = search rules in
    let back = take_at c.add_all.new.seats (drop (length c.add_all.new.seats) c.in-Ok.all.items) c.in-Ok.all.len
    (let z = ap length c.as_mut_slice.ensures.value in omega (arith, same, c.in-Ok.all.ok.0)) in
    let begun : AreNewSeats c.in-Ok.table.table (first_share (c.args.word ∷ [])) c.as_mut_slice.result.now =
    subst (AreNewSeats c.in-Ok.table.table (first_share (c.args.word ∷ []))) (sym c.as_mut_slice.ensures.value) c.in-Ok.ensures.new in
    record {
      exact = c.index.ensures ∙ (same_or c.in-Ok-close.words.items 0 c.index.result.now 0 some_word
          ∙ (tally_left c.in-Ok.table.table c.args.word c.args.turns c.as_mut_slice.result.now c.add_all.new.seats _
          c.in-Ok-close.words.items (let z = c.requires.seats.0 in omega (arith, all)) same begun c.add_all.ensures.added
          (subst (λ (l : List (SeatState Brought)). IsTallied (replicate c.in-Ok.table.seats None) c.in-Ok-close.words.items
          (map pass_in l)) back c.in-Ok-close.ensures.guard) ∙ ap (λ (n : ℕ). (c.args.word + n * c.args.turns) % 2 ^ 64) all));
    }
