-- What a caller has to write its seat has to write, and where it may plan its seat may load all rows, as `plan_words`
-- asks for it.
use Rattle.std.proofs.Common.{◌≡◌, ℕ, ◌+◌, ◌*◌, ◌<◌, ◌≤◌, List, length, sym, ap, ◌∙◌, subst, arith}
use Rattle.std.specs.Prelude.{All}
use Rattle.page_types.specs.declared.TheConstants.{LIMIT}
use Rattle.range_rw.specs.Contract.{SeatState, TableShape}
use Rattle.row_blocks.specs.declared.positions.Position.{Position}
use Rattle.area_guard.specs.declared.guard.Pass.{Pass}
use Rattle.area_guard.specs.declared.guard.Splice.{Splice}
use Rattle.area_guard.specs.declared.guard.Pending.TheVariants.{Planned}
use Rattle.area_guard.specs.Rows.{blocks_by, room_of}
use Rattle.area_guard.specs.History.{rows_after}
use Rattle.row_plans.specs.RowWords.{row_start}
use Rattle.area_guard.specs.Reads.{known_count, known_rows, KnowsBlocks}
use Rattle.plan_words.specs.Places.{number_at, splice_at}
use Rattle.plan_words.specs.Writing.{WritesPlan, plan_at, splice_in}
use Rattle.plan_words.specs.Reading.{MayLoadAll}
use Rattle.area_rows.specs.Callers.{CallerView, HasToWrite, MayPlan, plan_of}
use Rattle.area_rows.proofs.Moments.{starts_below}

-- where a caller may plan its seat may load all rows
pub may_load : (shape : TableShape) {nb count : ℕ} {s : SeatState Pass} → 36 + 129 * nb ≤ shape.client → nb ≡ blocks_by shape.table → nb ≤ 2048
    → s.pass.blocks ≡ blocks_by s.table → MayPlan shape.table count s → MayLoadAll shape nb count s
may_load shape {nb} {count} {s} wide is few blocks may =
    let all : s.pass.blocks ≡ nb = blocks ∙ (ap blocks_by may.table_is ∙ sym is) in
    record {
      holds = record { wide = omega arith; few = omega arith; table_is = may.table_is; held = may.held; knows = may.knows.words };
      blocks_are = all;
      rest = may.rest;
      knows = may.knows;
      counted = may.counted;
      fits = subst (λ (n : ℕ). count ≤ room_of n) (sym is) may.fits;
      list = may.list;
    }

-- the same by the space and the caller as the code has them
pub may_load_in : {shape now : TableShape} {v w : CallerView} {nb count : ℕ} → shape ≡ now → v ≡ w → 36 + 129 * nb ≤ shape.client → nb ≡ blocks_by shape.table
    → nb ≤ 2048 → v.seat.pass.blocks ≡ blocks_by v.seat.table → MayPlan now.table count w.seat → MayLoadAll shape nb count v.seat
may_load_in {shape} {count} space caller wide is few blocks may = may_load shape wide is few blocks
    (subst (λ (z : TableShape × CallerView). MayPlan z.0.table count z.1.seat) (λ i. (sym space i, sym caller i)) may)

-- a seat may write its splice: so many rows go from a position on, and these come
pub record IsReady (shape : TableShape) (nb count : ℕ) (at : Position) (gone : ℕ) (more : List ℕ) (seat : SeatState Pass) : Type 0 where
  pub writes : WritesPlan shape seat
  pub blocks : seat.pass.blocks ≡ nb
  pub stands : KnowsBlocks seat.pass
  pub plan : plan_at seat ≡ splice_at seat.pass at gone more
  pub count_is : count ≡ length (known_rows seat.pass)
  pub counted : known_count seat.pass ≡ count
  pub there : number_at seat.pass at < count
  pub inside : number_at seat.pass at + gone ≤ count
  pub grows : length more ≤ gone + 4
  pub stays : 0 < number_at seat.pass at + gone + length more → 0 < number_at seat.pass at + length more
  pub fits : length (rows_after (plan_at seat)) ≤ room_of nb
  pub some : 0 < length (rows_after (plan_at seat))
  pub low : All (λ w. row_start w ≤ LIMIT) (known_rows seat.pass)
  pub low_after : All (λ w. row_start w ≤ LIMIT) (rows_after (plan_at seat))

-- the seat of a caller that has its plan to write may
pub ready : (shape : TableShape) {nb : ℕ} {v : CallerView} → 36 + 129 * nb ≤ shape.client → nb ≡ blocks_by shape.table → nb ≤ 2048
    → v.seat.table ≡ shape.table → v.seat.pass.blocks ≡ blocks_by v.seat.table → HasToWrite v → IsReady shape nb v.count v.cut.at v.cut.gone v.more v.seat
ready shape {nb} {v} wide is few table blocks has =
    let plan : plan_at v.seat ≡ plan_of v = ap splice_in has.pending in
    let known = has.known in let counted = known.counted in
    let all : v.seat.pass.blocks ≡ nb = blocks ∙ (ap blocks_by table ∙ sym is) in
    record {
      writes = record {
        holds = record { wide = omega arith; few = omega arith; table_is = table; held = has.held; knows = known.rows.words };
        pending = has.pending ∙ ap Planned (sym plan);
      };
      blocks = all;
      stands = known.rows.blocks;
      plan = plan;
      count_is = counted;
      counted = known.rows.counted ∙ sym counted;
      there = let at = known.at in omega arith;
      inside = let there = known.there in omega arith;
      grows = known.grows;
      stays = known.stays;
      fits = subst (λ (z : ℕ × Splice). length (rows_after z.1) ≤ room_of z.0) (λ i. (all i, sym plan i)) has.fits;
      some = subst (λ (p : Splice). 0 < length (rows_after p)) (sym plan) has.some;
      low = starts_below 0 _ _ known.list.show;
      low_after = subst (λ (p : Splice). All (λ w. row_start w ≤ LIMIT) (rows_after p)) (sym plan) has.low;
    }
