-- What steps that read words leave of a caller, and what a caller that holds everything may load of all rows: it knows
-- them, and knows the same afterwards. These are the parts of `Rows` for a space, with its laws, whose proofs a reader
-- who trusts the check may pass over.
use Rattle.std.proofs.Common.{◌≡◌, ◌<◌, ◌≤◌, ◌∙◌, ℕ, List, length, sym, refl, ap, subst, arith}
use Rattle.range_rw.specs.Contract.{SeatState, TableShape}
use Rattle.row_blocks.specs.declared.positions.Position.{Position}
use Rattle.row_blocks.specs.Blocks.{IsLaidOut, blocks_of, rows_of, rows_in}
use Rattle.row_plans.specs.Plans.{IsRowList}
use Rattle.row_blocks.specs.Gaps.{GapsTold}
use Rattle.area_guard.specs.declared.guard.Pass.{Pass}
use Rattle.area_guard.specs.Rows.{room_of}
use Rattle.area_guard.specs.History.{IsAtRest}
use Rattle.area_guard.specs.Reads.{known_count, known_rows, known_words, KnowsRows, KnowsWords}
use Rattle.plan_words.specs.Places.{number_in, number_at}
use Rattle.plan_words.specs.Writing.{HoldsWords, IsCountedOn, KeepsRead}

-- steps that read words: the seat holds what it held, has seen and numbered what it had, and keeps what it had read and
-- its pools; each of them is counted since its last draw
pub record IsReading (before after : SeatState Pass) : Type 0 where
  pub table : after.table ≡ before.table
  pub number : after.number ≡ before.number
  pub held : after.held ≡ before.held
  pub pools : after.pools ≡ before.pools
  pub further : after.further ≡ before.further
  pub start : after.pass.start ≡ before.pass.start
  pub seen : after.pass.seen ≡ before.pass.seen
  pub mine : after.pass.mine ≡ before.pass.mine
  pub looks : after.pass.looks ≡ before.pass.looks
  pub taken : before.trace.taken ≤ after.trace.taken
  pub counted : IsCountedOn before after
  pub asked : after.trace.asked ≡ before.trace.asked
  pub read : KeepsRead before.pass after.pass

-- a seat of this table may load all rows, of which there are so many, over so many blocks: it holds everything, has
-- nothing to write, and knows the rows, and they are a list of rows for which there is room
pub record MayLoadAll (table : TableShape) (blocks count : ℕ) (seat : SeatState Pass) : Type 0 where
  pub holds : HoldsWords table seat
  pub blocks_are : seat.pass.blocks ≡ blocks
  pub rest : IsAtRest seat.pass
  pub knows : KnowsRows seat.pass
  pub counted : count ≡ length (known_rows seat.pass)
  pub fits : count ≤ room_of blocks
  pub list : IsRowList (known_rows seat.pass)

-- loads by a seat that knows all words of the blocks: they read, and it knows the same words, and the same of the
-- table's blocks, of whether the space keeps its history, and of how many entries it may have
pub record HasLoaded (before after : SeatState Pass) : Type 0 where
  pub reading : IsReading before after
  pub blocks : after.pass.blocks ≡ before.pass.blocks
  pub keeps : after.pass.keeps ≡ before.pass.keeps
  pub most : after.pass.most ≡ before.pass.most
  pub same : known_words after.pass ≡ known_words before.pass
  pub count : known_count after.pass ≡ known_count before.pass
  pub knows : KnowsWords before.pass → KnowsWords after.pass

-- what was read stays read
pub keeps_on : (a b c : Pass) → KeepsRead a b → KeepsRead b c → KeepsRead a c
keeps_on a b c f g = record {
  laid = λ layout e. g.laid layout (f.laid layout e);
  rows = λ index word h. g.rows index word (f.rows index word h);
  sequence = λ n e. g.sequence n (f.sequence n e);
  pending = g.pending ∙ f.pending;
  blocks = g.blocks ∙ f.blocks;
}

-- steps that read words, one after another, are such steps
pub reading_on : (a b c : SeatState Pass) → IsReading a b → IsReading b c → IsReading a c
reading_on a b c f g = let read = keeps_on a.pass b.pass c.pass f.read g.read in search arith

-- no step at all is a reading
pub no_reading : (a : SeatState Pass) → IsReading a a
no_reading a = search arith

-- no load leaves all as it is
pub no_load_all : (seat : SeatState Pass) → HasLoaded seat seat
no_load_all seat = record { reading = no_reading seat; blocks = refl; keeps = refl; most = refl; same = refl; count = refl; knows = λ knows. knows }

-- one load after another is a load
pub loads_on_all : (one two three : SeatState Pass) → HasLoaded one two → HasLoaded two three → HasLoaded one three
loads_on_all one two three f g = let reading = reading_on one two three f.reading g.reading in search (arith, f.knows, g.knows)

-- the words and the blocks are the same together
both_same : (one two : SeatState Pass) → HasLoaded one two
    → ◌≡◌ {A = ℕ × List ℕ} (one.pass.blocks, known_words one.pass) (two.pass.blocks, known_words two.pass)
both_same one two loaded i = (sym loaded.blocks i, sym loaded.same i)

-- the words of the blocks are the same, so the rows are
pub same_rows : (one two : SeatState Pass) → HasLoaded one two → known_rows two.pass ≡ known_rows one.pass
same_rows one two loaded i = rows_in (loaded.blocks i) (loaded.same i)

-- each row has the number that it had
pub same_numbers : (one two : SeatState Pass) → HasLoaded one two → (at : Position) → number_at two.pass at ≡ number_at one.pass at
same_numbers one two loaded at i = number_in (loaded.blocks i) (loaded.same i) at

-- and in one piece
pub same_places : (one two : SeatState Pass) → HasLoaded one two
    → ◌≡◌ {A = Position → ℕ} (λ at. number_at two.pass at) (λ at. number_at one.pass at)
same_places one two loaded i = λ at. same_numbers one two loaded at i

-- the rows that are known are known still
pub still_knows : (one two : SeatState Pass) → HasLoaded one two → KnowsRows one.pass → KnowsRows two.pass
still_knows one two loaded knows =
    let both = both_same one two loaded in
    record {
      words = loaded.knows knows.words;
      blocks = record {
        laid = subst (λ (z : ℕ × List ℕ). IsLaidOut z.0 z.1) both knows.blocks.laid;
        free = subst (λ (z : ℕ × List ℕ). blocks_of z.0 z.1 < z.0) both knows.blocks.free;
        short = subst (λ (z : ℕ × List ℕ). rows_of z.0 z.1 0 < 64) both knows.blocks.short;
        told = subst (λ (z : ℕ × List ℕ). GapsTold z.0 z.1) both knows.blocks.told;
      };
      counted = loaded.count ∙ (knows.counted ∙ ap length (sym (same_rows one two loaded)));
    }

-- the seat may load again, and finds the same words
pub same_known : (table : TableShape) (blocks count : ℕ) (one two : SeatState Pass) → MayLoadAll table blocks count one → HasLoaded one two
    → MayLoadAll table blocks count two × (known_rows two.pass ≡ known_rows one.pass)
same_known table blocks count one two may loaded =
    let e = loaded.blocks in
    let wide = may.holds.wide in
    let few = may.holds.few in
    let rows = same_rows one two loaded in (
      record {
        holds = record {
          wide = omega arith;
          few = omega arith;
          table_is = loaded.reading.table ∙ may.holds.table_is;
          held = loaded.reading.held ∙ may.holds.held;
          knows = loaded.knows may.holds.knows;
        };
        blocks_are = e ∙ may.blocks_are;
        rest = loaded.reading.read.pending ∙ may.rest;
        knows = still_knows one two loaded may.knows;
        counted = may.counted ∙ ap length (sym rows);
        fits = may.fits;
        list = subst IsRowList (sym rows) may.list;
      },
      rows,
    )
