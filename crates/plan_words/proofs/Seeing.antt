-- With a word of the layout a caller that holds everything knows all words of the blocks, and the rows that stand
-- there.
use Rattle.std.proofs.Common.{Bool, ◌≡◌, ℕ, zero, suc, ◌+◌, ◌*◌, ◌<◌, ◌≤◌, List, ◌++◌, drop, length, sym, refl, ap, ◌∙◌, subst, arith, inl, inr}
use Rattle.std.proofs.lemmas.List.{get_or-drop}
use Rattle.std.specs.Prelude.{Option, slice_index}
use Rattle.page_types.specs.declared.calls.Kind.{Kind}
use Rattle.area_guard.specs.declared.guard.ReadRow.{ReadRow}
use Rattle.area_guard.specs.declared.guard.Pass.{Pass}
use Rattle.area_guard.specs.Rows.{nb_in, layout_in, rows_in, RowsShow}
use Rattle.area_guard.specs.Reads.{HasRead, noted_at}
use Rattle.area_guard.specs.History.{HasBlocks, after_seen}
use Rattle.area_guard.specs.Slots.{layout_long}
use Rattle.row_blocks.specs.Blocks.{run, blocks_of, rows_of, IsLaidOut, rows_in as rows_by}
use Rattle.area_guard.specs.Reads.{known_rows, known_words, KnowsWords, KnowsBlocks}
use Rattle.plan_words.proofs.Knowing.{known_long}
use Rattle.row_blocks.specs.Gaps.{GapsTold}
use Rattle.area_guard.specs.Alike.{also_laid, also_rows, also_free, also_short, also_told}

-- the words of numbers from one on are read as they are noted
noted_run : (words : List ℕ) (rows : List ReadRow) (from n k : ℕ) → k < n
    → HasRead (noted_at words (run from n) ++ rows) (from + k) (slice_index words (3 + (from + k)))
noted_run words rows from zero k lt = absurd (omega arith)
noted_run words rows from (suc n) zero lt = let e : from ≡ from + 0 = omega arith in inl (e, ap (λ (m : ℕ). slice_index words (3 + m)) e)
noted_run words rows from (suc n) (suc k) lt =
    let e : suc from + k ≡ from + suc k = omega arith in
    inr (subst (λ (m : ℕ). HasRead (noted_at words (run (suc from) n) ++ rows) m (slice_index words (3 + m))) e
    (noted_run words rows (suc from) n k (omega arith)))

-- a caller that has loaded a word of the layout knows all words
pub seen_words : (words : List ℕ) (p : Pass) {keeps : Bool} → HasBlocks words p.blocks keeps → KnowsWords (after_seen words p)
seen_words words p room = record {
  layout = layout_in words;
  laid = refl;
  long = let l = layout_long words room.1 in omega arith;
  slots = λ slot lt. let e : 0 + slot ≡ slot = omega arith in (
    slice_index words (3 + slot),
    subst (λ (m : ℕ). HasRead (after_seen words p).rows m (slice_index words (3 + m))) e (noted_run words p.rows 0 (128 * nb_in words) slot (omega arith)),
  );
}

-- where each word that it knows stands among words that show kinds, it knows their rows
pub known_blocks : (words : List ℕ) (kinds : ℕ → Option Kind) (pass : Pass) {keeps : Bool} → HasBlocks words pass.blocks keeps
    → RowsShow words kinds → KnowsWords pass
    → ((t : ℕ) → t < 129 * pass.blocks + 1 → slice_index (known_words pass) t ≡ slice_index words (3 + t))
    → KnowsBlocks pass × (known_rows pass ≡ rows_in words)
known_blocks words kinds pass room s k at =
    let blocks : List ℕ = drop 3 words in
    let nb : nb_in words ≡ pass.blocks = sym room.0 in
    let long = known_long k in
    let fits : 129 * pass.blocks + 1 ≤ length (known_words pass) = omega arith in
    let laid : IsLaidOut pass.blocks blocks = subst (λ (n : ℕ). IsLaidOut n blocks) nb s.laid in
    let free : blocks_of pass.blocks blocks < pass.blocks = subst (λ (n : ℕ). blocks_of n blocks < n) nb s.free in
    let short : rows_of pass.blocks blocks 0 < 64 = subst (λ (n : ℕ). rows_of n blocks 0 < 64) nb s.short in
    let told : GapsTold pass.blocks blocks = subst (λ (n : ℕ). GapsTold n blocks) nb s.told in
    let same : (t : ℕ) → t < 129 * pass.blocks + 1 → slice_index (known_words pass) t ≡ slice_index blocks t =
    λ (t : ℕ) lt. at t lt ∙ sym (get_or-drop 3 words t 0) in (
      record {
        laid = also_laid (known_words pass) laid fits same;
        free = also_free (known_words pass) laid fits same free;
        short = also_short (known_words pass) laid fits same free short;
        told = also_told (known_words pass) laid fits same told;
      },
      also_rows (known_words pass) laid fits same ∙ ap (λ (n : ℕ). rows_by n blocks) (sym nb),
    )
