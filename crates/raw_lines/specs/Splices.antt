-- A text in three parts: the middle one stands for bytes that were there before. A mend of a line gives its parts,
-- which are slices of the line but for the middle, so that nothing is copied before a mend is known to apply.
use Rattle.std.specs.Prelude.{ℕ, List, ◌++◌}
use Rattle.raw_lines.specs.declared.mends.Splice.{Splice}

-- the three parts, one behind the other
abbrev pub whole : Splice → List ℕ
whole splice = splice.front.now ++ (splice.middle.now ++ splice.back.now)
