-- The numbers by which answers go to C, and how many rounds of a call were refused before its next one. They are this
-- project's own, and `gz_space.h` has the same numbers as an enum. No two answers have one code. Those after which a
-- call is made again come first.
use Rattle.std.specs.Prelude.{◌+◌, ℕ, nat_lt, if◌then◌else◌}
use Rattle.word_rows.specs.declared.backoff.TheConstants.{REFUSED_ROUNDS}
use Rattle.c_handles.specs.Handles.{SaysBy}
use Rattle.space_c.specs.declared.answers.Answer.{Answer}
use Rattle.space_c.specs.declared.answers.Answer.TheVariants.{Done, Later, AtOnce, Holds, HasNone, Closed, Open, Memory, Callers, BadCut, NoneLeft}
use Rattle.space_c.specs.declared.answers.Answer.TheVariants.{BadCall, Spent}

-- the code of an answer
abbrev pub code_of : Answer → ℕ
code_of Done = 0
code_of Later = 1
code_of AtOnce = 2
code_of Holds = 3
code_of HasNone = 4
code_of Closed = 5
code_of Open = 6
code_of Memory = 7
code_of Callers = 8
code_of BadCut = 9
code_of NoneLeft = 10
code_of BadCall = 11
code_of Spent = 12

-- a code is that of an answer of which this holds
abbrev pub Says : (Answer → Type 0) → ℕ → Type 0
Says Of code = SaysBy code_of Of code

-- how many rounds of a call were refused since its last one with further looks, once it was answered, by how many were
-- before; none once it is done. Where it isn't made again the number stays
abbrev pub round_after : Answer → ℕ → ℕ
round_after Done refused = 0
round_after Later refused = if nat_lt refused REFUSED_ROUNDS then refused + 1 else 0
round_after AtOnce refused = if nat_lt refused REFUSED_ROUNDS then refused else 0
round_after answer refused = refused
