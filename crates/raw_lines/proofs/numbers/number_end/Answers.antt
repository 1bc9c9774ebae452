use Rattle.std.proofs.Common.{ℕ, List, length, sym, ap, ◌∙◌, arith}
use Rattle.std.specs.Prelude.{◌==◌}
use Rattle.line_parts.specs.Reading.{digits_of}
use Rattle.line_parts.proofs.Leaves.{not_both}
use Rattle.strace_reader.proofs.FormFacts.{narrow_some, narrow_none}
use Rattle.raw_lines.proofs.NumberEnds.{last_mark, behind, empty_of, number_no_mark, number_word, number_rest, number_some, number_narrow, number_found}
use Rattle.raw_lines.proofs.numbers.number_end.Goals as goal
use Rattle.raw_lines.proofs.numbers.number_end.Goals.{then-not-is_empty-via-then-not-is_empty, then-not-is_empty-via-else-not-is_empty+then-at-text}

-- no byte before digits
pub returns-in_err-at-clause-none : goal.returns-in_err-at-clause-none
returns-in_err-at-clause-none c = λ none. number_no_mark c.args.base c.args.word.now c.args.mark c.args.text.now c.in_err-at.ensures

-- another word before its last place
pub returns-then-not-ends_with-clause-none : goal.returns-then-not-ends_with-clause-none
returns-then-not-ends_with-clause-none c = λ none n h.
    let s = last_mark c.args.base c.args.mark c.args.text.now c.in_ok-at.at c.requires.mark c.in_ok-at.ensures in
    not_both (c.ends_with.ensures.1 (number_word c.args.base c.args.word.now c.args.mark c.args.text.now c.in_ok-at.at n s h)) c.if-not-ends_with.true

-- other bytes behind it, or none
pub returns-then-not-is_empty-clause-none : goal.returns-then-not-is_empty-clause-none
returns-then-not-is_empty-clause-none c = λ none n h.
    let s = last_mark c.args.base c.args.mark c.args.text.now c.in_ok-at.at c.requires.mark c.in_ok-at.ensures in elim c.then-not-is_empty.branch [
      | then-not-is_empty-via-then-not-is_empty w ↦
          let e = c.digits-value.ensures.rest ∙ number_rest c.args.base c.args.word.now c.args.mark c.args.text.now c.in_ok-at.at n s h in
          not_both (c.is_empty.ensures ∙ ap (λ (x : List ℕ). length x == 0) e) w.if-not-is_empty.true
      | then-not-is_empty-via-else-not-is_empty+then-at-text w ↦
          number_some c.args.base c.args.word.now c.args.mark c.args.text.now c.in_ok-at.at n s w.if-at-text.true h
    ]

-- the number
pub returns-in-Some-clause-some : goal.returns-in-Some-clause-some
returns-in-Some-clause-some c =
    let s = last_mark c.args.base c.args.mark c.args.text.now c.in_ok-at.at c.requires.mark c.in_ok-at.ensures in
    let n = narrow_some (digits_of c.args.base 0 (behind c.in_ok-at.at c.args.text.now)).0 c.in-Some.pid (sym c.digits-value.ensures.value ∙ c.in-Some.is) in
    number_found c.args.base c.args.word.now c.args.mark c.args.text.now c.in_ok-at.at c.in-Some.pid s (c.ends_with.ensures.0 c.if-not-ends_with.false)
    (sym c.digits-value.ensures.rest ∙ empty_of c.digits-value.result.1.now c.is_empty.result c.is_empty.ensures c.if-not-is_empty.false)
    c.if-at-text.false n c.if-pid-lt-PIDS.true

-- a wider one
pub returns-in_default-clause-none : goal.returns-in_default-clause-none
returns-in_default-clause-none c = λ none n.
    let s = last_mark c.args.base c.args.mark c.args.text.now c.in_ok-at.at c.requires.mark c.in_ok-at.ensures in
    let v = narrow_some (digits_of c.args.base 0 (behind c.in_ok-at.at c.args.text.now)).0 c.in-Some.pid (sym c.digits-value.ensures.value ∙ c.in-Some.is) in
    let wide = c.if-pid-lt-PIDS.false in number_narrow c.args.base c.args.word.now c.args.mark c.args.text.now c.in_ok-at.at n s (omega arith)

-- one of more than 64 bits
pub returns-in_default-2-clause-none : goal.returns-in_default-2-clause-none
returns-in_default-2-clause-none c = λ none n.
    let s = last_mark c.args.base c.args.mark c.args.text.now c.in_ok-at.at c.requires.mark c.in_ok-at.ensures in
    let v = narrow_none (digits_of c.args.base 0 (behind c.in_ok-at.at c.args.text.now)).0 (sym c.digits-value.ensures.value ∙ c.in_default.is) in
    number_narrow c.args.base c.args.word.now c.args.mark c.args.text.now c.in_ok-at.at n s (omega arith)
