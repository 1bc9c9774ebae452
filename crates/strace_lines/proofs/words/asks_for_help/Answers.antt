use Rattle.std.proofs.Common.{codes, inl, inr, refl, sym, ◌∙◌}
use Rattle.std.specs.String.{string_bytes}
use Rattle.std.proofs.lemmas.Slice.Eq.{bytes_eq-Decides}
use Rattle.strace_lines.proofs.WordLemmas.{among, not_yet, not_at_all}
use Rattle.strace_lines.proofs.words.asks_for_help.Goals as goal

-- a word is the long spelling
pub returns-then-eq : goal.returns-then-eq
returns-then-eq c =
    let same = (bytes_eq-Decides c.as_str.result.now (codes "--help")).0 (sym c.eq.ensures ∙ c.if-eq.true) in (
      λ _. inl (among string_bytes c.args.words.now c.words.word-index c.word-item.result (codes "--help") c.words-test.true c.word-item.is
          (sym c.as_str.ensures.value ∙ same)),
      λ _. refl,
    )

-- or the short one
pub returns-then-eq-2 : goal.returns-then-eq-2
returns-then-eq-2 c =
    let same = (bytes_eq-Decides c.as_str-in-words.result.now (codes "-h")).0 (sym c.eq-in-words.ensures ∙ c.if-eq-2.true) in (
      λ _. inr (among string_bytes c.args.words.now c.words.word-index c.word-item.result (codes "-h") c.words-test.true c.word-item.is
          (sym c.as_str-in-words.ensures.value ∙ same)),
      λ _. refl,
    )

-- or neither, and then none up to it asks for help
pub words-preserved : goal.words-preserved
words-preserved c =
    let first = bytes_eq-Decides c.as_str.result.now (codes "--help") in
    let second = bytes_eq-Decides c.as_str-in-words.result.now (codes "-h") in
    not_yet string_bytes c.args.words.now c.words.word-index c.word-item.result c.words-test.true c.word-item.is c.words.invariant
    (λ e. absurd (cc (first.1 (c.as_str.ensures.value ∙ e), c.eq.ensures, c.if-eq.false)))
    (λ e. absurd (cc (second.1 (c.as_str-in-words.ensures.value ∙ e), c.eq-in-words.ensures, c.if-eq-2.false)))

-- so at the end none does
pub returns : goal.returns
returns c = (
  λ no. absurd (cc no),
  λ asks. absurd (not_at_all string_bytes c.args.words.now c.words.word-index c.words-test.false c.words.invariant asks),
)
