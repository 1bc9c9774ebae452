use Rattle.std.proofs.Common.{◌≡◌, ◌+◌, ◌++◌, ◌≤◌, [], ◌∷◌, length, drop, get_or, sym, ap, subst, ◌∙◌, arith}
use Rattle.std.proofs.lemmas.List.{drop_more, get_or_default}
use Rattle.raw_logs.specs.Log.{Numbered, line_of}
use Rattle.raw_logs.specs.Buffer.{kept_in, rest_in}
use Rattle.raw_logs.specs.Spaces.{has_line}
use Rattle.raw_logs.specs.Stages.{kept_from}
use Rattle.raw_logs.specs.Told.{Tells}
use Rattle.raw_logs.proofs.PickFacts.{kept_more, kept_all, told_at, none_short, some_left}
use Rattle.raw_logs.proofs.choosing.chosen.Goals as goal

-- no line was looked at
pub places-init : goal.places-init
places-init c = (
  λ process made count tolds choose told.
      ap (λ x. x ++ kept_from (has_line process made count) c.args.start c.args.lines tolds) c.new-sieve.ensures.kept,
  subst (λ x. length x ≤ c.args.start) (sym c.new-sieve.ensures.kept) (omega arith),
  none_short (kept_in c.new-sieve.result) c.new-sieve.ensures.kept,
  c.new-sieve.ensures.is,
  c.new-sieve.ensures.rest,
)

-- a line more
pub places-preserved : goal.places-preserved
places-preserved c =
    let i = c.places.invariant in
    let lines = c.args.lines in
    let place = c.places.place in
    let none : Numbered = line_of 0 [] in
    let line : Numbered = get_or lines place none in
    let left = drop_more lines place none (omega arith) in
    let rest : rest_in c.places.sieve ≡ line ∷ drop (place + 1) lines = i.4 ∙ left in
    let seen = c.in_ok-text.ensures line (drop (place + 1) lines) rest in
    let tells : Tells line.text c.told_of-told.result =
    subst (λ x. Tells x c.told_of-told.result) (ap (λ (x : Numbered). x.text) (sym seen)) c.told_of-told.ensures in
    let few = c.pass.ensures.few in
    let were = i.1 in (
      λ process made count tolds choose told.
          kept_more (has_line process made count) lines (kept_in c.places.sieve) (kept_in c.pass.new.sieve)
          (kept_from (has_line process made count) c.args.start lines tolds) tolds place line c.told_of-told.result c.has-here.result
          (i.0 process made count tolds choose told) left
          (told_at lines tolds place line c.told_of-told.result told (omega arith) (get_or_default lines place none line (omega arith)) tells)
          (c.has-here.ensures process made count choose) (λ others. c.pass.ensures.kept line (drop (place + 1) lines) others rest),
      omega arith,
      c.pass.ensures.short line (drop (place + 1) lines) rest tells i.2,
      c.pass.ensures.is,
      c.pass.ensures.rest line (drop (place + 1) lines) rest,
    )

-- a line is left
pub next-requires-clause-left : goal.next-requires-clause-left
next-requires-clause-left c =
    let none : Numbered = line_of 0 [] in
    some_left _ _ _ (c.places.invariant.4 ∙ drop_more c.args.lines c.places.place none (omega arith))

pub pass-requires-clause-left : goal.pass-requires-clause-left
pass-requires-clause-left c =
    let none : Numbered = line_of 0 [] in
    some_left _ _ _ (c.places.invariant.4 ∙ drop_more c.args.lines c.places.place none (omega arith))

-- no line is left
pub returns-clause-kept : goal.returns-clause-kept
returns-clause-kept c = λ process made count tolds choose told.
    c.finish.ensures ∙ kept_all (has_line process made count) c.args.lines (kept_in c.places.sieve)
    (kept_from (has_line process made count) c.args.start c.args.lines tolds) tolds c.places.place (omega arith)
    (c.places.invariant.0 process made count tolds choose told)
