use Rattle.std.proofs.Common.{◌-◌, ◌+◌, ◌≡◌, [], length, false, None, sym, ap, subst, ◌∙◌, arith}
use Rattle.raw_logs.specs.declared.counts.Counts.{Counts}
use Rattle.raw_logs.specs.Log.{line_of}
use Rattle.raw_logs.specs.Spaces.{has_line}
use Rattle.raw_logs.specs.Stages.{HasPicked}
use Rattle.raw_logs.proofs.PickFacts.{look_none, start_within, told_at}
use Rattle.raw_logs.proofs.TextLists.{lines_from}
use Rattle.raw_logs.proofs.choosing.pick.Goals as goal

-- no line was looked at
pub lines-init : goal.lines-init
lines-init c = (
  λ process made count tolds choose told.
      look_none (has_line process made count) c.args.lines.now tolds c.len-place.result _ (omega (arith, c.len-place.ensures))
      (ap (λ (k : Counts). record { lines = []; counts = k; ended = false; unknown = None; too_long = None }) c.new.ensures)
      (c.len.ensures ∙ sym c.len-place.ensures),
  omega (arith, c.len.ensures),
)

-- a line more
pub lines-preserved : goal.lines-preserved
lines-preserved c =
    let next : c.lines.place ≡ c.lines.place - 1 + 1 = omega arith in
    let lines = c.args.lines.now in
    let line = line_of c.in_ok-number.number c.in_ok-number.text.now in (
      λ process made count tolds choose told.
          c.look.ensures.picked (has_line process made count) lines tolds c.in_ok-number.text.now
          (subst (λ n. HasPicked (has_line process made count) lines tolds n c.lines.picker) next (c.lines.invariant.0 process made count tolds choose told))
          (lines_from lines (c.lines.place - 1) (c.lines.place - 1 + 1) line (omega arith) (omega arith) c.in_ok-number.ensures)
          (told_at lines tolds (c.lines.place - 1) line c.told_of-told.result told (omega arith) c.in_ok-number.ensures c.told_of-told.ensures)
          (c.has-here.ensures process made count choose),
      start_within c.lines.picker.ended c.lines.picker.start (c.lines.place - 1) (length lines) c.look.new.self.start c.look.ensures.start c.lines.invariant.1
          (omega arith),
    )

-- all lines were
pub returns-clause-picked : goal.returns-clause-picked
returns-clause-picked c = λ process made count tolds choose told.
    let first : c.lines.place ≡ 0 = omega arith in
    subst (λ n. HasPicked (has_line process made count) c.args.lines.now tolds n c.lines.picker) first
    (c.lines.invariant.0 process made count tolds choose told)
