use Rattle.std.proofs.Common.{◌-◌, ◌+◌, ◌≡◌, ◌∷◌, [], drop, sym, subst, rules, arith}
use Rattle.std.proofs.lemmas.List.{drop_all}
use Rattle.raw_logs.specs.Log.{line_of}
use Rattle.raw_logs.specs.Told.{AreTold, all_told, line_told}
use Rattle.raw_logs.specs.Stages.{HasMade}
use Rattle.raw_logs.proofs.TextLists.{lines_from}
use Rattle.raw_logs.proofs.spaces.all_made.Goals as goal

-- no line was taken
pub lines-init : goal.lines-init
lines-init c = ([], subst (λ x. AreTold x []) (sym (drop_all _ c.args.lines.now (omega arith))) all_told, search rules)

-- a line more
pub lines-preserved : goal.lines-preserved
lines-preserved c =
    let i = c.lines.invariant in
    let next : c.lines.place ≡ c.lines.place - 1 + 1 = omega arith in
    let line = line_of c.in_ok-text.field-0-0 c.in_ok-text.text.now in
    let more = lines_from c.args.lines.now (c.lines.place - 1) c.lines.place line (omega arith) next c.in_ok-text.ensures in (
      c.told_of.result ∷ i.0,
      subst (λ x. AreTold x (c.told_of.result ∷ i.0)) (sym more) (line_told c.told_of.ensures i.1),
      c.in_ok-take.ensures i.0 (subst (λ n. HasMade c.lines.makers n i.0) next i.2),
    )

-- all lines
pub returns : goal.returns
returns c =
    let i = c.lines.invariant in
    let first : c.lines.place ≡ 0 = omega arith in (
      i.0,
      subst (λ n. AreTold (drop n c.args.lines.now) i.0) first i.1,
      (subst (λ n. HasMade c.lines.makers n i.0) first i.2).made,
    )
