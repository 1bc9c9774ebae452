use Rattle.std.proofs.Common.{◌≡◌, ◌∷◌, [], length, ap, rules, arith}
use Rattle.std.proofs.lemmas.List.{length-append}
use Rattle.raw_logs.specs.declared.told.Form.TheVariants.{Whole}
use Rattle.raw_logs.specs.Buffer.{kept_in}
use Rattle.raw_logs.specs.Stages.{keeps}
use Rattle.raw_logs.proofs.PickFacts.{short_behind, keeps_whole, passed_kept}
use Rattle.raw_logs.proofs.SieveFacts.{left_line}
use Rattle.raw_logs.proofs.choosing.pass.Goals as goal

-- the line is kept behind the others
pub returns-then-here-clause-kept : goal.returns-then-here-clause-kept
returns-then-here-clause-kept c = λ line more rest is.
    let whole : c.args.told.form ≡ Whole = search rules in
    passed_kept (kept_in c.args.sieve.now) (kept_in c.keep.new.self) line rest (keeps c.args.told.form c.args.here)
    (keeps_whole c.args.told.form c.args.here whole c.if-here.true) (c.keep.ensures.kept line more is)

-- so they are one more
pub returns-then-here-clause-few : goal.returns-then-here-clause-few
returns-then-here-clause-few c =
    let x = left_line _ c.requires.left in
    let k = ap length (c.keep.ensures.kept x.0 x.1 x.2) in
    let a = length-append (kept_in c.args.sieve.now) (x.0 ∷ []) in
    omega arith

-- and none is too long
pub returns-then-here-clause-short : goal.returns-then-here-clause-short
returns-then-here-clause-short c = λ line more is tells short.
    let whole : c.args.told.form ≡ Whole = search rules in
    short_behind (kept_in c.args.sieve.now) (kept_in c.keep.new.self) line c.args.told tells whole short (c.keep.ensures.kept line more is)
