use Rattle.std.proofs.Common.{◌≡◌, ℕ, sym, subst}
use Rattle.std.proofs.lemmas.Bool.Decides.{Decides-eqb, Decides-like}
use Rattle.strace_reader.specs.Grammar.{IsCut}
use Rattle.raw_lines.specs.Mends.{AreOfOne}
use Rattle.raw_lines.proofs.MendFacts.{one_process}
use Rattle.raw_lines.proofs.mends.of_one_process.Goals as goal

-- two lines are of one process where their numbers are the same
pub returns : goal.returns
returns c =
    let text = c.args.text.now in let other = c.args.other.now in let p = c.cut-pid.result.0 in
    let q = c.cut-same.result.0 in let body = c.cut-pid.result.1.now in let behind = c.cut-same.result.1.now in
    Decides-like {P = p ≡ q} {Q = AreOfOne text other} _
    (λ e. (p, body, behind, c.cut-pid.ensures, subst (λ (x : ℕ). IsCut other x behind) (sym e) c.cut-same.ensures))
    (λ h. one_process text other p q body behind c.cut-pid.ensures c.cut-same.ensures h) (Decides-eqb p q)
