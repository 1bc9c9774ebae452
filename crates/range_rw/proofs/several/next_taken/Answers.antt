use Rattle.std.proofs.Common.{rules, ◌≡◌, suc, Bool, true, false, sym, ◌∙◌, subst, arith}
use mathlib.Core.Logic.{dite}
use native.Mathlib.Decide.{dec_le}
use Rattle.list_cuts.specs.Cut.{Takes}
use Rattle.range_rw.proofs.several.next_taken.Goals as goal

-- nothing lies before the first one
pub all-init : goal.all-init
all-init c = record { from = search rules; most = search rules; none = λ list a b t. absurd (omega arith) }

-- the list that was asked isn't taken either
pub all-preserved : goal.all-preserved
all-preserved c =
    let i = c.all.invariant in
    record {
      from = let a = i.from in omega arith;
      most = search rules;
      none = λ list a b t. dite (dec_le (suc list) c.all.at)
          (λ less. i.none list a less t)
          (λ no.
          let e : list ≡ c.all.at = omega arith in
          let is = c.takes.ensures.1 (subst (Takes c.args.cut c.args.range) e t) in
          absurd (let z : ◌≡◌ {A = Bool} true false = sym is ∙ c.if-takes.false in cc));
    }

-- none before the one that is taken is
pub returns-then-takes-clause-first : goal.returns-then-takes-clause-first
returns-then-takes-clause-first c = c.all.invariant.none

-- and none up to the end where none is
pub returns-clause-first : goal.returns-clause-first
returns-clause-first c = λ list a b t. c.all.invariant.none list a (let m = c.all.invariant.most in omega arith) t
