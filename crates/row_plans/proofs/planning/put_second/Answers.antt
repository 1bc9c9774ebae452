use Rattle.std.proofs.Common.{ℕ, ◌≡◌, ◌≤◌, ◌∙◌, [], ◌∷◌, sym, subst, arith}
use Rattle.std.specs.Prelude.{Option}
use Rattle.space_model.specs.declared.paint.Patch.{Patch}
use Rattle.space_model.specs.Effect.{patched, AreRising}
use Rattle.space_model.specs.Cutting.{last_end}
use Rattle.space_model.specs.Judges.{second_of}
use Rattle.space_model.proofs.Changing.{patched-before, patched-inside}
use Rattle.row_plans.specs.RowLists.{ShowFrom}
use Rattle.row_plans.specs.Planning.{ShowTo, IsCome}
use Rattle.row_plans.proofs.Loading.{HasLoaded, loads_first, loads_on, as_before, as_behind}
use Rattle.row_plans.proofs.planning.put_second.Given.{Over}
use Rattle.row_plans.proofs.planning.put_second.Goals.{In-Some, After-put_to-next}
use Rattle.row_plans.proofs.planning.put_second.Goals as goal

-- the second patch lies behind the first one
rising : (g : Over) (c : In-Some g) → AreRising c.args.from (c.in-Some.patch ∷ [])
rising g c = subst (λ (o : Option Patch). AreRising c.args.from (second_of o)) c.in-Some.is c.requires.rising

-- the loads up to it, as one
next : (g : Over) (c : After-put_to-next g) → HasLoaded g.R.Rows c.args.old.now c.args.hand.now c.put_to-next.new.hand
next g c = loads_first g.R.Rows _ _ _ c.requires.may c.put_to-next.ensures.loaded

-- the pages between are in order
pub put_to-next-requires-clause-ordered : goal.put_to-next-requires-clause-ordered
put_to-next-requires-clause-ordered g c = (rising g (goal.at.put_to-next-requires-clause-ordered g c).In-Some).0

-- the rows were gone through up to the second patch
pub put_to-requires-clause-come : goal.put_to-requires-clause-come
put_to-requires-clause-come g c =
    as_behind (λ l n. IsCome l n c.in-Some.patch.lo c.put_to-next.result) (next g (goal.at.put_to-requires-clause-come g c).After-put_to-next)
    c.put_to-next.ensures.come

-- and up to its end
pub returns-clause-come : goal.returns-clause-come
returns-clause-come g c =
    let words = g.R.Rows.words c.args.old.now c.args.hand.now in let number = g.R.Rows.number c.args.old.now c.args.hand.now in
    subst (λ (o : Option Patch). IsCome words number (last_end c.args.from (second_of o)) c.put_to.result) (sym c.in-Some.is)
    (as_before (λ l n. IsCome l n c.in-Some.patch.hi c.put_to.result) (next g (goal.at.returns-clause-come g c).After-put_to-next) c.put_to.ensures.come)

-- the pages between stay, and those of the patch get its paint
pub returns-clause-shows : goal.returns-clause-shows
returns-clause-shows g c = λ begin kinds others show same before.
    let h = goal.at.returns-clause-shows g c in let patch = c.in-Some.patch in let rises = rising g h.In-Some in
    let patch_same : (p : ℕ) → c.args.from ≤ p → others p ≡ patched (patch ∷ []) kinds p =
    subst (λ (o : Option Patch). (p : ℕ) → c.args.from ≤ p → others p ≡ patched (second_of o) kinds p) c.in-Some.is same in
    let between = c.put_to-next.ensures.shows begin kinds others show
    (λ p low high. patch_same p low ∙ patched-before patch.lo (patch ∷ []) kinds p (omega arith, rises.1, rises.2) high) before in
    subst (λ (o : Option Patch). ShowTo begin c.put_to.new.rows.items (last_end c.args.from (second_of o)) others) (sym c.in-Some.is)
    (c.put_to.ensures.shows begin kinds others (as_behind (λ l n. ShowFrom 0 l kinds) (next g h.After-put_to-next) show)
    (λ p low high. patch_same p (omega (arith, rises.0)) ∙ patched-inside patch [] kinds p rises.2 low high) between)

-- all loads are one
pub returns-clause-loaded : goal.returns-clause-loaded
returns-clause-loaded g c = (loads_on _ (next g (goal.at.returns-clause-loaded g c).After-put_to-next) c.put_to.ensures.loaded).loaded
