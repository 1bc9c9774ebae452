use Rattle.std.proofs.Common.{rules, ℕ, ◌≡◌, ◌∙◌, ◌++◌, [], ◌∷◌, List, true, false, sym, ap, subst}
use Rattle.row_plans.specs.Planning.{ShowTo, ends_with, put}
use Rattle.row_plans.proofs.PutRows.{put_kept, put_more, put_shows}
use Rattle.row_plans.proofs.planning.put_row.Goals.{After-push_reserved}
use Rattle.row_plans.proofs.planning.put_row.Goals as goal

-- the row that was pushed is the one that is put
put_new : (c : After-push_reserved) → c.push_reserved.new.self.items ≡ put c.args.rows.now.items c.args.page c.args.kind
put_new c =
    let none : ends_with c.args.rows.now.items c.args.kind ≡ false = search rules in
    c.push_reserved.ensures.items ∙ (ap (λ w. c.args.rows.now.items ++ w ∷ []) c.write_row.ensures.word ∙ sym (put_more _ _ _ none))

-- where the last row is of another kind, a new one is put behind it
pub returns-then-not-ends_with-clause-items : goal.returns-then-not-ends_with-clause-items
returns-then-not-ends_with-clause-items c = put_new c

-- the rows with the new one show the kinds up to the stretch's end
pub returns-then-not-ends_with-clause-shows : goal.returns-then-not-ends_with-clause-shows
returns-then-not-ends_with-clause-shows c = λ from end kinds some all show.
    subst (λ (l : List ℕ). ShowTo from l end kinds) (sym (put_new c)) (put_shows _ _ _ _ c.requires.named some all _ _ show)

-- where it is of that kind, the rows stay
pub returns-else-not-ends_with-clause-items : goal.returns-else-not-ends_with-clause-items
returns-else-not-ends_with-clause-items c =
    let last : ends_with c.args.rows.now.items c.args.kind ≡ true = search rules in
    sym (put_kept c.args.rows.now.items c.args.page c.args.kind last)

-- and then they show the kinds up to the stretch's end
pub returns-else-not-ends_with-clause-shows : goal.returns-else-not-ends_with-clause-shows
returns-else-not-ends_with-clause-shows c = λ from end kinds some all show.
    let last : ends_with c.args.rows.now.items c.args.kind ≡ true = search rules in
    subst (λ (l : List ℕ). ShowTo from l end kinds) (put_kept c.args.rows.now.items c.args.page c.args.kind last)
    (put_shows _ _ _ _ c.requires.named some all _ _ show)
