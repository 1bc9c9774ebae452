use Rattle.std.proofs.Common.{subst}
use Rattle.page_types.specs.declared.calls.Reply.TheVariants.{Zero}
use Rattle.space_model.specs.Answers.{Answers}
use Rattle.area_changes.proofs.Untouched.{unmap_keeps, protect_keeps, seal_keeps}
use Rattle.area_changes.proofs.touched.touched_by_done.Goals as goal

-- each keeps the pages that it doesn't name
pub returns-in-Unmap : goal.returns-in-Unmap
returns-in-Unmap c A B page h low out =
    unmap_keeps A B page _ _ (subst (λ x. Answers A x Zero B) c.in-Unmap.is h) (c.named_pages.ensures page low out)

pub returns-in-Protect : goal.returns-in-Protect
returns-in-Protect c A B page h low out =
    protect_keeps A B page _ _ _ (subst (λ x. Answers A x Zero B) c.in-Protect.is h) (c.named_pages-in-Protect.ensures page low out)

pub returns-in-Seal : goal.returns-in-Seal
returns-in-Seal c A B page h low out =
    seal_keeps A B page _ _ _ (subst (λ x. Answers A x Zero B) c.in-Seal.is h) (c.named_pages-in-Seal.ensures page low out)
