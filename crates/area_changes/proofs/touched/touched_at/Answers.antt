use Rattle.std.proofs.Common.{subst}
use Rattle.page_types.specs.declared.calls.Reply.TheVariants.{At}
use Rattle.page_types.specs.declared.calls.Call.TheVariants.{Brk}
use Rattle.page_types.specs.Pages.{page_of}
use Rattle.space_model.specs.Answers.{Answers}
use Rattle.area_changes.specs.Touching.{IsApart}
use Rattle.area_changes.proofs.Untouched.{map_keeps, remap_keeps}
use Rattle.area_changes.proofs.touched.touched_at.Goals as goal

-- a Map keeps the pages that aren't at its place
pub returns-in-Map : goal.returns-in-Map
returns-in-Map c B page h low out =
    let A = c.args.space.now in
    map_keeps A B page _ _ c.args.at _ _ (subst (λ x. Answers A x (At c.args.at) B) c.in-Map.is h) (c.named_pages.ensures page low out)

-- a Brk those that aren't its heap's
pub returns-in-Brk : goal.returns-in-Brk
returns-in-Brk c B page h low out =
    let A = c.args.space.now in
    let asked = subst (λ x. Answers A x (At c.args.at) B) c.in-Brk.is h in
    c.touched_heap.ensures B page (subst (λ n. Answers A (Brk c.in-Brk.base c.in-Brk.addr) (At n) B) c.if-at-addr.true asked) low out

-- a Remap those that were not its old ones and aren't at its place
pub returns-in-Remap : goal.returns-in-Remap
returns-in-Remap c B page h low out =
    let A = c.args.space.now in
    remap_keeps A B page c.in-Remap.addr _ _ c.args.at _ _ (subst (λ x. Answers A x (At c.args.at) B) c.in-Remap.is h)
    (subst (λ e. IsApart (page_of c.in-Remap.addr) e page) c.end_page.ensures (c.two_stretches.ensures.one page low out))
    (subst (λ e. IsApart (page_of c.args.at) e page) c.end_page-in-Remap.ensures (c.two_stretches.ensures.other page low out))
