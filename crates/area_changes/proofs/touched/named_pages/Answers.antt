use Rattle.std.proofs.Common.{subst}
use Rattle.page_types.specs.Pages.{page_of}
use Rattle.area_changes.specs.Touching.{IsApart}
use Rattle.area_changes.proofs.touched.named_pages.Goals as goal

pub returns : goal.returns
returns c page low out = subst (λ e. IsApart (page_of c.args.addr) e page) c.end_page.ensures (c.stretch.ensures page low out)
