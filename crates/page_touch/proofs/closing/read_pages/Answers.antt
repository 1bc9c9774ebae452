use Rattle.std.proofs.Common.{rules, ◌≡◌, get_or, ap, ◌∙◌}
use Rattle.std.specs.Mem.Slots.{slots_items}
use Rattle.page_touch.specs.Starting.{below, at_or}
use Rattle.page_touch.proofs.Ending.{same_pages, more_pages}
use Rattle.page_touch.proofs.closing.read_pages.Goals as goal
use Rattle.page_touch.proofs.closing.read_pages.Goals.{then-word-ne0, else-word-ne0}

-- one word more adds its page, or none where it is free
pub words-preserved : goal.words-preserved
words-preserved c =
    let i = c.words.invariant in
    let lt = below (slots_items c.args.closed.now.words) c.words.i c.word-word.result c.word-word.ensures in
    let is : get_or (slots_items c.args.closed.now.words) c.words.i 0 ≡ c.word-word.result = at_or
    (slots_items c.args.closed.now.words) c.words.i c.word-word.result 0 c.word-word.ensures in elim c.if-word-ne0.branch [
      | then-word-ne0 w ↦ record {
        within = search rules;
        short = search rules;
        space = search rules;
        pages = ap (λ v. v.items) w.out-is ∙ (w.push_reserved.ensures.items
            ∙ more_pages (slots_items c.args.closed.now.words) c.words.i lt is (search rules) i.pages);
      }
      | else-word-ne0 w ↦ record {
        within = search rules;
        short = search rules;
        space = search rules;
        pages = ap (λ v. v.items) w.out-is ∙ same_pages (slots_items c.args.closed.now.words) c.words.i lt is (search rules) i.pages;
      }
    ]
