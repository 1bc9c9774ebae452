use Rattle.std.proofs.Common.{rules, ◌≡◌, ℕ, List, Contains, IsPermutation, ◌↔◌, sym, ap, subst, ◌∙◌}
use Rattle.std.proofs.lemmas.List.Sorted.{IsNonDecreasingBy-from_sort}
use Rattle.page_touch.specs.Touched.{times}
use Rattle.page_touch.specs.Gathering.{pages_in}
use Rattle.page_touch.proofs.Ending.{rising, end_once, end_pages, end_firsts}
use Rattle.page_touch.proofs.table.Touches.close.Goals as goal

-- sorted pages rise, since none is there twice; they are those that the seats touched, and each was answered First once
pub returns : goal.returns
returns c =
    let f = c.close_with-closed.ensures.values.2 in
    let quota = c.join_all-all.ensures.quota ∙ (c.requires.all ∙ sym (ap (λ t. t.total) c.self.view_is)) in
    let all = c.join_all-all.result in let pages = c.sort_unstable.new.self.items in
    let moved : IsPermutation (pages_in f.0.words) pages = subst (λ l. IsPermutation l pages) (c.read_pages.ensures.pages ∙ ap pages_in (sym f.2))
    c.sort_unstable.ensures.permutation in
    record {
      rising = rising pages (IsNonDecreasingBy-from_sort (λ (n : ℕ). n) pages c.sort_unstable.ensures.sorted)
          (end_once all.id all.me.0 f.1.0 f.1.1 quota pages moved);
      pages = subst (λ (l : List ℕ). (p : ℕ) → Contains pages p ↔ Contains l p) c.join_all-all.ensures.touched
          (end_pages all.id all.me.0 f.1.0 f.1.1 quota pages moved);
      few = search rules;
      firsts = subst (λ (l : List ℕ). (p : ℕ) → times p l ≡ times p pages) c.join_all-all.ensures.firsts
          (end_firsts all.id all.me.0 f.1.0 f.1.1 quota pages moved);
      refused = tt;
    }
