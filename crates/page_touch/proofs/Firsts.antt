-- The rule says that each page's first touch was answered once.
use Rattle.std.proofs.Common.{◌+◌, ◌∙◌, sym, arith}
use Rattle.page_touch.specs.Touched.{KeepsFirstTouches}
use Rattle.page_touch.proofs.Counting.{at_most_one}

-- the rule has it all; that a page stands at most once is counted from no two words having one page
pub keeps_touches : KeepsFirstTouches
keeps_touches room total s r =
    let wide = r.wide in
    record {
      once = λ page. at_most_one (page + 1) s.words (λ i j a b p q. r.alone i j (omega arith) (omega arith) (p ∙ sym q) (λ z. let w = p in omega arith));
      told = r.told;
      kept = r.kept;
    }
