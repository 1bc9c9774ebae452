use Rattle.std.proofs.Common.{rules}
use Rattle.page_touch.proofs.Found.{load_seen, put_seen, put_wrote}
use Rattle.page_touch.proofs.table.Touches.look.Goals as goal

-- the load found the page
pub returns-then-found-page-clause-found : goal.returns-then-found-page-clause-found
returns-then-found-page-clause-found g c = load_seen c.load_at-found.ensures.made (search rules)

-- the load found the word free, and the exchange found the page
pub returns-then-found-page-2-clause-found : goal.returns-then-found-page-2-clause-found
returns-then-found-page-2-clause-found g c = put_seen c.load_at-found.ensures.made (search rules) c.put_at-found.ensures.made (search rules)

-- both found the word free
pub returns-then-found-eq0-clause-found : goal.returns-then-found-eq0-clause-found
returns-then-found-eq0-clause-found g c = put_wrote c.load_at-found.ensures.made (search rules) c.put_at-found.ensures.made (search rules)
