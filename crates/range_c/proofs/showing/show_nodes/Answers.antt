use Rattle.std.proofs.Common.{rules, ◌≡◌, ◌<◌, Some, length}
use Rattle.range_c.specs.Codes.{shown_by}
use Rattle.range_c.proofs.Shows.{one_more_shown}
use Rattle.range_c.proofs.showing.show_nodes.Goals as goal

-- one more range is shown, and the scan is open still
pub nodes-preserved : goal.nodes-preserved
nodes-preserved c =
    let more : c.nodes.found < length c.nodes.ranges = search rules in
    let is : shown_by c.look-answer.result ≡ Some c.in-Some.range = search rules in
    one_more_shown c.look-answer.result c.in-Some.range more c.nodes.invariant c.look-answer.ensures.look c.look-answer.ensures.inside is
