-- What a scan of a table's lists shows to C: the ranges of the nodes that it went past, in their order, and why it
-- stopped. It is a chain of calls of the scan of `range_rw`, which say what a node is and that no list is left out; the
-- chain is this project's own.
use Rattle.std.specs.Prelude.{◌≡◌, ◌≢◌, ℕ, zero, suc, ◌+◌, ◌-◌, ◌*◌, ◌≤◌, List, length, Some, None}
use mathlib.Core.Option.{some}
use lib.ListN.{get_elem?}
use Rattle.list_cuts.specs.Cut.{Regions, list_count}
use Rattle.range_rw.specs.declared.scan.Scanned.{Scanned}
use Rattle.range_rw.specs.Contract.{OpenScan, fresh_scan}
use Rattle.range_rw.specs.Scan.{IsScanCall, IsNext}
use Rattle.range_c.specs.declared.answers.Answer.{Answer}
use Rattle.range_c.specs.declared.answers.Answer.TheVariants.{HasOne, Ended}
use Rattle.range_c.specs.declared.answers.GzBusy.{GzBusy}
use Rattle.range_c.specs.Behind.{Behind, RecordingSeat}
use Rattle.range_c.specs.Codes.{shown_by}

-- the most steps of one call of a scan that had come to this, in a table over a cut
abbrev pub look_steps : Regions → OpenScan → ℕ
look_steps cut was = 2 + 3 * was.most + (4 + 3 * was.most) * (list_count cut - 1 - was.list)

-- one call of an open scan, with its answer by its cause: it goes past at most one node, and leaves no list out
pub record IsLook (cut : Regions) (before after : RecordingSeat) (answer : Scanned) : Type 0 where
  pub was : OpenScan
  pub is : before.scan ≡ Some was
  pub call : IsScanCall before after
  pub next : IsNext before after was answer
  pub bound : after.trace.taken ≤ before.trace.taken + look_steps cut was

-- so many calls of an open scan, one behind the other: each went past one node, and shows it at its place
abbrev pub AreShown : Regions → List GzBusy → ℕ → RecordingSeat → RecordingSeat → Type 0
AreShown cut ranges zero before after = after ≡ before
AreShown cut ranges (suc n) before after = (entry : RecordingSeat) × (answer : Scanned) × (range : GzBusy) × AreShown cut ranges n before entry
    × IsLook cut entry after answer × (shown_by answer ≡ Some range) × (get_elem? ranges n ≡ some range)

-- the calls of an open scan that show so many ranges, and the one behind them, for whose answer it stopped: that is a
-- node only where each place was filled
pub record IsStopped (cut : Regions) (ranges : List GzBusy) (found : ℕ) (last : Scanned) (opened after : RecordingSeat) : Type 0 where
  pub entry : RecordingSeat
  pub shown : AreShown cut ranges found opened entry
  pub stops : IsLook cut entry after last
  pub full : (range : GzBusy) → shown_by last ≡ Some range → found ≡ length ranges

-- a whole scan by a seat that holds nothing: it begins with list 0, and no scan is open after it
pub record IsWhole (seats : ℕ) (cut : Regions) (ranges : List GzBusy) (found : ℕ) (last : Scanned) (before after : RecordingSeat) : Type 0 where
  pub free : before.held ≡ None
  pub opened : RecordingSeat
  pub begins : IsScanCall before opened
  pub begun : opened.scan ≡ Some (fresh_scan (16 * seats + 1))
  pub enters : opened.trace.taken ≤ before.trace.taken + 2
  pub stopped : RecordingSeat
  pub looks : IsStopped cut ranges found last opened stopped
  pub ends : IsScanCall stopped after
  pub outside : after.scan ≡ None
  pub leaves : after.trace.taken ≤ stopped.trace.taken + 1

-- so many places were written, from the first on, and no other
pub record IsWritten (found : ℕ) (old new : List GzBusy) : Type 0 where
  pub long : length new ≡ length old
  pub few : found ≤ length old
  pub kept : (k : ℕ) → found ≤ k → get_elem? new k ≡ get_elem? old k

-- what a scan answers, shows and leaves
abbrev pub IsScanned : List GzBusy → List GzBusy → ℕ → Answer → Behind → Behind → Type 0
IsScanned old new found HasOne before after = (found ≡ 0) × (new ≡ old) × (before.seat.held ≢ None) × (after ≡ before)
IsScanned old new found (Ended last) before after = IsWritten found old new
    × IsWhole before.seats before.cut new found last before.seat after.seat × (after ≡ record before { seat = after.seat })
IsScanned old new found _ before after = ⊥
