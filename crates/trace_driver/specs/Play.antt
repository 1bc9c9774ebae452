-- What it means that lines were played by workers. Processes are dealt out to the workers in turn, by their indexes.
-- Each line has one entry of its worker, each worker's entries are in the order of its lines, and there are no others;
-- taken by number they are a legal history of the address space, and each held what its call has to hold. Legal
-- histories are those of Herlihy and Wing, TOPLAS 1990; the rest is this project's own profile.
use Rattle.std.specs.Prelude.{◌≡◌, ◌≢◌, ℕ, ◌<◌, List, ◌==◌, ◌%◌, filter, None, All}
use Rattle.std.specs.List.{AllZip}
use Rattle.load_lines.specs.declared.calls.MadeLine.{MadeLine}
use Rattle.page_types.specs.PlainReply.{plain_reply}
use Rattle.round_trip.specs.Logs.{IsNamedEntry}
use Rattle.space_model.specs.Held.{IsSimpleIn}
use Rattle.space_model.specs.History.{Chains, FitsAndReplies, Runs}
use Rattle.space_model.specs.declared.areas.Area.{Area}
use Rattle.space_model.specs.declared.entries.Entry.{Entry}
use Rattle.space_model.specs.declared.entries.Under.TheVariants.{Whole}
use Rattle.strace_reader.specs.Playing.{as_played}
use Rattle.trace_driver.specs.declared.trace.Line.{Line}

-- a line that a load makes as one of a trace
abbrev pub line_of : MadeLine → Line
line_of made = record { number = made.line; process = made.worker; call = made.call; recorded = None }

-- The lines were played from the opening areas by so many workers as these entries, which leave the last areas.
pub record IsHistoryOf (threads : ℕ) (opening : List Area) (lines : List Line) (entries : List Entry) (last : List Area) : Type 0 where
  -- the entries of each worker are those of its lines, whose process has its number modulo the workers: one for each,
  -- in their order, with the line's number, and with its call as it is played, whose hint is the recorded address where
  -- mmap(2) or mremap(2) leaves the choice
  pub own : (worker : ℕ) → worker < threads →
      AllZip (λ (line : Line) (e : Entry). (e.line ≡ line.number) × (e.call ≡ as_played line.call line.recorded))
      (filter (λ line. line.process % threads == worker) lines) (filter (λ e. e.worker == worker) entries)
  -- there are no others
  pub no_other : All (λ e. e.worker < threads) entries
  -- they are numbered from 0, and one chain of states leads from the opening areas to the last ones, in which each
  -- entry fits what was held and has the right reply
  pub runs : Runs 0 opening entries last
  -- where all are of one worker, each call that may hold its area alone does: it doesn't hold everything
  pub alone : (worker : ℕ) → All (λ e. e.worker ≡ worker) entries → Chains (λ A e B. FitsAndReplies A e B
      × (plain_reply e.call ≡ None → (a : Area) → IsSimpleIn A e.call a → e.under ≢ Whole)) opening entries last
  -- sets of bits have named bits alone, so that the log's text tells the entries
  pub named : All IsNamedEntry entries
