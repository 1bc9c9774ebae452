-- What is said of the private functions that deal lines out to workers, one list for each: the worker of a line, a line
-- as it is played, and the lists of all. What callers see of it is `own` of Play.antt.
use Rattle.std.specs.Prelude.{ℕ, List, ◌==◌, ◌%◌, filter, map}
use Rattle.std.specs.List.{range_with_len}
use Rattle.trace_threads.specs.declared.worker.Line.{Line as Turn}
use Rattle.strace_reader.specs.Playing.{as_played}
use Rattle.trace_driver.specs.declared.trace.Line.{Line}

-- the number of the worker that plays a line, of so many
abbrev pub worker_of : ℕ → Line → ℕ
worker_of threads line = line.process % threads

-- the lines of a worker, in order
abbrev pub own_lines : ℕ → List Line → ℕ → List Line
own_lines threads lines worker = filter (λ line. worker_of threads line == worker) lines

-- a line as it is played: its recorded address is its hint where mmap(2) or mremap(2) leaves the choice
abbrev pub played_line : Line → Turn
played_line line = record { line = line.number; call = as_played line.call line.recorded }

-- the lines of a worker as they are played
abbrev pub worker_lines : ℕ → List Line → ℕ → List Turn
worker_lines threads lines worker = map played_line (own_lines threads lines worker)

-- the lines of each worker, from worker 0 on
abbrev pub dealt : ℕ → List Line → List (List Turn)
dealt threads lines = map (worker_lines threads lines) (range_with_len 0 threads)
