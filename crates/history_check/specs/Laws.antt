-- What a run prints of a history is a good log, whatever was counted beside it: the log of the entries, the maps of the
-- last state, the summary, and then nothing or one line that begins `touched `. So a run that checks its own log finds
-- it legal.
use Rattle.std.specs.Prelude.{◌≡◌, ◌≢◌, ◌⊎◌, ℕ, ◌<◌, List, [], ◌∷◌, ◌++◌, All, codes}
use Rattle.space_model.specs.declared.areas.Area.{Area}
use Rattle.space_model.specs.declared.entries.Entry.{Entry}
use Rattle.space_model.specs.Areas.{IsAreaList}
use Rattle.space_model.specs.History.{Runs}
use Rattle.line_parts.specs.Lines.{lines_of}
use Rattle.maps_printer.specs.Lines.{log_text, maps_text, summary_text}
use Rattle.round_trip.specs.Logs.{IsNamedEntry}
use Rattle.history_check.specs.Logs.{IsGoodLog, WorkersRise}

-- one line that begins `touched `, with its newline
abbrev pub IsTouchedLine : List ℕ → Type 0
IsTouchedLine text = (rest : List ℕ) × All (λ byte. byte ≢ 10) rest × (text ≡ codes "touched " ++ (rest ++ 10 ∷ []))

-- what is printed of these entries is a good log of them, from wherever they lead to an area list
abbrev pub PrintedLogIsGood : List Entry → Type 0
PrintedLogIsGood entries =
    (A B : List Area) (played skipped refused differ : ℕ) (tail : List ℕ)
    → All IsNamedEntry entries → All (λ e. e.worker < 16) entries → Runs 0 A entries B → WorkersRise entries → IsAreaList B
    → (tail ≡ []) ⊎ IsTouchedLine tail
    → IsGoodLog A (lines_of (log_text entries ++ (maps_text B ++ (summary_text played skipped refused differ ++ tail)))) entries
