-- What is printed of a text.
use Rattle.std.specs.Prelude.{◌≡◌, ℕ, List, replicate}
use Rattle.std.specs.Option.{option_map}
use Rattle.items.specs.declared.reading.Reading.{Reading}
use Rattle.items.specs.Readings.{zero_reading}
use Rattle.protocol.specs.declared.record.WorkerPhase.TheVariants.{Idle}
use Rattle.protocol.specs.declared.record.Worker.{Worker}
use Rattle.protocol.specs.declared.record.Entry.{Entry}
use Rattle.protocol.specs.Views.{laid_out}
use Rattle.queue.specs.Logs.{kept}
use Rattle.schedules.specs.Rehearsals.{Stop, Ended, rehearsed}
use Rattle.reports.specs.declared.lines.Stopped.{Stopped}
use Rattle.reports.specs.Reports.{report_text}
use Rattle.reports.specs.Lines.{refused_line}
use Rattle.grammar.specs.Plans.{PlanModel, InForm, FirstBad}
use Rattle.grammar.specs.Meanings.{items_of, turns_of}

-- the number of the refusal, and the turn
abbrev pub stopped_of : Stop → Stopped
stopped_of s = record { number = s.why.number; turn = s.turn }

-- a rehearsal in n cells, with these workers and these entries for the log
unfoldable pub staged : ℕ → List (Worker Reading) → List (Entry Reading) → ℕ → List Reading → List ℕ → Ended Reading
staged n ws entries start items turns =
    rehearsed zero_reading (laid_out zero_reading n ws (record { entries = entries; count = 0 }) start) items turns

-- what the worker table and the log begin with: no rank or entry of it is read
abbrev pub idle_worker : Worker Reading
idle_worker = record { phase = Idle; rank = 0; copy = zero_reading }

abbrev pub no_entry : Entry Reading
no_entry = record { rank = 0; worker = 0; item = zero_reading }

-- the rehearsal of a plan, with room for 64 log entries
abbrev pub plan_rehearsal : PlanModel → Ended Reading
plan_rehearsal p =
    staged p.header.cells (replicate p.header.workers idle_worker) (replicate 64 no_entry) p.header.start (items_of p.probes) (turns_of p.stretches)

-- the log's entries, the refused turn if there is one, and the end mark
abbrev pub ended_text : Ended Reading → List ℕ
ended_text e = report_text (kept e.queue.log) (option_map stopped_of e.stop) e.queue.store.end

-- `out` is what is printed of the text: exactly one output is
pub data Printed (text out : List ℕ) : Type 0 where
  of_plan : (p : PlanModel) → InForm text p → out ≡ ended_text (plan_rehearsal p) → Printed text out
  of_bad_line : (line : ℕ) → FirstBad text line → out ≡ refused_line 15 line → Printed text out
