-- What is printed of a rehearsal, of a bad line, and that it is one text.
use Rattle.std.proofs.Common.{◌≡◌, ℕ, List, ℤ, Err, Option, sym, ap, ◌∙◌}
use Rattle.std.specs.Option.{option_map}
use Rattle.items.specs.declared.reading.Reading.{Reading}
use Rattle.protocol.specs.declared.record.Entry.{Entry}
use Rattle.queue.specs.Logs.{kept}
use Rattle.schedules.specs.Rehearsals.{Ended}
use Rattle.reports.specs.declared.lines.Stopped.{Stopped}
use Rattle.reports.specs.Reports.{report_text}
use Rattle.reports.specs.Lines.{refused_line}
use Rattle.grammar.specs.Plans.{OneReading}
use Rattle.texts.specs.declared.fault.TextFault.{TextFault}
use Rattle.texts.specs.declared.fault.TextFault.TheVariants.{BadLine}
use Rattle.texts.specs.declared.fault.ParseFault.TheVariants.{Text}
use Rattle.texts.specs.Faults.{text_reason}
use Rattle.texts.specs.Parsing.{Parsed}
use Rattle.rehearsals.specs.Outputs.{stopped_of, plan_rehearsal, ended_text, Printed}
use Rattle.rehearsals.specs.Outputs.Printed.{of_plan, of_bad_line}

-- the report of what a rehearsal left is the text of its end
pub report_is : (done : Ended Reading) (shown : List (Entry Reading)) (stopped : Option Stopped) (end : ℤ) →
    shown ≡ kept done.queue.log → stopped ≡ option_map stopped_of done.stop → end ≡ done.queue.store.end →
    report_text shown stopped end ≡ ended_text done
report_is done shown stopped end s o m = λ i. report_text (s i) (o i) (m i)

pub fault_printed : (text : List ℕ) (f : TextFault) (out : List ℕ) → Parsed text (Err (Text f)) →
    out ≡ refused_line (text_reason f).number (text_reason f).place → Printed text out
fault_printed text (BadLine line) out bad is = of_bad_line line bad is

-- there is one text to print
pub printed_once : {text : List ℕ} → OneReading text → (out other : List ℕ) → Printed text out → Printed text other → out ≡ other
printed_once one out other (of_plan p f e) (of_plan q g h) = e ∙ ap (λ r. ended_text (plan_rehearsal r)) (one.plan p q f g) ∙ sym h
printed_once one out other (of_plan p f e) (of_bad_line k b h) = absurd (one.either p k f b)
printed_once one out other (of_bad_line k b e) (of_plan p f h) = absurd (one.either p k f b)
printed_once one out other (of_bad_line k b e) (of_bad_line l c h) = e ∙ ap (refused_line 15) (one.line k l b c) ∙ sym h
