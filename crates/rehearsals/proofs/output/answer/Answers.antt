use Rattle.std.proofs.Common.{Err, subst, ◌∙◌}
use Rattle.std.proofs.lemmas.Result.{IfOk-weaker}
use Rattle.reports.specs.Lines.{refused_line}
use Rattle.texts.specs.declared.fault.ParseFault.{ParseFault}
use Rattle.texts.specs.Parsing.{plan_model, Parsed}
use Rattle.rehearsals.specs.Outputs.Printed.{of_plan}
use Rattle.rehearsals.proofs.Printing.{fault_printed, printed_once}
use Rattle.rehearsals.proofs.output.answer.Goals as goal

pub returns-in-Ok : goal.returns-in-Ok
returns-in-Ok c = record {
  text = IfOk-weaker c.plan_text.result _ _ (λ s e. of_plan (plan_model c.in-Ok.plan) c.in-Ok.ensures.plan e) c.plan_text.ensures;
  only = printed_once c.in-Ok.ensures.only;
}

pub returns-in-Err-Text : goal.returns-in-Err-Text
returns-in-Err-Text c =
    let P : ParseFault → Type 0 = λ f. Parsed c.args.text.now (Err f) in
    let bad = subst P c.in-Err-Text.field-0-is c.in-Err-Text.ensures.plan in
    record {
      text =
          IfOk-weaker c.refused_line.result _ _
          (λ s e. fault_printed c.args.text.now c.in-Err-Text.fault _ bad (e ∙ (λ i. refused_line (c.number.ensures i) (c.place.ensures i))))
          c.refused_line.ensures;
      only = printed_once c.in-Err-Text.ensures.only;
    }

pub returns-in-Err-NoMemory-clause-only : goal.returns-in-Err-NoMemory-clause-only
returns-in-Err-NoMemory-clause-only c = printed_once c.in-Err-NoMemory.ensures.only
