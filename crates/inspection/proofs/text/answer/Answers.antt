use Rattle.std.proofs.Common.{Ok, Err}
use Rattle.std.proofs.lemmas.Result.{IfOk-weaker}
use Rattle.inspection.specs.Prints.{usage, verdict}
use Rattle.inspection.proofs.Single.{one_text}
use Rattle.inspection.proofs.text.answer.Goals as goal

pub returns-in_default : goal.returns-in_default
returns-in_default c =
    record {
      text = IfOk-weaker c.usage.result _ _ (λ s e. usage c.in_default.ensures e) c.usage.ensures;
      only = one_text _ c.args.memory.now;
    }

pub returns-in-Ok : goal.returns-in-Ok
returns-in-Ok c =
    record {
      text =
          IfOk-weaker c.checks_hold.result _ _ (λ s e. verdict _ (Ok tt) c.in-Some.ensures c.in-Ok.ensures.verdict e)
          c.checks_hold.ensures;
      only = one_text _ c.args.memory.now;
    }

pub returns-in-Err : goal.returns-in-Err
returns-in-Err c =
    record {
      text =
          IfOk-weaker c.refused.result _ _
          (λ s e. verdict _ (Err c.in-Err.fault) c.in-Some.ensures c.in-Err.ensures.verdict e) c.refused.ensures;
      only = one_text _ c.args.memory.now;
    }
