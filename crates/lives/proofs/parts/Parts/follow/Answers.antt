use Rattle.std.proofs.Common.{ap, ◌∙◌, sym, rules, slice_set}
use Rattle.lives.specs.Lent.{queue_view}
use Rattle.lives.specs.Permits.{permit_of}
use Rattle.lives.proofs.Living.{lived_none, lived_more, lived_all}
use Rattle.lives.proofs.parts.Parts.follow.Goals as goal

pub loop-i-init : goal.loop-i-init
loop-i-init g c =
    record {
      lived = lived_none g.I.ItemKind.blank (queue_view g.S.Store.model c.args.self.now (permit_of c.args.held)) c.args.answers.now;
      lent = search rules;
    }

pub loop-i-preserved : goal.loop-i-preserved
loop-i-preserved g c =
    let made = c.make-next.ensures.made in
    record {
      lived =
          lived_more g.I.ItemKind.blank (queue_view g.S.Store.model c.args.self.now (permit_of c.args.held)) c.args.answers.now c.args.calls.now
          c.loop-i.i c.index-calls-i.result (queue_view g.S.Store.model c.loop-i.self (permit_of c.loop-i.held)) _ c.loop-i.answers _
          c.loop-i-test.true c.index-calls-i.is c.loop-i.invariant.lived (ap (λ m. m.queue) made)
          (c.put_answer.ensures ∙ ap (λ a. slice_set c.loop-i.answers c.loop-i.i a) (c.told.ensures ∙ sym (ap (λ m. m.answer) made)));
      lent = search rules;
    }

pub returns : goal.returns
returns g c =
    record {
      lived =
          lived_all g.I.ItemKind.blank (queue_view g.S.Store.model c.args.self.now (permit_of c.args.held)) c.args.answers.now c.args.calls.now
          c.loop-i.i _ _ c.loop-i-test.false c.loop-i.invariant.lived;
      lent = c.loop-i.invariant.lent;
    }
