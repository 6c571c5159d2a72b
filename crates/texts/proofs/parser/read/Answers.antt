use Rattle.std.proofs.Common.{vec_items}
use Rattle.std.specs.declared.alloc.Global.{Global}
use Rattle.std.proofs.lemmas.Result.{err_from_is_err_and}
use Rattle.grammar.proofs.Plans.{one_reading}
use Rattle.texts.proofs.Parses.{header_fault, probes_fault, stretches_fault, end_fault, all_read, fault_out}
use Rattle.texts.proofs.parser.read.Goals as goal

pub returns-in_err-header : goal.returns-in_err-header
returns-in_err-header c =
    let t = c.args.text.now in
    let p = err_from_is_err_and c.from_residual.result c.from_residual.ensures.1 in
    record {
      plan = fault_out t c.from_residual.result p.0 c.in_err-header.field-0.0 p.1 p.2
          (header_fault t c.new-lexer.result c.new-lexer.ensures c.header.new.self c.in_err-header.field-0.0 c.in_err-header.ensures);
      only = one_reading t;
    }

pub returns-in_err-probes : goal.returns-in_err-probes
returns-in_err-probes c =
    let t = c.args.text.now in
    let p = err_from_is_err_and c.from_residual-in_err-probes.result c.from_residual-in_err-probes.ensures.1 in
    let l₁ = c.header.new.self in
    record {
      plan = fault_out t c.from_residual-in_err-probes.result p.0 c.in_err-probes.field-0.0 p.1 p.2
          (probes_fault t c.new-lexer.result c.new-lexer.ensures c.in_ok-header.header l₁ c.in_ok-header.ensures (vec_items {Z = Global}) c.probes.new.self c.in_err-probes.field-0.0 c.in_err-probes.ensures);
      only = one_reading t;
    }

pub returns-in_err-stretches : goal.returns-in_err-stretches
returns-in_err-stretches c =
    let t = c.args.text.now in
    let p = err_from_is_err_and c.from_residual-in_err-stretches.result c.from_residual-in_err-stretches.ensures.1 in
    let l₁ = c.header.new.self in
    let l₂ = c.probes.new.self in
    let a₁ = c.in_ok-header.ensures in
    record {
      plan = fault_out t c.from_residual-in_err-stretches.result p.0 c.in_err-stretches.field-0.0 p.1 p.2
          (stretches_fault t c.new-lexer.result c.new-lexer.ensures c.in_ok-header.header l₁ a₁ (vec_items c.in_ok-probes.probes) l₂ c.in_ok-probes.ensures (vec_items {Z = Global}) c.stretches.new.self c.in_err-stretches.field-0.0 (c.in_err-stretches.ensures a₁.fits.most_workers));
      only = one_reading t;
    }

pub returns-in_err-end : goal.returns-in_err-end
returns-in_err-end c =
    let t = c.args.text.now in
    let p = err_from_is_err_and c.from_residual-in_err-end.result c.from_residual-in_err-end.ensures.1 in
    let l₁ = c.header.new.self in
    let l₂ = c.probes.new.self in
    let l₃ = c.stretches.new.self in
    let a₁ = c.in_ok-header.ensures in
    record {
      plan = fault_out t c.from_residual-in_err-end.result p.0 c.in_err-end.field-0.0 p.1 p.2
          (end_fault t c.new-lexer.result c.new-lexer.ensures c.in_ok-header.header l₁ a₁ (vec_items c.in_ok-probes.probes) l₂ c.in_ok-probes.ensures (vec_items c.in_ok-stretches.stretches) l₃ (c.in_ok-stretches.ensures a₁.fits.most_workers) c.in_err-end.field-0.0 c.in_err-end.ensures);
      only = one_reading t;
    }

pub returns : goal.returns
returns c =
    let t = c.args.text.now in
    let l₁ = c.header.new.self in
    let l₂ = c.probes.new.self in
    let l₃ = c.stretches.new.self in
    let a₁ = c.in_ok-header.ensures in
    record {
      plan = all_read t c.new-lexer.result c.new-lexer.ensures c.in_ok-header.header l₁ a₁ (vec_items c.in_ok-probes.probes) l₂ c.in_ok-probes.ensures (vec_items c.in_ok-stretches.stretches) l₃ (c.in_ok-stretches.ensures a₁.fits.most_workers) c.in_ok-end.ensures;
      only = one_reading t;
    }
