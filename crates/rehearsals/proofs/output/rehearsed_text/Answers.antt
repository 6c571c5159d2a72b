use Rattle.std.proofs.Common.{◌≡◌, ◌∙◌, length, take, replicate, arith}
use Rattle.std.proofs.lemmas.Result.{IfOk-weaker}
use Rattle.std.proofs.lemmas.List.{take-replicate, length-take-le, length-replicate}
use Rattle.rehearsals.specs.Outputs.{idle_worker, no_entry, staged, ended_text}
use Rattle.rehearsals.proofs.output.rehearsed_text.Goals as goal

pub returns : goal.returns
returns c =
    let h = c.args.header in
    let cell = c.fresh-cells.result in
    let made = c.idle-workers.ensures in
    let blank = c.blank-entries.ensures in
    let sized : length (take h.cells (replicate 64 cell)) ≡ h.cells =
    length-take-le h.cells (replicate 64 cell) (omega (arith, length-replicate 64 cell, c.requires.most_cells)) in
    let idle : take h.workers (replicate 8 c.idle-workers.result) ≡ replicate h.workers idle_worker =
    take-replicate h.workers 8 c.idle-workers.result c.requires.most_workers
    ∙ (λ i. replicate h.workers (record { phase = made.phase i; rank = made.rank i; copy = made.copy i })) in
    let unused : replicate 64 c.blank-entries.result ≡ replicate 64 no_entry =
    λ i. replicate 64 (record { rank = blank.rank i; worker = blank.worker i; item = blank.item i }) in
    IfOk-weaker c.text_in.result _ _ (λ s e. e ∙ (λ i. ended_text (staged (sized i) (idle i) (unused i) h.start c.args.items.now c.args.turns.now))) c.text_in.ensures
