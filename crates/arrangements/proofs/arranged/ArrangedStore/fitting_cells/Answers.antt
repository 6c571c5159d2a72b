use Rattle.stores.specs.Model.{fresh_cell}
use Rattle.arrangements.proofs.Rearranging.{above_fit, above_unfit}
use Rattle.arrangements.proofs.arranged.ArrangedStore.fitting_cells.Goals as goal

pub returns-then-fits : goal.returns-then-fits
returns-then-fits g c =
    let a = c.args.self.now.arrangement in
    above_fit (fresh_cell g.S.Item.ItemKind.blank) (g.A.Arrangement.fits a) (g.A.Arrangement.place a) (g.A.Arrangement.cell a)
    (g.met.A.Arrangement.within a) (g.met.A.Arrangement.returning a) (g.S.Store.model c.args.self.now.below).cells
    c.cells-n.result c.cells-n.ensures.value c.if-fits.ensures

pub returns-else-fits : goal.returns-else-fits
returns-else-fits g c =
    let a = c.args.self.now.arrangement in
    above_unfit (fresh_cell g.S.Item.ItemKind.blank) (g.A.Arrangement.fits a) (g.A.Arrangement.place a) (g.A.Arrangement.cell a)
    (g.met.A.Arrangement.within a) (g.met.A.Arrangement.returning a) (g.S.Store.model c.args.self.now.below).cells
    c.cells-n.result c.cells-n.ensures.value c.if-fits.ensures
