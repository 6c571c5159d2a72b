use Rattle.std.proofs.Common.{refl}
use Rattle.figures.proofs.Known.{counters, one_cell, many_cells}
use Rattle.figures.proofs.Rehearsed.{known_rehearsal}
use Rattle.figures.proofs.known_figures.Goals as goal

pub returns : goal.returns
returns g c =
    record {
      counters_check = counters;
      one_cell_check = one_cell;
      many_cells_check = many_cells;
      reading_bytes = refl;
      battery_bytes = refl;
      turned_3 = refl;
      turned_2 = refl;
      turned_5 = refl;
      gap_2 = refl;
      gap_4 = refl;
      gap_1 = refl;
      busy = refl;
      skipped = refl;
      skipped_gap = refl;
      skipped_tail = refl;
      rehearsal = known_rehearsal;
    }
