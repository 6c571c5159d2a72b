-- The figures hold: each is computed.
use Rattle.std.proofs.Common.{◌≡◌, refl}
use Rattle.layout.specs.Image.{sum_of}
use Rattle.figures.specs.Figures.{fresh_check}

pub counters : fresh_check 21 0 ≡ 21
unfolding sum_of
counters = refl

pub one_cell : fresh_check 1 1 ≡ 0
unfolding sum_of
one_cell = refl

pub many_cells : fresh_check 21 1 ≡ 18446744073709551576
unfolding sum_of
many_cells = refl
