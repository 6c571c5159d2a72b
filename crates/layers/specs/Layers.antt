-- The model of straight over turned over turned over a model.
use Rattle.stores.specs.Model.{Contents}
use Rattle.arrangements.specs.Places.{every_size, same_number, turned_size, turned_place}
use Rattle.arrangements.specs.Arranged.{arranged}

abbrev pub turned_over : {X : Type 0} → X → Contents X → Contents X
turned_over blank m = arranged blank turned_size (turned_place 16) m

abbrev pub layered : {X : Type 0} → X → Contents X → Contents X
layered blank m = arranged blank every_size same_number (turned_over blank (turned_over blank m))
