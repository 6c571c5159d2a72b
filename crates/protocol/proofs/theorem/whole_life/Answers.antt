use Rattle.protocol.proofs.Whole.{whole_life}
use Rattle.protocol.proofs.theorem.whole_life.Goals as goal

pub returns : goal.returns
returns g c = whole_life
