use Rattle.layers.specs.Held.{foldings}
use Rattle.layers.proofs.Settling.{folding_settles}
use Rattle.layers.proofs.laws.folding_twice_is_folding_once.Goals as goal

pub returns : goal.returns
returns c = folding_settles (foldings c.args.list.now) c.args.list.now.unchained
