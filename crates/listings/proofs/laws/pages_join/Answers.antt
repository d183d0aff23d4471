use Rattle.listings.proofs.Counting.{pages_join}
use Rattle.listings.proofs.laws.pages_join.Goals as goal

pub returns : goal.returns
returns c = pages_join
