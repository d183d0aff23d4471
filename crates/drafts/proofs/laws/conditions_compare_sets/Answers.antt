use Rattle.std.proofs.Common.{refl}
use Rattle.drafts.proofs.Values.{equals_shares, shares_mutual, equals_mutual, shares_alike, equals_alike, equals_same}
use Rattle.drafts.proofs.laws.conditions_compare_sets.Goals as goal

pub returns : goal.returns
returns c = record { implied = equals_shares; turned = shares_mutual; both = equals_mutual; sharing = shares_alike; equality = equals_alike; same = equals_same; none = refl }
