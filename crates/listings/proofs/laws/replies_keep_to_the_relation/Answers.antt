use Rattle.listings.specs.Replies.{replies}
use Rattle.listings.proofs.Keeping.{replies_keep}
use Rattle.listings.proofs.Running.{replies_past}
use Rattle.listings.proofs.Settling.{kept_alike}
use Rattle.listings.proofs.laws.replies_keep_to_the_relation.Goals as goal

pub returns : goal.returns
returns c =
    record {
      keep = replies_keep;
      settled = λ relation asks rs k. kept_alike relation asks rs (replies relation 0 asks) k (replies_keep relation asks);
      alike = kept_alike;
      stays = replies_past;
    }
