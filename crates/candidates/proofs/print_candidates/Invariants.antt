use Rattle.std.proofs.Common.{◌+◌, ◌-◌}
use Rattle.listings.specs.Replies.{candidate_count}
use Rattle.listings.specs.View.{relation_of, level}
use Rattle.candidates.proofs.print_candidates.Given as goal

abbrev pub decreases-loop-line : goal.decreases-loop-line
decreases-loop-line g l = candidate_count (relation_of l.listing) + 1 - level l.listing
