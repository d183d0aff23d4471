use Rattle.lattice.proofs.Closures.{meet_closed}
use Rattle.lattice.proofs.Raising.{next_is_least, none_above, first_is_next, none_is_last}
use Rattle.lattice.proofs.Steps.{next_members}
use Rattle.lattice.proofs.closed.steps_follow_trials.Goals as goal

pub returns : goal.returns
returns c = record { meets = meet_closed; least = next_is_least; last = none_above; accepted = first_is_next; refused = none_is_last; members = next_members }
