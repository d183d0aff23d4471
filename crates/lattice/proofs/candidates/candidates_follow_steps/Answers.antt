use Rattle.lattice.proofs.Steps.{steps, candidates_ascend, candidates_fewer, meet_candidate, candidates_members}
use Rattle.lattice.proofs.candidates.candidates_follow_steps.Goals as goal

pub returns : goal.returns
returns c = record { steps = steps; ascend = candidates_ascend; fewer = candidates_fewer; meets = meet_candidate; members = candidates_members }
