use Rattle.lattice.proofs.Conditions.{code_of_below, has_code_of, same_conditions, code_of_has, code_of_more, has_whole, has_meet, includes_and}
use Rattle.lattice.proofs.sets.sets_are_codes.Goals as goal

pub returns : goal.returns
returns c = record { below = code_of_below; passing = has_code_of; same = same_conditions; back = code_of_has; grow = code_of_more; all = has_whole; meets = has_meet; inclusion = includes_and }
