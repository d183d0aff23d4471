use Rattle.std.proofs.Common.{refl}
use Rattle.contexts.specs.Pairs.{pairs}
use Rattle.lattice.specs.Sets.{weight, has, code_of, includes}
use Rattle.listings.specs.Candidates.{widening, is_candidate, candidates}
use Rattle.listings.specs.Counts.{left_linked, right_linked, lefts_present, rights_present, condition_count, candidate_body}
use Rattle.listings.specs.Links.{both_present, is_link, links}
use Rattle.tables.specs.Register.{triples_in}
use Rattle.runs.proofs.laws.small_registers_are_listed.Goals as goal

pub returns : goal.returns
unfolding triples_in weight has code_of includes pairs both_present is_link links widening is_candidate candidates left_linked right_linked lefts_present rights_present condition_count candidate_body
returns c = refl
