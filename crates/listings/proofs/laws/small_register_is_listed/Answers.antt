use Rattle.std.proofs.Common.{refl}
use Rattle.lattice.specs.Sets.{weight, has, code_of, includes}
use Rattle.contexts.specs.Pairs.{pairs}
use Rattle.listings.specs.Links.{both_present, is_link, links}
use Rattle.listings.specs.Candidates.{widening, is_candidate, candidates}
use Rattle.listings.specs.Counts.{left_linked, right_linked, lefts_present, rights_present, condition_count, candidate_body, candidate_bytes}
use Rattle.listings.specs.Pages.{link_bytes, page_reply}
use Rattle.listings.specs.Replies.{candidate_count, reply}
use Rattle.listings.proofs.laws.small_register_is_listed.Goals as goal

pub returns : goal.returns
unfolding weight has code_of includes pairs both_present is_link links widening is_candidate candidates left_linked right_linked lefts_present rights_present condition_count candidate_body candidate_bytes link_bytes page_reply candidate_count reply
returns c = record { listed = refl; answered = (refl, refl) }
