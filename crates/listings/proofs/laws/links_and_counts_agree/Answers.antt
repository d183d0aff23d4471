use Rattle.listings.proofs.Counting.{wider_links_less, linked_present, linked_in_links, candidate_linked}
use Rattle.listings.proofs.laws.links_and_counts_agree.Goals as goal

pub returns : goal.returns
returns c = record { wider = wider_links_less; present = linked_present; among = linked_in_links; linked = candidate_linked }
