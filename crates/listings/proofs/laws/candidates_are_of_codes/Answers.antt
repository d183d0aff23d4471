use Rattle.listings.proofs.Closures.{candidates_ascend, meet_candidate}
use Rattle.listings.proofs.Codes.{candidates_by_codes}
use Rattle.listings.proofs.laws.candidates_are_of_codes.Goals as goal

pub returns : goal.returns
returns c = record { codes = candidates_by_codes; ascend = candidates_ascend; meets = meet_candidate }
