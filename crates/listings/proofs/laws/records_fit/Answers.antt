use Rattle.listings.proofs.Fitting.{fields_fit, records_are_bytes}
use Rattle.listings.proofs.laws.records_fit.Goals as goal

pub returns : goal.returns
returns c = record { fields = fields_fit; bytes = records_are_bytes }
