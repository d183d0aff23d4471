use Rattle.std.proofs.Common.{true, sym, ap, ◌∙◌}
use Rattle.records.specs.Reading.{lies_in}
use Rattle.records.specs.Refusals.{told, read_refusal}
use Rattle.records.proofs.Trips.{both_yes}
use Rattle.tables.specs.RegisterSearch.{triple_at}
use Rattle.tables.proofs.register.reading.triple_at.Goals as goal

pub returns : goal.returns
unfolding triple_at
returns c =
    (both_yes (lies_in 12 c.args.k c.args.bytes.now) true c.unwrap.result (triple_at c.args.bytes.now c.args.k) (30, c.args.k) (29, c.args.k) (sym (ap (told read_refusal) c.unwrap.ensures) ∙ c.read.ensures)).2
