use Rattle.records.proofs.Places.{found_at}
use Rattle.records.proofs.record.find.Goals as goal

pub returns : goal.returns
returns g c =
    let at = c.in_ok-at.ensures in
    found_at g.K.Record.made c.args.bytes.now c.args.i g.K.Record.size c.in_ok-at.at c.stride.result c.stride.ensures at.0 at.1 c.parse.result c.parse.ensures
