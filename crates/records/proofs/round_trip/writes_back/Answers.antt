use Rattle.std.proofs.Common.{arith}
use Rattle.records.proofs.Trips.{write_back}
use Rattle.records.proofs.round_trip.writes_back.Goals as goal

pub returns : goal.returns
returns g c =
    let k = g.K.Record in
    let b = c.in_ok-body.body in
    let w = c.in_ok-write.ensures in
    let back = write_back k.made k.fields k.allowed k.size c.args.i c.stride.result b c.args.bytes.now c.args.out.now c.write.new.out _ (g.met.K.Record.whole b) g.met.K.Record.kept (λ i. omega (arith, c.type_inv.bytes i)) c.stride.ensures c.in_ok-body.ensures w.answer w.after in
    record { answer = back.0; after = back.1; unchanged = back.2 }
