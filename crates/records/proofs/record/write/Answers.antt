use Rattle.std.proofs.Common.{◌+◌, ◌≤◌, length, sym, ◌∙◌, arith}
use Rattle.records.specs.Fields.{bytes_of}
use Rattle.records.proofs.Bytes.{length_bytes_of}
use Rattle.records.proofs.Places.{lent_written}
use Rattle.records.proofs.Trips.{write_yes}
use Rattle.records.proofs.record.write.Goals as goal

pub returns : goal.returns
returns g c =
    let at = c.args.at in
    let size = g.K.Record.size in
    let xs = c.args.out.now in
    let b = c.args.body.now in
    let fs = g.K.Record.fields b in
    let space : at + size ≤ length xs = omega arith in
    record {
      answer = write_yes (g.K.Record.allowed b) size at xs space (sym c.if-not-is_allowed.ensures);
      after = lent_written at size xs (bytes_of fs) (length_bytes_of fs ∙ g.met.K.Record.whole b) space c.put.ensures;
    }
