use Rattle.std.proofs.Common.{◌≡◌, ◌/◌, ◌%◌, ◌∙◌, arith}
use Rattle.records.specs.Fields.{four}
use Rattle.records.proofs.Places.{part_written}
use Rattle.records.proofs.fields.put_field.Goals as goal

pub returns : goal.returns
returns c =
    let n = c.args.field in
    let last : n / 16777216 % 256 ≡ n / 16777216 = omega arith in
    let bytes : c.to_le_bytes.result ≡ four n = cc in
    part_written c.args.at _ c.args.part.now (four n) (c.copy_from_slice.ensures.after ∙ bytes) (omega arith)
