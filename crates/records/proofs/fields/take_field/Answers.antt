use Rattle.std.proofs.Common.{arith, rules}
use Rattle.records.proofs.Bytes.{field_taken}
use Rattle.records.proofs.fields.take_field.Goals as goal

pub returns : goal.returns
returns c =
    field_taken c.args.bytes.now c.from_le_bytes.result (λ i. omega (arith, c.type_inv.bytes i)) (search rules) c.from_le_bytes.ensures
