use Rattle.std.proofs.Common.{refl, arith}
use Rattle.records.proofs.Places.{lies_from, cut_from}
use Rattle.records.proofs.record.offset.Goals as goal

pub overflow_mul-result : goal.overflow_mul-result
overflow_mul-result c = omega (arith, lies_from c.args.i c.args.len c.args.size c.requires c.if-i-len.true)

pub returns-then-i-len : goal.returns-then-i-len
returns-then-i-len c = (refl, lies_from c.args.i c.args.len c.args.size c.requires c.if-i-len.true)

pub returns-else-i-len : goal.returns-else-i-len
returns-else-i-len c = cut_from c.args.i c.args.len c.args.size c.requires c.if-i-len.false
