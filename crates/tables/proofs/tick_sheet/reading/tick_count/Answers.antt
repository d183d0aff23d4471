use Rattle.std.proofs.Common.{arith}
use lib.Count.{ones-le}
use Rattle.tables.specs.Ticks.{length_ticked}
use Rattle.tables.proofs.tick_sheet.reading.tick_count.Goals as goal

pub overflow_cast-result : goal.overflow_cast-result
overflow_cast-result c = omega (arith, ones-le 64 c.args.word (omega arith))

pub returns : goal.returns
returns c = length_ticked c.args.word (omega arith)
