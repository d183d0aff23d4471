use Rattle.std.proofs.Common.{◌≡◌, true, is_some}
use Rattle.protocol.proofs.take_from.Given as goal

abbrev pub invariant-loop : goal.invariant-loop
invariant-loop l = is_some l.slot ≡ true
