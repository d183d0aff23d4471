use Rattle.std.proofs.Common.{◌≡◌, ◌*◌, ◌++◌, take, drop}
use Rattle.records.specs.Fields.{bytes_of}
use Rattle.records.proofs.fields.put_fields.Given as goal

-- the fields so far stand at the front, and the rest is as it was
abbrev pub invariant-loop-i : goal.invariant-loop-i
invariant-loop-i l = l.part ≡ bytes_of (take l.i l.fields) ++ drop (4 * l.i) l.fn.part
