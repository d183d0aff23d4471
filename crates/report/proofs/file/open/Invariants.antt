use Rattle.std.proofs.Common.{◌≡◌, map, drop, vec_items}
use Rattle.std.specs.List.{range_with_len}
use Rattle.records.specs.Reading.{bodies}
use Rattle.report.specs.Files.{body_fault}
use Rattle.report.proofs.Opening.{body_at}
use Rattle.report.proofs.file.open.Given as goal

-- the records so far are read and allowed, so a no to those that are left is a no to the file
abbrev pub invariant-loop-i : goal.invariant-loop-i
invariant-loop-i g l =
    let size = g.K.Record.size in
    let made = g.K.Record.made in
    let allowed = g.K.Record.allowed in
    (vec_items l.bodies ≡ map (body_at made size l.bytes) (range_with_len 0 l.i))
    × (body_fault allowed 0 (bodies made size l.bytes) ≡ body_fault allowed l.i (drop l.i (bodies made size l.bytes)))
