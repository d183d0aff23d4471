use Rattle.std.proofs.Common.{◌≡◌, ◌-◌, length, drop}
use Rattle.tables.specs.Meaning.{contains}
use Rattle.tables.proofs.value_list.ValueList.contains.Given as goal

abbrev pub invariant-loop-x : goal.invariant-loop-x
invariant-loop-x g l =
    let xs = (g.T.Table.meaning l.self.table.now).values l.self.subject l.self.property in
    contains (drop l.i xs) l.v ≡ contains xs l.v

abbrev pub decreases-loop-x : goal.decreases-loop-x
decreases-loop-x g l = length ((g.T.Table.meaning l.self.table.now).values l.self.subject l.self.property) - l.i
