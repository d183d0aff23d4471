use Rattle.std.proofs.Common.{◌≡◌, ◌-◌, map}
use Rattle.std.specs.List.{range_with_len}
use Rattle.tables.specs.Register.{triples_fault, register_fault}
use Rattle.tables.specs.RegisterSearch.{triple_at}
use Rattle.tables.proofs.register.making.check.Given as goal

-- the questions that are left give the answer of all of them
abbrev pub invariant-loop-k : goal.invariant-loop-k
invariant-loop-k l =
    triples_fault l.subjects l.properties l.k l.before (map (triple_at l.bytes) (range_with_len l.k (l.count - l.k))) ≡ register_fault l.bytes l.subjects l.properties
