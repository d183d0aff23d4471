use Rattle.std.proofs.Common.{◌≡◌, max, drop}
use Rattle.report.specs.Registers.{subject_bound, property_bound}
use Rattle.report.proofs.register.Bounds.of.Given as goal

-- what is left can only raise the bounds
abbrev pub invariant-loop-triple : goal.invariant-loop-triple
invariant-loop-triple l =
    (max l.subjects (subject_bound (drop l.triple-index l.triples)) ≡ subject_bound l.triples)
    × (max l.properties (property_bound (drop l.triple-index l.triples)) ≡ property_bound l.triples)
