use Rattle.std.proofs.Common.{ℕ, List, is_some, vec_items, sym, ap, ◌∙◌, rules}
use Rattle.tables.specs.Register.{register_fault}
use Rattle.tables.proofs.Ordering.{ordered}
use Rattle.tables.specs.Triples.{allowed_from}
use Rattle.tables.proofs.register.RegisterFile.new.Goals as goal

pub returns-in-Ok : goal.returns-in-Ok
returns-in-Ok c =
    let xs : List ℕ = vec_items c.args.bytes in
    let n = c.args.subjects in
    let m = c.args.properties in
    let passed = ap (λ (ys : List ℕ). is_some (register_fault ys n m)) (sym c.as_slice.ensures.value) ∙ ap is_some c.in-Ok.ensures.answer in
    record { answer = search rules; ordered = ordered xs n m (allowed_from xs n m passed) }
