use Rattle.std.proofs.Common.{◌+◌, ◌-◌, ◌/◌, map, length, Some, sym, ap, ◌∙◌, arith}
use Rattle.std.specs.List.{range_with_len}
use Rattle.std.proofs.lemmas.Result.{err_from_is_err_and}
use Rattle.records.specs.declared.kinds.triple.Triple.{Triple}
use Rattle.tables.specs.Register.{triple_fault, triples_fault}
use Rattle.tables.specs.RegisterSearch.{triple_at}
use Rattle.tables.specs.Triples.{fault_begin, fault_here, fault_next}
use Rattle.tables.proofs.register.making.check.Goals as goal

pub loop-k-init : goal.loop-k-init
loop-k-init c =
    fault_begin c.args.bytes.now c.args.subjects c.args.properties (omega arith) (omega arith) (omega arith) (omega arith)

pub returns-in_err-check_record : goal.returns-in_err-check_record
returns-in_err-check_record c =
    let xs = c.args.bytes.now in
    let n = c.args.subjects in
    let m = c.args.properties in
    let k = c.loop-k.k in
    let refused = ap (triple_fault n m k c.loop-k.before) (sym c.triple_at-triple.ensures) ∙ c.in_err-check_record.ensures in
    let p = err_from_is_err_and c.from_residual.result c.from_residual.ensures.1 in
    record {
      answer = rw (p.1, p.2) (sym c.loop-k.invariant ∙ fault_here (triple_at xs) n m k (length xs / 12) c.loop-k.before _ c.loop-k-test.true refused);
      small = λ i. omega (arith, c.type_inv.bytes i);
    }

pub loop-k-preserved : goal.loop-k-preserved
loop-k-preserved c =
    let xs = c.args.bytes.now in
    let n = c.args.subjects in
    let m = c.args.properties in
    let k = c.loop-k.k in
    let read = c.triple_at-triple.ensures in
    let passed = ap (triple_fault n m k c.loop-k.before) (sym read) ∙ c.in_ok-check_record.ensures in
    ap (λ (t : Triple). triples_fault n m (k + 1) (Some t) (map (triple_at xs) (range_with_len (k + 1) (length xs / 12 - (k + 1))))) read
    ∙ sym (fault_next (triple_at xs) n m k (length xs / 12) c.loop-k.before c.loop-k-test.true passed)
    ∙ c.loop-k.invariant
