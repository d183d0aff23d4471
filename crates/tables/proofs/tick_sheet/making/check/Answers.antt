use Rattle.std.proofs.Common.{◌≡◌, ◌-◌, ◌<◌, ℕ, map, length, None, sym, ap, subst, ◌∙◌, arith}
use Rattle.std.specs.List.{range_with_len}
use Rattle.std.proofs.lemmas.Result.{err_from_is_err_and}
use Rattle.tables.specs.TickSheet.{row, row_fault, rows_fault}
use Rattle.tables.specs.Rows.{row_parts, rows_begin, rows_here, rows_next, rows_end}
use Rattle.tables.proofs.SheetRows.{Left, left_begin, left_here, left_next, left_end}
use Rattle.tables.proofs.tick_sheet.making.check.Goals as goal

pub loop-s-init : goal.loop-s-init
loop-s-init c =
    let ws = c.args.words.now in
    let n = c.args.subjects in
    let m = c.args.properties in
    let same : c.into_iter-s-iterator.result.iter ≡ c.chunks_exact.result = cc in
    let first : c.into_iter-s-iterator.result.count ≡ 0 = cc in (
      left_begin ws n m c.into_iter-s-iterator.result.count c.into_iter-s-iterator.result.iter.size c.into_iter-s-iterator.result.iter.rest.now c.if-words-subjects.false (ap (λ i. i.size) same ∙ c.chunks_exact.ensures.size) (ap (λ i. i.rest.now) same ∙ c.chunks_exact.ensures.rest) first,
      ap (λ (s : ℕ). rows_fault s (map (row ws m) (range_with_len s (n - s)))) first ∙ rows_begin ws n m (omega arith) (omega arith) c.if-words-subjects.false,
    )

pub loop-s-preserved : goal.loop-s-preserved
loop-s-preserved c =
    let ws = c.args.words.now in
    let n = c.args.subjects in
    let m = c.args.properties in
    let s = c.loop-s.s-iterator.count in
    let t = c.next.new.self.count in
    let size = c.loop-s.s-iterator.iter.size in
    let rest = c.loop-s.s-iterator.iter.rest.now in
    let more = c.next.new.self.iter.rest.now in
    let r = c.in-Some.row.now in
    let step = c.in-Some.ensures.steps in
    let here = left_here ws n m s size r rest more c.loop-s.invariant.0 step.0.1.0 step.0.1.1 in
    let long : 0 < length r = omega (arith, step.0.1.1, c.loop-s.invariant.0.part) in
    let passed = ap (row_fault c.in-Some.s) (sym (row_parts r long ∙ here.1)) ∙ c.in_ok-check_row.ensures in
    let told : row_fault s (row ws m s) ≡ None = ap (λ (j : ℕ). row_fault j (row ws m s)) (sym step.1) ∙ passed in
    let next = left_next ws n m s t size r rest more c.loop-s.invariant.0 step.0.1.0 step.0.1.1 step.2 in (
      subst (λ (z : ℕ). Left ws n m t z more) (sym step.0.0) next,
      ap (λ (j : ℕ). rows_fault j (map (row ws m) (range_with_len j (n - j)))) step.2 ∙ sym (rows_next (row ws m) s n here.0 told) ∙ c.loop-s.invariant.1,
    )

pub returns-in_err-check_row : goal.returns-in_err-check_row
returns-in_err-check_row c =
    let ws = c.args.words.now in
    let n = c.args.subjects in
    let m = c.args.properties in
    let s = c.loop-s.s-iterator.count in
    let size = c.loop-s.s-iterator.iter.size in
    let rest = c.loop-s.s-iterator.iter.rest.now in
    let more = c.next.new.self.iter.rest.now in
    let r = c.in-Some.row.now in
    let step = c.in-Some.ensures.steps in
    let here = left_here ws n m s size r rest more c.loop-s.invariant.0 step.0.1.0 step.0.1.1 in
    let long : 0 < length r = omega (arith, step.0.1.1, c.loop-s.invariant.0.part) in
    let refused = ap (row_fault c.in-Some.s) (sym (row_parts r long ∙ here.1)) ∙ c.in_err-check_row.ensures in
    let told = ap (λ (j : ℕ). row_fault j (row ws m s)) (sym step.1) ∙ refused in
    let p = err_from_is_err_and c.from_residual.result c.from_residual.ensures.1 in
    rw (p.1, p.2) (sym c.loop-s.invariant.1 ∙ rows_here (row ws m) s n _ here.0 told)

pub returns : goal.returns
returns c =
    let ws = c.args.words.now in
    let n = c.args.subjects in
    let m = c.args.properties in
    let s = c.loop-s.s-iterator.count in
    let end = c.in-None.ensures.steps in
    sym c.loop-s.invariant.1 ∙ rows_end (row ws m) s n (left_end ws n m s c.loop-s.s-iterator.iter.size c.loop-s.s-iterator.iter.rest.now c.loop-s.invariant.0 end.0.1.0)
