use Rattle.std.proofs.Common.{◌≡◌, ℕ, ◌/◌, ◌<◌, [], ◌∷◌, ◌++◌, map, length, Some, Err, subst, vec_items, sym, ap, ◌∙◌, arith}
use Rattle.std.specs.List.{range_with_len}
use Rattle.records.specs.Refusals.{read_refusal}
use Rattle.report.specs.Files.{length_fault, file_fault, Opened}
use Rattle.std.proofs.lemmas.Result.{err_from_is_err_and}
use Rattle.report.proofs.Opening.{body_at, body_read, body_refused, fault_more, fault_here, fault_none, file_passes, body_push}
use Rattle.report.proofs.file.open.Goals as goal

pub returns-in_err-body : goal.returns-in_err-body
returns-in_err-body g c =
    let k = g.K.Record in
    let xs = c.args.bytes.now in
    let i = c.loop-i.i in
    let fault = c.in_err-body.field-0.0 in
    let within : i < length xs / k.size = rw (← c.stride-size.ensures) c.loop-i-test.true in
    let refused = body_refused k.made k.allowed k.size xs i (read_refusal fault) g.met.K.Record.some within c.in_err-body.ensures in
    let told = err_from_is_err_and c.from_residual-in_err-body.result c.from_residual-in_err-body.ensures.1 in
    let first : file_fault k.made k.allowed k.size xs ≡ Some (read_refusal fault) =
    file_passes k.made k.allowed k.size xs (ap (λ (n : ℕ). length_fault n xs) (sym c.stride-size.ensures) ∙ c.in_ok-check_length.ensures)
    ∙ c.loop-i.invariant.1
    ∙ fault_here k.made k.allowed k.size xs i within refused.0
    ∙ ap Some (sym refused.1)
    in
    subst (Opened k.made k.allowed k.size xs) (sym (told.1 ∙ ap Err told.2)) first

pub loop-i-preserved : goal.loop-i-preserved
loop-i-preserved g c =
    let k = g.K.Record in
    let xs = c.args.bytes.now in
    let i = c.loop-i.i in
    let within : i < length xs / k.size = rw (← c.stride-size.ensures) c.loop-i-test.true in
    let read = body_read k.made k.allowed k.size xs i c.in_ok-body.body g.met.K.Record.some within c.in_ok-body.ensures in
    let pushed : vec_items c.push.new.self ≡ vec_items c.loop-i.bodies ++ c.in_ok-body.body ∷ [] = c.in_ok-push.ensures.items
    in (
      pushed ∙ body_push k.made k.size xs i c.loop-i.invariant.0 read.1,
      c.loop-i.invariant.1 ∙ fault_more k.made k.allowed k.size xs i within read.0,
    )

pub returns : goal.returns
returns g c =
    let k = g.K.Record in
    let xs = c.args.bytes.now in
    let done : c.loop-i.i ≡ length xs / k.size = rw (← c.stride-size.ensures) (omega arith) in (
      file_passes k.made k.allowed k.size xs (ap (λ (n : ℕ). length_fault n xs) (sym c.stride-size.ensures) ∙ c.in_ok-check_length.ensures)
          ∙ c.loop-i.invariant.1
          ∙ fault_none k.made k.allowed k.size xs c.loop-i.i (omega arith),
      c.loop-i.invariant.0 ∙ ap (λ (n : ℕ). map (body_at k.made k.size xs) (range_with_len 0 n)) done,
    )
