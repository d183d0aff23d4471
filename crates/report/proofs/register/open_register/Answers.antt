use Rattle.std.proofs.Common.{◌≡◌, ℕ, vec_items, Some, Err, sym, ap, ◌∙◌, subst}
use Rattle.std.proofs.lemmas.Result.{err_from_is_err_and}
use Rattle.tables.specs.Register.{triples_in, register_fault}
use Rattle.tables.specs.RegisterMaking.{RegisterMade}
use Rattle.tables.specs.RegisterRefusals.{register_refusal}
use Rattle.report.specs.Registers.{subject_bound, property_bound, register_file_fault, RegisterOpened}
use Rattle.report.proofs.Registering.{bound_counted, passed_as_file, not_opened}
use Rattle.report.proofs.register.open_register.Goals as goal
use Rattle.report.proofs.register.open_register.Goals.{After-new}

-- the bounds that were counted are those of the bytes, and the bytes passed as a file
counted : (c : After-new) →
    let xs = vec_items c.args.bytes in
    let n = c.of-bounds.result.subjects in
    let m = c.of-bounds.result.properties in
    (n ≡ subject_bound (triples_in xs)) × (m ≡ property_bound (triples_in xs)) × (register_file_fault xs ≡ register_fault xs n m)
counted c =
    let xs = vec_items c.args.bytes in
    let opened = c.in_ok-triples.ensures in
    let ts = vec_items c.in_ok-triples.triples in
    let n = c.of-bounds.result.subjects in
    let m = c.of-bounds.result.properties in
    let s = bound_counted (λ t. t.subject) xs _ ts _ n c.as_slice.ensures.value opened.1 c.as_slice-2.ensures.value c.of-bounds.ensures.subjects in
    let p = bound_counted (λ t. t.property) xs _ ts _ m c.as_slice.ensures.value opened.1 c.as_slice-2.ensures.value c.of-bounds.ensures.properties in
    (s, p, passed_as_file xs _ n m c.as_slice.ensures.value opened.0 s p)

pub returns-in_err-triples : goal.returns-in_err-triples
returns-in_err-triples c =
    let p = err_from_is_err_and c.from_residual.result c.from_residual.ensures.1 in
    rw (p.1, p.2) (not_opened (vec_items c.args.bytes) _ _ c.as_slice.ensures.value c.in_err-triples.ensures)

pub returns-in_err-new : goal.returns-in_err-new
returns-in_err-new c =
    let refusal = c.in_err-new.field-0.0 in
    let told = err_from_is_err_and c.from_residual-in_err-new.result c.from_residual-in_err-new.ensures.1 in
    let first : register_file_fault (vec_items c.args.bytes) ≡ Some (register_refusal refusal.fault) = (counted (goal.at.returns-in_err-new c).After-new).2 ∙ c.in_err-new.ensures.answer.first in
    subst (RegisterOpened (vec_items c.args.bytes)) (sym (told.1 ∙ ap Err told.2)) first

pub returns : goal.returns
returns c =
    let xs = vec_items c.args.bytes in
    let k = counted (goal.at.returns c).After-new in
    let made = c.in_ok-new.ensures.answer in (
      k.2 ∙ made.unrefused,
      subst (λ (p : ℕ). RegisterMade xs (subject_bound (triples_in xs)) p c.in_ok-new.field-0) k.1 (subst (λ (s : ℕ). RegisterMade xs s c.of-bounds.result.properties c.in_ok-new.field-0) k.0 made),
    )
