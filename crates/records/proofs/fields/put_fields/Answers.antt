use Rattle.std.proofs.Common.{◌≡◌, ℕ, ◌+◌, ◌*◌, List, [], ◌∷◌, ◌++◌, length, take, drop, slice_index_or, sym, ap, ◌∙◌, arith}
use Rattle.std.proofs.lemmas.Grind.{take_at_read}
use Rattle.std.proofs.lemmas.List.{length-take-le, take_all}
use Rattle.records.specs.Fields.{bytes_of}
use Rattle.records.proofs.Places.{put_more, at_most}
use Rattle.records.proofs.fields.put_fields.Goals as goal

pub loop-i-preserved : goal.loop-i-preserved
loop-i-preserved c =
    let i = c.loop-i.i in
    let fs : List ℕ = c.args.fields.now in
    let xs : List ℕ = c.args.part.now in
    let f = slice_index_or fs i 0 in
    let here = length-take-le i fs (omega arith) in
    let next : take i fs ++ f ∷ [] ≡ take (i + 1) fs = sym (take_at_read fs i 0 c.loop-i-test.true).1 in
    let behind : 4 * i + 4 ≡ 4 * (i + 1) = omega arith in
    put_more (take i fs) f (4 * i) xs (omega (arith, here)) c.loop-i.invariant c.put_field.ensures
    ∙ ap (λ (v : List ℕ). bytes_of v ++ drop (4 * i + 4) xs) next
    ∙ ap (λ (k : ℕ). bytes_of (take (i + 1) fs) ++ drop k xs) behind

pub returns-after-loop-i : goal.returns-after-loop-i
returns-after-loop-i c =
    let i = c.loop-i.i in
    let fs : List ℕ = c.args.fields.now in
    let xs : List ℕ = c.args.part.now in
    let all : i ≡ length fs = omega arith in
    at_most (4 * length fs) (length xs) (bytes_of fs ++ drop (4 * length fs) xs) xs (omega arith)
    (c.loop-i.invariant
    ∙ ap (λ (v : List ℕ). bytes_of v ++ drop (4 * i) xs) (take_all i fs (omega arith))
    ∙ ap (λ (k : ℕ). bytes_of fs ++ drop (4 * k) xs) all)
