-- Conditions added one after another.
use Rattle.std.proofs.Common.{◌≡◌, ℕ, ◌+◌, ◌/◌, ◌<◌, ◌≤◌, List, [], length, drop, Some, None, Err, Option, sym, ap, ◌∙◌, arith}
use Rattle.std.proofs.lemmas.List.FromFn.{length-map-range_with_len}
use Rattle.std.proofs.lemmas.List.{drop_all}
use Rattle.records.specs.Kinds.{condition_of}
use Rattle.records.specs.Questions.{answer_by, first_no}
use Rattle.records.specs.Reading.{bodies}
use Rattle.records.specs.Refusals.{Refusal}
use Rattle.drafts.specs.Comparisons.{comparison_of}
use Rattle.drafts.specs.Drafting.{with_more}
use Rattle.drafts.specs.declared.comparison.Comparison.{Comparison}
use Rattle.records.specs.declared.kinds.condition.Condition.{Condition}
use Rattle.tables.specs.declared.register.RegisterFile.{RegisterFile}
use Rattle.report.specs.Drafts.{condition_at, at_record_fault, conditions_fault, drafted}
use Rattle.report.proofs.Opening.{body_at, drop_bodies}

-- an answer that refuses tells the first no
pub refused_by : (o : Option Refusal) (e : Refusal) → Err e ≡ answer_by o → o ≡ Some e
refused_by None e h = let z : ◌≡◌ {A = ℕ} 0 1 = cc in absurd (omega arith)
refused_by (Some f) e h = cc

-- what is left of the conditions after one that was added
pub fault_more : (lm rm i : ℕ) (cs : List Comparison) (xs : List ℕ) → i < length xs / 12 → at_record_fault lm rm i cs (condition_at xs i) ≡ None → conditions_fault lm rm i cs (drop i (bodies condition_of 12 xs)) ≡ conditions_fault lm rm (i + 1) (with_more cs (comparison_of (condition_at xs i))) (drop (i + 1) (bodies condition_of 12 xs))
fault_more lm rm i cs xs h none =
    ap (conditions_fault lm rm i cs) (drop_bodies condition_of 12 xs i h)
    ∙ ap (λ (o : Option Refusal). first_no o (conditions_fault lm rm (i + 1) (with_more cs (comparison_of (condition_at xs i))) (drop (i + 1) (bodies condition_of 12 xs)))) none

pub fault_here : (lm rm i : ℕ) (cs : List Comparison) (xs : List ℕ) (e : Refusal) → i < length xs / 12 → at_record_fault lm rm i cs (condition_at xs i) ≡ Some e → conditions_fault lm rm i cs (drop i (bodies condition_of 12 xs)) ≡ Some e
fault_here lm rm i cs xs e h some =
    ap (conditions_fault lm rm i cs) (drop_bodies condition_of 12 xs i h)
    ∙ ap (λ (o : Option Refusal). first_no o (conditions_fault lm rm (i + 1) (with_more cs (comparison_of (condition_at xs i))) (drop (i + 1) (bodies condition_of 12 xs)))) some

pub drafted_more : (i : ℕ) (cs : List Comparison) (xs : List ℕ) → i < length xs / 12 → drafted cs (drop i (bodies condition_of 12 xs)) ≡ drafted (with_more cs (comparison_of (condition_at xs i))) (drop (i + 1) (bodies condition_of 12 xs))
drafted_more i cs xs h = ap (drafted cs) (drop_bodies condition_of 12 xs i h)

-- and after the last
pub none_left : (i : ℕ) (xs : List ℕ) → length xs / 12 ≤ i → drop i (bodies condition_of 12 xs) ≡ []
none_left i xs h =
    drop_all i (bodies condition_of 12 xs) (omega (arith, length-map-range_with_len (body_at condition_of 12 xs) 0 (length xs / 12)))

-- the same tables ask the same
pub same_tables : {a b : RegisterFile} {d e : RegisterFile} (i : ℕ) (cs : List Comparison) (condition : Condition) → a ≡ b → d ≡ e → at_record_fault b.properties e.properties i cs condition ≡ at_record_fault a.properties d.properties i cs condition
same_tables {a} {b} {d} {e} i cs condition l r =
    ap (λ (t : RegisterFile). at_record_fault t.properties e.properties i cs condition) (sym l)
    ∙ ap (λ (t : RegisterFile). at_record_fault a.properties t.properties i cs condition) (sym r)
