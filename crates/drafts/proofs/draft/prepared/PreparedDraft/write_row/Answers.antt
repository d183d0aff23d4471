use Rattle.std.proofs.Common.{◌≡◌, ℕ, ◌<◌, List, length, vec_items, get_or, sym, refl, ap, ◌∙◌, subst, arith}
use Rattle.std.proofs.lemmas.List.FromFn.{fill_by_all}
use Rattle.std.proofs.lemmas.List.Elements.{All-get_or}
use Rattle.std.proofs.lemmas.List.{get_or-replicate}
use Rattle.lattice.specs.Sets.{code_of}
use Rattle.drafts.specs.Preparing.{HasLists, prepared_at, prepared_code, prepared_holds}
use Rattle.drafts.specs.declared.draft.prepared.Prepared.{Prepared}
use Rattle.drafts.proofs.Codes.{code_more, code_small}
use Rattle.drafts.proofs.Preparing.{prepared_at_read}
use Rattle.drafts.proofs.draft.prepared.PreparedDraft.write_row.Goals as goal

pub loop-comparison-init : goal.loop-comparison-init
unfolding code_of
loop-comparison-init c =
    λ t h. ap (λ (xs : List ℕ). get_or xs t 0) (c.fill.ensures.after (λ y e. e)) ∙ get_or-replicate (length c.args.row.now) t 0 0 (omega (arith, h, c.fill.ensures.len))

pub add_to-requires : goal.add_to-requires
add_to-requires c =
    let v = c.args.self.now in
    let ps = vec_items v.comparisons in
    let i = c.loop-comparison.comparison-index in
    let s = c.args.s in
    let inside : i < length ps = rw c.deref-comparison-items.ensures.value at c.loop-comparison-test.true in
    let P : Prepared → Type 0 = λ p. HasLists s (length c.loop-comparison.row) p in
    let Q : ℕ → Type 0 = λ n. HasLists s n (get_or ps i c.comparison-item.result) in
    let long : v.rights ≡ length c.loop-comparison.row = omega (arith, c.requires.1, c.loop-comparison.auto.row, c.fill.ensures.len) in
    record {
      held = subst P (sym (rw c.deref-comparison-items.ensures.value at c.comparison-item.is)) (subst Q long (All-get_or (HasLists s v.rights) ps i c.comparison-item.result inside (v.held s c.requires.0)));
      small = λ t h. code_small i (prepared_at ps s t) _ (omega (arith, v.few, v.comparisons.ok.0, inside)) (c.loop-comparison.invariant t h);
    }

pub loop-comparison-preserved : goal.loop-comparison-preserved
loop-comparison-preserved c =
    λ t h.
    let ps = vec_items c.args.self.now.comparisons in
    let i = c.loop-comparison.comparison-index in
    let s = c.args.s in
    let p = c.comparison-item.result in
    let read = c.deref-comparison-items.ensures.value in
    let inside : t < length c.loop-comparison.row = omega (arith, h, c.add_to.auto.row) in
    c.add_to.ensures t inside
    ∙ code_more (prepared_at ps s t) i (get_or c.loop-comparison.row t 0) _ (prepared_holds p s t) (c.loop-comparison.invariant t inside)
    (ap (λ (q : Prepared). prepared_holds q s t) (rw read at c.comparison-item.is) ∙ sym (prepared_at_read ps s t i p (rw read at c.loop-comparison-test.true)))
    refl

pub returns : goal.returns
returns c =
    let v = c.args.self.now in
    let ps = vec_items v.comparisons in
    let all : c.loop-comparison.comparison-index ≡ length ps = rw (sym c.deref-comparison-items.ensures.value) (omega (arith, c.loop-comparison-test.false, c.loop-comparison.auto.comparison-index-end)) in
    let long : length c.loop-comparison.row ≡ v.rights = omega (arith, c.requires.1, c.loop-comparison.auto.row, c.fill.ensures.len) in
    fill_by_all (prepared_code ps c.args.s) c.loop-comparison.row v.rights 0 long
    (λ t h. c.loop-comparison.invariant t (omega arith) ∙ ap (λ (k : ℕ). code_of k (prepared_at ps c.args.s t)) all)
