use Rattle.std.proofs.Common.{◌≡◌, ℕ, ◌+◌, false, eqb, List, [], ◌∷◌, ◌++◌, vec_items, sym, ap, ◌∙◌, arith}
use Rattle.std.proofs.lemmas.List.{append_assoc, append-nil}
use Rattle.std.proofs.lemmas.Bool.{eq-eqb, ne_eqb}
use Rattle.contexts.specs.Pairs.{pairs, coded, coded_pairs}
use Rattle.contexts.specs.Relation.{Relation}
use Rattle.contexts.specs.declared.coded_pair.CodedPair.{CodedPair}
use Rattle.contexts.proofs.Coding.{rows_coded, row_coded, rows_more, row_more_coded, row_more_bare}
use Rattle.contexts.proofs.context.Context.coded_pairs.Goals as goal
use Rattle.contexts.proofs.context.Context.coded_pairs.Goals.{then-code-ne0+in_ok-push, else-code-ne0}

-- What stands after a pair, where `more` is what it adds.
pair_after : (r : Relation) (s t : ℕ) (ps qs more : List CodedPair) → ps ≡ rows_coded r s ++ row_coded r s t → qs ≡ ps ++ more → row_coded r s (t + 1) ≡ row_coded r s t ++ more → qs ≡ rows_coded r s ++ row_coded r s (t + 1)
pair_after r s t ps qs more before pushed row =
    pushed ∙ ap (λ (v : List CodedPair). v ++ more) before ∙ append_assoc (rows_coded r s) (row_coded r s t) more ∙ ap (λ (v : List CodedPair). rows_coded r s ++ v) (sym row)

pub loop-t-preserved : goal.loop-t-preserved
loop-t-preserved g c =
    let r = g.Self.Context.relation c.args.self.now in
    let s = c.loop-s.s in
    let t = c.loop-t.t in
    let told = c.code-code.ensures in
    elim c.if-code-ne0.branch [
      | then-code-ne0+in_ok-push w ↦
          let bare : eqb (r.code s t) 0 ≡ false = ne_eqb (r.code s t) 0 (λ e. w.if-code-ne0.true (told ∙ e)) in
          pair_after r s t _ _ (coded r (s, t) ∷ []) c.loop-t.invariant
          (ap vec_items w.pairs-is ∙ w.in_ok-push.ensures.items ∙ ap (λ (x : ℕ). vec_items c.loop-t.pairs ++ record { left = s; right = t; code = x } ∷ []) told)
          (row_more_coded r s t bare)
      | else-code-ne0 w ↦
          pair_after r s t _ _ [] c.loop-t.invariant (ap vec_items w.pairs-is ∙ sym (append-nil (vec_items c.loop-t.pairs))) (row_more_bare r s t (eq-eqb (r.code s t) 0 (sym told ∙ w.if-code-ne0.false)))
    ]

pub loop-s-preserved : goal.loop-s-preserved
loop-s-preserved g c =
    let r = g.Self.Context.relation c.args.self.now in
    let all : c.loop-t.t ≡ r.rights = omega (arith, c.rights-t-end.ensures, c.loop-t.auto.t-end, c.loop-t-test.false) in
    c.loop-t.invariant ∙ ap (λ (n : ℕ). rows_coded r c.loop-s.s ++ row_coded r c.loop-s.s n) all ∙ rows_more r c.loop-s.s

pub returns : goal.returns
unfolding coded_pairs pairs
returns g c =
    let r = g.Self.Context.relation c.args.self.now in
    let all : c.loop-s.s ≡ r.lefts = omega (arith, c.lefts-s-end.ensures, c.loop-s.auto.s-end, c.loop-s-test.false) in
    c.loop-s.invariant ∙ ap (rows_coded r) all
