use Rattle.std.proofs.Common.{◌≡◌, ℕ, ◌+◌, List, [], ◌∷◌, ◌++◌, map, vec_items, Vec, sym, ap, ◌∙◌, ap₂, zero-add}
use Rattle.std.specs.declared.alloc.Global.{Global}
use Rattle.std.proofs.lemmas.List.FromFn.{map-range_with_len_more}
use Rattle.std.proofs.lemmas.List.{map_push}
use Rattle.lattice.specs.Sets.{range}
use Rattle.drafts.proofs.draft.lists.copy_lists.Goals as goal

-- One more list at the end.
one_more : (list : ℕ → List ℕ) (us vs : List (Vec ℕ Global)) (x : Vec ℕ Global) (s : ℕ) → map vec_items us ≡ map list (range s) → vs ≡ us ++ x ∷ [] → vec_items x ≡ list s → map vec_items vs ≡ map list (range (s + 1))
one_more list us vs x s before pushed copied =
    ap (map vec_items) pushed
    ∙ map_push vec_items us x
    ∙ ap₂ (λ (xs : List (List ℕ)) (y : List ℕ). xs ++ y ∷ []) before copied
    ∙ sym (map-range_with_len_more list 0 s s (zero-add s))

pub loop-s-preserved : goal.loop-s-preserved
loop-s-preserved g c =
    one_more (λ s. (g.T.Table.meaning c.args.table.now).values s c.args.p) (vec_items c.loop-s.lists) (vec_items c.push.new.self) c.in_ok-copy_list.field-0 c.loop-s.s
    c.loop-s.invariant
    c.in_ok-push.ensures.items
    c.in_ok-copy_list.ensures
