-- Prepared comparisons hold where the comparisons do, and have the same codes.
use Rattle.std.proofs.Common.{◌≡◌, ℕ, zero, suc, ◌+◌, ◌<◌, List, [], ◌∷◌, ◌++◌, length, get_or, take, vec_items, vec_len, Vec, sym, refl, ap, ◌∙◌, subst, ap₂, zero-add, arith}
use Rattle.std.specs.declared.alloc.Global.{Global}
use Rattle.std.specs.List.{All, AllByRecursion}
use Rattle.std.proofs.lemmas.List.Elements.{All-from_recursion}
use Rattle.std.proofs.lemmas.List.FromFn.{length-map-range_with_len, get_or-map-range_with_len}
use Rattle.std.proofs.lemmas.List.{length-map, take_more}
use Rattle.lattice.specs.Sets.{code_of}
use Rattle.records.specs.declared.kinds.condition.Kind.{Kind}
use Rattle.tables.specs.Meaning.{Meaning}
use Rattle.drafts.specs.Comparisons.{agree, comparison_holds}
use Rattle.drafts.specs.Live.{holds_at, live_code}
use Rattle.drafts.specs.Preparing.{AllPrepared, HasLists, Prepares, lists, lists_at, prepared_at, prepared_code, prepared_holds}
use Rattle.drafts.specs.declared.comparison.Comparison.{Comparison}
use Rattle.drafts.specs.declared.draft.prepared.Prepared.{Prepared}
use Rattle.drafts.specs.Soundness.{code_alike}

-- one more comparison
prepared_push : (l r : Meaning) (cs : List Comparison) (ps : List Prepared) (c : Comparison) (p : Prepared) → AllPrepared l r cs ps → Prepares l r c p → AllPrepared l r (cs ++ c ∷ []) (ps ++ p ∷ [])
prepared_push l r [] [] c p all one = (one, tt)
prepared_push l r [] (q ∷ ps) c p all one = absurd all
prepared_push l r (d ∷ cs) [] c p all one = absurd all
prepared_push l r (d ∷ cs) (q ∷ ps) c p all one = (all.0, prepared_push l r cs ps c p all.1 one)

pub prepared_more : (l r : Meaning) (cs : List Comparison) (ps qs : List Prepared) (i : ℕ) (d : Comparison) (p : Prepared) → i < length cs → AllPrepared l r (take i cs) ps → Prepares l r (get_or cs i d) p → qs ≡ ps ++ p ∷ [] → AllPrepared l r (take (i + 1) cs) qs
prepared_more l r cs ps qs i d p h all one pushed =
    let P : List Comparison → Type 0 = λ us. AllPrepared l r us qs in
    let Q : List Prepared → Type 0 = λ vs. AllPrepared l r (take i cs ++ get_or cs i d ∷ []) vs in
    subst P (sym (take_more cs i d h)) (subst Q (sym pushed) (prepared_push l r (take i cs) ps (get_or cs i d) p all one))

-- the copied lists are as many as the subjects
lists_long : (m : Meaning) (v : Vec (Vec ℕ Global) Global) (p : ℕ) → lists v ≡ lists_at m p → vec_len v ≡ m.subjects
lists_long m v p e =
    v.ok.0 ∙ sym (length-map (vec_items v) vec_items) ∙ ap length e ∙ length-map-range_with_len (λ s. m.values s p) 0 m.subjects

-- and each is the table's
list_held : (m : Meaning) (v : Vec (Vec ℕ Global) Global) (s p : ℕ) → lists v ≡ lists_at m p → s < m.subjects → get_or (lists v) s [] ≡ m.values s p
list_held m v s p e h =
    ap (λ (xs : List (List ℕ)). get_or xs s []) e ∙ get_or-map-range_with_len (λ s. m.values s p) 0 m.subjects s s [] h (zero-add s)

-- so each subject has its list
held_each : (l r : Meaning) (cs : List Comparison) (ps : List Prepared) (s rights : ℕ) → AllPrepared l r cs ps → s < l.subjects → rights ≡ r.subjects → AllByRecursion (HasLists s rights) ps
held_each l r [] [] s n all h e = tt
held_each l r [] (p ∷ ps) s n all h e = absurd all
held_each l r (c ∷ cs) [] s n all h e = absurd all
held_each l r (c ∷ cs) (p ∷ ps) s n all h e =
    let long = lists_long l p.left c.left all.0.left_lists in
    (record { left_held = omega arith; rights_held = lists_long r p.right c.right all.0.right_lists ∙ sym e }, held_each l r cs ps s n all.1 h e)

pub all_held : (l r : Meaning) (cs : List Comparison) (ps : List Prepared) (s rights : ℕ) → AllPrepared l r cs ps → s < l.subjects → rights ≡ r.subjects → All (HasLists s rights) ps
all_held l r cs ps s n all h e = All-from_recursion (HasLists s n) ps (held_each l r cs ps s n all h e)

-- a prepared comparison holds where the comparison does
prepared_same : (l r : Meaning) (c : Comparison) (p : Prepared) (s t : ℕ) → Prepares l r c p → s < l.subjects → t < r.subjects → prepared_holds p s t ≡ comparison_holds l r c s t
prepared_same l r c p s t one hs ht =
    ap (λ (k : Kind). agree k (get_or (lists p.left) s []) (get_or (lists p.right) t [])) one.same_kind
    ∙ ap₂ (agree c.kind) (list_held l p.left s c.left one.left_lists hs) (list_held r p.right t c.right one.right_lists ht)

all_same : (l r : Meaning) (cs : List Comparison) (ps : List Prepared) (s t : ℕ) → AllPrepared l r cs ps → s < l.subjects → t < r.subjects → (i : ℕ) → prepared_at ps s t i ≡ holds_at l r cs s t i
all_same l r [] [] s t all hs ht i = refl
all_same l r [] (p ∷ ps) s t all hs ht i = absurd all
all_same l r (c ∷ cs) [] s t all hs ht i = absurd all
all_same l r (c ∷ cs) (p ∷ ps) s t all hs ht zero = prepared_same l r c p s t all.0 hs ht
all_same l r (c ∷ cs) (p ∷ ps) s t all hs ht (suc i) = all_same l r cs ps s t all.1 hs ht i

-- as many are prepared as there are
pub as_many : (l r : Meaning) (cs : List Comparison) (ps : List Prepared) → AllPrepared l r cs ps → length ps ≡ length cs
as_many l r [] [] all = refl
as_many l r [] (p ∷ ps) all = absurd all
as_many l r (c ∷ cs) [] all = absurd all
as_many l r (c ∷ cs) (p ∷ ps) all = ap suc (as_many l r cs ps all.1)

-- and the codes are the same
pub same_code : (l r : Meaning) (cs : List Comparison) (ps : List Prepared) (s t : ℕ) → AllPrepared l r cs ps → s < l.subjects → t < r.subjects → prepared_code ps s t ≡ live_code l r cs s t
same_code l r cs ps s t all hs ht =
    code_alike (length ps) (prepared_at ps s t) (holds_at l r cs s t) (all_same l r cs ps s t all hs ht)
    ∙ ap (λ (k : ℕ). code_of k (holds_at l r cs s t)) (as_many l r cs ps all)

-- what is asked at a place is asked of the comparison there
pub prepared_at_read : (ps : List Prepared) (s t i : ℕ) (d : Prepared) → i < length ps → prepared_at ps s t i ≡ prepared_holds (get_or ps i d) s t
prepared_at_read [] s t i d h = absurd (omega arith)
prepared_at_read (p ∷ ps) s t zero d h = refl
prepared_at_read (p ∷ ps) s t (suc i) d h = prepared_at_read ps s t i d (omega arith)
