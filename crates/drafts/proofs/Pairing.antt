-- The pairs that have a code, pushed row by row.
use Rattle.std.proofs.Common.{◌≡◌, ℕ, zero, suc, ◌+◌, ◌<◌, Bool, true, false, cond, not, eqb, List, [], ◌∷◌, ◌++◌, map, filter, sym, refl, ap, ◌∙◌, ap₂, zero-add, add-one, arith}
use Rattle.std.specs.List.{range_with_len, flat_map}
use Rattle.std.proofs.lemmas.List.FromFn.{fill_by_all, length-map-range_with_len, get_or-map-range_with_len}
use Rattle.std.proofs.lemmas.List.{flat_map_more}
use Rattle.contexts.specs.Pairs.{coded, coded_pairs, has_code, pairs}
use Rattle.contexts.specs.Relation.{Relation}
use Rattle.contexts.specs.declared.coded_pair.CodedPair.{CodedPair}
use Rattle.contexts.proofs.Coding.{coded_among, row_coded, rows_coded, rows_more}
use Rattle.lattice.specs.Sets.{range}
use Rattle.tables.specs.Meaning.{Meaning}
use Rattle.drafts.specs.Live.{live, live_code}
use Rattle.drafts.specs.Preparing.{AllPrepared, coded_from, prepared_code}
use Rattle.drafts.specs.declared.comparison.Comparison.{Comparison}
use Rattle.drafts.specs.declared.draft.prepared.Prepared.{Prepared}
use Rattle.drafts.proofs.Preparing.{same_code}
use Rattle.drafts.proofs.Words.{range_more}

-- one more row
pub rows_push : (row : ℕ → List CodedPair) (ps qs us : List CodedPair) (s : ℕ) → ps ≡ us ++ flat_map row (range s) → qs ≡ ps ++ row s → qs ≡ us ++ flat_map row (range (s + 1))
rows_push row ps qs us s before pushed =
    pushed ∙ ap (λ (v : List CodedPair). v ++ row s) before ∙ flat_map_more row us (range s) s ∙ ap (λ (ts : List ℕ). us ++ flat_map row ts) (sym (range_more s))

-- the codes of a row give the row's coded pairs
row_is : (c : Relation) (s a n : ℕ) → coded_from s a (map (c.code s) (range_with_len a n)) ≡ coded_among c (map (λ t. (s, t)) (range_with_len a n))
row_is c s a zero = refl
row_is c s a (suc n) = go (eqb (c.code s a) 0) (filter (has_code c) (map (λ t. (s, t)) (range_with_len (a + 1) n))) (row_is c s (a + 1) n)
  where
    go : {us : List CodedPair} (b : Bool) (ps : List (ℕ × ℕ)) → us ≡ map (coded c) ps → cond b us (coded c (s, a) ∷ us) ≡ map (coded c) (cond (not b) ((s, a) ∷ ps) ps)
    go true ps e = e
    go false ps e = ap (λ (vs : List CodedPair). coded c (s, a) ∷ vs) e

-- rows that have their coded pairs have all of them together
rows_are : (c : Relation) (row : ℕ → List CodedPair) (n : ℕ) → ((s : ℕ) → s < n → row s ≡ row_coded c s c.rights) → flat_map row (range n) ≡ rows_coded c n
rows_are c row zero h = refl
rows_are c row (suc n) h =
    ap (λ (k : ℕ). flat_map row (range k)) (sym (add-one n))
    ∙ sym (rows_push row (flat_map row (range n)) (flat_map row (range n) ++ row n) [] n refl refl)
    ∙ ap₂ (λ (us vs : List CodedPair). us ++ vs) (rows_are c row n (λ s k. h s (omega arith))) (h n (omega arith))
    ∙ rows_more c n
    ∙ ap (rows_coded c) (add-one n)

-- the codes of prepared comparisons are those of the relation
codes_are : (l r : Meaning) (cs : List Comparison) (ps : List Prepared) (s : ℕ) → AllPrepared l r cs ps → s < l.subjects → map (prepared_code ps s) (range r.subjects) ≡ map (live_code l r cs s) (range r.subjects)
codes_are l r cs ps s all h =
    fill_by_all (live_code l r cs s) (map (prepared_code ps s) (range r.subjects)) r.subjects 0
    (length-map-range_with_len (prepared_code ps s) 0 r.subjects)
    (λ t k. get_or-map-range_with_len (prepared_code ps s) 0 r.subjects t t 0 k (zero-add t) ∙ same_code l r cs ps s t all h k)

-- the rows of prepared comparisons are the coded pairs of the relation
pub pairs_are :
    (l r : Meaning) (cs : List Comparison) (ps : List Prepared) (lefts rights : ℕ)
    → AllPrepared l r cs ps
    → lefts ≡ l.subjects
    → rights ≡ r.subjects
    → flat_map (λ s. coded_from s 0 (map (prepared_code ps s) (range rights))) (range lefts) ≡ coded_pairs (live l r cs)
unfolding coded_pairs pairs
pairs_are l r cs ps lefts rights prepared el er =
    ap₂ (λ (m n : ℕ). flat_map (λ s. coded_from s 0 (map (prepared_code ps s) (range n))) (range m)) el er
    ∙ rows_are (live l r cs) (λ s. coded_from s 0 (map (prepared_code ps s) (range r.subjects))) l.subjects
    (λ s h. ap (coded_from s 0) (codes_are l r cs ps s prepared h) ∙ row_is (live l r cs) s 0 r.subjects)
