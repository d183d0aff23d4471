-- Pairs with a code, found row by row.
use Rattle.std.proofs.Common.{◌≡◌, ℕ, ◌+◌, Bool, true, false, cond, not, eqb, List, [], ◌∷◌, ◌++◌, map, filter, sym, ap, ◌∙◌, zero-add}
use Rattle.std.specs.List.{flat_map}
use Rattle.std.proofs.lemmas.List.FromFn.{map-range_with_len_more, filter_of_map_range_with_len_more}
use Rattle.std.proofs.lemmas.List.Elements.{filter-append}
use Rattle.std.proofs.lemmas.List.{map-append, map-id, flat_map_more}
use Rattle.lattice.specs.Sets.{range}
use Rattle.contexts.specs.Pairs.{row, pair_code, has_code, coded}
use Rattle.contexts.specs.Relation.{Relation}
use Rattle.contexts.specs.declared.coded_pair.CodedPair.{CodedPair}

-- those of some pairs that have a code
abbrev pub coded_among : Relation → List (ℕ × ℕ) → List CodedPair
coded_among c ps = map (coded c) (filter (has_code c) ps)

-- the coded pairs of the first s rows
abbrev pub rows_coded : Relation → ℕ → List CodedPair
rows_coded c s = coded_among c (flat_map (row c.rights) (range s))

-- the coded pairs of s with the first t right subjects
abbrev pub row_coded : Relation → ℕ → ℕ → List CodedPair
row_coded c s t = coded_among c (map (λ u. (s, u)) (range t))

coded_append : (c : Relation) (ps qs : List (ℕ × ℕ)) → coded_among c (ps ++ qs) ≡ coded_among c ps ++ coded_among c qs
coded_append c ps qs =
    ap (map (coded c)) (filter-append (has_code c) ps qs) ∙ map-append (coded c) (filter (has_code c) ps) (filter (has_code c) qs)

range_more : (n : ℕ) → range (n + 1) ≡ range n ++ n ∷ []
range_more n =
    sym (map-id (range (n + 1))) ∙ map-range_with_len_more (λ (x : ℕ). x) 0 n n (zero-add n) ∙ ap (λ (xs : List ℕ). xs ++ n ∷ []) (map-id (range n))

-- one more row
pub rows_more : (c : Relation) (s : ℕ) → rows_coded c s ++ row_coded c s c.rights ≡ rows_coded c (s + 1)
rows_more c s =
    sym (coded_append c (flat_map (row c.rights) (range s)) (row c.rights s))
    ∙ ap (coded_among c) (flat_map_more (row c.rights) [] (range s) s ∙ ap (flat_map (row c.rights)) (sym (range_more s)))

row_more : (c : Relation) (s t : ℕ) → row_coded c s (t + 1) ≡ row_coded c s t ++ map (coded c) (cond (has_code c (s, t)) ((s, t) ∷ []) [])
row_more c s t =
    ap (map (coded c)) (filter_of_map_range_with_len_more {X = ℕ × ℕ} (has_code c) (λ u. (s, u)) 0 t t (zero-add t))
    ∙ map-append (coded c) (filter (has_code c) (map (λ u. (s, u)) (range t))) (cond (has_code c (s, t)) ((s, t) ∷ []) [])

-- one more pair that has a code
pub row_more_coded : (c : Relation) (s t : ℕ) → eqb (pair_code c (s, t)) 0 ≡ false → row_coded c s (t + 1) ≡ row_coded c s t ++ coded c (s, t) ∷ []
row_more_coded c s t e =
    row_more c s t ∙ ap (λ (b : Bool). row_coded c s t ++ map (coded c) (cond (not b) ((s, t) ∷ []) [])) e

-- one more pair that has none
pub row_more_bare : (c : Relation) (s t : ℕ) → eqb (pair_code c (s, t)) 0 ≡ true → row_coded c s (t + 1) ≡ row_coded c s t ++ []
row_more_bare c s t e =
    row_more c s t ∙ ap (λ (b : Bool). row_coded c s t ++ map (coded c) (cond (not b) ((s, t) ∷ []) [])) e
