-- Links, what is counted of them, and pages of them, agree.
use Rattle.std.proofs.Common.{◌≡◌, ℕ, zero, suc, ◌+◌, ◌*◌, ◌<◌, ◌≤◌, Bool, true, false, cond, not, ◌&&◌, eqb, ltb, List, [], ◌∷◌, ◌++◌, length, take, drop, sum_by, filter, sym, refl, ap, ◌∙◌, subst, ap₂, arith, length-append}
use lib.ListN.{length-map}
use Rattle.std.specs.List.{flat_map, ContainsAt as Has}
use Rattle.std.proofs.lemmas.List.Elements.{filter-append}
use Rattle.std.proofs.lemmas.List.{take_at, take_all, drop-drop, length-take, length-drop, append_assoc}
use Rattle.std.proofs.lemmas.List.Sums.{sum_by-cons, length-filter}
use Rattle.std.proofs.lemmas.Bool.{and_parts, not-true}
use Rattle.contexts.specs.Pairs.{row, pairs, pair_code}
use Rattle.contexts.specs.Relation.{Relation}
use Rattle.lattice.specs.Sets.{range, empty, includes}
use Rattle.lattice.proofs.Conditions.{includes_at}
use Rattle.records.specs.Fields.{bytes_of}
use Rattle.records.specs.Kinds.{link_fields}
use Rattle.records.specs.Writing.{put_at}
use Rattle.listings.specs.Calls.{paged, refused}
use Rattle.listings.specs.Candidates.{widening, is_candidate}
use Rattle.listings.specs.Counts.{left_linked, right_linked, lefts_present, rights_present}
use Rattle.listings.specs.Links.{both_present, is_link, links}
use Rattle.listings.specs.Pages.{link_bytes, page_count, page_reply}
use Rattle.listings.proofs.Coded.{some_has}
use Rattle.listings.proofs.Linking.{has_kept, links_linked, linked_links}
use Rattle.listings.proofs.Marks.{kept_map, kept_some, some_kept, range_has, link_within}
use Rattle.listings.proofs.Paging.{length_link_bytes}

pub wider_links_less : (c : Relation) (x y : ℕ) → includes c.conditions x y ≡ true → (p : ℕ × ℕ) → Has (links c y) p → Has (links c x) p
wider_links_less c x y e p m =
    let l = links_linked c y p.0 p.1 m in
    linked_links c x p.0 p.1
    (record {
      left_in_range = l.left_in_range;
      right_in_range = l.right_in_range;
      left_is_present = l.left_is_present;
      right_is_present = l.right_is_present;
      conditions_hold = λ i h b. l.conditions_hold i h (includes_at c.conditions x y i e h b);
    })

-- A sum of greater numbers is no smaller, of equal ones the same, and of none 0.
sum_le : {X : Type 0} (f g : X → ℕ) (xs : List X) → ((x : X) → f x ≤ g x) → sum_by f xs ≤ sum_by g xs
sum_le f g [] h = omega arith
sum_le f g (x ∷ xs) h = omega (arith, sum_by-cons f x xs, sum_by-cons g x xs, h x, sum_le f g xs h)

sum_same : {X : Type 0} (f g : X → ℕ) (xs : List X) → ((x : X) → f x ≡ g x) → sum_by f xs ≡ sum_by g xs
sum_same f g [] h = refl
sum_same f g (x ∷ xs) h = omega (arith, sum_by-cons f x xs, sum_by-cons g x xs, h x, sum_same f g xs h)

sum_none : {X : Type 0} (xs : List X) → sum_by (λ (x : X). 0) xs ≡ 0
sum_none [] = refl
sum_none (x ∷ xs) = sum_none xs

sum_plus : {X : Type 0} (f g : X → ℕ) (xs : List X) → sum_by (λ x. f x + g x) xs ≡ sum_by f xs + sum_by g xs
sum_plus f g [] = refl
sum_plus f g (x ∷ xs) =
    omega (arith, sum_by-cons (λ x. f x + g x) x xs, sum_by-cons f x xs, sum_by-cons g x xs, sum_plus f g xs)

-- A double sum by rows is the one by columns.
sums_swap : {X Y : Type 0} (f : X → Y → ℕ) (xs : List X) (ys : List Y) → sum_by (λ x. sum_by (f x) ys) xs ≡ sum_by (λ y. sum_by (λ x. f x y) xs) ys
sums_swap f [] ys = sym (sum_none ys)
sums_swap f (x ∷ xs) ys =
    sum_by-cons (λ x. sum_by (f x) ys) x xs
    ∙ ap (λ (n : ℕ). sum_by (f x) ys + n) (sums_swap f xs ys)
    ∙ sym (sum_plus (f x) (λ y. sum_by (λ x. f x y) xs) ys)
    ∙ sym (sum_same (λ y. sum_by (λ x. f x y) (x ∷ xs)) (λ y. f x y + sum_by (λ x. f x y) xs) ys (λ y. sum_by-cons (λ x. f x y) x xs))

-- So the pairs that pass are counted by rows as by columns.
counts_swap : {X Y : Type 0} (q : X → Y → Bool) (xs : List X) (ys : List Y) → sum_by (λ x. length (filter (q x) ys)) xs ≡ sum_by (λ y. length (filter (λ x. q x y) xs)) ys
counts_swap q xs ys =
    let one : _ → _ → ℕ = λ x y. cond (q x y) 1 0 in
    sum_same (λ x. length (filter (q x) ys)) (λ x. sum_by (one x) ys) xs (λ x. length-filter (q x) ys)
    ∙ sums_swap one xs ys
    ∙ sym (sum_same (λ y. length (filter (λ x. q x y) xs)) (λ y. sum_by (λ x. one x y) xs) ys (λ y. length-filter (λ x. q x y) xs))

-- There are no more rows with a pair that passes than such pairs.
rows_fewer : {X Y : Type 0} (q : X → Y → Bool) (xs : List X) (ys : List Y) → length (filter (λ x. not (empty (filter (q x) ys))) xs) ≤ sum_by (λ x. length (filter (q x) ys)) xs
rows_fewer {X} {Y} q xs ys =
    let some : X → Bool = λ x. not (empty (filter (q x) ys)) in
    omega (arith, length-filter some xs, sum_le (λ x. cond (some x) 1 0) (λ x. length (filter (q x) ys)) xs (λ x. one (filter (q x) ys)))
  where
    one : (zs : List Y) → cond (not (empty zs)) 1 0 ≤ length zs
    one [] = omega arith
    one (z ∷ zs) = omega arith

-- What passes of the pairs is counted by rows.
rows_counted : (q : ℕ × ℕ → Bool) (n : ℕ) (ss : List ℕ) → length (filter q (flat_map (row n) ss)) ≡ sum_by (λ s. length (filter (λ t. q (s, t)) (range n))) ss
rows_counted q n [] = refl
rows_counted q n (s ∷ ss) =
    let pair : ℕ → ℕ × ℕ = λ t. (s, t) in
    let passing = filter (λ t. q (s, t)) (range n) in
    let here = ap (λ (ps : List (ℕ × ℕ)). length ps) (kept_map q pair (range n)) ∙ length-map passing pair in
    ap (λ (ps : List (ℕ × ℕ)). length ps) (filter-append q (row n s) (flat_map (row n) ss))
    ∙ length-append (filter q (row n s)) (filter q (flat_map (row n) ss))
    ∙ omega (arith, here, rows_counted q n ss, sum_by-cons (λ s. length (filter (λ t. q (s, t)) (range n))) s ss)

pub linked_in_links : (c : Relation) (x : ℕ) → (left_linked c x ≤ length (links c x)) × (right_linked c x ≤ length (links c x))
unfolding left_linked right_linked links pairs
linked_in_links c x =
    let link : ℕ → ℕ → Bool = λ s t. is_link c x (s, t) in
    let back : ℕ → ℕ → Bool = λ t s. is_link c x (s, t) in
    let ss = range c.lefts in
    let ts = range c.rights in
    let counted = rows_counted (is_link c x) c.rights ss in
    (omega (arith, counted, rows_fewer link ss ts), omega (arith, counted, counts_swap link ss ts, rows_fewer back ts ss))

-- A weaker test keeps no fewer.
kept_weaker : {X : Type 0} (p q : X → Bool) (xs : List X) → ((x : X) → p x ≡ true → q x ≡ true) → length (filter p xs) ≤ length (filter q xs)
kept_weaker p q xs h =
    omega (arith, length-filter p xs, length-filter q xs, sum_le (λ x. cond (p x) 1 0) (λ x. cond (q x) 1 0) xs (λ x. go (p x) (q x) (h x)))
  where
    go : (a b : Bool) → (a ≡ true → b ≡ true) → cond a 1 0 ≤ cond b 1 0
    go true b f = subst (λ (v : Bool). 1 ≤ cond v 1 0) (sym (f refl)) (omega arith)
    go false b f = omega arith

link_present : (c : Relation) (x : ℕ) (p : ℕ × ℕ) → is_link c x p ≡ true → (c.left_present p.0 ≡ true) × (c.right_present p.1 ≡ true)
unfolding is_link both_present
link_present c x p e =
    and_parts (c.left_present p.0) (c.right_present p.1) (and_parts (both_present c p) (includes c.conditions x (pair_code c p)) e).0

pub linked_present : (c : Relation) (x : ℕ) → (left_linked c x ≤ lefts_present c) × (right_linked c x ≤ rights_present c)
unfolding left_linked right_linked lefts_present rights_present
linked_present c x =
    let ss = range c.lefts in
    let ts = range c.rights in (
      kept_weaker (λ s. not (empty (filter (λ t. is_link c x (s, t)) ts))) c.left_present ss
          (λ s e. let link = some_kept (λ t. is_link c x (s, t)) ts e in (link_present c x (s, link.0) link.1.1).0),
      kept_weaker (λ t. not (empty (filter (λ s. is_link c x (s, t)) ss))) c.right_present ts
          (λ t e. let link = some_kept (λ s. is_link c x (s, t)) ss e in (link_present c x (link.0, t) link.1.1).1),
    )

pub candidate_linked : (c : Relation) (x : ℕ) → is_candidate c x ≡ true → (0 < left_linked c x) × (0 < right_linked c x)
unfolding is_candidate left_linked right_linked
candidate_linked c x e =
    let ss = range c.lefts in
    let ts = range c.rights in
    let some = (and_parts (not (eqb x 0) && eqb (widening c x) x) (not (empty (links c x))) e).1 in
    let found = some_has (links c x) (not-true (empty (links c x)) some) in
    let s = found.0.0 in
    let t = found.0.1 in
    let link = link_within c x found.0 found.1 in
    let left = range_has c.lefts s link.0.0 in
    let right = range_has c.rights t link.0.1 in
    let row = has_kept (λ s. not (empty (filter (λ t. is_link c x (s, t)) ts))) ss s left (kept_some (λ t. is_link c x (s, t)) ts t right link.1) in
    let column = has_kept (λ t. not (empty (filter (λ s. is_link c x (s, t)) ss))) ts t right (kept_some (λ s. is_link c x (s, t)) ss s left link.1) in
    (omega (arith, row.1), omega (arith, column.1))

link_bytes_append : (ls ms : List (ℕ × ℕ)) → link_bytes (ls ++ ms) ≡ link_bytes ls ++ link_bytes ms
unfolding link_bytes
link_bytes_append [] ms = refl
link_bytes_append (p ∷ ls) ms =
    let bytes = bytes_of (link_fields (record { left = p.0; right = p.1 })) in
    ap (λ (v : List ℕ). bytes ++ v) (link_bytes_append ls ms) ∙ sym (append_assoc bytes (link_bytes ls) (link_bytes ms))

-- Some elements and the next ones are the first of them all.
take_both : {X : Type 0} (n m : ℕ) (xs : List X) → take n xs ++ take m (drop n xs) ≡ take (n + m) xs
take_both zero m xs = ap (λ (k : ℕ). take k xs) (omega arith)
take_both (suc n) m [] = take_all m [] (omega arith) ∙ sym (take_all (suc n + m) [] (omega arith))
take_both {X} (suc n) m (x ∷ xs) =
    let more : suc (n + m) ≡ suc n + m = omega arith in
    ap {B = List X} (λ (ys : List X). x ∷ ys) (take_both n m xs) ∙ ap (λ (k : ℕ). take k (x ∷ xs)) more

-- The front of a page's buffer has its links.
page_front : (ls : List (ℕ × ℕ)) (from n : ℕ) (b a : List ℕ) → page_reply ls from b ≡ paged n a → take (8 * n) a ≡ link_bytes (take n (drop from ls))
unfolding page_reply
page_front ls from n b a e = go (ltb (length ls) from) (not (eqb from (length ls)) && ltb (length b) 8) e
  where
    count : ℕ
    count = page_count ls from b

    page : ℕ → List (ℕ × ℕ)
    page k = take k (drop from ls)

    whole : paged count (put_at 0 (link_bytes (page count)) b) ≡ paged n a → take (8 * n) a ≡ link_bytes (page n)
    whole q =
        let many : count ≡ n = cc in
        let bytes : put_at 0 (link_bytes (page count)) b ≡ a = cc in
        let long : length (link_bytes (page count)) ≡ 8 * n = omega (arith, length_link_bytes (page count), length-take count (drop from ls), length-drop from ls) in
        ap (take (8 * n)) (sym bytes)
        ∙ take_at (link_bytes (page count)) (drop (0 + length (link_bytes (page count))) b) (8 * n) long
        ∙ ap (λ (k : ℕ). link_bytes (page k)) many

    go : (past cramped : Bool) → cond past (refused (26, 0) b) (cond cramped (refused (27, 0) b) (paged count (put_at 0 (link_bytes (page count)) b))) ≡ paged n a → take (8 * n) a ≡ link_bytes (page n)
    go true cramped q = let z : ◌≡◌ {A = ℕ} 0 1 = cc in absurd (omega arith)
    go false true q = let z : ◌≡◌ {A = ℕ} 0 1 = cc in absurd (omega arith)
    go false false q = whole q

pub pages_join : (ls : List (ℕ × ℕ)) (from n m : ℕ) (b d a e : List ℕ) → page_reply ls from b ≡ paged n a → page_reply ls (from + n) d ≡ paged m e → take (8 * n) a ++ take (8 * m) e ≡ link_bytes (take (n + m) (drop from ls))
pages_join ls from n m b d a e first second =
    ap₂ (λ (us vs : List ℕ). us ++ vs) (page_front ls from n b a first) (page_front ls (from + n) m d e second)
    ∙ sym (link_bytes_append (take n (drop from ls)) (take m (drop (from + n) ls)))
    ∙ ap (λ (xs : List (ℕ × ℕ)). link_bytes (take n (drop from ls) ++ take m xs)) (sym (drop-drop n from ls))
    ∙ ap link_bytes (take_both n m (drop from ls))
