-- Subjects and conditions, counted by marks.
use Rattle.std.proofs.Common.{◌≡◌, ℕ, zero, suc, ◌+◌, ◌-◌, ◌/◌, ◌%◌, ◌^◌, ◌<◌, ◌≤◌, Bool, true, false, cond, not, eqb, List, [], ◌∷◌, ◌++◌, map, length, get_or, filter, sym, refl, ap, ◌∙◌, subst, ⊎_elim, zero-add, add-one, arith, length-append}
use lib.Count.{ones, ones_in, ones_step}
use lib.ListN.{length-map}
use Rattle.std.specs.List.{range_with_len, ContainsAt as Has}
use Rattle.std.proofs.lemmas.List.FromFn.{length-range_with_len, get_or-range_with_len, fill_by_all, filter_of_map_range_with_len_more}
use Rattle.std.proofs.ByRecursion.{all-has}
use Rattle.std.proofs.lemmas.List.{map-id}
use Rattle.std.proofs.lemmas.Bool.{not-true, not_from_false, cases_Bool, eqb-true, eq-eqb}
use Rattle.contexts.specs.Pairs.{pairs, coded_pairs}
use Rattle.contexts.specs.Relation.{Relation, Sound}
use Rattle.contexts.specs.declared.coded_pair.CodedPair.{CodedPair}
use Rattle.lattice.specs.Sets.{range, empty, weight, has}
use Rattle.lattice.proofs.Bits.{bit, bit_half, half_below}
use Rattle.lattice.proofs.Filters.{same_tests, kept_alike, empty_map}
use Rattle.listings.specs.Copied.{copied, linking, is_marked, marks_set}
use Rattle.listings.specs.Counts.{left_linked, right_linked, lefts_present, rights_present}
use Rattle.listings.specs.Links.{is_link, links}
use Rattle.listings.proofs.Coded.{has_some, some_has, links_coded}
use Rattle.listings.proofs.Linking.{kept_has, has_kept, counted_below, Within, rows_within, rows_have}

pub kept_map : {X Y : Type 0} (q : Y → Bool) (f : X → Y) (xs : List X) → filter q (map f xs) ≡ map f (filter (λ x. q (f x)) xs)
kept_map q f [] = refl
kept_map {X} {Y} q f (x ∷ xs) = go (q (f x)) (kept_map q f xs)
  where
    go : (b : Bool) → filter q (map f xs) ≡ map f (filter (λ x. q (f x)) xs) → cond b (f x ∷ filter q (map f xs)) (filter q (map f xs)) ≡ map f (cond b (x ∷ filter (λ x. q (f x)) xs) (filter (λ x. q (f x)) xs))
    go true more = ap {B = List Y} (λ (ys : List Y). f x ∷ ys) more
    go false more = more

-- Some element passes a test just where the filter by it keeps something.
pub kept_some : {X : Type 0} (test : X → Bool) (xs : List X) (x : X) → Has xs x → test x ≡ true → not (empty (filter test xs)) ≡ true
kept_some test xs x m e = not_from_false (empty (filter test xs)) (has_some (filter test xs) x (has_kept test xs x m e))

pub some_kept : {X : Type 0} (test : X → Bool) (xs : List X) → not (empty (filter test xs)) ≡ true → (x : X) × (Has xs x × (test x ≡ true))
some_kept test xs e =
    let found = some_has (filter test xs) (not-true (empty (filter test xs)) e) in
    (found.0, kept_has test xs found.0 found.1)

-- The numbers below n.
pub range_has : (n i : ℕ) → i < n → Has (range n) i
range_has n i h = (i, omega (arith, length-range_with_len 0 n), λ d. get_or-range_with_len 0 n i d h ∙ zero-add i)

pub range_below : (n i : ℕ) → Has (range n) i → i < n
range_below n i m = all-has (λ j. j < n) (range n) i (counted_below n 0 n (omega arith)) m

-- Numbers that fail at the end of a range do not count.
kept_none : (test : ℕ → Bool) (a n : ℕ) → ((i : ℕ) → a ≤ i → test i ≡ false) → filter test (range_with_len a n) ≡ []
kept_none test a zero f = refl
kept_none test a (suc n) f =
    ap (λ (b : Bool). cond b (a ∷ filter test (range_with_len (a + 1) n)) (filter test (range_with_len (a + 1) n))) (f a (omega arith))
    ∙ kept_none test (a + 1) n (λ i l. f i (omega arith))

kept_front : (test : ℕ → Bool) (a m n : ℕ) → m ≤ n → ((i : ℕ) → a + m ≤ i → test i ≡ false) → filter test (range_with_len a n) ≡ filter test (range_with_len a m)
kept_front test a zero n h f = kept_none test a n (λ i l. f i (omega arith))
kept_front test a (suc m) zero h f = absurd (omega arith)
kept_front test a (suc m) (suc n) h f =
    ap (λ (xs : List ℕ). cond (test a) (a ∷ xs) xs) (kept_front test (a + 1) m n (omega arith) (λ i l. f i (omega arith)))

-- A subject of a side is marked just where it has a link.
marked_links : (c : Relation) → Sound c → (x : ℕ) → 0 < x → x < 2 ^ c.conditions → (subject : ℕ × ℕ → ℕ) (s : ℕ) → is_marked (λ (p : CodedPair). subject (p.left, p.right)) (linking x (coded_pairs c)) s ≡ not (empty (filter (λ p. eqb (subject p) s) (links c x)))
marked_links c sound x low high subject s =
    let subjects : CodedPair → ℕ × ℕ = λ p. (p.left, p.right) in
    let ps = linking x (coded_pairs c) in
    ap not
    (sym (empty_map subjects (filter (λ p. eqb (subject (subjects p)) s) ps))
    ∙ ap (λ (qs : List (ℕ × ℕ)). empty qs) (sym (kept_map (λ p. eqb (subject p) s) subjects ps))
    ∙ ap (λ (qs : List (ℕ × ℕ)). empty (filter (λ p. eqb (subject p) s) qs)) (sym (links_coded c sound x low high)))

-- As many subjects of a side have a link as are marked.
side_linked : (c : Relation) → Sound c → (x : ℕ) → 0 < x → x < 2 ^ c.conditions → (subject : ℕ × ℕ → ℕ) (linked : ℕ → Bool) (m n : ℕ) → m ≤ n
    → ((s : ℕ) → s < m → linked s ≡ true → (p : ℕ × ℕ) × (Has (links c x) p × (subject p ≡ s)))
    → ((p : ℕ × ℕ) → Has (links c x) p → (subject p < m) × (linked (subject p) ≡ true))
    → length (filter linked (range m)) ≡ length (filter (is_marked (λ (p : CodedPair). subject (p.left, p.right)) (linking x (coded_pairs c))) (range n))
side_linked c sound x low high subject linked m n h find found =
    let marked : ℕ → Bool = is_marked (λ (p : CodedPair). subject (p.left, p.right)) (linking x (coded_pairs c)) in
    let read = marked_links c sound x low high subject in
    let here : (s : ℕ) → marked s ≡ true → (s < m) × (linked s ≡ true) = λ s e.
    let link = some_kept (λ p. eqb (subject p) s) (links c x) (sym (read s) ∙ e) in
    subst (λ (v : ℕ). (v < m) × (linked v ≡ true)) (eqb-true (subject link.0) s link.1.1) (found link.0 link.1.0)
    in
    let there : (s : ℕ) → s < m → linked s ≡ true → marked s ≡ true = λ s l e.
    let link = find s l e in
    read s ∙ kept_some (λ p. eqb (subject p) s) (links c x) link.0 link.1.0 (eq-eqb (subject link.0) s link.1.1)
    in
    ap (λ (xs : List ℕ). length xs)
    (kept_alike linked marked (range m) (λ s i. same_tests (linked s) (marked s) (there s (range_below m s i)) (λ e. (here s e).1))
    ∙ sym (kept_front marked 0 m n h (λ s l. ⊎_elim (λ e. let b = (here s e).0 in absurd (omega arith)) (λ e. e) (cases_Bool (marked s)))))

-- A link is a pair in range.
pub link_within : (c : Relation) (x : ℕ) (p : ℕ × ℕ) → Has (links c x) p → Within c.lefts c.rights p × (is_link c x p ≡ true)
unfolding links pairs
link_within c x p m =
    let kept = kept_has (is_link c x) (pairs c) p m in
    (all-has (Within c.lefts c.rights) (pairs c) p (rows_within c.lefts c.rights 0 c.lefts (omega arith)) kept.0, kept.1)

within_link : (c : Relation) (x s t : ℕ) → s < c.lefts → t < c.rights → is_link c x (s, t) ≡ true → Has (links c x) (s, t)
unfolding links pairs
within_link c x s t h l e =
    has_kept (is_link c x) (pairs c) (s, t) (rows_have c.rights 0 c.lefts s t (omega arith) (omega arith) l) e

pub left_linked_coded : (c : Relation) → Sound c → (x : ℕ) → 0 < x → x < 2 ^ c.conditions → (n : ℕ) → c.lefts ≤ n → left_linked c x ≡ length (filter (is_marked (λ (p : CodedPair). p.left) (linking x (coded_pairs c))) (range n))
unfolding left_linked
left_linked_coded c sound x low high n h =
    side_linked c sound x low high (λ p. p.0) (λ s. not (empty (filter (λ t. is_link c x (s, t)) (range c.rights)))) c.lefts n h
    (λ s l e.
    let link = some_kept (λ t. is_link c x (s, t)) (range c.rights) e in
    ((s, link.0), (within_link c x s link.0 l (range_below c.rights link.0 link.1.0) link.1.1, refl)))
    (λ p m.
    let link = link_within c x p m in
    (link.0.0, kept_some (λ t. is_link c x (p.0, t)) (range c.rights) p.1 (range_has c.rights p.1 link.0.1) link.1))

pub right_linked_coded : (c : Relation) → Sound c → (x : ℕ) → 0 < x → x < 2 ^ c.conditions → (n : ℕ) → c.rights ≤ n → right_linked c x ≡ length (filter (is_marked (λ (p : CodedPair). p.right) (linking x (coded_pairs c))) (range n))
unfolding right_linked
right_linked_coded c sound x low high n h =
    side_linked c sound x low high (λ p. p.1) (λ t. not (empty (filter (λ s. is_link c x (s, t)) (range c.lefts)))) c.rights n h
    (λ t l e.
    let link = some_kept (λ s. is_link c x (s, t)) (range c.lefts) e in
    ((link.0, t), (within_link c x link.0 t (range_below c.lefts link.0 link.1.0) l link.1.1, refl)))
    (λ p m.
    let link = link_within c x p m in
    (link.0.1, kept_some (λ s. is_link c x (s, p.1)) (range c.lefts) p.0 (range_has c.lefts p.0 link.0.0) link.1))

-- The marks that are set are those whose number passes.
marks_counted : (marks : List Bool) → marks_set marks ≡ length (filter (λ s. get_or marks s false) (range (length marks)))
marks_counted marks =
    let at : ℕ → Bool = λ s. get_or marks s false in
    ap marks_set (fill_by_all at marks (length marks) false refl (λ s h. refl))
    ∙ ap (λ (bs : List Bool). length bs) (kept_map (λ b. b) at (range (length marks)))
    ∙ length-map (filter at (range (length marks))) at

pub lefts_present_counted : (ls rs : List Bool) (k : ℕ) (ps : List CodedPair) → marks_set ls ≡ lefts_present (copied ls rs k ps)
unfolding lefts_present copied
lefts_present_counted ls rs k ps = marks_counted ls

pub rights_present_counted : (ls rs : List Bool) (k : ℕ) (ps : List CodedPair) → marks_set rs ≡ rights_present (copied ls rs k ps)
unfolding rights_present copied
rights_present_counted ls rs k ps = marks_counted rs

-- The last of k + 1 conditions is the lowest digit, and the others are those of the half.
has_half : (k x i : ℕ) → i < k → has (suc k) x i ≡ has k (x / 2) i
unfolding has weight bit
has_half k x i h =
    let e : suc k - 1 - i ≡ suc (k - 1 - i) = omega arith in
    ap (bit x) e ∙ sym (bit_half x (k - 1 - i))

kept_more : (test : ℕ → Bool) (n : ℕ) → filter test (range (suc n)) ≡ filter test (range n) ++ cond (test n) (n ∷ []) []
kept_more test n =
    ap (λ (m : ℕ). filter test (range m)) (sym (add-one n))
    ∙ ap (filter test) (sym (map-id (range (n + 1))))
    ∙ filter_of_map_range_with_len_more test (λ (i : ℕ). i) 0 n n (zero-add n)
    ∙ ap (λ (xs : List ℕ). filter test xs ++ cond (test n) (n ∷ []) []) (map-id (range n))

last_counted : (k x : ℕ) → length (cond (has (suc k) x k) (k ∷ []) []) ≡ x % 2
unfolding has weight
last_counted k x =
    let e : suc k - 1 - k ≡ 0 = omega arith in
    ap (λ (j : ℕ). length (cond (eqb (x / 2 ^ j % 2) 1) (k ∷ []) [])) e ∙ go (x / 2 ^ 0 % 2) (omega arith) ∙ omega arith
  where
    go : (d : ℕ) → d < 2 → length (cond (eqb d 1) (k ∷ []) []) ≡ d
    go zero h = refl
    go (suc zero) h = refl
    go (suc (suc d)) h = absurd (omega arith)

pub ones_counted : (k x : ℕ) → x < 2 ^ k → ones x ≡ length (filter (has k x) (range k))
unfolding ones ones_in
ones_counted zero x h = let e : x ≡ 0 = omega arith in ap ones e
ones_counted (suc k) x h =
    let half = kept_alike (has (suc k) x) (has k (x / 2)) (range k) (λ i m. has_half k x i (range_below k i m)) in
    let all = ap (λ (xs : List ℕ). length xs) (kept_more (has (suc k) x) k) ∙ length-append (filter (has (suc k) x) (range k)) (cond (has (suc k) x k) (k ∷ []) []) in
    omega (arith, ones_step x, ones_counted k (x / 2) (half_below k x h), all, ap (λ (xs : List ℕ). length xs) half, last_counted k x)
