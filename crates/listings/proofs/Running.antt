-- Where a run stands after each of its calls, read from its own answers.
use Rattle.std.proofs.Common.{◌≡◌, ℕ, zero, suc, ◌+◌, ◌*◌, ◌/◌, ◌%◌, ◌<◌, ◌≤◌, Bool, true, false, cond, not, ◌&&◌, ◌||◌, eqb, ltb, List, [], ◌∷◌, ◌++◌, length, get_or, take, drop, Some, filter, sym, refl, ap, ◌∙◌, ap₂, arith, take-add}
use mathlib.Core.Bool.{or_assoc}
use Rattle.std.proofs.lemmas.List.{take_at as take-front, drop_at, length-take-le, drop_more, drop_all, drop-drop}
use Rattle.std.proofs.lemmas.Bool.{leb-true, ltb-true, ltb-false, le-ltb, lt-ltb, cond-false}
use Rattle.contexts.specs.Relation.{Relation}
use Rattle.lattice.specs.Candidates.{last_of}
use Rattle.lattice.specs.Sets.{empty}
use Rattle.records.specs.Fields.{bytes_of, fields_in}
use Rattle.records.specs.Kinds.{candidate_fields, candidate_of}
use Rattle.records.specs.Refusals.{Refusal}
use Rattle.records.specs.Writing.{has_space, put_at}
use Rattle.records.proofs.Bytes.{fields_in_bytes, length_bytes_of}
use Rattle.listings.specs.Calls.{Ask, take_at, page_from, tally_now, total_now, Reply, handed, ended, paged, refused, tallied, totalled, with_space, takes_with_space}
use Rattle.listings.specs.Candidates.{candidates}
use Rattle.listings.specs.Counts.{candidate_body, candidate_bytes}
use Rattle.listings.specs.Kept.{code_at, code_handed, codes_handed, handed_before, says_ended, some_ended, Stands}
use Rattle.listings.specs.Links.{links}
use Rattle.listings.specs.Pages.{link_bytes, page_count, page_reply}
use Rattle.listings.specs.Replies.{candidate_count, handed_count, reply, replies}

-- The code of a candidate comes back from the record that was written of it.
pub code_comes_back : (c : Relation) (x at : ℕ) (b : List ℕ) → at + 32 ≤ length b → code_at at (put_at at (candidate_bytes c x) b) ≡ x
unfolding code_at candidate_bytes candidate_body
code_comes_back c x at b h =
    let fs = candidate_fields (candidate_body c x) in
    let bs = bytes_of fs in
    let rest = drop (at + length bs) b in
    let part : take 32 (drop at (put_at at bs b)) ≡ bs =
    ap (take 32) (drop_at (take at b) (bs ++ rest) at (length-take-le at b (omega arith))) ∙ take-front bs rest 32 (length_bytes_of fs)
    in
    let back : x % 4294967296 + x / 4294967296 * 4294967296 ≡ x = omega arith in
    ap (λ (v : List ℕ). (candidate_of (fields_in v)).code) part ∙ ap (λ (v : List ℕ). (candidate_of v).code) (fields_in_bytes fs) ∙ back

pub length_replies : (c : Relation) (w : ℕ) (asks : List Ask) → length (replies c w asks) ≡ length asks
length_replies c w [] = refl
length_replies c w (a ∷ more) = ap suc (length_replies c (w + with_space a) more)

pub replies_take : (c : Relation) (w : ℕ) (asks : List Ask) (j : ℕ) → take j (replies c w asks) ≡ replies c w (take j asks)
replies_take c w asks zero = refl
replies_take c w [] (suc j) = refl
replies_take c w (a ∷ more) (suc j) = ap (λ (rs : List Reply). reply c w a ∷ rs) (replies_take c (w + with_space a) more j)

-- The answer to call j is by the takes with space before it.
pub replies_at : (c : Relation) (w : ℕ) (asks : List Ask) (j : ℕ) (a : Ask) → Stands asks j a → Stands (replies c w asks) j (reply c (w + takes_with_space (take j asks)) a)
replies_at c w [] j a e = let z : ◌≡◌ {A = ℕ} 0 1 = cc in absurd (omega arith)
replies_at c w (b ∷ more) zero a e =
    let same : b ≡ a = cc in
    let level : w ≡ w + 0 = omega arith in
    ap₂ (λ (v : ℕ) (q : Ask). Some (reply c v q)) level same
replies_at c w (b ∷ more) (suc j) a e =
    let level : w + with_space b + takes_with_space (take j more) ≡ w + (with_space b + takes_with_space (take j more)) = omega arith in
    replies_at c (w + with_space b) more j a e ∙ ap (λ (v : ℕ). Some (reply c v a)) level

-- A take with space hands out the next candidate, where there is one.
code_of_reply : (c : Relation) (w : ℕ) (a : Ask) → code_handed a (reply c w a) ≡ take (with_space a) (drop w (candidates c))
unfolding reply candidate_count
code_of_reply c w (take_at at b) = go (has_space 32 at b) (ltb w (length xs)) refl refl
  where
    xs : List ℕ
    xs = candidates c

    go : (s l : Bool) → has_space 32 at b ≡ s → ltb w (length xs) ≡ l → code_handed (take_at at b) (cond s (cond l (handed (put_at at (candidate_bytes c (get_or xs w 0)) b)) (ended b)) (refused (24, 0) b)) ≡ take (cond s 1 0) (drop w xs)
    go false l e f = refl
    go true true e f =
        ap (λ (x : ℕ). x ∷ []) (code_comes_back c (get_or xs w 0) at b (leb-true (at + 32) (length b) e))
        ∙ sym (ap (take 1) (drop_more xs w 0 (ltb-true w (length xs) f)))
    go true false e f = sym (ap (take 1) (drop_all w xs (ltb-false w (length xs) f)))
code_of_reply c w (page_from from b) = refl
code_of_reply c w tally_now = refl
code_of_reply c w total_now = refl

pub codes_of_replies : (c : Relation) (w : ℕ) (asks : List Ask) → codes_handed asks (replies c w asks) ≡ take (takes_with_space asks) (drop w (candidates c))
codes_of_replies c w [] = refl
codes_of_replies c w (a ∷ more) =
    ap₂ (λ (xs ys : List ℕ). xs ++ ys) (code_of_reply c w a)
    (codes_of_replies c (w + with_space a) more ∙ ap (take (takes_with_space more)) (sym (drop-drop (with_space a) w (candidates c))))
    ∙ sym (take-add (with_space a) (takes_with_space more) (drop w (candidates c)))

some_more : (r : Reply) (rs : List Reply) → some_ended (r ∷ rs) ≡ says_ended r || some_ended rs
some_more r rs = go (says_ended r)
  where
    go : (b : Bool) → not (empty (cond b (r ∷ filter says_ended rs) (filter says_ended rs))) ≡ b || some_ended rs
    go true = refl
    go false = refl

asked_thrice : (P : Reply → Type 0) (p q r : Bool) {x y z u : Reply} → P x → P y → P z → P u → P (cond p x (cond q y (cond r z u)))
asked_thrice P true q r a b c d = a
asked_thrice P false true r a b c d = b
asked_thrice P false false true a b c d = c
asked_thrice P false false false a b c d = d

-- A page is turned down with its buffer, or pages some links.
pub page_answer : (P : Reply → Type 0) (c : Relation) (w from : ℕ) (b : List ℕ) → ((refusal : Refusal) → P (refused refusal b)) → ((n : ℕ) (after : List ℕ) → P (paged n after)) → P (reply c w (page_from from b))
unfolding reply page_reply
page_answer P c w from b down up =
    let ls = links c (last_of (candidates c) (handed_count c w)) in
    let n = page_count ls from b in
    asked_thrice P (eqb (handed_count c w) 0) (ltb (length ls) from) (not (eqb from (length ls)) && ltb (length b) 8) (down (25, 0)) (down (26, 0)) (down (27, 0))
    (up n (put_at 0 (link_bytes (take n (drop from ls))) b))

or_false : (a b : Bool) → b ≡ false → a || b ≡ a
or_false true b e = refl
or_false false b e = e

-- A take with space says "ended" where no candidate is left.
ended_of_reply : (c : Relation) (w : ℕ) (a : Ask) → ltb (candidate_count c) w || says_ended (reply c w a) ≡ ltb (candidate_count c) (w + with_space a)
unfolding reply
ended_of_reply c w (take_at at b) = go (has_space 32 at b) (ltb w n) refl
  where
    n : ℕ
    n = candidate_count c

    go : (s l : Bool) → ltb w n ≡ l → ltb n w || says_ended (cond s (cond l (handed (put_at at (candidate_bytes c (get_or (candidates c) w 0)) b)) (ended b)) (refused (24, 0) b)) ≡ ltb n (w + cond s 1 0)
    go false l e = or_false (ltb n w) false refl ∙ ap (ltb n) (let z : w ≡ w + 0 = omega arith in z)
    go true true e =
        let h = ltb-true w n e in
        or_false (ltb n w) false refl ∙ le-ltb n w (omega arith) ∙ sym (le-ltb n (w + 1) (omega arith))
    go true false e = let h = ltb-false w n e in ends (ltb n w) ∙ sym (lt-ltb n (w + 1) (omega arith))
      where
        ends : (b : Bool) → b || true ≡ true
        ends true = refl
        ends false = refl
ended_of_reply c w (page_from from b) =
    or_false (ltb (candidate_count c) w) _ (page_answer (λ r. says_ended r ≡ false) c w from b (λ refusal. refl) (λ n after. refl))
    ∙ ap (ltb (candidate_count c)) (let z : w ≡ w + 0 = omega arith in z)
ended_of_reply c w tally_now = or_false (ltb (candidate_count c) w) false refl ∙ ap (ltb (candidate_count c)) (let z : w ≡ w + 0 = omega arith in z)
ended_of_reply c w total_now =
    or_false (ltb (candidate_count c) w) _ (total_not_ended (ltb (candidate_count c) w))
    ∙ ap (ltb (candidate_count c)) (let z : w ≡ w + 0 = omega arith in z)
  where
    total_not_ended : (b : Bool) → says_ended (cond b (totalled (candidate_count c)) (refused (28, 0) [])) ≡ false
    total_not_ended true = refl
    total_not_ended false = refl

pub ended_of_replies : (c : Relation) (w : ℕ) (asks : List Ask) → ltb (candidate_count c) w || some_ended (replies c w asks) ≡ ltb (candidate_count c) (w + takes_with_space asks)
ended_of_replies c w [] = or_false (ltb (candidate_count c) w) false refl ∙ ap (ltb (candidate_count c)) (let z : w ≡ w + 0 = omega arith in z)
ended_of_replies c w (a ∷ more) =
    let before = ltb (candidate_count c) w in
    let now = says_ended (reply c w a) in
    let later = some_ended (replies c (w + with_space a) more) in
    let level : w + with_space a + takes_with_space more ≡ w + (with_space a + takes_with_space more) = omega arith in
    ap (λ (b : Bool). before || b) (some_more (reply c w a) (replies c (w + with_space a) more))
    ∙ sym (or_assoc before now later)
    ∙ ap (λ (b : Bool). b || later) (ended_of_reply c w a)
    ∙ ended_of_replies c (w + with_space a) more
    ∙ ap (ltb (candidate_count c)) level

-- What a run of answers by the relation has handed out and said before call j.
pub handed_so_far : (c : Relation) (asks : List Ask) (j : ℕ) → handed_before j asks (replies c 0 asks) ≡ take (takes_with_space (take j asks)) (candidates c)
handed_so_far c asks j = ap (codes_handed (take j asks)) (replies_take c 0 asks j) ∙ codes_of_replies c 0 (take j asks)

pub ended_so_far : (c : Relation) (asks : List Ask) (j : ℕ) → some_ended (take j (replies c 0 asks)) ≡ ltb (candidate_count c) (takes_with_space (take j asks))
ended_so_far c asks j =
    let w = takes_with_space (take j asks) in
    let level : 0 + w ≡ w = omega arith in
    ap some_ended (replies_take c 0 asks j)
    ∙ ap (λ (b : Bool). b || some_ended (replies c 0 (take j asks))) (sym (le-ltb (candidate_count c) 0 (omega arith)))
    ∙ ended_of_replies c 0 (take j asks)
    ∙ ap (ltb (candidate_count c)) level

pub answer_so_far : (c : Relation) (asks : List Ask) (j : ℕ) (a : Ask) → Stands asks j a → Stands (replies c 0 asks) j (reply c (takes_with_space (take j asks)) a)
answer_so_far c asks j a e =
    let w = takes_with_space (take j asks) in
    let level : 0 + w ≡ w = omega arith in
    replies_at c 0 asks j a e ∙ ap (λ (v : ℕ). Some (reply c v a)) level

-- Once the end was told, each call is answered as before, however many takes follow.
reply_past : (c : Relation) (w v : ℕ) (a : Ask) → candidate_count c < w → candidate_count c < v → reply c w a ≡ reply c v a
unfolding reply
reply_past c w v (take_at at b) h l =
    let n = candidate_count c in
    ap (λ (r : Reply). cond (has_space 32 at b) r (refused (24, 0) b)) (cond-false (ltb w n) _ (ended b) (le-ltb w n (omega arith)) ∙ sym (cond-false (ltb v n) _ (ended b) (le-ltb v n (omega arith))))
reply_past c w v (page_from from b) h l =
    let same : handed_count c w ≡ handed_count c v = omega arith in
    ap (λ (m : ℕ). cond (eqb m 0) (refused (25, 0) b) (page_reply (links c (last_of (candidates c) m)) from b)) same
reply_past c w v tally_now h l =
    let n = candidate_count c in
    let same : handed_count c w ≡ handed_count c v = omega arith in
    ap₂ (λ (m : ℕ) (end : Bool). tallied m (last_of (candidates c) m) end) same (lt-ltb n w h ∙ sym (lt-ltb n v l))
reply_past c w v total_now h l =
    let n = candidate_count c in
    ap (λ (end : Bool). cond end (totalled n) (refused (28, 0) [])) (lt-ltb n w h ∙ sym (lt-ltb n v l))

pub replies_past : (c : Relation) (w v : ℕ) (asks : List Ask) → candidate_count c < w → candidate_count c < v → replies c w asks ≡ replies c v asks
replies_past c w v [] h l = refl
replies_past c w v (a ∷ more) h l =
    ap₂ (λ (r : Reply) (rs : List Reply). r ∷ rs) (reply_past c w v a h l) (replies_past c (w + with_space a) (v + with_space a) more (omega arith) (omega arith))
