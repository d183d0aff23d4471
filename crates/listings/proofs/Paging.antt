-- Writing links one behind another, from one on.
use Rattle.std.proofs.Common.{◌≡◌, ℕ, ◌+◌, ◌*◌, ◌<◌, ◌≤◌, not, ◌&&◌, eqb, ltb, ◌≢◌, ◌⊎◌, List, [], ◌∷◌, ◌++◌, length, get_or, take, drop, sym, refl, ap, ◌∙◌, ap₂, ⊎_elim, arith, length-append}
use lib.ListN.{length-map}
use Rattle.std.proofs.lemmas.List.{take_at, take_more, take-map, drop_at, drop-drop, drop-map, length-take-le, map-append, append_assoc}
use Rattle.std.proofs.lemmas.Bool.{cond-true, cond-false, and_from, and_left, and_right, not_from_true, not_from_false, lt-ltb, le-ltb, eq-eqb, ne_eqb}
use Rattle.contexts.specs.declared.coded_pair.CodedPair.{CodedPair}
use Rattle.records.specs.Fields.{bytes_of}
use Rattle.records.specs.Kinds.{link_fields}
use Rattle.records.specs.Writing.{put_at}
use Rattle.listings.specs.Calls.{paged, refused}
use Rattle.listings.specs.Copied.{subjects_of}
use Rattle.listings.specs.Pages.{link_bytes, page_count, page_reply}

pub link_bytes_push : (ls : List (ℕ × ℕ)) (p : ℕ × ℕ) → link_bytes (ls ++ p ∷ []) ≡ link_bytes ls ++ link_bytes (p ∷ [])
unfolding link_bytes
link_bytes_push [] p = refl
link_bytes_push (q ∷ ls) p =
    ap (λ (v : List ℕ). bytes_of (link_fields (record { left = q.0; right = q.1 })) ++ v) (link_bytes_push ls p)

pub length_link_bytes : (ls : List (ℕ × ℕ)) → length (link_bytes ls) ≡ 8 * length ls
unfolding link_bytes
length_link_bytes [] = refl
length_link_bytes (p ∷ ls) = omega (arith, length_link_bytes ls)

-- bytes written behind those at the front
put_behind : (bs cs b : List ℕ) (a : ℕ) → length bs ≡ a → put_at a cs (put_at 0 bs b) ≡ put_at 0 (bs ++ cs) b
put_behind bs cs b a n =
    let rest = drop (0 + length bs) b in
    let front : take a (bs ++ rest) ≡ bs = take_at bs rest a n in
    let back : drop (a + length cs) (bs ++ rest) ≡ drop (0 + length (bs ++ cs)) b =
    sym (drop-drop (length cs) a (bs ++ rest))
    ∙ ap (drop (length cs)) (drop_at bs rest a n)
    ∙ drop-drop (length cs) (0 + length bs) b
    ∙ ap (λ (k : ℕ). drop k b) (omega (arith, length-append bs cs))
    in
    ap₂ (λ (us vs : List ℕ). us ++ (cs ++ vs)) front back ∙ sym (append_assoc bs cs (drop (0 + length (bs ++ cs)) b))

-- one more of the pairs on a page
pub written_more : (page : List CodedPair) (n : ℕ) (p : CodedPair) (out after last : List ℕ) → n < length page → p ≡ get_or page n p → after ≡ put_at 0 (link_bytes (subjects_of (take n page))) out → last ≡ put_at (8 * n) (link_bytes (subjects_of (p ∷ []))) after → last ≡ put_at 0 (link_bytes (subjects_of (take (n + 1) page))) out
written_more page n p out after last h is before put =
    let front = subjects_of (take n page) in
    let long : length (link_bytes front) ≡ 8 * n = omega (arith, length_link_bytes front, length-map {B = ℕ × ℕ} (take n page) (λ (q : CodedPair). (q.left, q.right)), length-take-le n page (omega (arith, h))) in
    let more : subjects_of (take (n + 1) page) ≡ front ++ subjects_of (p ∷ []) =
    ap subjects_of (take_more page n p h ∙ ap (λ (q : CodedPair). take n page ++ q ∷ []) (sym is)) ∙ map-append (λ (q : CodedPair). (q.left, q.right)) (take n page) (p ∷ [])
    in
    put
    ∙ ap (put_at (8 * n) (link_bytes (subjects_of (p ∷ [])))) before
    ∙ put_behind (link_bytes front) (link_bytes (subjects_of (p ∷ []))) out (8 * n) long
    ∙ ap (λ (bs : List ℕ). put_at 0 bs out) (sym (ap link_bytes more ∙ link_bytes_push front (p.left, p.right)))

-- the subjects of the pairs on a page are the links on it
pub page_subjects : (from count : ℕ) (qs : List CodedPair) → subjects_of (take count (drop from qs)) ≡ take count (drop from (subjects_of qs))
page_subjects from count qs =
    let subjects : CodedPair → ℕ × ℕ = λ q. (q.left, q.right) in
    sym (ap (take count) (drop-map subjects from qs) ∙ take-map subjects count (drop from qs))

-- a page that begins past the links
pub page_past : (ls : List (ℕ × ℕ)) (from : ℕ) (b : List ℕ) → length ls < from → refused (26, 0) b ≡ page_reply ls from b
unfolding page_reply
page_past ls from b h = sym (cond-true (ltb (length ls) from) (refused (26, 0) b) _ (lt-ltb (length ls) from h))

-- a page with a link left and no space for one
pub page_cramped : (ls : List (ℕ × ℕ)) (from : ℕ) (b : List ℕ) → from ≤ length ls → from ≢ length ls → length b < 8 → refused (27, 0) b ≡ page_reply ls from b
unfolding page_reply
page_cramped ls from b h n short =
    sym
    (cond-false (ltb (length ls) from) (refused (26, 0) b) _ (le-ltb (length ls) from h)
    ∙ cond-true (not (eqb from (length ls)) && ltb (length b) 8) (refused (27, 0) b) _
    (and_from (not (eqb from (length ls))) (ltb (length b) 8) (not_from_false (eqb from (length ls)) (ne_eqb from (length ls) n)) (lt-ltb (length b) 8 short)))

-- any other page has the links that fit
pub page_written : (ls : List (ℕ × ℕ)) (from n : ℕ) (b after : List ℕ) → from ≤ length ls → (from ≡ length ls) ⊎ (8 ≤ length b) → n ≡ page_count ls from b → after ≡ put_at 0 (link_bytes (take n (drop from ls))) b → paged n after ≡ page_reply ls from b
unfolding page_reply
page_written ls from n b after h fits e put =
    ap (paged n) put
    ∙ ap (λ (m : ℕ). paged m (put_at 0 (link_bytes (take m (drop from ls))) b)) e
    ∙ sym
    (cond-false (ltb (length ls) from) (refused (26, 0) b) _ (le-ltb (length ls) from h)
    ∙ cond-false (not (eqb from (length ls)) && ltb (length b) 8) (refused (27, 0) b) _
    (⊎_elim (λ q. and_left (not (eqb from (length ls))) (ltb (length b) 8) (not_from_true (eqb from (length ls)) (eq-eqb from (length ls) q))) (λ q. and_right (not (eqb from (length ls))) (ltb (length b) 8) (le-ltb (length b) 8 q)) fits))
