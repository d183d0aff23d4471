-- The answers by the relation are what every run owes.
use Rattle.std.proofs.Common.{◌≡◌, ℕ, zero, suc, ◌+◌, ◌<◌, ◌≤◌, min, Bool, true, false, cond, eqb, ltb, ◌⊎◌, List, [], length, get_or, take, Some, sym, refl, ap, ◌∙◌, subst, ap₂, inl, inr, ⊎_elim, arith}
use Rattle.std.proofs.lemmas.List.{take_all, length-take, length-take-le, get_or-take}
use Rattle.std.proofs.lemmas.Bool.{cond-true, cond-false, le-leb, lt-leb, le-ltb, lt-ltb, eq-eqb, ne_eqb, cases_lt}
use Rattle.contexts.specs.Relation.{Relation}
use Rattle.lattice.specs.Candidates.{last_of}
use Rattle.records.specs.Writing.{has_space, put_at}
use Rattle.listings.specs.Calls.{Ask, take_at, page_from, tally_now, total_now, Reply, handed, ended, paged, refused, tallied, totalled, buffer_of, takes_with_space}
use Rattle.listings.specs.Candidates.{candidates}
use Rattle.listings.specs.Counts.{candidate_bytes}
use Rattle.listings.specs.Kept.{handed_before, last_code, Stands, Kept}
use Rattle.listings.specs.Links.{links}
use Rattle.listings.specs.Pages.{page_reply}
use Rattle.listings.specs.Replies.{candidate_count, handed_count, reply, replies}
use Rattle.listings.proofs.Running.{length_replies, codes_of_replies, page_answer, handed_so_far, ended_so_far, answer_so_far}

last_taken : (w : ℕ) (xs : List ℕ) → last_code (take w xs) ≡ last_of xs (min w (length xs))
last_taken w xs = ap (last_of (take w xs)) (length-take w xs) ∙ go (min w (length xs)) (omega arith)
  where
    go : (n : ℕ) → n ≤ w → last_of (take w xs) n ≡ last_of xs n
    go zero h = refl
    go (suc n) h = get_or-take w xs n 0 (omega arith)

-- The answer to a take, by its space and by what is left.
take_handed : (c : Relation) (w at : ℕ) (b : List ℕ) → at + 32 ≤ length b → w < length (candidates c) → reply c w (take_at at b) ≡ handed (put_at at (candidate_bytes c (get_or (candidates c) w 0)) b)
unfolding reply candidate_count
take_handed c w at b h l =
    cond-true (has_space 32 at b) _ (refused (24, 0) b) (le-leb (at + 32) (length b) h) ∙ cond-true (ltb w (length (candidates c))) _ (ended b) (lt-ltb w (length (candidates c)) l)

take_ended : (c : Relation) (w at : ℕ) (b : List ℕ) → at + 32 ≤ length b → length (candidates c) ≤ w → reply c w (take_at at b) ≡ ended b
unfolding reply candidate_count
take_ended c w at b h l =
    cond-true (has_space 32 at b) _ (refused (24, 0) b) (le-leb (at + 32) (length b) h) ∙ cond-false (ltb w (length (candidates c))) _ (ended b) (le-ltb w (length (candidates c)) l)

take_refused : (c : Relation) (w at : ℕ) (b : List ℕ) → length b < at + 32 → reply c w (take_at at b) ≡ refused (24, 0) b
unfolding reply
take_refused c w at b h = cond-false (has_space 32 at b) _ (refused (24, 0) b) (lt-leb (at + 32) (length b) h)

-- The answer to a page, by whether a candidate was handed out.
page_refused : (c : Relation) (w from : ℕ) (b : List ℕ) → length (take w (candidates c)) ≡ 0 → reply c w (page_from from b) ≡ refused (25, 0) b
unfolding reply candidate_count
page_refused c w from b h = cond-true (eqb (handed_count c w) 0) (refused (25, 0) b) _ (eq-eqb (handed_count c w) 0 (sym (length-take w (candidates c)) ∙ h))

page_listed : (c : Relation) (w from : ℕ) (b : List ℕ) → 0 < length (take w (candidates c)) → reply c w (page_from from b) ≡ page_reply (links c (last_code (take w (candidates c)))) from b
unfolding reply candidate_count
page_listed c w from b h =
    cond-false (eqb (handed_count c w) 0) (refused (25, 0) b) _ (ne_eqb (handed_count c w) 0 (λ e. omega (arith, length-take w (candidates c))))
    ∙ ap (λ (x : ℕ). page_reply (links c x) from b) (sym (last_taken w (candidates c)))

tally_told : (c : Relation) (w : ℕ) → reply c w tally_now ≡ tallied (length (take w (candidates c))) (last_code (take w (candidates c))) (ltb (candidate_count c) w)
unfolding reply candidate_count
tally_told c w =
    ap₂ (λ (n x : ℕ). tallied n x (ltb (length (candidates c)) w)) (sym (length-take w (candidates c))) (sym (last_taken w (candidates c)))

total_told : (c : Relation) (w : ℕ) → reply c w total_now ≡ cond (ltb (candidate_count c) w) (totalled (length (candidates c))) (refused (28, 0) [])
unfolding reply candidate_count
total_told c w = refl

-- What a refusal says of its buffer; any other answer says nothing.
abbrev Leaves : List ℕ → Reply → Type 0
Leaves b (handed after) = Unit {0}
Leaves b (ended after) = Unit {0}
Leaves b (paged n after) = Unit {0}
Leaves b (refused refusal after) = after ≡ b
Leaves b (tallied n x e) = Unit {0}
Leaves b (totalled n) = Unit {0}

reply_leaves : (c : Relation) (w : ℕ) (a : Ask) → Leaves (buffer_of a) (reply c w a)
unfolding reply
reply_leaves c w (take_at at b) = go (has_space 32 at b) (ltb w (candidate_count c))
  where
    go : (s l : Bool) → Leaves b (cond s (cond l (handed (put_at at (candidate_bytes c (get_or (candidates c) w 0)) b)) (ended b)) (refused (24, 0) b))
    go true true = tt
    go true false = tt
    go false l = refl
reply_leaves c w (page_from from b) = page_answer (Leaves b) c w from b (λ refusal. refl) (λ n after. tt)
reply_leaves c w tally_now = tt
reply_leaves c w total_now = go (ltb (candidate_count c) w)
  where
    go : (s : Bool) → Leaves [] (cond s (totalled (candidate_count c)) (refused (28, 0) []))
    go true = tt
    go false = refl

-- Before call j, w takes with space came.
abbrev level : List Ask → ℕ → ℕ
level asks j = takes_with_space (take j asks)

ended_means_all : (c : Relation) (asks : List Ask) (j at : ℕ) (b : List ℕ) → Stands asks j (take_at at b) → at + 32 ≤ length b → Stands (replies c 0 asks) j (ended b) → handed_before j asks (replies c 0 asks) ≡ candidates c
ended_means_all c asks j at b a h e =
    let w = level asks j in
    let said = sym (answer_so_far c asks j (take_at at b) a) ∙ e in
    ⊎_elim (λ l. let other = take_handed c w at b h l in let z : ◌≡◌ {A = ℕ} 0 1 = cc in absurd (omega arith))
    (λ l. handed_so_far c asks j ∙ take_all w (candidates c) l) (cases_lt w (length (candidates c)))

all_means_ended : (c : Relation) (asks : List Ask) (j at : ℕ) (b : List ℕ) → Stands asks j (take_at at b) → at + 32 ≤ length b → handed_before j asks (replies c 0 asks) ≡ candidates c → Stands (replies c 0 asks) j (ended b)
all_means_ended c asks j at b a h e =
    let w = level asks j in
    let all = ap length (sym (handed_so_far c asks j) ∙ e) in
    answer_so_far c asks j (take_at at b) a ∙ ap (λ (r : Reply). Some r) (take_ended c w at b h (omega (arith, all, length-take w (candidates c))))

next_or_ended : (c : Relation) (asks : List Ask) (j at : ℕ) (b : List ℕ) → Stands asks j (take_at at b) → at + 32 ≤ length b → Stands (replies c 0 asks) j (ended b) ⊎ Stands (replies c 0 asks) j (handed (put_at at (candidate_bytes c (get_or (candidates c) (length (handed_before j asks (replies c 0 asks))) 0)) b))
next_or_ended c asks j at b a h =
    let w = level asks j in
    let said = answer_so_far c asks j (take_at at b) a in
    ⊎_elim
    (λ l.
    let place : w ≡ length (handed_before j asks (replies c 0 asks)) = sym (ap length (handed_so_far c asks j) ∙ length-take-le w (candidates c) (omega arith)) in
    inr
    (said
    ∙ ap (λ (r : Reply). Some r) (take_handed c w at b h l)
    ∙ ap (λ (n : ℕ). Some (handed (put_at at (candidate_bytes c (get_or (candidates c) n 0)) b))) place))
    (λ l. inl (said ∙ ap (λ (r : Reply). Some r) (take_ended c w at b h l))) (cases_lt w (length (candidates c)))

pub replies_keep : (c : Relation) (asks : List Ask) → Kept c asks (replies c 0 asks)
replies_keep c asks =
    let rs = replies c 0 asks in
    record {
      every_call_is_answered = length_replies c 0 asks;
      handed_out_in_order = codes_of_replies c 0 asks;
      ended_exactly_after_the_last = λ j at b a h. (ended_means_all c asks j at b a h, all_means_ended c asks j at b a h);
      record_is_of_its_code = next_or_ended c asks;
      take_needs_space = λ j at b a h. answer_so_far c asks j (take_at at b) a ∙ ap (λ (r : Reply). Some r) (take_refused c (level asks j) at b h);
      page_needs_a_candidate =
          λ j from b a e.
          answer_so_far c asks j (page_from from b) a
          ∙ ap (λ (r : Reply). Some r) (page_refused c (level asks j) from b (ap length (sym (handed_so_far c asks j) ∙ e)));
      page_lists_links_of_the_last_code =
          λ j from b a h.
          answer_so_far c asks j (page_from from b) a
          ∙ ap (λ (r : Reply). Some r) (page_listed c (level asks j) from b (omega (arith, ap length (handed_so_far c asks j))))
          ∙ ap (λ (v : List ℕ). Some (page_reply (links c (last_code v)) from b)) (sym (handed_so_far c asks j));
      tally_tells_what_was_handed_out =
          λ j a.
          answer_so_far c asks j tally_now a
          ∙ ap (λ (r : Reply). Some r) (tally_told c (level asks j))
          ∙ ap₂ (λ (v : List ℕ) (end : Bool). Some (tallied (length v) (last_code v) end)) (sym (handed_so_far c asks j)) (sym (ended_so_far c asks j));
      total_is_told_after_the_end =
          λ j a.
          answer_so_far c asks j total_now a
          ∙ ap (λ (r : Reply). Some r) (total_told c (level asks j))
          ∙ ap (λ (end : Bool). Some (cond end (totalled (length (candidates c))) (refused (28, 0) []))) (sym (ended_so_far c asks j));
      turned_down_calls_leave_their_buffer =
          λ j a refusal b s e.
          let same = sym (answer_so_far c asks j a s) ∙ e in
          let down : reply c (level asks j) a ≡ refused refusal b = cc in
          subst (Leaves (buffer_of a)) down (reply_leaves c (level asks j) a);
    }
