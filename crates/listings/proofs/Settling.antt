-- What a run owes settles its answers: call by call, from what was handed out and said before.
use Rattle.std.proofs.Common.{◌≡◌, ℕ, zero, suc, ◌+◌, ◌<◌, ◌≤◌, Bool, cond, List, [], length, get_or, take, Some, sym, refl, ap, ◌∙◌, subst, ap₂, ⊎_elim, arith}
use Rattle.std.specs.List.{slice_get}
use Rattle.std.proofs.lemmas.List.{take_all, take_more_same, nil_from_length}
use Rattle.std.proofs.lemmas.Option.{slice_get-get_or}
use Rattle.std.proofs.lemmas.Bool.{cases_lt}
use Rattle.contexts.specs.Relation.{Relation}
use Rattle.records.specs.Writing.{put_at}
use Rattle.listings.specs.Calls.{Ask, take_at, page_from, tally_now, total_now, Reply, handed, refused, tallied, totalled}
use Rattle.listings.specs.Candidates.{candidates}
use Rattle.listings.specs.Counts.{candidate_bytes}
use Rattle.listings.specs.Kept.{codes_handed, handed_before, last_code, some_ended, Stands, Kept}
use Rattle.listings.specs.Links.{links}
use Rattle.listings.specs.Pages.{page_reply}

-- Two runs with the same answers before call j answer it alike.
same_answer : (c : Relation) (asks : List Ask) (rs ss : List Reply) → Kept c asks rs → Kept c asks ss → (j : ℕ) → take j rs ≡ take j ss → (a : Ask) → Stands asks j a → slice_get rs j ≡ slice_get ss j
same_answer c asks rs ss k l j e (take_at at b) a =
    let before : handed_before j asks rs ≡ handed_before j asks ss = ap (codes_handed (take j asks)) e in
    ⊎_elim (λ h. k.take_needs_space j at b a h ∙ sym (l.take_needs_space j at b a h))
    (λ h.
    let kends = k.ended_exactly_after_the_last j at b a h in
    let lends = l.ended_exactly_after_the_last j at b a h in
    ⊎_elim (λ p. p ∙ sym (lends.1 (sym before ∙ kends.0 p)))
    (λ p.
    ⊎_elim (λ q. kends.1 (before ∙ lends.0 q) ∙ sym q)
    (λ q. p ∙ ap (λ (v : List ℕ). Some (handed (put_at at (candidate_bytes c (get_or (candidates c) (length v) 0)) b))) before ∙ sym q)
    (l.record_is_of_its_code j at b a h))
    (k.record_is_of_its_code j at b a h))
    (cases_lt (length b) (at + 32))
same_answer c asks rs ss k l j e (page_from from b) a =
    let before : handed_before j asks rs ≡ handed_before j asks ss = ap (codes_handed (take j asks)) e in
    ⊎_elim
    (λ h.
    k.page_lists_links_of_the_last_code j from b a h
    ∙ ap (λ (v : List ℕ). Some (page_reply (links c (last_code v)) from b)) before
    ∙ sym (l.page_lists_links_of_the_last_code j from b a (omega (arith, ap length before))))
    (λ h.
    let none : handed_before j asks rs ≡ [] = nil_from_length (handed_before j asks rs) (omega arith) in
    k.page_needs_a_candidate j from b a none ∙ sym (l.page_needs_a_candidate j from b a (sym before ∙ none)))
    (cases_lt 0 (length (handed_before j asks rs)))
same_answer c asks rs ss k l j e tally_now a =
    let before : handed_before j asks rs ≡ handed_before j asks ss = ap (codes_handed (take j asks)) e in
    k.tally_tells_what_was_handed_out j a
    ∙ ap₂ (λ (v : List ℕ) (end : Bool). Some (tallied (length v) (last_code v) end)) before (ap some_ended e)
    ∙ sym (l.tally_tells_what_was_handed_out j a)
same_answer c asks rs ss k l j e total_now a =
    k.total_is_told_after_the_end j a
    ∙ ap (λ (end : Bool). Some (cond end (totalled (length (candidates c))) (refused (28, 0) []))) (ap some_ended e)
    ∙ sym (l.total_is_told_after_the_end j a)

same_front : (c : Relation) (asks : List Ask) (rs ss : List Reply) → Kept c asks rs → Kept c asks ss → (j : ℕ) → j ≤ length asks → take j rs ≡ take j ss
same_front c asks rs ss k l zero h = refl
same_front c asks rs ss k l (suc j) h =
    let before = same_front c asks rs ss k l j (omega arith) in
    let inside : j < length asks = omega arith in
    let rin : j < length rs = omega (arith, k.every_call_is_answered) in
    let sin : j < length ss = omega (arith, l.every_call_is_answered) in
    let here = same_answer c asks rs ss k l j before (get_or asks j tally_now) (slice_get-get_or asks j tally_now inside) in
    let both = sym (slice_get-get_or rs j (totalled 0) rin) ∙ here ∙ slice_get-get_or ss j (totalled 0) sin in
    let same : get_or rs j (totalled 0) ≡ get_or ss j (totalled 0) = cc in
    let one_more : j + 1 ≡ suc j = omega arith in
    subst (λ (n : ℕ). take n rs ≡ take n ss) one_more (take_more_same rs ss j (totalled 0) rin sin before same)

pub kept_alike : (c : Relation) (asks : List Ask) (rs ss : List Reply) → Kept c asks rs → Kept c asks ss → rs ≡ ss
kept_alike c asks rs ss k l =
    let n = length asks in
    sym (take_all n rs (omega (arith, k.every_call_is_answered))) ∙ same_front c asks rs ss k l n (omega arith) ∙ take_all n ss (omega (arith, l.every_call_is_answered))
