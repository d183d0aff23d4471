-- What a listing that stands knows of its relation, and where its next step leads.
use Rattle.std.proofs.Common.{tests, ◌≡◌, ℕ, zero, suc, ◌+◌, ◌*◌, ◌^◌, ◌<◌, ◌≤◌, min, Bool, true, false, cond, eqb, ltb, ◌≢◌, List, [], ◌∷◌, length, get_or, Some, None, vec_items, Option, sym, refl, ap, ◌∙◌, subst, add-zero, mul-le-mul, add-one, arith, pow_mono}
use lib.Count.{ones}
use lib.ListN.{length-map}
use Rattle.std.specs.List.{AllByRecursion}
use Rattle.std.proofs.ByRecursion.{All-weaker}
use Rattle.std.proofs.lemmas.List.{nil_from_length}
use Rattle.std.proofs.lemmas.Bool.{both_ways, cond-true, cond-false, le-leb, lt-leb, lt-ltb, le-ltb, eq-eqb, ne_eqb}
use Rattle.contexts.specs.Pairs.{coded_pairs}
use Rattle.contexts.specs.Relation.{Relation, Sound}
use Rattle.contexts.specs.declared.coded_pair.CodedPair.{CodedPair}
use Rattle.lattice.specs.Candidates as of_codes
use Rattle.lattice.specs.Candidates.{last_of, Steps}
use Rattle.lattice.specs.Closed.{next_closed}
use Rattle.lattice.specs.Sets.{empty}
use Rattle.lattice.specs.Widening.{including}
use Rattle.lattice.proofs.Ascending.{get_or_within, last_below_next}
use Rattle.lattice.proofs.Raising.{next_is_least}
use Rattle.lattice.proofs.Steps as of_steps
use Rattle.records.specs.Writing.{has_space, put_at}
use Rattle.records.specs.declared.kinds.candidate.Candidate.{Candidate}
use Rattle.listings.specs.Calls.{take_at, page_from, handed, ended, refused, with_space}
use Rattle.listings.specs.Candidates.{is_candidate, candidates}
use Rattle.listings.specs.Copied.{copied, Reached, Within, linking, subjects_of, marked_count, marks_set, same_members, codes_of, left_of, right_of}
use Rattle.listings.specs.Counts.{left_linked, right_linked, condition_count, candidate_body, candidate_bytes}
use Rattle.listings.specs.Held.{held}
use Rattle.listings.specs.Links.{links}
use Rattle.listings.specs.Pages.{page_reply}
use Rattle.listings.specs.Replies.{candidate_count, handed_count, reply}
use Rattle.listings.specs.View.{relation_of, level}
use Rattle.listings.specs.declared.listing.Listing.{Listing}
use Rattle.listings.specs.declared.listing.copying.Copied.{Copied}
use Rattle.listings.proofs.Coded.{coded_within, coded_fewer, copied_sound, links_coded}
use Rattle.listings.proofs.Marks.{left_linked_coded, right_linked_coded, lefts_present_counted, rights_present_counted, ones_counted}
use Rattle.listings.proofs.Stepping.{candidates_coded, including_coded}

-- what a copy knows of its relation
module _ (v : Copied) where
  pub sound : Sound (held v)
  sound = copied_sound _ _ _ _ v.few v.width.few v.below

  pub pairs_few : length (vec_items v.pairs) < 2 ^ 32
  unfolding copied
  pairs_few =
      let area : (held v).lefts * (held v).rights ≤ 2048 * 2048 = mul-le-mul v.few.0 v.few.1 in
      omega (arith, ap length v.coded, coded_fewer (held v))

  pub pairs_within : AllByRecursion Within (vec_items v.pairs)
  unfolding copied
  pairs_within =
      let few = v.few in
      subst (AllByRecursion Within) (sym v.coded)
      (All-weaker (λ (p : CodedPair). (p.left < (held v).lefts) × (p.right < (held v).rights)) Within (λ p h. (omega (arith, h.0, few.0), omega (arith, h.1, few.1))) (coded_pairs (held v)) (coded_within (held v)))

  -- the links of a code, off the listing's own pairs
  pub links_listed : (x : ℕ) → 0 < x → x < 2 ^ v.width.conditions → links (held v) x ≡ subjects_of (linking x (vec_items v.pairs))
  unfolding copied
  links_listed x low high =
      links_coded (held v) sound x low high ∙ ap (λ (qs : List CodedPair). subjects_of (linking x qs)) (sym v.coded)

  pub left_listed : (x : ℕ) → 0 < x → x < 2 ^ v.width.conditions → marked_count left_of (linking x (vec_items v.pairs)) ≡ left_linked (held v) x
  unfolding copied marked_count
  left_listed x low high =
      ap (λ (qs : List CodedPair). marked_count left_of (linking x qs)) v.coded ∙ sym (left_linked_coded (held v) sound x low high 2048 v.few.0)

  pub right_listed : (x : ℕ) → 0 < x → x < 2 ^ v.width.conditions → marked_count right_of (linking x (vec_items v.pairs)) ≡ right_linked (held v) x
  unfolding copied marked_count
  right_listed x low high =
      ap (λ (qs : List CodedPair). marked_count right_of (linking x qs)) v.coded ∙ sym (right_linked_coded (held v) sound x low high 2048 v.few.1)

  pub length_listed : (x : ℕ) → 0 < x → x < 2 ^ v.width.conditions → length (linking x (vec_items v.pairs)) ≡ length (links (held v) x)
  length_listed x low high =
      sym (ap length (links_listed x low high) ∙ length-map {B = ℕ × ℕ} (linking x (vec_items v.pairs)) (λ (p : CodedPair). (p.left, p.right)))

  ones_listed : (x : ℕ) → x < 2 ^ v.width.conditions → ones x ≡ condition_count (held v) x
  unfolding copied condition_count
  ones_listed x high = ones_counted v.width.conditions x high

  -- what was counted is what is told of a code
  pub told_of : (x : ℕ) → 0 < x → x < 2 ^ v.width.conditions → (r : Candidate) → r.code ≡ x → r.links ≡ length (linking x (vec_items v.pairs)) → r.left_linked ≡ marked_count left_of (linking x (vec_items v.pairs)) → r.right_linked ≡ marked_count right_of (linking x (vec_items v.pairs)) → r.left_present ≡ marks_set (vec_items v.left_present) → r.right_present ≡ marks_set (vec_items v.right_present) → r.conditions ≡ ones x → r ≡ candidate_body (held v) x
  unfolding candidate_body
  told_of x low high r e0 e1 e2 e3 e4 e5 e6 =
      let f1 = e1 ∙ length_listed x low high in
      let f2 = e2 ∙ left_listed x low high in
      let f3 = e3 ∙ right_listed x low high in
      let f4 = e4 ∙ lefts_present_counted (vec_items v.left_present) (vec_items v.right_present) v.width.conditions (vec_items v.pairs) in
      let f5 = e5 ∙ rights_present_counted (vec_items v.left_present) (vec_items v.right_present) v.width.conditions (vec_items v.pairs) in
      let f6 = e6 ∙ ones_listed x high in
      λ i. record { code = e0 i; links = f1 i; left_linked = f2 i; right_linked = f3 i; left_present = f4 i; right_present = f5 i; conditions = f6 i }

  known_codes : same_members (codes_of (coded_pairs (held v))) (vec_items v.distinct) ≡ true
  known_codes = ap (λ (qs : List CodedPair). same_members (codes_of qs) (vec_items v.distinct)) (sym v.coded) ∙ v.known

  candidates_known : candidates (held v) ≡ of_codes.candidates v.width.conditions (vec_items v.distinct)
  unfolding copied
  candidates_known = candidates_coded (held v) sound (vec_items v.distinct) known_codes

  count_known : candidate_count (held v) ≡ length (of_codes.candidates v.width.conditions (vec_items v.distinct))
  unfolding candidate_count
  count_known = ap length candidates_known

  pub count_small : candidate_count (held v) < 2 ^ 64
  count_small =
      let width : 2 ^ v.width.conditions ≤ 2 ^ 64 = pow_mono v.width.few in
      omega (arith, count_known, of_steps.candidates_fewer v.width.conditions (vec_items v.distinct))

-- a listing over a context
module _ {C : Type 0} (l : Listing C) where
  steps : Steps l.copy.width.conditions (vec_items l.copy.distinct) l.tally.handed
  steps = of_steps.steps l.copy.width.conditions (vec_items l.copy.distinct) l.tally.handed (omega (arith, l.reached.0, (count_known l.copy)))

  from_last : l.tally.last ≡ last_of (of_codes.candidates l.copy.width.conditions (vec_items l.copy.distinct)) l.tally.handed
  from_last = l.reached.1 ∙ ap (λ (xs : List ℕ). last_of xs l.tally.handed) (candidates_known l.copy)

  -- the code that the step from the last one leads to
  pub step_within : (z : ℕ) → Some z ≡ next_closed l.copy.width.conditions (vec_items l.copy.distinct) l.tally.last → (0 < z) × (z < 2 ^ l.copy.width.conditions)
  step_within z e =
      let least = next_is_least l.copy.width.conditions (vec_items l.copy.distinct) l.tally.last z (sym e) in
      (omega (arith, least.greater), least.within)

  step_from : {o : Option ℕ} → o ≡ next_closed l.copy.width.conditions (vec_items l.copy.distinct) l.tally.last → next_closed l.copy.width.conditions (vec_items l.copy.distinct) (last_of (of_codes.candidates l.copy.width.conditions (vec_items l.copy.distinct)) l.tally.handed) ≡ o
  step_from e = ap (next_closed l.copy.width.conditions (vec_items l.copy.distinct)) (sym from_last) ∙ sym e

  some_include : (z : ℕ) → 0 < z → z < 2 ^ l.copy.width.conditions → empty (including l.copy.width.conditions z (vec_items l.copy.distinct)) ≡ empty (links (relation_of l) z)
  unfolding copied
  some_include z low high = including_coded (relation_of l) (sound l.copy) (vec_items l.copy.distinct) (known_codes l.copy) z low high

  -- where it has links it is the next candidate
  pub step_more : (z : ℕ) → Some z ≡ next_closed l.copy.width.conditions (vec_items l.copy.distinct) l.tally.last → 0 < length (links (relation_of l) z) → (l.tally.handed < candidate_count (relation_of l)) × (get_or (candidates (relation_of l)) l.tally.handed 0 ≡ z)
  step_more z e some =
      let in-range = step_within z e in
      let next = steps.one_more z (step_from e) (some_include z in-range.0 in-range.1 ∙ not_empty (links (relation_of l) z) some) in
      (omega (arith, next.0, (count_known l.copy)), ap (λ (xs : List ℕ). get_or xs l.tally.handed 0) (candidates_known l.copy) ∙ next.1)
    where
      not_empty : (xs : List (ℕ × ℕ)) → 0 < length xs → empty xs ≡ false
      not_empty [] h = absurd (omega arith)
      not_empty (x ∷ xs) h = refl

  -- as many links are told of a code as it has
  pub body_links : (x : ℕ) (r : Candidate) → r ≡ candidate_body (relation_of l) x → r.links ≡ length (links (relation_of l) x)
  unfolding candidate_body
  body_links x r e = ap (λ (b : Candidate). b.links) e

  -- where it has none, every candidate was handed out
  pub step_bare : (z : ℕ) (r : Candidate) → Some z ≡ next_closed l.copy.width.conditions (vec_items l.copy.distinct) l.tally.last → r ≡ candidate_body (relation_of l) z → ltb 0 r.links ≡ false → l.tally.handed ≡ candidate_count (relation_of l)
  step_bare z r e told few =
      let in-range = step_within z e in
      let none : length (links (relation_of l) z) ≡ 0 = sym (body_links z r told) ∙ grind (arith, tests, few) in
      steps.none_includes z (step_from e) (some_include z in-range.0 in-range.1 ∙ ap (λ (xs : List (ℕ × ℕ)). empty xs) (nil_from_length (links (relation_of l) z) none))
      ∙ sym (count_known l.copy)

  -- and so where it leads nowhere
  pub step_none : None ≡ next_closed l.copy.width.conditions (vec_items l.copy.distinct) l.tally.last → l.tally.handed ≡ candidate_count (relation_of l)
  step_none e = steps.none_left (step_from e) ∙ sym (count_known l.copy)

  level_by : (b : Bool) → l.tally.ended ≡ b → (min (l.tally.handed + cond b 1 0) (candidate_count (relation_of l)) ≡ l.tally.handed) × (ltb (candidate_count (relation_of l)) (l.tally.handed + cond b 1 0) ≡ b)
  level_by true e =
      let all = l.reached.2 e in
      let most = l.reached.0 in
      (omega arith, lt-ltb (candidate_count (relation_of l)) (l.tally.handed + 1) (omega arith))
  level_by false e =
      let most = l.reached.0 in
      (omega arith, le-ltb (candidate_count (relation_of l)) (l.tally.handed + 0) (omega arith))

  -- at its level a listing has handed out what it says
  pub level_handed : min (level l) (candidate_count (relation_of l)) ≡ l.tally.handed
  level_handed = (level_by l.tally.ended refl).0

  -- and has ended where it says so
  pub level_ended : ltb (candidate_count (relation_of l)) (level l) ≡ l.tally.ended
  level_ended = (level_by l.tally.ended refl).1

  pub level_capped : level l ≤ candidate_count (relation_of l) + 1
  level_capped = by l.tally.ended
    where
      by : (b : Bool) → l.tally.handed + cond b 1 0 ≤ candidate_count (relation_of l) + 1
      by true = let most = l.reached.0 in omega arith
      by false = let most = l.reached.0 in omega arith

  -- a page before the first candidate
  pub page_early : (from : ℕ) (b : List ℕ) → l.tally.handed ≡ 0 → refused (25, 0) b ≡ reply (relation_of l) (level l) (page_from from b)
  unfolding reply
  page_early from b none =
      sym (cond-true (eqb (handed_count (relation_of l) (level l)) 0) (refused (25, 0) b) _ (eq-eqb (handed_count (relation_of l) (level l)) 0 (level_handed ∙ none)))

  -- any other page is one of the links of the last code
  pub page_later : (from : ℕ) (b : List ℕ) → l.tally.handed ≢ 0 → page_reply (links (relation_of l) l.tally.last) from b ≡ reply (relation_of l) (level l) (page_from from b)
  unfolding reply
  page_later from b some =
      let c = relation_of l in
      ap (λ (x : ℕ). page_reply (links c x) from b) (l.reached.1 ∙ ap (last_of (candidates c)) (sym level_handed))
      ∙ sym (cond-false (eqb (handed_count c (level l)) 0) (refused (25, 0) b) _ (ne_eqb (handed_count c (level l)) 0 (λ e. some (sym level_handed ∙ e))))

  -- the last code is one of the conditions', and not the empty set
  pub last_within : l.tally.handed ≢ 0 → (0 < l.tally.last) × (l.tally.last < 2 ^ l.copy.width.conditions)
  unfolding copied candidates candidate_count is_candidate
  last_within some = by l.tally.handed some l.reached.0 l.reached.1
    where
      by : (n : ℕ) → n ≢ 0 → n ≤ candidate_count (relation_of l) → l.tally.last ≡ last_of (candidates (relation_of l)) n → (0 < l.tally.last) × (l.tally.last < 2 ^ l.copy.width.conditions)
      by zero n h e = absurd (n refl)
      by (suc n) m h e =
          let size = 2 ^ l.copy.width.conditions in
          let low = last_below_next (is_candidate (relation_of l)) size n refl h in
          let high = get_or_within (is_candidate (relation_of l)) size n h in
          (omega arith, omega arith)

  -- where the next candidate is z, handing it out
  pub advanced : (z : ℕ) (r : Candidate) → Some z ≡ next_closed l.copy.width.conditions (vec_items l.copy.distinct) l.tally.last → l.tally.ended ≡ false → r ≡ candidate_body (relation_of l) z → 0 < r.links →
      Reached (relation_of l) z (l.tally.handed + 1) l.tally.ended
      × (l.tally.handed + 1 + cond l.tally.ended 1 0 ≡ min (level l + 1) (candidate_count (relation_of l) + 1))
      × (level l < candidate_count (relation_of l))
      × (r ≡ candidate_body (relation_of l) (get_or (candidates (relation_of l)) (level l) 0))
  advanced z r e going told some =
      let next = step_more z e (omega (arith, body_links z r told)) in
      let here : l.tally.handed ≡ level l = sym (ap (λ (b : Bool). l.tally.handed + cond b 1 0) going ∙ add-zero l.tally.handed) in
      let more : l.tally.handed + 1 + cond l.tally.ended 1 0 ≡ l.tally.handed + 1 = ap (λ (b : Bool). l.tally.handed + 1 + cond b 1 0) going ∙ add-zero (l.tally.handed + 1) in (
        (omega (arith, next.0), sym next.1 ∙ ap (last_of (candidates (relation_of l))) (sym (add-one l.tally.handed)), λ end. absurd (both_ways l.tally.ended going end)),
        omega (arith, next.0, here, more),
        omega (arith, next.0, here),
        told ∙ ap (candidate_body (relation_of l)) (sym next.1 ∙ ap (λ (n : ℕ). get_or (candidates (relation_of l)) n 0) here),
      )

  -- where there is none, the end
  pub finished : l.tally.ended ≡ false → l.tally.handed ≡ candidate_count (relation_of l) → (l.tally.handed + 1 ≡ min (level l + 1) (candidate_count (relation_of l) + 1)) × (candidate_count (relation_of l) ≤ level l)
  finished going all =
      let here : l.tally.handed ≡ level l = sym (ap (λ (b : Bool). l.tally.handed + cond b 1 0) going ∙ add-zero l.tally.handed) in
      (omega arith, omega arith)

  -- after the end nothing moves
  pub stayed : l.tally.ended ≡ true → (level l ≡ min (level l + 1) (candidate_count (relation_of l) + 1)) × (candidate_count (relation_of l) ≤ level l)
  stayed end =
      let all = l.reached.2 end in
      let here : level l ≡ l.tally.handed + 1 = ap (λ (b : Bool). l.tally.handed + cond b 1 0) end in
      (omega arith, omega arith)

  -- a take without space
  pub take_cramped : (at : ℕ) (b : List ℕ) → length b < at + 32 → (level l ≡ min (level l + with_space (take_at at b)) (candidate_count (relation_of l) + 1)) × (refused (24, 0) b ≡ reply (relation_of l) (level l) (take_at at b))
  unfolding reply
  take_cramped at b h =
      let none : has_space 32 at b ≡ false = lt-leb (at + 32) (length b) h in
      let capped = level_capped in
      let same : with_space (take_at at b) ≡ 0 = ap {B = ℕ} (λ (t : Bool). cond t 1 0) none in
      (omega arith, sym (cond-false (has_space 32 at b) _ (refused (24, 0) b) none))

-- a take with space
module _ (c : Relation) (w v at : ℕ) (b : List ℕ) (space : at + 32 ≤ length b) (more : v ≡ min (w + 1) (candidate_count c + 1)) where
  room : has_space 32 at b ≡ true
  room = le-leb (at + 32) (length b) space

  pub take_ends : candidate_count c ≤ w → ended b ≡ reply c w (take_at at b)
  unfolding reply
  take_ends h =
      sym (cond-true (has_space 32 at b) _ (refused (24, 0) b) room ∙ cond-false (ltb w (candidate_count c)) _ (ended b) (le-ltb w (candidate_count c) h))

  pub take_hands : w < candidate_count c → (after : List ℕ) → after ≡ put_at at (candidate_bytes c (get_or (candidates c) w 0)) b → handed after ≡ reply c w (take_at at b)
  unfolding reply
  take_hands h after put =
      ap handed put
      ∙ sym (cond-true (has_space 32 at b) _ (refused (24, 0) b) room ∙ cond-true (ltb w (candidate_count c)) _ (ended b) (lt-ltb w (candidate_count c) h))
