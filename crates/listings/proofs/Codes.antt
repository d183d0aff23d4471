-- A relation has the links, widenings and candidates of the codes of its present pairs.
use Rattle.std.proofs.Common.{◌≡◌, ℕ, ◌^◌, Bool, not, ◌&&◌, eqb, List, filter, sym, ap, ◌∙◌, ap₂}
use mathlib.Core.Path.{fun_ext}
use Rattle.contexts.specs.Pairs.{pairs, pair_code}
use Rattle.contexts.specs.Relation.{Relation}
use Rattle.lattice.specs.Candidates as of_codes
use Rattle.lattice.specs.Closed.{is_closed}
use Rattle.lattice.specs.Sets.{range, empty}
use Rattle.lattice.specs.Widening as over_codes
use Rattle.lattice.specs.Widening.{including, SameMembers}
use Rattle.lattice.proofs.Closures.{widening_links, including_links}
use Rattle.lattice.proofs.Steps.{candidates_members}
use Rattle.listings.specs.Links.{both_present, is_link, links, present_codes}
use Rattle.listings.specs.Candidates.{widening, is_candidate, candidates}

pub widening_codes : (c : Relation) (x : ℕ) → over_codes.widening c.conditions (present_codes c) x ≡ widening c x
unfolding present_codes widening links is_link
widening_codes c x = widening_links c.conditions (pairs c) (both_present c) (pair_code c) x

pub including_codes : (c : Relation) (x : ℕ) → empty (including c.conditions x (present_codes c)) ≡ empty (links c x)
unfolding present_codes links is_link
including_codes c x = including_links c.conditions (pairs c) (both_present c) (pair_code c) x

pub candidate_codes : (c : Relation) (x : ℕ) → is_candidate c x ≡ of_codes.is_candidate c.conditions (present_codes c) x
unfolding is_candidate of_codes.is_candidate is_closed
candidate_codes c x = ap₂ (λ (w : ℕ) (none : Bool). not (eqb x 0) && eqb w x && not none) (sym (widening_codes c x)) (sym (including_codes c x))

pub candidates_codes : (c : Relation) → candidates c ≡ of_codes.candidates c.conditions (present_codes c)
unfolding candidates of_codes.candidates
candidates_codes c = ap (λ (test : ℕ → Bool). filter test (range (2 ^ c.conditions))) (fun_ext (candidate_codes c))

pub candidates_by_codes : (c : Relation) (codes : List ℕ) → SameMembers (present_codes c) codes → candidates c ≡ of_codes.candidates c.conditions codes
candidates_by_codes c codes same = candidates_codes c ∙ candidates_members c.conditions (present_codes c) codes same
