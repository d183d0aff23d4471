-- What holds of every listing.
use Rattle.std.specs.Prelude.{◌≡◌, ℕ, ◌+◌, ◌*◌, ◌^◌, ◌<◌, ◌≤◌, true, List, [], ◌++◌, length, take, drop, ◌≢◌, bit_and, slice_index}
use Rattle.std.specs.List.{ContainsAt as Has, AllByRecursion}
use Rattle.contexts.specs.Relation.{Relation, Sound}
use Rattle.lattice.specs.Candidates as of_codes
use Rattle.lattice.specs.Sets.{has, whole, includes}
use Rattle.lattice.specs.Widening.{SameMembers}
use Rattle.records.specs.Kinds.{candidate_fields}
use Rattle.listings.specs.Calls.{Ask, Reply, paged}
use Rattle.listings.specs.Candidates.{widening, is_candidate, candidates}
use Rattle.listings.specs.Counts.{left_linked, right_linked, lefts_present, rights_present, candidate_body, candidate_bytes}
use Rattle.listings.specs.Kept.{Kept}
use Rattle.listings.specs.Links.{links, present_codes}
use Rattle.listings.specs.Pages.{link_bytes, page_reply}
use Rattle.listings.specs.Replies.{candidate_count, replies}

-- Left subject s and right subject t are linked by x: both are present, and every condition of x holds for them.
pub record Linked (c : Relation) (x s t : ℕ) : Type 0 where
  pub left_in_range : s < c.lefts
  pub right_in_range : t < c.rights
  pub left_is_present : c.left_present s ≡ true
  pub right_is_present : c.right_present t ≡ true
  pub conditions_hold : (i : ℕ) → i < c.conditions → has c.conditions x i ≡ true → has c.conditions (c.code s t) i ≡ true

-- The links of x are the pairs that it links, and no others.
abbrev pub LinksAreTheLinked : Type 0
LinksAreTheLinked = (c : Relation) (x s t : ℕ) → (Has (links c x) (s, t) → Linked c x s t) × (Linked c x s t → Has (links c x) (s, t))

-- The links of a set are links of every set that it includes.
abbrev pub WiderSetsLinkLess : Type 0
WiderSetsLinkLess = (c : Relation) (x y : ℕ) → includes c.conditions x y ≡ true → (p : ℕ × ℕ) → Has (links c y) p → Has (links c x) p

-- No more subjects of a side are linked than are present: coverage is at most 1.
abbrev pub LinkedArePresent : Type 0
LinkedArePresent = (c : Relation) (x : ℕ) → (left_linked c x ≤ lefts_present c) × (right_linked c x ≤ rights_present c)

-- No more subjects of a side are linked than there are links: discriminability is at most 1.
abbrev pub LinkedAreInLinks : Type 0
LinkedAreInLinks = (c : Relation) (x : ℕ) → (left_linked c x ≤ length (links c x)) × (right_linked c x ≤ length (links c x))

-- A candidate links a subject of each side.
abbrev pub CandidatesAreLinked : Type 0
CandidatesAreLinked = (c : Relation) (x : ℕ) → is_candidate c x ≡ true → (0 < left_linked c x) × (0 < right_linked c x)

-- A page and the next one behind it are the links from the first's number on.
abbrev pub PagesJoin : Type 0
PagesJoin = (ls : List (ℕ × ℕ)) (from n m : ℕ) (b d a e : List ℕ) → page_reply ls from b ≡ paged n a → page_reply ls (from + n) d ≡ paged m e → take (8 * n) a ++ take (8 * m) e ≡ link_bytes (take (n + m) (drop from ls))

-- A set is included in its widening.
abbrev pub WideningExtends : Type 0
WideningExtends = (c : Relation) (x : ℕ) → includes c.conditions x (widening c x) ≡ true

-- The widening grows with its set.
abbrev pub WideningGrows : Type 0
WideningGrows = (c : Relation) (x y : ℕ) → includes c.conditions x y ≡ true → includes c.conditions (widening c x) (widening c y) ≡ true

-- The links of the widening are the links of the set.
abbrev pub WideningKeepsLinks : Type 0
WideningKeepsLinks = (c : Relation) (x : ℕ) → links c (widening c x) ≡ links c x

-- Widening again changes nothing.
abbrev pub WideningSettles : Type 0
WideningSettles = (c : Relation) (x : ℕ) → widening c (widening c x) ≡ widening c x

-- A set with no link widens to the whole draft.
abbrev pub WideningWithoutLinks : Type 0
WideningWithoutLinks = (c : Relation) (x : ℕ) → links c x ≡ [] → widening c x ≡ whole c.conditions

-- Each candidate is greater than those before it.
abbrev pub CandidatesAscend : Type 0
CandidatesAscend = (c : Relation) (i j : ℕ) → i < j → j < length (candidates c) → slice_index (candidates c) i < slice_index (candidates c) j

-- The meet of two candidates that have a condition in common is a candidate.
abbrev pub MeetsAreCandidates : Type 0
MeetsAreCandidates = (c : Relation) (x y : ℕ) → is_candidate c x ≡ true → is_candidate c y ≡ true → (bit_and x y ≢ 0) → is_candidate c (bit_and x y) ≡ true

-- The candidates of a relation are those of any list of the codes of its present pairs, in any order and number.
abbrev pub CandidatesByCodes : Type 0
CandidatesByCodes = (c : Relation) (codes : List ℕ) → SameMembers (present_codes c) codes → candidates c ≡ of_codes.candidates c.conditions codes

-- Over a sound relation every field of a candidate fits four bytes.
abbrev pub FieldsFit : Type 0
FieldsFit = (c : Relation) → Sound c → (x : ℕ) → x < 2 ^ c.conditions → AllByRecursion (λ f. f < 2 ^ 32) (candidate_fields (candidate_body c x))

-- So its record is 32 bytes.
abbrev pub RecordsAreBytes : Type 0
RecordsAreBytes = (c : Relation) → Sound c → (x : ℕ) → x < 2 ^ c.conditions → (length (candidate_bytes c x) ≡ 32) × AllByRecursion (λ b. b < 256) (candidate_bytes c x)

-- The answers by the relation keep to it, whatever is asked.
abbrev pub RepliesKeep : Type 0
RepliesKeep = (c : Relation) (asks : List Ask) → Kept c asks (replies c 0 asks)

-- What a run owes settles its answers.
abbrev pub KeptSettles : Type 0
KeptSettles = (c : Relation) (asks : List Ask) (rs : List Reply) → Kept c asks rs → rs ≡ replies c 0 asks

-- Two runs of the same calls that keep to one relation have the same answers.
abbrev pub KeptAlike : Type 0
KeptAlike = (c : Relation) (asks : List Ask) (rs ss : List Reply) → Kept c asks rs → Kept c asks ss → rs ≡ ss

-- Once the end was told, the answers stay, however many takes have followed.
abbrev pub EndedStays : Type 0
EndedStays = (c : Relation) (w v : ℕ) (asks : List Ask) → candidate_count c < w → candidate_count c < v → replies c w asks ≡ replies c v asks
