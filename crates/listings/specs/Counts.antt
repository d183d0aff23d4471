-- What is told of a candidate.
use Rattle.std.specs.Prelude.{ℕ, not, List, length, filter}
use Rattle.contexts.specs.Relation.{Relation}
use Rattle.lattice.specs.Sets.{range, empty, has}
use Rattle.records.specs.Fields.{bytes_of}
use Rattle.records.specs.Kinds.{candidate_fields}
use Rattle.records.specs.declared.kinds.candidate.Candidate.{Candidate}
use Rattle.listings.specs.Links.{is_link, links}

-- How many left subjects have a link of x.
unfoldable pub left_linked : Relation → ℕ → ℕ
left_linked c x = length (filter (λ s. not (empty (filter (λ t. is_link c x (s, t)) (range c.rights)))) (range c.lefts))

-- How many right subjects have a link of x.
unfoldable pub right_linked : Relation → ℕ → ℕ
right_linked c x = length (filter (λ t. not (empty (filter (λ s. is_link c x (s, t)) (range c.lefts)))) (range c.rights))

-- How many left subjects are present.
unfoldable pub lefts_present : Relation → ℕ
lefts_present c = length (filter c.left_present (range c.lefts))

-- How many right subjects are present.
unfoldable pub rights_present : Relation → ℕ
rights_present c = length (filter c.right_present (range c.rights))

-- How many conditions x has.
unfoldable pub condition_count : Relation → ℕ → ℕ
condition_count c x = length (filter (has c.conditions x) (range c.conditions))

-- The candidate whose code is x, with its counts, as a record carries it.
unfoldable pub candidate_body : Relation → ℕ → Candidate
candidate_body c x =
    record {
      code = x;
      links = length (links c x);
      left_linked = left_linked c x;
      right_linked = right_linked c x;
      left_present = lefts_present c;
      right_present = rights_present c;
      conditions = condition_count c x;
    }

-- Its record, as 32 bytes.
unfoldable pub candidate_bytes : Relation → ℕ → List ℕ
candidate_bytes c x = bytes_of (candidate_fields (candidate_body c x))
