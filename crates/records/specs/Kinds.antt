use Rattle.std.specs.Prelude.{ℕ, ◌+◌, ◌*◌, ◌/◌, ◌%◌, Bool, true, cond, List, [], ◌∷◌, is_some, Some, None, Option, Result, MatchResult, ◌≡◌, ◌==◌, slice_index}
use Rattle.records.specs.declared.kinds.triple.Triple.{Triple}
use Rattle.records.specs.declared.kinds.condition.Condition.{Condition}
use Rattle.records.specs.declared.kinds.condition.Kind.{Kind}
use Rattle.records.specs.declared.kinds.condition.UnknownKind.{UnknownKind}
use Rattle.records.specs.declared.kinds.condition.Kind.TheVariants.{Equal, Share}
use Rattle.records.specs.declared.kinds.link.Link.{Link}
use Rattle.records.specs.declared.kinds.candidate.Candidate.{Candidate}

-- A triple is subject, property, value.
abbrev pub triple_fields : Triple → List ℕ
triple_fields t = t.subject ∷ t.property ∷ t.value ∷ []

abbrev pub triple_of : List ℕ → Triple
triple_of fs = record { subject = slice_index fs 0; property = slice_index fs 1; value = slice_index fs 2 }

-- The kind of condition that a number stands for: 0 is equal, 1 is share, any other is none.
abbrev pub kind_of : ℕ → Option Kind
kind_of n = cond (n == 0) (Some Equal) (cond (n == 1) (Some Share) None)

-- What a number converts to: its kind, or, where it stands for none, an error with the number.
abbrev pub KindOf : ℕ → Result Kind UnknownKind → Type 0
KindOf n r = MatchResult r (λ kind. kind_of n ≡ Some kind) (λ e. (kind_of n ≡ None) × (e.0 ≡ n))

-- The number that stands for a kind.
abbrev pub kind_number : Kind → ℕ
kind_number Equal = 0
kind_number Share = 1

-- A condition is kind, left property, right property.
abbrev pub condition_fields : Condition → List ℕ
condition_fields c = c.kind ∷ c.left ∷ c.right ∷ []

abbrev pub condition_of : List ℕ → Condition
condition_of fs = record { kind = slice_index fs 0; left = slice_index fs 1; right = slice_index fs 2 }

-- A condition record may carry only a known kind.
abbrev pub kind_known : Condition → Bool
kind_known c = is_some (kind_of c.kind)

-- A link is left subject, right subject.
abbrev pub link_fields : Link → List ℕ
link_fields l = l.left ∷ l.right ∷ []

abbrev pub link_of : List ℕ → Link
link_of fs = record { left = slice_index fs 0; right = slice_index fs 1 }

-- A candidate is its code, which takes two fields, the lower first, then links, left linked, right linked, left present, right present and how many conditions it has.
abbrev pub candidate_fields : Candidate → List ℕ
candidate_fields c =
    c.code % 4294967296 ∷ c.code / 4294967296 ∷ c.links ∷ c.left_linked ∷ c.right_linked ∷ c.left_present ∷ c.right_present ∷ c.conditions ∷ []

abbrev pub candidate_of : List ℕ → Candidate
candidate_of fs =
    record { code = slice_index fs 0 + slice_index fs 1 * 4294967296; links = slice_index fs 2; left_linked = slice_index fs 3; right_linked = slice_index fs 4; left_present = slice_index fs 5; right_present = slice_index fs 6; conditions = slice_index fs 7 }

-- A body that every record of its kind may carry.
abbrev pub any_body : {B : Type 0} → B → Bool
any_body b = true
