-- The calls on a listing and their answers, as data over the bytes of their buffers.
use Rattle.std.specs.Prelude.{ℕ, ◌+◌, Bool, cond, List, [], ◌∷◌}
use Rattle.records.specs.Refusals.{Refusal}
use Rattle.records.specs.Writing.{has_space}

-- A call: take a candidate into a buffer at an offset, page the links from one on into a buffer, tally, total.
pub data Ask : Type 0 where
  take_at : ℕ → List ℕ → Ask
  page_from : ℕ → List ℕ → Ask
  tally_now : Ask
  total_now : Ask

-- An answer, with the buffer as the call left it: a candidate was handed out; all were handed out before; so many links were paged; the call was turned down; the tally (how many were handed out, the last code, whether the end was told); the total.
pub data Reply : Type 0 where
  handed : List ℕ → Reply
  ended : List ℕ → Reply
  paged : ℕ → List ℕ → Reply
  refused : Refusal → List ℕ → Reply
  tallied : ℕ → ℕ → Bool → Reply
  totalled : ℕ → Reply

-- The buffer of a call; tally and total have none.
abbrev pub buffer_of : Ask → List ℕ
buffer_of (take_at at b) = b
buffer_of (page_from from b) = b
buffer_of tally_now = []
buffer_of total_now = []

-- 1 for a take with space for a record, else 0.
abbrev pub with_space : Ask → ℕ
with_space (take_at at b) = cond (has_space 32 at b) 1 0
with_space (page_from from b) = 0
with_space tally_now = 0
with_space total_now = 0

-- How many of the calls are takes with space.
abbrev pub takes_with_space : List Ask → ℕ
takes_with_space [] = 0
takes_with_space (a ∷ more) = with_space a + takes_with_space more
