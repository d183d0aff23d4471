-- Pages: some of the links of a candidate, from one on.
use Rattle.std.specs.Prelude.{ℕ, ◌-◌, ◌/◌, min, cond, not, ◌&&◌, List, length, take, drop, ◌==◌, nat_lt}
use Rattle.std.specs.List.{flat_map}
use Rattle.records.specs.Fields.{bytes_of}
use Rattle.records.specs.Kinds.{link_fields}
use Rattle.records.specs.Writing.{put_at}
use Rattle.listings.specs.Calls.{Reply, paged, refused}

-- The records of links, 8 bytes each, one behind another.
unfoldable pub link_bytes : List (ℕ × ℕ) → List ℕ
link_bytes ls = flat_map (λ p. bytes_of (link_fields (record { left = p.0; right = p.1 }))) ls

-- How many of the links from one on go into a buffer.
abbrev pub page_count : List (ℕ × ℕ) → ℕ → List ℕ → ℕ
page_count ls from b = min (length ls - from) (length b / 8)

-- A page of links from one on: 26 where there are fewer, 27 where one is left and the buffer has no space for it, else as many as there are and go in, at the front of the buffer.
unfoldable pub page_reply : List (ℕ × ℕ) → ℕ → List ℕ → Reply
page_reply ls from b =
    cond (nat_lt (length ls) from) (refused (26, 0) b)
    (cond (not (from == length ls) && nat_lt (length b) 8) (refused (27, 0) b)
    (paged (page_count ls from b) (put_at 0 (link_bytes (take (page_count ls from b) (drop from ls))) b)))
