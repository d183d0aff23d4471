use Rattle.std.proofs.Common.{◌≡◌, length, take, drop}
use Rattle.records.specs.Writing.{put_at}
use Rattle.listings.specs.Copied.{linking, subjects_of}
use Rattle.listings.specs.Pages.{link_bytes}
use Rattle.listings.proofs.listing.paging.write_links.Given as goal

abbrev pub invariant-loop-i : goal.invariant-loop-i
invariant-loop-i l =
    l.out ≡ put_at 0 (link_bytes (subjects_of (take (length l.yielded) (take l.fn.count (drop l.fn.from (linking l.fn.x l.fn.pairs)))))) l.fn.out
