use Rattle.std.proofs.Common.{◌≡◌, ◌+◌, ◌≤◌, ◌++◌, map, vec_items, vec_len, vec_capacity}
use Rattle.std.specs.Vec.Iter.{into_iter_items, into_iter_len}
use Rattle.listings.specs.Replies.{replies}
use Rattle.listings.specs.View.{relation_of, level, ask_of, reply_of}
use Rattle.listings.proofs.listing.Listing.answer_all.Given as goal

abbrev pub invariant-loop-call : goal.invariant-loop-call
invariant-loop-call g l =
    (l.self.context ≡ l.initial.self.context)
    × (relation_of l.self ≡ relation_of l.initial.self)
    × (vec_len l.answers + into_iter_len l.call-iterator ≤ vec_capacity l.answers)
    × (map reply_of (vec_items l.answers) ++ replies (relation_of l.initial.self) (level l.self) (map ask_of (into_iter_items l.call-iterator))
    ≡ replies (relation_of l.initial.self) (level l.initial.self) (map ask_of (into_iter_items l.initial.call-iterator)))
