use Rattle.std.proofs.Common.{◌≡◌, ℕ, ◌+◌, ◌-◌, ◌*◌, ◌≤◌, map, length, take, drop, vec_items, ap, ◌∙◌, arith}
use borrow.Rule.Slice.PartMut.{put_mid}
use Rattle.std.proofs.lemmas.List.{length-take}
use Rattle.contexts.specs.Book.{presence_word}
use Rattle.lattice.specs.Sets.{range}
use Rattle.drafts.specs.Live.{live}
use Rattle.drafts.proofs.Words.{part_length, put_length, frozen_by}
use Rattle.drafts.proofs.draft.Draft.freeze.Goals as goal

pub returns-clause-after : goal.returns-clause-after
returns-clause-after g c =
    let v = c.args.self.now in
    let left-meaning = g.L.Table.meaning v.left in
    let right-meaning = g.R.Table.meaning v.right in
    let words = c.args.words.now in
    let a = c.subjects-lefts.result in
    let b = c.subjects-rights.result in
    let us = c.write_presence.new.words in
    let vs = c.write_presence-2.new.words in
    let ws = c.write_rows.new.words in
    let one = put_mid 0 (a - 0) words us in
    let two = put_mid a (a + b - a) one vs in
    let room : a + b + a * b ≤ length words = omega (arith, c.if-words-size.false) in
    let first : length (take (a - 0) words) ≡ a = omega (arith, length-take (a - 0) words) in
    let long-one : length one ≡ length words = put_length 0 (a - 0) words us (omega arith) (c.write_presence.auto.words ∙ first ∙ omega arith) in
    let second : length (take (a + b - a) (drop a one)) ≡ b = part_length one a b (omega arith) in
    let long-two : length two ≡ length words = put_length a (a + b - a) one vs (omega arith) (c.write_presence-2.auto.words ∙ second ∙ omega arith) ∙ long-one in
    let third : length (take (a + b + a * b - (a + b)) (drop (a + b) two)) ≡ a * b = part_length two (a + b) (a * b) (omega arith) in
    frozen_by (live left-meaning right-meaning (vec_items v.comparisons)) words us vs ws a b (a - 0) (a + b - a) (a + b + a * b - (a + b))
    c.subjects-lefts.ensures
    c.subjects-rights.ensures
    (c.write_presence.ensures ∙ ap (λ (n : ℕ). map (λ s. presence_word (left-meaning.present s)) (range n)) first)
    (c.write_presence-2.ensures ∙ ap (λ (n : ℕ). map (λ t. presence_word (right-meaning.present t)) (range n)) second)
    c.write_rows.ensures
    (c.write_rows.auto.words ∙ third)
    (omega arith)
    (omega arith)
    (omega arith)
