-- Words that are cut out of bytes are whole words.
use Rattle.std.proofs.Common.{◌≡◌, ℕ, ◌+◌, ◌*◌, ◌%◌, ◌/◌, ◌≤◌, List, length, take, drop, Some}
use Rattle.std.proofs.Common.{None, inl, inr, ap, ◌∙◌, arith, length-drop, length-take}
use Rattle.std.proofs.lemmas.Bool.{cases_lt}
use Rattle.std.specs.Prelude.{Option}
use Rattle.resb_format.specs.Bytes.{words_of, part}
use Rattle.resb_format.proofs.Inside.{part_past}
use Rattle.resb_format.proofs.Spelled.{words_length}
use Rattle.resb_walk.proofs.standing.int_vector_at.Goals as goal

none_some : (xs : List ℕ) (o : Option (List ℕ)) → o ≡ None → o ≡ Some xs → ⊥
none_some xs o e f = cc

taken_length : (bs : List ℕ) (i n : ℕ) → i + n ≤ length bs / 4
    → length (take (4 * n) (drop (4 * i) bs)) ≡ 4 * n
taken_length bs i n h = omega (arith, length-take {A = ℕ}, length-drop {A = ℕ})

whole_words : (bs ns : List ℕ) (i n : ℕ) → part (words_of bs) i n ≡ Some (words_of ns)
    → ns ≡ take (4 * n) (drop (4 * i) bs) → length ns % 4 ≡ 0
whole_words bs ns i n e f =
    elim (cases_lt (length (words_of bs)) (i + n)) [
      | inl h ↦ absurd (none_some (words_of ns) _ (part_past (words_of bs) i n h) e)
      | inr h ↦
          let long : length ns ≡ 4 * n =
          ap length f ∙ taken_length bs i n (omega (arith, words_length bs)) in
          omega (arith, long)
    ]

pub returns-clause-form : goal.returns-clause-form
returns-clause-form c =
    whole_words c.args.file.body.now c.in_ok-numbers.numbers.now (c.args.value + 1)
    c.in_ok-count.count c.in_ok-numbers.ensures.value c.in_ok-numbers.ensures.whole
