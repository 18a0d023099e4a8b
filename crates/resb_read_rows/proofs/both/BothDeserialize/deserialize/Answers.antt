use Rattle.std.proofs.Common.{rules, ◌≡◌, ◌+◌, ◌≤◌, ◌∷◌, [], Some, length, refl, ap, ◌∙◌}
use Rattle.std.proofs.Common.{arith}
use Rattle.std.proofs.lemmas.Result.{err_from_is_err_and}
use Rattle.std.specs.Int.{w16}
use Rattle.std.proofs.lemmas.Int.{to_z-of_z}
use Rattle.resb_read.specs.Places.{place_of}
use Rattle.resb_read.specs.Sequences.{entries_at}
use Rattle.resb_read_rows.specs.FieldLaws.{i16_counted, i16_one}
use Rattle.resb_read_rows.proofs.Walking.{refused_i, refused_v, no_entry_left}
use Rattle.resb_read_rows.proofs.both.BothDeserialize.deserialize.Goals as goal

pub returns-in_err-i-clause-refused : goal.returns-in_err-i-clause-refused
returns-in_err-i-clause-refused c =
    let e = err_from_is_err_and c.from_residual-in_err-i.result c.from_residual-in_err-i.ensures.1
    in
    let (are, none, paid) = c.in_ok-entries.ensures.read in
    let (falls, lacks) = c.in_err-i.ensures.refused in
    rw (e.1, e.2) (
      omega (arith, falls, paid),
      refused_i _ _ (place_of c.args.at) c.args.walk.now c.read_map.new.walk paid
          c.in_err-i.field-0.0 c.in_ok-entries.entries.rest are lacks,
    )

pub returns-in_err-v-clause-refused : goal.returns-in_err-v-clause-refused
returns-in_err-v-clause-refused c =
    let e = err_from_is_err_and c.from_residual-in_err-v.result c.from_residual-in_err-v.ensures.1
    in
    let (are, none, paid) = c.in_ok-entries.ensures.read in
    let (f, a, first, still, (k, b, key, x, s), paid2) = c.in_ok-i.ensures.read in
    let (falls, lacks) = c.in_err-v.ensures.refused in
    let all : entries_at (place_of c.args.at) ≡ Some (f ∷ c.field.new.entries.rest) = are
    ∙ ap Some first in
    rw (e.1, e.2) (
      omega (arith, falls, paid, paid2),
      refused_v _ _ (place_of c.args.at) c.args.walk.now c.read_map.new.walk paid
          c.in_err-v.field-0.0 i16_one f c.field.new.entries.rest a c.field.new.walk all (
            k,
            b,
            key,
            i16_counted f.1 _ b x,
            s,
          ) paid2 lacks,
    )

pub returns-clause-read : goal.returns-clause-read
returns-clause-read c =
    let (are, none, paid) = c.in_ok-entries.ensures.read in
    let (f, a, first, still, x, paid2) = c.in_ok-i.ensures.read in
    let (h, b, second, after, y, paid3) = c.in_ok-v.ensures.read in
    let back = to_z-of_z w16 c.in_ok-i.i (search rules) in
    let none_more : length c.field-2.new.entries.rest ≤ 0 = search rules in
    let last = no_entry_left c.field-2.new.entries.rest none_more in
    let all : entries_at (place_of c.args.at) ≡ Some (f ∷ h ∷ []) = are
    ∙ ap Some (first ∙ ap (λ r. f ∷ r) (second ∙ ap (λ r. h ∷ r) last)) in (
      1 + (a + b),
      record {
        at_i = f;
        at_v = h;
        of_i = a;
        of_v = b;
        are = all;
        read_i = rw back x;
        read_v = y;
        count = refl;
      },
      omega (arith, paid, paid2, paid3),
    )
