use Rattle.std.proofs.Common.{rules, ◌≡◌, ◌+◌, refl, subst, arith, inr}
use Rattle.std.proofs.lemmas.Result.{IfOk-weaker}
use Rattle.resb_read.specs.Places.{place_of}
use Rattle.resb_read.specs.Leaves.{ReadsKey}
use Rattle.resb_read_rows.proofs.Walking.{first_entered_after, each_error, no_first_field}
use Rattle.resb_read_rows.proofs.both.field.Goals as goal

pub returns-clause-read : goal.returns-clause-read
returns-clause-read g c =
    let h = rw c.in-Some.is at c.in_ok-key.ensures in
    let (
      first,
      none,
    ) = first_entered_after c.args.entries.now c.next_entry_cursor.new.self c.in-Some.key
    c.in-Some.value c.requires h in
    let (k, key, s) = c.in_ok-read_str.ensures in
    let same : c.in_ok-read_str.field-0.now ≡ c.args.name.now = search rules in
    IfOk-weaker c.deserialize.result _ _
    (λ x (a, r, t). (
      (place_of c.in-Some.key, place_of c.in-Some.value),
      k + a,
      first,
      none,
      (k, a, subst (λ m. ReadsKey (place_of c.in-Some.key) m k) same key, r, refl),
      omega (arith, s, t),
    ))
    c.deserialize.ensures.read

pub returns-in_err-read_str-clause-refused : goal.returns-in_err-read_str-clause-refused
returns-in_err-read_str-clause-refused g c =
    let h = rw c.in-Some.is at c.in_ok-key.ensures in
    let (
      first,
      none,
    ) = first_entered_after c.args.entries.now c.next_entry_cursor.new.self c.in-Some.key
    c.in-Some.value c.requires h in
    let (left, lacks, says) = c.in_err-read_str.ensures in
    each_error
    (λ e. (
      left,
      inr (no_first_field c.args.name.now g.T.Deserialize.counts (place_of c.in-Some.key)
          (place_of c.in-Some.value) _ _ _ first lacks),
    ))
    c.from_residual-in_err-read_str.result
