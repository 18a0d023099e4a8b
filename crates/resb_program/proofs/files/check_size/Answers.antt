use Rattle.std.proofs.Common.{rules, ◌≤◌}
use Rattle.std.proofs.lemmas.Option.{IfSome_then}
use Rattle.std.specs.Prelude.{IfSome}
use Rattle.resb_walk.specs.TreeBytes.{tree_bytes}
use Rattle.resb_read.specs.Files.{whole_in}
use Rattle.resb_read.specs.Measuring.{key_bytes}
use Rattle.resb_program.proofs.Sizes.{is_over}
use Rattle.resb_program.proofs.files.check_size.Goals as goal
use Rattle.resb_program.proofs.files.check_size.Goals.{in_default-via-in-None-1}
use Rattle.resb_program.proofs.files.check_size.Goals.{in_default-via-in-Some+else-not-is_within}

pub returns-clause-err : goal.returns-clause-err
returns-clause-err c = (
  c.in-Some.is,
  is_over tree_bytes (whole_in c.args.file.now) c.in-Some.limit
      c.in-Ok.measured c.tree_bytes-bytes.result c.is_within.result c.in-Ok.ensures
      c.is_within.ensures c.tree_bytes-bytes.ensures c.if-not-is_within.true,
)

pub returns-then-not-keys_are_within-clause-err : goal.returns-then-not-keys_are_within-clause-err
returns-then-not-keys_are_within-clause-err c = (
  c.unwrap_or-key_limit.ensures,
  (
      let (t, xs, d, paid, holds, is) = c.in-Ok.ensures in
      let within : IfSome c.args.limit (λ most. tree_bytes xs ≤ most) =
      elim c.in_default.branch [
        | in_default-via-in-None-1 w ↦ search rules
        | in_default-via-in-Some+else-not-is_within w ↦ rw w.in-Some.is
            ((w.is_within.ensures xs is).0 w.if-not-is_within.false)
      ] in
      IfSome_then c.args.limit within (λ most less. (xs, holds, less))
      ),
  is_over key_bytes (whole_in c.args.file.now)
      c.unwrap_or-key_limit.result c.in-Ok.measured c.in-Ok.measured.sums.key_bytes
      c.keys_are_within.result c.in-Ok.ensures c.keys_are_within.ensures
      (λ xs is. is.sums.key_bytes) c.if-not-keys_are_within.true,
)
