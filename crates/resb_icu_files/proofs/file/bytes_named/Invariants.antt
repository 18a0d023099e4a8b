-- The file is looked for among those that are left.
use Rattle.std.proofs.Common.{◌≡◌, drop}
use Rattle.resb_icu_files.specs.Ways.{bytes_named}
use Rattle.resb_icu_files.proofs.file.bytes_named.Given as goal

abbrev pub invariant-loop-file : goal.invariant-loop-file
invariant-loop-file l =
    bytes_named l.files l.name ≡ bytes_named (drop l.file-index l.files) l.name
