-- A dependency's string and a file's binary are written.
use Rattle.resb_icu_files.proofs.WritingLemmas.{dependency_written, bytes_written}
use Rattle.resb_icu_files.proofs.writing.written.Goals as goal

pub returns-in_ok-string_of-in-Dependency-clause-ok
    : goal.returns-in_ok-string_of-in-Dependency-clause-ok
returns-in_ok-string_of-in-Dependency-clause-ok c =
    dependency_written _ _ _ _ _ c.in-Dependency.is c.in_ok-string_of-in-Dependency.ensures

pub returns-in_ok-binary_of-in-Import-clause-ok : goal.returns-in_ok-binary_of-in-Import-clause-ok
returns-in_ok-binary_of-in-Import-clause-ok c =
    bytes_written _ _ _ _ _ _ c.in-Import.is c.in_ok-bytes_for-in-Import.ensures.ok
    c.in_ok-binary_of-in-Import.ensures
