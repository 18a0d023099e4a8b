-- The name of the bundle that a text is, which stands in no file.
--     IsNameOf text name      the text is a bundle of this name
--     HasNoName text e        the text isn't read
use Rattle.std.specs.Prelude.{◌≡◌, ℕ, List}
use Rattle.resb_compile.specs.Compiling.{IsBundle, IsUnreadable}
use Rattle.resb_compile.specs.declared.compiling.TextForm.TheVariants.{Plain}
use Rattle.resb_compile.specs.declared.error.CompileError.TheVariants.{Reading, ReadingIcu}
use Rattle.resb_compile.specs.declared.error.CompileError.TheVariants.{Writing, Larger}
use Rattle.resb_program.specs.declared.errors.SourceError.{SourceError}
use Rattle.resb_program.specs.declared.errors.SourceError.TheVariants.{NotUtf8, Refused}

-- the text is a bundle, and the bundle has this name
abbrev pub IsNameOf : List ℕ → List ℕ → Type 0
IsNameOf text name = (b : IsBundle Plain text) × (b.name ≡ name)

-- the reader refuses the text, and no other reason is given
abbrev pub HasNoName : List ℕ → SourceError → Type 0
HasNoName text (Refused (Reading e)) = IsUnreadable text e
HasNoName text (Refused (ReadingIcu e)) = ⊥
HasNoName text (Refused (Writing e)) = ⊥
HasNoName text (Refused (Larger limit)) = ⊥
HasNoName text (NotUtf8 place) = ⊥
