-- Types of groups in ICU's form, as a text names them: those of the plain form, and aliases. The
-- types themselves are those of the code.
use Rattle.std.specs.Prelude.{◌≡◌, ℕ, ◌⊎◌, List, codes}
pub use Rattle.resb_icu_grammar.specs.declared.group_kind.IcuKind.{IcuKind as Kind}
pub use Rattle.resb_icu_grammar.specs.declared.group_kind.IcuKind.TheVariants.{
  String as string_kind,
  Alias as alias_kind,
  Array as array_kind,
  Table as table_kind,
  Binary as binary_kind,
  Integer as integer_kind,
  IntVector as vector_kind,
}

-- this is a name of the type
abbrev pub Names : List ℕ → Kind → Type 0
Names w string_kind = w ≡ codes "string"
Names w alias_kind = w ≡ codes "alias"
Names w array_kind = w ≡ codes "array"
Names w table_kind = w ≡ codes "table"
Names w binary_kind = (w ≡ codes "binary") ⊎ (w ≡ codes "bin")
Names w integer_kind = (w ≡ codes "integer") ⊎ (w ≡ codes "int")
Names w vector_kind = w ≡ codes "intvector"
