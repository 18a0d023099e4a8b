-- What a file is at worked examples: two files that are one, and one that isn't.
use Rattle.std.proofs.Common.{◌≡◌, ℕ, ◌≤◌, List, [], ◌∷◌, ◌++◌, Some, refl, arith}
use Rattle.std.specs.Char.Utf16.{utf16_chars}
use Rattle.resb_tree.specs.Tree.{Tree, string, table, no_entries, entry}
use Rattle.resb_format.specs.Bytes.{units_of, words_of}
use Rattle.resb_format.specs.Strings.{string_at, text_at, key_at}
use Rattle.resb_format.specs.Content.{content_at}
use Rattle.resb_format.specs.Lookups.{key_place_by, text_place_by, index_by}
use Rattle.resb_format.specs.Denotes.{den_entries, den_unit, entries_none, entries_more}
use Rattle.resb_format.proofs.Examples.{ascii_key}
use Rattle.resb_head.specs.File.{IsBundleFile, parts_of, Denotes, budget}

-- The files of `b{}` and of `b{k{v}}`, whole.

abbrev written_header : List ℕ
written_header =
    32 ∷ 0 ∷ 0xda ∷ 0x27 ∷ 20 ∷ 0 ∷ 0 ∷ 0 ∷ 0 ∷ 0 ∷ 2 ∷ 0 ∷ 0x52 ∷ 0x65 ∷ 0x73 ∷ 0x42
    ∷ 2 ∷ 0 ∷ 0 ∷ 0 ∷ 1 ∷ 4 ∷ 0 ∷ 0 ∷ 0 ∷ 0 ∷ 0 ∷ 0 ∷ 0 ∷ 0 ∷ 0 ∷ 0 ∷ []

empty_bundle : List ℕ
empty_bundle = written_header ++ (
    0 ∷ 0 ∷ 0 ∷ 0x20 ∷ 7 ∷ 0 ∷ 0 ∷ 0 ∷ 8 ∷ 0 ∷ 0 ∷ 0 ∷ 9 ∷ 0 ∷ 0 ∷ 0 ∷
    9 ∷ 0 ∷ 0 ∷ 0 ∷ 0 ∷ 0 ∷ 0 ∷ 0 ∷ 0 ∷ 0 ∷ 0 ∷ 0 ∷ 9 ∷ 0 ∷ 0 ∷ 0
    ∷ 0 ∷ 0 ∷ 0xaa ∷ 0xaa ∷ [])

flat_bundle : List ℕ
flat_bundle = written_header ++ (
    3 ∷ 0 ∷ 0 ∷ 0x50 ∷ 7 ∷ 0 ∷ 0 ∷ 0 ∷ 9 ∷ 0 ∷ 0 ∷ 0 ∷ 12 ∷ 0 ∷ 0 ∷ 0 ∷
    12 ∷ 0 ∷ 0 ∷ 0 ∷ 1 ∷ 0 ∷ 0 ∷ 0 ∷ 0 ∷ 0 ∷ 0 ∷ 0 ∷ 12 ∷ 0 ∷ 0 ∷ 0
    ∷ 107 ∷ 0 ∷ 0xaa ∷ 0xaa ∷ 0 ∷ 0 ∷ 118 ∷ 0 ∷ 0 ∷ 0 ∷ 1 ∷ 0 ∷ 32 ∷ 0 ∷ 1 ∷ 0 ∷ [])

empty_head : IsBundleFile empty_bundle
unfolding empty_bundle units_of words_of
empty_head = record {
  magic = refl;
  little_endian = refl;
  ascii = refl;
  two_byte_chars = refl;
  format = refl;
  version = refl;
  header = omega arith;
  header_inside = omega arith;
  fields = omega arith;
  index_inside = omega arith;
  keys_inside = omega arith;
  blocks_ordered = omega arith;
  block_inside = omega arith;
}

empty_denotes : Denotes empty_bundle (table no_entries) 1
unfolding empty_bundle units_of words_of parts_of content_at
empty_denotes = record { head = empty_head; root = den_entries refl entries_none }

flat_head : IsBundleFile flat_bundle
unfolding flat_bundle units_of words_of
flat_head = record {
  magic = refl;
  little_endian = refl;
  ascii = refl;
  two_byte_chars = refl;
  format = refl;
  version = refl;
  header = omega arith;
  header_inside = omega arith;
  fields = omega arith;
  index_inside = omega arith;
  keys_inside = omega arith;
  blocks_ordered = omega arith;
  block_inside = omega arith;
}

flat_tree : Tree
flat_tree = table (entry (107 ∷ []) (string (118 ∷ [])) no_entries)

flat_denotes : Denotes flat_bundle flat_tree 2
unfolding flat_bundle flat_tree units_of words_of parts_of content_at string_at text_at key_at
    key_place_by text_place_by index_by utf16_chars lib.Utf8.encode
flat_denotes =
    let key : key_at (parts_of flat_bundle).keys 32 ≡ Some (107 ∷ []) =
    rw (ascii_key 107 (omega arith)) refl in
    record {
      head = flat_head;
      root = den_entries refl (entries_more key (den_unit refl) entries_none);
    }

flat_budget : 2 ≤ budget flat_bundle
unfolding flat_bundle
flat_budget = omega arith

-- a file whose header names the other byte order
foreign_order : IsBundleFile (0 ∷ 32 ∷ 0xda ∷ 0x27 ∷ 0 ∷ 20 ∷ 0 ∷ 0 ∷ 1 ∷ []) → ⊥
foreign_order h = let e : 1 ≡ 0 = h.little_endian in absurd (omega (arith, e))
