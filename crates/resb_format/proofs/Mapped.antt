-- The tables of a tree that a file denotes are maps, and what has no members by its type is a leaf.
use Rattle.std.proofs.Common.{ℕ, List, [], Bool, true, false, Option, Some, None, subst, ◌==◌}
use Rattle.std.specs.Prelude.{◌/◌, ◌%◌, ◌^◌, ◌+◌, ◌*◌, option_map, option_and_then, ◌≡◌}
use Rattle.std.specs.Prelude.{slice_get, if◌then◌else◌, map}
use Rattle.resb_tree.specs.Tree.{Tree, string, alias, binary, int_vector}
use Rattle.resb_tree.specs.Tree.{trees_of}
use Rattle.resb_tree.specs.Maps.{AreMaps, AreMapsIn}
use Rattle.resb_tree.specs.Inner.Dropping.{IsNoCollection}
use Rattle.resb_tree.proofs.MapsLemmas.{AllAreMaps, AreMaps-map_of}
use Rattle.resb_format.specs.Bytes.{units_of, words_of, part}
use Rattle.resb_format.specs.Lookups.{text_in, wide_position}
use Rattle.resb_format.specs.Parts.{Parts, reads_older}
use Rattle.resb_format.specs.Types as types
use Rattle.resb_format.specs.Descriptor.{type_number}
use Rattle.resb_format.specs.declared.repr_type.ResourceReprType.TheVariants as kind
use Rattle.resb_format.specs.Content.{Member, Content, leaf, list, entry_list, content_at}
use Rattle.resb_format.specs.Content.{behind_count, paired}
use Rattle.resb_format.specs.Content.{words_at, offsets_at, placed, empty, counted_text, older_leaf}
use Rattle.resb_format.specs.Denotes.{Den, den_leaf, den_list, den_entries, DenMember, den_word}
use Rattle.resb_format.specs.Denotes.{den_unit, DenEach, each_none, each_more, DenEntries}
use Rattle.resb_format.specs.Denotes.{entries_none}
use Rattle.resb_format.specs.Denotes.{entries_more}

-- what is finished is a tree of maps, and a leaf
abbrev IsPlain : Option Content → Type 0
IsPlain (Some (leaf t)) = AreMaps t × IsNoCollection t
IsPlain (Some (list ms)) = Unit {0}
IsPlain (Some (entry_list es)) = Unit {0}
IsPlain None = Unit {0}

plain_if : (b : Bool) (x y : Option Content) → IsPlain x → IsPlain y
    → IsPlain (if b then x else y)
plain_if true x y h k = h
plain_if false x y h k = k

plain_map : {A : Type 0} (f : A → Content) (o : Option A) → ((a : A) → IsPlain (Some (f a)))
    → IsPlain (option_map f o)
plain_map f (Some a) h = h a
plain_map f None h = tt

plain_counted : (ns : List ℕ) (i : ℕ) (behind : ℕ → Option Content)
    → ((n : ℕ) → IsPlain (behind n)) → IsPlain (behind_count ns i behind)
plain_counted ns i behind h = at (slice_get ns i)
  where
    at : (o : Option ℕ) → IsPlain (option_and_then behind o)
    at (Some n) = h n
    at None = tt

plain_paired : (ks : Option (List ℕ)) (ms : Option (List Member)) → IsPlain (paired ks ms)
plain_paired (Some ks) (Some ms) = tt
plain_paired (Some ks) None = tt
plain_paired None ms = tt

plain_older : (type : ℕ) (text : Option (List ℕ)) → IsPlain (older_leaf type text)
plain_older type text =
    plain_if (type == type_number kind._String) _ _
    (plain_map (λ x. leaf (string x)) text (λ s. (tt, tt)))
    (plain_if (type == type_number kind._Alias) _ _
    (plain_map (λ x. leaf (alias x)) text (λ s. (tt, tt))) tt)

plain_empty : (p : Parts) (type : ℕ) → IsPlain (empty p type)
plain_empty p type =
    plain_if (type == type_number kind.Binary) _ _ (tt, tt)
    (plain_if (types.is_table type) _ _ tt
    (plain_if (type == type_number kind.StringV2) _ _ (tt, tt)
    (plain_if (types.is_array type) _ _ tt
    (plain_if (type == type_number kind.IntVector) _ _ (tt, tt)
    (plain_if (reads_older p) _ _ (plain_older type (Some [])) tt)))))

plain_placed : (p : Parts) (type v : ℕ) → IsPlain (placed p type v)
plain_placed p type v =
    plain_if (type == type_number kind.Binary) _ _ (plain_counted (words_of p.body) v _
    (λ n. plain_map (λ x. leaf (binary x)) (part p.body (4 * v + 4) n) (λ bytes. (tt, tt))))
    (plain_if (type == type_number kind.Table) _ _ (plain_counted (units_of p.body) (2 * v) _
    (λ n. plain_paired (part (units_of p.body) (2 * v + 1) n) (words_at p (v + n / 2 + 1) n)))
    (plain_if (type == type_number kind._Table32) _ _ (plain_counted (words_of p.body) v _
    (λ n. plain_paired (option_map (map wide_position) (part (words_of p.body) (v + 1) n))
    (words_at p (v + 1 + n) n)))
    (plain_if (type == type_number kind.Table16) _ _ (plain_counted p.block v _
    (λ n. plain_paired (part p.block (v + 1) n) (offsets_at p (v + 1 + n) n)))
    (plain_if (type == type_number kind.StringV2) _ _
    (plain_map (λ x. leaf (string x)) (text_in p v) (λ s. (tt, tt)))
    (plain_if (type == type_number kind.Array) _ _ (plain_counted (words_of p.body) v _
    (λ n. plain_map list (words_at p (v + 1) n) (λ ms. tt)))
    (plain_if (type == type_number kind.Array16) _ _ (plain_counted p.block v _
    (λ n. plain_map list (offsets_at p (v + 1) n) (λ ms. tt)))
    (plain_if (type == type_number kind.IntVector) _ _ (plain_counted (words_of p.body) v _
    (λ n. plain_map (λ x. leaf (int_vector x)) (part (words_of p.body) (v + 1) n) (λ ns. (tt, tt))))
    (plain_if (reads_older p) _ _ (plain_older type (counted_text p v)) tt))))))))

plain_content : (p : Parts) (w : ℕ) → IsPlain (content_at p w)
unfolding content_at
plain_content p w =
    plain_if (w / 2 ^ 28 == type_number kind.Int) _ _ (tt, tt)
    (plain_if (w % 2 ^ 28 == 0) _ _ (plain_empty p (w / 2 ^ 28))
    (plain_placed p (w / 2 ^ 28) (w % 2 ^ 28)))

leaf_maps : {o : Option Content} {t : Tree} → o ≡ Some (leaf t)
    → IsPlain o → AreMaps t × IsNoCollection t
leaf_maps e h = subst IsPlain e h

-- what stands at a word without members is a leaf
pub content_leaf : (p : Parts) (w : ℕ) (t : Tree) → content_at p w ≡ Some (leaf t)
    → IsNoCollection t
content_leaf p w t e = (leaf_maps e (plain_content p w)).1

module _ (p : Parts) where
  mutual
    pub denoted_maps : {w n : ℕ} {t : Tree} → Den p w t n → AreMaps t
    denoted_maps (den_leaf {w = w'} e) = (leaf_maps e (plain_content p w')).0
    denoted_maps (den_list e d) = each_maps d
    denoted_maps (den_entries {ts = ts'} e d) = AreMaps-map_of ts' (entries_maps d)

    member_maps : {m : Member} {n : ℕ} {t : Tree} → DenMember p m t n → AreMaps t
    member_maps (den_word d) = denoted_maps d
    member_maps (den_unit e) = tt

    each_maps : {ms : List Member} {n : ℕ} {ts : List Tree} → DenEach p ms ts n
        → AreMapsIn (trees_of ts)
    each_maps each_none = tt
    each_maps (each_more d ds) = (member_maps d, each_maps ds)

    entries_maps : {es : List (ℕ × Member)} {n : ℕ} {ts : List (List ℕ × Tree)}
        → DenEntries p es ts n → AllAreMaps ts
    entries_maps entries_none = tt
    entries_maps (entries_more k d ds) = (member_maps d, entries_maps ds)
