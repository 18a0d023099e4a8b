-- What holds of the little-endian bytes of a file holds of the file in either order, and a file of
-- which there are none has no file in the other order.
use Rattle.std.proofs.Common.{◌≡◌, ◌≢◌, ◌↔◌, ◌⊎◌, ℕ, List, [], ◌∷◌, length, Bool, true, false}
use Rattle.std.proofs.Common.{not, ◌==◌, ◌||◌, nat_le, nat_lt, cond, codes, slice_range}
use Rattle.std.proofs.Common.{refl, sym, ap, ◌∙◌, arith, inl, inr, get_or, subst, Option}
use Rattle.std.specs.Str.{bytes_eq}
use Rattle.std.proofs.lemmas.Bool.{false≢true, le-leb}
use Rattle.std.proofs.lemmas.Bool.Decides.{nat_tests}
use Rattle.std.proofs.lemmas.List.{get_or_past}
use Rattle.std.proofs.lemmas.Slice.Eq.{bytes_eq-Decides}
use Rattle.resb_tree.specs.Tree.{Tree}
use Rattle.resb_pool_bundle.specs.FileWith.{IsPoolFile, DenotesWith}
use Rattle.resb_pool_bundle.specs.Pool.{Pool, pool_of}
use Rattle.resb_swap.specs.Laws.{LittleEndianDenotes}
use Rattle.resb_head.specs.declared.endianness.Endianness.TheVariants.{Little, Big}
use Rattle.resb_swap.specs.Numbers.{Numbered, numbered, is_big}
use Rattle.resb_swap.specs.Roles.{RolesOf, role_at}
use Rattle.resb_swap.specs.Swapped.{IsSwapped, IsSwappable}
use Rattle.resb_swap.specs.Faults.{IsFault, LiesOutside, HasTwoRoles, HasUnknownType, HasCollation}
use Rattle.resb_swap.specs.Orders.{data_of, has_magic, IsLittleEndian, HasNoLittleEndian}
use Rattle.resb_swap.specs.Orders.{InEitherOrder}
use Rattle.resb_swap.specs.declared.error.SwapError.{SwapError}
use Rattle.resb_swap.specs.declared.error.SwapError.TheVariants as error
use Rattle.resb_swap.specs.declared.order.IcuData.{IcuData}
use Rattle.resb_swap.specs.declared.order.IcuData.TheVariants.{Ebcdic, Bundle, Package, Other}
use Rattle.resb_swap.specs.declared.role.Role.{Role}
use Rattle.resb_swap.specs.declared.role.Role.TheVariants as role
use Rattle.resb_swap.proofs.Heads.{header_from}
use Rattle.resb_swap.proofs.Swaps.{from_source, turns_to, one, swaps_back}

-- what bytes begin as, by the tests
abbrev by_tests : Bool → Bool → Bool → Bool → Bool → IcuData
by_tests short packed other ebcdic big =
    cond short Other (cond packed (Package (cond big Big Little)) (cond other Other
    (cond ebcdic Ebcdic (Bundle (cond big Big Little)))))

abbrev is_other : List ℕ → Bool
is_other bytes = nat_lt (length bytes) 24 || not (has_magic bytes)

abbrev has_format : List ℕ → List ℕ → Bool
has_format bytes format = bytes_eq (slice_range bytes 12 16) format

data_by : (bytes : List ℕ) → data_of bytes
    ≡ by_tests (is_other bytes) (has_format bytes (codes "CmnD"))
    (not (has_format bytes (codes "ResB"))) (get_or bytes 9 0 == 1) (is_big bytes)
unfolding data_of
data_by bytes = refl

ebcdic_by : (a b c d e : Bool) → by_tests a b c d e ≡ Ebcdic → d ≡ true
ebcdic_by a b c true e h = refl
ebcdic_by true b c false e h = absurd (let no : Other ≡ Ebcdic = h in cc)
ebcdic_by false true c false e h =
    absurd (let no : Package (cond e Big Little) ≡ Ebcdic = h in cc)
ebcdic_by false false true false e h = absurd (let no : Other ≡ Ebcdic = h in cc)
ebcdic_by false false false false e h =
    absurd (let no : Bundle (cond e Big Little) ≡ Ebcdic = h in cc)

big_by : (a b c d e : Bool) → by_tests a b c d e ≡ Bundle Big → e ≡ true
big_by a b c d true h = refl
big_by true b c d false h = absurd (let no : Other ≡ Bundle Big = h in cc)
big_by false true c d false h = absurd (let no : Package Little ≡ Bundle Big = h in cc)
big_by false false true d false h = absurd (let no : Other ≡ Bundle Big = h in cc)
big_by false false false true false h = absurd (let no : Ebcdic ≡ Bundle Big = h in cc)
big_by false false false false false h = absurd (let no : Bundle Little ≡ Bundle Big = h in cc)

-- what begins as a bundle in EBCDIC, or as a big-endian one, says so
ebcdic_said : (bytes : List ℕ) → data_of bytes ≡ Ebcdic → (get_or bytes 9 0 == 1) ≡ true
ebcdic_said bytes e =
    ebcdic_by (is_other bytes) (has_format bytes (codes "CmnD"))
    (not (has_format bytes (codes "ResB"))) (get_or bytes 9 0 == 1) (is_big bytes)
    (sym (data_by bytes) ∙ e)

big_said : (bytes : List ℕ) → data_of bytes ≡ Bundle Big → is_big bytes ≡ true
big_said bytes e =
    big_by (is_other bytes) (has_format bytes (codes "CmnD"))
    (not (has_format bytes (codes "ResB"))) (get_or bytes 9 0 == 1) (is_big bytes)
    (sym (data_by bytes) ∙ e)

-- what can be swapped and is big-endian begins as a big-endian bundle
big_data : (bytes : List ℕ) → IsSwappable bytes → is_big bytes ≡ true → data_of bytes ≡ Bundle Big
unfolding data_of
big_data bytes h big =
    let head = header_from bytes h.header in
    let long = head.long in
    let format = head.format in
    let e0 : nat_lt (length bytes) 24 ≡ false = grind (arith, nat_tests) in
    let e1 : bytes_eq (slice_range bytes 2 4) (0xda ∷ 0x27 ∷ []) ≡ true =
    (bytes_eq-Decides _ _).1 head.magic in
    let e2 : nat_le (get_or bytes 8 0) 1 ≡ true = le-leb _ _ head.known_endianness in
    let e3 : bytes_eq (slice_range bytes 12 16) (codes "CmnD") ≡ false =
    ap (λ xs. bytes_eq xs (codes "CmnD")) format in
    let e4 : bytes_eq (slice_range bytes 12 16) (codes "ResB") ≡ true =
    ap (λ xs. bytes_eq xs (codes "ResB")) format in
    let e5 : (get_or bytes 9 0 == 1) ≡ false = ap (λ (x : ℕ). x == 1) h.ascii in
    rw (e0, e1, e2, e3, e4, e5, big) refl

module _ (f : Numbered) (rs : List Role) (h : RolesOf f rs) where
  none_outside : LiesOutside f → ⊥
  none_outside x =
      let p = x.1.1 in
      let past : role_at rs x.1.0 ≡ role.Free =
      get_or_past rs x.1.0 role.Free (let n = h.each in let k = p.2 in omega (arith, n, k)) in
      p.1 (sym (h.bodies x.0 x.1.0 p.0 p.1) ∙ past)

  no_two_roles : HasTwoRoles f → ⊥
  no_two_roles x =
      let p = x.1.1.1 in
      p.4 (sym (from_source f rs x.1.0 x.1.1.0 h p.2 p.3) ∙ h.bodies x.0 x.1.0 p.0 p.1)

  no_unknown_type : HasUnknownType f → ⊥
  no_unknown_type x = false≢true (sym x.1.1 ∙ (h.plain x.0 x.1.0).typed)

  no_collation : HasCollation f → ⊥
  no_collation x = false≢true (sym x.1.3 ∙ (h.plain x.0 x.1.0).whole x.1.1 x.1.2)

-- a file with a fault has no file in the other order
pub no_swap : (from to : List ℕ) (e : SwapError) → IsFault from e → e ≢ error.NoMemory
    → IsSwapped from to → ⊥
no_swap from to (error.Header e) fault some s =
    let none = s.head.header in absurd (cc)
no_swap from to error.Ebcdic fault some s = fault.1 s.head.ascii
no_swap from to error.OtherCharacters fault some s = fault.2 s.head.two_byte_chars
no_swap from to error.FirstVersion fault some s = false≢true (sym s.head.version ∙ fault.1)
no_swap from to error.NoIndex fault some s = false≢true (sym fault.2 ∙ s.head.indexed)
no_swap from to error.Outside fault some s =
    none_outside (numbered from) s.roles s.roles_are fault.1
no_swap from to error.TwoRoles fault some s =
    no_two_roles (numbered from) s.roles s.roles_are fault.1
no_swap from to error.UnknownType fault some s =
    no_unknown_type (numbered from) s.roles s.roles_are fault.1
no_swap from to error.Collation fault some s =
    no_collation (numbered from) s.roles s.roles_are fault.1
no_swap from to error.NoMemory fault some s = some refl

-- little-endian bytes are of a big-endian bundle, which is mirrored, or they are the bytes
-- themselves
pub mirrored_or_same : (d : IcuData) (from to : List ℕ) → IsLittleEndian d from to
    → ((d ≡ Bundle Big) × IsSwapped from to) ⊎ ((d ≢ Bundle Big) × (to ≡ from))
mirrored_or_same Ebcdic from to h = absurd h
mirrored_or_same (Bundle Big) from to h = inl (refl, h)
mirrored_or_same (Bundle Little) from to h = inr ((λ e. cc), h)
mirrored_or_same (Package o) from to h = inr ((λ e. cc), h)
mirrored_or_same Other from to h = inr ((λ e. cc), h)

-- where bytes have none, they are in EBCDIC, or a big-endian bundle with a fault
ebcdic_or_fault : (d : IcuData) (bytes : List ℕ) (e : SwapError) → HasNoLittleEndian d bytes e
    → (d ≡ Ebcdic) ⊎ ((d ≡ Bundle Big) × IsFault bytes e)
ebcdic_or_fault Ebcdic bytes e h = inl refl
ebcdic_or_fault (Bundle Big) bytes e h = inr (refl, h)
ebcdic_or_fault (Bundle Little) bytes e h = absurd h
ebcdic_or_fault (Package o) bytes e h = absurd h
ebcdic_or_fault Other bytes e h = absurd h

-- what a file in the other order is of
pub big_of_little : (from to : List ℕ) → IsSwapped from to → get_or to 8 0 ≡ 0
    → is_big from ≡ true
big_of_little from to s little =
    let e : not (is_big from) ≡ false =
    sym (turns_to from to s).order ∙ ap (λ (x : ℕ). x == 1) little in
    not_not (is_big from) e
  where
    not_not : (b : Bool) → not b ≡ false → b ≡ true
    not_not true e = refl
    not_not false e = absurd (false≢true (sym e))

-- what this holds of is little-endian, and of the ASCII family
pub record OfLittle (P : List ℕ → Type 0) : Type 0 where
  pub little : (bytes : List ℕ) → P bytes → get_or bytes 8 0 ≡ 0
  pub ascii : (bytes : List ℕ) → P bytes → get_or bytes 9 0 ≡ 0

module _ (P : List ℕ → Type 0) (heads : OfLittle P) where
  -- it holds of the little-endian bytes of a file exactly where it holds of the file in either
  -- order
  pub held_in_order : (file little : List ℕ) → IsLittleEndian (data_of file) file little
      → P little ↔ InEitherOrder P file
  held_in_order file little h = (to, back)
    where
      to : P little → InEitherOrder P file
      to p = elim (mirrored_or_same (data_of file) file little h) [
        | inl s ↦ inr (big_of_little file little s.1 (heads.little little p), (little, (s.1, p)))
        | inr k ↦ (let q : P file = subst P k.1 p in
            inl (ap (λ (x : ℕ). x == 1) (heads.little file q), q))
      ]

      back : InEitherOrder P file → P little
      back x = elim (mirrored_or_same (data_of file) file little h) [
        | inl s ↦ elim x [
          | inl y ↦ absurd (false≢true (sym y.0 ∙ big_said file s.0))
          | inr y ↦ subst P (one file y.1.0 little y.1.1.0 s.1) y.1.1.1
        ]
        | inr k ↦ elim x [
          | inl y ↦ subst P (sym k.1) y.1
          | inr y ↦ absurd (k.0 (big_data file y.1.1.0.head y.0))
        ]
      ]

  no_ebcdic : (bytes : List ℕ) → data_of bytes ≡ Ebcdic → get_or bytes 9 0 ≡ 0 → ⊥
  no_ebcdic bytes e ascii =
      let no : (get_or bytes 9 0 == 1) ≡ false = ap (λ (x : ℕ). x == 1) ascii in
      false≢true (sym no ∙ ebcdic_said bytes e)

  -- where a file has none, it holds of the file in neither order
  pub refused_in_order : (file : List ℕ) (e : SwapError)
      → HasNoLittleEndian (data_of file) file e → e ≢ error.NoMemory → InEitherOrder P file → ⊥
  refused_in_order file e h some x = elim (ebcdic_or_fault (data_of file) file e h) [
    | inl is ↦ elim x [
      | inl y ↦ no_ebcdic file is (heads.ascii file y.1)
      | inr y ↦ no_ebcdic file is y.1.1.0.head.ascii
    ]
    | inr k ↦ elim x [
      | inl y ↦ false≢true (sym y.0 ∙ big_said file k.0)
      | inr y ↦ no_swap file y.1.0 e k.1 some y.1.1.0
    ]
  ]

-- what holds of little-endian bytes holds of their file in the other order, in either order
pub held_of_swapped : (P : List ℕ → Type 0) → OfLittle P → (file big : List ℕ) → P file
    → IsSwapped file big → InEitherOrder P big
held_of_swapped P heads file big p s =
    let back = swaps_back file big s in
    inr (big_of_little big file back (heads.little file p), (file, (back, p)))

pub trees_little : (pool : Option Pool) (t : Tree) (n : ℕ)
    → OfLittle (λ bytes. DenotesWith pool bytes t n)
trees_little pool t n = record {
  little = λ bytes d. d.head.head.little_endian;
  ascii = λ bytes d. d.head.head.ascii;
}

pools_little : (p : Pool) → OfLittle (λ bytes. IsPoolFile bytes × (pool_of bytes ≡ p))
pools_little p = record {
  little = λ bytes h. h.0.head.little_endian;
  ascii = λ bytes h. h.0.head.ascii;
}

pub little_endian_denotes : LittleEndianDenotes
little_endian_denotes = record {
  tree = λ pool file little t n h. held_in_order _ (trees_little pool t n) file little h;
  pool = λ file little p h. held_in_order _ (pools_little p) file little h;
  no_tree = λ pool file e t n h some. refused_in_order _ (trees_little pool t n) file e h some;
  no_pool = λ file e p h some. refused_in_order _ (pools_little p) file e h some;
}
