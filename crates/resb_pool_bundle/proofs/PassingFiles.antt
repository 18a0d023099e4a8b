-- No check fails exactly of pool bundles, and of files that can be read beside a pool.
use Rattle.std.proofs.Common.{ℕ, List, [], ◌∷◌, ◌++◌, ◌≡◌, ◌≢◌, ◌+◌, ◌-◌, ◌*◌, ◌≤◌, ◌<◌, ◌⊎◌}
use Rattle.std.proofs.Common.{length, drop, min, Bool, true, false, not, ◌&&◌, ◌||◌, ◌==◌, nat_le}
use Rattle.std.proofs.Common.{suc, nat_lt, nat_eq, Option, Some, None, refl, sym, ap, subst, ◌∙◌, arith}
use Rattle.std.proofs.Common.{get_or, codes, slice_range, length-drop, inl, inr}
use Rattle.std.specs.List.{list_any}
use Rattle.std.specs.Prelude.{is_some, unwrap_or}
use Rattle.std.specs.Str.{bytes_eq}
use Rattle.std.proofs.lemmas.Bool.{leb-true, le-leb, eqb-true, eq-eqb, and_parts}
use Rattle.std.proofs.lemmas.List.{get_or-drop}
use Rattle.std.proofs.lemmas.Slice.Eq.{bytes_eq-Decides}
use Rattle.resb_format.specs.Bytes.{header_size, unit_in}
use Rattle.resb_format.specs.Error.{Refusal, invalid, end_of_input, first_refusal}
use Rattle.resb_head.specs.Codes.{version_bytes}
use Rattle.resb_head.specs.File.{body_of, keys_end}
use Rattle.resb_head.specs.HeadChecks.{header_checks, header_refusal, is_version}
use Rattle.resb_head.specs.Laws.{IsHeader}
use Rattle.resb_head.specs.declared.version.FormatVersion.{FormatVersion}
use Rattle.resb_head.specs.declared.version.FormatVersion.TheVariants.{V1_0, V1_1, V1_2, V1_3}
use Rattle.resb_head.specs.declared.version.FormatVersion.TheVariants.{V2_0, V3_0}
use Rattle.resb_head.proofs.FileSteps.{first_refusal-both, header_size_is}
use Rattle.resb_head.proofs.Lists.{range_behind_four, bytes_eq_holds}
use Rattle.resb_head.proofs.Passing.{all_pass, header_passes}
use Rattle.resb_pool_bundle.specs.Checks.{version_checks, size_checks, lending_checks, head_checks}
use Rattle.resb_pool_bundle.specs.Checks.{head_refusal, pool_checks, pool_refusal}
use Rattle.resb_pool_bundle.specs.Checks.{pool_given_checks, refusal_with}
use Rattle.resb_pool_bundle.specs.Fields.{major, index_length, is_pool, uses_pool, checksum_in}
use Rattle.resb_pool_bundle.specs.Fields.{block_end_in, limit_in, short_limit_in}
use Rattle.resb_pool_bundle.specs.FileWith.{IsReadVersion, IsFileHead, IsPoolFile, IsFileWith}
use Rattle.resb_pool_bundle.specs.Inner.Sized.{field_checks, end_checks}
use Rattle.resb_pool_bundle.specs.Laws.{FilesPass}
use Rattle.resb_pool_bundle.specs.Pool.{Pool}
use Rattle.resb_pool_bundle.proofs.PoolSteps.{has_checksum_due, has_pool_of_strings, lending_holds}
use Rattle.resb_pool_bundle.proofs.PoolSteps.{pool_holds, behind_all, unused_holds, right_given}
use Rattle.resb_pool_bundle.proofs.SizeSteps.{sizes_in_two, fields_hold, ends_hold}
use Rattle.resb_pool_bundle.proofs.Steps.{later_refusal}
use Rattle.resb_pool_bundle.proofs.VersionSteps.{test_is, version_test, first_fails, version_holds}

-- one of two tests holds
either_holds : (a b : Bool) → (a || b) ≡ true → (a ≡ true) ⊎ (b ≡ true)
either_holds true b e = inl refl
either_holds false b e = inr e

-- one of some versions is spelled
some_version : (vs : List FormatVersion) (bs : List ℕ)
    → list_any (λ v. bytes_eq (version_bytes v) bs) vs ≡ true
    → (v : FormatVersion) × (version_bytes v ≡ bs)
some_version [] bs e = absurd (cc)
some_version (v ∷ vs) bs e =
    elim (either_holds (bytes_eq (version_bytes v) bs)
    (list_any (λ w. bytes_eq (version_bytes w) bs) vs) e) [
      | inl h ↦ (v, (bytes_eq-Decides (version_bytes v) bs).0 h)
      | inr h ↦ some_version vs bs h
    ]

spelled_version : (v : FormatVersion) → is_version (version_bytes v) ≡ true
spelled_version V1_0 = refl
spelled_version V1_1 = refl
spelled_version V1_2 = refl
spelled_version V1_3 = refl
spelled_version V2_0 = refl
spelled_version V3_0 = refl

not_first : (v : FormatVersion) → version_test v ≡ true → v ≢ V1_0
not_first v e = λ same. apart (sym e ∙ ap version_test same ∙ first_fails)
  where
    apart : true ≡ false → ⊥
    apart h = cc

-- what the checks of lending say
checksum_is_told : (a b c : Bool) → (not (a || b) || c) ≡ true → (a ≡ true) ⊎ (b ≡ true)
    → c ≡ true
checksum_is_told true b c e h = e
checksum_is_told false true c e h = e
checksum_is_told false false c e (inl h) = absurd (cc)
checksum_is_told false false c e (inr h) = absurd (cc)

checksum_due : (a b c : Bool) → ((a ≡ true) ⊎ (b ≡ true) → c ≡ true)
    → (not (a || b) || c) ≡ true
checksum_due true b c f = f (inl refl)
checksum_due false true c f = f (inr refl)
checksum_due false false c f = refl

strings_are_own : (u : Bool) (m n : ℕ) → (u || (m == 0 && n == 0)) ≡ true → u ≡ false
    → (m ≡ 0) × (n ≡ 0)
strings_are_own true m n e h = absurd (cc)
strings_are_own false m n e h =
    let both = and_parts (m == 0) (n == 0) e in (eqb-true m 0 both.0, eqb-true n 0 both.1)

own_strings_hold : (u : Bool) (m n : ℕ) → (u ≡ false → (m ≡ 0) × (n ≡ 0))
    → (u || (m == 0 && n == 0)) ≡ true
own_strings_hold true m n f = refl
own_strings_hold false m n f = let z = f refl in rw (z.0, z.1) refl

before_two : (a b : ℕ) → (nat_lt a 2 || nat_le 7 b) ≡ true → (a < 2) ⊎ (7 ≤ b)
before_two a b e =
    elim (either_holds (nat_lt a 2) (nat_le 7 b) e) [
      | inl h ↦ inl (leb-true (suc a) 2 h)
      | inr h ↦ inr (leb-true 7 b h)
    ]

-- the head of a file of which no check fails
pub head_is : (bs : List ℕ) → head_refusal bs ≡ None → IsFileHead bs
unfolding head_refusal head_checks version_checks size_checks lending_checks header_refusal
head_is bs e =
    let parts = first_refusal-both (header_checks false bs)
    (version_checks (drop 4 bs) ++ (size_checks bs ++ lending_checks bs)) e in
    let later = first_refusal-both (version_checks (drop 4 bs))
    (size_checks bs ++ lending_checks bs) parts.1 in
    let last = first_refusal-both (size_checks bs) (lending_checks bs) later.1 in
    let h : IsHeader false bs = (header_passes false bs).0 parts.0 in
    let p = all_pass (version_checks (drop 4 bs)) later.0 in
    let s = all_pass (size_checks bs) last.0 in
    let l = all_pass (lending_checks bs) last.1 in
    let f5 : get_or (drop 4 bs) 5 0 ≡ get_or bs 9 0 = get_or-drop 4 bs 5 0 in
    let f6 : get_or (drop 4 bs) 6 0 ≡ get_or bs 10 0 = get_or-drop 4 bs 6 0 in
    let body : length (body_of bs) ≡ length bs - header_size bs =
    length-drop (header_size bs) bs in
    let size : 24 ≤ header_size bs = subst (λ n. 24 ≤ n) (header_size_is bs parts.0) h.size in
    let few : 5 ≤ index_length bs = leb-true 5 (index_length bs) s.1.0 in
    let inside : 4 * (1 + min (index_length bs) 8) ≤ length (body_of bs) =
    leb-true (4 * (1 + min (index_length bs) 8)) (length (body_of bs)) s.1.1.0 in
    let v = some_version (V1_0 ∷ V1_1 ∷ V1_2 ∷ V1_3 ∷ V2_0 ∷ V3_0 ∷ []) (slice_range bs 16 20)
    h.version in
    let ends = and_parts (nat_le (keys_end bs) (block_end_in bs))
    (nat_le (4 * block_end_in bs) (length (body_of bs))) s.1.1.1.1.1.0 in
    record {
      magic = h.magic;
      little_endian = h.own_endianness refl;
      ascii = sym f5 ∙ eqb-true (get_or (drop 4 bs) 5 0) 0 p.0;
      two_byte_chars = sym f6 ∙ eqb-true (get_or (drop 4 bs) 6 0) 2 p.1.0;
      format = h.format;
      version = (
        v.0,
        v.1,
        not_first v.0
            (sym (test_is v.0 (drop 4 bs) (v.1 ∙ sym (range_behind_four bs 12 16))) ∙ p.1.1.0),
      );
      header = size;
      header_inside = omega (arith, body, few, inside);
      fields = few;
      index_inside = inside;
      keys_inside = leb-true (4 * keys_end bs) (length (body_of bs)) s.1.1.1.0;
      block_told = before_two (major bs) (index_length bs) s.1.1.1.1.0;
      blocks_ordered = leb-true (keys_end bs) (block_end_in bs) ends.0;
      block_inside = leb-true (4 * block_end_in bs) (length (body_of bs)) ends.1;
      checksum_told =
          checksum_is_told (is_pool bs) (uses_pool bs) (is_some (checksum_in bs)) l.0;
      own_strings = strings_are_own (uses_pool bs) (limit_in bs) (short_limit_in bs) l.1.0;
    }

-- such a head passes
pub head_passes : (bs : List ℕ) → IsFileHead bs → head_refusal bs ≡ None
unfolding head_refusal head_checks header_refusal
head_passes bs f =
    let z : get_or bs 8 0 ≡ 0 = f.little_endian in
    let size : unit_in (nat_eq (get_or bs 8 0) 1) bs 0 ≡ header_size bs = rw z refl in
    let f5 : get_or (drop 4 bs) 5 0 ≡ get_or bs 9 0 = get_or-drop 4 bs 5 0 in
    let f6 : get_or (drop 4 bs) 6 0 ≡ get_or bs 10 0 = get_or-drop 4 bs 6 0 in
    let h : IsHeader false bs = record {
      long = omega (arith, f.header, f.header_inside);
      magic = f.magic;
      known_endianness = omega arith;
      own_endianness = λ _. z;
      known_charset = omega (arith, f.ascii);
      format = f.format;
      version = ap is_version (sym f.version.1) ∙ spelled_version f.version.0;
      size = omega (arith, size, f.header);
    } in
    later_refusal (header_checks false bs)
    (version_checks (drop 4 bs) ++ (size_checks bs ++ lending_checks bs))
    ((header_passes false bs).1 h)
    ∙ later_refusal (version_checks (drop 4 bs)) (size_checks bs ++ lending_checks bs)
    (version_holds (drop 4 bs) f.version.0 (f5 ∙ f.ascii) (f6 ∙ f.two_byte_chars)
    (f.version.1 ∙ sym (range_behind_four bs 12 16)) f.version.2)
    ∙ later_refusal (size_checks bs) (lending_checks bs)
    (ap first_refusal (sizes_in_two bs)
    ∙ later_refusal (field_checks bs) (end_checks bs)
    (fields_hold bs (omega (arith, f.fields, f.index_inside)) f.fields f.index_inside)
    ∙ ends_hold bs f.keys_inside f.block_told f.blocks_ordered f.block_inside)
    ∙ lending_holds bs
    (checksum_due (is_pool bs) (uses_pool bs) (is_some (checksum_in bs)) f.checksum_told)
    (own_strings_hold (uses_pool bs) (limit_in bs) (short_limit_in bs) f.own_strings)

-- what is asked of a pool bundle behind its head
abbrev own_checks : List ℕ → List (Bool × Refusal)
own_checks bs =
    (is_pool bs, invalid (codes "file is not a pool bundle"))
    ∷ (nat_le (1 + index_length bs) (keys_end bs), end_of_input) ∷ []

pub pool_is : (bs : List ℕ) → pool_refusal bs ≡ None → IsPoolFile bs
unfolding pool_refusal pool_checks head_refusal
pool_is bs e =
    let parts = first_refusal-both (head_checks bs) (own_checks bs) e in
    let p = all_pass (own_checks bs) parts.1 in
    record {
      head = head_is bs parts.0;
      pool = p.0;
      keys_behind = leb-true (1 + index_length bs) (keys_end bs) p.1.0;
    }

pub pool_passes : (bs : List ℕ) → IsPoolFile bs → pool_refusal bs ≡ None
pool_passes bs f = pool_holds bs (head_passes bs f.head) f.pool f.keys_behind

-- the checksum of the pool that is given is the one that the file says
same_checksum : (o : Option ℕ) (n : ℕ) → is_some o ≡ true → unwrap_or o 0 ≡ n → o ≡ Some n
same_checksum None n h e = absurd (cc)
same_checksum (Some m) n h e = ap Some e

given_is : (pool : Option Pool) (bs : List ℕ)
    → first_refusal (pool_given_checks pool bs) ≡ None → is_some (checksum_in bs) ≡ true
    → uses_pool bs ≡ true
    → (p : Pool) × (pool ≡ Some p) × (checksum_in bs ≡ Some p.checksum)
unfolding pool_given_checks
given_is None bs e c u =
    let h = all_pass (pool_given_checks None bs) e in absurd (apart (uses_pool bs) u h.0)
  where
    apart : (b : Bool) → b ≡ true → not b ≡ true → ⊥
    apart true x y = cc
    apart false x y = cc
given_is (Some p) bs e c u =
    let h = all_pass (pool_given_checks (Some p) bs) e in (
      p,
      refl,
      same_checksum (checksum_in bs) p.checksum c
          (eqb-true (unwrap_or (checksum_in bs) 0) p.checksum (by (uses_pool bs) _ u h.0)),
    )
  where
    by : (b c : Bool) → b ≡ true → (not b || c) ≡ true → c ≡ true
    by true c x y = y
    by false c x y = cc

pub file_is : (pool : Option Pool) (bs : List ℕ) → refusal_with pool bs ≡ None
    → IsFileWith pool bs
unfolding refusal_with head_refusal
file_is pool bs e =
    let parts = first_refusal-both (head_checks bs) (pool_given_checks pool bs) e in
    let head : IsFileHead bs = head_is bs parts.0 in
    record {
      head = head;
      given = λ u. given_is pool bs parts.1 (head.checksum_told (inr u)) u;
    }

given_passes : (pool : Option Pool) (bs : List ℕ)
    → (uses_pool bs ≡ true → (p : Pool) × (pool ≡ Some p) × (checksum_in bs ≡ Some p.checksum))
    → (b : Bool) → uses_pool bs ≡ b → first_refusal (pool_given_checks pool bs) ≡ None
given_passes pool bs f false u = unused_holds pool bs u
given_passes pool bs f true u =
    let g = f u in
    ap (λ o. first_refusal (pool_given_checks o bs)) g.1
    ∙ right_given g.0 bs u (ap (λ o. unwrap_or o 0) g.2)

pub file_passes : (pool : Option Pool) (bs : List ℕ) → IsFileWith pool bs
    → refusal_with pool bs ≡ None
file_passes pool bs f =
    behind_all pool bs (head_passes bs f.head)
    ∙ given_passes pool bs f.given (uses_pool bs) refl

pub files_pass : FilesPass
files_pass = record {
  pools = λ bs. (pool_is bs, pool_passes bs);
  files = λ pool bs. (file_is pool bs, file_passes pool bs);
}
