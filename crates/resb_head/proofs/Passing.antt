-- The headers and indexes that pass each check.
use Rattle.std.proofs.Common.{ℕ, List, [], ◌∷◌, ◌≡◌, ◌≤◌, length, drop}
use Rattle.std.proofs.Common.{Bool, true, false, ◌||◌, nat_le, nat_eq, None, refl, sym, ap, subst}
use Rattle.std.proofs.Common.{◌∙◌, get_or, codes, slice_range}
use Rattle.std.specs.Str.{bytes_eq}
use Rattle.std.proofs.lemmas.List.{get_or-drop}
use Rattle.std.proofs.lemmas.Slice.Eq.{bytes_eq-Decides}
use Rattle.resb_format.specs.Error.{Refusal, first_refusal}
use Rattle.resb_format.specs.Bytes.{unit_in}
use Rattle.resb_head.specs.Laws.{IsHeader, HeaderPasses}
use Rattle.resb_head.specs.HeadChecks.{info_checks, header_checks, header_refusal}
use Rattle.resb_head.specs.HeadChecks.{is_version}
use Rattle.resb_head.proofs.HeaderSteps.{header_holds}
use Rattle.resb_head.proofs.Lists.{bytes_eq_holds}
use Rattle.resb_head.proofs.Numbers.{zero_unless_any}
use Rattle.resb_head.proofs.Numbers.{zero_or_any}
use Rattle.resb_head.proofs.Lists.{range_behind_four}
use Rattle.std.proofs.lemmas.Bool.{le-leb, leb-true}

-- each test is true
abbrev pub EachHolds : List (Bool × Refusal) → Type 0
EachHolds [] = Unit {0}
EachHolds ((t, f) ∷ checks) = (t ≡ true) × EachHolds checks

-- where no check refuses, each test is true
pub all_pass : (checks : List (Bool × Refusal)) → first_refusal checks ≡ None → EachHolds checks
all_pass [] e = tt
all_pass ((true, f) ∷ checks) e = (refl, all_pass checks e)
all_pass ((false, f) ∷ checks) e = cc

-- the tests of the info
record Tests (any : Bool) (bs : List ℕ) : Type 0 where
  known : nat_le (get_or bs 4 0) 1 ≡ true
  own : (any || nat_eq (get_or bs 4 0) 0) ≡ true
  charset : nat_le (get_or bs 5 0) 1 ≡ true
  format : bytes_eq (slice_range bs 8 12) (codes "ResB") ≡ true
  version : is_version (slice_range bs 12 16) ≡ true

tested : (any : Bool) (bs : List ℕ) → Tests any bs → first_refusal (info_checks any bs) ≡ None
unfolding info_checks
tested any bs t = rw (t.known, t.own, t.charset, t.format, t.version) refl

passes : (any : Bool) (bs : List ℕ) → header_refusal any bs ≡ None → IsHeader any bs
unfolding header_refusal header_checks info_checks
passes any bs e =
    let p = all_pass (header_checks any bs) e in
    let f4 : get_or (drop 4 bs) 4 0 ≡ get_or bs 8 0 = get_or-drop 4 bs 4 0 in
    let f5 : get_or (drop 4 bs) 5 0 ≡ get_or bs 9 0 = get_or-drop 4 bs 5 0 in
    record {
      long = leb-true 24 (length bs) p.0;
      magic = (bytes_eq-Decides (slice_range bs 2 4) (0xda ∷ 0x27 ∷ [])).0 p.1.0;
      known_endianness = subst (λ k. k ≤ 1) f4 (leb-true (get_or (drop 4 bs) 4 0) 1 p.1.1.0);
      own_endianness = λ h. sym f4 ∙ zero_unless_any any (get_or (drop 4 bs) 4 0) p.1.1.1.0 h;
      known_charset = subst (λ k. k ≤ 1) f5 (leb-true (get_or (drop 4 bs) 5 0) 1 p.1.1.1.1.0);
      format =
          sym (range_behind_four bs 8 12)
          ∙ (bytes_eq-Decides (slice_range (drop 4 bs) 8 12) (codes "ResB")).0
          p.1.1.1.1.1.0;
      version = ap is_version (sym (range_behind_four bs 12 16)) ∙ p.1.1.1.1.1.1.0;
      size = leb-true 24 (unit_in (nat_eq (get_or bs 8 0) 1) bs 0) p.1.1.1.1.1.1.1.0;
    }

passing : (any : Bool) (bs : List ℕ) → IsHeader any bs → header_refusal any bs ≡ None
passing any bs h =
    let f4 : get_or (drop 4 bs) 4 0 ≡ get_or bs 8 0 = get_or-drop 4 bs 4 0 in
    let f5 : get_or (drop 4 bs) 5 0 ≡ get_or bs 9 0 = get_or-drop 4 bs 5 0 in
    let t : Tests any (drop 4 bs) = record {
      known = ap (λ k. nat_le k 1) f4 ∙ le-leb (get_or bs 8 0) 1 h.known_endianness;
      own = ap (λ k. any || nat_eq k 0) f4 ∙ zero_or_any any (get_or bs 8 0) h.own_endianness;
      charset = ap (λ k. nat_le k 1) f5 ∙ le-leb (get_or bs 9 0) 1 h.known_charset;
      format = bytes_eq_holds _ _ (range_behind_four bs 8 12 ∙ h.format);
      version = ap is_version (range_behind_four bs 12 16) ∙ h.version;
    } in
    header_holds any bs (record { long = h.long; magic = bytes_eq_holds _ _ h.magic })
    (tested any (drop 4 bs) t) h.size

pub header_passes : HeaderPasses
header_passes any bs = (passes any bs, passing any bs)
