-- Each refusal is that of the first check that fails.
use Rattle.std.proofs.Common.{◌≡◌, ◌≢◌, ◌<◌, ◌≤◌, ℕ, List, not, nat_eq, Bool, true}
use Rattle.std.proofs.Common.{false, sym, ap, subst, ◌∙◌}
use Rattle.std.specs.Str.{bytes_eq}
use Rattle.std.proofs.lemmas.Bool.{not-true, not-false}
use Rattle.resb_package.proofs.Heads.{Begun, Native, too_short, no_data, not_little, not_ascii}
use Rattle.resb_package.proofs.Heads.{not_package, other_version, small_header, head_holds}
use Rattle.resb_package.proofs.Lists.{is_equal, is_unequal}
use Rattle.resb_package.proofs.package.check_head.Goals as goal

-- what a comparison of read bytes says of those that stand there
differ : (bs ys zs : List ℕ) (b : Bool) → b ≡ not (bytes_eq bs zs) → bs ≡ ys → b ≡ true
    → bytes_eq ys zs ≡ false
differ bs ys zs b e s t =
    not-true (bytes_eq ys zs) (ap (λ xs. not (bytes_eq xs zs)) (sym s) ∙ sym e ∙ t)

agree : (bs ys zs : List ℕ) (b : Bool) → b ≡ not (bytes_eq bs zs) → bs ≡ ys → b ≡ false
    → bytes_eq ys zs ≡ true
agree bs ys zs b e s t =
    not-false (bytes_eq ys zs) (ap (λ xs. not (bytes_eq xs zs)) (sym s) ∙ sym e ∙ t)

-- and of a read byte
other : (b c k : ℕ) → b ≡ c → b ≢ k → nat_eq c k ≡ false
other b c k e h = is_unequal c k (λ q. h (e ∙ q))

same : (b c k : ℕ) → b ≡ c → b ≡ k → nat_eq c k ≡ true
same b c k e h = is_equal c k (sym e ∙ h)

pub returns-then-bytes-lt24 : goal.returns-then-bytes-lt24
returns-then-bytes-lt24 c = too_short c.args.bytes.now c.if-bytes-lt24.true

pub returns-then-ne : goal.returns-then-ne
returns-then-ne c =
    no_data c.args.bytes.now c.if-bytes-lt24.false
    (differ _ _ _ _ c.ne.ensures c.two_at.ensures c.if-ne.true)

pub returns-then-byte_at-ne0 : goal.returns-then-byte_at-ne0
returns-then-byte_at-ne0 c =
    let bs : List ℕ = c.args.bytes.now in
    let b : Begun bs = record {
      long = c.if-bytes-lt24.false;
      magic = agree _ _ _ _ c.ne.ensures c.two_at.ensures c.if-ne.false;
    } in
    not_little bs b (other _ _ 0 c.byte_at.ensures c.if-byte_at-ne0.true)

pub returns-then-byte_at-ne0-2 : goal.returns-then-byte_at-ne0-2
returns-then-byte_at-ne0-2 c =
    let bs : List ℕ = c.args.bytes.now in
    let b : Begun bs = record {
      long = c.if-bytes-lt24.false;
      magic = agree _ _ _ _ c.ne.ensures c.two_at.ensures c.if-ne.false;
    } in
    not_ascii bs b (same _ _ 0 c.byte_at.ensures c.if-byte_at-ne0.false)
    (other _ _ 0 c.byte_at-2.ensures c.if-byte_at-ne0-2.true)

pub returns-then-ne-2 : goal.returns-then-ne-2
returns-then-ne-2 c =
    let bs : List ℕ = c.args.bytes.now in
    let n : Native bs = record {
      begun = record {
        long = c.if-bytes-lt24.false;
        magic = agree _ _ _ _ c.ne.ensures c.two_at.ensures c.if-ne.false;
      };
      little = same _ _ 0 c.byte_at.ensures c.if-byte_at-ne0.false;
      ascii = same _ _ 0 c.byte_at-2.ensures c.if-byte_at-ne0-2.false;
    } in
    not_package bs n (differ _ _ _ _ c.ne-2.ensures c.four_at.ensures c.if-ne-2.true)

pub returns-then-byte_at-ne1 : goal.returns-then-byte_at-ne1
returns-then-byte_at-ne1 c =
    let bs : List ℕ = c.args.bytes.now in
    let n : Native bs = record {
      begun = record {
        long = c.if-bytes-lt24.false;
        magic = agree _ _ _ _ c.ne.ensures c.two_at.ensures c.if-ne.false;
      };
      little = same _ _ 0 c.byte_at.ensures c.if-byte_at-ne0.false;
      ascii = same _ _ 0 c.byte_at-2.ensures c.if-byte_at-ne0-2.false;
    } in
    other_version bs n (agree _ _ _ _ c.ne-2.ensures c.four_at.ensures c.if-ne-2.false)
    (other _ _ 1 c.byte_at-3.ensures c.if-byte_at-ne1.true)

pub returns-then-unit_at-lt24 : goal.returns-then-unit_at-lt24
returns-then-unit_at-lt24 c =
    let bs : List ℕ = c.args.bytes.now in
    let n : Native bs = record {
      begun = record {
        long = c.if-bytes-lt24.false;
        magic = agree _ _ _ _ c.ne.ensures c.two_at.ensures c.if-ne.false;
      };
      little = same _ _ 0 c.byte_at.ensures c.if-byte_at-ne0.false;
      ascii = same _ _ 0 c.byte_at-2.ensures c.if-byte_at-ne0-2.false;
    } in
    small_header bs n (agree _ _ _ _ c.ne-2.ensures c.four_at.ensures c.if-ne-2.false)
    (same _ _ 1 c.byte_at-3.ensures c.if-byte_at-ne1.false)
    (subst (λ s. s < 24) c.unit_at.ensures c.if-unit_at-lt24.true)

pub returns : goal.returns
returns c =
    let bs : List ℕ = c.args.bytes.now in
    let n : Native bs = record {
      begun = record {
        long = c.if-bytes-lt24.false;
        magic = agree _ _ _ _ c.ne.ensures c.two_at.ensures c.if-ne.false;
      };
      little = same _ _ 0 c.byte_at.ensures c.if-byte_at-ne0.false;
      ascii = same _ _ 0 c.byte_at-2.ensures c.if-byte_at-ne0-2.false;
    } in
    head_holds bs n (agree _ _ _ _ c.ne-2.ensures c.four_at.ensures c.if-ne-2.false)
    (same _ _ 1 c.byte_at-3.ensures c.if-byte_at-ne1.false)
    (subst (λ s. 24 ≤ s) c.unit_at.ensures c.if-unit_at-lt24.false)
