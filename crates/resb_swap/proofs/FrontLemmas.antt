-- The roles of the words in front of all bodies, and the walk's begin.
use Rattle.std.proofs.Common.{◌≡◌, ℕ, ◌+◌, ◌<◌, ◌≤◌, List, [], ◌∷◌, ◌++◌, length, true, false}
use Rattle.std.proofs.Common.{refl, sym, ◌∙◌, arith, inl, inr, subst, nat_le, nat_lt}
use Rattle.resb_swap.proofs.OwningLemmas.{picks}
use Rattle.std.proofs.lemmas.Bool.{cases_lt}
use Rattle.std.proofs.lemmas.Bool.Decides.{nat_tests}
use Rattle.std.proofs.lemmas.List.{get_or_past, get_or_push}
use Rattle.std.proofs.Math.ListN.{get_or-append}
use Rattle.resb_swap.specs.Numbers.{Numbered, word_count}
use Rattle.resb_swap.specs.Bodies.{is_start}
use Rattle.resb_swap.specs.Roles.{front_role, field_count, keys_end, block_end, role_at}
use Rattle.resb_swap.specs.Swapped.{is_indexed}
use Rattle.resb_swap.specs.Inner.Front.{FrontRoles, role_before}
use Rattle.resb_swap.specs.declared.role.Role.{Role}
use Rattle.resb_swap.specs.declared.role.Role.TheVariants as role

-- what an index says that lies inside
pub record Inside (f : Numbered) : Type 0 where
  pub five : 5 ≤ field_count f
  pub fields : field_count f < word_count f
  pub keys : keys_end f ≤ word_count f
  pub block : block_end f ≤ word_count f

pub inside_from : (f : Numbered) → is_indexed f ≡ true → Inside f
inside_from f h = record {
  five = grind (arith, nat_tests);
  fields = grind (arith, nat_tests);
  keys = grind (arith, nat_tests);
  block = grind (arith, nat_tests);
}

-- words that lie behind all three have no role
pub role_behind : (i n fields keys block : ℕ) → n ≤ i → fields < n → keys ≤ n → block ≤ n
    → role_before i fields keys block ≡ role.Free
role_behind i n fields keys block le a b c =
    let x : nat_le i fields ≡ false = grind (arith, nat_tests) in
    let y : nat_lt i keys ≡ false = grind (arith, nat_tests) in
    let z : nat_lt i block ≡ false = grind (arith, nat_tests) in
    rw (x, y, z) refl

before : (f : Numbered) (a n : ℕ) → a ≡ field_count f → n ≡ word_count f
    → field_count f < word_count f → a < n
before f a n ea en lt = rw (ea, en) lt

upto : (f : Numbered) (b a n : ℕ) → a ≡ b → n ≡ word_count f → b ≤ word_count f → a ≤ n
upto f b a n ea en le = rw (ea, en) le

pub front_made : (f : Numbered) (rs : List Role) (n fields keys block : ℕ) → is_indexed f ≡ true
    → n ≡ word_count f → fields ≡ field_count f → keys ≡ keys_end f → block ≡ block_end f
    → length rs ≡ n → ((i : ℕ) → i < n → role_at rs i ≡ role_before i fields keys block)
    → FrontRoles f rs
unfolding front_role
front_made f rs n fields keys block h en ef ek eb el each =
    let i = inside_from f h in
    let said : (k : ℕ) → role_before k fields keys block ≡ front_role f k =
    λ k. rw (ef, ek, eb) refl in
    record {
      each = el ∙ en;
      roles = λ k. elim (cases_lt k n) [
        | inl lt ↦ each k lt ∙ said k
        | inr ge ↦ get_or_past rs k role.Free (subst (λ (m : ℕ). m ≤ k) (sym el) ge)
            ∙ (sym (role_behind k n fields keys block ge (before f fields n ef en i.fields)
            (upto f (keys_end f) keys n ek en i.keys) (upto f (block_end f) block n eb en i.block))
            ∙ said k)
      ];
    }

-- no word in front of all bodies begins one
pub front_no_start : (f : Numbered) (i : ℕ) → is_start (front_role f i) ≡ false
unfolding front_role
front_no_start f i =
    let P : Role → Type 0 = λ r. is_start r ≡ false in
    picks P (nat_le i (field_count f)) role.Words _ refl
    (picks P (nat_lt i (keys_end f)) role.Bytes _ refl
    (picks P (nat_lt i (block_end f)) role.Units role.Free refl refl))

-- one more word has its role
pub front_more : (rs new : List Role) (n fields keys block : ℕ) (x : Role)
    → new ≡ rs ++ x ∷ [] → length rs ≡ n → x ≡ role_before n fields keys block
    → ((i : ℕ) → i < n → role_at rs i ≡ role_before i fields keys block)
    → (i : ℕ) → i < n + 1 → role_at new i ≡ role_before i fields keys block
front_more rs new n fields keys block x e el ex each i lt = rw e (elim (cases_lt i n) [
  | inl less ↦ get_or-append rs (x ∷ []) role.Free i (subst (λ (m : ℕ). i < m) (sym el) less) ∙
      each i less
  | inr ge ↦ (
      let same : i ≡ n = omega (arith, lt, ge) in
      rw same (get_or_push rs x role.Free n el ∙ ex)
      )
])
