-- What the roles of a file's words say of numbers of 64 bits, and of orders of bytes.
use Rattle.std.proofs.Common.{◌≡◌, ◌≢◌, ℕ, ◌+◌, ◌-◌, ◌*◌, ◌/◌, ◌%◌, ◌<◌, ◌≤◌, ◌⊎◌, List}
use Rattle.std.proofs.Common.{Bool, true, false, cond, nat_le, nat_lt, ◌==◌, ◌&&◌, get_or}
use Rattle.std.proofs.Common.{refl, sym, ap, ◌∙◌, arith, inl, inr, subst}
use Rattle.std.proofs.lemmas.Bool.{cases_lt, cases_Bool, false≢true}
use Rattle.std.proofs.lemmas.Bool.Decides.{nat_tests}
use Rattle.resb_swap.specs.Numbers.{Numbered, numbered, header_size, word_in, byte_in}
use Rattle.resb_swap.specs.Bodies.{Reached, body_role, place_in, is_start, is_among}
use Rattle.resb_swap.specs.Bodies.{role_in, middle_at, middle_count, member_count, members_from}
use Rattle.resb_swap.specs.Collation.{holds_data, parts_in, part_role, is_whole, is_headed}
use Rattle.resb_swap.specs.Roles.{RolesOf, front_role, role_at, field_count, keys_end}
use Rattle.resb_swap.specs.Roles.{block_end}
use Rattle.resb_swap.specs.Swapped.{names_order, is_order}
use Rattle.resb_swap.specs.Inner.Mirror.{Paired, AreOrders}
use Rattle.resb_swap.specs.declared.role.Role.{Role}
use Rattle.resb_swap.specs.declared.role.Role.TheVariants as role
use Rattle.resb_swap.proofs.OwningLemmas.{picks}
use Rattle.resb_swap.proofs.CollationLemmas.{whole_from}
use Rattle.resb_swap.proofs.PartsLemmas.{first_next, second_before, order_third, ordered}
use Rattle.resb_swap.proofs.PartsLemmas.{weights_inside}
use Rattle.resb_swap.proofs.Places.{head_order, body_order}
use Rattle.resb_swap.proofs.WalkLemmas.{body_starts, binary_word}

-- a role of a collation's data alone
abbrev is_inner : Role → Bool
is_inner role.OneUnit = true
is_inner role.Order = true
is_inner role.First = true
is_inner role.Second = true
is_inner _ = false

-- no word in front of all bodies has such a role
front_no_inner : (f : Numbered) (i : ℕ) → is_inner (front_role f i) ≡ false
unfolding front_role
front_no_inner f i =
    let P : Role → Type 0 = λ r. is_inner r ≡ false in
    picks P (nat_le i (field_count f)) role.Words _ refl
    (picks P (nat_lt i (keys_end f)) role.Bytes _ refl
    (picks P (nat_lt i (block_end f)) role.Units role.Free refl refl))

one_some : role.OneUnit ≢ role.Free
one_some = λ e. cc

order_some : role.Order ≢ role.Free
order_some = λ e. cc

first_some : role.First ≢ role.Free
first_some = λ e. cc

second_some : role.Second ≢ role.Free
second_some = λ e. cc

-- nor has the first word of a body
start_no_inner : (r : Role) → (r ≡ role.Free) ⊎ (is_start r ≡ true) → is_inner r ≡ false
start_no_inner role.Free h = refl
start_no_inner role.Bytes h = refl
start_no_inner role.Units h = refl
start_no_inner role.Words h = refl
start_no_inner role.OneUnit h = absurd (elim h [ inl e ↦ one_some e | inr e ↦ false≢true e ])
start_no_inner role.Order h = absurd (elim h [ inl e ↦ order_some e | inr e ↦ false≢true e ])
start_no_inner role.First h = absurd (elim h [ inl e ↦ first_some e | inr e ↦ false≢true e ])
start_no_inner role.Second h = absurd (elim h [ inl e ↦ second_some e | inr e ↦ false≢true e ])
start_no_inner role.Text h = refl
start_no_inner role.Binary h = refl
start_no_inner role.Table h = refl
start_no_inner role.Table32 h = refl
start_no_inner role.Array h = refl
start_no_inner role.Vector h = refl

-- of three layers only the middle one has such a role
layer_inner : (a b c : Bool) (y z : Role) → is_inner z ≡ false
    → is_inner (cond a role.Words (cond b y (cond c z role.Free))) ≡ true
    → (b ≡ true) × (cond a role.Words (cond b y (cond c z role.Free)) ≡ y)
layer_inner true b c y z h e = absurd (false≢true e)
layer_inner false true c y z h e = (refl, refl)
layer_inner false false true y z h e = absurd (false≢true (sym h ∙ e))
layer_inner false false false y z h e = absurd (false≢true e)

-- word k of the data of a collation that is whole, and inside
record Inner (f : Numbered) (r : Role) (p i : ℕ) : Type 0 where
  binary : r ≡ role.Binary
  holds : holds_data f p ≡ true
  behind : p + 1 ≤ i
  inside : i - (p + 1) < (word_in f p + 3) / 4
  is : role_in f r p i ≡ part_role (parts_in f (p + 1)) (i - (p + 1))

-- a middle with such a role is a collation's
middle_inner : (f : Numbered) (r : Role) (p k : ℕ) → is_inner (middle_at f r p k) ≡ true
    → (r ≡ role.Binary) × ((holds_data f p ≡ true)
    × (middle_at f r p k ≡ part_role (parts_in f (p + 1)) k))
unfolding middle_at
middle_inner f role.Binary p k h = elim (cases_Bool (holds_data f p)) [
  | inl e ↦ (
    refl,
    (e, ap (λ b. cond b (part_role (parts_in f (p + 1)) k) role.Bytes) e),
  )
  | inr e ↦ absurd (false≢true (ap is_inner (sym (ap (λ b. cond b (part_role (parts_in f (p + 1)) k)
      role.Bytes) e)) ∙ h))
]
middle_inner f role.Free p k h = absurd (false≢true h)
middle_inner f role.Bytes p k h = absurd (false≢true h)
middle_inner f role.Units p k h = absurd (false≢true h)
middle_inner f role.Words p k h = absurd (false≢true h)
middle_inner f role.OneUnit p k h = absurd (false≢true h)
middle_inner f role.Order p k h = absurd (false≢true h)
middle_inner f role.First p k h = absurd (false≢true h)
middle_inner f role.Second p k h = absurd (false≢true h)
middle_inner f role.Text p k h = absurd (false≢true h)
middle_inner f role.Table p k h = absurd (false≢true h)
middle_inner f role.Table32 p k h = absurd (false≢true h)
middle_inner f role.Array p k h = absurd (false≢true h)
middle_inner f role.Vector p k h = absurd (false≢true h)

among_of : (p n i : ℕ) → is_among p n i ≡ true → (p ≤ i) × (i < p + n)
among_of p n i h = (grind (arith, nat_tests), grind (arith, nat_tests))

body_inner : (f : Numbered) (r : Role) (p i : ℕ) → (r ≡ role.Free) ⊎ (is_start r ≡ true)
    → is_inner (role_in f r p i) ≡ true → Inner f r p i
unfolding role_in
body_inner f r p i st h =
    let l = layer_inner (is_among (members_from f r p) (member_count f r p) i)
    (is_among (p + 1) (middle_count f r p) i) (is_among p 1 i) (middle_at f r p (i - (p + 1))) r
    (start_no_inner r st) h in
    let m = middle_inner f r p (i - (p + 1)) (ap is_inner (sym l.1) ∙ h) in
    let a = among_of (p + 1) (middle_count f r p) i l.0 in
    let le = a.0 in
    let lt : i < p + 1 + (word_in f p + 3) / 4 =
    subst (λ (x : Role). i < p + 1 + middle_count f x p) m.0 a.1 in
    record {
      binary = m.0;
      holds = m.1.0;
      behind = le;
      inside = omega (arith, le, lt);
      is = l.1 ∙ m.1.1;
    }

-- a word with such a role has it from a body that is reached
from_body : (f : Numbered) (rs : List Role) (i : ℕ) → RolesOf f rs → is_inner (role_at rs i) ≡ true
    → (w : ℕ) × (Reached f w × ((role_at rs i ≡ role_in f (body_role w) (place_in w) i)
    × Inner f (body_role w) (place_in w) i))
from_body f rs i h e = elim (h.only i) [
  | inl free ↦ absurd (false≢true (sym (ap is_inner free) ∙ e))
  | inr x ↦ elim x [
    | inl front ↦ absurd (false≢true (sym (ap is_inner front ∙ front_no_inner f i) ∙ e))
    | inr b ↦ (
      b.0,
      (
        b.1.0,
        (
          b.1.1,
          body_inner f (body_role b.0) (place_in b.0) i (body_starts b.0) (ap is_inner (sym b.1.1) ∙
              e),
        ),
      ),
    )
  ]
]

whole_data : (f : Numbered) (p : ℕ) → holds_data f p ≡ true → is_whole f p ≡ true
whole_data f p h = grind (arith, nat_tests)

-- another word of the data of which one is there
another : (f : Numbered) (rs : List Role) (w i k : ℕ) (r : Role) → RolesOf f rs → Reached f w
    → Inner f (body_role w) (place_in w) i → k < (word_in f (place_in w) + 3) / 4
    → part_role (parts_in f (place_in w + 1)) k ≡ r → r ≢ role.Free
    → role_at rs (place_in w + 1 + k) ≡ r
unfolding middle_at
another f rs w i k r h reached n lt e some =
    let p = place_in w in
    let its : role_in f (body_role w) p (p + 1 + k) ≡ r =
    ap (λ (x : Role). role_in f x p (p + 1 + k)) n.binary
    ∙ (binary_word f p k lt
    ∙ (ap (λ b. cond b (part_role (parts_in f (p + 1)) k) role.Bytes) n.holds ∙ e)) in
    h.bodies w (p + 1 + k) reached (λ z. some (sym its ∙ z)) ∙ its

-- both halves of each number are there
pub roles_paired : (f : Numbered) (rs : List Role) → RolesOf f rs → Paired rs
roles_paired f rs h = record {
  first = λ i e.
      let b = from_body f rs i h (ap is_inner e) in
      let n = b.1.1.1 in
      let p = place_in b.0 in
      let whole = whole_data f p n.holds in
      let next = first_next (parts_in f (p + 1)) (i - (p + 1)) (ordered f p whole)
      (sym n.is ∙ (sym b.1.1.0 ∙ e)) in
      let end = weights_inside f p whole in
      let less = next.1 in
      let le = n.behind in
      let at : p + 1 + (i - (p + 1) + 1) ≡ i + 1 = omega (arith, le) in
      ap (role_at rs) (sym at)
      ∙ another f rs b.0 i (i - (p + 1) + 1) role.Second h b.1.0 n (omega (arith, less, end)) next.0
      second_some;
  second = λ i e.
      let b = from_body f rs i h (ap is_inner e) in
      let n = b.1.1.1 in
      let p = place_in b.0 in
      let whole = whole_data f p n.holds in
      let before = second_before (parts_in f (p + 1)) (i - (p + 1)) (ordered f p whole)
      (sym n.is ∙ (sym b.1.1.0 ∙ e)) in
      let le = n.behind in
      let some = before.0 in
      let inside = n.inside in
      let at : p + 1 + (i - (p + 1) - 1) ≡ i - 1 = omega (arith, le, some) in (
        omega (arith, le),
        ap (role_at rs) (sym at)
            ∙ another f rs b.0 i (i - (p + 1) - 1) role.First h b.1.0 n (omega (arith, inside))
            before.1 first_some,
      );
}

headed_order : (f : Numbered) (p : ℕ) → is_headed f p ≡ true
    → byte_in f (4 * p + 12) ≡ cond f.big 1 0
unfolding is_headed
headed_order f p h = grind (arith, nat_tests)

order_small : (b : Bool) (x : ℕ) → x ≡ cond b 1 0 → x ≤ 1
order_small true x e = omega (arith, e)
order_small false x e = omega (arith, e)

order_is : (r : Role) → is_order r ≡ true → r ≡ role.Order
order_is role.Order h = refl
order_is role.Free h = absurd (false≢true h)
order_is role.Bytes h = absurd (false≢true h)
order_is role.Units h = absurd (false≢true h)
order_is role.Words h = absurd (false≢true h)
order_is role.OneUnit h = absurd (false≢true h)
order_is role.First h = absurd (false≢true h)
order_is role.Second h = absurd (false≢true h)
order_is role.Text h = absurd (false≢true h)
order_is role.Binary h = absurd (false≢true h)
order_is role.Table h = absurd (false≢true h)
order_is role.Table32 h = absurd (false≢true h)
order_is role.Array h = absurd (false≢true h)
order_is role.Vector h = absurd (false≢true h)

-- a word of this role is the third of a collation's data, and its first byte the file's order
pub order_word : (f : Numbered) (rs : List Role) (i : ℕ) → RolesOf f rs
    → role_at rs i ≡ role.Order → byte_in f (4 * i) ≡ cond f.big 1 0
order_word f rs i h e =
    let b = from_body f rs i h (ap is_inner e) in
    let n = b.1.1.1 in
    let p = place_in b.0 in
    let third = order_third (parts_in f (p + 1)) (i - (p + 1)) (sym n.is ∙ (sym b.1.1.0 ∙ e)) in
    let le = n.behind in
    let at : 4 * i ≡ 4 * p + 12 = omega (arith, third, le) in
    ap (byte_in f) at ∙ headed_order f p (whole_from f p (whole_data f p n.holds)).headed

-- all that names an order names one of two
pub roles_orders : (bytes : List ℕ) (rs : List Role) → RolesOf (numbered bytes) rs
    → get_or bytes 8 0 ≤ 1 → AreOrders rs bytes
roles_orders bytes rs h known p named = elim (cases_lt p (header_size bytes)) [
  | inl lt ↦ (
      let e : (p == 8) ≡ true = sym (head_order rs (header_size bytes) p lt) ∙ named in
      let same : p ≡ 8 = grind (arith, nat_tests) in
      subst (λ (q : ℕ). get_or bytes q 0 ≤ 1) (sym same) known
      )
  | inr ge ↦ (
      let i : ℕ = (p - header_size bytes) / 4 in
      let c : ℕ = (p - header_size bytes) % 4 in
      let at : header_size bytes + (4 * i + c) ≡ p = omega (arith, ge) in
      let both : (is_order (role_at rs i) && c == 0) ≡ true =
      sym (body_order rs (header_size bytes) i c (omega arith))
      ∙ (ap (names_order rs (header_size bytes)) at ∙ named) in
      let order : is_order (role_at rs i) ≡ true = grind (arith, nat_tests) in
      let first : c ≡ 0 = grind (arith, nat_tests) in
      let is = order_word (numbered bytes) rs i h (order_is (role_at rs i) order) in
      let there : header_size bytes + 4 * i ≡ p = omega (arith, at, first) in
      subst (λ (q : ℕ). get_or bytes q 0 ≤ 1) there
      (order_small (numbered bytes).big (byte_in (numbered bytes) (4 * i)) is)
      )
]
