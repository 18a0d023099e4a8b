-- The words of a body that are owned: its first one, those in its middle, and its members.
use Rattle.std.proofs.Common.{◌≡◌, ◌≢◌, ℕ, ◌+◌, ◌^◌, ◌<◌, ◌≤◌, ◌⊎◌, List, length, Bool, true, false}
use Rattle.std.proofs.Common.{cond, ◌-◌, ◌%◌, ◌==◌, nat_lt}
use Rattle.std.proofs.Common.{refl, sym, ap, ◌∙◌, arith, inl, inr, set, get_or-set_same}
use Rattle.std.proofs.Common.{get_or-set_other, subst}
use Rattle.std.proofs.lemmas.Bool.{cases_eq, false≢true}
use Rattle.std.proofs.lemmas.Bool.Decides.{nat_tests}
use Rattle.std.proofs.lemmas.List.Sums.{sum_by-set}
use Rattle.std.proofs.Math.ListN.{length-set}
use Rattle.resb_swap.specs.Numbers.{Numbered}
use Rattle.resb_swap.specs.Bodies.{is_among, is_start, role_in, middle_at, middle_of, members_of}
use Rattle.resb_swap.specs.Collation.{holds_data, parts_in, part_role, early_role, late_role}
use Rattle.resb_swap.specs.Collation.{half_role}
use Rattle.resb_swap.specs.declared.parts.Parts.{Parts}
use Rattle.resb_swap.specs.Bodies.{middle_count, member_count, count_in}
use Rattle.resb_swap.specs.Roles.{role_at}
use Rattle.resb_swap.specs.Inner.Claims.{Claimed, FailsClaim, Owned, FailsOwning, weight}
use Rattle.resb_swap.specs.declared.role.Role.{Role}
use Rattle.resb_swap.specs.declared.role.Role.TheVariants as role
use Rattle.resb_swap.specs.declared.error.SwapError.{SwapError}
use Rattle.resb_swap.specs.declared.error.SwapError.TheVariants as error
use Rattle.resb_swap.proofs.ClaimsLemmas.{no_weight}

-- no more words stand in a body's middle than its number says
pub middle_small : (r : Role) (n : ℕ) → middle_of r n ≤ n
middle_small role.Free n = omega arith
middle_small role.Bytes n = omega arith
middle_small role.Units n = omega arith
middle_small role.Words n = omega arith
middle_small role.OneUnit n = omega arith
middle_small role.Order n = omega arith
middle_small role.First n = omega arith
middle_small role.Second n = omega arith
middle_small role.Text n = omega arith
middle_small role.Binary n = omega arith
middle_small role.Table n = omega arith
middle_small role.Table32 n = omega arith
middle_small role.Array n = omega arith
middle_small role.Vector n = omega arith

-- nor are there more members
pub members_small : (r : Role) (n : ℕ) → members_of r n ≤ n
members_small role.Free n = omega arith
members_small role.Bytes n = omega arith
members_small role.Units n = omega arith
members_small role.Words n = omega arith
members_small role.OneUnit n = omega arith
members_small role.Order n = omega arith
members_small role.First n = omega arith
members_small role.Second n = omega arith
members_small role.Text n = omega arith
members_small role.Binary n = omega arith
members_small role.Table n = omega arith
members_small role.Table32 n = omega arith
members_small role.Array n = omega arith
members_small role.Vector n = omega arith

-- a role that a choice gives is one of both
pub picks : (P : Role → Type 0) (b : Bool) (x y : Role) → P x → P y → P (cond b x y)
picks P true x y px py = px
picks P false x y px py = py

-- what holds of these roles holds of each word of a collation's data
late_any : (P : Role → Type 0) → P role.OneUnit → P role.Units → P role.Bytes → P role.Words
    → P role.First → P role.Second → (s : Parts) (k : ℕ) → P (late_role s k)
late_any P one units bytes words first second s k =
    picks P (nat_lt k s.signature) role.Words _ words
    (picks P (nat_lt k s.units) role.Units _ units
    (picks P (nat_lt k s.values) role.Words _ words
    (picks P (nat_lt k s.fill) role.Bytes _ bytes
    (picks P (nat_lt k s.weights) (half_role s k) _
    (picks P ((k - s.fill) % 2 == 0) role.First role.Second first second)
    (picks P (nat_lt k s.words) role.Words _ words
    (picks P (nat_lt k s.texts) role.Units _ units
    (picks P (nat_lt k s.last) role.OneUnit role.Bytes one bytes)))))))

pub early_any : (P : Role → Type 0) → P role.OneUnit → P role.Units → P role.Bytes → P role.Words
    → P role.First → P role.Second → (s : Parts) (k : ℕ) → P (early_role s k)
early_any P one units bytes words first second s k =
    picks P (nat_lt k s.header) role.Bytes _ bytes
    (picks P (nat_lt k s.indexes) role.Words _ words
    (picks P (nat_lt k s.gap) role.Bytes _ bytes
    (picks P (nat_lt k s.codes) role.Words _ words
    (picks P (nat_lt k s.table) role.Bytes (late_role s k) bytes
    (late_any P one units bytes words first second s k)))))

pub part_any : (P : Role → Type 0) → P role.OneUnit → P role.Units → P role.Order → P role.Bytes
    → P role.Words → P role.First → P role.Second → (s : Parts) (k : ℕ) → P (part_role s k)
part_any P one units order bytes words first second s k =
    picks P (nat_lt k 1) role.OneUnit _ one
    (picks P (nat_lt k 2) role.Units _ units
    (picks P (nat_lt k 3) role.Order _ order
    (early_any P one units bytes words first second s k)))

-- and of each word behind the first of a body that is no resource
pub middle_any : (P : Role → Type 0) → P role.OneUnit → P role.Units → P role.Order → P role.Bytes
    → P role.Words → P role.First → P role.Second → (f : Numbered) (r : Role) (p k : ℕ)
    → P (middle_at f r p k)
unfolding middle_at
middle_any P one units order bytes words first second f role.Binary p k =
    picks P (holds_data f p) (part_role (parts_in f (p + 1)) k) role.Bytes
    (part_any P one units order bytes words first second (parts_in f (p + 1)) k) bytes
middle_any P one units order bytes words first second f role.Free p k = words
middle_any P one units order bytes words first second f role.Bytes p k = words
middle_any P one units order bytes words first second f role.Units p k = words
middle_any P one units order bytes words first second f role.Words p k = words
middle_any P one units order bytes words first second f role.OneUnit p k = words
middle_any P one units order bytes words first second f role.Order p k = words
middle_any P one units order bytes words first second f role.First p k = words
middle_any P one units order bytes words first second f role.Second p k = words
middle_any P one units order bytes words first second f role.Text p k = units
middle_any P one units order bytes words first second f role.Table p k = units
middle_any P one units order bytes words first second f role.Table32 p k = words
middle_any P one units order bytes words first second f role.Array p k = words
middle_any P one units order bytes words first second f role.Vector p k = words

pub middle_some : (f : Numbered) (r : Role) (p k : ℕ) → middle_at f r p k ≢ role.Free
middle_some = middle_any (λ r. r ≢ role.Free) (λ e. cc) (λ e. cc) (λ e. cc) (λ e. cc) (λ e. cc)
    (λ e. cc) (λ e. cc)

pub start_some : (r : Role) → is_start r ≡ true → r ≢ role.Free
start_some role.Free h = λ e. cc
start_some role.Bytes h = λ e. cc
start_some role.Units h = λ e. cc
start_some role.Words h = λ e. cc
start_some role.OneUnit h = λ e. cc
start_some role.Order h = λ e. cc
start_some role.First h = λ e. cc
start_some role.Second h = λ e. cc
start_some role.Text h = λ e. cc
start_some role.Binary h = λ e. cc
start_some role.Table h = λ e. cc
start_some role.Table32 h = λ e. cc
start_some role.Array h = λ e. cc
start_some role.Vector h = λ e. cc

pub words_some : role.Words ≢ role.Free
words_some = λ e. cc

-- three layers, of which the first that covers a place decides
pub layered : (a b c : Bool) (x y z o : Role) → cond a x (cond b y (cond c z role.Free)) ≢ role.Free
    → cond a x (cond b y (cond c z o)) ≡ cond a x (cond b y (cond c z role.Free))
layered true b c x y z o h = refl
layered false true c x y z o h = refl
layered false false true x y z o h = refl
layered false false false x y z o h = absurd (h refl)

-- where no layer covers a place, what lies below them shows
pub uncovered : (a b c : Bool) (x y z o : Role) → x ≢ role.Free → y ≢ role.Free → z ≢ role.Free
    → cond a x (cond b y (cond c z role.Free)) ≡ role.Free
    → cond a x (cond b y (cond c z o)) ≡ o
uncovered true b c x y z o hx hy hz h = absurd (hx h)
uncovered false true c x y z o hx hy hz h = absurd (hy h)
uncovered false false true x y z o hx hy hz h = absurd (hz h)
uncovered false false false x y z o hx hy hz h = refl

-- a place that the first or the second layer covers isn't free
pub covered : (a b c : Bool) (x y z : Role) → x ≢ role.Free → y ≢ role.Free
    → (a ≡ true) ⊎ (b ≡ true) → cond a x (cond b y (cond c z role.Free)) ≢ role.Free
covered true b c x y z hx hy h = hx
covered false true c x y z hx hy h = hy
covered false false c x y z hx hy h = absurd (elim h [
  | inl e ↦ false≢true e
  | inr e ↦ false≢true e
])

pub among_itself : (p : ℕ) → is_among p 1 p ≡ true
among_itself p = grind (arith, nat_tests)

pub among_no_other : (p i : ℕ) → i ≢ p → is_among p 1 i ≡ false
among_no_other p i ne = grind (arith, nat_tests)

-- the first word has the kind of its body
pub set_first : (old : List Role) (p i : ℕ) (r : Role) → p < length old
    → role_at (set old p r) i ≡ cond (is_among p 1 i) r (role_at old i)
set_first old p i r lt = elim (cases_eq i p) [
  | inl same ↦ rw same (get_or-set_same old p r role.Free lt
      ∙ sym (ap (λ b. cond b r (role_at old p)) (among_itself p)))
  | inr other ↦ get_or-set_other old p i r role.Free other
      ∙ sym (ap (λ b. cond b r (role_at old i)) (among_no_other p i other))
]

-- where a body begins, no other word of it is looked at
pub before_middle : (p n : ℕ) → is_among (p + 1) n p ≡ false
before_middle p n = grind (arith, nat_tests)

pub before_members : (p m n : ℕ) → is_among (p + 1 + m) n p ≡ false
before_members p m n = grind (arith, nat_tests)

-- a word of the middle is no member, nor the first
pub middle_no_member : (p m n i : ℕ) → is_among (p + 1) m i ≡ true → is_among (p + 1 + m) n i ≡
    false
middle_no_member p m n i h = grind (arith, nat_tests)

pub middle_not_first : (p m i : ℕ) → is_among (p + 1) m i ≡ true → is_among p 1 i ≡ false
middle_not_first p m i h = grind (arith, nat_tests)

pub member_no_middle : (p m n i : ℕ) → is_among (p + 1 + m) n i ≡ true → is_among (p + 1) m i ≡
    false
member_no_middle p m n i h = grind (arith, nat_tests)

pub member_not_first : (p m n i : ℕ) → is_among (p + 1 + m) n i ≡ true → is_among p 1 i ≡ false
member_not_first p m n i h = grind (arith, nat_tests)

-- the role that a body gives, layer by layer
abbrev pub layers : ℕ → ℕ → ℕ → (ℕ → Role) → Role → ℕ → Role → Role
layers p m k mr r i o =
    cond (is_among (p + 1 + m) k i) role.Words
    (cond (is_among (p + 1) m i) (mr (i - (p + 1))) (cond (is_among p 1 i) r o))

pub role_in_layers : (f : Numbered) (r : Role) (mr : ℕ → Role) (p n m k i : ℕ) → n ≡ count_in f r p
    → m ≡ middle_of r n → k ≡ members_of r n → ((j : ℕ) → mr j ≡ middle_at f r p j)
    → role_in f r p i ≡ layers p m k mr r i role.Free
unfolding role_in
role_in_layers f r mr p n m k i en em ek er = rw (er (i - (p + 1)), ek, em, en) refl

free_weight : weight role.Free ≡ 2 ^ 33
unfolding weight
free_weight = refl

-- the words of a body, once its first one, its middle and its members are claimed
pub owned : (f : Numbered) (old two new : List Role) (r : Role) (mr : ℕ → Role) (p n m k : ℕ)
    → n ≡ count_in f r p → m ≡ middle_of r n → k ≡ members_of r n → ((j : ℕ) → mr j ≡ middle_at f r
    p j)
    → p < length old → role_at old p ≡ role.Free → is_start r ≡ true
    → Claimed (set old p r) two (p + 1) m mr → Claimed two new (p + 1 + m) k (λ j. role.Words)
    → Owned f old new r p
owned f old two new r mr p n m k en em ek er lt free start c d =
    let first : (i : ℕ) → role_at (set old p r) i ≡ cond (is_among p 1 i) r (role_at old i) =
    λ i. set_first old p i r lt in
    let now : (i : ℕ) → role_at new i ≡ layers p m k mr r i (role_at old i) =
    λ i. d.at i ∙ ap (cond (is_among (p + 1 + m) k i) role.Words)
    (c.at i ∙ ap (cond (is_among (p + 1) m i) (mr (i - (p + 1)))) (first i)) in
    let said : (i : ℕ) → role_in f r p i ≡ layers p m k mr r i role.Free =
    λ i. role_in_layers f r mr p n m k i en em ek er in
    let some : (j : ℕ) → mr j ≢ role.Free = λ j e. middle_some f r p j (sym (er j) ∙ e) in
    record {
      as_long = d.as_long ∙ (c.as_long ∙ length-set old p r);
      own = λ i h. now i ∙ layered (is_among (p + 1 + m) k i) (is_among (p + 1) m i) (is_among p 1
          i) role.Words (mr (i - (p + 1))) r (role_at old i) (λ e. h (said i ∙ e)) ∙ sym (said i);
      other = λ i h. now i
          ∙ uncovered (is_among (p + 1 + m) k i) (is_among (p + 1) m i) (is_among p 1 i) role.Words
          (mr (i - (p + 1))) r (role_at old i) words_some (some (i - (p + 1))) (start_some r start)
          (sym (said i) ∙ h);
      kept = λ i h.
          let ne : i ≢ p = λ e. h (ap (role_at old) e ∙ free) in
          let one : role_at (set old p r) i ≡ role_at old i = get_or-set_other old p i r role.Free
          ne in
          let two_is = c.kept i (λ e. h (sym one ∙ e)) in
          let three = d.kept i (λ e. h (sym one ∙ sym two_is ∙ e)) in
          three ∙ two_is ∙ one;
      lighter = let e = sum_by-set weight old p r role.Free lt in
          let none : weight r ≡ 0 = no_weight r (start_some r start) in
          let was : weight (role_at old p) ≡ 2 ^ 33 = ap weight free ∙ free_weight in
          let l1 = c.lighter in let l2 = d.lighter in omega (arith, e, none, was, l1, l2);
    }

-- why the middle isn't claimed is why the body isn't owned
pub middle_fails : (f : Numbered) (old : List Role) (r : Role) (mr : ℕ → Role) (p n m k : ℕ) (e :
    SwapError)
    → n ≡ count_in f r p → m ≡ middle_of r n → k ≡ members_of r n → ((j : ℕ) → mr j ≡ middle_at f r
    p j)
    → p < length old → FailsClaim (set old p r) (p + 1) m mr e → FailsOwning f old r p e
middle_fails f old r mr p n m k error.Outside en em ek er lt h =
    let i = h.0 in
    let some : mr (i - (p + 1)) ≢ role.Free =
    λ e. middle_some f r p (i - (p + 1)) (sym (er (i - (p + 1))) ∙ e) in (
      i,
      (
        λ e. covered (is_among (p + 1 + m) k i) (is_among (p + 1) m i) (is_among p 1 i) role.Words
            (mr (i - (p + 1))) r words_some some (inr h.1.0)
            (sym (role_in_layers f r mr p n m k i en em ek er) ∙ e),
        subst (λ (l : ℕ). l ≤ i) (length-set old p r) h.1.1,
      ),
    )
middle_fails f old r mr p n m k error.TwoRoles en em ek er lt h =
    let i = h.0 in
    let some : mr (i - (p + 1)) ≢ role.Free =
    λ e. middle_some f r p (i - (p + 1)) (sym (er (i - (p + 1))) ∙ e) in
    let said = role_in_layers f r mr p n m k i en em ek er in
    let one : role_at (set old p r) i ≡ role_at old i = set_first old p i r lt
    ∙ ap (λ b. cond b r (role_at old i)) (middle_not_first p m i h.1.0) in
    let its : role_in f r p i ≡ mr (i - (p + 1)) = said
    ∙ (ap (λ b. cond b role.Words (cond (is_among (p + 1) m i) (mr (i - (p + 1))) (cond (is_among p
    1 i) r
    role.Free)))
    (middle_no_member p m k i h.1.0)
    ∙ ap (λ b. cond b (mr (i - (p + 1))) (cond (is_among p 1 i) r role.Free)) h.1.0) in
    (i, (λ e. some (sym its ∙ e), λ e. h.1.1 (one ∙ e), λ e. h.1.2 (one ∙ e ∙ its)))
middle_fails f old r mr p n m k (error.Header x) en em ek er lt h = absurd h
middle_fails f old r mr p n m k error.Ebcdic en em ek er lt h = absurd h
middle_fails f old r mr p n m k error.OtherCharacters en em ek er lt h = absurd h
middle_fails f old r mr p n m k error.FirstVersion en em ek er lt h = absurd h
middle_fails f old r mr p n m k error.NoIndex en em ek er lt h = absurd h
middle_fails f old r mr p n m k error.UnknownType en em ek er lt h = absurd h
middle_fails f old r mr p n m k error.Collation en em ek er lt h = absurd h
middle_fails f old r mr p n m k error.NoMemory en em ek er lt h = absurd h

-- why the members aren't claimed is why the body isn't owned
pub members_fail : (f : Numbered) (old two : List Role) (r : Role) (mr : ℕ → Role) (p n m k : ℕ) (e
    : SwapError)
    → n ≡ count_in f r p → m ≡ middle_of r n → k ≡ members_of r n → ((j : ℕ) → mr j ≡ middle_at f r
    p j)
    → p < length old → Claimed (set old p r) two (p + 1) m mr
    → FailsClaim two (p + 1 + m) k (λ j. role.Words) e → FailsOwning f old r p e
members_fail f old two r mr p n m k error.Outside en em ek er lt c h =
    let i = h.0 in
    let some : mr (i - (p + 1)) ≢ role.Free =
    λ e. middle_some f r p (i - (p + 1)) (sym (er (i - (p + 1))) ∙ e) in (
      i,
      (
        λ e. covered (is_among (p + 1 + m) k i) (is_among (p + 1) m i) (is_among p 1 i) role.Words
            (mr (i - (p + 1))) r words_some some (inl h.1.0)
            (sym (role_in_layers f r mr p n m k i en em ek er) ∙ e),
        subst (λ (l : ℕ). l ≤ i) (c.as_long ∙ length-set old p r) h.1.1,
      ),
    )
members_fail f old two r mr p n m k error.TwoRoles en em ek er lt c h =
    let i = h.0 in
    let said = role_in_layers f r mr p n m k i en em ek er in
    let one : role_at (set old p r) i ≡ role_at old i = set_first old p i r lt
    ∙ ap (λ b. cond b r (role_at old i)) (member_not_first p m k i h.1.0) in
    let was : role_at two i ≡ role_at old i = c.at i
    ∙ (ap (λ b. cond b (mr (i - (p + 1))) (role_at (set old p r) i)) (member_no_middle p m k i
    h.1.0) ∙ one) in
    let its : role_in f r p i ≡ role.Words = said
    ∙ ap (λ b. cond b role.Words (cond (is_among (p + 1) m i) (mr (i - (p + 1))) (cond (is_among p
    1 i) r
    role.Free)))
    h.1.0 in
    (i, (λ e. words_some (sym its ∙ e), λ e. h.1.1 (was ∙ e), λ e. h.1.2 (was ∙ e ∙ its)))
members_fail f old two r mr p n m k (error.Header x) en em ek er lt c h = absurd h
members_fail f old two r mr p n m k error.Ebcdic en em ek er lt c h = absurd h
members_fail f old two r mr p n m k error.OtherCharacters en em ek er lt c h = absurd h
members_fail f old two r mr p n m k error.FirstVersion en em ek er lt c h = absurd h
members_fail f old two r mr p n m k error.NoIndex en em ek er lt c h = absurd h
members_fail f old two r mr p n m k error.UnknownType en em ek er lt c h = absurd h
members_fail f old two r mr p n m k error.Collation en em ek er lt c h = absurd h
members_fail f old two r mr p n m k error.NoMemory en em ek er lt c h = absurd h

-- the first word of a body has the body's kind
pub first_is : (f : Numbered) (r : Role) (p : ℕ) → role_in f r p p ≡ r
unfolding role_in
first_is f r p =
    ap (λ b. cond b role.Words (cond (is_among (p + 1) (middle_count f r p) p) (middle_at f r p (p
    - (p + 1)))
    (cond (is_among p 1 p) r role.Free)))
    (before_members p (middle_count f r p) (member_count f r p))
    ∙ (ap (λ b. cond b (middle_at f r p (p - (p + 1))) (cond (is_among p 1 p) r role.Free))
    (before_middle p
    (middle_count f r p))
    ∙ ap (λ b. cond b r role.Free) (among_itself p))
