-- A swapped file: its numbers are those of the file, so that the words which are reached, the roles
-- and the head are too.
use Rattle.std.proofs.Common.{◌≡◌, ◌≢◌, ℕ, ◌+◌, ◌-◌, ◌*◌, ◌/◌, ◌%◌, ◌<◌, ◌≤◌, List, length, Bool}
use Rattle.std.proofs.Common.{true}
use Rattle.std.proofs.Common.{false, cond, not, ◌==◌, ◌&&◌, nat_le, nat_lt}
use Rattle.std.proofs.Common.{refl, sym, ap, ◌∙◌, arith, inl, inr, subst}
use Rattle.std.proofs.lemmas.Bool.{cases_lt, false≢true}
use Rattle.std.proofs.lemmas.Bool.Decides.{nat_tests}
use Rattle.resb_swap.specs.Numbers.{Numbered, byte_in, unit_in, word_in, word_count}
use Rattle.resb_swap.specs.Bodies.{Reached, reached_root, reached_member, body_role, place_in}
use Rattle.resb_swap.specs.Bodies.{is_start}
use Rattle.resb_swap.specs.Bodies.{role_in, middle_of, members_of, middle_count}
use Rattle.resb_swap.specs.Bodies.{member_count, members_from, count_in, member_in, middle_at}
use Rattle.resb_swap.specs.Roles.{RolesOf, front_role, role_at, field_count, keys_end, block_end}
use Rattle.resb_swap.specs.Swapped.{turned, partner, is_order, is_indexed}
use Rattle.resb_swap.specs.declared.role.Role.{Role}
use Rattle.resb_swap.specs.declared.role.Role.TheVariants as role
use Rattle.resb_swap.specs.Inner.Front.{role_before}
use Rattle.resb_swap.proofs.OwningLemmas.{first_is, words_some, middle_some}
use Rattle.resb_swap.proofs.WalkLemmas.{free_or_not, starts, member_is, lies_inside, binary_word}
use Rattle.resb_swap.proofs.FrontLemmas.{inside_from}

-- a word of four bytes in a row that is one number
abbrev pub is_word : Role → Bool
is_word role.Words = true
is_word role.Text = true
is_word role.Binary = true
is_word role.Table32 = true
is_word role.Array = true
is_word role.Vector = true
is_word _ = false

pub word_turns : (r : Role) → is_word r ≡ true → (c : ℕ) → turned r c ≡ 3 - c
unfolding turned
word_turns role.Free h c = absurd (false≢true h)
word_turns role.Bytes h c = absurd (false≢true h)
word_turns role.Units h c = absurd (false≢true h)
word_turns role.Words h c = refl
word_turns role.OneUnit h c = absurd (false≢true h)
word_turns role.Order h c = absurd (false≢true h)
word_turns role.First h c = absurd (false≢true h)
word_turns role.Second h c = absurd (false≢true h)
word_turns role.Text h c = refl
word_turns role.Binary h c = refl
word_turns role.Table h c = absurd (false≢true h)
word_turns role.Table32 h c = refl
word_turns role.Array h c = refl
word_turns role.Vector h c = refl

-- such a word is its own partner, and names no order
word_own : (r : Role) → is_word r ≡ true → (i : ℕ) → partner r i ≡ i
word_own role.Free h i = absurd (false≢true h)
word_own role.Bytes h i = absurd (false≢true h)
word_own role.Units h i = absurd (false≢true h)
word_own role.Words h i = refl
word_own role.OneUnit h i = absurd (false≢true h)
word_own role.Order h i = absurd (false≢true h)
word_own role.First h i = absurd (false≢true h)
word_own role.Second h i = absurd (false≢true h)
word_own role.Text h i = refl
word_own role.Binary h i = refl
word_own role.Table h i = absurd (false≢true h)
word_own role.Table32 h i = refl
word_own role.Array h i = refl
word_own role.Vector h i = refl

word_plain : (r : Role) → is_word r ≡ true → is_order r ≡ false
word_plain role.Free h = absurd (false≢true h)
word_plain role.Bytes h = absurd (false≢true h)
word_plain role.Units h = absurd (false≢true h)
word_plain role.Words h = refl
word_plain role.OneUnit h = absurd (false≢true h)
word_plain role.Order h = absurd (false≢true h)
word_plain role.First h = absurd (false≢true h)
word_plain role.Second h = absurd (false≢true h)
word_plain role.Text h = refl
word_plain role.Binary h = refl
word_plain role.Table h = absurd (false≢true h)
word_plain role.Table32 h = refl
word_plain role.Array h = refl
word_plain role.Vector h = refl

-- the second file's bytes are the first one's, each word turned by its role; the orders differ
pub record Turned (f g : Numbered) (rs : List Role) : Type 0 where
  pub order : g.big ≡ not f.big
  pub as_many : word_count g ≡ word_count f
  pub each : length rs ≡ word_count f
  pub bytes : (i c : ℕ) → i < word_count f → c < 4
      → (is_order (role_at rs i) && c == 0) ≡ false → byte_in g (4 * i + c)
      ≡ byte_in f (4 * partner (role_at rs i) i + turned (role_at rs i) c)
  pub orders : (i : ℕ) → i < word_count f → role_at rs i ≡ role.Order
      → byte_in g (4 * i) ≡ 1 - byte_in f (4 * i)

binary_some : role.Binary ≢ role.Free
binary_some = λ e. cc

bytes_stay : (c : ℕ) → turned role.Bytes c ≡ c
unfolding turned
bytes_stay c = refl

-- a number in the other order of the same bytes is the number
flips : (b : Bool) (x y : ℕ) → cond (not b) x y ≡ cond b y x
flips true x y = refl
flips false x y = refl

module _ (f g : Numbered) (rs : List Role) (t : Turned f g rs) where
  inside : (i : ℕ) → role_at rs i ≢ role.Free → i < word_count f
  inside i some = subst (λ (n : ℕ). i < n) t.each (lies_inside rs i some)

  -- a byte of a word by its role
  pub byte_to : (i c d a b : ℕ) (r : Role) → i < word_count f → c < 4 → role_at rs i ≡ r
      → partner r i ≡ i → (is_order r && c == 0) ≡ false → turned r c ≡ d → 4 * i + c ≡ a
      → 4 * i + d ≡ b → byte_in g a ≡ byte_in f b
  byte_to i c d a b r lt l e own plain to ea eb =
      ap (byte_in g) (sym ea)
      ∙ (t.bytes i c lt l (ap (λ (x : Role). is_order x && c == 0) e ∙ plain)
      ∙ (ap (λ (x : Role). byte_in f (4 * partner x i + turned x c)) e
      ∙ (ap (λ (j : ℕ). byte_in f (4 * j + turned r c)) own
      ∙ (ap (λ (x : ℕ). byte_in f (4 * i + x)) to ∙ ap (byte_in f) eb))))

  word_byte : (i c d a b : ℕ) → i < word_count f → is_word (role_at rs i) ≡ true → c < 4 → 3 - c ≡ d
      → 4 * i + c ≡ a → 4 * i + d ≡ b → byte_in g a ≡ byte_in f b
  word_byte i c d a b lt h l e ea eb =
      byte_to i c d a b (role_at rs i) lt l refl (word_own (role_at rs i) h i)
      (ap (λ b. b && c == 0) (word_plain (role_at rs i) h)) (word_turns (role_at rs i) h c ∙ e) ea
      eb

  -- a number of 32 bits is mirrored
  pub word_same : (i : ℕ) → i < word_count f → is_word (role_at rs i) ≡ true
      → word_in g i ≡ word_in f i
  unfolding word_in
  word_same i lt h =
      let e0 : byte_in g (4 * i) ≡ byte_in f (4 * i + 3) =
      word_byte i 0 3 (4 * i) (4 * i + 3) lt h (omega arith) refl (omega arith) refl in
      let e1 : byte_in g (4 * i + 1) ≡ byte_in f (4 * i + 2) =
      word_byte i 1 2 (4 * i + 1) (4 * i + 2) lt h (omega arith) refl refl refl in
      let e2 : byte_in g (4 * i + 2) ≡ byte_in f (4 * i + 1) =
      word_byte i 2 1 (4 * i + 2) (4 * i + 1) lt h (omega arith) refl refl refl in
      let e3 : byte_in g (4 * i + 3) ≡ byte_in f (4 * i) =
      word_byte i 3 0 (4 * i + 3) (4 * i) lt h (omega arith) refl refl (omega arith) in
      rw (t.order, e0, e1, e2, e3) (flips f.big _ _)

  table_byte : (i c d a b : ℕ) → i < word_count f → role_at rs i ≡ role.Table → c < 4
      → turned role.Table c ≡ d → 4 * i + c ≡ a → 4 * i + d ≡ b → byte_in g a ≡ byte_in f b
  table_byte i c d a b lt h l e ea eb =
      byte_to i c d a b role.Table lt l h refl refl e ea eb

  -- the first unit of a table is mirrored
  unit_same : (i : ℕ) → i < word_count f → role_at rs i ≡ role.Table → unit_in g i ≡ unit_in f i
  unfolding unit_in turned
  unit_same i lt h =
      let e0 : byte_in g (4 * i) ≡ byte_in f (4 * i + 1) =
      table_byte i 0 1 (4 * i) (4 * i + 1) lt h (omega arith) refl (omega arith) refl in
      let e1 : byte_in g (4 * i + 1) ≡ byte_in f (4 * i) =
      table_byte i 1 0 (4 * i + 1) (4 * i) lt h (omega arith) refl refl (omega arith) in
      rw (t.order, e0, e1) (flips f.big _ _)

  count_by_word : (r : Role) (p : ℕ) → is_word r ≡ true → role_at rs p ≡ r → role_at rs p ≢
      role.Free
      → word_in g p ≡ word_in f p
  count_by_word r p h e some = word_same p (inside p some) (ap is_word e ∙ h)

  -- the number that a body begins with is mirrored
  pub count_same : (r : Role) (p : ℕ) → is_start r ≡ true → role_at rs p ≡ r
      → role_at rs p ≢ role.Free → count_in g r p ≡ count_in f r p
  count_same role.Free p st e some = absurd (false≢true st)
  count_same role.Bytes p st e some = absurd (false≢true st)
  count_same role.Units p st e some = absurd (false≢true st)
  count_same role.Words p st e some = absurd (false≢true st)
  count_same role.OneUnit p st e some = absurd (false≢true st)
  count_same role.Order p st e some = absurd (false≢true st)
  count_same role.First p st e some = absurd (false≢true st)
  count_same role.Second p st e some = absurd (false≢true st)
  count_same role.Text p st e some = count_by_word role.Text p refl e some
  count_same role.Binary p st e some = count_by_word role.Binary p refl e some
  count_same role.Table p st e some = unit_same p (inside p some) e
  count_same role.Table32 p st e some = count_by_word role.Table32 p refl e some
  count_same role.Array p st e some = count_by_word role.Array p refl e some
  count_same role.Vector p st e some = count_by_word role.Vector p refl e some

abbrev lies : ℕ → ℕ → ℕ → ℕ → Bool
lies fields keys block n = (nat_le 5 fields && nat_lt fields n) && (nat_le keys n && nat_le block n)

module _ (f g : Numbered) (rs : List Role) (t : Turned f g rs) (h : RolesOf f rs)
    (ok : is_indexed f ≡ true) where
  front_words : (i : ℕ) → i ≤ field_count f → role_at rs i ≡ role.Words
  unfolding front_role
  front_words i le =
      let e : nat_le i (field_count f) ≡ true = grind (arith, nat_tests) in
      let is : front_role f i ≡ role.Words = rw e refl in
      h.front i (λ z. words_some (sym is ∙ z)) ∙ is

  front_same_word : (i : ℕ) → i ≤ field_count f → word_in g i ≡ word_in f i
  front_same_word i le =
      word_same f g rs t i (let n = (inside_from f ok).fields in omega (arith, le, n))
      (ap is_word (front_words i le))

  root_same : word_in g 0 ≡ word_in f 0
  root_same = front_same_word 0 (omega arith)

  fields_same : field_count g ≡ field_count f
  fields_same = ap (λ (n : ℕ). n % 256) (front_same_word 1 (let n = (inside_from f ok).five in
      omega (arith, n)))

  keys_same : keys_end g ≡ keys_end f
  keys_same = front_same_word 2 (let n = (inside_from f ok).five in omega (arith, n))

  block_same : block_end g ≡ block_end f
  block_same = elim (cases_lt (field_count f) 7) [
    | inl less ↦ (
        let e : nat_le 7 (field_count f) ≡ false = grind (arith, nat_tests) in
        rw (fields_same, e) keys_same
        )
    | inr enough ↦ (
        let e : nat_le 7 (field_count f) ≡ true = grind (arith, nat_tests) in
        rw (fields_same, e) (front_same_word 7 enough)
        )
  ]

  pub front_same : (i : ℕ) → front_role g i ≡ front_role f i
  unfolding front_role
  front_same i =
      ap (λ (n : ℕ). role_before i n (keys_end g) (block_end g)) fields_same
      ∙ (ap (λ (n : ℕ). role_before i (field_count f) n (block_end g)) keys_same
      ∙ ap (λ (n : ℕ). role_before i (field_count f) (keys_end f) n) block_same)

  pub indexed_same : is_indexed g ≡ is_indexed f
  indexed_same =
      ap (λ (n : ℕ). lies n (keys_end g) (block_end g) (word_count g)) fields_same
      ∙ (ap (λ (n : ℕ). lies (field_count f) n (block_end g) (word_count g)) keys_same
      ∙ (ap (λ (n : ℕ). lies (field_count f) (keys_end f) n (word_count g)) block_same
      ∙ ap (λ (n : ℕ). lies (field_count f) (keys_end f) (block_end f) n) t.as_many))

  owned_by : (w : ℕ) → Reached f w → body_role w ≢ role.Free
      → role_at rs (place_in w) ≡ body_role w
  owned_by w r some =
      h.bodies w (place_in w) r (λ e. some (sym (first_is f (body_role w) (place_in w)) ∙ e))
      ∙ first_is f (body_role w) (place_in w)

  -- whatever is counted by the kind of a body and its number is the same
  counted : (w : ℕ) → Reached f w → (F : Role → ℕ → ℕ)
      → ((a b : ℕ) → F role.Free a ≡ F role.Free b)
      → F (body_role w) (count_in g (body_role w) (place_in w))
      ≡ F (body_role w) (count_in f (body_role w) (place_in w))
  counted w r F none = elim (free_or_not (body_role w)) [
    | inl free ↦ (
        let P : Role → Type 0 = λ x. F x (count_in g x (place_in w)) ≡ F x (count_in f x (place_in
        w)) in
        subst P (sym free) (none (count_in g role.Free (place_in w)) (count_in f role.Free
        (place_in w)))
        )
    | inr some ↦ (
        let e = owned_by w r some in
        ap (F (body_role w)) (count_same f g rs t (body_role w) (place_in w) (starts w some) e
        (λ z. some (sym e ∙ z)))
        )
  ]

  pub members_same : (w : ℕ) → Reached f w
      → member_count g (body_role w) (place_in w) ≡ member_count f (body_role w) (place_in w)
  members_same w r = counted w r members_of (λ a b. refl)

  pub middle_same : (w : ℕ) → Reached f w
      → middle_count g (body_role w) (place_in w) ≡ middle_count f (body_role w) (place_in w)
  middle_same w r = counted w r middle_of (λ a b. refl)

  member_same : (w k : ℕ) → Reached f w → k < member_count f (body_role w) (place_in w)
      → member_in g (body_role w) (place_in w) k ≡ member_in f (body_role w) (place_in w) k
  member_same w k r lt =
      let at : ℕ = members_from f (body_role w) (place_in w) + k in
      let is = member_is f (body_role w) (place_in w) k lt in
      let has : role_at rs at ≡ role.Words = h.bodies w at r (λ e. words_some (sym is ∙ e)) ∙ is in
      ap (λ (m : ℕ). word_in g (place_in w + 1 + m + k)) (middle_same w r)
      ∙ word_same f g rs t at (inside f g rs t at (λ e. words_some (sym has ∙ e))) (ap is_word has)

  pub reached_to : (w : ℕ) → Reached f w → Reached g w
  reached_to _ reached_root = let P : ℕ → Type 0 = Reached g in subst P root_same reached_root
  reached_to _ (reached_member {w} k r lt) =
      let P : ℕ → Type 0 = Reached g in
      subst P (member_same w k r lt) (reached_member k (reached_to w r)
      (subst (λ (n : ℕ). k < n) (sym (members_same w r)) lt))

  pub reached_from : (w : ℕ) → Reached g w → Reached f w
  reached_from _ reached_root = let P : ℕ → Type 0 = Reached f in subst P (sym root_same)
      reached_root
  reached_from _ (reached_member {w} k r lt) =
      let from = reached_from w r in
      let less = subst (λ (n : ℕ). k < n) (members_same w from) lt in
      let P : ℕ → Type 0 = Reached f in
      subst P (sym (member_same w k from less)) (reached_member k from less)

  -- word k of the data in a binary that is reached
  pub data_role : (w k : ℕ) → Reached f w → body_role w ≡ role.Binary
      → k < (word_in f (place_in w) + 3) / 4
      → role_at rs (place_in w + 1 + k) ≡ middle_at f role.Binary (place_in w) k
  data_role w k r b lt =
      let p : ℕ = place_in w in
      let its : role_in f (body_role w) p (p + 1 + k) ≡ middle_at f role.Binary p k =
      ap (λ (x : Role). role_in f x p (p + 1 + k)) b ∙ binary_word f p k lt in
      h.bodies w (p + 1 + k) r (λ z. middle_some f role.Binary p k (sym its ∙ z)) ∙ its

  pub data_inside : (w k : ℕ) → Reached f w → body_role w ≡ role.Binary
      → k < (word_in f (place_in w) + 3) / 4 → place_in w + 1 + k < word_count f
  data_inside w k r b lt =
      let e = data_role w k r b lt in
      inside f g rs t (place_in w + 1 + k) (λ z. middle_some f role.Binary (place_in w) k (sym e ∙
      z))

  pub number_same : (w : ℕ) → Reached f w → body_role w ≡ role.Binary
      → word_in g (place_in w) ≡ word_in f (place_in w)
  number_same w r b =
      let some : body_role w ≢ role.Free = λ e. binary_some (sym b ∙ e) in
      let e = owned_by w r some in
      count_by_word f g rs t role.Binary (place_in w) refl (e ∙ b) (λ z. some (sym e ∙ z))

  -- a byte of the data that stays, by the role of its word
  pub stays : (w k c a : ℕ) (x : Role) → Reached f w → body_role w ≡ role.Binary
      → k < (word_in f (place_in w) + 3) / 4 → middle_at f role.Binary (place_in w) k ≡ x → c < 4
      → partner x (place_in w + 1 + k) ≡ place_in w + 1 + k → (is_order x && c == 0) ≡ false
      → turned x c ≡ c → 4 * (place_in w + 1 + k) + c ≡ a → byte_in g a ≡ byte_in f a
  stays w k c a x r b lt e l own plain to ea =
      byte_to f g rs t (place_in w + 1 + k) c c a a x (data_inside w k r b lt) l
      (data_role w k r b lt ∙ e) own plain to ea ea
