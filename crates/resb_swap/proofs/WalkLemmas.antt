-- The walk: what stands when it begins, what a step keeps, and what stands at its end.
use Rattle.std.proofs.Common.{◌≡◌, ◌≢◌, ℕ, ◌+◌, ◌-◌, ◌/◌, ◌<◌, ◌≤◌, ◌⊎◌, List, [], ◌∷◌, ◌++◌}
use Rattle.std.proofs.Common.{length}
use Rattle.std.proofs.Common.{Bool, true, false, cond, ◌==◌}
use Rattle.std.proofs.Common.{refl, sym, ap, ◌∙◌, arith, inl, inr, subst, Contains, length-append}
use Rattle.std.proofs.lemmas.Bool.{cases_lt, false≢true}
use Rattle.std.proofs.lemmas.Bool.Decides.{nat_tests}
use Rattle.std.proofs.lemmas.List.{get_or_past}
use Rattle.std.proofs.lemmas.List.Elements.{Contains-append_left, Contains-push}
use Rattle.std.proofs.lemmas.List.Elements.{Contains-push_cases}
use Rattle.resb_swap.specs.Numbers.{Numbered, word_in, word_count}
use Rattle.resb_swap.specs.Bodies.{Reached, reached_root, reached_member, body_role, place_in}
use Rattle.resb_swap.specs.Bodies.{type_in, is_type, is_start}
use Rattle.resb_swap.specs.Bodies.{is_among, role_in, middle_at, middle_count, member_count}
use Rattle.resb_swap.specs.Bodies.{members_from, member_in}
use Rattle.resb_swap.specs.Collation.{is_collation, is_whole}
use Rattle.resb_swap.specs.Roles.{RolesOf, Sourced, role_at}
use Rattle.resb_swap.specs.Faults.{IsBodyFault}
use Rattle.resb_swap.specs.Inner.Claims.{Owned, FailsOwning}
use Rattle.resb_swap.specs.Inner.Front.{FrontRoles}
use Rattle.resb_swap.specs.Inner.Walk.{IsEntered, IsNamed, HasBody, Walking, Appends}
use Rattle.resb_swap.specs.declared.role.Role.{Role}
use Rattle.resb_swap.specs.declared.role.Role.TheVariants as role
use Rattle.resb_swap.specs.declared.error.SwapError.{SwapError}
use Rattle.resb_swap.specs.declared.error.SwapError.TheVariants as error
use Rattle.resb_swap.proofs.OwningLemmas.{picks, first_is, words_some, middle_any, middle_some}
use Rattle.resb_swap.proofs.FrontLemmas.{front_no_start}

-- a word is free, or it isn't
pub free_or_not : (r : Role) → (r ≡ role.Free) ⊎ (r ≢ role.Free)
free_or_not role.Free = inl refl
free_or_not role.Bytes = inr (λ e. cc)
free_or_not role.Units = inr (λ e. cc)
free_or_not role.Words = inr (λ e. cc)
free_or_not role.OneUnit = inr (λ e. cc)
free_or_not role.Order = inr (λ e. cc)
free_or_not role.First = inr (λ e. cc)
free_or_not role.Second = inr (λ e. cc)
free_or_not role.Text = inr (λ e. cc)
free_or_not role.Binary = inr (λ e. cc)
free_or_not role.Table = inr (λ e. cc)
free_or_not role.Table32 = inr (λ e. cc)
free_or_not role.Array = inr (λ e. cc)
free_or_not role.Vector = inr (λ e. cc)

abbrev StartsOrNot : Role → Type 0
StartsOrNot r = (r ≡ role.Free) ⊎ (is_start r ≡ true)

-- a word leads to no body, or to one of a kind
pub body_starts : (w : ℕ) → StartsOrNot (body_role w)
unfolding body_role
body_starts w =
    let t = type_in w in
    picks StartsOrNot (place_in w == 0) role.Free _ (inl refl)
    (picks StartsOrNot (t == 0) role.Text _ (inr refl)
    (picks StartsOrNot (t == 1) role.Binary _ (inr refl)
    (picks StartsOrNot (t == 2) role.Table _ (inr refl)
    (picks StartsOrNot (t == 3) role.Text _ (inr refl)
    (picks StartsOrNot (t == 4) role.Table32 _ (inr refl)
    (picks StartsOrNot (t == 8) role.Array _ (inr refl)
    (picks StartsOrNot (t == 14) role.Vector role.Free (inr refl) (inl refl))))))))

pub starts : (w : ℕ) → body_role w ≢ role.Free → is_start (body_role w) ≡ true
starts w h = elim (body_starts w) [ inl e ↦ absurd (h e) | inr e ↦ e ]

pub middle_no_start : (f : Numbered) (r : Role) (p k : ℕ) → is_start (middle_at f r p k) ≡ false
middle_no_start = middle_any (λ r. is_start r ≡ false) refl refl refl refl refl refl refl

-- of three layers only the last begins a body
pub layer_starts : (a b c : Bool) (y z : Role) → is_start y ≡ false
    → is_start (cond a role.Words (cond b y (cond c z role.Free))) ≡ true → c ≡ true
layer_starts true b c y z h e = absurd (false≢true e)
layer_starts false true c y z h e = absurd (false≢true (sym h ∙ e))
layer_starts false false true y z h e = refl
layer_starts false false false y z h e = absurd (false≢true e)

pub among_one : (p i : ℕ) → is_among p 1 i ≡ true → i ≡ p
among_one p i h = grind (arith, nat_tests)

-- a body begins at its first word alone
pub start_first : (f : Numbered) (r : Role) (p i : ℕ) → is_start (role_in f r p i) ≡ true → i ≡ p
unfolding role_in
start_first f r p i h =
    among_one p i (layer_starts (is_among (members_from f r p) (member_count f r p) i)
    (is_among (p + 1) (middle_count f r p) i) (is_among p 1 i) (middle_at f r p (i - (p + 1))) r
    (middle_no_start f r p (i - (p + 1))) h)

pub none_among : (p i : ℕ) → is_among p 0 i ≡ false
none_among p i = grind (arith, nat_tests)

pub among_from : (p n k : ℕ) → k < n → is_among p n (p + k) ≡ true
among_from p n k lt = grind (arith, nat_tests)

pub no_layers : (a b c : Bool) (x y : Role) → a ≡ false → b ≡ false
    → cond a x (cond b y (cond c role.Free role.Free)) ≡ role.Free
no_layers true b c x y ha hb = absurd (false≢true (sym ha))
no_layers false true c x y ha hb = absurd (false≢true (sym hb))
no_layers false false true x y ha hb = refl
no_layers false false false x y ha hb = refl

-- what leads to no body has no words
pub no_body : (f : Numbered) (p i : ℕ) → role_in f role.Free p i ≡ role.Free
unfolding role_in
no_body f p i =
    no_layers (is_among (members_from f role.Free p) 0 i) (is_among (p + 1) 0 i) (is_among p 1 i)
    role.Words (middle_at f role.Free p (i - (p + 1))) (none_among (members_from f role.Free p) i)
    (none_among (p + 1) i)

-- the members of a body are words
pub member_is : (f : Numbered) (r : Role) (p k : ℕ) → k < member_count f r p
    → role_in f r p (members_from f r p + k) ≡ role.Words
unfolding role_in
member_is f r p k h =
    ap (λ b. cond b role.Words (cond (is_among (p + 1) (middle_count f r p) (members_from f r p +
    k))
    (middle_at f r p (members_from f r p + k - (p + 1))) (cond (is_among p 1 (members_from f r p +
    k)) r role.Free)))
    (among_from (members_from f r p) (member_count f r p) k h)

-- a word with a role lies inside
pub lies_inside : (rs : List Role) (i : ℕ) → role_at rs i ≢ role.Free → i < length rs
lies_inside rs i h = elim (cases_lt i (length rs)) [
  | inl lt ↦ lt
  | inr ge ↦ absurd (h (get_or_past rs i role.Free ge))
]

module _ (f : Numbered) (old new : List Role) (todo next : List ℕ) (w : ℕ) where
  abbrev Entering : Type 0
  Entering =
      Walking f old (todo ++ w ∷ []) × (is_type (type_in w) ≡ true)
      × (body_role w ≢ role.Free) × Owned f old new (body_role w) (place_in w)
      × (body_role w ≡ role.Binary → is_collation f (place_in w) ≡ true
      → is_whole f (place_in w) ≡ true)
      × Appends f todo next (body_role w) (place_in w) (member_count f (body_role w) (place_in w))

  -- the word that is entered
  this_entered : Entering → IsEntered new w
  this_entered h = (
    h.1,
    inr (
        h.3.own (place_in w) (λ e. h.2 (sym (first_is f (body_role w) (place_in w)) ∙ e))
        ∙ first_is f (body_role w) (place_in w)),
  )

  entered_stays : Entering → (v : ℕ) → IsEntered old v → IsEntered new v
  entered_stays h v e = elim (free_or_not (body_role v)) [
    | inl free ↦ (e.0, inl free)
    | inr some ↦ (
      e.0,
      elim e.1 [
        | inl free ↦ absurd (some free)
        | inr has ↦ inr (h.3.kept (place_in v) (λ z. some (sym has ∙ z)) ∙ has)
      ],
    )
  ]

  named_stays : Entering → (v : ℕ) → IsNamed old (todo ++ w ∷ []) v → IsNamed new next v
  named_stays h v n = elim n [
    | inl e ↦ inl (entered_stays h v e)
    | inr c ↦ elim (Contains-push_cases todo w v c) [
      | inl there ↦ inr (h.5.old_stay v there)
      | inr same ↦ inl (let P : ℕ → Type 0 = IsEntered new in subst P same (this_entered h))
    ]
  ]

  word_reached : Entering → Reached f w
  word_reached h = h.0.waiting w (Contains-push todo w)

  source_stays : Entering → (i : ℕ) → Sourced f i (role_at new i)
  source_stays h i = elim (free_or_not (role_in f (body_role w) (place_in w) i)) [
    | inl none ↦ (let P : Role → Type 0 = Sourced f i in subst P (sym (h.3.other i none)) (h.0.only
        i))
    | inr some ↦ inr (inr (w, (word_reached h, h.3.own i some)))
  ]

  body_stays : Entering → (p : ℕ) → is_start (role_at old p) ≡ true
      → HasBody f new next (role_at old p) p
  body_stays h p st = let b = h.0.bodies p st in record {
    owns = λ i some. h.3.kept i (λ e. some (sym (b.owns i some) ∙ e)) ∙ b.owns i some;
    members = λ k lt. named_stays h _ (b.members k lt);
    plain = b.plain;
  }

  new_body : Entering → HasBody f new next (body_role w) (place_in w)
  new_body h = record {
    owns = h.3.own;
    members = λ k lt. inr (h.5.members k lt);
    plain = h.4;
  }

  bodies_stay : Entering → (p : ℕ) → is_start (role_at new p) ≡ true
      → HasBody f new next (role_at new p) p
  bodies_stay h p st = elim (free_or_not (role_in f (body_role w) (place_in w) p)) [
    | inl none ↦ (
        let same = h.3.other p none in
        let P : Role → Type 0 = λ r. HasBody f new next r p in
        subst P (sym same) (body_stays h p (sym (ap is_start same) ∙ st))
        )
    | inr some ↦ (
        let same = h.3.own p some in
        let here : p ≡ place_in w =
        start_first f (body_role w) (place_in w) p (sym (ap is_start same) ∙ st) in
        let is : role_at new p ≡ body_role w = same
        ∙ (ap (role_in f (body_role w) (place_in w)) here
        ∙ first_is f (body_role w) (place_in w)) in
        let P : Role → Type 0 = λ r. HasBody f new next r p in
        let Q : ℕ → Type 0 = λ q. HasBody f new next (body_role w) q in
        subst P (sym is) (subst Q (sym here) (new_body h))
        )
  ]

  waits_reached : Entering → (v : ℕ) → Contains next v → Reached f v
  waits_reached h v c = elim (h.5.no_others v c) [
    | inl there ↦ h.0.waiting v (Contains-append_left todo (w ∷ []) v there)
    | inr m ↦ (let P : ℕ → Type 0 = Reached f in
        subst P (sym m.1.1) (reached_member m.0 (word_reached h) m.1.0))
  ]

  -- a body is entered
  pub walks : Entering → Walking f new next
  walks h = record {
    each = h.3.as_long ∙ h.0.each;
    front = λ i some. h.3.kept i (λ e. some (sym (h.0.front i some) ∙ e)) ∙ h.0.front i some;
    only = source_stays h;
    waiting = waits_reached h;
    bodies = bodies_stay h;
    root = named_stays h _ h.0.root;
  }

-- the words of a body that is owned lie inside
pub owned_inside : (f : Numbered) (old new : List Role) (r : Role) (p i : ℕ)
    → length old ≡ word_count f → Owned f old new r p → role_in f r p i ≢ role.Free
    → i < word_count f
owned_inside f old new r p i e h some =
    let lt = lies_inside new i (λ z. some (sym (h.own i some) ∙ z)) in
    subst (λ (n : ℕ). i < n) (h.as_long ∙ e) lt

pub first_inside : (f : Numbered) (old new : List Role) (r : Role) (p : ℕ)
    → length old ≡ word_count f → Owned f old new r p → r ≢ role.Free → p < word_count f
first_inside f old new r p e h some =
    owned_inside f old new r p p e h (λ z. some (sym (first_is f r p) ∙ z))

pub members_inside : (f : Numbered) (old new : List Role) (r : Role) (p : ℕ)
    → length old ≡ word_count f → Owned f old new r p → (k : ℕ) → k < member_count f r p
    → members_from f r p + k < word_count f
members_inside f old new r p e h k lt =
    owned_inside f old new r p (members_from f r p + k) e h
    (λ z. words_some (sym (member_is f r p k lt) ∙ z))

pub among_binary : (p n i : ℕ) → i < (n + 3) / 4 → is_among (p + 1) ((n + 3) / 4) (p + 1 + i) ≡ true
among_binary p n i lt = grind (arith, nat_tests)

-- a word behind the number of a binary has its role there
pub binary_word : (f : Numbered) (p i : ℕ) → i < (word_in f p + 3) / 4
    → role_in f role.Binary p (p + 1 + i) ≡ middle_at f role.Binary p i
unfolding role_in
binary_word f p i lt =
    let e : p + 1 + i - (p + 1) ≡ i = omega arith in
    ap (λ b. cond b role.Words (cond (is_among (p + 1) (middle_count f role.Binary p) (p + 1 + i))
    (middle_at f role.Binary p (p + 1 + i - (p + 1))) (cond (is_among p 1 (p + 1 + i)) role.Binary
    role.Free)))
    (none_among (members_from f role.Binary p) (p + 1 + i))
    ∙ (ap (λ b. cond b (middle_at f role.Binary p (p + 1 + i - (p + 1)))
    (cond (is_among p 1 (p + 1 + i)) role.Binary role.Free))
    (among_binary p (word_in f p) i lt)
    ∙ ap (middle_at f role.Binary p) e)

pub binary_inside : (f : Numbered) (old new : List Role) (r : Role) (p : ℕ)
    → length old ≡ word_count f → Owned f old new r p → r ≡ role.Binary → 16 ≤ word_in f p
    → p + 4 < word_count f
binary_inside f old new r p e h is long =
    let P : Role → Type 0 = λ x. Owned f old new x p in
    let lt : 3 < (word_in f p + 3) / 4 = omega (arith, long) in
    let inside = owned_inside f old new role.Binary p (p + 1 + 3) e (subst P is h)
    (λ z. middle_some f role.Binary p 3 (sym (binary_word f p 3 lt) ∙ z)) in
    omega (arith, inside)

-- a body is entered, of which kind and place are told
pub enters : (f : Numbered) (old new : List Role) (todo next : List ℕ) (w : ℕ) (r : Role) (p : ℕ)
    → r ≡ body_role w → p ≡ place_in w → Walking f old (todo ++ w ∷ [])
    → is_type (type_in w) ≡ true → r ≢ role.Free → Owned f old new r p
    → (r ≡ role.Binary → is_collation f p ≡ true → is_whole f p ≡ true)
    → Appends f todo next r p (member_count f r p) → Walking f new next
enters f old new todo next w r p er ep walking typed some owned plain added =
    let P : Role → Type 0 = λ x. Owned f old new x p in
    let Q : ℕ → Type 0 = λ q. Owned f old new (body_role w) q in
    let A : Role → Type 0 = λ x. Appends f todo next x p (member_count f x p) in
    let B : ℕ → Type 0 = λ q. Appends f todo next (body_role w) q (member_count f (body_role w) q)
    in
    walks f old new todo next w (
      walking,
      typed,
      (λ e. some (er ∙ e)),
      subst Q ep (subst P er owned),
      (λ e t. ap (is_whole f) (sym ep) ∙ plain (er ∙ e) (ap (is_collation f) ep ∙ t)),
      subst B ep (subst A er added),
    )

pub faulty : (f : Numbered) (old : List Role) (todo : List ℕ) (w : ℕ) (e : SwapError)
    → Walking f old (todo ++ w ∷ []) → FailsOwning f old (body_role w) (place_in w) e
    → IsBodyFault f e
faulty f old todo w error.Outside h fails = (
  w,
  (
    fails.0,
    (
      h.waiting w (Contains-push todo w),
      fails.1.0,
      subst (λ (n : ℕ). n ≤ fails.0) h.each fails.1.1,
    ),
  ),
)
faulty f old todo w error.TwoRoles h fails = (
  w,
  (
    fails.0,
    (
      role_at old fails.0,
      (
        h.waiting w (Contains-push todo w),
        fails.1.0,
        h.only fails.0,
        fails.1.1,
        fails.1.2,
      ),
    ),
  ),
)
faulty f old todo w (error.Header x) h fails = absurd fails
faulty f old todo w error.Ebcdic h fails = absurd fails
faulty f old todo w error.OtherCharacters h fails = absurd fails
faulty f old todo w error.FirstVersion h fails = absurd fails
faulty f old todo w error.NoIndex h fails = absurd fails
faulty f old todo w error.UnknownType h fails = absurd fails
faulty f old todo w error.Collation h fails = absurd fails
faulty f old todo w error.NoMemory h fails = absurd fails

-- why a body isn't owned is what is wrong with the file
pub owning_fails : (f : Numbered) (old : List Role) (todo : List ℕ) (w : ℕ) (r : Role) (p : ℕ)
    (e : SwapError) → r ≡ body_role w → p ≡ place_in w → Walking f old (todo ++ w ∷ [])
    → FailsOwning f old r p e → IsBodyFault f e
owning_fails f old todo w r p e er ep h fails =
    let P : Role → Type 0 = λ x. FailsOwning f old x p e in
    let Q : ℕ → Type 0 = λ q. FailsOwning f old (body_role w) q e in
    faulty f old todo w e h (subst Q ep (subst P er fails))

-- one more member waits
pub appends_none : (f : Numbered) (old : List ℕ) (r : Role) (p : ℕ) → Appends f old old r p 0
appends_none f old r p = record {
  old_stay = λ w h. h;
  members = λ k lt. absurd (omega (arith, lt));
  no_others = λ w h. inl h;
  as_many = omega arith;
}

pub appends_more : (f : Numbered) (old new : List ℕ) (r : Role) (p n x : ℕ)
    → Appends f old new r p n → x ≡ member_in f r p n → Appends f old (new ++ x ∷ []) r p (n + 1)
appends_more f old new r p n x h e = record {
  old_stay = λ w c. Contains-append_left new (x ∷ []) w (h.old_stay w c);
  members = λ k lt. elim (cases_lt k n) [
    | inl less ↦ Contains-append_left new (x ∷ []) (member_in f r p k) (h.members k less)
    | inr ge ↦ (
        let same : k ≡ n = omega (arith, lt, ge) in
        let P : ℕ → Type 0 = λ v. Contains (new ++ x ∷ []) v in
        subst P (e ∙ ap (member_in f r p) (sym same)) (Contains-push new x)
        )
  ];
  no_others = λ w c. elim (Contains-push_cases new x w c) [
    | inl there ↦ elim (h.no_others w there) [
      | inl was ↦ inl was
      | inr m ↦ inr (m.0, (omega (arith, m.1.0), m.1.1))
    ]
    | inr same ↦ inr (n, (omega arith, sym same ∙ e))
  ];
  as_many = simp length-append (let l = h.as_many in omega (arith, l));
}

-- a word that leads to no new body no longer waits
pub passes : (f : Numbered) (rs : List Role) (todo : List ℕ) (w : ℕ)
    → Walking f rs (todo ++ w ∷ []) → IsEntered rs w → Walking f rs todo
passes f rs todo w h e =
    let named : (v : ℕ) → IsNamed rs (todo ++ w ∷ []) v → IsNamed rs todo v = λ v n. elim n [
      | inl x ↦ inl x
      | inr c ↦ elim (Contains-push_cases todo w v c) [
        | inl there ↦ inr there
        | inr same ↦ inl (let P : ℕ → Type 0 = IsEntered rs in subst P same e)
      ]
    ] in
    record {
      each = h.each;
      front = h.front;
      only = h.only;
      waiting = λ v c. h.waiting v (Contains-append_left todo (w ∷ []) v c);
      bodies = λ p st. let b = h.bodies p st in
          record { owns = b.owns; members = λ k lt. named _ (b.members k lt); plain = b.plain };
      root = named _ h.root;
    }

-- the walk begins with the root's word
pub begins : (f : Numbered) (rs : List Role) → FrontRoles f rs
    → Walking f rs ([] ++ word_in f 0 ∷ [])
begins f rs h = record {
  each = h.each;
  front = λ i some. h.roles i;
  only = λ i. inr (inl (h.roles i));
  waiting = λ v c. elim (Contains-push_cases [] (word_in f 0) v c) [
    | inl none ↦ absurd (omega (arith, none.1))
    | inr same ↦ (let P : ℕ → Type 0 = Reached f in subst P same reached_root)
  ];
  bodies = λ p st. absurd (false≢true (sym (front_no_start f p) ∙ (sym (ap is_start (h.roles p)) ∙
      st)));
  root = inr (Contains-push [] (word_in f 0));
}

-- when none waits, all words that are reached were walked
module _ (f : Numbered) (rs : List Role) (h : Walking f rs []) where
  named_entered : (v : ℕ) → IsNamed rs [] v → IsEntered rs v
  named_entered v n = elim n [ inl e ↦ e | inr c ↦ absurd (omega (arith, c.1)) ]

  body_of_word : (w : ℕ) → IsEntered rs w → body_role w ≢ role.Free
      → HasBody f rs [] (body_role w) (place_in w)
  body_of_word w e some = elim e.1 [
    | inl free ↦ absurd (some free)
    | inr has ↦ (let P : Role → Type 0 = λ r. HasBody f rs [] r (place_in w) in
        subst P has (h.bodies (place_in w) (ap is_start has ∙ starts w some)))
  ]

  no_members : (w k : ℕ) → body_role w ≡ role.Free
      → k < member_count f (body_role w) (place_in w) → ⊥
  no_members w k free lt =
      let P : Role → Type 0 = λ r. k < member_count f r (place_in w) in
      let none : k < 0 = subst P free lt in omega (arith, none)

  entered_all : (w : ℕ) → Reached f w → IsEntered rs w
  entered_all _ reached_root = named_entered (word_in f 0) h.root
  entered_all _ (reached_member {w} k r lt) = elim (free_or_not (body_role w)) [
    | inl free ↦ absurd (no_members w k free lt)
    | inr some ↦ named_entered _ ((body_of_word w (entered_all w r) some).members k lt)
  ]

  -- the roles that are found
  pub found : RolesOf f rs
  found = record {
    each = h.each;
    front = h.front;
    bodies = λ w i r some. elim (free_or_not (body_role w)) [
      | inl free ↦ absurd (some (ap (λ x. role_in f x (place_in w) i) free ∙ no_body f (place_in w)
          i))
      | inr is ↦ (body_of_word w (entered_all w r) is).owns i some
    ];
    only = h.only;
    plain = λ w r. record {
      typed = (entered_all w r).0;
      whole = λ b. (body_of_word w (entered_all w r) (λ e. cc)).plain b;
    };
  }

pub found_at : (f : Numbered) (rs : List Role) (todo : List ℕ) → length todo ≡ 0
    → Walking f rs todo → RolesOf f rs
found_at f rs [] e h = found f rs h
found_at f rs (x ∷ todo) e h = absurd (omega (arith, e))
