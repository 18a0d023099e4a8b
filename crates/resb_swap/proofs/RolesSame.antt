-- The roles of a swapped file are those of the file.
use Rattle.std.proofs.Common.{◌≡◌, ℕ, ◌⊎◌, List, Bool, true, false, ◌&&◌}
use Rattle.std.proofs.Common.{refl, sym, ap, ◌∙◌, arith, inl, inr, subst}
use Rattle.std.proofs.lemmas.Bool.{cases_Bool, false≢true}
use Rattle.std.proofs.lemmas.Bool.Decides.{nat_tests}
use Rattle.resb_swap.specs.Numbers.{Numbered}
use Rattle.resb_swap.specs.Bodies.{Reached, body_role, place_in, role_in, middle_at, middle_role}
use Rattle.resb_swap.specs.Bodies.{middle_count, member_count, count_in}
use Rattle.resb_swap.specs.Collation.{is_collation, is_whole, holds_data, part_role}
use Rattle.resb_swap.specs.Roles.{RolesOf}
use Rattle.resb_swap.specs.Swapped.{is_indexed}
use Rattle.resb_swap.specs.declared.parts.Parts.{Parts}
use Rattle.resb_swap.specs.declared.role.Role.{Role}
use Rattle.resb_swap.specs.declared.role.Role.TheVariants as role
use Rattle.resb_swap.proofs.OwningLemmas.{role_in_layers}
use Rattle.resb_swap.proofs.Mirrors.{Turned, front_same, members_same, middle_same, reached_to}
use Rattle.resb_swap.proofs.Mirrors.{reached_from}
use Rattle.resb_swap.proofs.CollationSame.{collation_same, parts_same, whole_same, data_at, none_at}

abbrev AllButBinary : Role → Type 0
AllButBinary r = (r ≡ role.Binary) ⊎ ((f : Numbered) (p k : ℕ) → middle_at f r p k ≡ middle_role r)

all_but_binary : (r : Role) → AllButBinary r
unfolding middle_at
all_but_binary role.Binary = inl refl
all_but_binary role.Free = inr (λ f p k. refl)
all_but_binary role.Bytes = inr (λ f p k. refl)
all_but_binary role.Units = inr (λ f p k. refl)
all_but_binary role.Words = inr (λ f p k. refl)
all_but_binary role.OneUnit = inr (λ f p k. refl)
all_but_binary role.Order = inr (λ f p k. refl)
all_but_binary role.First = inr (λ f p k. refl)
all_but_binary role.Second = inr (λ f p k. refl)
all_but_binary role.Text = inr (λ f p k. refl)
all_but_binary role.Table = inr (λ f p k. refl)
all_but_binary role.Table32 = inr (λ f p k. refl)
all_but_binary role.Array = inr (λ f p k. refl)
all_but_binary role.Vector = inr (λ f p k. refl)

holds_by : (f : Numbered) (p : ℕ) → is_whole f p ≡ true → is_collation f p ≡ true
    → holds_data f p ≡ true
holds_by f p a b = rw (a, b) refl

holds_collation : (f : Numbered) (p : ℕ) → holds_data f p ≡ true → is_collation f p ≡ true
holds_collation f p h = grind (arith, nat_tests)

no_data : (f : Numbered) (p : ℕ) → is_collation f p ≡ false → holds_data f p ≡ false
no_data f p h = rw h (both_false (is_whole f p))
  where
    both_false : (b : Bool) → (b && false) ≡ false
    both_false true = refl
    both_false false = refl

module _ (f g : Numbered) (rs : List Role) (t : Turned f g rs) (h : RolesOf f rs)
    (ok : is_indexed f ≡ true) where
  -- the words of a binary have the same roles
  binary_same : (w k : ℕ) → Reached f w → body_role w ≡ role.Binary
      → middle_at g role.Binary (place_in w) k ≡ middle_at f role.Binary (place_in w) k
  binary_same w k r b = elim (cases_Bool (holds_data f (place_in w))) [
    | inl e ↦ (
        let there = collation_same f g rs t h ok w r b ∙ holds_collation f (place_in w) e in
        let its = holds_by g (place_in w) (whole_same f g rs t h ok w r b e) there in
        data_at g (place_in w) k its
        ∙ (ap (λ (s : Parts). part_role s k) (parts_same f g rs t h ok w r b e)
        ∙ sym (data_at f (place_in w) k e))
        )
    | inr e ↦ elim (cases_Bool (is_collation f (place_in w))) [
      | inl is ↦ absurd (false≢true (sym e ∙ holds_by f (place_in w) ((h.plain w r).whole b is) is))
      | inr none ↦ none_at g (place_in w) k (no_data g (place_in w) (collation_same f g rs t h ok w
          r b ∙ none))
          ∙ sym (none_at f (place_in w) k e)
    ]
  ]

  middle_role_same : (w k : ℕ) → Reached f w
      → middle_at g (body_role w) (place_in w) k ≡ middle_at f (body_role w) (place_in w) k
  middle_role_same w k r = elim (all_but_binary (body_role w)) [
    | inl b ↦ (
        let P : Role → Type 0 = λ x. middle_at g x (place_in w) k ≡ middle_at f x (place_in w) k in
        subst P (sym b) (binary_same w k r b)
        )
    | inr other ↦ other g (place_in w) k ∙ sym (other f (place_in w) k)
  ]

  role_same : (w i : ℕ) → Reached f w
      → role_in g (body_role w) (place_in w) i ≡ role_in f (body_role w) (place_in w) i
  role_same w i r =
      role_in_layers g (body_role w) (middle_at f (body_role w) (place_in w)) (place_in w)
      (count_in g (body_role w) (place_in w)) (middle_count f (body_role w) (place_in w))
      (member_count f (body_role w) (place_in w)) i refl (sym (middle_same f g rs t h ok w r))
      (sym (members_same f g rs t h ok w r)) (λ j. sym (middle_role_same w j r))
      ∙ sym (role_in_layers f (body_role w) (middle_at f (body_role w) (place_in w)) (place_in w)
      (count_in f (body_role w) (place_in w)) (middle_count f (body_role w) (place_in w))
      (member_count f (body_role w) (place_in w)) i refl refl refl (λ j. refl))

  -- the roles of a file are those of the swapped one
  pub roles_same : RolesOf g rs
  roles_same = record {
    each = h.each ∙ sym t.as_many;
    front = λ i some. h.front i (λ e. some (front_same f g rs t h ok i ∙ e)) ∙ sym (front_same f g
        rs t h ok i);
    bodies = λ w i r some.
        let from = reached_from f g rs t h ok w r in
        h.bodies w i from (λ e. some (role_same w i from ∙ e)) ∙ sym (role_same w i from);
    only = λ i. elim (h.only i) [
      | inl free ↦ inl free
      | inr x ↦ inr (elim x [
        | inl front ↦ inl (front ∙ sym (front_same f g rs t h ok i))
        | inr b ↦ inr (
          b.0,
          (
            reached_to f g rs t h ok b.0 b.1.0,
            b.1.1 ∙ sym (role_same b.0 i
                b.1.0),
          ),
        )
      ])
    ];
    plain = λ w r.
        let from = reached_from f g rs t h ok w r in
        let q = h.plain w from in
        record {
          typed = q.typed;
          whole = λ b is.
              let was = sym (collation_same f g rs t h ok w from b) ∙ is in
              whole_same f g rs t h ok w from b (holds_by f (place_in w) (q.whole b was) was);
        };
  }
