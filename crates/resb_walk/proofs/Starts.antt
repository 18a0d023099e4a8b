-- What is started at a member is read of it; where nothing stands there, nothing is denoted.
use Rattle.std.proofs.Common.{ℕ, List, ◌≡◌, ◌+◌, Option, Some, None, Ok, refl, sym, subst}
use Rattle.std.specs.Prelude.{option_map}
use Rattle.resb_tree.specs.Tree.{Tree, string}
use Rattle.resb_format.specs.Parts.{Parts}
use Rattle.resb_format.specs.Content.{Member, word, unit, Content, leaf, list, entry_list}
use Rattle.resb_format.specs.Content.{content_at}
use Rattle.resb_format.specs.Denotes.{DenMember, den_word, den_unit, den_leaf}
use Rattle.resb_format.specs.Lookups.{text_in, index_in}
use Rattle.resb_walk.specs.Inner.MemberContent.{member_content, content_refusal}
use Rattle.resb_walk.specs.Inner.Members.{content_of, leaf_tree}
use Rattle.resb_walk.specs.Inner.Rounds.{Starts, ReadsMember}
use Rattle.resb_walk.specs.Meets.{Meets, meets_text, meets_word}
use Rattle.resb_walk.specs.declared.members.Standing.{Standing}
use Rattle.resb_walk.specs.declared.frame.Open.TheVariants as open_
use Rattle.resb_walk.specs.declared.frame.Read.{Read}
use Rattle.resb_walk.specs.declared.frame.Read.TheVariants.{Made, Begun}
use Rattle.resb_walk.proofs.Waits.{waiting_list_begins, waiting_table_begins}

-- what stands at a unit is a text
unit_text : (o : Option (List ℕ)) (c : Content) → option_map (λ t. leaf (string t)) o ≡ Some c
    → (t : List ℕ) × (o ≡ Some t) × (c ≡ leaf (string t))
unit_text None c e = absurd (cc)
unit_text (Some t) c e = (t, refl, cc)

same_leaf : {t u : Tree} → leaf t ≡ leaf u → t ≡ u
same_leaf e = cc

no_list : {t : Tree} {ms : List Member} → list ms ≡ leaf t → ⊥
no_list e = cc

no_leaf_of_entries : {t : Tree} {es : List (ℕ × Member)} → entry_list es ≡ leaf t → ⊥
no_leaf_of_entries e = cc

no_text : (o : Option (List ℕ)) → option_map (λ t. leaf (string t)) o ≡ None → o ≡ None
no_text None e = refl
no_text (Some t) e = absurd (cc)

module _ {X L T : Type 0} (is : X → Tree → Type 0) (lists : L → List Tree → Type 0)
    (tables : T → List (List ℕ × Tree) → Type 0) (p : Parts) where
  pub started : (m : Member) (s : Standing) (r : Read X L T) (left left' : ℕ)
      → member_content p m ≡ Some (content_of s) → Starts is lists tables s r → left' + 1 ≡ left
      → ReadsMember is lists tables p m left left' (Ok r)
  started (word w) s (Made x) left left' e h paid =
      let stands = subst (λ v. content_at p w ≡ Some (content_of v)) h.1 e in
      (leaf_tree h.0, den_word (den_leaf stands), h.2, paid)
  started (word w) s (Begun (open_.List rest made)) left left' e h paid =
      let stands = subst (λ v. content_at p w ≡ Some (content_of v)) h.0 e in
      (w, refl, waiting_list_begins lists tables p rest made w stands h.1, paid)
  started (word w) s (Begun (open_.Table rest made)) left left' e h paid =
      let stands = subst (λ v. content_at p w ≡ Some (content_of v)) h.0 e in
      (w, refl, waiting_table_begins lists tables p rest made w stands h.1, paid)
  started (unit u) s (Made x) left left' e h paid =
      let r = unit_text (text_in p (index_in p u)) (content_of s) e in
      let same : leaf_tree h.0 ≡ string r.0 =
      same_leaf (subst (λ v. content_of v ≡ leaf (string r.0)) h.1 r.2) in
      (leaf_tree h.0, subst (λ t. DenMember p (unit u) t 1) (sym same) (den_unit r.1), h.2, paid)
  started (unit u) s (Begun (open_.List rest made)) left left' e h paid =
      let r = unit_text (text_in p (index_in p u)) (content_of s) e in
      absurd (no_list (subst (λ v. content_of v ≡ leaf (string r.0)) h.0 r.2))
  started (unit u) s (Begun (open_.Table rest made)) left left' e h paid =
      let r = unit_text (text_in p (index_in p u)) (content_of s) e in
      absurd (no_leaf_of_entries (subst (λ v. content_of v ≡ leaf (string r.0)) h.0 r.2))

-- the fault that is met where nothing stands
pub member_meets : (p : Parts) (m : Member) → member_content p m ≡ None
    → Meets p m (content_refusal p m)
member_meets p (word w) e = meets_word e
member_meets p (unit u) e = meets_text (no_text (text_in p (index_in p u)) e)

-- what has no members denotes itself
pub leaf_denotes : (p : Parts) (m : Member) (t : Tree) → member_content p m ≡ Some (leaf t)
    → DenMember p m t 1
leaf_denotes p (word w) t e = den_word (den_leaf e)
leaf_denotes p (unit u) t e =
    let r = unit_text (text_in p (index_in p u)) (leaf t) e in
    let same : t ≡ string r.0 = same_leaf r.2 in
    subst (λ v. DenMember p (unit u) v 1) (sym same) (den_unit r.1)
