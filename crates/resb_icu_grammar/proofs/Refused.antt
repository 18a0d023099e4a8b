-- A text in which a reading gets stuck is no bundle.
use Rattle.std.proofs.Common.{◌≡◌, ◌≢◌, ℕ, Bool, List, [], sym, ◌∙◌, ap, subst, arith, length, inl}
use Rattle.std.proofs.Common.{inr}
use Rattle.std.specs.Prelude.{slice_index}
use Rattle.std.proofs.lemmas.Bool.{false≢true}
use Rattle.resb_grammar.specs.Ascii as ascii
use Rattle.resb_icu_grammar.specs.Kinds.{Kind}
use Rattle.resb_tree.specs.Tree.{Tree}
use Rattle.resb_icu_grammar.specs.Blanks.{Begins, Skip}
use Rattle.resb_icu_grammar.specs.Words.{KeyText, Name, GroupType, RootType}
use Rattle.resb_icu_grammar.specs.Bundle.{Header, Typing, without, with}
use Rattle.resb_icu_grammar.specs.Groups.{TypedOpening}
use Rattle.resb_grammar.specs.Laws.{StuckIsNoText}
use Rattle.resb_icu_grammar.specs.Bundle.{IcuText}
use Rattle.resb_icu_grammar.specs.Machine.{Waiting, Standing, Reading, at_root}
use Rattle.resb_icu_grammar.specs.Stuck.{StepStuck, EndStuck, HeaderStuck}
use Rattle.resb_icu_grammar.specs.Stuck.{ReadStuck, StuckFrom}
use Rattle.resb_icu_grammar.specs.Stuck.{more_text, no_name, no_root_type}
use Rattle.resb_icu_grammar.specs.Stuck.{no_root_brace, no_typed_brace, in_header, in_root, inside}
use Rattle.resb_icu_grammar.specs.Stuck.{behind}
use Rattle.resb_icu_grammar.specs.Stuck as stuck
use Rattle.resb_icu_grammar.specs.declared.expected.IcuExpected.{IcuExpected}
use Rattle.resb_icu_grammar.specs.Inner.Rest.{After, AtEnd, RestOfEntries, Never}
use Rattle.resb_icu_grammar.proofs.Lexical.{Begins-one, Skip-one, String-one, key_string}
use Rattle.resb_icu_grammar.proofs.Lexical.{RootType-one, root_type_first, GroupType-one}
use Rattle.resb_icu_grammar.proofs.Groups.{no_brace_colon}
use Rattle.resb_icu_grammar.proofs.Leaves.{no_leaf_there, stuck_kind}
use Rattle.resb_icu_grammar.proofs.Types.{no_type_there}
use Rattle.resb_icu_grammar.proofs.Moves.{RestOf, Rest, comes_same}
use Rattle.resb_icu_grammar.proofs.OneStep.{no_brace_begins, no_comma_begins}
use Rattle.resb_icu_grammar.proofs.RestRoot.{follows_root}
use Rattle.resb_icu_grammar.proofs.RestLists as lists
use Rattle.resb_icu_grammar.proofs.RestGroups as groups
use Rattle.resb_icu_grammar.proofs.RestUntyped as untyped

pub no_opening_brace : (text : List ℕ) (at end brace : ℕ) (kind : Kind) → GroupType text at end kind
    → Skip text end brace → slice_index text brace ≢ ascii.left_brace → (other : Kind) (i : ℕ)
    → TypedOpening text at other i → ⊥
no_opening_brace text at end brace kind g k ne other i d =
    let same = GroupType-one text at end d.ends kind other g d.named in
    ne (ap (λ n. slice_index text n) (Skip-one text end brace d.brace k
    (subst (λ n. Skip text n d.brace) (sym same.0) d.between)) ∙ d.opens)

-- where a reading is stuck, the rest of the text has no meaning
standing_never : (text : List ℕ) (ws : List Waiting) (ks : List (List ℕ)) (s : Standing)
    (at to : ℕ) (x : IcuExpected) → StepStuck text s at to x → Never (RestOf text ws ks s at)
standing_never text ws ks _ at to x (stuck.no_member last ts _ _ _ a b d f w) =
    lists.no_more_members text (After text ws) last ts at ks a b (λ e. d (inl e))
    (λ e. d (inr e)) f
standing_never text ws ks _ at to x (stuck.two_strings last ts _ i s e p) =
    lists.no_second_string text (After text ws) last ts at i s ks e p
standing_never text ws ks _ at to x (stuck.lone_comma last ts _ e c) =
    lists.no_other_comma text (After text ws) last ts at ks e c
standing_never text ws ks _ at to x (stuck.key_twice es _ c d) =
    lists.no_key_twice text (After text ws) es at ks c d
standing_never text ws ks _ at to x (stuck.no_entry es _ _ _ c f w) =
    lists.no_more_entries text (After text ws) es at ks c f
standing_never text ws ks _ at to x (stuck.no_group _ f) =
    groups.no_group_begins text (After text ws) at ks (λ e. f (inl e))
    (λ kind i d. f (inr d.named.stands.colon))
standing_never text ws ks _ at to x (stuck.no_type _ _ c f) =
    groups.no_group_begins text (After text ws) at ks (λ b. no_brace_colon text at b c)
    (λ kind i d. no_type_there text at x f d.ends kind d.named)
standing_never text ws ks _ at to x (stuck.no_brace _ i _ kind g k n) =
    groups.no_group_begins text (After text ws) at ks
    (λ b. no_brace_colon text at b g.stands.colon) (no_opening_brace text at i to kind g k n)
standing_never text ws ks _ at to x (stuck.no_content _ _ _ a b f w) =
    untyped.no_untyped text (After text ws) at ks a (λ e. b (inl e)) (λ e. b (inr e)) f
standing_never text ws ks _ at to x (stuck.no_further _ i _ s p k a b f) =
    untyped.no_untyped_string text (After text ws) at i to s ks p k a b (λ g _. f g)
standing_never text ws ks _ at to x (stuck.no_key _ i j s p k b f) =
    untyped.no_untyped_string text (After text ws) at i j s ks p k (no_brace_begins text j b)
    (no_comma_begins text j b) (λ _ q. f i s q)
standing_never text ws ks _ at to x (stuck.in_leaf kind _ _ _ h) =
    let apart = stuck_kind text at kind to x h in
    groups.no_leaf text (After text ws) kind at ks apart.0 apart.1
    (no_leaf_there text at kind to x h)

-- so it is where a text stands behind the root that may not stand there
end_never : (text : List ℕ) (ws : List Waiting) (ks : List (List ℕ)) (t : Tree) (at to : ℕ)
    (x : IcuExpected) → EndStuck text t at ws to x → Never (After text ws at t ks)
end_never text _ ks t at _ _ (more_text end barred k low high b) m h =
    let same : h.after.to ≡ end = Skip-one text at h.after.to end h.after.before k in
    false≢true (sym (h.after.free barred (omega (arith, same, low)) high) ∙ b)

reading_never : (text : List ℕ) (r : Reading) (to : ℕ) (x : IcuExpected) → ReadStuck text r to x
    → Never (Rest text r)
reading_never text _ to x (inside ws ks s at _ _ b) = standing_never text ws ks s at to x b
reading_never text _ to x (behind ws ks t at _ _ b) = end_never text ws ks t at to x b

-- no bundle whose root's entries begin there
root_never : (text : List ℕ) (first to : ℕ) (x : IcuExpected)
    → StuckFrom text (at_root first) to x → Never (RestOfEntries text (AtEnd text) [] first [])
root_never text first to x s m p =
    reading_never text s.last to x s.there m
    ((comes_same text (at_root first) s.last s.comes m).0 p)

starts : (text name : List ℕ) (f : Bool) (to a start : ℕ) → Begins text a → Skip text a start
    → (h : Header text name f to) → h.start ≡ start
starts text name f to a start b k h =
    Skip-one text a h.start start
    (subst (λ n. Skip text n h.start) (Begins-one text h.begin a h.begins b) h.before) k

ends_at : (text name other : List ℕ) (f : Bool) (to a start end place : ℕ) → Begins text a
    → Skip text a start → Name text start end name → Skip text end place
    → (h : Header text other f to) → h.place ≡ place
ends_at text name other f to a start end place b k n l h =
    let there : KeyText text start h.ends other =
    subst (λ i. KeyText text i h.ends other) (starts text other f to a start b k h) h.named.key in
    let same = String-one text start h.ends end other name
    (key_string text start h.ends other there) (key_string text start end name n.key) in
    Skip-one text end h.place place (subst (λ i. Skip text i h.place) same.0 h.between) l

no_untyped : (text : List ℕ) (at brace : ℕ) (f : Bool) → slice_index text at ≢ ascii.colon
    → slice_index text at ≢ ascii.left_brace → Typing text at brace f
    → slice_index text brace ≡ ascii.left_brace → ⊥
no_untyped text at brace f c n (without e) b = n (ap (λ i. slice_index text i) e ∙ b)
no_untyped text at brace f c n (with i h q l) b = c (root_type_first text at i h q)

no_typing : (text : List ℕ) (at brace : ℕ) (f : Bool) → slice_index text at ≡ ascii.colon
    → ((to : ℕ) (g : Bool) → RootType text at to g → ⊥) → Typing text at brace f
    → slice_index text brace ≡ ascii.left_brace → ⊥
no_typing text at brace f c none (without e) b =
    let colon : slice_index text brace ≡ ascii.colon = ap (λ i. slice_index text i) (sym e) ∙ c in
    omega (arith, b, colon)
no_typing text at brace f c none (with i h q l) b = none i h q

no_typed : (text : List ℕ) (at i to brace : ℕ) (g f : Bool) → RootType text at i g
    → Skip text i to → slice_index text to ≢ ascii.left_brace → Typing text at brace f
    → slice_index text brace ≡ ascii.left_brace → ⊥
no_typed text at i to brace g f r k n (without e) b =
    let colon : slice_index text brace ≡ ascii.colon =
    ap (λ u. slice_index text u) (sym e) ∙ root_type_first text at i g r in
    omega (arith, b, colon)
no_typed text at i to brace g f r k n (with j h q l) b =
    n (ap (λ u. slice_index text u) (Skip-one text i to brace k (subst (λ u. Skip text u brace)
    (RootType-one text at j i h g q r).0 l)) ∙ b)

-- where nothing that begins a bundle stands, there is no header
pub header_never : (text : List ℕ) (to : ℕ) (x : IcuExpected) → HeaderStuck text to x
    → (name : List ℕ) (f : Bool) (first : ℕ) → Header text name f first → ⊥
header_never text to x (no_name a start _ _ b k none w) name f first h =
    none h.ends name
    (subst (λ n. Name text n h.ends name) (starts text name f first a start b k h) h.named)
header_never text to x (no_root_type a start end _ other b k n l c none) name f first h =
    let e = ends_at text other name f first a start end to b k n l h in
    no_typing text to h.brace f c none (subst (λ i. Typing text i h.brace f) e h.typed) h.opens
header_never text to x (no_root_brace a start end _ other b k n l c d) name f first h =
    let e = ends_at text other name f first a start end to b k n l h in
    no_untyped text to h.brace f c d (subst (λ i. Typing text i h.brace f) e h.typed) h.opens
header_never text to x (no_typed_brace a start end at i _ other g b k n l r m d) name f first h =
    let e = ends_at text other name f first a start end at b k n l h in
    no_typed text at i to h.brace g f r m d (subst (λ i. Typing text i h.brace f) e h.typed) h.opens

-- a text in which a reading gets stuck is no bundle
pub stuck_is_no_text : StuckIsNoText stuck.Stuck IcuText
stuck_is_no_text text to x (in_header s) name f tree keys p =
    header_never text to x s name f p.first p.header
stuck_is_no_text text to x (in_root other g first h s) name f tree keys p =
    let body = follows_root text other name g f first tree keys h p in
    root_never text first to x s (tree, body.2) body.3
