-- What passes the tests of strings, part by part.
use Rattle.std.proofs.Common.{◌≡◌, ℕ, Bool, true, false, not, List, [], ◌∷◌, ◌++◌, Global, Bor}
use Rattle.std.proofs.Common.{refl, sym, ◌∙◌, ap, subst, map}
use Rattle.std.proofs.lemmas.Bool.{false≢true}
use Rattle.std.proofs.lemmas.List.{map-append}
use Rattle.std.specs.Cow.{cow_str_bytes}
use Rattle.std.specs.declared.borrow.CowStr.{CowStr}
use Rattle.std.specs.declared.borrow.CowSlice.{CowSlice}
use Rattle.std.specs.declared.vec.Vec.{Vec}
use Rattle.resb_tree.specs.Borrowing as borrowing
use Rattle.resb_tree.specs.Borrowing.{all_true, are_slice}
use Rattle.resb_tree.specs.declared.resource.Resource.{String, Alias, Binary, Integer, IntVector}
use Rattle.resb_tree.proofs.BorrowingLemmas.{all_snoc, string_passes, alias_passes, binary_passes}
use Rattle.resb_tree.proofs.BorrowingLemmas.{integer_passes, vector_passes}
use Rattle.resb_icu_grammar.specs.Words.{Text, Verbatim}
use Rattle.resb_icu_text.specs.Inner.Found.{IsFound, is_whole}
use Rattle.resb_icu_text.specs.Borrowed.{IsPutTogether, PassesWhatIsSaid, KeepsSlices}
use Rattle.resb_icu_text.specs.Inner.Kept.{Test, members_pass, entries_pass}
use Rattle.resb_icu_text.specs.declared.strings.Found.{Found}

by_slice : (text : List ℕ) (test : Test) (s : CowStr Global) (b : Bool)
    → borrowing.is_slice s ≡ b → (b ≡ false → IsPutTogether text (cow_str_bytes s))
    → PassesWhatIsSaid text test → test s ≡ true
by_slice text test s true h f p = p.slices s h
by_slice text test s false h f p = p.built s (f refl)

put_together : (text : List ℕ) (from : ℕ) (f : Found) (bytes : List ℕ) → (is : IsFound text from f)
    → bytes ≡ is.said → is_whole f.stands ≡ false → IsPutTogether text bytes
put_together text from f bytes is e n = record {
  from = from;
  to = f.end;
  says = subst (λ (s : List ℕ). Text text from f.end s) (sym e) is.string;
  not_verbatim = λ h. false≢true (sym n ∙ is.slice.1
      (subst (λ (s : List ℕ). Verbatim text from f.end s) e h));
}

-- what a string says is a slice, or the text puts it together
pub said_kept : (text : List ℕ) (from : ℕ) (f : Found) (s : CowStr Global)
    → (is : IsFound text from f) → cow_str_bytes s ≡ is.said
    → borrowing.is_slice s ≡ is_whole f.stands → KeepsSlices text (String s)
said_kept text from f s is e k test p =
    string_passes test (λ b. not (are_slice b)) s
    ∙ by_slice text test s (is_whole f.stands) k
    (put_together text from f (cow_str_bytes s) is e) p

-- the bytes of a binary that was made are no slice
pub bytes_kept : (text : List ℕ) (b : CowSlice ℕ Global) → are_slice b ≡ false
    → KeepsSlices text (Binary b)
bytes_kept text b e test p =
    binary_passes test (λ b. not (are_slice b)) b ∙ ap not e

-- and numbers hold no string
pub number_kept : (text : List ℕ) (n : ℕ) → KeepsSlices text (Integer n)
number_kept text n test p = integer_passes test (λ b. not (are_slice b)) n

pub numbers_kept : (text : List ℕ) (v : Vec ℕ Global) → KeepsSlices text (IntVector v)
numbers_kept text v test p = vector_passes test (λ b. not (are_slice b)) v

-- so is an alias's path
pub path_kept : (text : List ℕ) (from : ℕ) (f : Found) (s : CowStr Global)
    → (is : IsFound text from f) → cow_str_bytes s ≡ is.said
    → borrowing.is_slice s ≡ is_whole f.stands → KeepsSlices text (Alias s)
path_kept text from f s is e k test p =
    alias_passes test (λ b. not (are_slice b)) s
    ∙ by_slice text test s (is_whole f.stands) k
    (put_together text from f (cow_str_bytes s) is e) p

module _ {X : Type 0} (pass : X → Test → Bool) (test : Test) where
  -- a member more
  pub members_with : (v old : List X) (x : X) → v ≡ old ++ x ∷ []
      → members_pass old pass test ≡ true → pass x test ≡ true → members_pass v pass test ≡ true
  members_with v old x e h k =
      ap (λ l. members_pass l pass test) e
      ∙ ap all_true (map-append (λ y. pass y test) old (x ∷ []))
      ∙ all_snoc (map (λ y. pass y test) old) (pass x test) h k

  -- an entry more
  pub entries_with : (v old : List (Bor (List ℕ) × X)) (k : Bor (List ℕ)) (x : X)
      → v ≡ old ++ (k, x) ∷ [] → entries_pass old pass test ≡ true → pass x test ≡ true
      → entries_pass v pass test ≡ true
  entries_with v old k x e h j =
      ap (λ l. entries_pass l pass test) e
      ∙ ap all_true (map-append (λ (p : Bor (List ℕ) × X). pass p.1 test) old ((k, x) ∷ []))
      ∙ all_snoc (map (λ (p : Bor (List ℕ) × X). pass p.1 test) old) (pass x test) h j
