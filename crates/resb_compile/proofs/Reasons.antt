-- The tree of a text, and what rules leave of it, is not refused for a key that isn't listed; and a
-- text that is read within a limit never makes more.
use Rattle.std.proofs.Common.{◌≡◌, ◌⊎◌, ℕ, List, Option, Some, None, Result, Ok, Err, inr, refl}
use Rattle.std.proofs.Common.{sym, subst}
use Rattle.std.specs.Result.{IsErrAnd, IfErr}
use Rattle.std.specs.Prelude.{codes, true, Contains}
use Rattle.std.specs.Borrow.{Bor}
use Rattle.resb_tree.specs.Tree.{Tree}
use Rattle.resb_tree.specs.Keys.{is_key}
use Rattle.resb_filter.specs.View.{rules_of}
use Rattle.resb_filter.specs.declared.rules.Rules.{Rules}
use Rattle.resb_filter.proofs.KeyLemmas.{filtered_key}
use Rattle.resb_grammar.specs.Limit.{draft_limit}
use Rattle.resb_grammar.proofs.Listed.{listed as plain_listed}
use Rattle.resb_grammar.proofs.MadeOnce.{never_more as plain_never_more}
use Rattle.resb_icu_grammar.proofs.Limited.{icu_never_more}
use Rattle.resb_icu_grammar.proofs.Listed.{listed as icu_listed}
use Rattle.resb_icu_text.specs.Answer.{IcuFails, IsNoIcuText, IcuNeverMore}
use Rattle.resb_icu_text.specs.Refusal.{want_of_memory}
use Rattle.resb_icu_text.specs.declared.error.IcuTextError.{IcuTextError}
use Rattle.resb_layout.specs.WritingFault.{WritingFault, unexpected, out_of_memory}
use Rattle.resb_layout.specs.TreeFaults.{RefusesWriting, no_memory, at_the_first, too_large}
use Rattle.resb_pool_bundle.specs.Pool.{Pool}
use Rattle.resb_write.proofs.Listed.{not_unlisted as no_fault, not_memory, not_large}
use Rattle.resb_write.specs.FaultOf.{fault_of}
use Rattle.resb_write.specs.Layouts.{RefusesBy, RefusesOver, pool_of}
use Rattle.resb_write.specs.WrittenWith.{as_alone, too_far}
use Rattle.resb_write.specs.declared.error.BinarySerializerError.{BinarySerializerError}
use Rattle.resb_compile.specs.Compiled.{Unwritable}
use Rattle.resb_compile.specs.Compiling.{IsText, IsBundle, IsReadWithin, ReadsMore, left_by}
use Rattle.resb_compile.specs.Compiling.{IsUnread, IsRefusedBy}
use Rattle.resb_compile.specs.declared.error.CompileError.TheVariants.{ReadingIcu, Writing}
use Rattle.resb_compile.specs.declared.compiling.Compile.{Compile}
use Rattle.resb_compile.specs.declared.compiling.TextForm.{TextForm}
use Rattle.resb_compile.specs.declared.compiling.TextForm.TheVariants.{Plain, Icu}

-- a tree whose keys are listed is not refused for one that isn't
never_alone : (t : Tree) (ks : List (List ℕ))
    → ((k : List ℕ) → is_key k t ≡ true → Contains ks k) → (f : WritingFault)
    → RefusesWriting t ks f → f ≡ unexpected (codes "key not present in position map") → ⊥
never_alone t ks l f no_memory e = not_memory t ks l e
never_alone t ks l f (at_the_first h) e = no_fault t ks l f h e
never_alone t ks l f (too_large h m) e = not_large t ks l e

-- nor is one over a pool
never_unlisted : (pool : Option Pool) (t : Tree) (ks : List (List ℕ))
    → ((k : List ℕ) → is_key k t ≡ true → Contains ks k) → (f : WritingFault)
    → RefusesBy pool t ks f → f ≡ unexpected (codes "key not present in position map") → ⊥
never_unlisted None t ks l f h e = never_alone t ks l f h e
never_unlisted (Some pool) t ks l f (as_alone h) e = never_alone t ks l f h e
never_unlisted (Some pool) t ks l f (too_far none far) e = not_large t ks l e

-- the keys of a text's tree are listed
listed : (form : TextForm) (text : List ℕ) (b : IsBundle form text)
    → (k : List ℕ) → is_key k b.tree ≡ true → Contains b.keys k
listed Plain text b = plain_listed text b.name b.fallback b.tree b.keys b.is
listed Icu text b = icu_listed text b.name b.fallback b.tree b.keys b.is

-- so are the keys of what rules leave of it
left_listed : (form : TextForm) (text : List ℕ) (rules : Option (Bor Rules))
    (b : IsBundle form text)
    → (k : List ℕ) → is_key k (left_by rules b.tree) ≡ true → Contains b.keys k
left_listed form text None b k h = listed form text b k h
left_listed form text (Some rules) b k h =
    listed form text b k (filtered_key (rules_of rules.now) k b.tree h)

-- what the writer refuses of a text's tree is refused for its reason
pub unwritable : (c : Compile) (text : List ℕ) (e : BinarySerializerError)
    (b : IsBundle c.form text)
    → RefusesOver c.layout (left_by c.rules b.tree) b.keys (fault_of e)
    → Unwritable (IsText c.form text) (λ t. RefusesOver c.layout (left_by c.rules t)) e
unwritable c text e b h = record {
  bundle = b;
  refused = h;
  listed = never_unlisted (pool_of c.layout) (left_by c.rules b.tree) b.keys
      (left_listed c.form text c.rules b) (fault_of e) h;
}

-- a text that is read within a limit has no reading that makes more
pub never_more : (form : TextForm) (limit : Option ℕ) (text : List ℕ)
    → IsReadWithin form limit text → ReadsMore form limit text → ⊥
never_more form None text h more = more
never_more Plain (Some limit) text h more = plain_never_more text (draft_limit limit) h more
never_more Icu (Some limit) text h more = icu_never_more text (draft_limit limit) h more

-- want of memory is answered, over a pool or not
memory_by : (pool : Option Pool) (t : Tree) (ks : List (List ℕ)) → RefusesBy pool t ks out_of_memory
memory_by None t ks = no_memory
memory_by (Some pool) t ks = as_alone no_memory

-- a text that was read isn't compiled where the writer refuses what rules leave of its tree
pub writing_refused : (c : Compile) (text : List ℕ) (e : BinarySerializerError)
    (b : IsBundle c.form text) → IsReadWithin c.form c.limit text
    → RefusesOver c.layout (left_by c.rules b.tree) b.keys (fault_of e)
    → IsRefusedBy c text (Writing e)
writing_refused c text e b within h =
    (unwritable c text e b h, never_more c.form c.limit text within)

-- nor where memory is wanted for what rules leave
pub filtering_refused : (c : Compile) (text : List ℕ) (e : BinarySerializerError)
    (b : IsBundle c.form text) → IsReadWithin c.form c.limit text → fault_of e ≡ out_of_memory
    → IsRefusedBy c text (Writing e)
filtering_refused c text e b within memory =
    writing_refused c text e b within
    (subst (RefusesOver c.layout (left_by c.rules b.tree) b.keys) (sym memory)
    (memory_by (pool_of c.layout) (left_by c.rules b.tree) b.keys))

-- a text of ICU's form that its reader refuses within a limit isn't read within it
pub icu_unread : (limit : Option ℕ) (n : ℕ) (text : List ℕ) (e : IcuTextError) → limit ≡ Some n
    → IcuFails text e × IcuNeverMore text (draft_limit n) e
    → (e ≡ want_of_memory) ⊎ IsNoIcuText text → IsUnread Icu limit text (ReadingIcu e)
icu_unread limit n text e is h none = (
  refl,
  record { fails = h.0; no_bundle = none },
  subst (λ l. (e ≡ want_of_memory) ⊎ (ReadsMore Icu l text → ⊥)) (sym is) h.1,
)

-- nor where there is no limit
pub icu_unread_at_all : (limit : Option ℕ) (text : List ℕ) (e : IcuTextError) → limit ≡ None
    → IcuFails text e → (e ≡ want_of_memory) ⊎ IsNoIcuText text
    → IsUnread Icu limit text (ReadingIcu e)
icu_unread_at_all limit text e is h none = (
  refl,
  record { fails = h; no_bundle = none },
  inr (λ more. subst (λ l. ReadsMore Icu l text) is more),
)

-- an error that is one of these is as it is
pub carried : {X E : Type 0} (P : E → Type 0) (e : E) → P e → (r : Result X E)
    → IsErrAnd r (λ made. made ≡ e) → IfErr r P
carried P e h (Ok x) is = tt
carried P e h (Err made) is = subst P (sym is) h
