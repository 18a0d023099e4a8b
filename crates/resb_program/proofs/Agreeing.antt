-- Checking a file beside reading its tree.
use Rattle.std.proofs.Common.{ℕ, List, ◌≡◌, ◌≤◌, ◌+◌, inl, inr, Result, Ok, Err}
use Rattle.std.proofs.Common.{sym, subst, arith}
use Rattle.resb_tree.specs.Tree.{Tree}
use Rattle.resb_head.specs.File.{parts_of, Denotes, budget}
use Rattle.resb_format.proofs.Denoting.{unique, reached_at_most}
use Rattle.resb_format.specs.declared.error.ReadingError.{ReadingError}
use Rattle.resb_format.specs.Error.{refusal_of, IsWantOfMemory}
use Rattle.resb_read.specs.RefusedReadings.{RefusesTree}
use Rattle.resb_read.specs.Roots.{AnswersCountOf, AnswersTreeOf, RefusesAt, RefusesWhole, alone}
use Rattle.resb_read.proofs.OneRefusal.{one_refusal}
use Rattle.resb_read.proofs.Rooted.{no_bundle}
use Rattle.resb_tree.specs.View.{tree_of}
use Rattle.resb_tree.specs.declared.resource.Resource.{Resource}
use Rattle.resb_program.specs.Program.{ReadsCounted, Agrees, HasCount, IsCounted}
use Rattle.resb_program.specs.declared.errors.ToolError.TheVariants.{Checking}

-- what a type answers at the root, where it is a tree
refused_tree : (bytes : List ℕ) (e : ReadingError) → RefusesAt RefusesTree (alone bytes) e
    → RefusesWhole (alone bytes) e
refused_tree bytes e (inl fault) = inl fault
refused_tree bytes e (inr (left, h)) = inr (h.head, h.root.0, h.root.1)

-- a file that denotes a tree within its budget is refused for want of memory alone
denoted_memory : (bytes : List ℕ) (t : Tree) (n : ℕ) (e : ReadingError) → Denotes bytes t n
    → n ≤ budget bytes → RefusesWhole (alone bytes) e → IsWantOfMemory e
denoted_memory bytes t n e d fits (inl fault) =
    absurd (no_bundle bytes (refusal_of e) fault d.head)
denoted_memory bytes t n e d fits (inr (is, inl m, _)) = m
denoted_memory bytes t n e d fits (inr (is, inr (inl (spent, reaches)), _)) =
    let k : budget bytes + 1 ≤ n =
    reached_at_most (parts_of bytes) d.root reaches in absurd (omega arith)
denoted_memory bytes t n e d fits (inr (is, inr (inr (fault, stuck)), _)) =
    absurd (stuck.0 t n d.root)

-- beside the answer of `from_bytes_counted`
pub agree_ok : (bytes : List ℕ) (n : ℕ) → AnswersCountOf (alone bytes) (Ok n)
    → (r : Result (Resource × ℕ) ReadingError) → ReadsCounted bytes r → Agrees HasCount (Ok n) r
agree_ok bytes n (t, d, fits) (Ok r) (h, _) = (unique (parts_of bytes) d.root h.root).1
agree_ok bytes n (t, d, fits) (Err e) h = denoted_memory bytes t n e d fits (refused_tree bytes e h)

pub agree_err : (bytes : List ℕ) (e : ReadingError) → AnswersCountOf (alone bytes) (Err e)
    → (r : Result (Resource × ℕ) ReadingError)
    → ReadsCounted bytes r → Agrees HasCount (Err (Checking e)) r
agree_err bytes e c (Ok r) (h, fits) =
    denoted_memory bytes (tree_of r.0) r.1 e (record { head = h.head; root = h.root }) fits c
agree_err bytes e c (Err d) h = one_refusal bytes e d c (refused_tree bytes d h)

-- beside the answer of `File::tree`
pub match_ok : (bytes : List ℕ) (n : ℕ) → AnswersCountOf (alone bytes) (Ok n)
    → (r : Result Resource ReadingError)
    → AnswersTreeOf (alone bytes) r → Agrees (IsCounted bytes) (Ok n) r
match_ok bytes n (t, d, fits) (Ok r) (m, h, _, _) =
    let both = unique (parts_of bytes) d.root h.root in
    let same : n ≡ m = both.1 in
    subst (λ k. Denotes bytes (tree_of r) k) (sym same) h
match_ok bytes n (t, d, fits) (Err e) h = denoted_memory bytes t n e d fits h

pub match_err : (bytes : List ℕ) (e : ReadingError) → AnswersCountOf (alone bytes) (Err e)
    → (r : Result Resource ReadingError)
    → AnswersTreeOf (alone bytes) r → Agrees (IsCounted bytes) (Err (Checking e)) r
match_err bytes e c (Ok r) (n, h, fits, _) = denoted_memory bytes (tree_of r) n e h fits c
match_err bytes e c (Err d) h = one_refusal bytes e d c h
