-- Laws of a text that is taken in group by group.
use Rattle.std.proofs.Common.{◌≡◌, ℕ, ◌+◌, ◌≤◌, List, Option, Some, None, subst, sym, ap, ◌∙◌}
use Rattle.std.proofs.Common.{refl, arith, Bool, true, false, IfSome, ◌==◌}
use Rattle.std.proofs.Common.{if◌then◌else◌, ◌++◌, append_assoc}
use Rattle.std.proofs.lemmas.Bool.{eqb-true}
use Rattle.std.specs.Prelude.{slice_index, slice_range}
use Rattle.std.specs.String.{string_bytes}
use Rattle.resb_grammar.specs.Ascii as ascii
use Rattle.resb_icu_text.specs.Lexemes.{bytes_said}
use Rattle.resb_icu_files.specs.Inner.Making.{IsWritten, WriteFails}
use Rattle.resb_icu_files.specs.Inner.Steps.{IsGroupAt}
use Rattle.resb_icu_files.specs.Stretches.{Stretch, closer_at}
use Rattle.resb_icu_files.specs.TakenIn.{Taken, group, FaultFrom, here, later, FilesFail}
use Rattle.resb_icu_files.specs.TakenIn.{with_group, taken_by, TakesFiles, one_more}
use Rattle.resb_icu_files.specs.Ways.{FileGroup}
use Rattle.resb_icu_files.specs.Writing.{Named, Output, copied, rewritten, with_listed, Fault}
use Rattle.resb_icu_files.specs.Writing.{HasFault}
use Rattle.resb_icu_files.specs.Writing.{no_file, no_text, no_rules, no_collation_rules}
use Rattle.resb_icu_files.specs.declared.error.FilesError.{FilesError}
use Rattle.resb_icu_files.specs.declared.error.FilesError.TheVariants as fails
use Rattle.resb_icu_files.specs.declared.file.TextFile.{TextFile}
use Rattle.resb_icu_files.specs.declared.group.Group.{Group}

-- a `}` stands there, behind a place
abbrev pub IsCloser : List ℕ → ℕ → ℕ → Type 0
IsCloser text from at = (from ≤ at) × (slice_index text at ≡ ascii.right_brace)

closer_by : (b : Bool) (text : List ℕ) (from at : ℕ) → from ≤ at
    → (b ≡ true → slice_index text at ≡ ascii.right_brace)
    → IfSome (if b then Some at else None) (IsCloser text from)
closer_by true text from at low is = (low, is refl)
closer_by false text from at low is = tt

-- a `}` that stands at a place is one
pub closer_here : (text : List ℕ) (from at : ℕ) → from ≤ at
    → IfSome (closer_at text at) (IsCloser text from)
closer_here text from at low =
    closer_by (slice_index text at == ascii.right_brace) text from at low
    (eqb-true (slice_index text at) ascii.right_brace)

-- a group that stands at a place stands there as one of the text
stands_here : (text : List ℕ) (to : ℕ) (g : Group) → IsGroupAt text to g
    → FileGroup text to g.kind g.brace g.last (bytes_said g.name)
stands_here text to g at =
    subst (λ (i : ℕ). FileGroup text i g.kind g.brace g.last (bytes_said g.name)) at.here
    at.group.stands

-- one group more is taken in
pub group_taken : (files : List TextFile) (text : List ℕ) (from depth to deep : ℕ)
    (g : Group) (m n o end : Output) → Stretch text from depth to deep → IsGroupAt text to g
    → n ≡ copied text from to m → IsWritten files text g n o
    → Taken files text (g.last + 1) deep o end → Taken files text from depth m end
group_taken files text from depth to deep g m n o end s at c w t =
    let name = bytes_said g.name in
    let inside = slice_range text (g.brace + 1) g.last in
    let e : o ≡ with_group text from to g.kind g.brace g.last name w.bytes m =
    w.makes
    ∙ (ap (λ i. with_listed g.kind inside i name (rewritten i (g.last + 1) w.bytes n)) at.here
    ∙ ap (λ (k : Output). with_listed g.kind inside to name
    (rewritten to (g.last + 1) w.bytes k)) c) in
    group from depth to deep g.brace g.last g.kind name w.bytes m end s (stands_here text to g at)
    w.written (subst (λ (k : Output). Taken files text (g.last + 1) deep k end) e t)

-- what is missed behind a group is missed before it
pub missed_later : (files : List TextFile) (text : List ℕ) (from depth to deep : ℕ)
    (g : Group) (n o : Output) → Stretch text from depth to deep → IsGroupAt text to g
    → IsWritten files text g n o → (fault : Fault) (place : ℕ) (name : List ℕ)
    → FaultFrom files text fault place name (g.last + 1) deep
    → FaultFrom files text fault place name from depth
missed_later files text from depth to deep g n o s at w fault place name m =
    later from depth to deep g.brace g.last g.kind (bytes_said g.name) w.bytes s
    (stands_here text to g at) w.written m

-- a group that lacks something is missed at its place
missed_here : (files : List TextFile) (text : List ℕ) (from depth to deep : ℕ)
    (g : Group) (fault : Fault) (place : ℕ) (name : List ℕ) → Stretch text from depth to deep
    → IsGroupAt text to g → HasFault files (bytes_said g.name) g.kind fault → place ≡ g.at
    → name ≡ bytes_said g.name → FaultFrom files text fault place name from depth
missed_here files text from depth to deep g fault place name s at l p n =
    let m = here from depth deep g.brace g.last g.kind s (stands_here text to g at) l in
    subst (λ (i : ℕ). FaultFrom files text fault i name from depth) (sym (p ∙ at.here))
    (subst (λ (w : List ℕ). FaultFrom files text fault to w from depth) (sym n) m)

-- a group that can't be written is missed
pub group_fails : (files : List TextFile) (text : List ℕ) (from depth to deep : ℕ)
    (g : Group) (e : FilesError) → Stretch text from depth to deep → IsGroupAt text to g
    → ((fault : Fault) (place : ℕ) (name : List ℕ)
    → FaultFrom files text fault place name from depth
    → FaultFrom files text fault place name 0 0)
    → WriteFails files (bytes_said g.name) g.kind g.at e → FilesFail files text e
group_fails files text from depth to deep g (fails.Missing f) s at on w =
    on no_file f.place (string_bytes f.name)
    (missed_here files text from depth to deep g no_file f.place (string_bytes f.name) s at w.0 w.1 w.2)
group_fails files text from depth to deep g (fails.NotUtf8 f) s at on w =
    on no_text f.place (string_bytes f.name)
    (missed_here files text from depth to deep g no_text f.place (string_bytes f.name) s at w.0 w.1 w.2)
group_fails files text from depth to deep g (fails.NoRules f) s at on w =
    on no_rules f.place (string_bytes f.name)
    (missed_here files text from depth to deep g no_rules f.place (string_bytes f.name) s at w.0 w.1
    w.2)
group_fails files text from depth to deep g (fails.NoCollationRules f) s at on w =
    on no_collation_rules f.place (string_bytes f.name)
    (missed_here files text from depth to deep g no_collation_rules f.place (string_bytes f.name) s at
    w.0 w.1 w.2)
group_fails files text from depth to deep g fails.OutOfMemory s at on w = tt

-- one group more takes its file in
pub takes_group : (text : List ℕ) (from depth to deep : ℕ) (g : Group)
    (old new rest : List Named) → Stretch text from depth to deep → IsGroupAt text to g
    → new ≡ old ++ taken_by g.kind g.at (bytes_said g.name)
    → ((more : List Named) → TakesFiles text from depth more → TakesFiles text 0 0 (old ++ more))
    → TakesFiles text (g.last + 1) deep rest → TakesFiles text 0 0 (new ++ rest)
takes_group text from depth to deep g old new rest s at e on t =
    let mine = taken_by g.kind g.at (bytes_said g.name) in
    let here : taken_by g.kind to (bytes_said g.name) ≡ mine =
    ap (λ i. taken_by g.kind i (bytes_said g.name)) (sym at.here) in
    let m : TakesFiles text from depth (mine ++ rest) =
    subst (λ (l : List Named). TakesFiles text from depth (l ++ rest)) here
    (one_more from depth to deep g.brace g.last g.kind (bytes_said g.name) rest s
    (stands_here text to g at) t) in
    let same : old ++ (mine ++ rest) ≡ new ++ rest =
    sym (append_assoc old mine rest) ∙ ap (λ l. l ++ rest) (sym e) in
    subst (λ (l : List Named). TakesFiles text 0 0 l) same (on (mine ++ rest) m)
