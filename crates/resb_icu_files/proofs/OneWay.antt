-- A text is taken in in one way: what stands at a place is one thing.
use Rattle.std.proofs.Common.{◌≡◌, ℕ, ◌+◌, ◌<◌, List, [], ◌++◌, Option, Some, None}
use Rattle.std.proofs.Common.{subst, sym, ap, ◌∙◌, refl, arith, length, true, false}
use Rattle.std.specs.Prelude.{slice_index, slice_range}
use Rattle.std.proofs.lemmas.Grind.{common_steps}
use Rattle.std.proofs.lemmas.List.{get_or_past}
use Rattle.std.specs.Prelude.{codes}
use Rattle.std.specs.Str.{IsUtf8}
use Rattle.std.proofs.lemmas.Bool.{false≢true, and_parts, eqb-true}
use Rattle.hex.specs.Hex.{encode_lower}
use Rattle.resb_icu_print.specs.Printed.{piece_on}
use Rattle.resb_print.specs.Printed.{quoted_on}
use Rattle.resb_grammar.specs.Ascii as ascii
use Rattle.resb_grammar.specs.ByteRuns.{is_white}
use Rattle.resb_icu_grammar.specs.Blanks.{Skip, IsSolid, Comment, none, line}
use Rattle.resb_icu_grammar.specs.Blanks.{block}
use Rattle.resb_icu_grammar.specs.Unquoted.{begins_comment}
use Rattle.resb_icu_grammar.proofs.Lexical.{Skip-one, String-one}
use Rattle.resb_icu_files.specs.Stretches.{Passes, Stretch, Ends, nothing, more, blanks}
use Rattle.resb_icu_files.specs.Stretches.{quoted, other, at_the_end, no_string, open_comment}
use Rattle.resb_icu_files.specs.Stretches.{root_closes, closes_root, closer_at}
use Rattle.resb_icu_files.specs.TakenIn.{Taken, ends, group, FaultFrom, here, later, with_group}
use Rattle.resb_icu_files.specs.TakenIn.{ended, FirstFault, HasNoFileGroup}
use Rattle.resb_icu_files.specs.Ways.{FileGroup, bytes_named}
use Rattle.resb_icu_files.specs.Writing.{Output, no_output, Fault, HasFault, Written, a_dependency}
use Rattle.resb_icu_files.specs.Writing.{a_text, some_bytes, behind_mark, said_of, not_there}
use Rattle.resb_icu_files.specs.Writing.{not_a_text, not_rules}
use Rattle.resb_icu_files.specs.declared.file.TextFile.{TextFile}
use Rattle.resb_icu_files.specs.declared.way.Way.{Way}
use Rattle.resb_icu_files.proofs.WaysLemmas.{FileGroup-one, SameGroup}

-- where nothing is skipped, no blank stands
solid_stays : (text : List ℕ) (at to : ℕ) → IsSolid text at → at < to → Skip text at to → ⊥
solid_stays text at to solid order s =
    let e = Skip-one text at at to record { blanks = none at; solid = solid } s in
    absurd (omega (arith, e, order))

-- a comment begins with a slash
comment_slash : (text : List ℕ) (at to : ℕ) → Comment text at to
    → slice_index text at ≡ ascii.slash
comment_slash text at to (line h k r) = h
comment_slash text at to (block i h k f e) = h

-- neither blanks nor a comment begin with this byte
solid_mark : (text : List ℕ) (at b : ℕ) → slice_index text at ≡ b → is_white b ≡ false
    → (b ≡ ascii.slash → ⊥) → IsSolid text at
solid_mark text at b e w n = record {
  no_white = ap is_white e ∙ w;
  no_comment = λ k c. n (sym e ∙ comment_slash text at k c);
}

-- behind the end stands no byte
no_byte : (text : List ℕ) (at : ℕ) → at ≡ length text → slice_index text at ≡ 0
no_byte text at e = get_or_past text at 0 (omega (arith, e))

-- what seems to begin a comment begins with a slash
seems_slash : (text : List ℕ) (at : ℕ) → begins_comment text at ≡ true
    → slice_index text at ≡ ascii.slash
seems_slash text at e = eqb-true _ _ (and_parts _ _ e).0

-- a group that takes a file in stands at a colon
group_colon : (text : List ℕ) (at brace last : ℕ) (kind : Way) (name : List ℕ)
    → FileGroup text at kind brace last name → slice_index text at ≡ ascii.colon
group_colon text at brace last kind name g = g.colon

-- the root's `}` is one
closer_brace : (text : List ℕ) (at depth : ℕ) → closes_root text at depth ≡ true
    → slice_index text at ≡ ascii.right_brace
closer_brace text at depth e = eqb-true _ _ (and_parts _ _ e).0

-- where such a group stands, the text doesn't end
group_ends : (text : List ℕ) (at depth brace last : ℕ) (kind : Way) (name : List ℕ)
    → FileGroup text at kind brace last name → Ends text at depth → ⊥
group_ends text at depth brace last kind name g (root_closes e) =
    let colon = group_colon text at brace last kind name g in
    omega (arith, closer_brace text at depth e, colon)
group_ends text at depth brace last kind name g (at_the_end e) =
    let colon = group_colon text at brace last kind name g in
    omega (arith, no_byte text at e, colon)
group_ends text at depth brace last kind name g (no_string q n) =
    let colon = group_colon text at brace last kind name g in omega (arith, q, colon)
group_ends text at depth brace last kind name g (open_comment b s) =
    let colon = group_colon text at brace last kind name g in
    omega (arith, seems_slash text at b, colon)

-- a stop: where a group stands, or the root or the text ends
data Stop (text : List ℕ) (at depth : ℕ) : Type 0 where
  a_group : (kind : Way) (brace last : ℕ) (name : List ℕ)
      → FileGroup text at kind brace last name → Stop text at depth
  an_end : Ends text at depth → Stop text at depth

-- where a group stands, nothing is passed
group_stays : (text : List ℕ) (at to brace last : ℕ) (kind : Way) (name : List ℕ)
    (depth behind : ℕ) → FileGroup text at kind brace last name
    → Passes text at depth to behind → ⊥
group_stays text at to brace last kind name depth behind g (blanks _ o s) =
    solid_stays text at to (solid_mark text at ascii.colon
    (group_colon text at brace last kind name g) refl (λ e. omega (arith, e))) o s
group_stays text at to brace last kind name depth behind g (quoted _ b o q t) =
    omega (arith, q, group_colon text at brace last kind name g)
group_stays text at to brace last kind name depth behind g (other o n) =
    o.no_group kind brace last name g

-- where the root or a text ends, nothing is passed
end_stays : (text : List ℕ) (at to depth behind : ℕ) → Ends text at depth
    → Passes text at depth to behind → ⊥
end_stays text at to depth behind (root_closes e) (blanks _ o s) =
    solid_stays text at to (solid_mark text at ascii.right_brace (closer_brace text at depth e) refl
    (λ h. omega (arith, h))) o s
end_stays text at to depth behind (root_closes e) (quoted _ b o q t) =
    omega (arith, q, closer_brace text at depth e)
end_stays text at to depth behind (root_closes e) (other o n) = false≢true (sym n ∙ e)
end_stays text at to depth behind (at_the_end e) (blanks _ o s) =
    solid_stays text at to (solid_mark text at 0 (no_byte text at e) refl
    (λ h. omega (arith, h))) o s
end_stays text at to depth behind (at_the_end e) (quoted _ b o q t) =
    omega (arith, q, no_byte text at e)
end_stays text at to depth behind (at_the_end e) (other o n) = omega (arith, e, o.inside)
end_stays text at to depth behind (no_string q n) (blanks _ o s) =
    solid_stays text at to (solid_mark text at ascii.quote q refl (λ h. omega (arith, h))) o s
end_stays text at to depth behind (no_string q n) (quoted _ b o r t) = n to b t
end_stays text at to depth behind (no_string q n) (other o m) = o.no_quote q
end_stays text at to depth behind (open_comment b solid) (blanks _ o s) =
    solid_stays text at to solid o s
end_stays text at to depth behind (open_comment b solid) (quoted _ c o q t) =
    omega (arith, q, seems_slash text at b)
end_stays text at to depth behind (open_comment b solid) (other o n) =
    false≢true (sym o.no_comment ∙ b)

stop_stays : (text : List ℕ) (at to depth behind : ℕ) → Stop text at depth
    → Passes text at depth to behind → ⊥
stop_stays text at to depth behind (a_group k b l n g) p =
    group_stays text at to b l k n depth behind g p
stop_stays text at to depth behind (an_end e) p = end_stays text at to depth behind e p

-- a quote begins no blanks
quote_stays : (text : List ℕ) (at to : ℕ) → slice_index text at ≡ ascii.quote → at < to
    → Skip text at to → ⊥
quote_stays text at to q o s =
    solid_stays text at to (solid_mark text at ascii.quote q refl (λ h. omega (arith, h))) o s

-- what is passed at a place is one thing
Passes-one : (text : List ℕ) (at depth c d a b : ℕ) → Passes text at depth a c
    → Passes text at depth b d → (a ≡ b) × (c ≡ d)
Passes-one text at depth c d a b (blanks _ o s) (blanks _ p t) = (Skip-one text at a b s t, refl)
Passes-one text at depth c d a b (blanks _ o s) (quoted _ w p q t) =
    absurd (quote_stays text at a q o s)
Passes-one text at depth c d a b (blanks _ o s) (other p n) =
    absurd (solid_stays text at a p.solid o s)
Passes-one text at depth c d a b (quoted _ w p q t) (blanks _ o s) =
    absurd (quote_stays text at b q o s)
Passes-one text at depth c d a b (quoted _ w p q t) (quoted _ v o r u) =
    ((String-one text at a b w v t u).0, refl)
Passes-one text at depth c d a b (quoted _ w p q t) (other o n) = absurd (o.no_quote q)
Passes-one text at depth c d a b (other p n) (blanks _ o s) =
    absurd (solid_stays text at b p.solid o s)
Passes-one text at depth c d a b (other o n) (quoted _ w p q t) = absurd (o.no_quote q)
Passes-one text at depth c d a b (other o n) (other p m) = (refl, refl)

-- a stretch to a stop is one
Stretch-one : (text : List ℕ) (at a b depth c d : ℕ) → Stretch text at depth a c
    → Stretch text at depth b d → Stop text a c → Stop text b d → (a ≡ b) × (c ≡ d)
Stretch-one text at a b depth c d (nothing _ _) (nothing _ _) s t = (refl, refl)
Stretch-one text at a b depth c d (nothing _ _) (more _ mid _ _ behind _ p r) s t =
    absurd (stop_stays text at mid depth behind s p)
Stretch-one text at a b depth c d (more _ mid _ _ behind _ p r) (nothing _ _) s t =
    absurd (stop_stays text at mid depth behind t p)
Stretch-one text at a b depth c d (more _ mid _ _ behind _ p r) (more _ mid' _ _ behind' _ q u)
    s t =
    let same = Passes-one text at depth behind behind' mid mid' p q in
    let v : Stretch text mid behind b d =
    subst (λ (i : ℕ). Stretch text i behind b d) (sym same.0)
    (subst (λ (o : ℕ). Stretch text mid' o b d) (sym same.1) u) in
    Stretch-one text mid a b behind c d r v s t

-- what a group takes of one file is one
said_meet : (kind : Way) (s t r q : List ℕ) → s ≡ t → said_of kind (behind_mark s) ≡ Some r
    → said_of kind (behind_mark t) ≡ Some q → r ≡ q
said_meet kind s t r q e l m =
    let h : Some r ≡ Some q = sym l ∙ (ap (λ b. said_of kind (behind_mark b)) e ∙ m) in cc

-- one thing is written for a group
Written-one : (files : List TextFile) (inside name a b : List ℕ) (kind : Way)
    → Written files inside name kind a → Written files inside name kind b → a ≡ b
Written-one files inside name a b kind a_dependency a_dependency = refl
Written-one files inside name a b kind a_dependency (a_text _ t q wrong g v m) =
    absurd (false≢true wrong)
Written-one files inside name a b kind (some_bytes s f) (some_bytes t g) =
    let e : s ≡ t = cc in ap (λ l. codes ":bin{" ++ quoted_on (encode_lower l) (codes "}")) e
Written-one files inside name a b kind (some_bytes s f) (a_text _ t q wrong g v m) =
    absurd (false≢true wrong)
Written-one files inside name a b kind (a_text _ s r wrong f u l) a_dependency =
    absurd (false≢true wrong)
Written-one files inside name a b kind (a_text _ s r wrong f u l) (some_bytes t g) =
    absurd (false≢true wrong)
Written-one files inside name a b kind (a_text _ s r takes f u l) (a_text _ t q also g v m) =
    let e : s ≡ t = cc in
    let n : r ≡ q = said_meet kind s t r q e l m in
    ap (λ l. codes ":string{" ++ piece_on l (codes "}")) n

-- what has a fault isn't written
fault_written : (files : List TextFile) (inside name a : List ℕ) (kind : Way) (fault : Fault)
    → HasFault files name kind fault → Written files inside name kind a → ⊥
fault_written files inside name a kind fault (not_there takes n) a_dependency = false≢true takes
fault_written files inside name a kind fault (not_there takes n) (some_bytes s f) = cc
fault_written files inside name a kind fault (not_there takes n) (a_text _ s r also f u l) = cc
fault_written files inside name a kind fault (not_a_text t wrong g never) a_dependency =
    false≢true wrong
fault_written files inside name a kind fault (not_a_text t wrong g never) (some_bytes s f) =
    false≢true wrong
fault_written files inside name a kind fault (not_a_text t takes g never)
    (a_text _ s r also f u l) =
    let e : s ≡ t = cc in never (subst (λ (l : List ℕ). IsUtf8 (behind_mark l)) e u)
fault_written files inside name a kind fault (not_rules t wrong g whole nothing_left) a_dependency =
    false≢true wrong
fault_written files inside name a kind fault (not_rules t wrong g whole nothing_left) (some_bytes s f) =
    false≢true wrong
fault_written files inside name a kind fault (not_rules t takes g whole nothing_left)
    (a_text _ s r also f u l) =
    let e : s ≡ t = cc in
    let h : None ≡ Some r =
    sym nothing_left ∙ (ap (λ b. said_of kind (behind_mark b)) (sym e) ∙ l) in cc

-- a file that isn't there has no bytes
lacks_bytes : (files : List TextFile) (name bytes : List ℕ) → bytes_named files name ≡ None
    → bytes_named files name ≡ Some bytes → ⊥
lacks_bytes files name bytes n f = cc

-- a text that is no UTF-8 isn't one
never_text : (files : List TextFile) (name s t : List ℕ) → bytes_named files name ≡ Some s
    → bytes_named files name ≡ Some t → (IsUtf8 (behind_mark s) → ⊥) → IsUtf8 (behind_mark t) → ⊥
never_text files name s t f g never u =
    let e : t ≡ s = cc in never (subst (λ (l : List ℕ). IsUtf8 (behind_mark l)) e u)

-- a group has one fault
Fault-one : (files : List TextFile) (name : List ℕ) (kind : Way) (a b : Fault)
    → HasFault files name kind a → HasFault files name kind b → a ≡ b
Fault-one files name kind a b (not_there _ _) (not_there _ _) = refl
Fault-one files name kind a b (not_there _ n) (not_a_text t _ g _) =
    absurd (lacks_bytes files name t n g)
Fault-one files name kind a b (not_there _ n) (not_rules t _ g _ _) =
    absurd (lacks_bytes files name t n g)
Fault-one files name kind a b (not_a_text s _ f _) (not_there _ n) =
    absurd (lacks_bytes files name s n f)
Fault-one files name kind a b (not_a_text _ _ _ _) (not_a_text _ _ _ _) = refl
Fault-one files name kind a b (not_a_text s _ f never) (not_rules t _ g u _) =
    absurd (never_text files name s t f g never u)
Fault-one files name kind a b (not_rules s _ f _ _) (not_there _ n) =
    absurd (lacks_bytes files name s n f)
Fault-one files name kind a b (not_rules s _ f u _) (not_a_text t _ g never) =
    absurd (never_text files name t s g f never u)
Fault-one files name kind a b (not_rules _ _ _ _ _) (not_rules _ _ _ _ _) = refl

-- the two groups that stretches from a place come to are one
record Meet (text : List ℕ) (at at' : ℕ) (kind kind' : Way) (brace brace' last last' : ℕ)
    (name name' : List ℕ) : Type 0 where
  places : at ≡ at'
  group : SameGroup kind kind' brace brace' last last' name name'

groups_meet : (text : List ℕ) (from depth at at' deep deep' : ℕ) (kind kind' : Way)
    (brace brace' last last' : ℕ) (name name' : List ℕ) → Stretch text from depth at deep
    → Stretch text from depth at' deep' → FileGroup text at kind brace last name
    → FileGroup text at' kind' brace' last' name'
    → Meet text at at' kind kind' brace brace' last last' name name'
groups_meet text from depth at at' deep deep' kind kind' brace brace' last last' name name'
    s t g h =
    let same = (Stretch-one text from at at' depth deep deep' s t
    (a_group kind brace last name g) (a_group kind' brace' last' name' h)).0 in
    record {
      places = same;
      group = FileGroup-one text at kind kind' brace brace' last last' name name' g
          (subst (λ (i : ℕ). FileGroup text i kind' brace' last' name') (sym same) h);
    }

-- and so is how many groups are open around them
depths_meet : (text : List ℕ) (from depth at at' deep deep' : ℕ) (kind kind' : Way)
    (brace brace' last last' : ℕ) (name name' : List ℕ) → Stretch text from depth at deep
    → Stretch text from depth at' deep' → FileGroup text at kind brace last name
    → FileGroup text at' kind' brace' last' name' → deep ≡ deep'
depths_meet text from depth at at' deep deep' kind kind' brace brace' last last' name name'
    s t g h =
    (Stretch-one text from at at' depth deep deep' s t
    (a_group kind brace last name g) (a_group kind' brace' last' name' h)).1

-- a stretch to a group and one to the end don't begin at one place
no_meeting : (text : List ℕ) (from depth at to brace last deep deep' : ℕ) (kind : Way)
    (name : List ℕ) → Stretch text from depth at deep → FileGroup text at kind brace last name
    → Stretch text from depth to deep' → Ends text to deep' → ⊥
no_meeting text from depth at to brace last deep deep' kind name s g t e =
    let same = (Stretch-one text from at to depth deep deep' s t
    (a_group kind brace last name g) (an_end e)).0 in
    group_ends text at deep' brace last kind name g
    (subst (λ (i : ℕ). Ends text i deep') (sym same) e)

-- what is written for two groups that meet is one
written_meet : (files : List TextFile) (text : List ℕ) (at at' : ℕ) (kind kind' : Way)
    (brace brace' last last' : ℕ) (name name' a b : List ℕ)
    → Meet text at at' kind kind' brace brace' last last' name name'
    → Written files (slice_range text (brace + 1) last) name kind a
    → Written files (slice_range text (brace' + 1) last') name' kind' b → a ≡ b
written_meet files text at at' kind kind' brace brace' last last' name name' a b m p q =
    let g = m.group in
    Written-one files (slice_range text (brace + 1) last) name a b kind p
    (subst (λ (k : Way). Written files (slice_range text (brace + 1) last) name k b) (sym g.kinds)
    (subst (λ (n : List ℕ). Written files (slice_range text (brace + 1) last) n kind' b)
    (sym g.names)
    (subst (λ (i : ℕ). Written files (slice_range text (brace + 1) i) name' kind' b) (sym g.lasts)
    (subst (λ (i : ℕ). Written files (slice_range text (i + 1) last') name' kind' b)
    (sym g.braces) q))))

-- what becomes of two groups that meet is one
output_meet : (text : List ℕ) (from at at' : ℕ) (kind kind' : Way) (brace brace' last last' : ℕ)
    (name name' a b : List ℕ) (m : Output)
    → Meet text at at' kind kind' brace brace' last last' name name' → a ≡ b
    → with_group text from at kind brace last name a m
    ≡ with_group text from at' kind' brace' last' name' b m
output_meet text from at at' kind kind' brace brace' last last' name name' a b m meet e =
    let g = meet.group in
    ap (λ i. with_group text from i kind brace last name a m) meet.places
    ∙ (ap (λ k. with_group text from at' k brace last name a m) g.kinds
    ∙ (ap (λ i. with_group text from at' kind' i last name a m) g.braces
    ∙ (ap (λ i. with_group text from at' kind' brace' i name a m) g.lasts
    ∙ (ap (λ n. with_group text from at' kind' brace' last' n a m) g.names
    ∙ ap (λ w. with_group text from at' kind' brace' last' name' w m) e))))

Taken-one : (files : List TextFile) (text : List ℕ) (from depth : ℕ) (m a b : Output)
    → Taken files text from depth m a → Taken files text from depth m b → a ≡ b
Taken-one files text from depth m a b (ends _ _ to deep _ s e) (ends _ _ to' deep' _ t f) =
    ap (λ i. ended text from (closer_at text i) m)
    (Stretch-one text from to to' depth deep deep' s t (an_end e) (an_end f)).0
Taken-one files text from depth m a b (ends _ _ to deep _ s e)
    (group _ _ at deep' brace last kind name w _ _ t g p r) =
    absurd (no_meeting text from depth at to brace last deep' deep kind name t g s e)
Taken-one files text from depth m a b (group _ _ at deep' brace last kind name w _ _ t g p r)
    (ends _ _ to deep _ s e) =
    absurd (no_meeting text from depth at to brace last deep' deep kind name t g s e)
Taken-one files text from depth m a b (group _ _ at deep brace last kind name w _ _ s g p r)
    (group _ _ at' deep' brace' last' kind' name' w' _ _ t h q u) =
    let meet = groups_meet text from depth at at' deep deep' kind kind' brace brace' last last' name
    name' s t g h in
    let depths = depths_meet text from depth at at' deep deep' kind kind' brace brace' last last'
    name name' s t g h in
    let bytes = written_meet files text at at' kind kind' brace brace' last last' name name' w w'
    meet p q in
    let same : with_group text from at kind brace last name w m
    ≡ with_group text from at' kind' brace' last' name' w' m =
    output_meet text from at at' kind kind' brace brace' last last' name name' w w' m meet bytes in
    Taken-one files text (last + 1) deep (with_group text from at kind brace last name w m) a b r
    (subst (λ (d : ℕ). Taken files text (last + 1) d
    (with_group text from at kind brace last name w m) b) (sym depths)
    (subst (λ (k : Output). Taken files text (last + 1) deep' k b) (sym same)
    (subst (λ (i : ℕ). Taken files text (i + 1) deep'
    (with_group text from at' kind' brace' last' name' w' m) b) (sym meet.group.lasts) u)))

pub one_way : (files : List TextFile) (text : List ℕ) (a b : Output)
    → Taken files text 0 0 no_output a → Taken files text 0 0 no_output b → a ≡ b
one_way files text a b p q = Taken-one files text 0 0 no_output a b p q

faulty_taken : (files : List TextFile) (text : List ℕ) (fault : Fault) (at : ℕ) (name : List ℕ)
    (from depth : ℕ) (m a : Output) → FaultFrom files text fault at name from depth
    → Taken files text from depth m a → ⊥
faulty_taken files text fault at name from depth m a (here _ _ deep brace last kind s g l)
    (ends _ _ to deep' _ t e) =
    no_meeting text from depth at to brace last deep deep' kind name s g t e
faulty_taken files text fault at name from depth m a (here _ _ deep brace last kind s g l)
    (group _ _ at' deep' brace' last' kind' name' w _ _ t h p r) =
    let meet = groups_meet text from depth at at' deep deep' kind kind' brace brace' last last' name
    name' s t g h in
    fault_written files (slice_range text (brace' + 1) last') name' w kind' fault
    (subst (λ (k : Way). HasFault files name' k fault) meet.group.kinds
    (subst (λ (n : List ℕ). HasFault files n kind fault) meet.group.names l)) p
faulty_taken files text fault at name from depth m a
    (later _ _ mid deep brace last kind named w s g p r) (ends _ _ to deep' _ t e) =
    no_meeting text from depth mid to brace last deep deep' kind named s g t e
faulty_taken files text fault at name from depth m a
    (later _ _ mid deep brace last kind named w s g p r)
    (group _ _ at' deep' brace' last' kind' name' w' _ _ t h q u) =
    let meet = groups_meet text from depth mid at' deep deep' kind kind' brace brace' last last'
    named name' s t g h in
    let depths = depths_meet text from depth mid at' deep deep' kind kind' brace brace' last last'
    named name' s t g h in
    faulty_taken files text fault at name (last + 1) deep _ a r
    (subst (λ (d : ℕ). Taken files text (last + 1) d
    (with_group text from at' kind' brace' last' name' w' m) a) (sym depths)
    (subst (λ (i : ℕ). Taken files text (i + 1) deep'
    (with_group text from at' kind' brace' last' name' w' m) a) (sym meet.group.lasts) u))

pub never_both : (files : List TextFile) (text : List ℕ) (fault : Fault) (at : ℕ) (name : List ℕ)
    (a : Output) → FirstFault files text fault at name → Taken files text 0 0 no_output a → ⊥
never_both files text fault at name a m t =
    faulty_taken files text fault at name 0 0 no_output a m t

-- a group with a fault and one that is written don't meet
fault_meet : (files : List TextFile) (text : List ℕ) (at at' : ℕ) (kind kind' : Way)
    (brace brace' last last' : ℕ) (name name' w : List ℕ) (fault : Fault)
    → Meet text at at' kind kind' brace brace' last last' name name'
    → HasFault files name kind fault
    → Written files (slice_range text (brace' + 1) last') name' kind' w → ⊥
fault_meet files text at at' kind kind' brace brace' last last' name name' w fault meet l p =
    fault_written files (slice_range text (brace' + 1) last') name' w kind' fault
    (subst (λ (k : Way). HasFault files name' k fault) meet.group.kinds
    (subst (λ (n : List ℕ). HasFault files n kind fault) meet.group.names l)) p

-- from a place on one group is the first with a fault, and it has one
Faulty-one : (files : List TextFile) (text : List ℕ) (a b : Fault) (at at' : ℕ)
    (name name' : List ℕ) (from depth : ℕ) → FaultFrom files text a at name from depth
    → FaultFrom files text b at' name' from depth → (a ≡ b) × (at ≡ at') × (name ≡ name')
Faulty-one files text a b at at' name name' from depth (here _ _ deep brace last kind s g l)
    (here _ _ deep' brace' last' kind' t h m) =
    let meet = groups_meet text from depth at at' deep deep' kind kind' brace brace' last last' name
    name' s t g h in (
      Fault-one files name kind a b l
          (subst (λ (k : Way). HasFault files name k b) (sym meet.group.kinds)
          (subst (λ (n : List ℕ). HasFault files n kind' b) (sym meet.group.names) m)),
      meet.places,
      meet.group.names,
    )
Faulty-one files text a b at at' name name' from depth (here _ _ deep brace last kind s g l)
    (later _ _ mid deep' brace' last' kind' named w t h p r) =
    let meet = groups_meet text from depth at mid deep deep' kind kind' brace brace' last last' name
    named s t g h in
    absurd (fault_meet files text at mid kind kind' brace brace' last last' name named w a meet l p)
Faulty-one files text a b at at' name name' from depth
    (later _ _ mid deep brace last kind named w s g p r)
    (here _ _ deep' brace' last' kind' t h m) =
    let meet = groups_meet text from depth at' mid deep' deep kind' kind brace' brace last' last
    name' named t s h g in
    absurd (fault_meet files text at' mid kind' kind brace' brace last' last name' named w b meet m
    p)
Faulty-one files text a b at at' name name' from depth
    (later _ _ mid deep brace last kind named w s g p r)
    (later _ _ mid' deep' brace' last' kind' named' w' t h q u) =
    let meet = groups_meet text from depth mid mid' deep deep' kind kind' brace brace' last last'
    named named' s t g h in
    let depths = depths_meet text from depth mid mid' deep deep' kind kind' brace brace' last last'
    named named' s t g h in
    Faulty-one files text a b at at' name name' (last + 1) deep r
    (subst (λ (d : ℕ). FaultFrom files text b at' name' (last + 1) d) (sym depths)
    (subst (λ (i : ℕ). FaultFrom files text b at' name' (i + 1) deep') (sym meet.group.lasts) u))

pub one_fault : (files : List TextFile) (text : List ℕ) (a b : Fault) (at at' : ℕ)
    (name name' : List ℕ) → FirstFault files text a at name → FirstFault files text b at' name'
    → (a ≡ b) × (at ≡ at') × (name ≡ name')
one_fault files text a b at at' name name' h k =
    Faulty-one files text a b at at' name name' 0 0 h k

-- the whole of a text
slice_whole : (text : List ℕ) → [] ++ slice_range text 0 (length text) ≡ text
slice_whole text = grind (arith, common_steps)

-- where no dependency is listed, the end is copied
ended_plain : (text : List ℕ) (closer : Option ℕ)
    → ended text 0 closer no_output ≡ record no_output { said = text }
ended_plain text None =
    ap (λ (l : List ℕ). record no_output { said = l }) (slice_whole text)
ended_plain text (Some at) =
    ap (λ (l : List ℕ). record no_output { said = l }) (slice_whole text)

-- a text without such groups is taken in as itself
pub as_itself : (files : List TextFile) (text : List ℕ) → HasNoFileGroup text
    → Taken files text 0 0 no_output (record no_output { said = text })
as_itself files text h =
    subst (λ (o : Output). Taken files text 0 0 no_output o) (ended_plain text (closer_at text h.to))
    (ends 0 0 h.to h.last no_output h.stretch h.ends)
