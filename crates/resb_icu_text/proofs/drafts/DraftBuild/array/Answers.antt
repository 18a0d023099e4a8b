use Rattle.std.proofs.Common.{◌≡◌, true, ap, ◌∙◌, ◌++◌, map, subst, IfOk}
use Rattle.std.proofs.lemmas.Result.{IfOk-weaker}
use Rattle.resb_tree.specs.Borrowing.{all_true}
use Rattle.resb_tree.specs.Tree.{array, trees_of}
use Rattle.resb_draft.specs.Drafts.{tree_at, is_whole, IsMade}
use Rattle.resb_draft.proofs.Lists.{drop_to_put}
use Rattle.resb_draft.proofs.Standing.{keeps_on}
use Rattle.resb_icu_text.specs.Inner.Build.{Adds}
use Rattle.resb_icu_text.specs.Inner.Kept.{anything, members_pass}
use Rattle.resb_icu_text.proofs.DraftLemmas.{whole_in, keeps_grow}
use Rattle.resb_icu_text.proofs.MakingLemmas.{members_grow}
use Rattle.resb_icu_text.proofs.drafts.DraftBuild.array.Goals as goal

pub returns : goal.returns
returns c =
    let d = c.args.self.now in
    let mid = c.push_members.new.draft in
    let new = c.end_array.new.self in
    let ns = c.args.members.now.items in
    let pushed = c.in_ok-push_members.ensures in
    let all = drop_to_put d.members.items ns mid.members.items c.len-first_member.result
    (c.len-first_member.ensures ∙ d.members.ok.0)
    (pushed.members ∙ ap (λ l. d.members.items ++ l) c.deref.ensures.value) in
    let same = members_grow tree_at whole_in d mid (keeps_grow d mid pushed.keeps) anything ns
    c.requires.held in
    IfOk-weaker c.end_array.result
    (λ n. IsMade new n (array (trees_of (map (tree_at mid) ns))))
    (λ n. Adds tree_at whole_in d new n (array (trees_of (map (tree_at d) ns)))
    (members_pass ns (whole_in d)))
    (λ n made. (
      made.0 ∙ ap (λ ts. array (trees_of ts)) same.0,
      λ t h. made.1,
      keeps_grow d new (keeps_on d mid new pushed.keeps c.end_array.ensures.keeps),
    ))
    (subst (λ l. all_true (map (is_whole mid) l) ≡ true → IfOk c.end_array.result
    (λ n. IsMade new n (array (trees_of (map (tree_at mid) l))))) all c.end_array.ensures.made
    same.1)
