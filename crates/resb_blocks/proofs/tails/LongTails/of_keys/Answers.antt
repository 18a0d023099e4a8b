use Rattle.std.proofs.Common.{rules, arith, ◌+◌, take, length, refl, sym, ◌∙◌}
use Rattle.resb_blocks.specs.Inner.Listed.{AreListed, ListsUpTo}
use Rattle.resb_blocks.proofs.TailLaws.{no_key_behind, no_key_past}
use Rattle.resb_blocks.proofs.Listing.{long_end, next_end_found, short_is_skipped}
use Rattle.resb_blocks.proofs.Listing.{short_end_is_skipped}
use Rattle.resb_blocks.proofs.Listing.{long_end_is_listed, all_are_listed}
use Rattle.resb_blocks.proofs.tails.LongTails.of_keys.Goals as goal
use Rattle.resb_blocks.proofs.tails.LongTails.of_keys.Goals.{else-keys-test}
use Rattle.resb_blocks.proofs.tails.LongTails.of_keys.Goals.{
  then-end-gt-SHORT_TAIL+then-text-gt-SHORT_TAIL+in_ok-push,
  then-end-gt-SHORT_TAIL+else-text-gt-SHORT_TAIL,
  else-end-gt-SHORT_TAIL,
}
use Rattle.resb_blocks.proofs.tails.LongTails.of_keys.Goals.{then-keys-test+in_default}

pub invariant_of-result : goal.invariant_of-result
invariant_of-result c =
    let keys = c.args.keys.now in
    let ts = c.keys.tails.items in
    let start = c.keys.start in
    let i = c.keys.invariant.1 in
    let whole : AreListed keys ts (length keys) = elim c.keys-test.branch [
      | else-keys-test w ↦ all_are_listed keys ts start
          (λ at s l e. no_key_past keys s at (omega (arith, l)) e) i
      | then-keys-test+in_default w ↦ all_are_listed keys ts start
          (λ at s l e. no_key_behind keys s start at
          (rw (← w.split_at.ensures.back) (sym w.first_zero.ensures ∙ w.in_default.is)) l e) i
    ] in
    record { stand = i.0; apart = i.1; whole = whole }

pub keys-preserved : goal.keys-preserved
keys-preserved c =
    let keys = c.args.keys.now in
    let ts = c.keys.tails.items in
    let start = c.keys.start in
    let end = c.in-Some.end in
    let rest = c.split_at.result.1.now in
    let n = next_end_found keys rest start end c.split_at.ensures.back c.in-Some.ensures in
    let i = c.keys.invariant.1 in
    let all : ListsUpTo keys c.if-end-gt-SHORT_TAIL.tails.items (start + (end + 1)) =
    elim c.if-end-gt-SHORT_TAIL.branch [
      | then-end-gt-SHORT_TAIL+then-text-gt-SHORT_TAIL+in_ok-push w ↦ (
          let t = w.text_end-before in
          let is = long_end w.split_at-then-end-gt-SHORT_TAIL.result.0.now (take end rest)
          t.result.1.now t.result.0 w.split_at-then-end-gt-SHORT_TAIL.ensures.front
          t.ensures.inside t.ensures.text t.ensures.utf8 t.ensures.longest in
          rw (w.tails-is, w.in_ok-push.ensures.items)
          (long_end_is_listed keys rest ts _ start end t.result.0 n is refl i))
      | then-end-gt-SHORT_TAIL+else-text-gt-SHORT_TAIL w ↦ (
          let t = w.text_end-before in
          let is = long_end w.split_at-then-end-gt-SHORT_TAIL.result.0.now (take end rest)
          t.result.1.now t.result.0 w.split_at-then-end-gt-SHORT_TAIL.ensures.front
          t.ensures.inside t.ensures.text t.ensures.utf8 t.ensures.longest in
          rw w.tails-is (short_end_is_skipped keys rest t.result.1.now ts start end t.result.0 n
          is w.if-text-gt-SHORT_TAIL.false i))
      | else-end-gt-SHORT_TAIL w ↦ rw w.tails-is (short_is_skipped keys rest ts start end n
          w.if-end-gt-SHORT_TAIL.false i)
    ] in
    (search rules, all)
