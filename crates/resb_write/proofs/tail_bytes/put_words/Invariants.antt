use Rattle.std.proofs.Common.{◌≡◌, ◌++◌, take}
use Rattle.resb_layout.specs.Laid.{words}
use Rattle.resb_write.proofs.tail_bytes.put_words.Given as goal

abbrev pub invariant-loop-word : goal.invariant-loop-word
invariant-loop-word l = l.tail.items ≡ l.fn.tail.items ++ words (take l.word-index l.words)
