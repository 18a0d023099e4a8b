use Rattle.std.proofs.Common.{◌≡◌, ◌≤◌, ◌*◌, take, length}
use Rattle.std.specs.Int.{to_le_bytes, w32}
use Rattle.std.specs.List.{flat_map}
use Rattle.std.specs.Vec.{vec_len, vec_capacity}
use Rattle.resb_read.proofs.words.lay_words.Given as goal

abbrev pub invariant-loop-word : goal.invariant-loop-word
invariant-loop-word l = record {
  laid : l.buffer.items ≡ flat_map (to_le_bytes w32) (take l.word-index l.words);
  filled : vec_len l.buffer ≡ 4 * l.word-index;
  room : 4 * length l.words ≤ vec_capacity l.buffer;
}
