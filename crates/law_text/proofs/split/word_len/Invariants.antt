use Rattle.std.proofs.Common.{◌≡◌, ◌+◌, drop}
use Rattle.std.specs.List.{prefix_len}
use Rattle.law_lines.specs.Pieces.{is_plain}
use Rattle.law_text.proofs.split.word_len.Given as goal

abbrev pub invariant-loop-byte : goal.invariant-loop-byte
invariant-loop-byte l = record {
  place : l.count ≡ l.byte-index;
  length : l.count + prefix_len is_plain (drop l.byte-index l.bytes) ≡ prefix_len is_plain l.bytes;
}
