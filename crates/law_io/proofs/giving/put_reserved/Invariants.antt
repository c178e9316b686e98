-- The bytes before the one at hand were put, and the block is the same.
use Rattle.std.proofs.Common.{◌≡◌, ◌+◌, ◌++◌, drop, vec_len, vec_capacity}
use Rattle.law_io.proofs.giving.put_reserved.Given as goal

abbrev pub invariant-loop-byte : goal.invariant-loop-byte
invariant-loop-byte l = record {
  items : l.kept.items ++ drop l.byte-index l.bytes ≡ l.initial.kept.items ++ l.bytes;
  len : vec_len l.kept ≡ vec_len l.initial.kept + l.byte-index;
  capacity : vec_capacity l.kept ≡ vec_capacity l.initial.kept;
}
