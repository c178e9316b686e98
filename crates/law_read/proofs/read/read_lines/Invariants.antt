use Rattle.std.proofs.Common.{◌≡◌, ◌++◌, length, None}
use Rattle.std.specs.List.{AllByRecursion}
use Rattle.law_lines.specs.Spelling.{sig_spelling}
use Rattle.law_lines.specs.Stages.{InOrder, start}
use Rattle.law_lines.specs.Lines.{IsLine}
use Rattle.law_lines.specs.declared.want.Bounds.TheVariants.{Kept}
use Rattle.law_read.proofs.read.read_lines.Given as goal

abbrev pub invariant-loop-line : goal.invariant-loop-line
invariant-loop-line l = record {
  parts : l.text ≡ sig_spelling l.reader.lines ++ l.rest;
  going : l.reader.refused ≡ None;
  order : InOrder start l.reader.lines;
  each : AllByRecursion (IsLine Kept) l.reader.lines;
}

abbrev pub decreases-loop-line : goal.decreases-loop-line
decreases-loop-line l = length l.rest
