-- What holds of lines without a fault.
use Rattle.std.specs.Prelude.{◌≡◌, List, None}
use Rattle.law_lines.specs.declared.raw.RawLine.{RawLine}
use Rattle.law_lines.specs.Signature.{IsRawSig}
use Rattle.law_typing.specs.Declarations.{whole}
use Rattle.law_typing.specs.LineFaults.{first_fault}
use Rattle.law_typing.specs.Stated.{stated}
use Rattle.law_typing.specs.Typed.{IsTypedAs}

-- lines that stand in order and are spelled, and of which none shows a fault, state this signature
abbrev pub FaultlessStates : Type 0
FaultlessStates = (lines : List RawLine) → IsRawSig lines → first_fault lines ≡ None → IsTypedAs lines (stated (whole lines) lines)
