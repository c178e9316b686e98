-- The lines that the program prints in place of what was asked for.
use Rattle.std.specs.Prelude.{ℕ, List, [], ◌∷◌, ◌++◌, decimal, codes}
use Rattle.law_lines.specs.Spelling.{term_spelling}
use Rattle.law_lines.specs.declared.error.ReadKind.{ReadKind}
use Rattle.law_lines.specs.declared.error.ReadKind.TheVariants as read
use Rattle.law_typing.specs.declared.errors.TypeKind.{TypeKind}
use Rattle.law_typing.specs.declared.errors.TypeKind.TheVariants as fault
use Rattle.law_valid.specs.declared.rule.Rule.{Rule}
use Rattle.law_valid.specs.declared.rule.Rule.TheVariants as rule
use Rattle.law_cli.specs.declared.status.FormKind.{FormKind}
use Rattle.law_cli.specs.declared.status.FormKind.TheVariants as form
use Rattle.law_cli.specs.declared.status.Which.{Which}
use Rattle.law_cli.specs.declared.status.Which.TheVariants as which
use Rattle.law_cli.specs.declared.status.Status.{Status}
use Rattle.law_cli.specs.declared.status.Status.TheVariants as status

-- Names of what can be wrong

abbrev pub read_kind_name : ReadKind → List ℕ
read_kind_name read.Byte = codes "Byte"
read_kind_name read.Word = codes "Word"
read_kind_name read.Number = codes "Number"
read_kind_name read.Missing = codes "Missing"
read_kind_name read.Doubled = codes "Doubled"
read_kind_name read.TooLong = codes "TooLong"

abbrev pub sort_kind_name : TypeKind → List ℕ
sort_kind_name fault.UnknownSort = codes "UnknownSort"
sort_kind_name fault.UnknownName = codes "UnknownName"
sort_kind_name fault.NameTwice = codes "NameTwice"
sort_kind_name fault.Arity = codes "Arity"
sort_kind_name (fault.SortMismatch wanted found) = codes "SortMismatch"
sort_kind_name fault.CaseMissing = codes "CaseMissing"
sort_kind_name fault.CaseTwice = codes "CaseTwice"
sort_kind_name fault.NotSmaller = codes "NotSmaller"
sort_kind_name fault.LaterCall = codes "LaterCall"
sort_kind_name fault.EmptySort = codes "EmptySort"
sort_kind_name fault.SettingRange = codes "SettingRange"

abbrev pub kind_name : FormKind → List ℕ
kind_name (form.Read kind) = read_kind_name kind
kind_name (form.Sort kind) = sort_kind_name kind
kind_name form.Certificate = codes "Certificate"

abbrev pub rule_name : Rule → List ℕ
rule_name rule.V1 = codes "V1"
rule_name rule.V2 = codes "V2"
rule_name rule.V3 = codes "V3"
rule_name rule.V4 = codes "V4"
rule_name rule.V5 = codes "V5"
rule_name rule.V6 = codes "V6"
rule_name rule.V7 = codes "V7"
rule_name rule.V8 = codes "V8"
rule_name rule.V9 = codes "V9"

abbrev pub which_name : Which → List ℕ
which_name which.Bytes = codes "Bytes"
which_name which.Assignments = codes "Assignments"
which_name which.Terms = codes "Terms"
which_name which.Value = codes "Value"

-- the one line that says why nothing else is printed; nothing where the status says it all
abbrev pub status_text : Status → List ℕ
status_text status.Done = []
status_text (status.Rejected broken entry) = codes "no " ++ (rule_name broken ++ (32 ∷ (decimal entry ++ 10 ∷ [])))
status_text status.Usage = codes "usage: lawfind plain | explore | check | laws | demo N" ++ 10 ∷ []
status_text (status.Form line kind) = codes "line " ++ (decimal line ++ (codes ": " ++ (kind_name kind ++ 10 ∷ [])))
status_text (status.Limit which) = codes "limit " ++ (which_name which ++ 10 ∷ [])
status_text (status.Over entry test term) =
    codes "over " ++ (decimal entry ++ (32 ∷ (decimal test ++ (32 ∷ (term_spelling term ++ 10 ∷ [])))))
status_text (status.BackgroundFails law test) = (codes "background " ++ decimal law) ++ (codes " fails at " ++ (decimal test ++ 10 ∷ []))
status_text status.ReadFault = []
status_text status.WriteFault = []
status_text status.NoMemory = []

-- whether a status is that of a text that was printed whole
abbrev pub IsPrinted : Status → Type 0
IsPrinted status.ReadFault = ⊥
IsPrinted status.WriteFault = ⊥
IsPrinted status.NoMemory = ⊥
IsPrinted other = Unit {0}

-- the number that the program ends with
abbrev pub code_of : Status → ℕ
code_of status.Done = 0
code_of (status.Rejected broken entry) = 1
code_of status.Usage = 2
code_of (status.Form line kind) = 3
code_of (status.Limit which) = 4
code_of (status.Over entry test term) = 5
code_of (status.BackgroundFails law test) = 6
code_of status.ReadFault = 7
code_of status.WriteFault = 8
code_of status.NoMemory = 9
