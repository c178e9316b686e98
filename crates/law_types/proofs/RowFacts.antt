-- A table of constructors, row by row.
use Rattle.std.proofs.Common.{◌<◌, ℕ, List, sym, subst, ◌∙◌}
use Rattle.std.proofs.lemmas.Option.{slice_get_within}
use Rattle.law_sig.specs.Signature.{constructors_from}
use Rattle.law_sig.specs.declared.tree.SortId.{SortId}
use Rattle.law_sig.specs.declared.tree.SymId.{SymId}
use Rattle.law_laws.proofs.BodyFacts.{some_is}
use Rattle.law_types.specs.Rows.{AreRows, HasRows}
use Rattle.law_typing.specs.declared.whole.Whole.{Whole}

pub are_rows : (text : Whole) (count : ℕ) (rows : List (List SymId)) → HasRows text count rows → AreRows text rows
are_rows text count rows has sort row e =
    let id : SortId = record { 0 = sort } in
    let within : sort < count = subst (λ n. sort < n) has.one_each (slice_get_within rows sort row e) in
    some_is row (constructors_from 0 text.symbols id) (sym e ∙ has.row id within)
