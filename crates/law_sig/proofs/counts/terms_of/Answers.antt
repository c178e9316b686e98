use Rattle.std.proofs.Common.{◌≡◌, ℕ, ◌<◌, ◌-◌, ◌^◌, List, length, nat_eq, if◌then◌else◌, map, slice_index_or, sym, ap, ◌∙◌, subst}
use Rattle.law_sig.specs.Signature.{symbol_at, vars_at}
use Rattle.law_sig.specs.Counts.{stopped, applications_of}
use Rattle.law_sig.specs.declared.tree.SortId.{SortId}
use Rattle.law_sig.specs.declared.tree.SymId.{SymId}
use Rattle.law_sig.specs.declared.parts.Settings.{Settings}
use Rattle.law_sig.specs.declared.parts.SigParts.{SigParts}
use Rattle.law_sig.proofs.TermCounts.{sum_more, map_at, map_length, same_at}
use Rattle.law_sig.proofs.counts.terms_of.Goals as goal

abbrev none : SymId
none = record { 0 = 0 }

abbrev applied_at : SigParts → List (List ℕ) → SortId → SymId → ℕ
applied_at parts rows sort f = applications_of parts rows (length rows) sort f (symbol_at parts f)

pub loop-sym-preserved : goal.loop-sym-preserved
loop-sym-preserved c =
    let explored = c.args.sig.now.settings.explored in
    let f : SymId = slice_index_or c.as_slice-sym-items.result.now c.loop-sym.sym-index none in
    let items : c.as_slice-sym-items.result.now ≡ explored = c.as_slice-sym-items.ensures ∙ ap (λ (s : Settings). s.explored) c.settings-settings.ensures.settings in
    let within : c.loop-sym.sym-index < length explored = subst (λ l. c.loop-sym.sym-index < length l) items c.loop-sym-test.true in
    let at : f ≡ slice_index_or explored c.loop-sym.sym-index f = ap (λ l. slice_index_or l c.loop-sym.sym-index none) items ∙ same_at explored c.loop-sym.sym-index none f within in
    sum_more (2 ^ 128 - 1) (if nat_eq (length c.args.rows.now) 1 then vars_at c.args.sig.now c.args.sort else 0) c.loop-sym.count c.in_ok-applications.field-0 c.saturating_add-count.result
    (map (applied_at c.args.sig.now c.args.rows.now c.args.sort) explored) c.loop-sym.sym-index
    (subst (λ n. c.loop-sym.sym-index < n) (sym (map_length (applied_at c.args.sig.now c.args.rows.now c.args.sort) explored)) within)
    c.loop-sym.invariant
    (c.in_ok-applications.ensures ∙ ap stopped (sym (map_at (applied_at c.args.sig.now c.args.rows.now c.args.sort) explored c.loop-sym.sym-index 0 f within at)))
    c.saturating_add-count.ensures
