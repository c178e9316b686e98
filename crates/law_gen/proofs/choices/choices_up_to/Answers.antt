use Rattle.std.proofs.Common.{◌≡◌, List, ℕ, suc, ◌+◌, ◌++◌, ◌∷◌, [], length, slice_index_or, ap, ◌∙◌, sym, ap₂, arith}
use Rattle.law_sig.specs.declared.parts.SigParts.{SigParts}
use Rattle.law_sig.specs.declared.tree.SymId.{SymId}
use Rattle.law_draws.specs.Draws.{choices}
use Rattle.law_draws.specs.Choices.{level_of, table_of}
use Rattle.law_draws.proofs.First.{first_more, length_first, first_at}
use Rattle.law_gen.proofs.choices.choices_up_to.Goals as goal

-- a level of a table, and the sorts that it has
level_at : (parts : SigParts) (below : ℕ) (table : List (List (List SymId))) (level : List (List SymId)) → table ≡ table_of parts below → level ≡ slice_index_or table below level
    → level ≡ level_of parts below
level_at parts below table level is at = at ∙ ap (λ l. slice_index_or l below level) is ∙ first_at (below + 1) (level_of parts) below level (omega arith)

level_length : (parts : SigParts) (below : ℕ) (level : List (List SymId)) → level ≡ level_of parts below → length level ≡ length parts.sort_names
level_length parts below level is = ap length is ∙ length_first (length parts.sort_names) (λ n. choices parts below (record { 0 = n }))

pub bounds-as_slice-below : goal.bounds-as_slice-below
bounds-as_slice-below c =
    let count : length c.as_slice.result.now ≡ c.loop-below.below + 1 =
    ap length (c.as_slice.ensures ∙ c.loop-below.invariant) ∙ length_first (c.loop-below.below + 1) (level_of c.args.sig.now) in
    omega arith

pub level_over-requires-clause-below : goal.level_over-requires-clause-below
level_over-requires-clause-below c = ap length c.as_slice-in-loop-below.ensures
    ∙ level_length c.args.sig.now c.loop-below.below c.index-as_slice-below.result
    (level_at c.args.sig.now c.loop-below.below c.as_slice.result.now c.index-as_slice-below.result (c.as_slice.ensures ∙ c.loop-below.invariant) c.index-as_slice-below.is)

pub loop-below-preserved : goal.loop-below-preserved
loop-below-preserved c =
    let below : c.as_slice-in-loop-below.result.now ≡ level_of c.args.sig.now c.loop-below.below = c.as_slice-in-loop-below.ensures
    ∙ level_at c.args.sig.now c.loop-below.below c.as_slice.result.now c.index-as_slice-below.result (c.as_slice.ensures ∙ c.loop-below.invariant) c.index-as_slice-below.is in
    let next : suc c.loop-below.below ≡ c.loop-below.below + 1 = omega arith in
    c.in_ok-push-2.ensures.ok ∙ ap₂ (λ l x. l ++ x ∷ []) c.loop-below.invariant (c.in_ok-level.ensures c.loop-below.below below ∙ ap (level_of c.args.sig.now) next)
    ∙ sym (first_more (c.loop-below.below + 1) (level_of c.args.sig.now))
